use Rattle.std.proofs.Common.{◌≡◌, length, take}
use Rattle.craig_top.specs.Growth.{NamesGrow}
use Rattle.craig_top.specs.Naming.{named_assumptions}
use Rattle.craig_top.specs.Reply.{assumptions_of}
use Rattle.craig_top.specs.Values.{IsOver}
use Rattle.craig_top.proofs.AssumptionLemmas.{literals}
use Rattle.craig_top.proofs.assumptions.dense_assumptions.Given as goal

-- the assumptions so far are those of the pairs, under names that only grew
abbrev pub invariant-loop-pair : goal.invariant-loop-pair
invariant-loop-pair l = record {
  grows : NamesGrow l.fn.names l.names;
  assumptions : named_assumptions l.names l.assumptions.items ≡ assumptions_of (take l.pair-index l.pairs);
  over : IsOver (length l.names) (literals l.assumptions.items);
}
