use Rattle.std.proofs.Common.{◌≡◌, length, map, take}
use Rattle.craig_top.specs.GivenState.{script_literal}
use Rattle.craig_top.specs.Growth.{NamesGrow}
use Rattle.craig_top.specs.Naming.{named_clause}
use Rattle.craig_top.specs.Values.{IsOver}
use Rattle.craig_top.proofs.clause.dense_clause.Given as goal

-- the literals so far are those of the clause, under names that only grew
abbrev pub invariant-loop-literal : goal.invariant-loop-literal
invariant-loop-literal l = record {
  grows : NamesGrow l.fn.names l.names;
  clause : named_clause l.names l.clause ≡ map script_literal (take l.literal-index l.literals);
  over : IsOver (length l.names) l.clause;
}
