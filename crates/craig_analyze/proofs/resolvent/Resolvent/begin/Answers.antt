use Rattle.std.proofs.Common.{◌≡◌}
use Rattle.std.proofs.lemmas.Result.{on_ok_weaker}
use Rattle.craig_analyze.specs.Resolvent.{view_of}
use Rattle.craig_analyze.proofs.HeldClauseLemmas.{held-live, falsified-assigned, nothing, HasBegun-met}
use Rattle.craig_analyze.proofs.resolvent.Resolvent.begin.Goals as goal

pub meet-requires : goal.meet-requires
meet-requires c = record {
  live = (held-live c.args.held.now.arena c.args.conflict.0 c.requires.0 c.requires.1).0;
  assigned = falsified-assigned c.args.held.now c.args.conflict.0 c.requires;
}

pub returns-clause-begun : goal.returns-clause-begun
returns-clause-begun c =
    let empty : record { marked = c.clear.new.self; pending = _; lower = c.clear-3.new.self.items } ≡ nothing = λ i. record { marked = c.clear.ensures i; pending = c.clear-2.ensures.items i; lower = c.clear-3.ensures.items i } in
    on_ok_weaker c.meet.result (HasBegun-met c.args.held.now c.args.conflict.0 _ (view_of c.meet.new.self) c.requires empty) c.meet.ensures.met
