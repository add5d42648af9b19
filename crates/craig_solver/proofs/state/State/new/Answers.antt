use Rattle.std.proofs.Common.{rules}
use Rattle.craig_solver.proofs.EmptyLemmas.{originals-nothing, rests-nothing, units-nothing}
use Rattle.craig_solver.proofs.state.State.new.Goals as goal

pub returns-clause-state : goal.returns-clause-state
returns-clause-state g c =
    record {
      begins = search rules;
      consistent = search rules;
      held_alive = search rules;
      order_alive = search rules;
      clauses = search rules;
      ids = search rules;
      originals = rw c.new.ensures.items (originals-nothing _ c.requires.nothing);
      rests = rw c.new.ensures.items (rests-nothing c.new-2.result _ c.new-2.ensures c.requires.nothing);
      all_told = search rules;
      root_of = search rules;
      units_of = units-nothing _ c.new-2.result;
    }
