use Rattle.std.proofs.Common.{[], ap, sym, subst, None, leb-true}
use Rattle.std.proofs.lemmas.Bool.{and_parts}
use Rattle.craig_label.specs.Sides.{SidesView}
use Rattle.craig_top.specs.Sides.{AreSidesOf, parted}
use Rattle.craig_top.specs.Stored.{settings_of, stored_state}
use Rattle.craig_top.proofs.RisingCutsLemmas.{chosen-all}
use Rattle.craig_top.proofs.SidesLemmas.{AreSidesOf-none}
use Rattle.craig_top.proofs.stored.Stored.divide.Goals as goal

pub returns-clause-kept : goal.returns-clause-kept
returns-clause-kept c = record {
  together = record {
    stored = c.requires.kept.together.stored;
    sides_are = subst (λ clauses. AreSidesOf (parted clauses) c.new.result) (sym c.requires.none) (subst (AreSidesOf []) (sym c.new.ensures) (AreSidesOf-none c.args.count (leb-true 1 c.args.count (and_parts _ _ c.requires.count).0)));
    known = c.requires.kept.together.known;
  };
  chosen = chosen-all (c.new.result).parts;
  limited = c.requires.kept.limited;
  greatest = c.requires.kept.greatest;
}

pub returns-clause-state : goal.returns-clause-state
returns-clause-state c =
    ap (λ (s : SidesView). stored_state (settings_of s.parts (record { system = c.args.self.now.choices.system; marks = c.args.self.now.choices.marks; cuts = None; format = c.args.self.now.choices.format; limit = c.args.self.now.choices.limit })) c.args.self.now.names c.args.self.now.solver.accepted) c.new.ensures
