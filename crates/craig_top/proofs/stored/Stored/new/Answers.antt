use Rattle.std.proofs.Common.{◌≡◌, ◌∙◌, [], List, ap, sym, subst, refl, arith}
use Rattle.craig_spec.specs.Cut.{AreChosenCuts}
use Rattle.craig_spec.specs.DimacsText.{greatest_of_clauses}
use Rattle.craig_spec.specs.Literal.{Clause}
use Rattle.craig_base.specs.declared.script_part.Part.{Part}
use Rattle.craig_solver.specs.Solver.{SolverView}
use Rattle.craig_top.specs.GivenState.{ScriptSettings}
use Rattle.craig_top.specs.Named.{bare_clauses}
use Rattle.craig_top.specs.Naming.{written}
use Rattle.craig_top.specs.Sides.{AreSidesOf, parted}
use Rattle.craig_top.specs.Stored.{HaveNames}
use Rattle.craig_top.proofs.RisingCutsLemmas.{chosen-all}
use Rattle.craig_top.proofs.SidesLemmas.{AreSidesOf-none}
use Rattle.craig_top.proofs.stored.Stored.new.Goals as goal

pub returns-clause-kept : goal.returns-clause-kept
returns-clause-kept c =
    let none : c.new-5.result.accepted ≡ [] = ap (λ (v : SolverView _). v.accepted) c.new-5.ensures in
    let unknown : c.new-5.result.vars ≡ 0 = ap (λ (v : SolverView _). v.vars) c.new-5.ensures in
    record {
      together = record {
        stored = subst (λ (cs : List (Part × Clause)). HaveNames c.new.result cs) (sym none) refl;
        sides_are = subst (λ (cs : List (Part × Clause)). AreSidesOf (parted cs) c.new-2.result) (sym none) (subst (AreSidesOf []) (sym c.new-2.ensures) (AreSidesOf-none c.args.parts c.requires.parts));
        known = omega (arith, unknown);
      };
      chosen = subst (λ (s : ScriptSettings). AreChosenCuts c.new-2.result.parts s.cuts) (sym (c.new-3.ensures c.new-2.result.parts)) (chosen-all c.new-2.result.parts);
      limited = λ e. c.requires.limit (sym (ap (λ (s : ScriptSettings). s.limit) (c.new-3.ensures c.new-2.result.parts)) ∙ e);
      greatest = ap (λ (cs : List (Part × Clause)). greatest_of_clauses (bare_clauses (written c.new.result cs))) (sym none);
    }
