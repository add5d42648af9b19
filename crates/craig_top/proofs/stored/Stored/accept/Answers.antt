use Rattle.std.proofs.Common.{◌≡◌, ◌∙◌, sym, ap, subst, refl, max, map, [], ◌∷◌, arith}
use Rattle.std.proofs.lemmas.List.{map-append}
use Rattle.craig_script.specs.declared.command.Command.TheVariants as command
use Rattle.craig_spec.specs.Cut.{AreChosenCuts, PartClause}
use Rattle.craig_spec.specs.DimacsText.{greatest_of_clause, greatest_of_clauses}
use Rattle.craig_top.specs.GivenState.{State, obeyed, script_literal}
use Rattle.craig_top.specs.Named.{bare_clauses}
use Rattle.craig_solver.specs.Solver.{SolverView}
use Rattle.craig_top.specs.Stored.{given_state, settings_of, stored_state}
use Rattle.craig_top.proofs.FormatLemmas.{greatest-push}
use Rattle.craig_top.proofs.ResultLemmas.{after_error}
use Rattle.craig_top.proofs.StoredLemmas.{AreStoredTogether-added, stored_state-grown, stored_state-push}
use Rattle.craig_top.proofs.stored.Stored.accept.Goals as goal

pub returns-clause-kept : goal.returns-clause-kept
returns-clause-kept c = record {
  together = AreStoredTogether-added c.args.self.now.names c.dense_clause.new.names c.args.self.now.sides c.note_clause.new.sides c.args.self.now.solver.accepted c.add.new.self.accepted _ c.in_ok-clause.clause c.args.self.now.solver.vars c.add.new.self.vars
      c.requires.kept.together c.in_ok-clause.ensures.grows c.in_ok-clause.ensures.over (rw (← c.as_slice-dense.ensures) c.in_ok-note_clause.ensures.noted) c.note_clause.ensures.is_sides c.requires.part
      (c.in_ok-add.ensures.added.accepted ∙ rw (c.in_ok-reach.ensures.accepted, c.as_slice-dense.ensures) refl) (c.in_ok-add.ensures.vars ∙ ap (λ (v : SolverView _). v.vars) c.in_ok-reach.ensures.reached ∙ ap (max c.args.self.now.solver.vars) c.len.ensures.value);
  chosen = subst (λ n. AreChosenCuts n (settings_of n c.args.self.now.choices).cuts) (sym c.note_clause.ensures.parts) c.requires.kept.chosen;
  limited = c.requires.kept.limited;
  greatest =
      let state : stored_state (settings_of c.note_clause.new.sides.parts c.args.self.now.choices) c.dense_clause.new.names c.add.new.self.accepted ≡ obeyed (given_state c.args.self.now) (command.Add c.args.part c.args.literals.now) =
      stored_state-push (settings_of c.args.self.now.sides.parts c.args.self.now.choices) (settings_of c.note_clause.new.sides.parts c.args.self.now.choices) c.args.self.now.names c.dense_clause.new.names c.args.self.now.solver.accepted c.add.new.self.accepted _ c.in_ok-clause.clause c.args.literals.now (ap (λ n. settings_of n c.args.self.now.choices) c.note_clause.ensures.parts) c.in_ok-clause.ensures.grows c.requires.kept.together.stored
      (c.in_ok-add.ensures.added.accepted ∙ rw (c.in_ok-reach.ensures.accepted, c.as_slice-dense.ensures) refl) c.in_ok-clause.ensures.clause in
      let more : c.max-self.result ≡ max (greatest_of_clauses (bare_clauses (given_state c.args.self.now).accepted)) (greatest_of_clause (map script_literal c.args.literals.now)) =
      omega (arith, c.max-self.ensures, c.requires.kept.greatest, c.greatest_variable.ensures) in
      more ∙ sym (greatest-push (bare_clauses (given_state c.args.self.now).accepted) (map script_literal c.args.literals.now))
      ∙ sym (ap greatest_of_clauses (map-append (λ (a : PartClause). a.clause) (given_state c.args.self.now).accepted (record { part = c.args.part; clause = map script_literal c.args.literals.now } ∷ [])))
      ∙ ap (λ (s : State). greatest_of_clauses (bare_clauses s.accepted)) (sym state);
}

pub returns-clause-state : goal.returns-clause-state
returns-clause-state c =
    stored_state-push (settings_of c.args.self.now.sides.parts c.args.self.now.choices) (settings_of c.note_clause.new.sides.parts c.args.self.now.choices) c.args.self.now.names c.dense_clause.new.names c.args.self.now.solver.accepted c.add.new.self.accepted _ c.in_ok-clause.clause c.args.literals.now (ap (λ n. settings_of n c.args.self.now.choices) c.note_clause.ensures.parts) c.in_ok-clause.ensures.grows c.requires.kept.together.stored
    (c.in_ok-add.ensures.added.accepted ∙ rw (c.in_ok-reach.ensures.accepted, c.as_slice-dense.ensures) refl) c.in_ok-clause.ensures.clause

pub returns-in_err-clause-clause-unchanged : goal.returns-in_err-clause-clause-unchanged
returns-in_err-clause-clause-unchanged c = after_error _ _ (stored_state-grown (settings_of c.args.self.now.sides.parts c.args.self.now.choices) (settings_of c.args.self.now.sides.parts c.args.self.now.choices) c.args.self.now.names c.dense_clause.new.names c.args.self.now.solver.accepted _ refl c.in_err-clause.ensures.grows c.requires.kept.together.stored refl)

pub returns-in_err-reach-clause-unchanged : goal.returns-in_err-reach-clause-unchanged
returns-in_err-reach-clause-unchanged c = after_error _ _ (stored_state-grown (settings_of c.args.self.now.sides.parts c.args.self.now.choices) (settings_of c.args.self.now.sides.parts c.args.self.now.choices) c.args.self.now.names c.dense_clause.new.names c.args.self.now.solver.accepted _ refl c.in_ok-clause.ensures.grows c.requires.kept.together.stored c.reach.ensures.accepted)

pub returns-in_err-note_clause-clause-unchanged : goal.returns-in_err-note_clause-clause-unchanged
returns-in_err-note_clause-clause-unchanged c = after_error _ _ (stored_state-grown (settings_of c.args.self.now.sides.parts c.args.self.now.choices) (settings_of c.note_clause.new.sides.parts c.args.self.now.choices) c.args.self.now.names c.dense_clause.new.names c.args.self.now.solver.accepted _ (ap (λ n. settings_of n c.args.self.now.choices) c.note_clause.ensures.parts) c.in_ok-clause.ensures.grows c.requires.kept.together.stored c.reach.ensures.accepted)

pub returns-in_err-add-clause-unchanged : goal.returns-in_err-add-clause-unchanged
returns-in_err-add-clause-unchanged c =
    after_error _ _
    (stored_state-grown (settings_of c.args.self.now.sides.parts c.args.self.now.choices) (settings_of c.note_clause.new.sides.parts c.args.self.now.choices) c.args.self.now.names c.dense_clause.new.names c.args.self.now.solver.accepted _ (ap (λ n. settings_of n c.args.self.now.choices) c.note_clause.ensures.parts) c.in_ok-clause.ensures.grows c.requires.kept.together.stored (c.in_err-add.ensures.unchanged ∙ c.reach.ensures.accepted))

pub overflow_cast-part : goal.overflow_cast-part
overflow_cast-part c = omega (arith, c.requires.part, c.parts.ensures.value)
