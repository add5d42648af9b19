use Rattle.std.proofs.Common.{◌≡◌, ◌≤◌, ◌∙◌, List, [], Some, ap, refl, subst, sym}
use Rattle.craig_spec.specs.Cut.{AreChosenCuts}
use Rattle.craig_spec.specs.Chain.{IsTold, clause_told}
use Rattle.craig_spec.specs.Literal.{Clause}
use Rattle.craig_base.specs.declared.script_part.Part.{Part}
use Rattle.craig_proof.specs.ChainStore.{ChainStoreView}
use Rattle.craig_top.specs.RestsOn.{RestsOn}
use Rattle.craig_top.specs.Sides.{AreSidesOf, parted, with_assumed}
use Rattle.craig_top.specs.Naming.{named_assumptions}
use Rattle.craig_top.specs.Formats.{greatest_named}
use Rattle.craig_top.specs.Stored.{HaveNames, given_state, settings_of, stored_state}
use Rattle.craig_top.proofs.PutBackLemmas.{AreSidesOf-back}
use Rattle.craig_top.proofs.StoredLemmas.{HaveNames-assumed}
use Rattle.craig_top.proofs.VerdictLemmas.{empty-told, refuted-stored}
use Rattle.craig_top.proofs.stored.Stored.refute.Goals as goal

pub append_refutation-requires-clause-material : goal.append_refutation-requires-clause-material
append_refutation-requires-clause-material c =
    let names = c.args.self.now.names in
    let failed = c.args.failed.now in
    let sides = c.note_assumptions.new.sides in
    let same : c.accepted.result.now ≡ c.args.self.now.solver.accepted = c.accepted.ensures.value in
    record {
      names = c.len.ensures.are_names;
      stored = subst (λ clauses. HaveNames names (with_assumed clauses failed)) (sym same) (HaveNames-assumed names c.args.self.now.solver.accepted failed c.requires.kept.together.stored c.requires.over);
      sides_are = subst (λ clauses. AreSidesOf (parted (with_assumed clauses failed)) sides) (sym same) (c.in_ok-before.ensures.noted c.args.self.now.solver.accepted c.requires.kept.together.sides_are);
      told = rw (c.accepted.ensures.value, c.tracer.ensures.value) (c.tracer.ensures.told c.requires.alive _ refl);
      parts = refl;
      chosen = subst (λ n. AreChosenCuts n (settings_of n c.args.self.now.choices).cuts) (sym c.note_assumptions.ensures.parts) c.requires.kept.chosen;
      top = subst (λ (clauses : List (Part × Clause)). greatest_named (stored_state (settings_of sides.parts c.args.self.now.choices) names clauses) (named_assumptions names failed) ≤ c.args.top) (sym same) c.requires.top;
    }

pub append_refutation-requires-clause-empty : goal.append_refutation-requires-clause-empty
append_refutation-requires-clause-empty c =
    let told : IsTold c.args.self.now.solver.tracer.told = (c.tracer.ensures.told c.requires.alive _ refl).stand in
    subst (λ (s : ChainStoreView). clause_told s.told.steps c.args.root.0 ≡ Some []) (sym c.tracer.ensures.value) (empty-told c.steps_are_found.ensures.found c.args.self.now.solver.tracer.told c.args.root.0 told c.requires.empty)

pub append_refutation-requires-clause-rests : goal.append_refutation-requires-clause-rests
append_refutation-requires-clause-rests c =
    subst (λ (s : ChainStoreView). RestsOn (with_assumed c.accepted.result.now c.args.failed.now) s.told c.args.root.0) (sym c.tracer.ensures.value)
    (subst (λ (clauses : List (Part × Clause)). RestsOn (with_assumed clauses c.args.failed.now) c.args.self.now.solver.tracer.told c.args.root.0) (sym c.accepted.ensures.value) c.requires.rests)

pub returns-clause-kept : goal.returns-clause-kept
returns-clause-kept c =
    let same : c.put_back.new.sides.parts ≡ c.args.self.now.sides.parts = c.put_back.ensures.parts ∙ c.note_assumptions.ensures.parts in
    record {
      together = record {
        stored = c.requires.kept.together.stored;
        sides_are = AreSidesOf-back (parted c.args.self.now.solver.accepted) c.args.self.now.sides c.put_back.new.sides (c.in_ok-put_back.ensures.back c.args.self.now.sides c.in_ok-before.ensures.back) c.put_back.ensures.is_sides c.requires.kept.together.sides_are;
        known = c.requires.kept.together.known;
      };
      chosen = subst (λ n. AreChosenCuts n (settings_of n c.args.self.now.choices).cuts) (sym same) c.requires.kept.chosen;
      limited = c.requires.kept.limited;
      greatest = c.requires.kept.greatest;
    }

pub returns-clause-reply : goal.returns-clause-reply
returns-clause-reply c =
    refuted-stored (given_state c.args.self.now) (settings_of c.args.self.now.sides.parts c.args.self.now.choices) (settings_of c.note_assumptions.new.sides.parts c.args.self.now.choices) c.args.self.now.names
    c.tracer.result.now.told.steps c.args.self.now.solver.tracer.told.steps c.args.root.0 (named_assumptions c.args.self.now.names c.args.failed.now) c.args.self.now.solver.accepted c.accepted.result.now
    c.args.out.now.items c.append_refutation.new.out.items c.args.top refl c.accepted.ensures.value (ap (λ n. settings_of n c.args.self.now.choices) c.note_assumptions.ensures.parts)
    (ap (λ (s : ChainStoreView). s.told.steps) c.tracer.ensures.value) c.in_ok-append_refutation.ensures.reply
