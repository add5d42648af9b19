use Rattle.std.proofs.Common.{◌∙◌, ℕ, refl, false, ◌++◌, codes, length, map, Some}
use Rattle.std.proofs.lemmas.List.{get_or-map}
use Rattle.craig_spec.specs.Chain.{Told, IsTold}
use Rattle.craig_spec.specs.PartialInterpolant.{Label}
use Rattle.craig_spec.specs.Truth.{Assignment, variable_value}
use Rattle.craig_aiger.specs.Layouts.{dense_assignment}
use Rattle.craig_top.specs.Blocks.{lined_bytes}
use Rattle.craig_top.specs.Formats.{ReadsBack, format_of}
use Rattle.craig_top.specs.Material.{view_of}
use Rattle.craig_top.specs.ReplyTexts.{failed_text}
use Rattle.craig_top.specs.Sides.{parted, with_assumed}
use Rattle.craig_top.specs.StoredReplies.{IsRootReply}
use Rattle.craig_top.proofs.DenseLemmas.{Agrees}
use Rattle.craig_top.proofs.DrawnLemmas.{IsRefutingPart}
use Rattle.craig_top.proofs.NamedChainLemmas.{AreDifferent-from_IsDistinct}
use Rattle.craig_top.proofs.NotedLemmas.{AreOriginalsOf-rests, are_noted, have_parts, shared_named}
use Rattle.craig_top.proofs.RefutationLemmas.{cut_values, inputs-within, over_failed, over_parted, refutation-appended, refutation_reply}
use Rattle.craig_top.proofs.ReplyLemmas.{appended-two}
use Rattle.craig_top.proofs.SequenceLemmas.{HasCutValues}
use Rattle.craig_top.proofs.refutation.append_refutation.Goals as goal

pub cut_circuit-requires-clause-noted : goal.cut_circuit-requires-clause-noted
cut_circuit-requires-clause-noted c =
    let clauses = with_assumed c.args.material.now.clauses.now c.args.material.now.failed.now in
    are_noted (parted clauses) c.args.material.now.sides.now c.requires.material.sides_are c.args.material.now.store.now.told.steps c.args.root.0 (AreOriginalsOf-rests clauses c.args.material.now.store.now.told c.args.root.0 c.requires.rests)

pub cut_circuit-requires-clause-named : goal.cut_circuit-requires-clause-named
cut_circuit-requires-clause-named c =
    let clauses = with_assumed c.args.material.now.clauses.now c.args.material.now.failed.now in
    shared_named (parted clauses) c.args.material.now.sides.now c.requires.material.sides_are _ (over_parted c.args.material.now.names.now clauses c.requires.material.stored)

pub named_literals-requires : goal.named_literals-requires
named_literals-requires c = over_failed (length c.args.material.now.names.now) c.args.material.now.clauses.now c.args.material.now.failed.now c.requires.material.stored

pub append_interpolants-requires : goal.append_interpolants-requires
append_interpolants-requires c =
    let told = c.requires.material.told.stand in
    let t = c.args.material.now.store.now.told in
    let names = c.args.material.now.names.now in
    let root = c.args.root.0 in
    let clauses = with_assumed c.args.material.now.clauses.now c.args.material.now.failed.now in
    let originals = AreOriginalsOf-rests clauses t root c.requires.rests in
    let needed = c.told_clauses_follow.ensures.needed t told root in
    let u : Told = record { greatest = Some root; steps = needed.0 } in
    let part_told : IsTold u = c.needed_part_stands.ensures.told t u root told needed.1 refl in
    let refuting : IsRefutingPart t root needed.0 = record {
      told = part_told;
      from = λ s here. (let found = c.needed_part_stands.ensures.steps t.steps needed.0 root s needed.1 here in (found.0, found.1, found.2, found.3));
      ends = c.needed_part_stands.ensures.root t needed.0 root told c.requires.root needed.1;
      clause = c.needed_part_stands.ensures.clause t.steps needed.0 root root needed.1 (λ p has closed. has) ∙ c.requires.empty;
      found = λ s here. c.steps_are_found.ensures.found u s part_told here;
      values = λ l s. c.partial_values_of_the_needed_part.ensures l s t told root needed.0 needed.1 root (λ p has closed. has);
    } in
    let values : (marks : ℕ → Label) → HasCutValues c.args.material.now.sides.now marks t.steps root =
    cut_values c.outputs_of_a_refutation.ensures c.args.material.now.sides.now c.requires.material.sides_are.is_sides t root (record { told = told; empty = c.requires.empty })
    (have_parts (parted clauses) c.args.material.now.sides.now c.requires.material.sides_are t.steps root originals) in
    let agrees : (s : Assignment) → Agrees c.args.material.now.names.now (dense_assignment c.args.material.now.names.now s) s =
    λ s x below. c.bits_are_an_assignment.ensures (map (variable_value s) c.args.material.now.names.now) x ∙ get_or-map (variable_value s) c.args.material.now.names.now x 0 false below in
    let layout = c.in_ok-circuit.circuit in
    let laid = c.in_ok-circuit.ensures.cuts in
    let m = view_of c.args.material.now in
    inputs-within names (AreDifferent-from_IsDistinct names c.requires.material.names.distinct) c.args.material.now.clauses.now c.args.material.now.failed.now c.requires.material.stored c.args.material.now.sides.now c.requires.material.sides_are t told root c.requires.rests needed.0 refuting c.requires.empty
    values c.marks_by_strength.ensures agrees m.settings.cuts c.requires.material.chosen m.settings.system m.settings.marks laid.label laid.marks layout laid.laid m.settings m.top c.in_ok-circuit.ensures.circuit c.requires.material.top

pub returns-clause-reply : goal.returns-clause-reply
returns-clause-reply c =
    let told = c.requires.material.told.stand in
    let t = c.args.material.now.store.now.told in
    let names = c.args.material.now.names.now in
    let root = c.args.root.0 in
    let clauses = with_assumed c.args.material.now.clauses.now c.args.material.now.failed.now in
    let originals = AreOriginalsOf-rests clauses t root c.requires.rests in
    let needed = c.told_clauses_follow.ensures.needed t told root in
    let u : Told = record { greatest = Some root; steps = needed.0 } in
    let part_told : IsTold u = c.needed_part_stands.ensures.told t u root told needed.1 refl in
    let refuting : IsRefutingPart t root needed.0 = record {
      told = part_told;
      from = λ s here. (let found = c.needed_part_stands.ensures.steps t.steps needed.0 root s needed.1 here in (found.0, found.1, found.2, found.3));
      ends = c.needed_part_stands.ensures.root t needed.0 root told c.requires.root needed.1;
      clause = c.needed_part_stands.ensures.clause t.steps needed.0 root root needed.1 (λ p has closed. has) ∙ c.requires.empty;
      found = λ s here. c.steps_are_found.ensures.found u s part_told here;
      values = λ l s. c.partial_values_of_the_needed_part.ensures l s t told root needed.0 needed.1 root (λ p has closed. has);
    } in
    let values : (marks : ℕ → Label) → HasCutValues c.args.material.now.sides.now marks t.steps root =
    cut_values c.outputs_of_a_refutation.ensures c.args.material.now.sides.now c.requires.material.sides_are.is_sides t root (record { told = told; empty = c.requires.empty })
    (have_parts (parted clauses) c.args.material.now.sides.now c.requires.material.sides_are t.steps root originals) in
    let agrees : (s : Assignment) → Agrees c.args.material.now.names.now (dense_assignment c.args.material.now.names.now s) s =
    λ s x below. c.bits_are_an_assignment.ensures (map (variable_value s) c.args.material.now.names.now) x ∙ get_or-map (variable_value s) c.args.material.now.names.now x 0 false below in
    let layout = c.in_ok-circuit.circuit in
    let laid = c.in_ok-circuit.ensures.cuts in
    let m = view_of c.args.material.now in
    let printed = c.deref.result.now in
    let format = format_of m.settings.format m.top in
    refutation-appended c.append_interpolants.result (ReadsBack format layout) (IsRootReply m root) (failed_text printed ++ lined_bytes (codes "a") (format.write layout)) _ _
    (refutation_reply names (AreDifferent-from_IsDistinct names c.requires.material.names.distinct) c.args.material.now.clauses.now c.args.material.now.failed.now c.requires.material.stored c.args.material.now.sides.now c.requires.material.sides_are t told root c.requires.rests needed.0 refuting c.requires.empty
    values c.marks_by_strength.ensures agrees m.settings.cuts c.requires.material.chosen m.settings.system m.settings.marks laid.label laid.marks layout laid.laid m.settings.format m.settings.limit m.top needed.1 c.in_ok-circuit.ensures.strict printed (c.deref.ensures.value ∙ c.in_ok-failed.ensures))
    c.append_interpolants.ensures.reads_back (appended-two c.append_interpolants.result (failed_text printed) (lined_bytes (codes "a") (format.write layout)) _ _ _ c.in_ok-append_unsatisfiable.ensures.text c.append_interpolants.ensures.text)
