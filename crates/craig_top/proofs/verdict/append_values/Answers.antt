use Rattle.std.proofs.Common.{◌≡◌, ◌∙◌, ◌++◌, subst, List, map, refl, arith, length, ℕ, is_some}
use Rattle.std.proofs.Math.Seq.{take-append_seam}
use Rattle.std.proofs.lemmas.Result.{on_ok_weaker}
use Rattle.std.specs.List.Sorted.{IsPermutation}
use Rattle.craig_label.specs.Sides.{range_of}
use Rattle.craig_spec.specs.Literal.{Literal}
use Rattle.craig_top.specs.Naming.{named_clause, model_below}
use Rattle.craig_top.specs.ModelReply.{IsModelReply}
use Rattle.craig_search.specs.Verdict.{units}
use Rattle.craig_top.proofs.AssumptionLemmas.{over-assumed}
use Rattle.craig_top.proofs.ModelLemmas.{model_reply, named-occurs}
use Rattle.craig_top.proofs.SidesLemmas.{noted-occurs}
use Rattle.craig_top.proofs.ValueLemmas.{all_hold-from_model}
use Rattle.craig_top.proofs.verdict.append_values.Goals as goal

pub returns-clause-model : goal.returns-clause-model
returns-clause-model c =
    let names = c.args.names.now in
    let made : c.deref_mut.result.now ≡ model_below names c.in_ok-named.named.items c.args.values.now (length names) =
    c.deref_mut.ensures.value ∙ c.in_ok-literals.ensures ∙ (rw c.deref.ensures.value refl) in
    let permuted : IsPermutation (model_below names c.in_ok-named.named.items c.args.values.now (length names)) c.sort_by_variable.new.literals =
    subst (λ (ls : List Literal). IsPermutation ls c.sort_by_variable.new.literals) made c.sort_by_variable.ensures.permutation in
    let len : c.in_ok-literals.literals.len ≡ length c.sort_by_variable.new.literals = omega (arith, c.deref_mut.ensures.len, c.sort_by_variable.auto.literals) in
    let stays : c.deref-2.result.now ≡ c.sort_by_variable.new.literals = c.deref-2.ensures.value ∙ (rw len (take-append_seam _ _)) in
    on_ok_weaker c.append_model.result (λ put clauses sides over model.
    let bare = map (λ d. d.1) clauses in
    let all = bare ++ units c.args.assumptions.now in
    let named = named-occurs (length names) c.in_ok-named.named.items (λ (x : ℕ). is_some (range_of c.args.sides.now x)) bare (units c.args.assumptions.now) (rw c.len.ensures.value at c.in_ok-named.ensures.named) (noted-occurs clauses c.args.sides.now sides) in
    let reply : IsModelReply (map (named_clause names) all) c.sort_by_variable.new.literals =
    model_reply names c.in_ok-named.named.items c.args.values.now all
    c.len.ensures.are_names.distinct named (over-assumed (length names) bare c.args.assumptions.now over c.requires.assumed) c.sort_by_variable.new.literals permuted c.sort_by_variable.ensures.sorted
    (all_hold-from_model c.values_are_an_assignment.ensures c.args.values.now all model) in
    (c.deref-2.result.now, rw stays reply, put)) c.append_model.ensures.text
