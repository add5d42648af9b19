use Rattle.std.proofs.Common.{◌≡◌, ℕ, ◌<◌, length, take, List, sym, ◌∙◌, ap, subst, arith}
use Rattle.std.specs.Option.{option_copied}
use Rattle.std.proofs.lemmas.Bool.Decides.{nat_tests}
use Rattle.std.proofs.lemmas.List.Elements.{All-push}
use Rattle.std.proofs.lemmas.List.{length-set, length-take-le, take_more_set}
use Rattle.craig_spec.specs.AigerReading.{number_in}
use Rattle.craig_aiger_read.specs.Cuts.{pieces_behind}
use Rattle.craig_aiger_read.proofs.CutLemmas.{slice_split-cut}
use Rattle.craig_aiger_read.proofs.NumberLemmas.{NumbersSoFar, so_far-more, so_far-many, so_far-wrong}
use Rattle.craig_aiger_read.proofs.line_numbers.numbers_of.Goals as goal

pub bounds-values-count : goal.bounds-values-count
bounds-values-count c = grind (arith, nat_tests, c.loop-rest.invariant.0)

pub offset_bounds-values-count : goal.offset_bounds-values-count
offset_bounds-values-count c = omega (arith, c.loop-rest.invariant.0)

pub overflow_add-count : goal.overflow_add-count
overflow_add-count c = omega (arith, c.loop-rest.invariant.0)

pub loop-rest-smaller : goal.loop-rest-smaller
loop-rest-smaller c = omega (arith, c.loop-rest.invariant.0)

pub returns-then-count-eq-MOST : goal.returns-then-count-eq-MOST
returns-then-count-eq-MOST c =
    let P : List (List ℕ) → Type 0 = λ z. NumbersSoFar c.args.line.now (take c.loop-rest.count c.loop-rest.values) z in
    let left = ap (λ z. pieces_behind 32 (option_copied z)) c.in-Some.is ∙ slice_split-cut 32 c.in-Some.words.now in
    let nine : length (take c.loop-rest.count c.loop-rest.values) ≡ 9 = length-take-le c.loop-rest.count c.loop-rest.values (omega (arith, c.loop-rest.invariant.0, c.loop-rest.invariant.1)) ∙ grind (arith, nat_tests) in
    so_far-many _ _ _ _ (subst P left c.loop-rest.invariant.2) nine

pub returns-in_err-values : goal.returns-in_err-values
returns-in_err-values c =
    let P : List (List ℕ) → Type 0 = λ z. NumbersSoFar c.args.line.now (take c.loop-rest.count c.loop-rest.values) z in
    let left = ap (λ z. pieces_behind 32 (option_copied z)) c.in-Some.is ∙ slice_split-cut 32 c.in-Some.words.now in
    c.from_residual.ensures ∙ so_far-wrong _ _ _ _ (subst P left c.loop-rest.invariant.2) (ap number_in (sym c.cut_at.ensures.front) ∙ sym c.number_of.ensures.value ∙ c.in_err-values.was)

pub loop-rest-preserved : goal.loop-rest-preserved
loop-rest-preserved c =
    let P : List (List ℕ) → Type 0 = λ z. NumbersSoFar c.args.line.now (take c.loop-rest.count c.loop-rest.values) z in
    let left = ap (λ z. pieces_behind 32 (option_copied z)) c.in-Some.is ∙ slice_split-cut 32 c.in-Some.words.now in
    let inside : c.loop-rest.count < length c.loop-rest.values = grind (arith, nat_tests, c.loop-rest.invariant.0, c.loop-rest.invariant.1) in (
      omega (arith, inside, c.loop-rest.invariant.1),
      length-set c.loop-rest.values c.loop-rest.count c.in_ok-values.field-0 ∙ c.loop-rest.invariant.1,
      rw (take_more_set c.loop-rest.values c.loop-rest.count c.in_ok-values.field-0 inside, c.cut_at.ensures.behind)
          (so_far-more _ _ _ _ c.in_ok-values.field-0 (subst P left c.loop-rest.invariant.2) (ap number_in (sym c.cut_at.ensures.front) ∙ sym c.number_of.ensures.value ∙ c.in_ok-values.was)),
      rw (take_more_set c.loop-rest.values c.loop-rest.count c.in_ok-values.field-0 inside)
          (All-push (λ x. x < 1000000000000000000) (take c.loop-rest.count c.loop-rest.values) c.in_ok-values.field-0 c.loop-rest.invariant.3 c.in_ok-values.ensures.bound),
    )

pub invariant_of-result : goal.invariant_of-result
invariant_of-result c = (c.loop-rest.invariant.0, c.loop-rest.invariant.3)
