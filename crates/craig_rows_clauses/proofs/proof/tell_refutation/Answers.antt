use Rattle.std.proofs.Common.{◌≡◌, [], ◌∷◌, refl, ◌∙◌, arith}
use Rattle.std.proofs.lemmas.Result.{on_ok_weaker}
use Rattle.craig_proof.specs.Tracer.{original_step}
use Rattle.craig_proof.proofs.AppendsLemmas.{before_step}
use Rattle.craig_proof.proofs.CallerLemmas.{greatest_is, three_steps, ChainOk-units, IsUnforgotten-units, IsUnforgotten-last, IsUnforgotten-told, is_some-told}
use Rattle.craig_rows_clauses.proofs.RefutationLemmas.{four_steps}
use Rattle.craig_rows_clauses.proofs.proof.tell_refutation.Goals as goal

pub original-requires-2-clause-above : goal.original-requires-2-clause-above
original-requires-2-clause-above g c = λ x is k h.
    let b = before_step _ _ _ x c.in_ok-original.ensures.told is in
    let e : k ≡ 0 = greatest_is b.0 _ x k b.2 h in
    omega arith

pub original-requires-3-clause-above : goal.original-requires-3-clause-above
original-requires-3-clause-above g c = λ x is k h.
    let b = before_step _ _ _ x c.in_ok-original-2.ensures.told is in
    let e : k ≡ 1 = greatest_is b.0 _ x k b.2 h in
    omega arith

pub derived-requires-clause-above : goal.derived-requires-clause-above
derived-requires-clause-above g c = λ x is k h.
    let b = before_step _ _ _ x c.in_ok-original-3.ensures.told is in
    let e : k ≡ 2 = greatest_is b.0 _ x k b.2 h in
    omega arith

pub derived-requires-clause-unforgotten : goal.derived-requires-clause-unforgotten
derived-requires-clause-unforgotten g c = λ x is.
    let two = before_step _ _ _ x c.in_ok-original-3.ensures.told is in
    let one = before_step _ _ _ two.0 c.in_ok-original-2.ensures.told two.1 in
    let zero = before_step _ _ _ one.0 c.in_ok-original.ensures.told one.1 in
    let steps = three_steps zero.0 one.0 two.0 x _ _ _ (c.requires zero.0 zero.1) zero.2 one.2 two.2 in
    rw steps (IsUnforgotten-units (c.new-v0.result ∷ []) (c.not.result ∷ []) 1 2 (original_step 2 1 (c.new-v5.result ∷ []) ∷ []))

pub derived-requires-clause-chain : goal.derived-requires-clause-chain
derived-requires-clause-chain g c = λ x is.
    let two = before_step _ _ _ x c.in_ok-original-3.ensures.told is in
    let one = before_step _ _ _ two.0 c.in_ok-original-2.ensures.told two.1 in
    let zero = before_step _ _ _ one.0 c.in_ok-original.ensures.told one.1 in
    let steps = three_steps zero.0 one.0 two.0 x _ _ _ (c.requires zero.0 zero.1) zero.2 one.2 two.2 in
    rw steps (ChainOk-units c.new-v0.result c.not.result 1 2 (original_step 2 1 (c.new-v5.result ∷ []) ∷ []) c.not.ensures)

pub returns : goal.returns
returns g c = record {
  told = on_ok_weaker c.derived.result (λ told t is.
      IsUnforgotten-last _ _ _ told (c.in_ok-original-3.ensures.tells ∙ c.in_ok-original-2.ensures.tells ∙ c.in_ok-original.ensures.tells ∙ is_some-told _ t is) refl) c.derived.ensures.told;
  unforgotten = on_ok_weaker c.derived.result (λ told u is. IsUnforgotten-told _ _ _ u told is refl) c.derived.ensures.told;
  steps = on_ok_weaker c.derived.result (λ told u is.
      let three = before_step _ _ _ u told is in
      let two = before_step _ _ _ three.0 c.in_ok-original-3.ensures.told three.1 in
      let one = before_step _ _ _ two.0 c.in_ok-original-2.ensures.told two.1 in
      let zero = before_step _ _ _ one.0 c.in_ok-original.ensures.told one.1 in
      let steps = three_steps zero.0 one.0 two.0 three.0 _ _ _ (c.requires zero.0 zero.1) zero.2 one.2 two.2 in
      (c.new-v0.result ∷ [], c.not.result ∷ [], c.new-v5.result ∷ [], c.new-v0.result, four_steps three.0 u _ _ _ _ steps three.2)) c.derived.ensures.told;
}
