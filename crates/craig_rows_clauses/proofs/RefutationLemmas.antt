-- The small refutation, of which the originals are forgotten.
use Rattle.std.proofs.Common.{◌≡◌, ◌≢◌, ℕ, Bool, map, zero, suc, ◌<◌, ◌||◌, ◌&&◌, true, false, not, eqb, eqb-true, List, [], ◌∷◌, ◌++◌, Contains, Option, Some, refl, sym, ap, subst, ◌∙◌, arith}
use Rattle.craig_spec.specs.Literal.{Clause, Literal}
use Rattle.craig_spec.specs.Chain.{IsUnforgotten, Told, ToldStep, antecedents, forgotten_at, with_step, without_id}
use Rattle.craig_spec.specs.Needed.{IsClosed, Reclaims}
use Rattle.craig_proof.proofs.CoversLemmas.{IsUnforgotten-reclaimed}
use Rattle.craig_proof.specs.ChainStore.{HasDerived}
use Rattle.craig_proof.specs.Reclaiming.{AreAllInUse}
use Rattle.craig_proof.specs.Tracer.{derived_step, original_step}
use Rattle.craig_rows_clauses.specs.Proof.{AreRefutationSteps}

-- the steps after four, from those after three
pub four_steps : (t u : Told) (s0 s1 s2 s3 : ToldStep) → t.steps ≡ s0 ∷ s1 ∷ s2 ∷ [] → u ≡ with_step t s3 → u.steps ≡ s0 ∷ s1 ∷ s2 ∷ s3 ∷ []
four_steps t u s0 s1 s2 s3 steps is = ap (λ (v : Told). v.steps) is ∙ ap (λ (qs : List ToldStep). qs ++ s3 ∷ []) steps

same_told : (t u : Told) → Some t ≡ Some u → t ≡ u
same_told t u is = cc

-- the steps after the three originals were forgotten
record AreForgotten (steps : List ToldStep) : Type 0 where
  first : Clause
  second : Clause
  other : Clause
  pivot : Literal
  steps_are : steps ≡ forgotten_at 0 (original_step 0 1 first) ∷ forgotten_at 1 (original_step 1 2 second) ∷ forgotten_at 2 (original_step 2 1 other) ∷ derived_step 3 [] 0 (record { pivot = pivot; antecedent = record { 0 = 1 } } ∷ []) ∷ []

are_forgotten : (t one two three : Told) → AreRefutationSteps t.steps → Some one ≡ Some (without_id 0 t) → Some two ≡ Some (without_id 1 one) → Some three ≡ Some (without_id 2 two) → AreForgotten three.steps
are_forgotten t one two three (c0, c1, c2, l, is) e0 e1 e2 = record {
  first = c0;
  second = c1;
  other = c2;
  pivot = l;
  steps_are = ap (λ (v : Told). v.steps) (same_told three (without_id 2 two) e2) ∙ ap (λ (v : Told). (without_id 2 v).steps) (same_told two (without_id 1 one) e1) ∙ ap (λ (v : Told). (without_id 2 (without_id 1 v)).steps) (same_told one (without_id 0 t) e0) ∙ ap (λ qs. map (forgotten_at 2) (map (forgotten_at 1) (map (forgotten_at 0) qs))) is;
}

root_kept : (t u : Told) → AreForgotten t.steps → Reclaims t u → IsUnforgotten u.steps 3
root_kept t u steps r = IsUnforgotten-reclaimed t u 3 r (rw steps.steps_are refl)

-- no other id than that of the root is in use
alive_root : (steps : List ToldStep) (id : ℕ) → AreForgotten steps → IsUnforgotten steps id → id ≡ 3
alive_root steps id s alive =
    let found : ((eqb 0 id && false) || ((eqb 1 id && false) || ((eqb 2 id && false) || ((eqb 3 id && true) || false)))) ≡ true = rw s.steps_are at alive in
    sym (eqb-true 3 id (only (eqb 0 id) (eqb 1 id) (eqb 2 id) (eqb 3 id) found))
  where
    only : (a b c d : Bool) → ((a && false) || ((b && false) || ((c && false) || ((d && true) || false)))) ≡ true → d ≡ true
    only a b c true h = refl
    only true true true false h = h
    only true true false false h = h
    only true false true false h = h
    only true false false false h = h
    only false true true false h = h
    only false true false false h = h
    only false false true false h = h
    only false false false false h = h

-- and a set without the third original is closed
closed_without : (steps : List ToldStep) → AreForgotten steps → IsClosed steps (λ x. not (eqb x 2))
closed_without steps s = rw s.steps_are closed
  where
    pair : (x : ℕ) → Contains (0 ∷ 1 ∷ []) x → not (eqb x 2) ≡ true
    pair x (zero, within, at) = rw (← at) refl
    pair x (suc zero, within, at) = rw (← at) refl
    pair x (suc (suc k), within, at) = absurd (omega arith)

    closed : IsClosed (forgotten_at 0 (original_step 0 1 s.first) ∷ forgotten_at 1 (original_step 1 2 s.second) ∷ forgotten_at 2 (original_step 2 1 s.other) ∷ derived_step 3 [] 0 (record { pivot = s.pivot; antecedent = record { 0 = 1 } } ∷ []) ∷ []) (λ x. not (eqb x 2))
    closed q a (zero, within, at) on named = absurd (let no : Contains [] a = subst (λ (r : ToldStep). Contains (antecedents r.origin) a) (sym at) named in let low : no.0 < 0 = no.1 in omega arith)
    closed q a (suc zero, within, at) on named = absurd (let no : Contains [] a = subst (λ (r : ToldStep). Contains (antecedents r.origin) a) (sym at) named in let low : no.0 < 0 = no.1 in omega arith)
    closed q a (suc (suc zero), within, at) on named = absurd (let no : Contains [] a = subst (λ (r : ToldStep). Contains (antecedents r.origin) a) (sym at) named in let low : no.0 < 0 = no.1 in omega arith)
    closed q a (suc (suc (suc zero)), within, at) on named = pair a (subst (λ (r : ToldStep). Contains (antecedents r.origin) a) (sym at) named)
    closed q a (suc (suc (suc (suc k))), within, at) on named = absurd (omega arith)

-- what an answer says of a call that gives steps up
pub reclaimed_root : (t one two three u : Told) → AreRefutationSteps t.steps → Some one ≡ Some (without_id 0 t) → Some two ≡ Some (without_id 1 one) → Some three ≡ Some (without_id 2 two) → ((v : Told) → Some three ≡ Some v → (w : Told) × (Some u ≡ Some w) × Reclaims v w) → IsUnforgotten u.steps 3
reclaimed_root t one two three u steps e0 e1 e2 reclaimed =
    let r = reclaimed three refl in
    subst (λ (w : Told). IsUnforgotten w.steps 3) (sym (same_told u r.0 r.1)) (root_kept three r.0 (are_forgotten t one two three steps e0 e1 e2) r.2)

pub original_gone : (t one two three u : Told) → AreRefutationSteps t.steps → Some one ≡ Some (without_id 0 t) → Some two ≡ Some (without_id 1 one) → Some three ≡ Some (without_id 2 two) → AreAllInUse three.steps u.steps → (s : ToldStep) → Contains u.steps s → s.id ≢ 2
original_gone t one two three u steps e0 e1 e2 in_use s here is =
    let left = are_forgotten t one two three steps e0 e1 e2 in
    let used = in_use s here in
    let root : used.0 ≡ 3 = alive_root three.steps used.0 left used.1 in
    let without : not (eqb s.id 2) ≡ true = used.2 (λ x. not (eqb x 2)) (rw root refl) (closed_without three.steps left) in
    let no : not (eqb 2 2) ≡ true = subst (λ n. not (eqb n 2) ≡ true) is without in
    absurd (let odd : false ≡ true = no in cc)

-- the empty clause has its chain
pub has_root : (steps : List ToldStep) → AreRefutationSteps steps → HasDerived steps 3
has_root steps (c0, c1, c2, l, is) =
    let root : ToldStep = derived_step 3 [] 0 (record { pivot = l; antecedent = record { 0 = 1 } } ∷ []) in
    let member : Contains (original_step 0 1 c0 ∷ original_step 1 2 c1 ∷ original_step 2 1 c2 ∷ root ∷ []) root = (3, omega arith, refl) in
    (0, record { pivot = l; antecedent = 1 } ∷ [], record { step = root; kept = subst (λ (qs : List ToldStep). Contains qs root) (sym is) member; id_is = refl; chain = refl })
