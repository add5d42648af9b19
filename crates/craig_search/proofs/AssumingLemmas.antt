-- Assumptions along a trail.
use Rattle.std.proofs.Common.{◌≡◌, ◌≢◌, ◌⊎◌, inl, inr, ℕ, suc, ◌+◌, ◌-◌, ◌<◌, ◌≤◌, Bool, true, false, cond, [], ◌∷◌, ◌++◌, length, get_or, take, drop, All, Option, Some, None, IsSome, is_none, nat_le, refl, sym, ap, subst, ◌∙◌, arith}
use Rattle.std.specs.List.{slice_get}
use Rattle.std.proofs.lemmas.Bool.{cases_lt}
use Rattle.std.proofs.lemmas.List.{get_or-take, get_or_append_left, get_or-append_right, length-take, length-append, take-take, take-append-drop, take-append-le}
use Rattle.std.proofs.lemmas.Option.{slice_get-get_or}
use Rattle.craig_spec.specs.Literal.{Literal}
use Rattle.craig_base.specs.declared.script_part.Part.{Part}
use Rattle.craig_watch.specs.declared.trail_entry.TrailEntry.{TrailEntry}
use Rattle.craig_watch.specs.declared.value.Value.{Value}
use Rattle.craig_watch.specs.declared.value.Value.TheVariants.{True, False, Free}
use Rattle.craig_watch.specs.Trail.{Trail, IsFalse, decisions, part_up_to, value_under}
use Rattle.craig_watch.specs.Held.{HeldView, IsConsistent}
use Rattle.craig_watch.proofs.PlacesLemmas.{value_under-longer}
use Rattle.craig_watch.proofs.TrailLemmas.{decisions-push, each_push}
use Rattle.craig_watch.proofs.LevelsLemmas.{levels-present}
use Rattle.std.proofs.Math.Seq.{take-suc}
use Rattle.craig_base.specs.declared.clause_id.ClauseId.{ClauseId}
use Rattle.craig_order.specs.Order.{OrderView}
use Rattle.craig_search.specs.declared.deciding.Turn.{Turn}
use Rattle.craig_search.specs.declared.deciding.Turn.TheVariants.{Decided, Model, Failed}
use Rattle.craig_search.specs.Leaves.{IsReady}
use Rattle.craig_search.proofs.ReadyLemmas.{IsReady-decided}
use Rattle.craig_search.specs.Assuming.{AreAllAssumed, AreDecided, AreTrueBefore, IsAssumed, IsAssumedTurn, IsTurn}
use Rattle.craig_search.specs.Verdict.{Assumptions, IsFound}

true-not_free : (v : Value) → v ≡ True → v ≢ Free
true-not_free v is free = let no : True ≡ Free = sym is ∙ free in cc

-- a literal that is neither true nor false is free
pub free-cases : (v : Value) → v ≢ True → v ≢ False → v ≡ Free
free-cases True not_true not_false = absurd (not_true refl)
free-cases False not_true not_false = absurd (not_false refl)
free-cases Free not_true not_false = refl

-- what is true stays so when the trail gets longer
pub true-longer : (t u : Trail) (l : Literal) → value_under t l ≡ True → value_under (t ++ u) l ≡ True
true-longer t u l is = value_under-longer t u l (true-not_free (value_under t l) is) ∙ is

pub before-longer : (t u v : Trail) (assumptions : Assumptions) (place : ℕ) → v ≡ t ++ u → AreTrueBefore t assumptions place → AreTrueBefore v assumptions place
before-longer t u v assumptions place is before p a low at = subst (λ (w : Trail). value_under w a.1 ≡ True) (sym is) (true-longer t u a.1 (before p a low at))

true-take : (k : ℕ) (t : Trail) (l : Literal) → value_under (take k t) l ≡ True → value_under t l ≡ True
true-take k t l is = subst (λ (w : Trail). value_under w l ≡ True) (take-append-drop k t) (true-longer (take k t) (drop k t) l is)

-- where an assumption is not true, each decision is assumed
pub all-assumed : (assumptions : Assumptions) (t : Trail) (p : ℕ) (a : Part × Literal) → AreDecided assumptions t → p < length assumptions → slice_get assumptions p ≡ Some a → value_under t a.1 ≢ True → AreAllAssumed assumptions t
all-assumed assumptions t p a decided low at not_true k d within none = elim (decided k d within none) [
  | inl assumed ↦ assumed
  | inr before ↦ absurd (not_true (true-take k t a.1 (before p a low at)))
]

-- what holds of a decision with what stands before it
abbrev IsMade : Assumptions → Trail → TrailEntry → Type 0
IsMade assumptions t e = e.reason ≡ None → IsAssumed assumptions e.literal ⊎ AreTrueBefore t assumptions (length assumptions)

some-not_none : {A : Type 0} (o : Option A) → IsSome o → o ≡ None → ⊥
some-not_none None some none = let no : false ≡ true = some in cc
some-not_none {A = A} (Some x) some none = let no : Some x ≡ None = none in cc

-- after literals were forced
longer-decided : (assumptions : Assumptions) (t u : Trail) → All (λ e. IsSome e.reason) u → AreDecided assumptions t → AreDecided assumptions (t ++ u)
longer-decided assumptions t u forced decided k d within none = elim (cases_lt k (length t)) [
  | inl low ↦
      let at : get_or (t ++ u) k d ≡ get_or t k d = get_or_append_left t u d k low in
      let part : take k (t ++ u) ≡ take k t = take-append-le k t u (omega (arith, low)) in
      subst (λ (w : Trail). IsMade assumptions w (get_or (t ++ u) k d)) (sym part) (subst (λ (e : TrailEntry). IsMade assumptions (take k t) e) (sym at) (decided k d low)) none
  | inr high ↦
      let at : get_or (t ++ u) k d ≡ get_or u (k - length t) d = get_or-append_right t u (length t) k d refl (omega (arith, high)) in
      let long : length (t ++ u) ≡ length t + length u = length-append t u in
      absurd (some-not_none (get_or u (k - length t) d).reason (forced (k - length t) d (omega (arith, high, within))) (ap (λ (e : TrailEntry). e.reason) (sym at) ∙ none))
]

pub decided-longer : (assumptions : Assumptions) (t u v : Trail) → v ≡ t ++ u → All (λ e. IsSome e.reason) u → AreDecided assumptions t → AreDecided assumptions v
decided-longer assumptions t u v is forced decided = subst (AreDecided assumptions) (sym is) (longer-decided assumptions t u forced decided)

-- after a decision
pub decided-push : (assumptions : Assumptions) (t v : Trail) (e : TrailEntry) → v ≡ t ++ e ∷ [] → AreDecided assumptions t → IsAssumed assumptions e.literal ⊎ AreTrueBefore t assumptions (length assumptions) → AreDecided assumptions v
decided-push assumptions t v e is decided made = subst (AreDecided assumptions) (sym is) (λ k d within none. each_push (IsMade assumptions) t e decided (λ _. made) k d within none)

-- after going back
part-cases : (b : Bool) (e : TrailEntry) (t u : Trail) → (n : ℕ) × (u ≡ take n t) → (n : ℕ) × (cond b (e ∷ u) [] ≡ take n (e ∷ t))
part-cases true e t u (n, is) = (suc n, ap (λ (w : Trail). e ∷ w) is)
part-cases false e t u (n, is) = (0, refl)

part-take : (level : ℕ) (t : Trail) → (n : ℕ) × (part_up_to level t ≡ take n t)
part-take level [] = (0, refl)
part-take level (e ∷ t) = part-cases (nat_le e.level level) e t (part_up_to level t) (part-take level t)

take-decided : (assumptions : Assumptions) (n : ℕ) (t : Trail) → AreDecided assumptions t → AreDecided assumptions (take n t)
take-decided assumptions n t decided k d within none =
    let long = length-take n t in
    let low : k < n = omega (arith, within) in
    let at : get_or (take n t) k d ≡ get_or t k d = get_or-take n t k d low in
    let part : take k (take n t) ≡ take k t = take-take k n t (omega (arith, low)) in
    subst (λ (w : Trail). IsMade assumptions w (get_or (take n t) k d)) (sym part) (subst (λ (e : TrailEntry). IsMade assumptions (take k t) e) (sym at) (decided k d (omega (arith, within)))) none

pub decided-back : (assumptions : Assumptions) (t v : Trail) (level : ℕ) → v ≡ part_up_to level t → AreDecided assumptions t → AreDecided assumptions v
decided-back assumptions t v level is decided =
    let part = part-take level t in
    subst (AreDecided assumptions) (sym (is ∙ part.1)) (take-decided assumptions part.0 t decided)

-- at level 0 nothing was decided
none-decided : (h : HeldView) → IsConsistent h → h.level ≡ 0 → (k : ℕ) (d : TrailEntry) → k < length h.trail → (get_or h.trail k d).reason ≡ None → ⊥
none-decided h ok level k d within none =
    let t : Trail = h.trail in
    let is : (get_or t k d).level ≡ decisions (take (suc k) t) = ok.levels k d within in
    let one : cond {A = ℕ} (is_none (get_or t k d).reason) 1 0 ≡ 1 = ap (λ (o : Option ClauseId). cond {A = ℕ} (is_none o) 1 0) none in
    let next : decisions (take (suc k) t) ≡ decisions (take k t) + cond {A = ℕ} (is_none (get_or t k d).reason) 1 0 = ap decisions (take-suc t k d within) ∙ decisions-push (take k t) (get_or t k d) in
    let low : (get_or t k d).level ≤ h.level = levels-present h ok k d within in
    omega arith

pub decided-root : (assumptions : Assumptions) (h : HeldView) → IsConsistent h → h.level ≡ 0 → AreDecided assumptions h.trail
decided-root assumptions h ok level k d within none = absurd (none-decided h ok level k d within none)

-- a model of the clauses under which the assumptions are true
pub found-assumed : (h : HeldView) (assumptions : Assumptions) (place : ℕ) → IsFound h [] → AreTrueBefore h.trail assumptions place → length assumptions ≤ place → IsFound h assumptions
found-assumed h assumptions place found before le = record {
  assigned = found.assigned;
  clauses = found.clauses;
  assumed = λ k d within. before k (get_or assumptions k d) (omega (arith, within, le)) (slice_get-get_or assumptions k d within);
}

-- what came of the decision of an assumption
pub assumed-turn : (assumptions : Assumptions) (old new : HeldView) (o : OrderView) (place : ℕ) (a : Part × Literal) (turn : Turn) → IsReady old o → AreDecided assumptions old.trail → place < length assumptions → slice_get assumptions place ≡ Some a → value_under old.trail a.1 ≢ True → IsAssumedTurn old new a.1 turn → IsTurn assumptions old new o turn
assumed-turn assumptions old new o place a Decided ready decided low at not_true is =
    let e : TrailEntry = record { literal = a.1; level = old.level + 1; reason = None } in (
      a.1,
      is,
      IsReady-decided old new o o e ready (ap (λ (h : HeldView). h.vars) is) (ap (λ (h : HeldView). h.trail) is) (record { known = refl; counts = λ v free other. refl; dead = refl }),
      decided-push assumptions old.trail new.trail e (ap (λ (h : HeldView). h.trail) is) decided (inl (place, a, at, refl)),
    )
assumed-turn assumptions old new o place a Model ready decided low at not_true is = absurd is
assumed-turn assumptions old new o place a (Failed m) ready decided low at not_true (same, literal, falsified) = (
  same,
  subst (λ (h : HeldView). IsReady h o) (sym same) ready,
  subst (λ (h : HeldView). IsFalse h.trail m) (sym same) (subst (IsFalse old.trail) (sym literal) falsified),
  (place, a, at, sym literal),
  subst (λ (h : HeldView). AreAllAssumed assumptions h.trail) (sym same) (all-assumed assumptions old.trail place a decided low at not_true),
)
