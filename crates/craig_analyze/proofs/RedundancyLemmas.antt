-- Reasons of variables that are assigned, and literals that are set aside to be resolved on.
use Rattle.std.proofs.Common.{◌≡◌, ◌⊎◌, inl, inr, ℕ, ◌+◌, ◌-◌, ◌<◌, Bool, true, ◌≢◌, length, get_or, All, AllPairs, Contains, Option, Some, None, IsSome, refl, sym, ap, subst, ◌∙◌, arith}
use Rattle.std.specs.List.{remove}
use Rattle.std.specs.Option.{is_some, option_map}
use Rattle.std.proofs.lemmas.Bool.{cases_eq, cases_lt}
use Rattle.std.proofs.lemmas.List.{get_or_default}
use Rattle.std.proofs.lemmas.List.Edits.{get_or-remove_above, get_or-remove_below, length-remove}
use Rattle.craig_spec.specs.Literal.{Literal, Clause}
use Rattle.craig_base.specs.declared.clause_id.ClauseId.{ClauseId}
use Rattle.craig_base.specs.Arena.{IsLive, literals_at}
use Rattle.craig_watch.specs.declared.trail_entry.TrailEntry.{TrailEntry}
use Rattle.craig_watch.specs.Trail.{IsAssigned, entry_of, level_at}
use Rattle.craig_watch.specs.Held.{HeldView, IsConsistent}
use Rattle.craig_analyze.specs.Resolvent.{at_place}
use Rattle.craig_analyze.proofs.PlaceLemmas.{entry_of-found}
use Rattle.craig_analyze.proofs.LevelLemmas.{level_of-is, reason-first, reason_of-cases}
use Rattle.craig_analyze.proofs.HeldClauseLemmas.{held-live}
use Rattle.craig_analyze.proofs.WalkLemmas.{reason-held, reason-assigned}

pub some-entry : {A : Type 0} (o : Option A) → IsSome o → (x : A) × (o ≡ Some x)
some-entry None some = absurd (cc)
some-entry (Some x) some = (x, refl)

-- the reason of a variable is held, and its variables are assigned
pub reason-of_variable : (h : HeldView) (v : ℕ) (id : ClauseId) → IsConsistent h → IsAssigned h.trail v → option_map (λ e. e.reason) (entry_of h.trail v) ≡ Some (Some id) → IsLive h.arena id.0 × All (λ l. IsAssigned h.trail l.var) (literals_at h.arena id.0)
reason-of_variable h v id ok assigned told =
    let e = some-entry (entry_of h.trail v) assigned in
    let p = entry_of-found h.trail v e.0 e.1 in
    let is : Some id ≡ (at_place h.trail p.0).reason = reason_of-cases (entry_of h.trail v) (Some id) (λ f. f.reason) (at_place h.trail p.0) (e.1 ∙ ap (λ (f : TrailEntry). Some f) (sym p.2)) told in
    let reason = reason-held h p.0 id ok p.1 (sym is) in
    let live = held-live h.arena id.0 reason.0 reason.1 in
    (live.0, subst (All (λ l. IsAssigned h.trail l.var)) (sym live.1) (reason-assigned h p.0 reason.0 ok p.1 reason.2))

-- of each literal of the reason that is read
pub reason-read : (h : HeldView) (id : ClauseId) (c : Clause) (k v : ℕ) (l : Literal) → All (λ l. IsAssigned h.trail l.var) (literals_at h.arena id.0) → c ≡ literals_at h.arena id.0 → k < length c → l ≡ get_or c k l → v ≡ l.var → IsAssigned h.trail v
reason-read h id c k v l all is within at var =
    let here : All (λ m. IsAssigned h.trail m.var) c = subst (All (λ m. IsAssigned h.trail m.var)) (sym is) all in
    subst (IsAssigned h.trail) (sym var) (subst (λ (m : Literal). IsAssigned h.trail m.var) (sym at) (here k l within))

-- a variable that was assigned at level 0 was forced
pub root-forced : (h : HeldView) (v n : ℕ) → IsConsistent h → IsAssigned h.trail v → option_map (λ e. e.level) (entry_of h.trail v) ≡ Some n → n ≡ 0 → option_map (λ e. is_some e.reason) (entry_of h.trail v) ≡ Some true
root-forced h v n ok assigned told is =
    let e = some-entry (entry_of h.trail v) assigned in
    let p = entry_of-found h.trail v e.0 e.1 in
    let level : n ≡ (at_place h.trail p.0).level = reason_of-cases (entry_of h.trail v) n (λ f. f.level) (at_place h.trail p.0) (e.1 ∙ ap (λ (f : TrailEntry). Some f) (sym p.2)) told in
    let forced : IsSome (at_place h.trail p.0).reason = reason-first h.trail p.0 ok.levels p.1 (inl (sym level ∙ is)) in
    ap (option_map (λ (f : TrailEntry). is_some f.reason)) e.1 ∙ ap (λ (f : TrailEntry). Some (is_some f.reason)) (sym p.2) ∙ ap (λ (b : Bool). Some b) forced

-- and one of another level has a level above 0
pub above-root : (h : HeldView) (l : Literal) (v n : ℕ) → v ≡ l.var → option_map (λ e. e.level) (entry_of h.trail v) ≡ Some n → (n ≡ 0 → ⊥) → 0 < level_at h.trail l
above-root h l v n var told other =
    let is : n ≡ level_at h.trail l = level_of-is h.trail l v n var told in
    omega arith

-- a literal that was removed, and those that stay
pub remove-member : (xs : Clause) (n : ℕ) (l : Literal) → n < length xs → Contains (remove xs n) l → Contains xs l
remove-member xs n l within (k, low, at) =
    let size : length (remove xs n) + 1 ≡ length xs = length-remove xs n within in
    elim (cases_lt k n) [
      | inl below ↦ (k, omega arith, sym (get_or-remove_below xs n l k below within) ∙ at)
      | inr above ↦ (k + 1, omega arith, sym (get_or-remove_above xs n l k above within) ∙ at)
    ]

pub remove-kept : (xs : Clause) (n : ℕ) (l : Literal) → n < length xs → Contains xs l → (get_or xs n l ≡ l) ⊎ Contains (remove xs n) l
remove-kept xs n l within (k, low, at) =
    let size : length (remove xs n) + 1 ≡ length xs = length-remove xs n within in
    elim (cases_lt k n) [
      | inl below ↦ inr (k, omega arith, get_or-remove_below xs n l k below within ∙ at)
      | inr above ↦ elim (cases_eq k n) [
        | inl same ↦ inl (ap (λ (i : ℕ). get_or xs i l) (sym same) ∙ at)
        | inr other ↦
            let before : (k - 1) + 1 ≡ k = omega (arith, above, other) in
            inr (k - 1, omega (arith, size, low, above, other), get_or-remove_above xs n l (k - 1) (omega (arith, above, other)) within ∙ ap (λ (i : ℕ). get_or xs i l) before ∙ at)
      ]
    ]

-- what holds of all
pub All-remove : (P : Literal → Type 0) (xs : Clause) (n : ℕ) → n < length xs → All P xs → All P (remove xs n)
All-remove P xs n within all k d low =
    let size : length (remove xs n) + 1 ≡ length xs = length-remove xs n within in
    elim (cases_lt k n) [
      | inl below ↦ subst P (sym (get_or-remove_below xs n d k below within)) (all k d (omega arith))
      | inr above ↦ subst P (sym (get_or-remove_above xs n d k above within)) (all (k + 1) d (omega arith))
    ]

-- the one that was removed was of another variable than the rest
pub removed-apart : (xs : Clause) (n : ℕ) (d l : Literal) → n < length xs → AllPairs (λ a b. a.var ≢ b.var) xs → Contains (remove xs n) l → l.var ≢ (get_or xs n d).var
removed-apart xs n d l within apart (k, low, at) same =
    let size : length (remove xs n) + 1 ≡ length xs = length-remove xs n within in
    let here : (get_or (remove xs n) k d).var ≡ (get_or xs n d).var = ap (λ (m : Literal). m.var) (get_or_default (remove xs n) k d l low ∙ at) ∙ same in
    elim (cases_lt k n) [
      | inl below ↦ apart k n d below within (ap (λ (m : Literal). m.var) (sym (get_or-remove_below xs n d k below within)) ∙ here)
      | inr above ↦ apart n (k + 1) d (omega arith) (omega arith) (sym here ∙ ap (λ (m : Literal). m.var) (get_or-remove_above xs n d k above within))
    ]
