-- Told steps: what is found under an id, what stands on what, and what is needed.
use Rattle.std.proofs.Common.{◌≡◌, inl, inr, ℕ, zero, suc, ◌<◌, Bool, true, false, cond, not, ◌&&◌, eqb, List, [], ◌∷◌, ◌++◌, map, All, Contains, Option, Some, None, refl, subst, arith, eqb-true, eq-eqb, ne_eqb}
use Rattle.std.specs.List.{list_any}
use Rattle.std.proofs.lemmas.Bool.{or_left, or_right, or_cases}
use Rattle.craig_spec.specs.Literal.{Clause}
use Rattle.craig_spec.specs.Chain.{ChainStep, Origin, Original, Derived, ToldStep, Told, antecedents, clause_told, IsChain, IsUnforgotten, StandsOn}
use Rattle.craig_spec.specs.Needed.{IsNeeded, Reclaims}
use Rattle.craig_spec.proofs.MemberLemmas.{Contains-front, Contains-later, filter-all}

-- a clause that was told is one of a step
clause_told-cases : (r : ToldStep) (steps : List ToldStep) (x : ℕ) (d : Clause) (b : Bool) → eqb r.id x ≡ b → cond b (Some r.literals) (clause_told steps x) ≡ Some d → (clause_told steps x ≡ Some d → (q : ToldStep) × Contains steps q × (q.id ≡ x) × (q.literals ≡ d)) → (q : ToldStep) × Contains (r ∷ steps) q × (q.id ≡ x) × (q.literals ≡ d)
clause_told-cases r steps x d true e h later = (r, Contains-front r steps, eqb-true r.id x e, cc)
clause_told-cases r steps x d false e h later = let q = later h in (q.0, Contains-later r steps q.0 q.1, q.2, q.3)

pub clause_told-find : (steps : List ToldStep) (x : ℕ) (d : Clause) → clause_told steps x ≡ Some d → (q : ToldStep) × Contains steps q × (q.id ≡ x) × (q.literals ≡ d)
clause_told-find [] x d h = absurd (cc)
clause_told-find (r ∷ steps) x d h = clause_told-cases r steps x d (eqb r.id x) refl h (clause_told-find steps x d)

-- what was told under an id stays when one more step is told, and the new one is found under its id
pushed-cases : (b : Bool) (s r : ToldStep) (steps : List ToldStep) (x : ℕ) (c : Clause) → cond b (Some r.literals) (clause_told steps x) ≡ Some c → (clause_told steps x ≡ Some c → clause_told (steps ++ s ∷ []) x ≡ Some c) → cond b (Some r.literals) (clause_told (steps ++ s ∷ []) x) ≡ Some c
pushed-cases true s r steps x c is later = is
pushed-cases false s r steps x c is later = later is

pub clause_told-pushed : (steps : List ToldStep) (s : ToldStep) (x : ℕ) (c : Clause) → clause_told steps x ≡ Some c → clause_told (steps ++ s ∷ []) x ≡ Some c
clause_told-pushed [] s x c is = absurd (let no : None ≡ Some c = is in cc)
clause_told-pushed (r ∷ steps) s x c is = pushed-cases (eqb r.id x) s r steps x c is (clause_told-pushed steps s x c)

pub clause_told-last : (steps : List ToldStep) (s : ToldStep) → All (λ r. r.id < s.id) steps → clause_told (steps ++ s ∷ []) s.id ≡ Some s.literals
clause_told-last [] s below = rw (eq-eqb s.id s.id refl) refl
clause_told-last (r ∷ steps) s below =
    let low : r.id < s.id = below 0 r (omega arith) in
    rw (ne_eqb r.id s.id (λ same. omega arith)) (clause_told-last steps s (λ k d w. below (suc k) d (omega arith)))

-- an id that isn't forgotten stays so when one more step is told
pub IsUnforgotten-pushed : (steps : List ToldStep) (s : ToldStep) (x : ℕ) → IsUnforgotten steps x → IsUnforgotten (steps ++ s ∷ []) x
IsUnforgotten-pushed [] s x h = absurd (let no : false ≡ true = h in cc)
IsUnforgotten-pushed (r ∷ steps) s x h =
    elim (or_cases (eqb r.id x && not r.forgotten) (list_any (λ q. eqb q.id x && not q.forgotten) steps) h) [
      | inl here ↦ or_left _ _ here
      | inr later ↦ or_right _ _ (IsUnforgotten-pushed steps s x later)
    ]

-- the look-up gives each antecedent of a chain, and of a step that stands
pub IsChain-given : (f : ℕ → Option Clause) (c : Clause) (rest : List ChainStep) (last : Clause) (x : ℕ) → IsChain f c rest last → Contains (map (λ s. s.antecedent) rest) x → (d : Clause) × (f x ≡ Some d)
IsChain-given f c [] last x chain (k, within, at) = absurd (omega arith)
IsChain-given f c (s ∷ rest) last x (d, r, is, resolved, more) (zero, within, at) = (d, subst (λ (y : ℕ). f y ≡ Some d) at is)
IsChain-given f c (s ∷ rest) last x (d, r, is, resolved, more) (suc k, within, at) = IsChain-given f r rest last x more (k, omega arith, at)

pub StandsOn-given : (before : List ToldStep) (c : Clause) (origin : Origin) (x : ℕ) → StandsOn before c origin → Contains (antecedents origin) x → (d : Clause) × (clause_told before x ≡ Some d)
StandsOn-given before c (Original part) x stands (k, within, at) = absurd (omega arith)
StandsOn-given before c (Derived first rest) x stands (zero, within, at) = (stands.start, subst (λ (y : ℕ). clause_told before y ≡ Some stands.start) at stands.start_is)
StandsOn-given before c (Derived first rest) x stands (suc k, within, at) = IsChain-given (clause_told before) stands.start rest c x stands.chain (k, omega arith, at)

-- a root needs itself, and what an antecedent of a step needs, the step needs
pub IsNeeded-root : (steps : List ToldStep) (root : ℕ) → IsNeeded steps root root
IsNeeded-root steps root p is closed = is

pub IsNeeded-below : (steps : List ToldStep) (s : ToldStep) (a id : ℕ) → Contains steps s → Contains (antecedents s.origin) a → IsNeeded steps a id → IsNeeded steps s.id id
IsNeeded-below steps s a id member named needed p is closed = needed p (closed s a member is named) closed

-- nothing need be given up
pub Reclaims-nothing : (t : Told) → Reclaims t t
Reclaims-nothing t = record { greatest = refl; kept = λ _. true; steps = filter-all t.steps; closed = λ s r _ _ _ _. refl; needed = λ s id _ _ _. refl }
