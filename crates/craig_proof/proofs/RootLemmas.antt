-- A root is the greatest of the ids that it needs.
use Rattle.std.proofs.Common.{◌≡◌, ℕ, suc, zero, ◌<◌, ◌≤◌, Bool, true, false, cond, ltb, List, [], ◌∷◌, length, get_or, map, Contains, Some, refl, ap, sym, ◌∙◌, arith, ◌↔◌}
use Rattle.std.specs.List.{filter}
use Rattle.std.proofs.lemmas.Bool.Decides.{nat_tests}
use Rattle.std.proofs.lemmas.List.{get_or_default}
use Rattle.craig_spec.specs.Chain.{ToldStep, antecedents, IsUnforgotten, EachStands, AreRising}
use Rattle.craig_spec.specs.Needed.{IsNeeded, unforgotten}
use Rattle.craig_proof.specs.NeededSteps.{last_id}
use Rattle.craig_proof.proofs.ToldLemmas.{unforgotten_place}
use Rattle.craig_proof.proofs.FindingLemmas.{antecedent_before, false_unless}
use Rattle.craig_proof.proofs.ReplayLemmas.{part}

below_ltb : (x y : ℕ) → x < y → ltb x y ≡ true
below_ltb x y h = grind (arith, nat_tests)

ltb_below : (x y : ℕ) → ltb x y ≡ true → x < y
ltb_below x y h = grind (arith, nat_tests)

-- an antecedent's id is below that of its step
antecedent_below : (steps : List ToldStep) (s : ToldStep) (x : ℕ) → AreRising steps → EachStands steps → Contains steps s → Contains (antecedents s.origin) x → x < s.id
antecedent_below steps s x rising stand (k, within, at) ante =
    let before = antecedent_before steps k x s stand within (rw at ante) in
    let up : (get_or steps before.0 s).id < (get_or steps k s).id = rising before.0 k s before.1 within in
    let low : (get_or steps before.0 s).id ≡ x = before.2 s in
    let high : (get_or steps k s).id ≡ s.id = ap (λ (q : ToldStep). q.id) at in
    omega arith

-- so no needed id is above the root
pub needed_below_root : (steps : List ToldStep) (root id : ℕ) → AreRising steps → EachStands steps → IsNeeded steps root id → id ≤ root
needed_below_root steps root id rising stand needed =
    let below : ltb id (suc root) ≡ true = needed (λ x. ltb x (suc root)) (below_ltb root (suc root) (omega arith)) (λ s x here h ante.
    let up : s.id < suc root = ltb_below s.id (suc root) h in
    let down : x < s.id = antecedent_below steps s x rising stand here ante in
    below_ltb x (suc root) (omega arith)) in
    let lt : id < suc root = ltb_below id (suc root) below in
    omega arith

last_id-front : (s : ToldStep) (steps : List ToldStep) (x : ℕ) → last_id steps ≡ Some x → last_id (s ∷ steps) ≡ Some x
last_id-front s [] x h = absurd (cc)
last_id-front s (r ∷ steps) x h = h

no_part : (p : ℕ → Bool) (steps : List ToldStep) → ((j : ℕ) (d : ToldStep) → j < length steps → p (get_or steps j d).id ≡ false) → part p steps ≡ []
no_part p [] off = refl
no_part p (s ∷ steps) off = rw (off 0 s (omega arith)) (no_part p steps (λ j d within. off (suc j) d (omega arith)))

last_part-cases : (p : ℕ → Bool) (s : ToldStep) (steps : List ToldStep) (root : ℕ) (b : Bool) → last_id (part p steps) ≡ Some root → last_id (map unforgotten (cond b (s ∷ filter (λ q. p q.id) steps) (filter (λ q. p q.id) steps))) ≡ Some root
last_part-cases p s steps root true h = last_id-front (unforgotten s) (part p steps) root h
last_part-cases p s steps root false h = h

-- where none passes after the root, the root is the last of the part
last_part : (p : ℕ → Bool) (root : ℕ) (steps : List ToldStep) (k : ℕ) → p root ≡ true → k < length steps → ((d : ToldStep) → (get_or steps k d).id ≡ root) → ((j : ℕ) (d : ToldStep) → k < j → j < length steps → p (get_or steps j d).id ≡ false) → last_id (part p steps) ≡ Some root
last_part p root [] k on within at off = absurd (omega arith)
last_part p root (s ∷ steps) zero on within at off =
    let passes : p s.id ≡ true = ap p (at s) ∙ on in
    let none : part p steps ≡ [] = no_part p steps (λ j d inside. off (suc j) d (omega arith) (omega arith)) in
    rw passes (ap (λ (xs : List ToldStep). last_id (unforgotten s ∷ xs)) none ∙ ap Some (at s))
last_part p root (s ∷ steps) (suc k) on within at off =
    last_part-cases p s steps root (p s.id) (last_part p root steps k on (omega arith) at (λ j d after inside. off (suc j) d (omega arith) (omega arith)))

-- the part that a root needs ends at the root
pub last_needed : (steps : List ToldStep) (root : ℕ) (p : ℕ → Bool) → AreRising steps → EachStands steps → IsUnforgotten steps root → ((s : ToldStep) → Contains steps s → (p s.id ≡ true) ↔ IsNeeded steps root s.id) → last_id (part p steps) ≡ Some root
last_needed [] root p rising stand here needed = absurd (cc)
last_needed (s ∷ steps) root p rising stand here needed =
    let place = unforgotten_place (s ∷ steps) root here in
    let at = λ (k : ℕ) (d : ToldStep) (within : k < length (s ∷ steps)). (needed (get_or (s ∷ steps) k d) (k, within, get_or_default (s ∷ steps) k (get_or (s ∷ steps) k d) d within)) in
    let root_on : p (get_or (s ∷ steps) place.0 s).id ≡ true = (at place.0 s place.1).1 (λ q root_in closed. rw (place.2 s) root_in) in
    last_part p root (s ∷ steps) place.0 (sym (ap p (place.2 s)) ∙ root_on) place.1 place.2 (λ j d after inside. false_unless (p (get_or (s ∷ steps) j d).id) (λ on.
    let low : (get_or (s ∷ steps) j d).id ≤ root = needed_below_root (s ∷ steps) root (get_or (s ∷ steps) j d).id rising stand ((at j d inside).0 on) in
    let up : (get_or (s ∷ steps) place.0 d).id < (get_or (s ∷ steps) j d).id = rising place.0 j d after inside in
    let is : (get_or (s ∷ steps) place.0 d).id ≡ root = place.2 d in
    omega arith))
