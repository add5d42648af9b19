-- Clauses whose literals lie in one list.
use Rattle.std.proofs.Common.{◌≡◌, ℕ, zero, suc, ◌+◌, ◌-◌, ◌<◌, ◌≤◌, List, [], ◌∷◌, ◌++◌, length, get_or, take, drop, length-append, length-drop, refl, sym, ap, subst, ◌∙◌, arith}
use Rattle.std.proofs.Math.Seq.{drop-append_seam}
use Rattle.std.proofs.lemmas.List.{drop-append-le, get_or_default, take-append-le, take_all}
use Rattle.craig_spec.specs.Literal.{Clause}
use Rattle.craig_search.specs.StoredJournal.{AreEnds, clauses_at_ends}

-- no end is behind the literals
ends-within : (start : ℕ) (ends : List ℕ) (ls : Clause) → AreEnds start ends ls → start ≤ length ls
ends-within start [] ls are = omega arith
ends-within start (stop ∷ ends) ls are = let low : stop ≤ length ls = ends-within stop ends ls are.1 in omega (arith, are.0)

-- one clause more
pub AreEnds-push : (start : ℕ) (ends : List ℕ) (ls added : Clause) (stop : ℕ) → AreEnds start ends ls → stop ≡ length (ls ++ added) → AreEnds start (ends ++ stop ∷ []) (ls ++ added)
AreEnds-push start [] ls added stop are is =
    let size : length (ls ++ added) ≡ length ls + length added = length-append ls added in
    (omega arith, is)
AreEnds-push start (first ∷ ends) ls added stop are is = (are.0, AreEnds-push first ends ls added stop are.1 is)

part-kept : (ls added : Clause) (start n : ℕ) → start + n ≤ length ls → take n (drop start (ls ++ added)) ≡ take n (drop start ls)
part-kept ls added start n within =
    let size : length (drop start ls) ≡ length ls - start = length-drop start ls in
    ap (λ (c : Clause). take n c) (drop-append-le start ls added (omega arith)) ∙ take-append-le n (drop start ls) added (omega arith)

last-part : (ls added : Clause) (start stop : ℕ) → start ≡ length ls → stop ≡ length (ls ++ added) → take (stop - start) (drop start (ls ++ added)) ≡ added
last-part ls added start stop are is =
    let size : length (ls ++ added) ≡ length ls + length added = length-append ls added in
    let rest : drop start (ls ++ added) ≡ added = subst (λ (n : ℕ). drop n (ls ++ added) ≡ added) (sym are) (drop-append_seam ls added) in
    ap (λ (c : Clause). take (stop - start) c) rest ∙ take_all (stop - start) added (omega arith)

pub clauses_at_ends-push : (start : ℕ) (ends : List ℕ) (ls added : Clause) (stop : ℕ) → AreEnds start ends ls → stop ≡ length (ls ++ added) → clauses_at_ends start (ends ++ stop ∷ []) (ls ++ added) ≡ clauses_at_ends start ends ls ++ added ∷ []
clauses_at_ends-push start [] ls added stop are is = ap (λ (c : Clause). c ∷ []) (last-part ls added start stop are is)
clauses_at_ends-push start (first ∷ ends) ls added stop are is =
    let low : first ≤ length ls = ends-within first ends ls are.1 in
    let up : start ≤ first = are.0 in
    let kept : take (first - start) (drop start (ls ++ added)) ≡ take (first - start) (drop start ls) = part-kept ls added start (first - start) (omega arith) in
    ap (λ (c : Clause). c ∷ clauses_at_ends first (ends ++ stop ∷ []) (ls ++ added)) kept ∙ ap (λ (cs : List Clause). take (first - start) (drop start ls) ∷ cs) (clauses_at_ends-push first ends ls added stop are.1 is)

-- there are as many as ends
pub length-clauses_at_ends : (start : ℕ) (ends : List ℕ) (ls : Clause) → length (clauses_at_ends start ends ls) ≡ length ends
length-clauses_at_ends start [] ls = refl
length-clauses_at_ends start (stop ∷ ends) ls = ap suc (length-clauses_at_ends stop ends ls)

-- the clause at a place lies between the end before it and its own
pub clause_at_ends : (start : ℕ) (ends : List ℕ) (ls : Clause) (k : ℕ) (d : Clause) → k < length ends → get_or (clauses_at_ends start ends ls) k d ≡ take (get_or ends k 0 - get_or (start ∷ ends) k 0) (drop (get_or (start ∷ ends) k 0) ls)
clause_at_ends start [] ls k d within = absurd (omega arith)
clause_at_ends start (stop ∷ ends) ls zero d within = refl
clause_at_ends start (stop ∷ ends) ls (suc k) d within = clause_at_ends stop ends ls k d (omega arith)

pub between-within : (start : ℕ) (ends : List ℕ) (ls : Clause) (k : ℕ) → AreEnds start ends ls → k < length ends → (get_or (start ∷ ends) k 0 ≤ get_or ends k 0) × (get_or ends k 0 ≤ length ls)
between-within start [] ls k are within = absurd (omega arith)
between-within start (stop ∷ ends) ls zero are within = (are.0, ends-within stop ends ls are.1)
between-within start (stop ∷ ends) ls (suc k) are within = between-within stop ends ls k are.1 (omega arith)

-- a place in the list is one of an end
pub place-within : (ends : List ℕ) (ls : Clause) (view : List Clause) (k : ℕ) → clauses_at_ends 0 ends ls ≡ view → k < length view → k < length ends
place-within ends ls view k is within =
    let many : length (clauses_at_ends 0 ends ls) ≡ length ends = length-clauses_at_ends 0 ends ls in
    let same : length (clauses_at_ends 0 ends ls) ≡ length view = ap (λ (cs : List Clause). length cs) is in
    omega arith

-- where a clause that is read begins and ends
module _ (ends shown : List ℕ) (ls : Clause) (view : List Clause) (k start stop : ℕ) (are : AreEnds 0 ends ls) (is : clauses_at_ends 0 ends ls ≡ view) (within : k < length view) (same : shown ≡ ends) (from : start ≡ get_or (0 ∷ shown) k 0) (at : stop ≡ get_or ends k stop) where
  begins : start ≡ get_or (0 ∷ ends) k 0
  begins = subst (λ (xs : List ℕ). start ≡ get_or (0 ∷ xs) k 0) same from

  stops : stop ≡ get_or ends k 0
  stops = at ∙ get_or_default ends k stop 0 (place-within ends ls view k is within)

  pub part-within : (start ≤ stop) × (stop ≤ length ls)
  part-within =
      let inside = between-within 0 ends ls k are (place-within ends ls view k is within) in
      let low : get_or (0 ∷ ends) k 0 ≤ get_or ends k 0 = inside.0 in
      let high : get_or ends k 0 ≤ length ls = inside.1 in
      let one : start ≡ get_or (0 ∷ ends) k 0 = begins in
      let other : stop ≡ get_or ends k 0 = stops in
      (omega arith, omega arith)

  pub part-is : take (stop - start) (drop start ls) ≡ get_or view k []
  part-is =
      ap (λ (n : ℕ). take (stop - n) (drop n ls)) begins ∙ ap (λ (n : ℕ). take (n - get_or (0 ∷ ends) k 0) (drop (get_or (0 ∷ ends) k 0) ls)) stops ∙ sym (clause_at_ends 0 ends ls k [] (place-within ends ls view k is within)) ∙ ap (λ (cs : List Clause). get_or cs k []) is
