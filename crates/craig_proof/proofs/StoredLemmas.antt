-- The places of rows whose numbers rise.
use Rattle.std.proofs.Common.{◌≡◌, ℕ, ◌<◌, ◌≤◌, true, false, List, length, get_or, map, AllPairs, ltb, ap, arith}
use Rattle.std.specs.List.Sorted.{IsPartitionedBy, IsPartitionPoint}
use Rattle.std.proofs.lemmas.List.{length-map}
use Rattle.std.proofs.lemmas.Bool.Decides.{nat_tests}
use Rattle.std.proofs.Math.ListN.{get_or-map}
use Rattle.craig_spec.specs.Chain.{ToldStep}

-- the ids rise in the rows as they do in what they tell
pub rising_rows : {R : Type 0} (f : R → ToldStep) (xs : List R) → AllPairs (λ r s. r.id < s.id) (map f xs) → AllPairs (λ r s. (f r).id < (f s).id) xs
rising_rows f xs rising i j d before within =
    let h = rising i j (f d) before (rw length-map within) in
    rw (get_or-map f xs i d, get_or-map f xs j d) at h

-- the test of the search holds of a front of the steps
pub partitioned_at : (x y id i j : ℕ) → i ≤ j → ltb y id ≡ true → (i < j → x < y) → (i ≡ j → x ≡ y) → ltb x id ≡ true
partitioned_at x y id i j le h rises same = grind (arith, nat_tests)

pub IsPartitionedBy-ids : {R : Type 0} (f : R → ℕ) (xs : List R) (id : ℕ) → AllPairs (λ r s. f r < f s) xs → IsPartitionedBy (λ s. ltb (f s) id) xs
IsPartitionedBy-ids f xs id rising i j d le within h =
    partitioned_at (f (get_or xs i d)) (f (get_or xs j d)) id i j le h (λ before. rising i j d before within) (λ same. ap (λ k. f (get_or xs k d)) same)

pub not_below : (x id : ℕ) → ltb x id ≡ true → x ≡ id → ⊥
not_below x id h e = grind (arith, nat_tests)

pub not_above : (x id : ℕ) → ltb x id ≡ false → x < id → ⊥
not_above x id h lt = grind (arith, nat_tests)

-- and the place where it ends is that of the id
pub place_found : {R : Type 0} (f : R → ℕ) (xs : List R) (id r : ℕ) → AllPairs (λ r s. f r < f s) xs → IsPartitionPoint (λ s. ltb (f s) id ≡ true) (λ s. ltb (f s) id ≡ false) xs r → (k : ℕ) (d : R) → k < length xs → f (get_or xs k d) ≡ id → r ≡ k
place_found f xs id r rising point k d within at =
    let before : k < r → ⊥ = λ lt. not_below (f (get_or xs k d)) id (point.0 k d (omega arith) lt) at in
    let after : r < k → ⊥ = λ lt. not_above (f (get_or xs r d)) id (point.1 r d (omega arith) (omega arith)) (let up : f (get_or xs r d) < f (get_or xs k d) = rising r k d lt within in omega arith) in
    omega (arith, before, after)

-- an id stands at one place
pub one_place : {R : Type 0} (f : R → ℕ) (xs : List R) (i j : ℕ) (d : R) → AllPairs (λ r s. f r < f s) xs → i < length xs → j < length xs → f (get_or xs i d) ≡ f (get_or xs j d) → i ≡ j
one_place f xs i j d rising here there same =
    let before : i < j → ⊥ = λ lt. (let up : f (get_or xs i d) < f (get_or xs j d) = rising i j d lt there in omega arith) in
    let after : j < i → ⊥ = λ lt. (let up : f (get_or xs j d) < f (get_or xs i d) = rising j i d lt here in omega arith) in
    omega (arith, before, after)
