-- The place of an id among edges by rising id.
use Rattle.std.proofs.Common.{◌≡◌, ◌≢◌, ℕ, ◌<◌, ◌≤◌, Bool, true, false, List, Some, None, eqb, eq-eqb, length, get_or, AllPairs, Contains, ltb, ap, ◌∙◌, arith}
use Rattle.std.specs.Bool.{then_some}
use Rattle.std.specs.List.Sorted.{IsPartitionedBy, IsPartitionPoint}
use Rattle.std.proofs.lemmas.List.{get_or_default}
use Rattle.craig_aig.specs.Edges.{Edge}
use Rattle.craig_proof.proofs.StoredLemmas.{not_above, not_below, partitioned_at}
use Rattle.craig_itp.specs.declared.step_edge.StepEdge.{StepEdge}

-- the test of the search holds of a front of the edges
pub IsPartitionedBy-ids : (xs : List StepEdge) (id : ℕ) → AllPairs (λ r s. r.id.0 < s.id.0) xs → IsPartitionedBy (λ s. ltb s.id.0 id) xs
IsPartitionedBy-ids xs id rising i j d le within h =
    partitioned_at (get_or xs i d).id.0 (get_or xs j d).id.0 id i j le h (λ before. rising i j d before within) (λ same. ap (λ k. (get_or xs k d).id.0) same)

-- and the place where it ends is that of the id
place_found : (xs : List StepEdge) (id r : ℕ) → AllPairs (λ r s. r.id.0 < s.id.0) xs → IsPartitionPoint (λ s. ltb s.id.0 id ≡ true) (λ s. ltb s.id.0 id ≡ false) xs r → (k : ℕ) (d : StepEdge) → k < length xs → (get_or xs k d).id.0 ≡ id → r ≡ k
place_found xs id r rising point k d within at =
    let before : k < r → ⊥ = λ lt. not_below (get_or xs k d).id.0 id (point.0 k d (omega arith) lt) at in
    let after : r < k → ⊥ = λ lt. not_above (get_or xs r d).id.0 id (point.1 r d (omega arith) (omega arith)) (let up : (get_or xs r d).id.0 < (get_or xs k d).id.0 = rising r k d lt within in omega arith) in
    omega (arith, before, after)

-- an edge of the id stands there
pub stands_there : (xs : List StepEdge) (id r : ℕ) → AllPairs (λ r s. r.id.0 < s.id.0) xs → IsPartitionPoint (λ s. ltb s.id.0 id ≡ true) (λ s. ltb s.id.0 id ≡ false) xs r → (e : StepEdge) → Contains xs e → e.id.0 ≡ id → (r < length xs) × (get_or xs r e ≡ e)
stands_there xs id r rising point e (k, within, is) same =
    let here : r ≡ k = place_found xs id r rising point k e within (ap (λ (s : StepEdge). s.id.0) is ∙ same) in
    (omega arith, ap (λ n. get_or xs n e) here ∙ is)

-- where the place is past the end, there is no edge of the id
pub none_past : (xs : List StepEdge) (id r : ℕ) → AllPairs (λ r s. r.id.0 < s.id.0) xs → IsPartitionPoint (λ s. ltb s.id.0 id ≡ true) (λ s. ltb s.id.0 id ≡ false) xs r → length xs ≤ r → (e : StepEdge) → Contains xs e → e.id.0 ≢ id
none_past xs id r rising point past e known same = let p = stands_there xs id r rising point e known same in omega arith

-- nor where another stands there
pub none_there : (xs : List StepEdge) (id r : ℕ) (s : StepEdge) → AllPairs (λ r s. r.id.0 < s.id.0) xs → IsPartitionPoint (λ s. ltb s.id.0 id ≡ true) (λ s. ltb s.id.0 id ≡ false) xs r → s ≡ get_or xs r s → s.id.0 ≢ id → (e : StepEdge) → Contains xs e → e.id.0 ≢ id
none_there xs id r s rising point at other e known same =
    let p = stands_there xs id r rising point e known same in
    let is : s ≡ e = at ∙ get_or_default xs r s e p.0 ∙ p.1 in
    other (ap (λ (s : StepEdge). s.id.0) is ∙ same)

-- what a test that failed says
pub not_equal : (b : Bool) (x y : ℕ) (e : Edge) → then_some b e ≡ None → b ≡ eqb x y → x ≢ y
not_equal true x y e none is same = absurd (let no : Some e ≡ None = none in cc)
not_equal false x y e none is same = let yes : eqb x y ≡ true = eq-eqb x y same in cc
