-- Laws of the order by depth.
use Rattle.std.proofs.Common.{◌≡◌, ℕ, zero, suc, ◌+◌, ◌<◌, ◌≤◌, Bool, true, false, not, ◌&&◌, eqb, List, [], ◌∷◌, ◌++◌, length, map, take, get_or, All, Option, Some, None, Result, Ok, Err, ⊎_elim, refl, sym, ◌∙◌, ap, arith}
use Rattle.std.proofs.lemmas.Bool.{cases_lt}
use Rattle.std.proofs.lemmas.Bool.Decides.{nat_tests}
use Rattle.std.proofs.lemmas.List.{get_or-map, get_or_default, length-map, map-append, map_push, take_more}
use Rattle.std.proofs.lemmas.List.FromFn.{get_or-map-range_with_len, length-map-range_with_len, map-range_with_len_more}
use Rattle.std.proofs.lemmas.List.Sorted.{All-permutation, length_permutation}
use Rattle.std.specs.Prelude.{filter, IfOk, IsPermutation}
use Rattle.std.specs.List.{flat_map, range_with_len}
use Rattle.std.specs.List.Sorted.{IsNonDecreasingBy, ties}
use Rattle.std.specs.Option.{unwrap_or}
use Rattle.std.specs.Ordering.{is_lt, nat_cmp}
use Rattle.craig_spec.specs.AigerReading.{is_depth}
use Rattle.craig_aiger_read.specs.declared.order.Ranked.{Ranked}
use Rattle.craig_aiger_read.specs.Ranks.{has_depth, ranks}
use Rattle.craig_aiger_read.specs.ReadOrder.{AreDeep, order_by}

-- two tests that agree keep the same
same-by : {X : Type 0} (p q : X → Bool) (x : X) (xs : List X) (t : Bool) → p x ≡ t → q x ≡ t → filter p xs ≡ filter q xs → filter p (x ∷ xs) ≡ filter q (x ∷ xs)
same-by p q x xs true a b h = rw (a, b, h) refl
same-by p q x xs false a b h = rw (a, b, h) refl

pub filter-same : {X : Type 0} (p q : X → Bool) (xs : List X) → ((x : X) → p x ≡ q x) → filter p xs ≡ filter q xs
filter-same p q [] h = refl
filter-same p q (x ∷ xs) h = same-by p q x xs (q x) (h x) refl (filter-same p q xs h)

filter-no : {X : Type 0} (p : X → Bool) (x : X) (xs : List X) → p x ≡ false → filter p (x ∷ xs) ≡ filter p xs
filter-no p x xs e = rw e refl

filter-yes : {X : Type 0} (p : X → Bool) (x : X) (xs : List X) → p x ≡ true → filter p (x ∷ xs) ≡ x ∷ filter p xs
filter-yes p x xs e = rw e refl

-- gates that all lie deeper
record AllFrom (m : ℕ) (rs : List Ranked) : Type 0 where
  from : (k : ℕ) (d : Ranked) → k < length rs → m ≤ (get_or rs k d).depth

filter-above : (n m : ℕ) (rs : List Ranked) → n < m → AllFrom m rs → filter (has_depth n) rs ≡ []
filter-above n m [] low h = refl
filter-above n m (r ∷ rs) low h =
    let other : has_depth n r ≡ false = grind (arith, nat_tests, h.from 0 r (omega arith)) in
    filter-no (has_depth n) r rs other ∙ filter-above n m rs low (record { from = λ k d inside. h.from (suc k) d (omega arith) })

-- groups from a depth on that has not come yet
groups-after : (a k : ℕ) (r : Ranked) (rs : List Ranked) → r.depth < a → flat_map (λ n. filter (has_depth n) (r ∷ rs)) (range_with_len a k) ≡ flat_map (λ n. filter (has_depth n) rs) (range_with_len a k)
groups-after a zero r rs low = refl
groups-after a (suc k) r rs low =
    let other : has_depth a r ≡ false = grind (arith, nat_tests) in
    rw (filter-no (has_depth a) r rs other, groups-after (a + 1) k r rs (omega arith)) refl

-- a first gate comes first
groups-cons : (a k : ℕ) (r : Ranked) (rs : List Ranked) → AllFrom r.depth rs → a ≤ r.depth → r.depth < a + k →
    flat_map (λ n. filter (has_depth n) (r ∷ rs)) (range_with_len a k) ≡ r ∷ flat_map (λ n. filter (has_depth n) rs) (range_with_len a k)
groups-cons a zero r rs h low high = absurd (omega arith)
groups-cons a (suc k) r rs h low high =
    ⊎_elim (λ (less : a < r.depth).
    let other : has_depth a r ≡ false = grind (arith, nat_tests, less) in
    let none : filter (has_depth a) rs ≡ [] = filter-above a r.depth rs less h in
    rw (filter-no (has_depth a) r rs other, none, groups-cons (a + 1) k r rs h (omega arith) (omega arith)) refl)
    (λ (same : r.depth ≤ a).
    let own : has_depth a r ≡ true = grind (arith, nat_tests, same, low) in
    rw (filter-yes (has_depth a) r rs own, groups-after (a + 1) k r rs (omega arith)) refl)
    (cases_lt a r.depth)

groups-nil : (a k : ℕ) → flat_map (λ n. filter (has_depth n) []) (range_with_len a k) ≡ []
groups-nil a zero = refl
groups-nil a (suc k) = groups-nil (a + 1) k

-- gates by rising depth stand in groups
pub groups : (a k : ℕ) (rs : List Ranked) → IsNonDecreasingBy (λ (r : Ranked). r.depth) rs → ((i : ℕ) (d : Ranked) → i < length rs → (a ≤ (get_or rs i d).depth) × ((get_or rs i d).depth < a + k)) →
    rs ≡ flat_map (λ n. filter (has_depth n) rs) (range_with_len a k)
groups a k [] rises inside = sym (groups-nil a k)
groups a k (r ∷ rs) rises inside =
    let from : AllFrom r.depth rs = record { from = λ i d low. rises 0 (suc i) d (omega arith) (omega arith) } in
    let bounds = inside 0 r (omega arith) in
    ap (λ z. r ∷ z) (groups a k rs (λ i j d low high. rises (suc i) (suc j) d (omega arith) (omega arith)) (λ i d low. inside (suc i) d (omega arith)))
    ∙ sym (groups-cons a k r rs from bounds.0 bounds.1)

-- the groups by another list that has the same ones
groups-same : (ns : List ℕ) (xs ys : List Ranked) → ((n : ℕ) → filter (has_depth n) xs ≡ filter (has_depth n) ys) → flat_map (λ n. filter (has_depth n) xs) ns ≡ flat_map (λ n. filter (has_depth n) ys) ns
groups-same [] xs ys h = refl
groups-same (n ∷ ns) xs ys h = rw (h n, groups-same ns xs ys h) refl

-- the places of a group
depth-test : (n : ℕ) (o : Option ℕ) → 1 ≤ n → eqb (unwrap_or o 0) n ≡ is_depth n o
depth-test n None low = grind (arith, nat_tests)
depth-test n (Some d) low = refl

group-by : (depths : List (Option ℕ)) (n j : ℕ) (js : List ℕ) (t : Bool) → has_depth n (ranks depths j) ≡ t → is_depth n (get_or depths j None) ≡ t →
    map (λ (r : Ranked). r.gate) (filter (has_depth n) (map (ranks depths) js)) ≡ filter (λ j. is_depth n (get_or depths j None)) js →
    map (λ (r : Ranked). r.gate) (filter (has_depth n) (map (ranks depths) (j ∷ js))) ≡ filter (λ j. is_depth n (get_or depths j None)) (j ∷ js)
group-by depths n j js true a b h = rw (a, b, h) refl
group-by depths n j js false a b h = rw (a, b, h) refl

group-places : (depths : List (Option ℕ)) (n : ℕ) (js : List ℕ) → 1 ≤ n → map (λ (r : Ranked). r.gate) (filter (has_depth n) (map (ranks depths) js)) ≡ filter (λ j. is_depth n (get_or depths j None)) js
group-places depths n [] low = refl
group-places depths n (j ∷ js) low =
    group-by depths n j js (is_depth n (get_or depths j None)) (depth-test n (get_or depths j None) low) refl (group-places depths n js low)

groups-places : (depths : List (Option ℕ)) (a k : ℕ) (js : List ℕ) → 1 ≤ a →
    map (λ (r : Ranked). r.gate) (flat_map (λ n. filter (has_depth n) (map (ranks depths) js)) (range_with_len a k)) ≡ flat_map (λ n. filter (λ j. is_depth n (get_or depths j None)) js) (range_with_len a k)
groups-places depths a zero js low = refl
groups-places depths a (suc k) js low =
    map-append (λ (r : Ranked). r.gate) (filter (has_depth a) (map (ranks depths) js)) (flat_map (λ n. filter (has_depth n) (map (ranks depths) js)) (range_with_len (a + 1) k))
    ∙ rw (group-places depths a js low, groups-places depths (a + 1) k js (omega arith)) refl

ranked-deep : (depths : List (Option ℕ)) → AreDeep depths → All (λ (r : Ranked). (1 ≤ r.depth) × (r.depth < 1 + length depths)) (map (ranks depths) (range_with_len 0 (length depths)))
ranked-deep depths deep = λ k d inside.
    let low : k < length depths = omega (arith, inside, length-map-range_with_len (ranks depths) 0 (length depths)) in
    let p = deep k low in
    let at = get_or-map-range_with_len (ranks depths) 0 (length depths) k k d low (omega arith) in
    let is : (get_or (map (ranks depths) (range_with_len 0 (length depths))) k d).depth ≡ p.0 = ap (λ (r : Ranked). r.depth) at ∙ ap (λ z. unwrap_or z 0) p.1 in
    (omega (arith, is, p.2), omega (arith, is, p.3))

-- what a stable sort of the ranked gates leaves
pub order-sorted : (depths : List (Option ℕ)) (rs : List Ranked) → AreDeep depths → IsNonDecreasingBy (λ (r : Ranked). r.depth) rs →
    ((n : ℕ) → filter (has_depth n) rs ≡ filter (has_depth n) (map (ranks depths) (range_with_len 0 (length depths)))) → IsPermutation (map (ranks depths) (range_with_len 0 (length depths))) rs →
    map (λ (r : Ranked). r.gate) rs ≡ order_by depths
order-sorted depths rs deep rises stable moved =
    let size : ℕ = length depths in
    let xs = map (ranks depths) (range_with_len 0 size) in
    let bounded : All (λ (r : Ranked). (1 ≤ r.depth) × (r.depth < 1 + size)) rs = All-permutation (λ (r : Ranked). (1 ≤ r.depth) × (r.depth < 1 + size)) xs rs moved (ranked-deep depths deep) in
    ap (map (λ (r : Ranked). r.gate)) (groups 1 size rs rises (λ i d inside. bounded i d inside) ∙ groups-same (range_with_len 1 size) rs xs stable)
    ∙ groups-places depths 1 size (range_with_len 0 size) (omega arith)

-- one gate more
pub ranks-more : (depths : List (Option ℕ)) (i depth : ℕ) (d : Option ℕ) (ranked : List Ranked) → ranked ≡ map (ranks depths) (range_with_len 0 i) → i < length depths → depth ≡ unwrap_or (get_or depths i d) 0 →
    ranked ++ record { depth = depth; gate = i } ∷ [] ≡ map (ranks depths) (range_with_len 0 (i + 1))
ranks-more depths i depth d ranked is inside e =
    let own : depth ≡ unwrap_or (get_or depths i None) 0 = e ∙ ap (λ z. unwrap_or z 0) (get_or_default depths i d None inside) in
    ap (λ z. z ++ record { depth = depth; gate = i } ∷ []) is
    ∙ ap (λ z. map (ranks depths) (range_with_len 0 i) ++ record { depth = z; gate = i } ∷ []) own
    ∙ sym (map-range_with_len_more (ranks depths) 0 i i (omega arith))

tie-by : (n m : ℕ) → (not (is_lt (nat_cmp n m)) && not (is_lt (nat_cmp m n))) ≡ eqb m n
tie-by n m = ⊎_elim (λ (h : n < m). grind (arith, nat_tests, h)) (λ (h : m ≤ n). ⊎_elim (λ (g : m < n). grind (arith, nat_tests, g)) (λ (g : n ≤ m). grind (arith, nat_tests, g, h)) (cases_lt m n)) (cases_lt n m)

-- those that tie have one depth
pub stable-depth : (n : ℕ) (xs ys : List Ranked) → ((x : Ranked) → filter (ties (λ (a b : Ranked). is_lt (nat_cmp a.depth b.depth)) x) ys ≡ filter (ties (λ (a b : Ranked). is_lt (nat_cmp a.depth b.depth)) x) xs) →
    filter (has_depth n) ys ≡ filter (has_depth n) xs
stable-depth n xs ys h =
    let x : Ranked = record { depth = n; gate = 0 } in
    let same : (r : Ranked) → ties (λ (a b : Ranked). is_lt (nat_cmp a.depth b.depth)) x r ≡ has_depth n r = λ r. tie-by n r.depth in
    sym (filter-same (ties (λ (a b : Ranked). is_lt (nat_cmp a.depth b.depth)) x) (has_depth n) ys same) ∙ h x ∙ filter-same (ties (λ (a b : Ranked). is_lt (nat_cmp a.depth b.depth)) x) (has_depth n) xs same

pub IfOk-then : {X E : Type 0} (P Q : X → Type 0) (r : Result X E) → IfOk r P → ((x : X) → P x → Q x) → IfOk r Q
IfOk-then P Q (Ok x) h f = f x h
IfOk-then P Q (Err e) h f = tt

pub ranked-long : (depths : List (Option ℕ)) (rs : List Ranked) → IsPermutation (map (ranks depths) (range_with_len 0 (length depths))) rs → length (map (λ (r : Ranked). r.gate) rs) ≡ length depths
ranked-long depths rs h =
    length-map rs (λ (r : Ranked). r.gate) ∙ length_permutation (map (ranks depths) (range_with_len 0 (length depths))) rs h ∙ length-map-range_with_len (ranks depths) 0 (length depths)

ranked-low : (depths : List (Option ℕ)) → All (λ (r : Ranked). r.gate < length depths) (map (ranks depths) (range_with_len 0 (length depths)))
ranked-low depths = λ k d inside.
    let low : k < length depths = omega (arith, inside, length-map-range_with_len (ranks depths) 0 (length depths)) in
    let at = get_or-map-range_with_len (ranks depths) 0 (length depths) k k d low (omega arith) in
    omega (arith, low, ap (λ (r : Ranked). r.gate) at)

pub ranked-inside : (depths : List (Option ℕ)) (rs : List Ranked) (gates : List ℕ) → IsPermutation (map (ranks depths) (range_with_len 0 (length depths))) rs → gates ≡ map (λ (r : Ranked). r.gate) rs →
    All (λ j. j < length depths) gates
ranked-inside depths rs gates h is = λ k d inside.
    let all : All (λ (r : Ranked). r.gate < length depths) rs = All-permutation (λ (r : Ranked). r.gate < length depths) _ rs h (ranked-low depths) in
    let low : k < length rs = omega (arith, inside, ap length is, length-map rs (λ (r : Ranked). r.gate)) in
    let x : Ranked = record { depth = 0; gate = 0 } in
    let at : get_or gates k d ≡ (get_or rs k x).gate = ap (λ z. get_or z k d) is ∙ get_or-map (λ (r : Ranked). r.gate) rs k x d low in
    omega (arith, at, all k x low)

-- the order by depths that are those of a function
filter-range-same : (p q : ℕ → Bool) (a n : ℕ) → ((j : ℕ) → a ≤ j → j < a + n → p j ≡ q j) → filter p (range_with_len a n) ≡ filter q (range_with_len a n)
filter-range-same p q a zero h = refl
filter-range-same p q a (suc n) h = same-by p q a (range_with_len (a + 1) n) (q a) (h a (omega arith) (omega arith)) refl (filter-range-same p q (a + 1) n (λ j low high. h j (omega arith) (omega arith)))

groups-range-same : (p q : ℕ → ℕ → Bool) (js ns : List ℕ) → ((n : ℕ) → filter (p n) js ≡ filter (q n) js) → flat_map (λ n. filter (p n) js) ns ≡ flat_map (λ n. filter (q n) js) ns
groups-range-same p q js [] h = refl
groups-range-same p q js (n ∷ ns) h = rw (h n, groups-range-same p q js ns h) refl

pub order-by-function : (f : ℕ → Option ℕ) (n : ℕ) (depths : List (Option ℕ)) → depths ≡ map f (range_with_len 0 n) →
    order_by depths ≡ flat_map (λ k. filter (λ j. is_depth k (f j)) (range_with_len 0 n)) (range_with_len 1 n)
order-by-function f n depths is =
    let size : length depths ≡ n = ap length is ∙ length-map-range_with_len f 0 n in
    ap (λ z. flat_map (λ k. filter (λ j. is_depth k (get_or depths j None)) (range_with_len 0 z)) (range_with_len 1 z)) size
    ∙ groups-range-same (λ k j. is_depth k (get_or depths j None)) (λ k j. is_depth k (f j)) (range_with_len 0 n) (range_with_len 1 n)
    (λ k. filter-range-same (λ j. is_depth k (get_or depths j None)) (λ j. is_depth k (f j)) 0 n
    (λ j low high. ap (is_depth k) (ap (λ z. get_or z j None) is ∙ get_or-map-range_with_len f 0 n j j None (omega arith) (omega arith))))

-- one more of the first
pub map_take-next : {X Y : Type 0} (f : X → Y) (xs : List X) (i : ℕ) (d : X) (ys : List Y) → ys ≡ map f (take i xs) → i < length xs → ys ++ f (get_or xs i d) ∷ [] ≡ map f (take (i + 1) xs)
map_take-next f xs i d ys e h = ap (λ z. z ++ f (get_or xs i d) ∷ []) e ∙ sym (map_push f (take i xs) (get_or xs i d)) ∙ ap (map f) (sym (take_more xs i d h))
