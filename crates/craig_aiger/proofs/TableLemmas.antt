-- What the nodes of a table give, one after another.
use Rattle.std.proofs.Common.{◌≡◌, inl, inr, ℕ, zero, suc, ◌+◌, ◌^◌, ◌<◌, ◌≤◌, true, false, Fits, w64, List, [], ◌∷◌, ◌++◌, length, get_or, take, map, Option, Some, None, All, Contains, slice_get, refl, sym, ap, ◌∙◌, subst, arith, length-append}
use Rattle.craig_aiger.proofs.NeededLemmas.{before_or_at}
use Rattle.std.proofs.lemmas.Option.{none-some, same_Some}
use Rattle.std.proofs.lemmas.List.{append-nil}
use Rattle.std.specs.List.{filter_map, cons_option}
use Rattle.std.specs.Option.{is_some}
use Rattle.std.specs.List.Sorted.{IsStrictlyIncreasing, IsPermutation, IsSorted}
use Rattle.std.proofs.lemmas.List.{get_or_default, get_or_at, get_or_append_left, take_more, map-append}
use Rattle.std.proofs.lemmas.List.Elements.{filter_map-append}
use native.Mathlib.Decide.{dec_lt}
use Rattle.std.proofs.Common.{eqb, Err, ◌-◌}
use Rattle.std.specs.Ordering.{nat_cmp}
use Rattle.std.specs.List.Sorted.{IsBinarySearchResult}
use Rattle.std.specs.List.Retain.{IsFiltered, DiffersFromLast}
use Rattle.std.proofs.lemmas.List.Sorted.{searched, Contains-permutation, IsPermutation-sym}
use Rattle.std.proofs.lemmas.List.Filters.{dedup_is}
use Rattle.std.proofs.lemmas.List.Kept.{Contains-dedup_nat, Contains-from_dedup}
use Rattle.std.proofs.lemmas.Map.Keys.{IsStrictlyIncreasing-dedup}
use Rattle.std.proofs.lemmas.Option.{get_or_from_slice_get}
use Rattle.craig_aig.specs.Edges.{Edge}
use Rattle.craig_aig.specs.declared.node.Node.{Node}
use Rattle.craig_aig.specs.declared.node.Node.TheVariants.{Constant, Input, Gate}
use Rattle.craig_aiger.specs.Layouts.{at, node_variable, node_operands, AreNamed, IsNumber, IsNumbering}

-- one more
pub filter_map-more : {X Y : Type 0} (h : X → Option Y) (xs : List X) (i : ℕ) (x : X) → i < length xs → filter_map h (take (i + 1) xs) ≡ filter_map h (take i xs) ++ cons_option (h (get_or xs i x)) []
filter_map-more h xs i x within = ap (filter_map h) (take_more xs i x within) ∙ filter_map-append h (take i xs) (get_or xs i x ∷ [])

-- one more that gives something
pub filter_map-some : {X Y : Type 0} (h : X → Option Y) (xs : List X) (i : ℕ) (x : X) (y : Y) → i < length xs → h (get_or xs i x) ≡ Some y → filter_map h (take (i + 1) xs) ≡ filter_map h (take i xs) ++ y ∷ []
filter_map-some h xs i x y within e = filter_map-more h xs i x within ∙ ap (λ o. filter_map h (take i xs) ++ cons_option o []) e

-- one more that gives nothing
pub filter_map-none : {X Y : Type 0} (h : X → Option Y) (xs : List X) (i : ℕ) (x : X) → i < length xs → h (get_or xs i x) ≡ None → filter_map h (take (i + 1) xs) ≡ filter_map h (take i xs)
filter_map-none h xs i x within e = filter_map-more h xs i x within ∙ ap (λ o. filter_map h (take i xs) ++ cons_option o []) e ∙ append-nil (filter_map h (take i xs))

-- an input that is read from the table
pub named_at : (names : List ℕ) (table : List (Option Node)) (k : ℕ) (x : Option Node) (v : ℕ) → AreNamed names table → k < length table → node_variable (get_or table k x) ≡ Some v → v < length names
named_at names table k x v h within e = h k v (ap node_variable (get_or_default table k None x within) ∙ e)

-- where the numbers rise, so do those further apart
rises_by : (xs : List ℕ) → IsStrictlyIncreasing xs → (i d : ℕ) → i + d < length xs → get_or xs i 0 ≤ get_or xs (i + d) 0
rises_by xs h i zero within = let e : i + zero ≡ i = omega arith in rw e (omega arith)
rises_by xs h i (suc d) within =
    let e : i + suc d ≡ (i + d) + 1 = omega arith in
    let before : get_or xs i 0 ≤ get_or xs (i + d) 0 = rises_by xs h i d (omega arith) in
    let step : get_or xs (i + d) 0 < get_or xs ((i + d) + 1) 0 = h (i + d) (omega arith) in
    rw e (omega (arith, before, step))

pub rises : (xs : List ℕ) → IsStrictlyIncreasing xs → (i j : ℕ) → i ≤ j → j < length xs → get_or xs i 0 ≤ get_or xs j 0
rises xs h i j order within = let e : i + (j - i) ≡ j = omega arith in rw e at (rises_by xs h i (j - i) (omega (arith, e)))

-- what is in the list is found
pub found : (xs : List ℕ) (x e : ℕ) → IsStrictlyIncreasing xs → Contains xs x → IsBinarySearchResult (λ y. nat_cmp y x) xs (Err e) → ⊥
found xs x e h (i, within, is) r =
    let s = searched xs x (Err e) r (rises xs h) in
    let at0 : get_or xs i 0 ≡ x = get_or_default xs i 0 x within ∙ is in
    elim (dec_lt i e) [
      | Prim.yes lt ↦ (let b : get_or xs i 0 < x = s.1 i lt in omega (arith, at0, b))
      | Prim.no not_below ↦ (let not_lt : i < e → ⊥ = not_below in let b : x < get_or xs i 0 = s.2 i (omega (arith, not_lt)) within in omega (arith, at0, b))
    ]

-- what is left of a sorted list rises, and has the same members
module _ (old sorted new : List ℕ) (permutation : IsPermutation old sorted) (order : IsSorted nat_cmp sorted) (filtered : IsFiltered (DiffersFromLast eqb) [] sorted new) where
  pub dedup_rises : IsStrictlyIncreasing new
  dedup_rises = subst IsStrictlyIncreasing (sym (dedup_is eqb sorted new filtered)) (IsStrictlyIncreasing-dedup sorted order)

  pub dedup_has : (x : ℕ) → Contains old x → Contains new x
  dedup_has x h = subst (λ l. Contains l x) (sym (dedup_is eqb sorted new filtered)) (Contains-dedup_nat sorted x (Contains-permutation old sorted x permutation h))

  pub dedup_from : (x : ℕ) → Contains new x → Contains old x
  dedup_from x h = Contains-permutation sorted old x (IsPermutation-sym old sorted permutation) (Contains-from_dedup eqb sorted x (subst (λ l. Contains l x) (dedup_is eqb sorted new filtered) h))

-- the numbers of the three kinds of nodes
pub numbered_input : (names inputs : List ℕ) (before : List (Option Node)) (n : Option Node) (v m name : ℕ) → node_variable n ≡ Some v → slice_get names v ≡ Some name → v < length names →
    ((i : ℕ) × (m ≡ 1 + i) × (slice_get inputs i ≡ Some name)) → IsNumber names inputs before n m
numbered_input names inputs before None v m name e at within place = absurd (none-some v e)
numbered_input names inputs before (Some Constant) v m name e at within place = absurd (none-some v e)
numbered_input names inputs before (Some (Gate l r)) v m name e at within place = absurd (none-some v e)
numbered_input names inputs before (Some (Input x)) v m name e at within place =
    let same : x.0 ≡ v = same_Some x.0 v e in
    let named : get_or names v 0 ≡ name = get_or_from_slice_get names v name 0 at in
    (place.0, place.1, place.2 ∙ ap Some (sym (ap (λ k. get_or names k 0) same ∙ named)), omega (arith, same, within))

-- whether a node has operands tells a gate from the others
pub numbered_some : (names inputs : List ℕ) (before : List (Option Node)) (n : Option Node) (m : ℕ) → is_some (node_operands n) ≡ true → m ≡ 1 + length inputs + length (filter_map node_operands before) →
    IsNumber names inputs before n m
numbered_some names inputs before None m e is = cc
numbered_some names inputs before (Some Constant) m e is = cc
numbered_some names inputs before (Some (Input x)) m e is = cc
numbered_some names inputs before (Some (Gate l r)) m e is = is

pub numbered_none : (names inputs : List ℕ) (before : List (Option Node)) (n : Option Node) → node_variable n ≡ None → is_some (node_operands n) ≡ false → IsNumber names inputs before n 0
numbered_none names inputs before None e f = tt
numbered_none names inputs before (Some Constant) e f = refl
numbered_none names inputs before (Some (Input x)) e f = absurd (none-some x.0 (sym e))
numbered_none names inputs before (Some (Gate l r)) e f = cc

-- numbers are small
pub next-small : (i n : ℕ) → i < n → n < 2 ^ 41 → 1 + i < 2 ^ 42
next-small i n low few = omega arith

pub next-fits : (i n : ℕ) → i < n → n < 2 ^ 41 → Fits w64 (1 + i)
next-fits i n low few = omega arith

pub larger-small : (n : ℕ) → n < 2 ^ 42 → n < 2 ^ 43
larger-small n low = omega arith

pub none-small : 0 < 2 ^ 42
none-small = omega arith

-- the first nodes of the table have their numbers
pub record Numbered (names inputs : List ℕ) (table : List (Option Node)) (numbers : List ℕ) (i : ℕ) : Type 0 where
  pub lengths : length numbers ≡ i
  pub each : (k : ℕ) → k < i → IsNumber names inputs (take k table) (at table k) (get_or numbers k 0)

pub Numbered-more : (names inputs : List ℕ) (table : List (Option Node)) (numbers new : List ℕ) (i m : ℕ) (x : Option Node) → x ≡ get_or table i x → i < length table → Numbered names inputs table numbers i → IsNumber names inputs (take i table) x m → new ≡ numbers ++ m ∷ [] → Numbered names inputs table new (i + 1)
Numbered-more names inputs table numbers new i m x read within h number is = record {
  lengths = let l : length (numbers ++ m ∷ []) ≡ length numbers + length (m ∷ []) = length-append numbers (m ∷ []) in omega (arith, l, ap length is, h.lengths);
  each = λ k below.
      elim (before_or_at k i below) [
        | inl here ↦
            (let e : x ≡ at table k = read ∙ get_or_default table i x None within ∙ ap (at table) (sym here) in
            let v : m ≡ get_or new k 0 = sym (ap (λ l. get_or l k 0) is ∙ get_or_at numbers m [] 0 k (h.lengths ∙ sym here)) in
            subst (λ n. IsNumber names inputs (take k table) (at table k) n) v (subst (λ o. IsNumber names inputs (take k table) o m) e (subst (λ j. IsNumber names inputs (take j table) x m) (sym here) number)))
        | inr lower ↦
            (let v : get_or numbers k 0 ≡ get_or new k 0 = sym (ap (λ l. get_or l k 0) is ∙ get_or_append_left numbers (m ∷ []) 0 k (omega (arith, h.lengths))) in
            subst (λ n. IsNumber names inputs (take k table) (at table k) n) v (h.each k lower))
      ];
}

pub Numbered-done : (names inputs : List ℕ) (table : List (Option Node)) (numbers : List ℕ) (i : ℕ) → i ≤ length table → length table ≤ i → Numbered names inputs table numbers i → IsNumbering names inputs table numbers
Numbered-done names inputs table numbers i low high h = record {
  lengths = omega (arith, h.lengths);
  each = λ k within. h.each k (omega arith);
}

pub All-more : {X : Type 0} (P : X → Type 0) (xs new : List X) (m : X) → All P xs → P m → new ≡ xs ++ m ∷ [] → All P new
All-more P xs new m h p is = subst (λ l. All P l) (sym is) (λ k d within.
    let l : length (xs ++ m ∷ []) ≡ length xs + length (m ∷ []) = length-append xs (m ∷ []) in
    elim (before_or_at k (length xs) (omega arith)) [
      | inl here ↦ subst P (sym (get_or_at xs m [] d k (sym here))) p
      | inr lower ↦ subst P (sym (get_or_append_left xs (m ∷ []) d k lower)) (h k d lower)
    ])

one_gate : (o : Option (Edge × Edge)) → length (cons_option o []) ≤ 1
one_gate None = omega arith
one_gate (Some p) = omega arith

-- one node more is at most one gate more
pub gates_more : (table : List (Option Node)) (i : ℕ) (x : Option Node) → x ≡ get_or table i x → i < length table → length (filter_map node_operands (take (i + 1) table)) ≡ length (filter_map node_operands (take i table)) + length (filter_map node_operands (x ∷ []))
gates_more table i x read within =
    ap length (filter_map-more node_operands table i x within) ∙ length-append (filter_map node_operands (take i table)) (cons_option (node_operands (get_or table i x)) [])
    ∙ ap (λ o. length (filter_map node_operands (take i table)) + length (cons_option (node_operands o) [])) (sym read)

pub one_node : (x : Option Node) → length (filter_map node_operands (x ∷ [])) ≤ 1
one_node x = one_gate (node_operands x)

-- what the table has at a place is among what it has
contains_here : (o : Option ℕ) (rest : List ℕ) (v : ℕ) → o ≡ Some v → Contains (cons_option o rest) v
contains_here None rest v e = absurd (none-some v e)
contains_here (Some x) rest v e = (0, omega arith, same_Some x v e)

contains_later : (o : Option ℕ) (rest : List ℕ) (v : ℕ) → Contains rest v → Contains (cons_option o rest) v
contains_later None rest v h = h
contains_later (Some x) rest v (k, within, is) = (suc k, omega arith, is)

contains_input : (table : List (Option Node)) (i v : ℕ) (x : Option Node) → i < length table → node_variable (get_or table i x) ≡ Some v → Contains (filter_map node_variable table) v
contains_input [] i v x within e = absurd (omega arith)
contains_input (n ∷ table) zero v x within e = contains_here (node_variable n) (filter_map node_variable table) v e
contains_input (n ∷ table) (suc i) v x within e = contains_later (node_variable n) (filter_map node_variable table) v (contains_input table i v x (omega arith) e)

contains_map : (f : ℕ → ℕ) (xs : List ℕ) (v : ℕ) → Contains xs v → Contains (map f xs) (f v)
contains_map f [] v (k, within, is) = absurd (omega arith)
contains_map f (x ∷ xs) v (zero, within, is) = (0, omega arith, ap f is)
contains_map f (x ∷ xs) v (suc k, within, is) = let p = contains_map f xs v (k, omega arith, is) in (suc p.0, omega (arith, p.1), p.2)

pub named_input : (names inputs : List ℕ) (table : List (Option Node)) (i v : ℕ) (x : Option Node) → AreNamed names table → ((y : ℕ) → Contains (map (λ k. get_or names k 0) (filter_map node_variable table)) y → Contains inputs y) → x ≡ get_or table i x → i < length table → node_variable x ≡ Some v → (v < length names) × Contains inputs (get_or names v 0)
named_input names inputs table i v x named there read within e =
    let at_i : node_variable (get_or table i x) ≡ Some v = ap node_variable (sym read) ∙ e in
    (named_at names table i x v named within at_i, there (get_or names v 0) (contains_map (λ k. get_or names k 0) (filter_map node_variable table) v (contains_input table i v x within at_i)))

-- the names of one input more
pub names-some : (names : List ℕ) (table : List (Option Node)) (k : ℕ) (x : Option Node) (v name : ℕ) → k < length table → node_variable (get_or table k x) ≡ Some v → slice_get names v ≡ Some name →
    map (λ i. get_or names i 0) (filter_map node_variable (take (k + 1) table)) ≡ map (λ i. get_or names i 0) (filter_map node_variable (take k table)) ++ name ∷ []
names-some names table k x v name within e at =
    ap (map (λ i. get_or names i 0)) (filter_map-some node_variable table k x v within e) ∙ map-append (λ i. get_or names i 0) (filter_map node_variable (take k table)) (v ∷ [])
    ∙ ap (λ z. map (λ i. get_or names i 0) (filter_map node_variable (take k table)) ++ z ∷ []) (get_or_from_slice_get names v name 0 at)

pub names-none : (names : List ℕ) (table : List (Option Node)) (k : ℕ) (x : Option Node) → k < length table → node_variable (get_or table k x) ≡ None →
    map (λ i. get_or names i 0) (filter_map node_variable (take (k + 1) table)) ≡ map (λ i. get_or names i 0) (filter_map node_variable (take k table))
names-none names table k x within e = ap (map (λ i. get_or names i 0)) (filter_map-none node_variable table k x within e)

-- one gate more
pub gates-some : {G : Type 0} (f : (Edge × Edge) → G) (table : List (Option Node)) (k : ℕ) (x : Option Node) (p : Edge × Edge) → k < length table → node_operands (get_or table k x) ≡ Some p →
    map f (filter_map node_operands (take (k + 1) table)) ≡ map f (filter_map node_operands (take k table)) ++ f p ∷ []
gates-some f table k x p within e = ap (map f) (filter_map-some node_operands table k x p within e) ∙ map-append f (filter_map node_operands (take k table)) (p ∷ [])

pub gates-none : {G : Type 0} (f : (Edge × Edge) → G) (table : List (Option Node)) (k : ℕ) (x : Option Node) → k < length table → node_operands (get_or table k x) ≡ None →
    map f (filter_map node_operands (take (k + 1) table)) ≡ map f (filter_map node_operands (take k table))
gates-none f table k x within e = ap (map f) (filter_map-none node_operands table k x within e)

-- what holds of each of a list holds of each of a list whose members are all among them
pub All-from_members : (P : ℕ → Type 0) (xs ys : List ℕ) → ((x : ℕ) → Contains ys x → Contains xs x) → All P xs → All P ys
All-from_members P xs ys among h k d within =
    let m = among (get_or ys k d) (k, within, get_or_default ys k (get_or ys k d) d within) in
    subst P m.2 (h m.0 (get_or ys k d) m.1)
