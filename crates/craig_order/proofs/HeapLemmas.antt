-- Which variables stand in a heap, after two places were exchanged and after its size changed.
use Rattle.std.proofs.Common.{◌≡◌, ◌≢◌, inl, inr, ℕ, ◌+◌, ◌<◌, ◌≤◌, true, false, ltb, List, [], ◌∷◌, length, get_or, set, map, refl, sym, ap, subst, ◌∙◌, arith}
use Rattle.std.proofs.lemmas.Bool.{cases_eq, cases_lt, le-ltb, lt-ltb}
use Rattle.std.proofs.lemmas.List.{ext_get_or, get_or-map, get_or_past, get_or-set_same, get_or-set_other, length-map, length-set, set-get_or}
use Rattle.craig_order.specs.Heap.{exchanged, standing}
use Rattle.craig_order.proofs.PermutationLemmas.{exchanged-first, exchanged-second, exchanged-other}

-- an exchange of places below a size leaves what is below it
below-exchanged : (n i j p : ℕ) → i < n → j < n → ltb (exchanged i j p) n ≡ ltb p n
below-exchanged n i j p wi wj = elim (cases_eq p i) [
  | inl first ↦ subst (λ (q : ℕ). ltb (exchanged i j q) n ≡ ltb q n) (sym first) (ap (λ (q : ℕ). ltb q n) (exchanged-first i j) ∙ lt-ltb j n wj ∙ sym (lt-ltb i n wi))
  | inr one ↦ elim (cases_eq p j) [
    | inl second ↦ subst (λ (q : ℕ). ltb (exchanged i j q) n ≡ ltb q n) (sym second) (ap (λ (q : ℕ). ltb q n) (exchanged-second i j) ∙ lt-ltb i n wi ∙ sym (lt-ltb j n wj))
    | inr two ↦ ap (λ (q : ℕ). ltb q n) (exchanged-other i j p one two)
  ]
]

pub standing-exchanged : (n i j : ℕ) (places : List ℕ) → i < n → j < n → standing n (map (exchanged i j) places) ≡ standing n places
standing-exchanged n i j [] wi wj = refl
standing-exchanged n i j (p ∷ ps) wi wj = λ k. below-exchanged n i j p wi wj k ∷ standing-exchanged n i j ps wi wj k

-- whether a variable stands in a heap
pub standing-at : (n : ℕ) (places : List ℕ) (v : ℕ) → v < length places → get_or (standing n places) v false ≡ ltb (get_or places v 0) n
standing-at n places v w = get_or-map (λ (p : ℕ). ltb p n) places v 0 false w

pub standing-length : (n : ℕ) (places : List ℕ) → length (standing n places) ≡ length places
standing-length n places = length-map places (λ (p : ℕ). ltb p n)

-- where it stands there its place is below the size, and else not
pub absent-place : (n : ℕ) (places : List ℕ) (v : ℕ) → v < length places → get_or (standing n places) v false ≡ false → n ≤ get_or places v 0
absent-place n places v w absent = elim (cases_lt (get_or places v 0) n) [
  | inl low ↦ absurd (let no : true ≡ false = sym (lt-ltb (get_or places v 0) n low) ∙ sym (standing-at n places v w) ∙ absent in cc)
  | inr high ↦ high
]

pub place-absent : (n : ℕ) (places : List ℕ) (v : ℕ) → v < length places → n ≤ get_or places v 0 → get_or (standing n places) v false ≡ false
place-absent n places v w high = standing-at n places v w ∙ le-ltb (get_or places v 0) n high

pub place-present : (n : ℕ) (places : List ℕ) (v : ℕ) → v < length places → get_or places v 0 < n → get_or (standing n places) v false ≡ true
place-present n places v w low = standing-at n places v w ∙ lt-ltb (get_or places v 0) n low

-- the place of another variable is below the larger size where it was below the size
place-appended : (n p q : ℕ) → n ≤ p → q ≢ p → ltb (exchanged p n q) (n + 1) ≡ ltb q n
place-appended n p q high apart = elim (cases_eq q n) [
  | inl last ↦ subst (λ (r : ℕ). ltb (exchanged p n r) (n + 1) ≡ ltb r n) (sym last) (ap (λ (r : ℕ). ltb r (n + 1)) (exchanged-second p n) ∙ le-ltb p (n + 1) (let differ : n ≢ p = λ e. apart (last ∙ e) in omega arith) ∙ sym (le-ltb n n (omega arith)))
  | inr two ↦ ap (λ (r : ℕ). ltb r (n + 1)) (exchanged-other p n q apart two) ∙ elim (cases_lt q n) [
    | inl low ↦ lt-ltb q (n + 1) (omega arith) ∙ sym (lt-ltb q n low)
    | inr up ↦ le-ltb q (n + 1) (omega arith) ∙ sym (le-ltb q n up)
  ]
]

-- a variable is put last into a heap
pub standing-appended : (n v : ℕ) (places : List ℕ) → v < length places → n ≤ get_or places v 0 → ((w : ℕ) → w < length places → get_or places w 0 ≡ get_or places v 0 → w ≡ v) → standing (n + 1) (map (exchanged (get_or places v 0) n) places) ≡ set (standing n places) v true
standing-appended n v places known high only =
    let moved : length (map (exchanged (get_or places v 0) n) places) ≡ length places = length-map places (exchanged (get_or places v 0) n) in
    let long : length (standing (n + 1) (map (exchanged (get_or places v 0) n) places)) ≡ length places = standing-length (n + 1) (map (exchanged (get_or places v 0) n) places) ∙ moved in
    let wide : length (set (standing n places) v true) ≡ length places = length-set (standing n places) v true ∙ standing-length n places in
    ext_get_or false _ _ (long ∙ sym wide) (λ w within.
    let here : w < length places = omega arith in
    let there : w < length (map (exchanged (get_or places v 0) n) places) = omega arith in
    standing-at (n + 1) (map (exchanged (get_or places v 0) n) places) w there
    ∙ ap (λ (p : ℕ). ltb p (n + 1)) (get_or-map (exchanged (get_or places v 0) n) places w 0 0 here)
    ∙ elim (cases_eq w v) [
      | inl is ↦ subst (λ (u : ℕ). ltb (exchanged (get_or places v 0) n (get_or places u 0)) (n + 1) ≡ get_or (set (standing n places) v true) u false) (sym is)
          (ap (λ (p : ℕ). ltb p (n + 1)) (exchanged-first (get_or places v 0) n) ∙ lt-ltb n (n + 1) (omega arith) ∙ sym (get_or-set_same (standing n places) v true false (subst (λ (m : ℕ). v < m) (sym (standing-length n places)) known)))
      | inr other ↦ place-appended n (get_or places v 0) (get_or places w 0) high (λ e. other (only w here e)) ∙ sym (standing-at n places w here) ∙ sym (get_or-set_other (standing n places) v w true false other)
    ])

-- the place of another variable is below the smaller size where it was below the size
place-taken : (n q : ℕ) → q ≢ 0 → ltb (exchanged 0 n q) n ≡ ltb q (n + 1)
place-taken n q apart = elim (cases_eq q n) [
  | inl last ↦ subst (λ (r : ℕ). ltb (exchanged 0 n r) n ≡ ltb r (n + 1)) (sym last) (ap (λ (r : ℕ). ltb r n) (exchanged-second 0 n) ∙ lt-ltb 0 n (let differ : n ≢ 0 = λ e. apart (last ∙ e) in omega arith) ∙ sym (lt-ltb n (n + 1) (omega arith)))
  | inr two ↦ ap (λ (r : ℕ). ltb r n) (exchanged-other 0 n q apart two) ∙ elim (cases_lt q n) [
    | inl low ↦ lt-ltb q n low ∙ sym (lt-ltb q (n + 1) (omega arith))
    | inr up ↦ le-ltb q n up ∙ sym (le-ltb q (n + 1) (omega arith))
  ]
]

-- the first variable is taken out of a heap
pub standing-taken : (n v : ℕ) (places : List ℕ) → v < length places → get_or places v 0 ≡ 0 → ((w : ℕ) → w < length places → get_or places w 0 ≡ 0 → w ≡ v) → standing n (map (exchanged 0 n) places) ≡ set (standing (n + 1) places) v false
standing-taken n v places known first only =
    let moved : length (map (exchanged 0 n) places) ≡ length places = length-map places (exchanged 0 n) in
    let long : length (standing n (map (exchanged 0 n) places)) ≡ length places = standing-length n (map (exchanged 0 n) places) ∙ moved in
    let wide : length (set (standing (n + 1) places) v false) ≡ length places = length-set (standing (n + 1) places) v false ∙ standing-length (n + 1) places in
    ext_get_or false _ _ (long ∙ sym wide) (λ w within.
    let here : w < length places = omega arith in
    let there : w < length (map (exchanged 0 n) places) = omega arith in
    standing-at n (map (exchanged 0 n) places) w there
    ∙ ap (λ (p : ℕ). ltb p n) (get_or-map (exchanged 0 n) places w 0 0 here)
    ∙ elim (cases_eq w v) [
      | inl is ↦ subst (λ (u : ℕ). ltb (exchanged 0 n (get_or places u 0)) n ≡ get_or (set (standing (n + 1) places) v false) u false) (sym is)
          (ap (λ (p : ℕ). ltb (exchanged 0 n p) n) first ∙ ap (λ (p : ℕ). ltb p n) (exchanged-first 0 n) ∙ le-ltb n n (omega arith) ∙ sym (get_or-set_same (standing (n + 1) places) v false false (subst (λ (m : ℕ). v < m) (sym (standing-length (n + 1) places)) known)))
      | inr other ↦ place-taken n (get_or places w 0) (λ e. other (only w here e)) ∙ sym (standing-at (n + 1) places w here) ∙ sym (get_or-set_other (standing (n + 1) places) v w false false other)
    ])

-- in an empty heap nothing stands
pub standing-none : (places : List ℕ) (v : ℕ) → get_or (standing 0 places) v false ≡ false
standing-none places v = elim (cases_lt v (length places)) [
  | inl known ↦ place-absent 0 places v known (omega arith)
  | inr past ↦ get_or_past (standing 0 places) v false (subst (λ (n : ℕ). n ≤ v) (sym (standing-length 0 places)) past)
]

-- what stands in a heap stays so where it is put there
pub set_present : (n : ℕ) (places : List ℕ) (v : ℕ) → v < length places → get_or places v 0 < n → standing n places ≡ set (standing n places) v true
set_present n places v known low = sym (ap (set (standing n places) v) (sym (place-present n places v known low)) ∙ set-get_or (standing n places) v false)
