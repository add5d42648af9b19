-- The clauses of a layout define its circuit.
use Rattle.std.proofs.Common.{◌≡◌, ◌∙◌, sym, ap, refl, ℕ, zero, suc, ◌+◌, ◌-◌, ◌/◌, ◌%◌, ◌<◌, ◌≤◌, Bool, true, false, ◌&&◌, eqb, eqb-true, eq-eqb, nat_le, nat_lt, List, [], ◌∷◌, length, get_or, map, filter, All, AllPairs, Contains, Some, slice_get, arith}
use Rattle.std.specs.List.{list_any, range_with_len}
use Rattle.std.proofs.lemmas.Bool.Decides.{nat_tests}
use Rattle.std.proofs.lemmas.List.Kept.{AllPairs-from_increasing, AllPairs-filter}
use Rattle.std.proofs.lemmas.List.FromFn.{get_or-range_with_len, length-range_with_len}
use Rattle.std.proofs.lemmas.List.Sums.{position_or_len_is}
use Rattle.std.proofs.lemmas.Map.Views.{any-filter_same}
use Rattle.craig_spec.specs.AigerReading.{place_in}
use Rattle.craig_spec.specs.CircuitCnf.{Fixed, Operands, circuit_literal, circuit_variable, literal_of_root}
use Rattle.craig_spec.proofs.AigerOrderLemmas.{has-range}
use Rattle.craig_spec.proofs.MemberLemmas.{slice_get-to_map}
use Rattle.craig_aiger.specs.Layouts.{IsWritable, Layout}
use Rattle.craig_cnf.specs.LayoutClauses.{text_literal, text_operands, text_root, text_variable}
use Rattle.craig_cnf.proofs.GateClausesLemmas.{AreBefore, IsBefore}
use Rattle.craig_cnf.proofs.OrderLemmas.{Contains-from_test, EachBefore-from_pairs, rising_unique, test-from_Contains}

pub range-outside : (a n j : ℕ) → j < a → list_any (eqb j) (range_with_len a n) ≡ false
range-outside a zero j h = refl
range-outside a (suc n) j h = let e : eqb j a ≡ false = grind (arith, nat_tests, h) in rw e (range-outside (a + 1) n j (omega arith))

pub range-above : (a n j : ℕ) → a + n ≤ j → list_any (eqb j) (range_with_len a n) ≡ false
range-above a zero j h = refl
range-above a (suc n) j h = let e : eqb j a ≡ false = grind (arith, nat_tests, h) in rw e (range-above (a + 1) n j (omega arith))

range-rises : (a n : ℕ) → AllPairs (λ x y. x < y) (range_with_len a n)
range-rises a n i j d less within =
    let count : length (range_with_len a n) ≡ n = length-range_with_len a n in
    let at_i : get_or (range_with_len a n) i d ≡ a + i = get_or-range_with_len a n i d (omega arith) in
    let at_j : get_or (range_with_len a n) j d ≡ a + j = get_or-range_with_len a n j d (omega arith) in
    omega (arith, at_i, at_j, less)

-- numbers that rise are those of a range that pass a test that tells them
pub rising-filter : (xs : List ℕ) (p : ℕ → Bool) (top : ℕ) → AllPairs (λ x y. x < y) xs → ((z : ℕ) → Contains xs z → (1 ≤ z) × (z ≤ top)) → ((z : ℕ) → 1 ≤ z → z ≤ top → p z ≡ true → Contains xs z) → ((z : ℕ) → Contains xs z → p z ≡ true) → filter p (range_with_len 1 top) ≡ xs
rising-filter xs p top up inside told tells =
    rising_unique (filter p (range_with_len 1 top)) xs
    (EachBefore-from_pairs (λ x y. x < y) (filter p (range_with_len 1 top)) (AllPairs-filter (λ x y. x < y) p (range_with_len 1 top) (range-rises 1 top)))
    (EachBefore-from_pairs (λ x y. x < y) xs up)
    (λ z. same z (p z) refl (list_any (eqb z) xs) refl)
  where
    passes : (z : ℕ) → list_any (eqb z) (filter p (range_with_len 1 top)) ≡ (p z && list_any (eqb z) (range_with_len 1 top))
    passes z = any-filter_same (eqb z) p (p z) (λ k e. ap p (sym (eqb-true z k e))) (range_with_len 1 top)

    in_range : (z : ℕ) → list_any (eqb z) (range_with_len 1 top) ≡ true → (1 ≤ z) × (z ≤ top)
    in_range z e =
        let m = Contains-from_test (range_with_len 1 top) z e in
        let count : length (range_with_len 1 top) ≡ top = length-range_with_len 1 top in
        let at : get_or (range_with_len 1 top) m.0 z ≡ 1 + m.0 = get_or-range_with_len 1 top m.0 z (omega (arith, m.1, count)) in
        (omega (arith, m.2, at), omega (arith, m.1, m.2, at, count))

    out_of : (z : ℕ) (t : Bool) → list_any (eqb z) (range_with_len 1 top) ≡ t → (t ≡ true → ⊥) → t ≡ false
    out_of z true e h = absurd (h refl)
    out_of z false e h = refl

    same : (z : ℕ) (t : Bool) → p z ≡ t → (b : Bool) → list_any (eqb z) xs ≡ b → list_any (eqb z) (filter p (range_with_len 1 top)) ≡ list_any (eqb z) xs
    same z t e true f =
        let here : Contains xs z = Contains-from_test xs z f in
        let bounds = inside z here in
        passes z ∙ ap (λ c. c && list_any (eqb z) (range_with_len 1 top)) (tells z here) ∙ has-range 1 top z bounds.0 (omega (arith, bounds.1)) ∙ sym f
    same z false e false f = passes z ∙ ap (λ c. c && list_any (eqb z) (range_with_len 1 top)) e ∙ sym f
    same z true e false f =
        passes z ∙ ap (λ c. c && list_any (eqb z) (range_with_len 1 top)) e
        ∙ out_of z (list_any (eqb z) (range_with_len 1 top)) refl (λ yes. let b = in_range z yes in let there : list_any (eqb z) xs ≡ true = test-from_Contains xs z (told z b.0 b.1 e) in let bad : false ≡ true = sym f ∙ there in cc)
        ∙ sym f

-- the place of a number in a list that rises
pub place-rising : (xs : List ℕ) (i : ℕ) → AllPairs (λ x y. x < y) xs → i < length xs → place_in xs (get_or xs i 0) ≡ i
place-rising xs i up within =
    position_or_len_is (eqb (get_or xs i 0)) xs i 0 (omega (arith, within))
    (λ k below. let less : get_or xs k 0 < get_or xs i 0 = up k i 0 below within in grind (arith, nat_tests, less))
    (λ inside. eq-eqb (get_or xs i 0) (get_or xs i 0) refl)

half-one : (n : ℕ) → n < 2 → n / 2 ≡ 0
half-one n h = omega arith

module _ (top : ℕ) (l : Layout) (h : IsWritable l) (bound : All (λ x. x ≤ top) l.inputs) where
  abbrev I : ℕ
  I = length l.inputs

  abbrev A : ℕ
  A = length l.gates

  pub rises : AllPairs (λ x y. x < y) l.inputs
  rises = AllPairs-from_increasing l.inputs h.strict.rising

  -- what a variable of the circuit is in the text
  pub input_text : (i : ℕ) → i < I → text_variable top l.inputs (1 + i) ≡ get_or l.inputs i 0
  input_text i within =
      let t : nat_le (1 + i) I ≡ true = grind (arith, nat_tests, within) in
      let k : (1 + i) - 1 ≡ i = omega arith in
      rw (t, k) refl

  pub gate_text : (v : ℕ) → I < v → text_variable top l.inputs v ≡ top + (v - I)
  gate_text v above = let t : nat_le v I ≡ false = grind (arith, nat_tests, above) in rw t refl

  -- it stands for an input or a gate
  pub data Kind (v : ℕ) : Type 0 where
    OfInput : (i : ℕ) → i < I → v ≡ 1 + i → Kind v
    OfGate : I < v → Kind v

  kind_by : (v : ℕ) (t : Bool) → nat_le v I ≡ t → 1 ≤ v → Kind v
  kind_by v true e some = let le : v ≤ I = grind (arith, nat_tests, e) in OfInput (v - 1) (omega (arith, le, some)) (omega (arith, some))
  kind_by v false e some = OfGate (let lt : I < v = grind (arith, nat_tests, e) in lt)

  pub kind : (v : ℕ) → 1 ≤ v → Kind v
  kind v some = kind_by v (nat_le v I) refl some

  pub input_bound : (i : ℕ) → i < I → (1 ≤ get_or l.inputs i 0) × (get_or l.inputs i 0 ≤ top)
  input_bound i within = ((h.variables i 0 within).0, bound i 0 within)

  -- variables come back
  back_by : (v : ℕ) → Kind v → circuit_variable top l.inputs (text_variable top l.inputs v) ≡ v
  back_by v (OfInput i within is) =
      let x : text_variable top l.inputs v ≡ get_or l.inputs i 0 = ap (text_variable top l.inputs) is ∙ input_text i within in
      let b : get_or l.inputs i 0 ≤ top = (input_bound i within).1 in
      let t : nat_le (get_or l.inputs i 0) top ≡ true = grind (arith, nat_tests, b) in
      ap (circuit_variable top l.inputs) x ∙ (rw t (ap (λ n. 1 + n) (place-rising l.inputs i rises within) ∙ sym is))
  back_by v (OfGate above) =
      let t : nat_le (top + (v - I)) top ≡ false = grind (arith, nat_tests, above) in
      ap (circuit_variable top l.inputs) (gate_text v above) ∙ (rw t (omega (arith, above)))

  -- and so do literals
  literal_by : (n : ℕ) (t : Bool) → eqb (n % 2) 1 ≡ t → circuit_variable top l.inputs (text_variable top l.inputs (n / 2)) ≡ n / 2 → circuit_literal top l.inputs (text_literal top l.inputs n) ≡ n
  literal_by n true e is =
      let odd : n % 2 ≡ 1 = eqb-true (n % 2) 1 e in
      rw (e, is) (omega (arith, odd))
  literal_by n false e is =
      let even : n % 2 ≡ 0 = grind (arith, nat_tests, e) in
      rw (e, is) (omega (arith, even))

  pub literal_back : (n : ℕ) → 2 ≤ n → circuit_literal top l.inputs (text_literal top l.inputs n) ≡ n
  literal_back n some = literal_by n (eqb (n % 2) 1) refl (back_by (n / 2) (kind (n / 2) (omega (arith, some))))

  constant_back : (n : ℕ) (t : Bool) → eqb n 1 ≡ t → n < 2 → literal_of_root top l.inputs (Fixed (eqb n 1)) ≡ n
  constant_back n true e small = rw e (sym (eqb-true n 1 e))
  constant_back n false e small = rw e (let z : 0 ≡ n = grind (arith, nat_tests, e, small) in z)

  root_back_by : (n : ℕ) (t : Bool) → nat_lt n 2 ≡ t → literal_of_root top l.inputs (text_root top l.inputs n) ≡ n
  root_back_by n true e = let small : n < 2 = grind (arith, nat_tests, e) in rw e (constant_back n (eqb n 1) refl small)
  root_back_by n false e = let some : 2 ≤ n = grind (arith, nat_tests, e) in rw e (literal_back n some)

  pub root_back : (n : ℕ) → literal_of_root top l.inputs (text_root top l.inputs n) ≡ n
  root_back n = root_back_by n (nat_lt n 2) refl

  -- a gate has operands that are no constants and stand before it
  pub operands : (j : ℕ) (g : ℕ × ℕ) → slice_get l.gates j ≡ Some g → (2 ≤ g.0) × (2 ≤ g.1) × (g.0 / 2 < 1 + I + j) × (g.1 / 2 < 1 + I + j)
  operands j g is =
      let s = h.strict.operands j (record { left = g.0; right = g.1 }) (slice_get-to_map (λ (p : ℕ × ℕ). record { left = p.0; right = p.1 }) l.gates j g is) in
      (omega (arith, s.0, s.1), omega (arith, s.0), omega (arith, s.2), omega (arith, s.1, s.2))

  text_before_by : (v j : ℕ) → v < 1 + I + j → Kind v → (0 < text_variable top l.inputs v) × (text_variable top l.inputs v < top + 1 + j)
  text_before_by v j below (OfInput i within is) =
      let x : text_variable top l.inputs v ≡ get_or l.inputs i 0 = ap (text_variable top l.inputs) is ∙ input_text i within in
      let b = input_bound i within in
      (omega (arith, x, b.0), omega (arith, x, b.1))
  text_before_by v j below (OfGate above) =
      let x : text_variable top l.inputs v ≡ top + (v - I) = gate_text v above in
      (omega (arith, x, above), omega (arith, x, above, below))

  -- the literal of the text is of a script variable or of an earlier gate
  pub text_before : (n j : ℕ) → 2 ≤ n → n / 2 < 1 + I + j → IsBefore (top + 1 + j) (text_literal top l.inputs n)
  text_before n j some below =
      let p = text_before_by (n / 2) j below (kind (n / 2) (omega (arith, some))) in
      record { some = p.0; below = p.1 }

  before_from : (n : ℕ) (gates : List (ℕ × ℕ)) → ((j : ℕ) (g : ℕ × ℕ) → slice_get gates j ≡ Some g → (2 ≤ g.0) × (2 ≤ g.1) × (g.0 / 2 < 1 + I + (n + j)) × (g.1 / 2 < 1 + I + (n + j))) → AreBefore (top + 1 + n) (map (text_operands top l.inputs) gates)
  before_from n [] each = tt
  before_from n (g ∷ gates) each =
      let o = each 0 g refl in
      let e : (top + 1 + n) + 1 ≡ top + 1 + (n + 1) = omega arith in (
        (text_before g.0 n o.0 (omega (arith, o.2)), text_before g.1 n o.1 (omega (arith, o.3))),
        rw e (before_from (n + 1) gates (λ j p is. let q = each (suc j) p is in (q.0, q.1, omega (arith, q.2), omega (arith, q.3)))),
      )

  abbrev text_gates : List Operands
  text_gates = map (text_operands top l.inputs) l.gates

  pub are_before : AreBefore (top + 1) text_gates
  are_before =
      let e : top + 1 + 0 ≡ top + 1 = omega arith in
      rw e at (before_from 0 l.gates (λ j g is. let o = operands j g is in (o.0, o.1, omega (arith, o.2), omega (arith, o.3))))
