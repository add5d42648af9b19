-- Packed chains, and what is read of them.
use Rattle.std.proofs.Common.{◌≡◌, ℕ, zero, suc, ◌+◌, ◌-◌, ◌*◌, ◌/◌, ◌%◌, ◌<◌, ◌≤◌, Bool, true, false, cond, ltb, List, [], ◌∷◌, ◌++◌, append_assoc, refl, sym, ◌∙◌, ap, arith}
use Rattle.std.proofs.lemmas.Bool.{lt-ltb, ltb-true}
use Rattle.std.proofs.lemmas.Bool.Decides.{nat_tests}
use Rattle.craig_spec.specs.Literal.{Literal}
use Rattle.craig_spec.specs.Chain.{ChainStep, Derived}
use Rattle.craig_spec.specs.SevenBits.{groups_in}
use Rattle.craig_spec.specs.PackedChain.{number_bytes, literal_number, rest_bytes, packed_chain, AreBefore, numbers_of, numbered_literal, steps_of_numbers, chain_of_numbers}

small_groups : (fuel n : ℕ) → n < 128 → n ≤ fuel → groups_in fuel n ≡ n ∷ []
small_groups zero n h le = let e : n % 128 ≡ n = omega arith in rw e refl
small_groups (suc fuel) n h le = rw (lt-ltb n 128 h) refl

large_groups : (fuel n : ℕ) → 128 ≤ n → groups_in (suc fuel) n ≡ (128 + n % 128) ∷ groups_in fuel (n / 128)
large_groups fuel n h = let e : ltb n 128 ≡ false = grind (arith, nat_tests) in rw e refl

-- more groups than do are no others
same_groups : (fuel more n : ℕ) → n ≤ fuel → n ≤ more → groups_in fuel n ≡ groups_in more n
same_groups fuel more n in_fuel in_more = by_test fuel more n in_fuel in_more (ltb n 128) refl where
  by_test : (fuel more n : ℕ) → n ≤ fuel → n ≤ more → (b : Bool) → ltb n 128 ≡ b → groups_in fuel n ≡ groups_in more n
  by_test fuel more n in_fuel in_more true e =
      let h : n < 128 = ltb-true n 128 e in
      small_groups fuel n h in_fuel ∙ sym (small_groups more n h in_more)
  by_test zero more n in_fuel in_more false e = absurd (let h : 128 ≤ n = grind (arith, nat_tests) in omega arith)
  by_test (suc fuel) zero n in_fuel in_more false e = absurd (let h : 128 ≤ n = grind (arith, nat_tests) in omega arith)
  by_test (suc fuel) (suc more) n in_fuel in_more false e =
      let h : 128 ≤ n = grind (arith, nat_tests) in
      large_groups fuel n h ∙ ap (λ gs. (128 + n % 128) ∷ gs) (by_test fuel more (n / 128) (omega arith) (omega arith) (ltb (n / 128) 128) refl) ∙ sym (large_groups more n h)

-- a number of one group
pub number_bytes-small : (n : ℕ) → n < 128 → number_bytes n ≡ n ∷ []
unfolding number_bytes
number_bytes-small n h = small_groups n n h (omega arith)

-- a number of more groups
pub number_bytes-large : (n : ℕ) → 128 ≤ n → number_bytes n ≡ (128 + n % 128) ∷ number_bytes (n / 128)
unfolding number_bytes
number_bytes-large zero h = absurd (omega arith)
number_bytes-large (suc n) h =
    large_groups n (suc n) h ∙ ap (λ gs. (128 + suc n % 128) ∷ gs) (same_groups n (suc n / 128) (suc n / 128) (omega arith) (omega arith))

numbers-first : (fuel n : ℕ) (bytes : List ℕ) → n ≤ fuel → numbers_of (groups_in fuel n ++ bytes) ≡ n ∷ numbers_of bytes
numbers-first fuel n bytes le = by_test fuel n le (ltb n 128) refl where
  by_test : (fuel n : ℕ) → n ≤ fuel → (b : Bool) → ltb n 128 ≡ b → numbers_of (groups_in fuel n ++ bytes) ≡ n ∷ numbers_of bytes
  by_test fuel n le true e = let h : n < 128 = ltb-true n 128 e in rw (small_groups fuel n h le, e) refl
  by_test zero n le false e = absurd (let h : 128 ≤ n = grind (arith, nat_tests) in omega arith)
  by_test (suc fuel) n le false e =
      let h : 128 ≤ n = grind (arith, nat_tests) in
      let large : ltb (128 + n % 128) 128 ≡ false = grind (arith, nat_tests) in
      let whole : 128 + n % 128 - 128 + 128 * (n / 128) ≡ n = omega arith in
      let later = by_test fuel (n / 128) (omega arith) (ltb (n / 128) 128) refl in
      rw (large_groups fuel n h, large, later, whole) refl

-- a number that is packed is read
pub numbers_of-number : (n : ℕ) (bytes : List ℕ) → numbers_of (number_bytes n ++ bytes) ≡ n ∷ numbers_of bytes
unfolding number_bytes
numbers_of-number n bytes = numbers-first n n bytes (omega arith)

-- so is a literal
pub numbered_literal-number : (l : Literal) → numbered_literal (literal_number l) ≡ l
numbered_literal-number l = by_sign l.var l.negated where
  by_sign : (v : ℕ) (b : Bool) → numbered_literal (2 * v + cond b 1 0) ≡ record { var = v; negated = b }
  by_sign v true =
      let half : (2 * v + 1) / 2 ≡ v = omega arith in
      let odd : (2 * v + 1) % 2 ≡ 1 = omega arith in
      rw (half, odd) refl
  by_sign v false =
      let half : (2 * v + 0) / 2 ≡ v = omega arith in
      let even : (2 * v + 0) % 2 ≡ 0 = omega arith in
      rw (half, even) refl

-- the resolutions of a packed chain are read
pub steps_of-rest : (id : ℕ) (rest : List ChainStep) → AreBefore id rest → steps_of_numbers id (numbers_of (rest_bytes id rest)) ≡ rest
steps_of-rest id [] before = refl
steps_of-rest id (s ∷ rest) before =
    let here : s.antecedent < id = before 0 s (omega arith) in
    let back : id - (id - s.antecedent) ≡ s.antecedent = omega arith in
    let later = steps_of-rest id rest (λ k d within. before (suc k) d (omega arith)) in
    rw (append_assoc (number_bytes (literal_number s.pivot)) (number_bytes (id - s.antecedent)) (rest_bytes id rest), numbers_of-number (literal_number s.pivot), numbers_of-number (id - s.antecedent), numbered_literal-number s.pivot, back, later) refl

-- so is the chain
pub chain_of-packed : (id first : ℕ) (rest : List ChainStep) → first < id → AreBefore id rest → chain_of_numbers id (numbers_of (packed_chain id first rest)) ≡ Derived first rest
chain_of-packed id first rest here before =
    let back : id - (id - first) ≡ first = omega arith in
    rw (numbers_of-number (id - first), back, steps_of-rest id rest before) refl

-- so two chains of one id with the same bytes are one
pub packed_chain-injective : (id first other : ℕ) (rest more : List ChainStep) → first < id → other < id → AreBefore id rest → AreBefore id more → packed_chain id first rest ≡ packed_chain id other more → (first ≡ other) × (rest ≡ more)
packed_chain-injective id first other rest more here there before beside e =
    let same : Derived first rest ≡ Derived other more = sym (chain_of-packed id first rest here before) ∙ ap (λ bytes. chain_of_numbers id (numbers_of bytes)) e ∙ chain_of-packed id other more there beside in
    let f : first ≡ other = cc in
    let r : rest ≡ more = cc in
    (f, r)
