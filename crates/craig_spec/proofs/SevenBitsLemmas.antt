-- What is read of numbers that are written in groups of seven bits.
use Rattle.std.proofs.Common.{◌≡◌, ℕ, zero, suc, ◌+◌, ◌-◌, ◌*◌, ◌/◌, ◌%◌, ◌^◌, ◌<◌, ◌≤◌, Bool, true, false, ltb, All, List, [], ◌∷◌, ◌++◌, length, refl, sym, ◌∙◌, ap, arith}
use Rattle.std.proofs.Math.Nat.{pow-succ'}
use Rattle.std.proofs.lemmas.Bool.{lt-ltb, ltb-true}
use Rattle.std.proofs.lemmas.Bool.Decides.{nat_tests}
use Rattle.craig_spec.specs.SevenBits.{FirstNumber, first_number, groups_in, groups_of, number_of_groups, with_lower}

-- the first group is the number's own, or one more than that follows
number-small : (more b : ℕ) (bytes : List ℕ) → b < 128 → number_of_groups (suc more) (b ∷ bytes) ≡ FirstNumber.Number b bytes
number-small more b bytes h = rw (lt-ltb b 128 h) refl

number-large : (more b : ℕ) (bytes : List ℕ) → ltb b 128 ≡ false → number_of_groups (suc more) (b ∷ bytes) ≡ with_lower (b - 128) (number_of_groups more bytes)
number-large more b bytes h = rw h refl

-- the groups of a number are read as the number
read-by : (more n : ℕ) (rest : List ℕ) (test : Bool) → ltb n 128 ≡ test →
    number_of_groups (suc more) (groups_in more (n / 128) ++ rest) ≡ FirstNumber.Number (n / 128) rest →
    number_of_groups (suc (suc more)) (groups_in (suc more) n ++ rest) ≡ FirstNumber.Number n rest
read-by more n rest true e h = rw e (number-small (suc more) n rest (ltb-true n 128 e))
read-by more n rest false e h =
    let large : ltb (128 + n % 128) 128 ≡ false = grind (arith, nat_tests) in
    let whole : 128 + n % 128 - 128 + 128 * (n / 128) ≡ n = omega arith in
    rw e (number-large (suc more) (128 + n % 128) (groups_in more (n / 128) ++ rest) large ∙ ap (with_lower (128 + n % 128 - 128)) h ∙ ap (λ z. FirstNumber.Number z rest) whole)

read-groups : (more n : ℕ) (rest : List ℕ) → n < 128 ^ (suc more) → number_of_groups (suc more) (groups_in more n ++ rest) ≡ FirstNumber.Number n rest
read-groups zero n rest h =
    let small : n % 128 ≡ n = omega arith in
    number-small zero (n % 128) rest (omega arith) ∙ ap (λ z. FirstNumber.Number z rest) small
read-groups (suc more) n rest h = read-by more n rest (ltb n 128) refl (
    let power : 128 ^ suc (suc more) ≡ 128 * 128 ^ suc more = pow-succ' 128 (suc more) in
    read-groups more (n / 128) rest (omega (arith, h, power)))

-- the number is read, and what is behind it is left
pub first_number-groups : (n : ℕ) (rest : List ℕ) → n < 2 ^ 63 → first_number (groups_of n ++ rest) ≡ FirstNumber.Number n rest
unfolding first_number groups_of
first_number-groups n rest h = read-groups 8 n rest h

-- what a number with one group more below its own is
with_lower-is : (low : ℕ) (found : FirstNumber) (n : ℕ) (rest : List ℕ) → with_lower low found ≡ FirstNumber.Number n rest → (m : ℕ) × (found ≡ FirstNumber.Number m rest) × (n ≡ low + 128 * m)
with_lower-is low (FirstNumber.Number m behind) n rest e =
    let number : low + 128 * m ≡ n = cc in
    let left : behind ≡ rest = cc in
    (m, ap (FirstNumber.Number m) left, sym number)
with_lower-is low FirstNumber.Ends n rest e = cc
with_lower-is low FirstNumber.TooLong n rest e = cc

one-group : (more n : ℕ) → n < 128 → length (groups_in more n) ≡ 1
one-group zero n h = refl
one-group (suc more) n h = rw (lt-ltb n 128 h) refl

groups-by : (more n m : ℕ) (test : Bool) → ltb n 128 ≡ test → n / 128 ≡ m → length (groups_in (suc more) n) ≤ 1 + length (groups_in more m)
groups-by more n m true e h = rw e (omega arith)
groups-by more n m false e h = rw (e, h) (omega arith)

shortest-by : (more n b : ℕ) (bytes rest : List ℕ) (test : Bool) → ltb b 128 ≡ test → b < 256 →
    ((k m : ℕ) → more ≡ suc k → number_of_groups (suc k) bytes ≡ FirstNumber.Number m rest → length (groups_in k m) + length rest ≤ length bytes) →
    number_of_groups (suc more) (b ∷ bytes) ≡ FirstNumber.Number n rest → length (groups_in more n) + length rest ≤ suc (length bytes)
shortest-by more n b bytes rest true t low shorter e =
    let small : b < 128 = ltb-true b 128 t in
    let same : FirstNumber.Number b bytes ≡ FirstNumber.Number n rest = sym (number-small more b bytes small) ∙ e in
    let number : b ≡ n = cc in
    let left : bytes ≡ rest = cc in
    omega (arith, one-group more n (omega (arith, small, number)), ap length left)
shortest-by zero n b bytes rest false t low shorter e =
    let p = with_lower-is (b - 128) FirstNumber.TooLong n rest (sym (number-large zero b bytes t) ∙ e) in
    absurd (none p.0 p.1)
  where
    none : (m : ℕ) → FirstNumber.TooLong ≡ FirstNumber.Number m rest → ⊥
    none m is = cc
shortest-by (suc more) n b bytes rest false t low shorter e =
    let p = with_lower-is (b - 128) (number_of_groups (suc more) bytes) n rest (sym (number-large (suc more) b bytes t) ∙ e) in
    let high : n / 128 ≡ p.0 = omega (arith, p.2, low) in
    omega (arith, shorter more p.0 refl p.1, groups-by more n p.0 (ltb n 128) refl high)

shortest : (more n : ℕ) (bytes rest : List ℕ) → All (λ b. b < 256) bytes → number_of_groups (suc more) bytes ≡ FirstNumber.Number n rest → length (groups_in more n) + length rest ≤ length bytes
shortest more n [] rest low e = cc
shortest more n (b ∷ bytes) rest low e =
    shortest-by more n b bytes rest (ltb b 128) refl (low 0 0 (omega arith)) (λ k m is h. shortest k m bytes rest (λ j d below. low (suc j) d (omega (arith, below))) h) e

-- no bytes in which a number is read are fewer than its groups
pub groups-fewest : (n : ℕ) (bytes rest : List ℕ) → All (λ b. b < 256) bytes → first_number bytes ≡ FirstNumber.Number n rest → length (groups_of n) + length rest ≤ length bytes
unfolding first_number groups_of
groups-fewest n bytes rest low e = shortest 8 n bytes rest low e
