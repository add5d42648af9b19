-- Laws of numbers that are read group by group.
use Rattle.std.proofs.Common.{◌≡◌, ℕ, suc, ◌+◌, ◌-◌, ◌*◌, ◌^◌, ◌<◌, ◌≤◌, false, ltb, List, ◌∷◌, get_or, length, refl, sym, ◌∙◌, ap, subst, arith}
use Rattle.std.proofs.Math.Nat.{mul-le-mul_left, pow-suc, pow-le-pow_right}
use Rattle.std.proofs.lemmas.Bool.Decides.{nat_tests}
use Rattle.craig_spec.specs.SevenBits.{FirstNumber, first_number, number_of_groups, with_lower}

-- a number above what was read, whose groups have this weight
abbrev pub above : ℕ → ℕ → FirstNumber → FirstNumber
above weight value (FirstNumber.Number n rest) = FirstNumber.Number (value + weight * n) rest
above weight value FirstNumber.Ends = FirstNumber.Ends
above weight value FirstNumber.TooLong = FirstNumber.TooLong

-- so many groups were read
pub record GroupsRead (i value weight : ℕ) (bytes rest : List ℕ) : Type 0 where
  pub number : first_number bytes ≡ above weight value (number_of_groups (9 - i) rest)
  pub power : weight ≡ 128 ^ i
  pub below : value < weight
  pub few : i ≤ 9
  pub shorter : length rest ≤ length bytes
  pub bytes_low : (k : ℕ) → get_or rest k 0 < 256

above-none : (found : FirstNumber) → found ≡ above 1 0 found
above-none (FirstNumber.Number n rest) = let same : n ≡ 0 + 1 * n = omega arith in ap (λ z. FirstNumber.Number z rest) same
above-none FirstNumber.Ends = refl
above-none FirstNumber.TooLong = refl

pub groups-none : (bytes : List ℕ) → ((k : ℕ) → get_or bytes k 0 < 256) → GroupsRead 0 0 1 bytes bytes
unfolding first_number
groups-none bytes low = record {
  number = above-none (number_of_groups 9 bytes);
  power = refl;
  below = omega arith;
  few = omega arith;
  shorter = omega arith;
  bytes_low = low;
}

above-lower : (weight value low : ℕ) (found : FirstNumber) → above weight value (with_lower low found) ≡ above (weight * 128) (value + weight * low) found
above-lower weight value low (FirstNumber.Number n rest) = let same : value + weight * (low + 128 * n) ≡ value + weight * low + weight * 128 * n = omega arith in ap (λ z. FirstNumber.Number z rest) same
above-lower weight value low FirstNumber.Ends = refl
above-lower weight value low FirstNumber.TooLong = refl

group-further : (more b : ℕ) (bytes : List ℕ) → 128 ≤ b → number_of_groups (suc more) (b ∷ bytes) ≡ with_lower (b - 128) (number_of_groups more bytes)
group-further more b bytes h = let t : ltb b 128 ≡ false = grind (arith, nat_tests, h) in rw t refl

first-low : (b : ℕ) (rest behind : List ℕ) → rest ≡ b ∷ behind → get_or rest 0 0 < 256 → b < 256
first-low b rest behind cut low = subst (λ z. get_or z 0 0 < 256) cut low

-- one group more
pub groups-more : (i value weight b : ℕ) (bytes rest behind : List ℕ) → GroupsRead i value weight bytes rest → i < 9 → rest ≡ b ∷ behind → 128 ≤ b →
    GroupsRead (i + 1) (value + weight * (b - 128)) (weight * 128) bytes behind
groups-more i value weight b bytes rest behind h inside cut high =
    let left : 9 - i ≡ suc (9 - (i + 1)) = omega (arith, inside) in
    let low : b < 256 = first-low b rest behind cut (h.bytes_low 0) in
    let most : weight * (b - 128) ≤ weight * 127 = mul-le-mul_left weight (omega (arith, low)) in
    record {
      number =
          h.number ∙ ap (λ z. above weight value (number_of_groups (9 - i) z)) cut ∙ ap (λ z. above weight value (number_of_groups z (b ∷ behind))) left
          ∙ ap (above weight value) (group-further (9 - (i + 1)) b behind high) ∙ above-lower weight value (b - 128) (number_of_groups (9 - (i + 1)) behind);
      power = let next : i + 1 ≡ suc i = omega arith in ap (λ z. z * 128) h.power ∙ sym (ap (λ z. 128 ^ z) next ∙ pow-suc 128 i);
      below = omega (arith, most, h.below);
      few = omega (arith, inside);
      shorter = omega (arith, h.shorter, ap length cut);
      bytes_low = λ k. subst (λ z. get_or z (suc k) 0 < 256) cut (h.bytes_low (suc k));
    }

power-small : (i n : ℕ) → i ≤ n → 128 ^ i ≤ 128 ^ n
power-small i n h = pow-le-pow_right (omega arith) h

-- no number is too large for a word
weight-small : (i value weight : ℕ) (bytes rest : List ℕ) → GroupsRead i value weight bytes rest → i < 9 → weight ≤ 128 ^ 8
weight-small i value weight bytes rest h inside =
    let power : 128 ^ i ≤ 128 ^ 8 = power-small i 8 (omega (arith, inside)) in
    omega (arith, power, h.power)

-- a group and what is below it are less than half of a word
pub group-small : (i value weight b : ℕ) (bytes rest : List ℕ) → GroupsRead i value weight bytes rest → i < 9 → b < 128 → value + weight * b < 2 ^ 63
group-small i value weight b bytes rest h inside low =
    let most : weight * b ≤ weight * 127 = mul-le-mul_left weight (omega (arith, low)) in
    omega (arith, most, h.below, weight-small i value weight bytes rest h inside)

-- and so is one group of more, whatever it is
pub group-fits : (i value weight b g : ℕ) (bytes rest behind : List ℕ) → GroupsRead i value weight bytes rest → i < 9 → rest ≡ b ∷ behind → 128 ≤ b → g ≡ b - 128 → value + weight * g < 2 ^ 63
group-fits i value weight b g bytes rest behind h inside cut high is =
    let low : b < 256 = first-low b rest behind cut (h.bytes_low 0) in
    group-small i value weight g bytes rest h inside (omega (arith, low, is))

pub weight-more : (i value weight : ℕ) (bytes rest : List ℕ) → GroupsRead i value weight bytes rest → i < 9 → weight * 128 ≤ 2 ^ 63
weight-more i value weight bytes rest h inside = omega (arith, weight-small i value weight bytes rest h inside)
