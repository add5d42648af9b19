-- Laws of the numbers that words write.
use Rattle.std.proofs.Common.{◌≡◌, ◌≢◌, ℕ, zero, suc, ◌^◌, ◌<◌, ◌≤◌, Bool, true, false, ◌&&◌, ◌⊎◌, inl, inr, List, [], ◌∷◌, length, drop, get_or, Option, Some, None, ℤ, pos, negsuc, neg_ℤ, option_map, subst, eqb-true, refl, sym, ◌∙◌, ap, arith}
use Rattle.std.proofs.Math.Nat.{pow-le-pow_right}
use Rattle.std.proofs.lemmas.Bool.Decides.{nat_tests}
use Rattle.std.proofs.lemmas.Fmt.{digits_decimal, digits_value-decimal, decimal-digits_value, decimal_nonempty, length-decimal-le, first_decimal, decimal_digit}
use Rattle.std.proofs.lemmas.Str.Parse.{IsNumeralModel, numerals_by_value, tells_all_ascii_digits, digits_value_short}
use Rattle.std.specs.Bool.{if◌then◌else◌}
use Rattle.std.specs.Int.RustNames.{unsigned_abs}
use Rattle.std.specs.Char.{is_ascii_digit}
use Rattle.std.specs.Fmt.{decimal, signed_decimal}
use Rattle.std.specs.List.{list_all}
use Rattle.std.specs.Str.{all_ascii_digits}
use Rattle.std.specs.Str.Parse.{digits_value}
use Rattle.craig_script.specs.NumberWords.{IsLiteralWord, digit_limit, is_number, is_negated, number_of, unless_zero, literal_of}

-- few digits make a small number
pub pow-small : (i n : ℕ) → i ≤ n → 10 ^ i ≤ 10 ^ n
pow-small i n h = pow-le-pow_right (omega arith) h

own : IsNumeralModel (λ ds. all_ascii_digits ds ≡ true) (digits_value 10)
own = numerals_by_value (λ ds. all_ascii_digits ds ≡ true) tells_all_ascii_digits

all_ascii_digits-is : (ds : List ℕ) → all_ascii_digits ds ≡ list_all is_ascii_digit ds
all_ascii_digits-is [] = refl
all_ascii_digits-is (d ∷ ds) = ap (λ z. is_ascii_digit d && z) (all_ascii_digits-is ds)

pub digits-decimal : (n : ℕ) → n < 2 ^ 64 → list_all is_ascii_digit (decimal n) ≡ true
digits-decimal n h = sym (all_ascii_digits-is (decimal n)) ∙ digits_decimal own n h

-- what the test of a number tells
record Spelled (word : List ℕ) : Type 0 where
  some : 1 ≤ length word
  short : length word ≤ digit_limit
  canonical : get_or word 0 0 ≡ 48 → length word ≡ 1
  digits : list_all is_ascii_digit word ≡ true

spelled : (word : List ℕ) → is_number word ≡ true → Spelled word
spelled word e = record {
  some = grind (arith, nat_tests);
  short = grind (arith, nat_tests);
  canonical = λ z. grind (arith, nat_tests, z);
  digits = grind (arith, nat_tests);
}

spelled-is_number : (word : List ℕ) → Spelled word → is_number word ≡ true
spelled-is_number word h = grind (arith, nat_tests, h.some, h.short, h.canonical, h.digits)

-- a word that is a number is the number's decimal form
record IsDecimal (word : List ℕ) (n : ℕ) : Type 0 where
  form : word ≡ decimal n
  small : n < 10 ^ digit_limit

decimal-of : (word : List ℕ) → Spelled word → IsDecimal word (digits_value 10 word)
decimal-of word h =
    let digits : all_ascii_digits word ≡ true = all_ascii_digits-is word ∙ h.digits in
    let small : digits_value 10 word < 10 ^ digit_limit = digits_value_short own word digit_limit digits h.short in
    record { form = sym (decimal-digits_value own word digits h.some h.canonical (omega (arith, small))); small = small }

chosen : (b : Bool) (x n : ℕ) → (if b then Some x else None) ≡ Some n → (b ≡ true) × (x ≡ n)
chosen true x n e = (refl, cc)
chosen false x n e = cc

pub number_of-is_decimal : (word : List ℕ) (n : ℕ) → number_of word ≡ Some n → (word ≡ decimal n) × (n < 10 ^ digit_limit)
number_of-is_decimal word n e =
    let found = chosen (is_number word) (digits_value 10 word) n e in
    let own_form = decimal-of word (spelled word found.0) in
    (own_form.form ∙ ap decimal found.1, omega (arith, own_form.small, found.1))

zero_or_more : (n : ℕ) → (n ≡ 0) ⊎ (0 < n)
zero_or_more zero = inl refl
zero_or_more (suc n) = inr (omega arith)

canonical-decimal : (n : ℕ) → n < 2 ^ 64 → (n ≡ 0) ⊎ (0 < n) → get_or (decimal n) 0 0 ≡ 48 → length (decimal n) ≡ 1
canonical-decimal n h (inl none) z = ap (λ m. length (decimal m)) none ∙ ap length (decimal_digit 0 (omega arith))
canonical-decimal n h (inr some) z = absurd (omega (arith, z, first_decimal n some h))

spelled-decimal : (n : ℕ) → n < 10 ^ digit_limit → Spelled (decimal n)
spelled-decimal n h =
    let fits : n < 2 ^ 64 = omega arith in
    record {
      some = decimal_nonempty n fits;
      short = length-decimal-le digit_limit n (omega arith) h fits;
      canonical = canonical-decimal n fits (zero_or_more n);
      digits = digits-decimal n fits;
    }

pub number_of-decimal : (n : ℕ) → n < 10 ^ digit_limit → number_of (decimal n) ≡ Some n
number_of-decimal n h =
    let e : is_number (decimal n) ≡ true = spelled-is_number (decimal n) (spelled-decimal n h) in
    let v : digits_value 10 (decimal n) ≡ n = digits_value-decimal own n (omega arith) in
    rw (e, v) refl

unless_zero-suc : (n : ℕ) → unless_zero (Some (suc n)) ≡ Some (suc n)
unless_zero-suc n = grind (arith, nat_tests)

pub literal_of-signed_decimal : (z : ℤ) → z ≢ pos 0 → unsigned_abs z < 10 ^ digit_limit → literal_of (signed_decimal z) ≡ Some z
literal_of-signed_decimal (pos zero) some h = absurd (some refl)
literal_of-signed_decimal (pos (suc n)) some h =
    let first : 48 < get_or (decimal (suc n)) 0 0 = first_decimal (suc n) (omega arith) (omega arith) in
    let plain : is_negated (decimal (suc n)) ≡ false = grind (arith, nat_tests, first) in
    rw (plain, number_of-decimal (suc n) h, unless_zero-suc n) refl
literal_of-signed_decimal (negsuc n) some h = rw (number_of-decimal (suc n) h, unless_zero-suc n) refl

-- a number that isn't 0
unless_zero-some : (o : Option ℕ) (n : ℕ) → unless_zero o ≡ Some n → (o ≡ Some n) × (0 < n)
unless_zero-some None n e = cc
unless_zero-some (Some zero) n e = cc
unless_zero-some (Some (suc m)) n e = let same : Some (suc m) ≡ Some n = sym (unless_zero-suc m) ∙ e in let is : suc m ≡ n = cc in (same, omega (arith, is))

-- what an option was that was mapped
pub option_map-some : {A B : Type 0} (f : A → B) (o : Option A) (y : B) → option_map f o ≡ Some y → (x : A) × (o ≡ Some x) × (f x ≡ y)
option_map-some f None y e = cc
option_map-some f (Some x) y e = (x, refl, let same : f x ≡ y = cc in same)

-- a word that begins with a minus sign
is_negated-cons : (word : List ℕ) → is_negated word ≡ true → word ≡ 45 ∷ drop 1 word
is_negated-cons [] e = cc
is_negated-cons (b ∷ bs) e = ap (λ (x : ℕ). x ∷ bs) (eqb-true b 45 e)

positive_word : (word : List ℕ) (n : ℕ) → number_of word ≡ Some n → 0 < n → IsLiteralWord word (pos n)
positive_word word n e some =
    let read = number_of-is_decimal word n e in
    record { form = read.0; some = λ no. (let zero_is : n ≡ 0 = cc in omega (arith, zero_is, some)); small = read.1 }

negative_word : (word : List ℕ) (n : ℕ) → is_negated word ≡ true → number_of (drop 1 word) ≡ Some n → 0 < n → IsLiteralWord word (neg_ℤ (pos n))
negative_word word zero sign e some = absurd (omega (arith, some))
negative_word word (suc n) sign e some =
    let read = number_of-is_decimal (drop 1 word) (suc n) e in
    record { form = is_negated-cons word sign ∙ ap (λ (ds : List ℕ). 45 ∷ ds) read.0; some = λ no. cc; small = read.1 }

literal_word : (b : Bool) (word : List ℕ) (z : ℤ) → is_negated word ≡ b → (if b then option_map (λ n. neg_ℤ (pos n)) (unless_zero (number_of (drop 1 word))) else option_map pos (unless_zero (number_of word))) ≡ Some z → IsLiteralWord word z
literal_word true word z sign e =
    let m = option_map-some (λ n. neg_ℤ (pos n)) (unless_zero (number_of (drop 1 word))) z e in
    let n = unless_zero-some (number_of (drop 1 word)) m.0 m.1 in
    subst (IsLiteralWord word) m.2 (negative_word word m.0 sign n.0 n.1)
literal_word false word z sign e =
    let m = option_map-some pos (unless_zero (number_of word)) z e in
    let n = unless_zero-some (number_of word) m.0 m.1 in
    subst (IsLiteralWord word) m.2 (positive_word word m.0 n.0 n.1)

-- a word that is a literal is the literal's decimal form
pub literal_of-is_decimal : (word : List ℕ) (z : ℤ) → literal_of word ≡ Some z → IsLiteralWord word z
literal_of-is_decimal word z e = literal_word (is_negated word) word z refl e
