-- Words, numbers and lines of a text that are read as they were written.
use Rattle.std.proofs.Common.{◌≡◌, ℕ, zero, suc, ◌^◌, ◌<◌, ◌≤◌, Bool, true, false, ◌&&◌, ◌||◌, eqb, eqb-true, List, [], ◌∷◌, ◌++◌, length, All, Some, nat_le, refl, sym, ap, ◌∙◌, append_assoc, arith}
use Rattle.std.proofs.lemmas.Bool.{and_parts}
use Rattle.std.specs.Char.{is_ascii_digit}
use Rattle.std.specs.Fmt.{decimal}
use Rattle.std.specs.List.{list_all, list_any, slice_split}
use Rattle.std.specs.Str.{all_ascii_digits}
use Rattle.std.specs.Str.Parse.{digits_value}
use Rattle.std.proofs.lemmas.Bool.Decides.{nat_tests}
use Rattle.std.proofs.lemmas.Fmt.{digits_decimal, digits_value-decimal, decimal_nonempty, length-decimal-le}
use Rattle.std.proofs.lemmas.List.Folds.{list_any-append}
use Rattle.std.proofs.lemmas.List.Splits.{slice_split_at, slice_split_none}
use Rattle.std.proofs.lemmas.Str.Parse.{IsNumeralModel, numerals_by_value, tells_all_ascii_digits}
use Rattle.craig_spec.specs.AigerReading.{number_in}

own : IsNumeralModel (λ ds. all_ascii_digits ds ≡ true) (digits_value 10)
own = numerals_by_value (λ ds. all_ascii_digits ds ≡ true) tells_all_ascii_digits

all_ascii_digits-is : (ds : List ℕ) → all_ascii_digits ds ≡ list_all is_ascii_digit ds
all_ascii_digits-is [] = refl
all_ascii_digits-is (d ∷ ds) = ap (λ z. is_ascii_digit d && z) (all_ascii_digits-is ds)

digits-decimal : (n : ℕ) → n < 2 ^ 64 → list_all is_ascii_digit (decimal n) ≡ true
digits-decimal n h = sym (all_ascii_digits-is (decimal n)) ∙ digits_decimal own n h

-- a number of at most 18 digits is read back
pub number_in-decimal : (n : ℕ) → n < 10 ^ 18 → number_in (decimal n) ≡ Some n
number_in-decimal n h =
    let fits : n < 2 ^ 64 = omega arith in
    let some : 1 ≤ length (decimal n) = decimal_nonempty n fits in
    let short : length (decimal n) ≤ 18 = length-decimal-le 18 n (omega arith) h fits in
    let low : nat_le 1 (length (decimal n)) ≡ true = grind (arith, nat_tests, some) in
    let high : nat_le (length (decimal n)) 18 ≡ true = grind (arith, nat_tests, short) in
    let v : digits_value 10 (decimal n) ≡ n = digits_value-decimal own n fits in
    rw (low, high, digits-decimal n fits, v) refl

-- the byte is none of these
abbrev pub Lacks : ℕ → List ℕ → Type 0
Lacks b bytes = list_any (λ c. eqb c b) bytes ≡ false

no_digit : (b c : ℕ) → is_ascii_digit c ≡ true → is_ascii_digit b ≡ false → (t : Bool) → eqb c b ≡ t → t ≡ false
no_digit b c d n true e = let same : c ≡ b = eqb-true c b e in let f : true ≡ false = sym d ∙ ap is_ascii_digit same ∙ n in f
no_digit b c d n false e = refl

lacks-digits : (b : ℕ) (ds : List ℕ) → is_ascii_digit b ≡ false → list_all is_ascii_digit ds ≡ true → Lacks b ds
lacks-digits b [] n all = refl
lacks-digits b (d ∷ ds) n all =
    let here : eqb d b ≡ false = no_digit b d ((and_parts (is_ascii_digit d) (list_all is_ascii_digit ds) all).0) n (eqb d b) refl in
    rw here (lacks-digits b ds n ((and_parts (is_ascii_digit d) (list_all is_ascii_digit ds) all).1))

pub lacks-decimal : (b n : ℕ) → is_ascii_digit b ≡ false → n < 2 ^ 64 → Lacks b (decimal n)
lacks-decimal b n not_digit h = lacks-digits b (decimal n) not_digit (digits-decimal n h)

pub lacks-append : (b : ℕ) (xs ys : List ℕ) → Lacks b xs → Lacks b ys → Lacks b (xs ++ ys)
lacks-append b xs ys p q = list_any-append (λ c. eqb c b) xs ys ∙ ap (λ t. t || list_any (λ c. eqb c b) ys) p ∙ q

pub head_false : (a b : Bool) → (a || b) ≡ false → a ≡ false
head_false true b e = e
head_false false b e = refl

pub tail_false : (a b : Bool) → (a || b) ≡ false → b ≡ false
tail_false true b e = absurd cc
tail_false false b e = e

all_lack : (b : ℕ) (xs : List ℕ) → Lacks b xs → All (λ c. eqb c b ≡ false) xs
all_lack b [] e k d within = absurd (omega arith)
all_lack b (x ∷ xs) e zero d within = head_false (eqb x b) (list_any (λ c. eqb c b) xs) e
all_lack b (x ∷ xs) e (suc k) d within = all_lack b xs (tail_false (eqb x b) (list_any (λ c. eqb c b) xs) e) k d (omega arith)

-- the first piece and the others
pub split_first : (b : ℕ) (xs ys : List ℕ) → Lacks b xs → eqb b b ≡ true → slice_split (λ c. eqb c b) (xs ++ b ∷ ys) ≡ xs ∷ slice_split (λ c. eqb c b) ys
split_first b xs ys e same = slice_split_at (λ c. eqb c b) xs b ys (all_lack b xs e) same

-- the one piece
pub split_last : (b : ℕ) (xs : List ℕ) → Lacks b xs → slice_split (λ c. eqb c b) xs ≡ xs ∷ []
split_last b xs e = slice_split_none (λ c. eqb c b) xs (all_lack b xs e)

-- lines, each with its end
abbrev pub ended : List (List ℕ) → List ℕ
ended [] = []
ended (b ∷ bs) = b ++ 10 ∷ ended bs

pub ended-append : (ls bs : List (List ℕ)) → ended (ls ++ bs) ≡ ended ls ++ ended bs
ended-append [] bs = refl
ended-append (a ∷ ls) bs = ap (λ l. a ++ 10 ∷ l) (ended-append ls bs) ∙ sym (append_assoc a (10 ∷ ended ls) (ended bs))
