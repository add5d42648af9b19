-- Which words are numbers and literals, and which numbers they are.
use Rattle.std.specs.Prelude.{◌≡◌, ◌≢◌, ◌<◌, ◌^◌, ℕ, Bool, not, ◌&&◌, ◌||◌, ◌==◌, nat_le, List, length, drop, slice_index, Option, Some, None, ℤ, pos, neg_ℤ, if◌then◌else◌}
use Rattle.std.specs.Option.{option_map}
use Rattle.std.specs.Char.{is_ascii_digit}
use Rattle.std.specs.List.{list_all}
use Rattle.std.specs.Str.Parse.{digits_value}
use Rattle.std.specs.Fmt.{signed_decimal}
use Rattle.std.specs.Int.RustNames.{unsigned_abs}

-- the most digits of a number
abbrev pub digit_limit : ℕ
digit_limit = 18

-- whether the word is 1 to 18 digits without a leading zero, or the one digit 0
abbrev pub is_number : List ℕ → Bool
is_number word =
    nat_le 1 (length word) && nat_le (length word) digit_limit && (length word == 1 || not (slice_index word 0 == 48)) && list_all is_ascii_digit word

-- the number that the word writes, where it is one
abbrev pub number_of : List ℕ → Option ℕ
number_of word = if is_number word then Some (digits_value 10 word) else None

-- the number, where there is one and it isn't 0
abbrev pub unless_zero : Option ℕ → Option ℕ
unless_zero None = None
unless_zero (Some n) = if n == 0 then None else Some n

-- whether a minus sign stands in front
abbrev pub is_negated : List ℕ → Bool
is_negated word = slice_index word 0 == 45

-- the literal that the word writes: a number other than 0, or a minus sign directly followed by one
abbrev pub literal_of : List ℕ → Option ℤ
literal_of word =
    if is_negated word then option_map (λ n. neg_ℤ (pos n)) (unless_zero (number_of (drop 1 word)))
    else option_map pos (unless_zero (number_of word))

-- the word is the decimal form of the literal, which isn't 0
pub record IsLiteralWord (word : List ℕ) (z : ℤ) : Type 0 where
  -- the digits of the number, behind a minus sign where it is negative
  pub form : word ≡ signed_decimal z
  -- no literal is 0
  pub some : z ≢ pos 0
  -- it has at most 18 digits
  pub small : unsigned_abs z < 10 ^ 18
