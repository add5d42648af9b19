-- Fingerprints of clauses.
use Rattle.std.specs.Prelude.{ℕ, ◌+◌, ◌*◌, ◌/◌, ◌%◌, ◌^◌, bit_xor}
use Rattle.std.specs.List.{sum_by}
use Rattle.craig_spec.specs.Literal.{Literal, Clause}
use Rattle.craig_base.specs.Literals.{literal_code}

-- a number of 64 bits, of which the upper ones are mixed into the lower ones
unfoldable pub mixed_once : (number by factor : ℕ) → ℕ
mixed_once number by factor = (bit_xor number (number / 2 ^ by) * factor) % 2 ^ 64

-- a number of 64 bits, mixed so that all its bits depend on all bits of the one
unfoldable pub mixed : ℕ → ℕ
mixed number = mixed_once (mixed_once number 30 13787848793156543929) 27 10723151780598845931

-- the mixed code of the literal
unfoldable pub mixed_literal : Literal → ℕ
mixed_literal l = mixed (((literal_code l + 1) * 11400714819323198485) % 2 ^ 64)

-- the sum of the mixed codes of the literals, so that their order doesn't count
unfoldable pub fingerprint_of : Clause → ℕ
fingerprint_of c = sum_by mixed_literal c % 2 ^ 64
