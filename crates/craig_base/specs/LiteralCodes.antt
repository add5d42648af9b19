-- Packing a literal again after unpacking it gives the same code.
use Rattle.std.specs.Prelude.{◌≡◌, ℕ}
use Rattle.std.proofs.Common.{arith}
use Rattle.std.proofs.lemmas.Grind.{common_steps}
use Rattle.craig_base.specs.Literals.{literal_code, literal_of_code}

-- a code is that of its literal
pub literal_code-literal_of_code : (n : ℕ) → literal_code (literal_of_code n) ≡ n
literal_code-literal_of_code n = grind (arith, common_steps)
