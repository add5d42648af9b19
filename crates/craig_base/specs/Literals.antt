-- How a literal is packed into one number.
use Rattle.std.specs.Prelude.{ℕ, ◌+◌, ◌*◌, ◌/◌, ◌%◌, nat_eq, if◌then◌else◌}
use Rattle.craig_spec.specs.Literal.{Literal}

-- twice the variable, and one more for its negation, so that codes order literals by variable, the positive one first
abbrev pub literal_code : Literal → ℕ
literal_code l = 2 * l.var + (if l.negated then 1 else 0)

-- the literal that has the code
abbrev pub literal_of_code : ℕ → Literal
literal_of_code n = record { var = n / 2; negated = nat_eq (n % 2) 1 }
