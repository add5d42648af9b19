-- Resolution chains as bytes: how a proof that is kept takes few of them.
--
-- Numbers as in the binary format of DRAT proofs and of AIGER, in groups of seven bits, the lowest first.
use Rattle.std.specs.Prelude.{ℕ, ◌+◌, ◌-◌, ◌*◌, ◌/◌, ◌%◌, ◌<◌, List, [], ◌∷◌, ◌++◌, All, nat_eq, nat_lt, if◌then◌else◌}
use Rattle.craig_spec.specs.Literal.{Literal}
use Rattle.craig_spec.specs.Chain.{ChainStep, Origin, Original, Derived}
use Rattle.craig_spec.specs.SevenBits.{groups_in}

-- a number in groups of seven bits, as few as do
unfoldable pub number_bytes : ℕ → List ℕ
number_bytes n = groups_in n n

-- the number of a literal: twice the variable, and one more for its negation
abbrev pub literal_number : Literal → ℕ
literal_number l = 2 * l.var + (if l.negated then 1 else 0)

-- the bytes of one resolution in the chain of the clause with the id: its pivot, and how far its antecedent is before the id
abbrev pub step_bytes : ℕ → ChainStep → List ℕ
step_bytes id s = number_bytes (literal_number s.pivot) ++ number_bytes (id - s.antecedent)

-- those of all resolutions
abbrev pub rest_bytes : ℕ → List ChainStep → List ℕ
rest_bytes id [] = []
rest_bytes id (s ∷ rest) = step_bytes id s ++ rest_bytes id rest

-- the packed chain of the clause with the id: how far the first antecedent is before the id, and then each resolution
abbrev pub packed_chain : ℕ → ℕ → List ChainStep → List ℕ
packed_chain id first rest = number_bytes (id - first) ++ rest_bytes id rest

-- the bytes of a step: none of an original, and the packed chain of a derived clause
abbrev pub packed_origin : ℕ → Origin → List ℕ
packed_origin id (Original part) = []
packed_origin id (Derived first rest) = packed_chain id first rest

-- the antecedent of each resolution is before the id
abbrev pub AreBefore : ℕ → List ChainStep → Type 0
AreBefore id rest = All (λ s. s.antecedent < id) rest

-- a number with one group more below its own, where there is one
abbrev pub with_group : ℕ → List ℕ → List ℕ
with_group low [] = []
with_group low (n ∷ ns) = (low + 128 * n) ∷ ns

-- the numbers that the bytes spell
abbrev pub numbers_of : List ℕ → List ℕ
numbers_of [] = []
numbers_of (b ∷ bytes) = if nat_lt b 128 then b ∷ numbers_of bytes else with_group (b - 128) (numbers_of bytes)

-- the literal of a number
abbrev pub numbered_literal : ℕ → Literal
numbered_literal n = record { var = n / 2; negated = nat_eq (n % 2) 1 }

-- the resolutions that numbers stand for in the chain of the clause with the id
abbrev pub steps_of_numbers : ℕ → List ℕ → List ChainStep
steps_of_numbers id [] = []
steps_of_numbers id (pivot ∷ []) = []
steps_of_numbers id (pivot ∷ difference ∷ ns) = record { pivot = numbered_literal pivot; antecedent = id - difference } ∷ steps_of_numbers id ns

-- the chain that numbers stand for
abbrev pub chain_of_numbers : ℕ → List ℕ → Origin
chain_of_numbers id [] = Derived id []
chain_of_numbers id (difference ∷ ns) = Derived (id - difference) (steps_of_numbers id ns)
