-- Edges, and how they are packed into one number.
use Rattle.std.specs.Prelude.{ℕ, ◌+◌, ◌*◌, ◌/◌, ◌%◌, Bool, false, not, nat_eq, if◌then◌else◌}

-- the node at the place, or its negation
pub record Edge : Type 0 where
  -- the place of the node, from 0
  pub place : ℕ
  -- whether it is the negation
  pub negated : Bool

-- the edge of a node
abbrev pub plain_edge : ℕ → Edge
plain_edge place = record { place = place; negated = false }

-- the edge that is true exactly where this one is false
abbrev pub edge_negation : Edge → Edge
edge_negation e = record { place = e.place; negated = not e.negated }

-- twice the place, and one more for the negation
abbrev pub edge_code : Edge → ℕ
edge_code e = 2 * e.place + (if e.negated then 1 else 0)

-- the edge that has the code
abbrev pub edge_of_code : ℕ → Edge
edge_of_code n = record { place = n / 2; negated = nat_eq (n % 2) 1 }
