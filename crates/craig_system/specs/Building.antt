-- Edges on the way to those of the rules.
use Rattle.std.specs.Prelude.{◌≡◌, ◌⊎◌, ◌||◌, ℕ, Bool, true, false, List, [], ◌∷◌, Contains, IsTrue}
use Rattle.std.specs.List.{filter}
use Rattle.craig_spec.specs.Literal.{Literal, Clause}
use Rattle.craig_spec.specs.Occurs.{occurs_in_clause}
use Rattle.craig_spec.specs.Truth.{Assignment, clause_value, literal_value}
use Rattle.craig_spec.specs.PartialInterpolant.{Label, A, AB, B, is_a, is_b}
use Rattle.craig_aig.specs.Cones.{cone}
use Rattle.craig_aig.specs.Edges.{Edge}
use Rattle.craig_aig.specs.Values.{edge_value}
use Rattle.craig_aig.specs.declared.node.Node.{Node}

-- whether a label is AB
abbrev pub is_ab : Label → Bool
is_ab A = false
is_ab AB = true
is_ab B = false

-- whether a label is the first one
abbrev pub is_label : Label → Label → Bool
is_label A label = is_a label
is_label AB label = is_ab label
is_label B label = is_b label

-- the edge is of the literal
pub record IsLiteral (l : Literal) (nodes : List Node) (e : Edge) : Type 0 where
  -- its value
  pub value : (s : Assignment) → edge_value s nodes e ≡ literal_value s l
  -- its variables
  pub inputs : cone nodes e ≡ l.var ∷ []

-- the edge is of the disjunction of an edge that was there and the literal
pub record IsMore (l : Literal) (old : List Node) (before : Edge) (nodes : List Node) (e : Edge) : Type 0 where
  -- its value
  pub value : (s : Assignment) → edge_value s nodes e ≡ (edge_value s old before || literal_value s l)
  -- its variables
  pub inputs : (x : ℕ) → Contains (cone nodes e) x → Contains (cone old before) x ⊎ (x ≡ l.var)

-- the edge is of the disjunction of the literals that have the label
pub record IsAny (label : ℕ → Label) (wanted : Label) (c : Clause) (nodes : List Node) (e : Edge) : Type 0 where
  -- its value
  pub value : (s : Assignment) → edge_value s nodes e ≡ clause_value s (filter (λ l. is_label wanted (label l.var)) c)
  -- its variables
  pub inputs : (x : ℕ) → Contains (cone nodes e) x → IsTrue (occurs_in_clause x c) × (label x ≡ wanted)
