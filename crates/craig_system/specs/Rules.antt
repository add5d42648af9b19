-- The rules of a labelled system at a cut, and the variables that the rules let into a circuit.
use Rattle.std.specs.Prelude.{◌≡◌, ◌⊎◌, ℕ, List, Contains, IsTrue, if◌then◌else◌}
use Rattle.craig_spec.specs.Literal.{Literal, Clause}
use Rattle.craig_spec.specs.Occurs.{occurs_in_clause}
use Rattle.craig_spec.specs.Truth.{Assignment, literal_value}
use Rattle.craig_spec.specs.PartialInterpolant.{Label, A, AB, B, Labelling, cut_labelling, leaf_a_value, leaf_b_value, join_value}
use Rattle.craig_label.specs.Sides.{SidesView, occurs_in_a, occurs_in_b}
use Rattle.craig_aig.specs.Edges.{Edge}
use Rattle.craig_aig.specs.Values.{edge_value}
use Rattle.craig_aig.specs.Cones.{cone}
use Rattle.craig_aig.specs.declared.node.Node.{Node}

-- the labelling of a cut, where the variables that occur on both sides have these labels
abbrev pub labelling : SidesView → ℕ → (ℕ → Label) → Labelling
labelling sides cut marks = cut_labelling cut (occurs_in_a sides cut) (occurs_in_b sides cut) marks

-- the edge has the value of a clause of side A, and reaches variables of the clause alone that are labelled B
pub record IsLeafA (label : ℕ → Label) (c : Clause) (nodes : List Node) (e : Edge) : Type 0 where
  -- its value
  pub value : (s : Assignment) → edge_value s nodes e ≡ leaf_a_value label s c
  -- its variables
  pub inputs : (x : ℕ) → Contains (cone nodes e) x → IsTrue (occurs_in_clause x c) × (label x ≡ B)

-- the edge has the value of a clause of side B, and reaches variables of the clause alone that are labelled A
pub record IsLeafB (label : ℕ → Label) (c : Clause) (nodes : List Node) (e : Edge) : Type 0 where
  -- its value
  pub value : (s : Assignment) → edge_value s nodes e ≡ leaf_b_value label s c
  -- its variables
  pub inputs : (x : ℕ) → Contains (cone nodes e) x → IsTrue (occurs_in_clause x c) × (label x ≡ A)

-- the edge has the value of the right one where the pivot is true and that of the left one elsewhere, and reaches their variables and that of the pivot
pub record IsChoice (pivot : Literal) (old : List Node) (left right : Edge) (nodes : List Node) (e : Edge) : Type 0 where
  -- its value
  pub value : (s : Assignment) → edge_value s nodes e ≡ (if literal_value s pivot then edge_value s old right else edge_value s old left)
  -- its variables
  pub inputs : (x : ℕ) → Contains (cone nodes e) x → Contains (cone old left) x ⊎ (Contains (cone old right) x ⊎ (x ≡ pivot.var))

-- the edge has the value of a resolvent on the pivot from the edges of the parents, and reaches their variables, and that of a pivot labelled AB
pub record IsJoin (label : ℕ → Label) (pivot : Literal) (old : List Node) (left right : Edge) (nodes : List Node) (e : Edge) : Type 0 where
  -- its value
  pub value : (s : Assignment) → edge_value s nodes e ≡ join_value (label pivot.var) (literal_value s pivot) (edge_value s old left) (edge_value s old right)
  -- its variables
  pub inputs : (x : ℕ) → Contains (cone nodes e) x → Contains (cone old left) x ⊎ (Contains (cone old right) x ⊎ ((x ≡ pivot.var) × (label x ≡ AB)))
