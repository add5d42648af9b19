-- Sequences of interpolants: Craig's separation at each chosen cut of the parts of a script (Craig, "Three uses of the
-- Herbrand-Gentzen theorem", JSL 1957), and from each chosen cut to each later one (Rollini, Sery and Sharygina,
-- "Leveraging Interpolant Strength in Model Checking", CAV 2012).
use Rattle.std.specs.Prelude.{◌≡◌, ℕ, ◌<◌, not, List, length, Some, slice_get, Contains, IsTrue}
use Rattle.craig_spec.specs.Truth.{Assignment, IsModel, Implies}
use Rattle.craig_spec.specs.Occurs.{Occurs}
use Rattle.craig_spec.specs.Circuit.{Circuit, circuit_cone, circuit_value}
use Rattle.craig_spec.specs.Cut.{PartClause, AreChosenCuts, side_a, side_b, clauses_between}

-- the literal of the circuit is an interpolant of the two sides of the cut
pub record Separates (clauses : List PartClause) (cut : ℕ) (c : Circuit) (l : ℕ) : Type 0 where
  -- side A implies it
  pub implied : Implies (side_a clauses cut) (λ s. IsTrue (circuit_value s c l))
  -- side B refutes it
  pub refuted : Implies (side_b clauses cut) (λ s. IsTrue (not (circuit_value s c l)))
  -- each variable of its cone occurs on both sides
  pub shared : (x : ℕ) → Contains (circuit_cone c l) x → Occurs x (side_a clauses cut) × Occurs x (side_b clauses cut)

-- the place is that of a chosen cut, and of the literal for it
pub record IsOutputAt (cuts literals : List ℕ) (place cut l : ℕ) : Type 0 where
  -- the cut stands there among the chosen ones
  pub cut_is : slice_get cuts place ≡ Some cut
  -- and the literal among the literals
  pub literal_is : slice_get literals place ≡ Some l

-- one literal of the circuit for each chosen cut: interpolants of the cuts, each of which implies the later ones
pub record IsSequence (clauses : List PartClause) (parts : ℕ) (cuts : List ℕ) (c : Circuit) (literals : List ℕ) : Type 0 where
  -- some cuts are chosen, and they rise
  pub chosen : AreChosenCuts parts cuts
  -- each has its literal
  pub count : length literals ≡ length cuts
  -- that of cut 0 is the constant true
  pub first : (place l : ℕ) → IsOutputAt cuts literals place 0 l → l ≡ 1
  -- that of the cut behind all parts is the constant false
  pub last : (place l : ℕ) → IsOutputAt cuts literals place parts l → l ≡ 0
  -- each separates the two sides of its cut
  pub separate : (place cut l : ℕ) → IsOutputAt cuts literals place cut l → Separates clauses cut c l
  -- with the clauses of the parts between, each implies that of each later cut
  pub onward : (place later_place cut later l m : ℕ) → IsOutputAt cuts literals place cut l → IsOutputAt cuts literals later_place later m → cut < later →
      (s : Assignment) → IsTrue (circuit_value s c l) → IsModel s (clauses_between clauses cut later) → IsTrue (circuit_value s c m)
