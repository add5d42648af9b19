-- The values that the clauses of a text give to the variables of its gates.
use Rattle.std.specs.Prelude.{◌≡◌, ℕ, ◌+◌, ◌*◌, ◌<◌, ◌≤◌, List, length, Some}
use Rattle.craig_spec.specs.Circuit.{Circuit, circuit_value}
use Rattle.craig_spec.specs.CircuitCnf.{clauses_of_cnf, read_cnf}
use Rattle.craig_spec.specs.Literal.{Clause}
use Rattle.craig_spec.specs.Truth.{Assignment, IsModel, variable_value}

-- the two assignments give each variable up to the greatest the same value
abbrev pub AgreeUpTo : ℕ → Assignment → Assignment → Type 0
AgreeUpTo greatest s e = (x : ℕ) → x ≤ greatest → variable_value e x ≡ variable_value s x

-- the variables above the greatest, in order, have the values of the gates
abbrev pub HasGateValues : ℕ → Circuit → Assignment → Assignment → Type 0
HasGateValues greatest c s e = (j : ℕ) → j < length c.gates → variable_value e (greatest + 1 + j) ≡ circuit_value s c (2 * (1 + length c.inputs + j))

-- an assignment of the script variables has exactly one extension to those of the gates that makes the clauses true, and it has the values of the gates
pub record HasOneExtension (greatest : ℕ) (c : Circuit) (clauses : List Clause) (s : Assignment) : Type 0 where
  -- an extension
  pub extension : Assignment
  -- it leaves the script variables as they are
  pub agrees : AgreeUpTo greatest s extension
  -- it makes the clauses true
  pub model : IsModel extension clauses
  -- each one that does so has the values of the gates
  pub only : (e : Assignment) → AgreeUpTo greatest s e → IsModel e clauses → HasGateValues greatest c s e
  -- and each one that has them does so
  pub each : (e : Assignment) → AgreeUpTo greatest s e → HasGateValues greatest c s e → IsModel e clauses

-- the clauses of each text that is read as a circuit have exactly one extension of each assignment
abbrev pub TextsHaveOneExtension : Type 0
TextsHaveOneExtension = (greatest : ℕ) (bytes : List ℕ) (c : Circuit) (clauses : List Clause) (s : Assignment) → read_cnf greatest bytes ≡ Some c → clauses_of_cnf bytes ≡ Some clauses → HasOneExtension greatest c clauses s
