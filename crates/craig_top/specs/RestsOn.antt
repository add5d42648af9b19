-- Which clauses a refutation rests on.
use Rattle.std.specs.Prelude.{◌≡◌, ℕ, List, [], Contains}
use Rattle.craig_spec.specs.Literal.{Clause}
use Rattle.craig_spec.specs.Chain.{Told, ToldStep}
use Rattle.craig_spec.specs.Needed.{IsNeeded, IsOriginal}
use Rattle.craig_base.specs.declared.script_part.Part.{Part}
use Rattle.craig_solver.specs.Told.{IsAcceptedStep}

-- each original that the root needs is one of the clauses, told with its part
abbrev pub RestsOn : List (Part × Clause) → Told → (root : ℕ) → Type 0
RestsOn clauses t root = (s : ToldStep) → Contains t.steps s → IsOriginal s.origin → IsNeeded t.steps root s.id → IsAcceptedStep clauses s

-- the empty clause was told under the id
abbrev pub IsEmptyAt : List ToldStep → ℕ → Type 0
IsEmptyAt steps id = (s : ToldStep) × Contains steps s × (s.id ≡ id) × (s.literals ≡ [])
