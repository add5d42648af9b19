-- The steps that a chain store keeps: a row for each, over the literals and the packed chains of all.
use Rattle.std.specs.Prelude.{◌≡◌, ◌+◌, ◌-◌, ℕ, List, [], ◌∷◌, Option, Some, None, All, false, length, take, drop}
use Rattle.std.specs.List.{flat_map}
use Rattle.std.specs.Option.{option_map}
use Rattle.craig_spec.specs.Literal.{Clause}
use Rattle.craig_spec.specs.Chain.{Origin, Original, Derived, ToldStep, Told, IsTold}
use Rattle.craig_spec.specs.Needed.{IsOriginal}
use Rattle.craig_spec.specs.PackedChain.{chain_of_numbers, numbers_of, packed_origin}
use Rattle.craig_base.specs.Clauses.{IsNormal}
use Rattle.craig_base.specs.declared.clause_id.ClauseId.{ClauseId}
use Rattle.craig_base.specs.declared.script_part.Part.{Part}
use Rattle.craig_proof.specs.PackedSteps.{IsPackable}
use Rattle.craig_proof.specs.declared.stored_step.StoredStep.{StoredStep}

-- where the first row's begin, and the end of all where there is no row
abbrev pub first_start : (StoredStep → ℕ) → List StoredStep → ℕ → ℕ
first_start start [] all = all
first_start start (r ∷ rows) all = start r

-- from one place up to another
abbrev pub between : {A : Type 0} → List A → ℕ → ℕ → List A
between xs start «end» = take («end» - start) (drop start xs)

-- where a clause comes from that has these bytes
abbrev pub origin_in : ℕ → List ℕ → Option Part → Origin
origin_in id bytes (Some part) = Original part.0
origin_in id bytes None = chain_of_numbers id (numbers_of bytes)

-- the step of a row with these literals and bytes
abbrev pub step_in : Clause → List ℕ → StoredStep → ToldStep
step_in literals bytes r = record { id = r.id.0; literals = literals; origin = origin_in r.id.0 bytes r.part; forgotten = r.forgotten }

-- the steps of the rows, each with what lies from its own beginning to that of the next one
abbrev pub steps_in : Clause → List ℕ → List StoredStep → List ToldStep
steps_in literals bytes [] = []
steps_in literals bytes (r ∷ rows) =
    step_in (between literals r.literals (first_start (λ q. q.literals) rows (length literals))) (between bytes r.bytes (first_start (λ q. q.bytes) rows (length bytes))) r
    ∷ steps_in literals bytes rows

-- the literals of all steps
abbrev pub all_literals : List ToldStep → Clause
all_literals steps = flat_map (λ s. s.literals) steps

-- the bytes of a step
abbrev pub bytes_of : ToldStep → List ℕ
bytes_of s = packed_origin s.id s.origin

-- the bytes of all steps
abbrev pub all_bytes : List ToldStep → List ℕ
all_bytes steps = flat_map bytes_of steps

-- the part of an original
abbrev pub part_of : Origin → Option ℕ
part_of (Original part) = Some part
part_of (Derived first rest) = None

-- a derived clause has a chain that can be packed
abbrev pub CanBePacked : ℕ → Origin → Type 0
CanBePacked id (Original part) = Unit {0}
CanBePacked id (Derived first rest) = IsPackable id first rest

-- the row is that of the step, whose literals and bytes begin at these places
pub record IsRow (literals bytes : ℕ) (r : StoredStep) (s : ToldStep) : Type 0 where
  -- its id
  pub id : r.id.0 ≡ s.id
  -- where its literals begin
  pub literals_at : r.literals ≡ literals
  -- where its bytes begin
  pub bytes_at : r.bytes ≡ bytes
  -- its part
  pub part : option_map (λ p. p.0) r.part ≡ part_of s.origin
  -- its mark
  pub forgotten : r.forgotten ≡ s.forgotten
  -- its chain
  pub packable : CanBePacked s.id s.origin

-- the rows are those of the steps, whose literals and bytes begin at these places and lie one behind another
abbrev pub AreRows : ℕ → ℕ → List StoredStep → List ToldStep → Type 0
AreRows literals bytes [] [] = Unit {0}
AreRows literals bytes [] (s ∷ steps) = ⊥
AreRows literals bytes (r ∷ rows) [] = ⊥
AreRows literals bytes (r ∷ rows) (s ∷ steps) = IsRow literals bytes r s × AreRows (literals + length s.literals) (bytes + length (bytes_of s)) rows steps

-- the steps as they are kept: their rows, and the literals and bytes of all, and no others
pub record AreStored (rows : List StoredStep) (literals : Clause) (bytes : List ℕ) (steps : List ToldStep) : Type 0 where
  -- a row for each
  pub rows_are : AreRows 0 0 rows steps
  -- the literals of all
  pub literals_are : literals ≡ all_literals steps
  -- the bytes of all
  pub bytes_are : bytes ≡ all_bytes steps

-- what was told
abbrev pub told_of : Option ClauseId → List ToldStep → Told
told_of greatest steps = record { greatest = option_map (λ id. id.0) greatest; steps = steps }

-- the originals are normal clauses
abbrev pub OriginalsNormal : List ToldStep → Type 0
OriginalsNormal steps = All (λ s. IsOriginal s.origin → IsNormal s.literals) steps

-- what a store keeps: steps that stand on one another, on normal originals
pub record IsStore (t : Told) : Type 0 where
  -- the steps stand on one another
  pub told : IsTold t
  -- each original is normal
  pub normal : OriginalsNormal t.steps

-- a step that is read where there is none
abbrev pub no_step : ToldStep
no_step = record { id = 0; literals = []; origin = Original 0; forgotten = false }
