-- Steps that are given up: which rows are marked, and how those that are left slide down.
use Rattle.std.specs.Prelude.{◌≡◌, ◌+◌, ◌||◌, ◌&&◌, ◌++◌, ℕ, Bool, false, not, List, [], ◌∷◌, IsTrue, Contains, nat_eq, length, map, take, drop, if◌then◌else◌}
use Rattle.std.specs.List.{list_any}
use Rattle.craig_spec.specs.Literal.{Clause}
use Rattle.craig_spec.specs.Chain.{AreRising, EachStands, IsUnforgotten, ToldStep}
use Rattle.craig_spec.specs.Needed.{IsNeeded}
use Rattle.craig_proof.specs.NeededSteps.{BackMarks}
use Rattle.craig_proof.specs.StoredSteps.{AreRows, AreStored, all_bytes, all_literals, steps_in}
use Rattle.craig_proof.specs.declared.sliding.Filled.{Filled}
use Rattle.craig_proof.specs.declared.stored_step.StoredStep.{StoredStep}

-- an id that isn't forgotten needs the id
abbrev pub IsInUse : List ToldStep → ℕ → Type 0
IsInUse steps x = (id : ℕ) × IsUnforgotten steps id × IsNeeded steps id x

-- each step that is left is needed by an id that isn't forgotten
abbrev pub AreAllInUse : List ToldStep → List ToldStep → Type 0
AreAllInUse before after = (s : ToldStep) → Contains after s → IsInUse before s.id

-- a row has the id
abbrev pub HasRow : List StoredStep → ℕ → Type 0
HasRow rows id = IsTrue (list_any (λ r. nat_eq r.id.0 id) rows)

-- a row of the id is marked
abbrev pub is_marked : List StoredStep → ℕ → Bool
is_marked rows id = list_any (λ r. nat_eq r.id.0 id && r.needed) rows

-- the row without its mark
abbrev pub unmarked : StoredStep → StoredStep
unmarked r = record { id = r.id; literals = r.literals; bytes = r.bytes; part = r.part; forgotten = r.forgotten; needed = false }

-- the row, marked unless it is forgotten
abbrev pub marked_unless_forgotten : StoredStep → StoredStep
marked_unless_forgotten r = record { id = r.id; literals = r.literals; bytes = r.bytes; part = r.part; forgotten = r.forgotten; needed = not r.forgotten }

-- the rows are the same but for their marks
abbrev pub AreSameRows : List StoredStep → List StoredStep → Type 0
AreSameRows before after = map unmarked after ≡ map unmarked before

-- the ids that pass the test are marked beside those that were before
pub record MarksMore (test : ℕ → Bool) (before after : List StoredStep) : Type 0 where
  -- nothing but marks changes
  pub same : AreSameRows before after
  -- which these are
  pub marks : (x : ℕ) → is_marked after x ≡ (test x || is_marked before x)

-- the rows and the bytes are those of steps that stand on one another
pub record HaveChains (rows : List StoredStep) (bytes : List ℕ) (steps : List ToldStep) : Type 0 where
  -- they are their rows and bytes
  pub stored : AreStored rows (all_literals steps) bytes steps
  -- the ids rise
  pub rising : AreRising steps
  -- each stands on those before it
  pub stand : EachStands steps

-- the rows that an id needs that isn't forgotten are marked, as far as the steps from a place on say
abbrev pub AreMarkedFrom : List ToldStep → List StoredStep → ℕ → Type 0
AreMarkedFrom steps rows place = BackMarks steps (IsUnforgotten steps) (IsInUse steps) (is_marked rows) place

-- the steps whose rows are marked
abbrev pub marked_steps : List StoredStep → List ToldStep → List ToldStep
marked_steps [] steps = []
marked_steps (r ∷ rows) [] = []
marked_steps (r ∷ rows) (s ∷ steps) = if r.needed then s ∷ marked_steps rows steps else marked_steps rows steps

-- the part of a list was moved down to a place, over what lay there
abbrev pub IsMovedDown : {A : Type 0} → List A → List A → ℕ → ℕ → ℕ → Type 0
IsMovedDown {A} before after start «end» to =
    (front hole part behind : List A) → before ≡ front ++ (hole ++ (part ++ behind)) → to ≡ length front → start ≡ length front + length hole → «end» ≡ start + length part → (rest : List A) × (after ≡ front ++ (part ++ (rest ++ behind))) × (length rest ≡ length hole)

-- the lists while steps slide down: first what is left of the steps before the place, then what is given up, and then the steps from the place on
pub record IsSliding (rows : List StoredStep) (literals : Clause) (bytes : List ℕ) (place : ℕ) (filled : Filled) : Type 0 where
  -- the steps that are left of those before the place
  pub done : List ToldStep
  -- those from the place on
  pub later : List ToldStep
  -- the rows of those that are left
  pub done_rows : List StoredStep
  -- rows that are given up
  pub hole_rows : List StoredStep
  -- the rows from the place on
  pub later_rows : List StoredStep
  -- literals that are given up
  pub hole_literals : Clause
  -- bytes that are given up
  pub hole_bytes : List ℕ
  -- these are the rows
  pub rows_are : rows ≡ done_rows ++ (hole_rows ++ later_rows)
  -- where the later ones begin
  pub place_is : place ≡ length done_rows + length hole_rows
  -- how many are left
  pub filled_rows : filled.rows ≡ length done_rows
  -- these are the literals
  pub literals_are : literals ≡ all_literals done ++ (hole_literals ++ all_literals later)
  -- how many are left
  pub filled_literals : filled.literals ≡ length (all_literals done)
  -- these are the bytes
  pub bytes_are : bytes ≡ all_bytes done ++ (hole_bytes ++ all_bytes later)
  -- how many are left
  pub filled_bytes : filled.bytes ≡ length (all_bytes done)
  -- the rows that are left are those of their steps
  pub are_done : AreRows 0 0 done_rows done
  -- so are those from the place on
  pub are_later : AreRows (length (all_literals done) + length hole_literals) (length (all_bytes done) + length hole_bytes) later_rows later

-- what is left in the end: the steps that are left by now, and the marked ones from the place on
abbrev pub left_from : List StoredStep → Clause → List ℕ → ℕ → Filled → List ToldStep
left_from rows literals bytes place filled =
    steps_in (take filled.literals literals) (take filled.bytes bytes) (take filled.rows rows) ++ marked_steps (drop place rows) (steps_in literals bytes (drop place rows))
