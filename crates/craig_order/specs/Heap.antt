-- The variables that stand in a heap.
use Rattle.std.specs.Prelude.{◌≡◌, ℕ, ◌<◌, ◌≤◌, Bool, true, false, List, [], length, map, nat_eq, nat_lt, if◌then◌else◌, slice_index, slice_index_or}

-- each variable below a number stands once in the row, at the place that the table has for it
pub record ArePlaces (row places : List ℕ) : Type 0 where
  -- the numbers of variables are those of literals
  pub few : length places ≤ 2147483648
  -- the row has a place for each
  pub room : length places ≤ length row
  -- a variable has one of the places
  pub within : (v : ℕ) → v < length places → slice_index places v < length places
  -- and stands there
  pub found : (v : ℕ) → v < length places → slice_index row (slice_index places v) ≡ v
  -- at a place stands one of the variables
  pub known : (p : ℕ) → p < length places → slice_index row p < length places
  -- and the place is its own
  pub back : (p : ℕ) → p < length places → slice_index places (slice_index row p) ≡ p

-- the variables up to the number that were not there stand last, in their order
pub record IsAppended (old new : List ℕ) (count : ℕ) : Type 0 where
  -- what is below the number is there
  pub known : length new ≡ count
  -- what was there stands where it stood
  pub as_before : (v : ℕ) → v < length old → slice_index new v ≡ slice_index old v
  -- what is new stands at the place of its number
  pub last : (v : ℕ) → length old ≤ v → v < count → slice_index new v ≡ v

-- where a variable stands after two places were exchanged
abbrev pub exchanged : ℕ → ℕ → ℕ → ℕ
exchanged first second place = if nat_eq place first then second else if nat_eq place second then first else place

-- by variable, whether it stands in a heap of a size
abbrev pub standing : ℕ → List ℕ → List Bool
standing size places = map (λ (p : ℕ). nat_lt p size) places

-- what contracts see of a heap
pub record HeapView : Type 0 where
  -- by known variable, whether it stands in the heap
  pub stands : List Bool
  -- how many variables stand in it
  pub size : ℕ

-- no variable is known
abbrev pub empty_heap : HeapView
empty_heap = record { stands = []; size = 0 }

-- the variables below the number are known, and the new ones among them stand in the heap
pub record IsHeapGrown (old new : List Bool) (count : ℕ) : Type 0 where
  -- what is below the number is known
  pub known : length new ≡ count
  -- what was known stands as before
  pub as_before : (v : ℕ) → v < length old → slice_index_or new v false ≡ slice_index_or old v false
  -- what is new stands in the heap
  pub stands : (v : ℕ) → length old ≤ v → v < count → slice_index_or new v false ≡ true

-- there are scores and phases for the known variables, which literals have numbers for
pub record HaveRoom (stands : List Bool) (scores : ℕ) (phases : List Bool) : Type 0 where
  -- the numbers of variables are those of literals
  pub few : length stands ≤ 2147483648
  -- each has a score
  pub scored : length stands ≤ scores
  -- each has a phase
  pub phased : length stands ≤ length phases
