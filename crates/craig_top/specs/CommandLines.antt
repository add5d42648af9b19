-- Which words a line of a script has that is a command.
use Rattle.std.specs.Prelude.{ℕ, ◌≤◌, List, [], Contains, map, ℤ, pos, Option, Some, ◌≡◌, ◌≢◌, Ok}
use Rattle.std.specs.List.Sorted.{IsStrictlyIncreasing}
use Rattle.std.specs.Int.RustNames.{unsigned_abs}
use Rattle.craig_script.specs.declared.line.Line.TheVariants.{Text}
use Rattle.craig_script.specs.declared.cut_word.CutWord.TheVariants as cut
use Rattle.craig_script.specs.declared.setting_words.FormatWord.{FormatWord}
use Rattle.craig_script.specs.declared.setting_words.MarkWord.{MarkWord}
use Rattle.craig_script.specs.declared.setting_words.SystemWord.{SystemWord}
use Rattle.craig_script.specs.declared.command.Command.TheVariants.{Parts, Add, System, Mark, Cuts, Limit, Format, Solve}
use Rattle.craig_top.specs.GivenState.{State, reading}

-- each part is from 0 to so many, and each variable from 1 to 2147483647
abbrev pub ArePairsInRange : ℕ → List (ℕ × ℤ) → Type 0
ArePairsInRange parts pairs = (pair : ℕ × ℤ) → Contains pairs pair → (pair.0 ≤ parts) × (1 ≤ unsigned_abs pair.1) × (unsigned_abs pair.1 ≤ 2147483647)

-- the part is from 0 to so many, and each variable is from 1 to 2147483647
abbrev pub AreInRange : ℕ → ℕ → List ℤ → Type 0
AreInRange parts part lits = (part ≤ parts) × ((z : ℤ) → Contains lits z → (1 ≤ unsigned_abs z) × (unsigned_abs z ≤ 2147483647))

-- a limit is from 1 to 100000
abbrev pub IsLimitInRange : Option ℕ → Type 0
IsLimitInRange limit = (n : ℕ) → limit ≡ Some n → (1 ≤ n) × (n ≤ 100000)

-- each cut is above the one before it, and at most the number of parts
abbrev pub AreRisingCuts : ℕ → List ℤ → Type 0
AreRisingCuts parts cuts = (cuts ≢ []) × IsStrictlyIncreasing (map unsigned_abs cuts) × ((z : ℤ) → Contains cuts z → (n : ℕ) × (z ≡ pos n) × (n ≤ parts))

-- what is said holds of each line that is read in a state as the number of parts: of the state, the bytes and the number
abbrev pub EachPartsLine : (State → List ℕ → ℕ → Type 0) → Type 0
EachPartsLine Says = (state : State) (bytes : List ℕ) (n : ℕ) → reading state (Text bytes) ≡ Ok (Parts n) → Says state bytes n

-- and as a system: of the bytes and the system
abbrev pub EachSystemLine : (List ℕ → SystemWord → Type 0) → Type 0
EachSystemLine Says = (state : State) (bytes : List ℕ) (s : SystemWord) → reading state (Text bytes) ≡ Ok (System s) → Says bytes s

-- and as a mark: of the bytes, the variable and the mark
abbrev pub EachMarkLine : (List ℕ → ℕ → MarkWord → Type 0) → Type 0
EachMarkLine Says = (state : State) (bytes : List ℕ) (name : ℕ) (m : MarkWord) → reading state (Text bytes) ≡ Ok (Mark name m) → Says bytes name m

-- and as chosen cuts: of the state, the bytes and the cuts
abbrev pub EachCutsLine : (State → List ℕ → List ℤ → Type 0) → Type 0
EachCutsLine Says = (state : State) (bytes : List ℕ) (cuts : List ℤ) → reading state (Text bytes) ≡ Ok (Cuts (cut.Chosen cuts)) → Says state bytes cuts

-- and as a limit: of the bytes and the limit
abbrev pub EachLimitLine : (List ℕ → Option ℕ → Type 0) → Type 0
EachLimitLine Says = (state : State) (bytes : List ℕ) (limit : Option ℕ) → reading state (Text bytes) ≡ Ok (Limit limit) → Says bytes limit

-- and as a format: of the bytes and the format
abbrev pub EachFormatLine : (List ℕ → FormatWord → Type 0) → Type 0
EachFormatLine Says = (state : State) (bytes : List ℕ) (f : FormatWord) → reading state (Text bytes) ≡ Ok (Format f) → Says bytes f

-- what is said holds of each line that is read in a state as an addition: of the state, the bytes, the part and the numbers
abbrev pub EachAddLine : (State → List ℕ → ℕ → List ℤ → Type 0) → Type 0
EachAddLine Says = (state : State) (bytes : List ℕ) (part : ℕ) (lits : List ℤ) → reading state (Text bytes) ≡ Ok (Add part lits) → Says state bytes part lits

-- what is said holds of each line that is read in a state as a solve: of the state, the bytes and the assumptions
abbrev pub EachSolveLine : (State → List ℕ → List (ℕ × ℤ) → Type 0) → Type 0
EachSolveLine Says = (state : State) (bytes : List ℕ) (pairs : List (ℕ × ℤ)) → reading state (Text bytes) ≡ Ok (Solve pairs) → Says state bytes pairs
