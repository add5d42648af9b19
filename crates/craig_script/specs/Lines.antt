-- The lines of a stream of bytes, and a stream that is cut into lines as it comes.
use Rattle.std.specs.Prelude.{◌≡◌, ℕ, ◌+◌, ◌≤◌, Bool, true, false, ◌==◌, nat_le, List, [], ◌∷◌, ◌++◌, length, take, map, if◌then◌else◌}
use Rattle.std.specs.List.{list_any}
use Rattle.craig_script.specs.declared.line.Line.{Line}
use Rattle.craig_script.specs.declared.line.Line.TheVariants.{Text, Overlong}

-- the most bytes of a line, its newline not counted
abbrev pub line_limit : ℕ
line_limit = 1048576

-- whether the byte is a newline
abbrev pub is_newline : ℕ → Bool
is_newline b = b == 10

-- whether a newline is among the bytes
abbrev pub has_newline : List ℕ → Bool
has_newline bytes = list_any is_newline bytes

-- the bytes in front of the first of the lines, where there is one
abbrev pub onto_first : List ℕ → List (List ℕ) → List (List ℕ)
onto_first bytes [] = []
onto_first bytes (line ∷ lines) = (bytes ++ line) ∷ lines

-- the lines that end in a newline, each without it
abbrev pub whole_lines : List ℕ → List (List ℕ)
whole_lines [] = []
whole_lines (b ∷ bs) = if is_newline b then [] ∷ whole_lines bs else onto_first (b ∷ []) (whole_lines bs)

-- the bytes after the last newline
abbrev pub last_part : List ℕ → List ℕ
last_part [] = []
last_part (b ∷ bs) = if has_newline (b ∷ bs) then last_part bs else b ∷ bs

-- a line of these bytes, where there are any
abbrev pub unless_empty : List ℕ → List (List ℕ)
unless_empty [] = []
unless_empty (b ∷ bs) = (b ∷ bs) ∷ []

-- the lines of the stream: a last one without its newline counts where it has a byte
abbrev pub lines : List ℕ → List (List ℕ)
lines bytes = whole_lines bytes ++ unless_empty (last_part bytes)

-- a line of these bytes
abbrev pub line_of : List ℕ → Line
line_of bytes = if nat_le (length bytes) line_limit then Text bytes else Overlong

-- the lines of the script that the bytes are
abbrev pub script_lines : List ℕ → List Line
script_lines bytes = map line_of (lines bytes)

-- a stream that is cut into lines as it comes
pub record LinesView : Type 0 where
  -- the lines that have come and weren't given yet
  pub ready : List Line
  -- the bytes after the last newline so far, cut off where they are enough to be overlong
  pub partial : List ℕ
  -- whether the stream has ended
  pub finished : Bool

-- a stream that hasn't ended, with these lines and this part of the next
abbrev pub unended : List Line → List ℕ → LinesView
unended ready partial = record { ready = ready; partial = partial; finished = false }

-- nothing has come
abbrev pub before_first_byte : LinesView
before_first_byte = unended [] []

-- as much of a line as tells what it is
unfoldable pub cut_back : List ℕ → List ℕ
cut_back bytes = take (line_limit + 1) bytes

-- less than a whole line, and no more of it than it is cut back to
pub record IsPartial (bytes : List ℕ) : Type 0 where
  -- no more than tells that a line is overlong
  pub bounded : length bytes ≤ line_limit + 1
  -- no newline is among them
  pub open_ended : has_newline bytes ≡ false

-- a piece of the stream has come
abbrev pub fed : LinesView → List ℕ → LinesView
fed cut piece = unended (cut.ready ++ map line_of (whole_lines (cut.partial ++ piece))) (cut_back (last_part (cut.partial ++ piece)))

-- the stream has ended, so what has come of the next line is a line where it has a byte
abbrev pub ended : LinesView → LinesView
ended cut = record {
  ready = cut.ready ++ map line_of (unless_empty cut.partial);
  partial = [];
  finished = true;
}

-- the same, if lines that were given before are counted in
abbrev pub with_given : List Line → LinesView → LinesView
with_given given cut = record { ready = given ++ cut.ready; partial = cut.partial; finished = cut.finished }

-- pieces of the stream have come, one after the other
abbrev pub all_fed : LinesView → List (List ℕ) → LinesView
all_fed cut [] = cut
all_fed cut (piece ∷ pieces) = all_fed (fed cut piece) pieces
