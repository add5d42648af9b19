-- What the words of the command line set: they are a run of pieces, each a name with its value.
use Rattle.std.specs.Prelude.{◌≡◌, ℕ, Bool, true, false, not, ◌&&◌, ◌==◌, nat_le, List, [], ◌∷◌, Option, Some, None, Result, Ok, Err, codes, if◌then◌else◌, option_and_then, find}
use Rattle.std.specs.List.{list_all, list_any, before_first, after_first}
use Rattle.std.specs.Option.{option_map, is_some}
use Rattle.std.specs.Str.{bytes_eq}
use Rattle.craig_script.specs.NumberWords.{number_of}
use Rattle.craig_script.specs.Reading.{system_named, format_named}
use Rattle.craig_words.specs.declared.words.Words.{Words}
use Rattle.craig_words.specs.declared.words.WordsFault.{WordsFault}
use Rattle.craig_words.specs.declared.words.WordsFault.TheVariants.{Refused, NoMemory}

-- a name, and the value that is given for it
pub record Piece : Type 0 where
  -- the name of an option, without its minus signs
  pub name : List ℕ
  -- the value, as it stands
  pub value : List ℕ

-- ---- which pieces the words are

-- what stands behind two minus signs (45) at the front of a word
abbrev pub after_signs : List ℕ → Option (List ℕ)
after_signs (x ∷ y ∷ rest) = if x == 45 && y == 45 then Some rest else None
after_signs _ = None

-- the name before the first equals sign (61), and the value behind it, if there is one
abbrev pub name_and_value : List ℕ → List ℕ × Option (List ℕ)
name_and_value text = (
  before_first (λ byte. byte == 61) text,
  if list_any (λ byte. byte == 61) text then Some (after_first (λ byte. byte == 61) text) else None,
)

-- one piece more, in front of the others
abbrev pub with_piece : List ℕ → List ℕ → Option (List Piece) → Option (List Piece)
with_piece name value = option_map (λ pieces. record { name = name; value = value } ∷ pieces)

-- the pieces from a name on, which has its value or waits for the next word
abbrev pub pieces_from : Option (List ℕ × Option (List ℕ)) → (Option (List ℕ) → Option (List Piece)) → Option (List Piece)
pieces_from None others = None
pieces_from (Some (name, None)) others = others (Some name)
pieces_from (Some (name, Some value)) others = with_piece name value (others None)

-- the pieces of the words, where a name before them may wait for its value
abbrev pub pieces_after : List (List ℕ) → Option (List ℕ) → Option (List Piece)
pieces_after [] None = Some []
pieces_after [] (Some name) = None
pieces_after (word ∷ words) None = pieces_from (option_map name_and_value (after_signs word)) (pieces_after words)
pieces_after (word ∷ words) (Some name) = with_piece name word (pieces_after words None)

-- the pieces of the words: each is one word `--name=value`, or the two words `--name` and `value`
abbrev pub pieces_of : List (List ℕ) → Option (List Piece)
pieces_of words = pieces_after words None

-- ---- what the pieces set

-- whether a piece has the name
abbrev pub has_name : List ℕ → List Piece → Bool
has_name name = list_any (λ piece. bytes_eq piece.name name)

-- whether no name stands twice
abbrev pub are_different : List Piece → Bool
are_different [] = true
are_different (piece ∷ pieces) = not (has_name piece.name pieces) && are_different pieces

-- the number that the text writes, where it is in the range
abbrev pub number_between : ℕ → ℕ → List ℕ → Option ℕ
number_between least most text = option_and_then (λ n. if nat_le least n && nat_le n most then Some n else None) (number_of text)

-- the conflict limit that the text writes: the word for none, or a number from 1 to 100000
abbrev pub limit_named : List ℕ → Option (Option ℕ)
limit_named text = if bytes_eq text (codes "none") then Some None else option_map (λ n. Some n) (number_between 1 100000 text)

-- the number of steps that the text writes: from 1 to 60
abbrev pub steps_named : List ℕ → Option ℕ
steps_named text = number_between 1 60 text

-- whether the name is known, and the value allowed for it
abbrev pub is_allowed : Piece → Bool
is_allowed piece =
    if bytes_eq piece.name (codes "system") then is_some (system_named piece.value)
    else if bytes_eq piece.name (codes "format") then is_some (format_named piece.value)
    else if bytes_eq piece.name (codes "limit") then is_some (limit_named piece.value)
    else if bytes_eq piece.name (codes "gen") then is_some (steps_named piece.value)
    else false

-- the value of the name, where a piece has it
abbrev pub value_of : List ℕ → List Piece → Option (List ℕ)
value_of name pieces = option_map (λ piece. piece.value) (find (λ piece. bytes_eq piece.name name) pieces)

-- what the pieces set, each its own name
abbrev pub set_by : List Piece → Words
set_by pieces = record {
  system = option_and_then system_named (value_of (codes "system") pieces);
  format = option_and_then format_named (value_of (codes "format") pieces);
  limit = option_and_then limit_named (value_of (codes "limit") pieces);
  steps = option_and_then steps_named (value_of (codes "gen") pieces);
}

-- what the pieces set, where no name stands twice and each is allowed
abbrev pub settings_of : List Piece → Option Words
settings_of pieces = if are_different pieces && list_all is_allowed pieces then Some (set_by pieces) else None

-- what the words set, or nothing where they are refused
abbrev pub words_read : List (List ℕ) → Option Words
words_read words = option_and_then settings_of (pieces_of words)

-- the answer is what was read, and a refusal where nothing was, unless memory ran out
abbrev pub IsReadAs : {A : Type 0} → Option A → Result A WordsFault → Type 0
IsReadAs answer (Ok value) = answer ≡ Some value
IsReadAs answer (Err Refused) = answer ≡ None
IsReadAs answer (Err (NoMemory e)) = Unit {0}
