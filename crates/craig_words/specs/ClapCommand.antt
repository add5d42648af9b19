-- The command as which clap reads the words, and what its matches are in the words of the definition.
use Rattle.std.specs.Prelude.{◌≡◌, ℕ, Bool, true, not, ◌||◌, ◌==◌, List, [], ◌∷◌, Option, Some, None, Result, Ok, Err, codes, option_and_then}
use Rattle.std.specs.List.{list_all, list_any}
use Rattle.std.specs.Option.{option_map}
use Rattle.std.specs.Str.{bytes_eq}
use Rattle.clap.specs.Words.{App, Rule, new_app, new_rule, with_rule, first_value, found_of}
use Rattle.clap.specs.declared.builder.action.ArgAction.TheVariants.{Set}
use Rattle.clap.specs.declared.parser.matches.ArgMatches.{ArgMatches}
use Rattle.craig_words.specs.CommandLine.{Piece, pieces_of, are_different, value_of, words_read, limit_named, steps_named}
use Rattle.craig_script.specs.Reading.{system_named, format_named}
use Rattle.craig_words.specs.declared.words.Words.{Words}
use Rattle.craig_words.specs.declared.words.WordsFault.{WordsFault}
use Rattle.craig_words.specs.declared.words.WordsFault.TheVariants.{Refused, NoMemory}

-- an option with the name, which takes one value
abbrev pub option_named : List ℕ → Rule
option_named name = record (new_rule name) { long = Some name; action = Some Set }

-- the command without its options: no name of a program in the words, and no help
abbrev pub bare_app : App
bare_app =
    let made = new_app (codes "craig") in
    record made { top = record made.top { no_binary_name = true; disable_help_flag = true } }

-- the command with its options
abbrev pub words_app : App
words_app =
    with_rule (with_rule (with_rule (with_rule bare_app (option_named (codes "system"))) (option_named (codes "format"))) (option_named (codes "limit"))) (option_named (codes "gen"))

-- the names of the options
abbrev pub option_names : List (List ℕ)
option_names = codes "system" ∷ codes "format" ∷ codes "limit" ∷ codes "gen" ∷ []

-- whether the name is one of an option
abbrev pub is_known : List ℕ → Bool
is_known name = list_any (λ known. bytes_eq known name) option_names

-- whether the word is given to clap: one that begins with a minus sign (45) has a second one and something behind it
abbrev pub is_readable : List ℕ → Bool
is_readable (x ∷ y ∷ z ∷ rest) = not (x == 45) || y == 45
is_readable (x ∷ _) = not (x == 45)
is_readable [] = true

-- the matches are those of the pieces of the words, whose names are known and differ
pub record HasPieces (words : List (List ℕ)) (matches : ArgMatches) : Type 0 where
  -- the pieces
  pub pieces : List Piece
  -- they are those of the words
  pub are_those : pieces_of words ≡ Some pieces
  -- no name stands twice
  pub different : are_different pieces ≡ true
  -- each name is known
  pub known : list_all (λ piece. is_known piece.name) pieces ≡ true
  -- the value of each name
  pub values : (name : List ℕ) → first_value (found_of matches) name ≡ value_of name pieces

-- the matches are those of the pieces, or the words are refused, unless memory ran out
abbrev pub IsMatchOf : List (List ℕ) → Result ArgMatches WordsFault → Type 0
IsMatchOf words (Ok matches) = HasPieces words matches
IsMatchOf words (Err Refused) = words_read words ≡ None
IsMatchOf words (Err (NoMemory e)) = Unit {0}

-- what a value is read as, where the option is used; nothing where it is refused
abbrev pub given : {A : Type 0} → (List ℕ → Option A) → Option (List ℕ) → Option (Option A)
given read None = Some None
given read (Some text) = option_map (λ value. Some value) (read text)

-- what all values set, where each is read
abbrev pub given_settings : (List ℕ → Option (List ℕ)) → Option Words
given_settings value =
    option_and_then (λ system. option_and_then (λ format. option_and_then (λ limit. option_map (λ steps. record {
      system = system;
      format = format;
      limit = limit;
      steps = steps;
    }) (given steps_named (value (codes "gen")))) (given limit_named (value (codes "limit")))) (given format_named (value (codes "format")))) (given system_named (value (codes "system")))
