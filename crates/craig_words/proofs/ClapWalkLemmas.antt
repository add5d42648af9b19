-- What clap's walk makes of the words, for the command with its options.
use Rattle.std.proofs.Common.{◌≡◌, ◌∙◌, Bool, cond, true, false, ◌&&◌, ◌||◌, List, [], ◌∷◌, ◌++◌, map, Option, Some, None, codes, refl, sym, ap, true≢false, append-nil}
use Rattle.std.specs.List.{list_any}
use Rattle.std.specs.Option.{option_map, option_map_or}
use Rattle.std.specs.Str.{bytes_eq}
use Rattle.std.proofs.lemmas.List.{map-append}
use Rattle.clap.proofs.WalkLemmas.{list_any-map}
use Rattle.clap.specs.Walk.{Held, Row, Rule, Text, Waiting, Walk, idle, option, arg_by_id, arg_by_long, at_row, has_row, more_values, settled_rows, used}
use Rattle.clap.specs.Simple.{Shape, built, filled, new_shape}
use Rattle.clap.specs.Faults.{use_fault, settle_fault}
use Rattle.clap.specs.Kinds.{or_else}
use Rattle.clap.specs.declared.error.kind.ErrorKind.TheVariants as kind
use Rattle.clap.specs.declared.builder.value_parser.Reading.TheVariants as reading
use Rattle.clap.specs.declared.parser.matches.ValueSource.TheVariants.{CommandLine}
use Rattle.craig_words.specs.CommandLine.{Piece, has_name}
use Rattle.craig_words.specs.ClapCommand.{is_known, option_names, option_named, words_app}
use Rattle.craig_words.proofs.PieceLemmas.{or_false, same_bytes}

-- ---- the built command

-- the rule of an option
abbrev pub rule_named : Text → Rule
rule_named name = filled (option_named name)

-- the rules of the options
abbrev pub rules : List Rule
rules = map rule_named option_names

-- the command as clap reads it
abbrev pub shape : Shape
shape = record (new_shape (codes "craig")) {
  rules = rules;
  no_binary_name = true;
  disable_help_flag = true;
  disable_help_subcommand = true;
  is_built = true;
}

-- building adds to the command what `shape` says
pub is_built_so : built words_app ≡ record { top = shape; subs = [] }
is_built_so = refl

-- the first rule with the name
pub by_long : (names : List Text) (name : Text) → arg_by_long (map rule_named names) name ≡ cond (list_any (λ known. bytes_eq known name) names) (Some (rule_named name)) None
by_long [] name = refl
by_long (k ∷ ks) name = go (bytes_eq k name) (same_bytes k name) (by_long ks name)
  where
    go : (b : Bool) → (b ≡ true → k ≡ name) → arg_by_long (map rule_named ks) name ≡ cond (list_any (λ known. bytes_eq known name) ks) (Some (rule_named name)) None
        → cond (b || false) (Some (rule_named k)) (arg_by_long (map rule_named ks) name) ≡ cond (b || list_any (λ known. bytes_eq known name) ks) (Some (rule_named name)) None
    go true same e = ap (λ n. Some (rule_named n)) (same refl)
    go false same e = e

-- the same by its id
pub by_id : (names : List Text) (name : Text) → arg_by_id (map rule_named names) name ≡ cond (list_any (λ known. bytes_eq known name) names) (Some (rule_named name)) None
by_id [] name = refl
by_id (k ∷ ks) name = go (bytes_eq k name) (same_bytes k name) (by_id ks name)
  where
    go : (b : Bool) → (b ≡ true → k ≡ name) → arg_by_id (map rule_named ks) name ≡ cond (list_any (λ known. bytes_eq known name) ks) (Some (rule_named name)) None
        → cond b (Some (rule_named k)) (arg_by_id (map rule_named ks) name) ≡ cond (b || list_any (λ known. bytes_eq known name) ks) (Some (rule_named name)) None
    go true same e = ap (λ n. Some (rule_named n)) (same refl)
    go false same e = e

-- an option by its name
pub known_long : (name : Text) → is_known name ≡ true → arg_by_long rules name ≡ Some (rule_named name)
known_long name e = by_long option_names name ∙ ap (λ b. cond b (Some (rule_named name)) None) e

-- no option has a name that isn't known
pub unknown_long : (name : Text) → is_known name ≡ false → arg_by_long rules name ≡ None
unknown_long name e = by_long option_names name ∙ ap (λ b. cond b (Some (rule_named name)) None) e

-- an option by its id
pub known_id : (name : Text) → is_known name ≡ true → arg_by_id rules name ≡ Some (rule_named name)
known_id name e = by_id option_names name ∙ ap (λ b. cond b (Some (rule_named name)) None) e

-- ---- rows

-- the row of a piece
abbrev pub row_for : Piece → Row
row_for piece = record {
  id = piece.name;
  values = piece.value ∷ [];
  count = None;
  source = Some CommandLine;
  reading = reading.AsWritten;
}

-- the rows of pieces
abbrev pub rows_for : List Piece → List Row
rows_for = map row_for

-- a name has a row where a piece has it
pub has_row-pieces : (name : Text) (pieces : List Piece) → has_row name (rows_for pieces) ≡ has_name name pieces
has_row-pieces name pieces = sym (list_any-map (λ (r : Row). bytes_eq r.id name) row_for pieces)

-- a row that isn't there is put at the end
at_row_new : (name : Text) (change : Row → List Row) (missing : List Row) (pieces : List Piece) → has_name name pieces ≡ false
    → at_row name change missing (rows_for pieces) ≡ rows_for pieces ++ missing
at_row_new name change missing [] e = refl
at_row_new name change missing (p ∷ pieces) e =
    let parts = or_false (bytes_eq p.name name) (has_name name pieces) e in
    rw parts.0 (ap (λ rs. row_for p ∷ rs) (at_row_new name change missing pieces parts.1))

-- a use of an option that wasn't used
pub used_new : (name value : Text) (pieces : List Piece) → has_name name pieces ≡ false
    → used (rule_named name) (value ∷ []) (rows_for pieces) ≡ rows_for (pieces ++ record { name = name; value = value } ∷ [])
used_new name value pieces e =
    let row : Row = row_for (record { name = name; value = value }) in
    ap (at_row name (more_values CommandLine (value ∷ [])) (row ∷ [])) (at_row_new name (λ _. []) [] pieces e ∙ append-nil (rows_for pieces))
    ∙ at_row_new name (more_values CommandLine (value ∷ [])) (row ∷ []) pieces e
    ∙ sym (map-append row_for pieces (record { name = name; value = value } ∷ []))

-- the fault of a second use
pub use_fault-is : (name value : Text) (pieces : List Piece)
    → use_fault false (rule_named name) (value ∷ []) (rows_for pieces) ≡ cond (has_name name pieces) (kind.ArgumentConflict ∷ []) []
use_fault-is name value pieces = go (has_row name (rows_for pieces)) (has_name name pieces) (has_row-pieces name pieces)
  where
    go : (b c : Bool) → b ≡ c → or_else (cond (b && true) (kind.ArgumentConflict ∷ []) []) [] ≡ cond c (kind.ArgumentConflict ∷ []) []
    go true true e = refl
    go false false e = refl
    go true false e = absurd (true≢false e)
    go false true e = absurd (true≢false (sym e))

-- ---- where the walk stands

-- between two pieces, with the last one not used yet where it was two words, or behind a name alone
pub data Place : Type 0 where
  between : Option Piece → Place
  behind : Text → Place

-- what takes the next word there
abbrev pub waiting_at : Place → Waiting
waiting_at (between last) = idle
waiting_at (behind name) = option name

-- the option that isn't used yet there, with its values
abbrev pub pending_at : Place → Option (Text × List Text)
pending_at (between last) = option_map (λ piece. (piece.name, piece.value ∷ [])) last
pending_at (behind name) = Some (name, [])

-- the name that waits for its value
abbrev pub waits_at : Place → Option Text
waits_at (between last) = None
waits_at (behind name) = Some name

-- the pieces, with the last one
abbrev pub with_last : List Piece → Option Piece → List Piece
with_last pieces None = pieces
with_last pieces (Some piece) = pieces ++ piece ∷ []

-- the pieces up to a place
abbrev pub all_at : List Piece → Place → List Piece
all_at pieces (between last) = with_last pieces last
all_at pieces (behind name) = pieces

-- what is held there
abbrev pub held_at : List Piece → Place → Held
held_at pieces place = record { rows = rows_for pieces; pending = pending_at place; skip = 0 }

-- a walk that stands there with these rows
abbrev pub walk_with : List Row → Place → Walk
walk_with rows place = record {
  held = record { rows = rows; pending = pending_at place; skip = 0 };
  waiting = waiting_at place;
  position = 1;
  is_trailing = false;
  stopped = None;
}

-- a walk that stands there with these pieces
abbrev pub walk_at : List Piece → Place → Walk
walk_at pieces place = walk_with (rows_for pieces) place

-- whether the name that isn't used yet is known
abbrev pub knows : Option Piece → Bool
knows None = true
knows (Some piece) = is_known piece.name

-- whether the name that a place speaks of is known
abbrev pub place_known : Place → Bool
place_known (between last) = knows last
place_known (behind name) = is_known name

-- the last piece has a name that stands before
abbrev pub clashes : List Piece → Option Piece → Bool
clashes pieces None = false
clashes pieces (Some piece) = has_name piece.name pieces

-- the last piece, used: the fault that this may have
pub settle_fault-is : (pieces : List Piece) (last : Option Piece) → knows last ≡ true
    → settle_fault rules false (held_at pieces (between last)) ≡ cond (clashes pieces last) (kind.ArgumentConflict ∷ []) []
settle_fault-is pieces None e = refl
settle_fault-is pieces (Some piece) e =
    ap (λ o. option_map_or (λ a. use_fault false a (piece.value ∷ []) (rows_for pieces)) o []) (known_id piece.name e) ∙ use_fault-is piece.name piece.value pieces

-- and the rows that it leaves
pub settled_rows-is : (pieces : List Piece) (last : Option Piece) → knows last ≡ true → clashes pieces last ≡ false
    → settled_rows rules (pending_at (between last)) (rows_for pieces) ≡ rows_for (with_last pieces last)
settled_rows-is pieces None e new = refl
settled_rows-is pieces (Some piece) e new = rw (known_id piece.name e) (used_new piece.name piece.value pieces new)

-- an option without a value has a fault
pub wants_fault : (pieces : List Piece) (name : Text) → is_known name ≡ true → settle_fault rules false (held_at pieces (behind name)) ≡ kind.InvalidValue ∷ []
wants_fault pieces name e = ap (λ o. option_map_or (λ a. use_fault false a [] (rows_for pieces)) o []) (known_id name e)
