-- A whole parse: what an answer of clap says of the words.
use Rattle.std.proofs.Common.{◌≡◌, ◌∙◌, Bool, cond, true, false, List, [], ◌∷◌, map, Option, Some, None, Result, Ok, Err, refl, sym, ap, subst, inl, inr}
use Rattle.std.proofs.Math.Bool.{or-true}
use Rattle.std.specs.List.{list_all, fold, find}
use Rattle.std.specs.Prelude.{option_and_then, slice_get}
use Rattle.std.specs.Option.{option_map, is_some}
use Rattle.std.specs.Str.{bytes_eq}
use Rattle.std.specs.Result.{IsErrAnd}
use Rattle.std.specs.declared.alloc.AllocError.{AllocError}
use Rattle.craig_words.specs.declared.words.WordsFault.{WordsFault}
use Rattle.craig_words.specs.declared.words.WordsFault.TheVariants.{Refused, NoMemory}
use Rattle.clap.proofs.WalkLemmas.{first_value-rows}
use Rattle.clap.specs.Words.{found_of, matches_of, fault_of, rows_of}
use Rattle.clap.specs.Walk.{Row, Text, Walk, first_of, has_row, walked, with_default}
use Rattle.clap.specs.Simple.{App, entered}
use Rattle.clap.specs.Faults.{check_fault, defaults_fault, entered_fault, settle_fault, walk_fault}
use Rattle.clap.specs.Kinds.{IsAmong, Kinds, or_else}
use Rattle.clap.specs.declared.error.kind.ErrorKind.{ErrorKind}
use Rattle.clap.specs.declared.parser.matches.ArgMatches.{ArgMatches}
use Rattle.craig_words.specs.CommandLine.{Piece, pieces_of, settings_of, set_by, value_of, words_read}
use Rattle.craig_words.specs.ClapCommand.{HasPieces, IsMatchOf, is_readable, option_names, words_app}
use Rattle.craig_words.proofs.PieceLemmas.{are_accepted, cond_same}
use Rattle.craig_words.proofs.ClapWalkLemmas.{rules, rule_named, shape, between, walk_at, row_for, rows_for}
use Rattle.craig_words.proofs.MatchLemmas.{Answer, answer, fault, last_rows}

-- the built command
abbrev whole : App
whole = record { top = shape; subs = [] }

-- no option has a default
no_default_fault : (rows : List Row) (names : List Text) → defaults_fault rows (map rule_named names) ≡ []
unfolding defaults_fault
no_default_fault rows [] = refl
no_default_fault rows (k ∷ ks) =
    let always = or-true (has_row k rows) in
    rw always (no_default_fault (with_default rows (rule_named k)) ks)

-- and none adds a row
no_default_rows : (names : List Text) (rows : List Row) → fold with_default rows (map rule_named names) ≡ rows
no_default_rows [] rows = refl
no_default_rows (k ∷ ks) rows = ap (λ (r : List Row). fold with_default r (map rule_named ks)) (cond_same (has_row k rows) rows) ∙ no_default_rows ks rows

-- nothing behind a list of kinds
nothing_more : (kinds : Kinds) → or_else kinds [] ≡ kinds
nothing_more [] = refl
nothing_more (k ∷ kinds) = refl

-- what stands behind the walk adds no fault
only_walk : (walks settles : Kinds) (stop : Option (Text × List Text)) (rows after : List Row)
    → or_else walks (or_else (entered_fault whole stop) (or_else settles (or_else (defaults_fault rows rules) (check_fault shape after (is_some (entered whole stop))))))
    ≡ or_else walks settles
only_walk walks settles None rows after = rw (no_default_fault rows option_names) (ap (or_else walks) (nothing_more settles))
only_walk walks settles (Some p) rows after = rw (no_default_fault rows option_names) (ap (or_else walks) (nothing_more settles))

-- the fault of a parse is that of its walk
whole_fault : (words : List Text) → fault_of words_app words ≡ fault (walk_at [] (between None)) words
whole_fault words =
    let start : Walk = walk_at [] (between None) in
    only_walk (walk_fault shape [] start words) (settle_fault rules false (fold (walked rules []) start words).held) (fold (walked rules []) start words).stopped
    (last_rows start words) (matches_of words_app words)

-- the matches of a parse are the rows of its walk
whole_rows : (words : List Text) → matches_of words_app words ≡ last_rows (walk_at [] (between None)) words
whole_rows words = no_default_rows option_names (last_rows (walk_at [] (between None)) words)

-- the first value of a name
first_of-pieces : (name : Text) (pieces : List Piece) → first_of name (rows_for pieces) ≡ value_of name pieces
first_of-pieces name [] = refl
first_of-pieces name (piece ∷ pieces) = go (bytes_eq piece.name name) (first_of-pieces name pieces)
  where
    go : (b : Bool) → first_of name (rows_for pieces) ≡ value_of name pieces
        → option_and_then (λ (r : Row). slice_get r.values 0) (cond b (Some (row_for piece)) (find (λ r. bytes_eq r.id name) (rows_for pieces)))
        ≡ option_map (λ (p : Piece). p.value) (cond b (Some piece) (find (λ p. bytes_eq p.name name) pieces))
    go true e = refl
    go false e = e

-- clap has matches
pub taken : (words : List Text) (matches : ArgMatches) → list_all is_readable words ≡ true → rows_of (found_of matches) ≡ matches_of words_app words
    → fault_of words_app words ≡ [] → HasPieces words matches
taken words matches readable rows quiet =
    let all : Answer [] (walk_at [] (between None)) words None = answer words readable [] (between None) refl refl in
    elim all [
      | inl a ↦ record {
        pieces = a.pieces;
        are_those = a.are_those;
        different = a.different;
        known = a.known;
        values = λ name.
            first_value-rows (found_of matches) name ∙ ap (first_of name) (rows ∙ whole_rows words ∙ a.rows) ∙ first_of-pieces name a.pieces;
      }
      | inr a ↦ let bad : [] ≡ a.first ∷ a.others = sym quiet ∙ whole_fault words ∙ a.loud in absurd cc
    ]

-- pieces that are not accepted set nothing
pub no_settings : (pieces : Option (List Piece)) → ((those : List Piece) → pieces ≡ Some those → are_accepted those ≡ false) → option_and_then settings_of pieces ≡ None
no_settings None refused = refl
no_settings (Some those) refused = ap (λ b. cond b (Some (set_by those)) None) (refused those refl)

-- clap has a fault
pub faulty : (words : List Text) (kind : ErrorKind) → list_all is_readable words ≡ true → IsAmong kind (fault_of words_app words) → words_read words ≡ None
faulty words kind readable among =
    let all : Answer [] (walk_at [] (between None)) words None = answer words readable [] (between None) refl refl in
    elim all [
      | inl a ↦ absurd (subst (IsAmong kind) (whole_fault words ∙ a.quiet) among)
      | inr a ↦ no_settings (pieces_of words) a.refused
    ]

-- want of memory says nothing of the words
pub after_memory : (words : List Text) (result : Result ArgMatches WordsFault) (from : AllocError) → IsErrAnd result (λ fault. fault ≡ NoMemory from) → IsMatchOf words result
after_memory words (Ok matches) from h = absurd h
after_memory words (Err Refused) from h = absurd cc
after_memory words (Err (NoMemory e)) from h = tt
