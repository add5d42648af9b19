-- One word of clap's walk: what it is, and where the walk stands behind it.
use Rattle.std.proofs.Common.{◌≡◌, ◌∙◌, Bool, cond, true, false, not, ◌||◌, ◌==◌, List, [], ◌∷◌, ◌++◌, Option, Some, None, refl, sym, ap, true≢false, inl, inr, eqb-true}
use Rattle.std.specs.Prelude.{◌⊎◌}
use Rattle.std.specs.Option.{option_map}
use Rattle.std.specs.Str.{bytes_eq}
use Rattle.clap.specs.Lexer.{long_of, short_of}
use Rattle.clap.specs.Walk.{Row, Text, after_step, used, arg_by_long, long_word, walked}
use Rattle.clap.specs.Faults.{long_fault, step_fault, turn_fault}
use Rattle.clap.specs.Kinds.{Kinds, or_else}
use Rattle.clap.specs.declared.error.kind.ErrorKind.TheVariants as kind
use Rattle.craig_words.specs.CommandLine.{Piece, after_signs, name_and_value, has_name}
use Rattle.craig_words.specs.ClapCommand.{is_known, is_readable}
use Rattle.craig_words.proofs.PieceLemmas.{bytes_same, false_of_not}
use Rattle.craig_words.proofs.ClapWalkLemmas.{rules, shape, Place, between, behind, held_at, walk_at, walk_with, with_last, clashes, knows, waiting_at, known_id, known_long, unknown_long, settle_fault-is, settled_rows-is, wants_fault, use_fault-is, used_new, rule_named}

-- ---- what a word is

-- the word begins with two minus signs, and has the name and the value
pub record IsNamed (word : Text) (name : Text) (value : Option Text) : Type 0 where
  -- as clap reads it
  pub long : long_of word ≡ Some (name, value)
  pub apart : bytes_eq word (45 ∷ 45 ∷ []) ≡ false
  -- as the definition reads it
  pub read : option_map name_and_value (after_signs word) ≡ Some (name, value)
  -- it begins with a minus sign
  pub rest : Text
  pub signed : word ≡ 45 ∷ rest

-- the word doesn't begin with a minus sign
pub record IsBare (word : Text) : Type 0 where
  pub long : long_of word ≡ None
  pub short : short_of word ≡ None
  pub apart : bytes_eq word (45 ∷ 45 ∷ []) ≡ false
  pub read : after_signs word ≡ None

-- a word that may be given to clap
abbrev pub Form : Text → Type 0
Form word = ((name : Text) × (value : Option Text) × IsNamed word name value) ⊎ IsBare word

-- each such word has one of the two forms
pub form_of_word : (word : Text) → is_readable word ≡ true → Form word
form_of_word [] e = inr (record { long = refl; short = refl; apart = refl; read = refl })
form_of_word (x ∷ []) e =
    let other : (x == 45) ≡ false = false_of_not (x == 45) e in
    inr (record { long = rw other refl; short = rw other refl; apart = rw other refl; read = refl })
form_of_word (x ∷ y ∷ []) e =
    let other : (x == 45) ≡ false = false_of_not (x == 45) e in
    inr (record { long = rw other refl; short = rw other refl; apart = rw other refl; read = rw other refl })
form_of_word (x ∷ y ∷ z ∷ rest) e = go (x == 45) (y == 45) refl refl e
  where
    go : (a b : Bool) → (x == 45) ≡ a → (y == 45) ≡ b → (not a || b) ≡ true → Form (x ∷ y ∷ z ∷ rest)
    go true false first second h = absurd (true≢false (sym h))
    go true true first second h = inl (
      (name_and_value (z ∷ rest)).0,
      (name_and_value (z ∷ rest)).1,
      record {
        long = rw (first, second) refl;
        apart = rw (first, second) refl;
        read = rw (first, second) refl;
        rest = y ∷ z ∷ rest;
        signed = ap (λ n. n ∷ y ∷ z ∷ rest) (eqb-true x 45 first);
      },
    )
    go false b first second h = inr (record { long = rw first refl; short = rw first refl; apart = rw first refl; read = rw first refl })

-- ---- a word with a name

-- how clap takes it
named_turn : (pieces : List Piece) (place : Place) (word name : Text) (value : Option Text) → IsNamed word name value
    → turn_fault shape [] (walk_at pieces place) word
    ≡ or_else (long_fault rules false (arg_by_long rules name) value (held_at pieces place))
    (step_fault shape 1 (long_word rules (waiting_at place) word name value (held_at pieces place)).0 (long_word rules (waiting_at place) word name value (held_at pieces place)).1)
named_turn pieces (between last) word name value h =
    let apart = h.apart in let long = h.long in rw (apart, long) refl
named_turn pieces (behind n) word name value h =
    let apart = h.apart in let long = h.long in rw (apart, long) refl

-- where the walk stands behind it
named_walked : (pieces : List Piece) (place : Place) (word name : Text) (value : Option Text) → IsNamed word name value
    → walked rules [] (walk_at pieces place) word
    ≡ after_step rules word (walk_at pieces place) (long_word rules (waiting_at place) word name value (held_at pieces place)).0
    (long_word rules (waiting_at place) word name value (held_at pieces place)).1
unfolding walked
named_walked pieces (between last) word name value h =
    let apart = h.apart in let long = h.long in rw (apart, long) refl
named_walked pieces (behind n) word name value h =
    let apart = h.apart in let long = h.long in rw (apart, long) refl

-- a name that isn't known
pub unknown_turn : (pieces : List Piece) (place : Place) (word name : Text) (value : Option Text) → IsNamed word name value → is_known name ≡ false
    → turn_fault shape [] (walk_at pieces place) word ≡ kind.UnknownArgument ∷ []
unknown_turn pieces place word name value h e =
    named_turn pieces place word name value h
    ∙ ap (λ o. or_else (long_fault rules false o value (held_at pieces place))
    (step_fault shape 1 (long_word rules (waiting_at place) word name value (held_at pieces place)).0 (long_word rules (waiting_at place) word name value (held_at pieces place)).1))
    (unknown_long name e)

-- an option behind one that waits for its value
pub wanting_turn : (pieces : List Piece) (n : Text) (word name : Text) (value : Option Text) → IsNamed word name value → is_known n ≡ true → is_known name ≡ true
    → turn_fault shape [] (walk_at pieces (behind n)) word ≡ kind.InvalidValue ∷ []
wanting_turn pieces n word name None h known e =
    named_turn pieces (behind n) word name None h ∙ rw (known_long name e, wants_fault pieces n known) refl
wanting_turn pieces n word name (Some value) h known e =
    named_turn pieces (behind n) word name (Some value) h ∙ rw (known_long name e, wants_fault pieces n known) refl

-- an option where the last one was given before
pub clash_turn : (pieces : List Piece) (last : Option Piece) (word name : Text) (value : Option Text) → IsNamed word name value → knows last ≡ true → is_known name ≡ true
    → clashes pieces last ≡ true → turn_fault shape [] (walk_at pieces (between last)) word ≡ kind.ArgumentConflict ∷ []
clash_turn pieces last word name None h known e clash =
    named_turn pieces (between last) word name None h ∙ rw (known_long name e, settle_fault-is pieces last known, clash) refl
clash_turn pieces last word name (Some value) h known e clash =
    named_turn pieces (between last) word name (Some value) h ∙ rw (known_long name e, settle_fault-is pieces last known, clash) refl

-- a first list of kinds, with nothing behind it
nothing_else : (b : Bool) (kinds : Kinds) → or_else (cond b kinds []) [] ≡ cond b kinds []
nothing_else true [] = refl
nothing_else true (k ∷ kinds) = refl
nothing_else false kinds = refl

-- an option with its value
pub given_turn : (pieces : List Piece) (last : Option Piece) (word name value : Text) → IsNamed word name (Some value) → knows last ≡ true → is_known name ≡ true
    → clashes pieces last ≡ false
    → turn_fault shape [] (walk_at pieces (between last)) word ≡ cond (has_name name (with_last pieces last)) (kind.ArgumentConflict ∷ []) []
given_turn pieces last word name value h known e new =
    named_turn pieces (between last) word name (Some value) h
    ∙ rw (known_long name e, settle_fault-is pieces last known, new, settled_rows-is pieces last known new)
    (ap (λ k. or_else k []) (use_fault-is name value (with_last pieces last)) ∙ nothing_else (has_name name (with_last pieces last)) (kind.ArgumentConflict ∷ []))

-- and where the walk stands then
pub given_walked : (pieces : List Piece) (last : Option Piece) (word name value : Text) → IsNamed word name (Some value) → knows last ≡ true → is_known name ≡ true
    → clashes pieces last ≡ false → has_name name (with_last pieces last) ≡ false
    → walked rules [] (walk_at pieces (between last)) word ≡ walk_at (with_last pieces last ++ record { name = name; value = value } ∷ []) (between None)
given_walked pieces last word name value h known e new first =
    named_walked pieces (between last) word name (Some value) h
    ∙ rw (known_long name e)
    (ap (λ (rows : List Row). walk_with rows (between None))
    (ap (used (rule_named name) (value ∷ [])) (settled_rows-is pieces last known new) ∙ used_new name value (with_last pieces last) first))

-- an option that waits for its value
pub opened_turn : (pieces : List Piece) (last : Option Piece) (word name : Text) → IsNamed word name None → knows last ≡ true → is_known name ≡ true
    → clashes pieces last ≡ false → turn_fault shape [] (walk_at pieces (between last)) word ≡ []
opened_turn pieces last word name h known e new =
    named_turn pieces (between last) word name None h ∙ rw (known_long name e, settle_fault-is pieces last known, new) refl

-- and where the walk stands then
pub opened_walked : (pieces : List Piece) (last : Option Piece) (word name : Text) → IsNamed word name None → knows last ≡ true → is_known name ≡ true
    → clashes pieces last ≡ false
    → walked rules [] (walk_at pieces (between last)) word ≡ walk_at (with_last pieces last) (behind name)
opened_walked pieces last word name h known e new =
    named_walked pieces (between last) word name None h ∙ rw (known_long name e, settled_rows-is pieces last known new) refl

-- ---- a word without a name

-- between pieces it is one word too many
pub stray_turn : (pieces : List Piece) (last : Option Piece) (word : Text) → IsBare word
    → turn_fault shape [] (walk_at pieces (between last)) word ≡ kind.UnknownArgument ∷ []
stray_turn pieces last word h = let apart = h.apart in let long = h.long in let short = h.short in rw (apart, long, short) refl

-- behind a name it is its value
pub value_turn : (pieces : List Piece) (name word : Text) → IsBare word → turn_fault shape [] (walk_at pieces (behind name)) word ≡ []
value_turn pieces name word h = let apart = h.apart in let long = h.long in let short = h.short in rw (apart, long, short) refl

-- and where the walk stands then
pub value_walked : (pieces : List Piece) (name word : Text) → IsBare word → is_known name ≡ true
    → walked rules [] (walk_at pieces (behind name)) word ≡ walk_at pieces (between (Some (record { name = name; value = word })))
unfolding walked
value_walked pieces name word h e =
    let apart = h.apart in let long = h.long in let short = h.short in rw (apart, long, short, known_id name e, bytes_same name) refl
