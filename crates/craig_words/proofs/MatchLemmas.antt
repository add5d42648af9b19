-- Where clap takes the words, and which matches it has: those of their pieces.
use Rattle.std.proofs.Common.{◌≡◌, ◌∙◌, Bool, cond, true, false, ◌&&◌, List, [], ◌∷◌, ◌++◌, Option, Some, None, refl, sym, ap, true≢false, append-nil, append_assoc, inl, inr}
use Rattle.std.proofs.lemmas.Bool.{and_parts}
use Rattle.std.specs.List.{list_all, fold}
use Rattle.std.specs.Prelude.{◌⊎◌}
use Rattle.std.specs.Option.{option_map}
use Rattle.clap.specs.Walk.{Row, Text, Walk, settled, walked}
use Rattle.clap.specs.Faults.{settle_fault, turn_fault, walk_fault}
use Rattle.clap.specs.Kinds.{Kinds, or_else}
use Rattle.clap.specs.declared.error.kind.ErrorKind.{ErrorKind}
use Rattle.clap.specs.declared.error.kind.ErrorKind.TheVariants as kind
use Rattle.craig_words.specs.CommandLine.{Piece, name_and_value, with_piece, pieces_from, pieces_after, has_name, are_different, is_allowed}
use Rattle.craig_words.specs.ClapCommand.{is_known, is_readable}
use Rattle.craig_words.proofs.PieceLemmas.{are_accepted, front, not_allowed, signed_refused, twice_refused, unknown_refused, one_more_different, some≢none}
use Rattle.craig_words.proofs.ClapWalkLemmas.{rules, shape, Place, between, behind, walk_at, with_last, all_at, clashes, knows, place_known, waits_at, rows_for, settle_fault-is, settled_rows-is, wants_fault}
use Rattle.craig_words.proofs.ClapStepLemmas.{IsNamed, IsBare, Form, form_of_word, unknown_turn, wanting_turn, clash_turn, given_turn, given_walked, opened_turn, opened_walked, stray_turn, value_turn, value_walked}

-- the fault of a walk over the words
abbrev pub fault : Walk → List Text → Kinds
fault w words = or_else (walk_fault shape [] w words) (settle_fault rules false (fold (walked rules []) w words).held)

-- the rows behind it
abbrev pub last_rows : Walk → List Text → List Row
last_rows w words = (settled rules (fold (walked rules []) w words).held).rows

-- clap takes the words, and has the pieces before them and theirs
pub record IsTaken (before : List Piece) (w : Walk) (words : List Text) (waits : Option Text) : Type 0 where
  pub quiet : fault w words ≡ []
  pub pieces : List Piece
  pub are_those : pieces_after words waits ≡ Some pieces
  pub different : are_different (before ++ pieces) ≡ true
  pub known : list_all (λ piece. is_known piece.name) pieces ≡ true
  pub rows : last_rows w words ≡ rows_for (before ++ pieces)

-- clap refuses the words, and so does the definition
pub record IsFaulty (before : List Piece) (w : Walk) (words : List Text) (waits : Option Text) : Type 0 where
  pub first : ErrorKind
  pub others : Kinds
  pub loud : fault w words ≡ first ∷ others
  pub refused : (pieces : List Piece) → pieces_after words waits ≡ Some pieces → are_accepted (before ++ pieces) ≡ false

-- one of the two
abbrev pub Answer : List Piece → Walk → List Text → Option Text → Type 0
Answer before w words waits = IsTaken before w words waits ⊎ IsFaulty before w words waits

-- ---- one word more in front

-- the fault of the first word is that of all
fault_here : (w : Walk) (word : Text) (words : List Text) (first : ErrorKind) → turn_fault shape [] w word ≡ first ∷ []
    → fault w (word ∷ words) ≡ first ∷ []
unfolding walk_fault
fault_here w word words first e =
    ap (λ k. or_else (or_else k (walk_fault shape [] (walked rules [] w word) words)) (settle_fault rules false (fold (walked rules []) (walked rules [] w word) words).held)) e

-- where the first word has none, it is that of the others
fault_later : (w next : Walk) (word : Text) (words : List Text) → turn_fault shape [] w word ≡ [] → walked rules [] w word ≡ next
    → fault w (word ∷ words) ≡ fault next words
unfolding walk_fault
fault_later w next word words e is =
    ap (λ k. or_else (or_else k (walk_fault shape [] (walked rules [] w word) words)) (settle_fault rules false (fold (walked rules []) (walked rules [] w word) words).held)) e
    ∙ ap (λ (v : Walk). fault v words) is

-- and the rows are theirs
rows_later : (w next : Walk) (word : Text) (words : List Text) → walked rules [] w word ≡ next → last_rows w (word ∷ words) ≡ last_rows next words
rows_later w next word words is = ap (λ (v : Walk). last_rows v words) is

-- one piece more, in front of others or behind the ones before
assoc : (before : List Piece) (piece : Piece) (after : List Piece) → (before ++ piece ∷ []) ++ after ≡ before ++ piece ∷ after
assoc before piece after = append_assoc before (piece ∷ []) after

-- a word that completes a piece
completed : (before : List Piece) (w next : Walk) (word : Text) (words : List Text) (waits : Option Text) (name value : Text) → turn_fault shape [] w word ≡ []
    → walked rules [] w word ≡ next → pieces_after (word ∷ words) waits ≡ with_piece name value (pieces_after words None) → is_known name ≡ true
    → Answer (before ++ record { name = name; value = value } ∷ []) next words None → Answer before w (word ∷ words) waits
completed before w next word words waits name value e is reads known (inl a) = inl (record {
  quiet = fault_later w next word words e is ∙ a.quiet;
  pieces = record { name = name; value = value } ∷ a.pieces;
  are_those = reads ∙ ap (with_piece name value) a.are_those;
  different = ap are_different (sym (assoc before (record { name = name; value = value }) a.pieces)) ∙ a.different;
  known = ap (λ b. b && list_all (λ piece. is_known piece.name) a.pieces) known ∙ a.known;
  rows = rows_later w next word words is ∙ a.rows ∙ ap rows_for (assoc before (record { name = name; value = value }) a.pieces);
})
completed before w next word words waits name value e is reads known (inr a) = inr (record {
  first = a.first;
  others = a.others;
  loud = fault_later w next word words e is ∙ a.loud;
  refused = λ pieces those.
      let parts = front name value (pieces_after words None) pieces (sym reads ∙ those) in
      ap (λ all. are_accepted (before ++ all)) (sym parts.2) ∙ ap are_accepted (sym (assoc before (record { name = name; value = value }) parts.0)) ∙ a.refused parts.0 parts.1;
})

-- a word that opens a piece
opened : (before : List Piece) (w next : Walk) (word : Text) (words : List Text) (name : Text) → turn_fault shape [] w word ≡ []
    → walked rules [] w word ≡ next → pieces_after (word ∷ words) None ≡ pieces_after words (Some name)
    → Answer before next words (Some name) → Answer before w (word ∷ words) None
opened before w next word words name e is reads (inl a) = inl (record {
  quiet = fault_later w next word words e is ∙ a.quiet;
  pieces = a.pieces;
  are_those = reads ∙ a.are_those;
  different = a.different;
  known = a.known;
  rows = rows_later w next word words is ∙ a.rows;
})
opened before w next word words name e is reads (inr a) = inr (record {
  first = a.first;
  others = a.others;
  loud = fault_later w next word words e is ∙ a.loud;
  refused = λ pieces those. a.refused pieces (sym reads ∙ those);
})

-- ---- what is refused

-- a name stands first among the pieces from it on
pub first_of_name : (name : Text) (value : Option Text) (words : List Text) (pieces : List Piece) → pieces_from (Some (name, value)) (pieces_after words) ≡ Some pieces
    → (text : Text) × (rest : List Piece) × (record { name = name; value = text } ∷ rest ≡ pieces)
first_of_name name (Some text) words pieces e =
    let parts = front name text (pieces_after words None) pieces e in (text, parts.0, parts.2)
first_of_name name None [] pieces e = absurd (some≢none pieces e)
first_of_name name None (word ∷ words) pieces e =
    let parts = front name word (pieces_after words None) pieces e in (word, parts.0, parts.2)

-- the last piece clashes with one before it
clash_refused : (before : List Piece) (last : Option Piece) (pieces : List Piece) → clashes before last ≡ true → are_accepted (with_last before last ++ pieces) ≡ false
clash_refused before None pieces e = absurd (true≢false (sym e))
clash_refused before (Some piece) pieces e = ap are_accepted (assoc before piece pieces) ∙ twice_refused before piece pieces e

-- a last piece that doesn't clash is different from the others
with_last_different : (before : List Piece) (last : Option Piece) → are_different before ≡ true → clashes before last ≡ false → are_different (with_last before last) ≡ true
with_last_different before None d e = d
with_last_different before (Some piece) d e = one_more_different before piece d e

-- ---- all words

-- no words are left between two pieces
end_between : (before : List Piece) (last : Option Piece) → are_different before ≡ true → knows last ≡ true
    → Answer (with_last before last) (walk_at before (between last)) [] None
unfolding walk_fault
end_between before last d known = go (clashes before last) refl
  where
    go : (b : Bool) → clashes before last ≡ b → Answer (with_last before last) (walk_at before (between last)) [] None
    go true e = inr (record {
      first = kind.ArgumentConflict;
      others = [];
      loud = settle_fault-is before last known ∙ ap (λ b. cond b (kind.ArgumentConflict ∷ []) []) e;
      refused = λ pieces those. clash_refused before last pieces e;
    })
    go false e = inl (record {
      quiet = settle_fault-is before last known ∙ ap (λ b. cond b (kind.ArgumentConflict ∷ []) []) e;
      pieces = [];
      are_those = refl;
      different = ap are_different (append-nil (with_last before last)) ∙ with_last_different before last d e;
      known = refl;
      rows = settled_rows-is before last known e ∙ ap rows_for (sym (append-nil (with_last before last)));
    })

-- no words are left behind a name
end_behind : (before : List Piece) (name : Text) → is_known name ≡ true → Answer before (walk_at before (behind name)) [] (Some name)
unfolding walk_fault
end_behind before name known = inr (record {
  first = kind.InvalidValue;
  others = [];
  loud = wants_fault before name known;
  refused = λ pieces those. absurd (some≢none pieces those);
})

-- what follows a word, from each place that it leads to
abbrev Later : List Text → Type 0
Later words = (before : List Piece) (place : Place) → are_different before ≡ true → place_known place ≡ true → Answer (all_at before place) (walk_at before place) words (waits_at place)

-- a word with a name, between pieces
module _ (word : Text) (words : List Text) (later : Later words) (before : List Piece) (last : Option Piece) (d : are_different before ≡ true) (known : knows last ≡ true) where
  unknown_between : (name : Text) (value : Option Text) → IsNamed word name value → is_known name ≡ false
      → Answer (with_last before last) (walk_at before (between last)) (word ∷ words) None
  unknown_between name value h e = inr (record {
    first = kind.UnknownArgument;
    others = [];
    loud = fault_here (walk_at before (between last)) word words kind.UnknownArgument (unknown_turn before (between last) word name value h e);
    refused = λ pieces those.
        let parts = first_of_name name value words pieces (sym (ap (λ o. pieces_from o (pieces_after words)) h.read) ∙ those) in
        ap (λ all. are_accepted (with_last before last ++ all)) (sym parts.2)
        ∙ not_allowed (with_last before last) (record { name = name; value = parts.0 }) parts.1 (unknown_refused name parts.0 e);
  })

  clash_between : (name : Text) (value : Option Text) → IsNamed word name value → is_known name ≡ true → clashes before last ≡ true
      → Answer (with_last before last) (walk_at before (between last)) (word ∷ words) None
  clash_between name value h e clash = inr (record {
    first = kind.ArgumentConflict;
    others = [];
    loud = fault_here (walk_at before (between last)) word words kind.ArgumentConflict (clash_turn before last word name value h known e clash);
    refused = λ pieces those. clash_refused before last pieces clash;
  })

  given_between : (name value : Text) → IsNamed word name (Some value) → is_known name ≡ true → clashes before last ≡ false
      → (b : Bool) → has_name name (with_last before last) ≡ b → Answer (with_last before last) (walk_at before (between last)) (word ∷ words) None
  given_between name value h e new true there = inr (record {
    first = kind.ArgumentConflict;
    others = [];
    loud = fault_here (walk_at before (between last)) word words kind.ArgumentConflict
        (given_turn before last word name value h known e new ∙ ap (λ b. cond b (kind.ArgumentConflict ∷ []) []) there);
    refused = λ pieces those.
        let parts = front name value (pieces_after words None) pieces (sym (ap (λ o. pieces_from o (pieces_after words)) h.read) ∙ those) in
        ap (λ all. are_accepted (with_last before last ++ all)) (sym parts.2)
        ∙ twice_refused (with_last before last) (record { name = name; value = value }) parts.0 there;
  })
  given_between name value h e new false absent =
      completed (with_last before last) (walk_at before (between last)) _ word words None name value
      (given_turn before last word name value h known e new ∙ ap (λ b. cond b (kind.ArgumentConflict ∷ []) []) absent)
      (given_walked before last word name value h known e new absent)
      (ap (λ o. pieces_from o (pieces_after words)) h.read) e
      (later (with_last before last ++ record { name = name; value = value } ∷ []) (between None)
      (one_more_different (with_last before last) (record { name = name; value = value }) (with_last_different before last d new) absent) refl)

  named_between : (name : Text) (value : Option Text) → IsNamed word name value → (k c : Bool) → is_known name ≡ k → clashes before last ≡ c
      → Answer (with_last before last) (walk_at before (between last)) (word ∷ words) None
  named_between name value h false c e clash = unknown_between name value h e
  named_between name value h true true e clash = clash_between name value h e clash
  named_between name None h true false e new =
      opened (with_last before last) (walk_at before (between last)) _ word words name
      (opened_turn before last word name h known e new) (opened_walked before last word name h known e new)
      (ap (λ o. pieces_from o (pieces_after words)) h.read)
      (later (with_last before last) (behind name) (with_last_different before last d new) e)
  named_between name (Some value) h true false e new = given_between name value h e new (has_name name (with_last before last)) refl

  bare_between : IsBare word → Answer (with_last before last) (walk_at before (between last)) (word ∷ words) None
  bare_between h = inr (record {
    first = kind.UnknownArgument;
    others = [];
    loud = fault_here (walk_at before (between last)) word words kind.UnknownArgument (stray_turn before last word h);
    refused = λ pieces those.
        absurd (some≢none pieces (sym (ap (λ o. pieces_from (option_map name_and_value o) (pieces_after words)) h.read) ∙ those));
  })

-- the fault of a name behind a name, known or not
abbrev kind_for : Bool → ErrorKind
kind_for true = kind.InvalidValue
kind_for false = kind.UnknownArgument

-- a word behind a name
named_behind : (word : Text) (words : List Text) (before : List Piece) (n name : Text) (value : Option Text) → IsNamed word name value → is_known n ≡ true
    → (k : Bool) → is_known name ≡ k → Answer before (walk_at before (behind n)) (word ∷ words) (Some n)
named_behind word words before n name value h known k e = inr (record {
  first = kind_for k;
  others = [];
  loud = fault_here (walk_at before (behind n)) word words (kind_for k) (turn k e);
  refused = λ pieces those.
      let parts = front n word (pieces_after words None) pieces those in
      ap (λ all. are_accepted (before ++ all)) (sym parts.2)
      ∙ not_allowed before (record { name = n; value = word }) parts.0
      (ap (λ (text : Text). is_allowed (record { name = n; value = text })) h.signed ∙ signed_refused n h.rest);
})
  where
    turn : (b : Bool) → is_known name ≡ b → turn_fault shape [] (walk_at before (behind n)) word ≡ kind_for b ∷ []
    turn true is = wanting_turn before n word name value h known is
    turn false is = unknown_turn before (behind n) word name value h is

-- a value behind a name
bare_behind : (word : Text) (words : List Text) → Later words → (before : List Piece) (n : Text) → IsBare word → are_different before ≡ true → is_known n ≡ true
    → Answer before (walk_at before (behind n)) (word ∷ words) (Some n)
bare_behind word words later before n h d known =
    completed before (walk_at before (behind n)) _ word words (Some n) n word (value_turn before n word h) (value_walked before n word h known) refl known
    (later before (between (Some (record { name = n; value = word }))) d known)

-- the walk over all words, from any place
pub answer : (words : List Text) → list_all is_readable words ≡ true → Later words
answer [] readable before (between last) d known = end_between before last d known
answer [] readable before (behind name) d known = end_behind before name known
answer (word ∷ words) readable before (between last) d known =
    let parts = and_parts (is_readable word) (list_all is_readable words) readable in
    let form : Form word = form_of_word word parts.0 in
    elim form [
      | inl h ↦ named_between word words (answer words parts.1) before last d known h.0 h.1 h.2 (is_known h.0) (clashes before last) refl refl
      | inr h ↦ bare_between word words (answer words parts.1) before last d known h
    ]
answer (word ∷ words) readable before (behind name) d known =
    let parts = and_parts (is_readable word) (list_all is_readable words) readable in
    let form : Form word = form_of_word word parts.0 in
    elim form [
      | inl h ↦ named_behind word words before name h.0 h.1 h.2 known (is_known h.0) refl
      | inr h ↦ bare_behind word words (answer words parts.1) before name h d known
    ]
