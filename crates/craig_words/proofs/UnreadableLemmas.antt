-- Words that clap isn't given: no pieces that are allowed have them.
use Rattle.std.proofs.Common.{◌≡◌, ◌∙◌, ℕ, Bool, cond, true, false, not, ◌&&◌, ◌||◌, ◌==◌, List, [], ◌∷◌, Option, Some, None, refl, sym, ap, true≢false, eqb-true}
use Rattle.std.proofs.Math.Bool.{and-false}
use Rattle.std.specs.List.{list_all}
use Rattle.std.specs.Option.{option_map}
use Rattle.craig_words.specs.CommandLine.{Piece, after_signs, name_and_value, with_piece, pieces_from, pieces_after, pieces_of, are_different, is_allowed, words_read}
use Rattle.craig_words.specs.ClapCommand.{is_readable}
use Rattle.craig_words.proofs.PieceLemmas.{front, signed_refused, unknown_refused, some≢none}
use Rattle.craig_words.proofs.MatchLemmas.{first_of_name}
use Rattle.craig_words.proofs.ParseLemmas.{no_settings}

-- the pieces of the words aren't all allowed
abbrev Fails : List (List ℕ) → Type 0
Fails words = (waits : Option (List ℕ)) (pieces : List Piece) → pieces_after words waits ≡ Some pieces → list_all is_allowed pieces ≡ false

-- a piece in front of such ones
piece_before : (name value : List ℕ) (words : List (List ℕ)) → Fails words → (pieces : List Piece) → with_piece name value (pieces_after words None) ≡ Some pieces → list_all is_allowed pieces ≡ false
piece_before name value words later pieces those =
    let parts = front name value (pieces_after words None) pieces those in
    let one : Piece = record { name = name; value = value } in
    ap (list_all is_allowed) (sym parts.2) ∙ ap (λ b. is_allowed one && b) (later None parts.0 parts.1) ∙ and-false (is_allowed one)

-- the same, from a name on
begun_before : (words : List (List ℕ)) → Fails words → (begun : Option (List ℕ × Option (List ℕ))) (pieces : List Piece) → pieces_from begun (pieces_after words) ≡ Some pieces
    → list_all is_allowed pieces ≡ false
begun_before words later None pieces those = absurd (some≢none pieces those)
begun_before words later (Some (name, None)) pieces those = later (Some name) pieces those
begun_before words later (Some (name, Some value)) pieces those = piece_before name value words later pieces those

-- a word in front of such ones
word_before : (word : List ℕ) (words : List (List ℕ)) → Fails words → Fails (word ∷ words)
word_before word words later None pieces those = begun_before words later (option_map name_and_value (after_signs word)) pieces those
word_before word words later (Some name) pieces those = piece_before name word words later pieces those

-- how an unreadable word begins
true_of_not : (b : Bool) → not b ≡ false → b ≡ true
true_of_not true e = refl
true_of_not false e = absurd (true≢false e)

-- it begins with a minus sign
signed : (word : List ℕ) → is_readable word ≡ false → (rest : List ℕ) × (word ≡ 45 ∷ rest)
signed [] e = absurd (true≢false e)
signed (x ∷ []) e = ([], ap (λ n. n ∷ []) (eqb-true x 45 (true_of_not (x == 45) e)))
signed (x ∷ y ∷ []) e = (y ∷ [], ap (λ n. n ∷ y ∷ []) (eqb-true x 45 (true_of_not (x == 45) e)))
signed (x ∷ y ∷ z ∷ rest) e = (y ∷ z ∷ rest, ap (λ n. n ∷ y ∷ z ∷ rest) (eqb-true x 45 (go (x == 45) e)))
  where
    go : (b : Bool) → (not b || y == 45) ≡ false → b ≡ true
    go true e = refl
    go false e = absurd (true≢false e)

-- it begins no piece with a name
nameless : (word : List ℕ) (words : List (List ℕ)) → is_readable word ≡ false → (pieces : List Piece)
    → pieces_from (option_map name_and_value (after_signs word)) (pieces_after words) ≡ Some pieces → list_all is_allowed pieces ≡ false
nameless [] words e pieces those = absurd (true≢false e)
nameless (x ∷ []) words e pieces those = absurd (some≢none pieces those)
nameless (x ∷ y ∷ []) words e pieces those = go (x == 45 && y == 45) those
  where
    go : (b : Bool) → pieces_from (option_map name_and_value (cond b (Some []) None)) (pieces_after words) ≡ Some pieces → list_all is_allowed pieces ≡ false
    go false those = absurd (some≢none pieces those)
    go true those =
        let parts = first_of_name [] None words pieces those in
        ap (list_all is_allowed) (sym parts.2) ∙ ap (λ b. b && list_all is_allowed parts.1) (unknown_refused [] parts.0 refl)
nameless (x ∷ y ∷ z ∷ rest) words e pieces those = go (x == 45) (y == 45) e those
  where
    go : (a b : Bool) → (not a || b) ≡ false → pieces_from (option_map name_and_value (cond (a && b) (Some (z ∷ rest)) None)) (pieces_after words) ≡ Some pieces
        → list_all is_allowed pieces ≡ false
    go true true e those = absurd (true≢false e)
    go true false e those = absurd (some≢none pieces those)
    go false b e those = absurd (true≢false e)

-- words that begin with it
unreadable_word : (word : List ℕ) (words : List (List ℕ)) → is_readable word ≡ false → Fails (word ∷ words)
unreadable_word word words e None pieces those = nameless word words e pieces those
unreadable_word word words e (Some name) pieces those =
    let parts = front name word (pieces_after words None) pieces those in
    let begins = signed word e in
    ap (list_all is_allowed) (sym parts.2)
    ∙ ap (λ b. b && list_all is_allowed parts.0) (ap (λ (text : List ℕ). is_allowed (record { name = name; value = text })) begins.1 ∙ signed_refused name begins.0)

-- words among which it is
unreadable : (words : List (List ℕ)) → list_all is_readable words ≡ false → Fails words
unreadable [] e = absurd (true≢false e)
unreadable (word ∷ words) e = go (is_readable word) refl e (unreadable words)
  where
    go : (b : Bool) → is_readable word ≡ b → (b && list_all is_readable words) ≡ false → (list_all is_readable words ≡ false → Fails words) → Fails (word ∷ words)
    go true is e later = word_before word words (later e)
    go false is e later = unreadable_word word words is

-- and such words set nothing
pub unreadable_refused : (words : List (List ℕ)) → list_all is_readable words ≡ false → words_read words ≡ None
unreadable_refused words e =
    no_settings (pieces_of words) (λ pieces those. ap (λ b. are_different pieces && b) (unreadable words e None pieces those) ∙ and-false (are_different pieces))
