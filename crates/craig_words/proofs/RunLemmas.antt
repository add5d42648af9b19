-- Runs of pieces, as they are written and as they are read.
use Rattle.std.proofs.Common.{◌≡◌, ◌∙◌, ℕ, suc, ◌+◌, Bool, cond, true, false, not, ◌&&◌, ◌||◌, ◌==◌, List, [], ◌∷◌, ◌++◌, map, take, drop, Option, Some, None, refl, sym, ap, ap₂, true≢false, eqb-true, arith}
use Rattle.std.proofs.lemmas.Bool.{and_parts}
use Rattle.std.specs.List.{list_any, before_first, after_first, position_or_len}
use Rattle.std.specs.Option.{option_map}
use Rattle.craig_script.proofs.WordsLemmas.{position_or_len-go, position_or_len-stop}
use Rattle.craig_words.specs.CommandLine.{Piece, name_and_value, with_piece, pieces_from, pieces_after, pieces_of}
use Rattle.craig_words.specs.Runs.{Written, words_before, words_of, have_plain_names}
use Rattle.craig_words.proofs.PieceLemmas.{false_of_not, or_false, front, some≢none}

-- the byte is an equals sign
abbrev is_equals : ℕ → Bool
is_equals = λ byte. byte == 61

-- where a text is cut, byte by byte
before-go : (b : ℕ) (bs : List ℕ) → is_equals b ≡ false → before_first is_equals (b ∷ bs) ≡ b ∷ before_first is_equals bs
before-go b bs e = ap (λ n. take n (b ∷ bs)) (position_or_len-go is_equals b bs e)

-- the part before ends at an equals sign
before-stop : (b : ℕ) (bs : List ℕ) → is_equals b ≡ true → before_first is_equals (b ∷ bs) ≡ []
before-stop b bs e = ap (λ n. take n (b ∷ bs)) (position_or_len-stop is_equals b bs e)

-- the part behind, at another byte
after-go : (b : ℕ) (bs : List ℕ) → is_equals b ≡ false → after_first is_equals (b ∷ bs) ≡ after_first is_equals bs
after-go b bs e =
    let n : ℕ = position_or_len is_equals bs in
    let next : suc n + 1 ≡ suc (n + 1) = omega arith in
    ap (λ k. drop (k + 1) (b ∷ bs)) (position_or_len-go is_equals b bs e) ∙ ap (λ k. drop k (b ∷ bs)) next

-- the part behind, at an equals sign
after-stop : (b : ℕ) (bs : List ℕ) → is_equals b ≡ true → after_first is_equals (b ∷ bs) ≡ bs
after-stop b bs e = ap (λ k. drop (k + 1) (b ∷ bs)) (position_or_len-stop is_equals b bs e)

-- ---- a name with its value, and one alone

-- a name with its value has an equals sign
has_equals : (name value : List ℕ) → list_any is_equals (name ++ 61 ∷ value) ≡ true
has_equals [] value = refl
has_equals (b ∷ name) value = go (is_equals b) (has_equals name value)
  where
    go : (c : Bool) → list_any is_equals (name ++ 61 ∷ value) ≡ true → (c || list_any is_equals (name ++ 61 ∷ value)) ≡ true
    go true e = refl
    go false e = e

-- its first part is the name
before_joined : (name value : List ℕ) → list_any is_equals name ≡ false → before_first is_equals (name ++ 61 ∷ value) ≡ name
before_joined [] value e = before-stop 61 value refl
before_joined (b ∷ name) value e =
    let parts = or_false (is_equals b) (list_any is_equals name) e in
    before-go b (name ++ 61 ∷ value) parts.0 ∙ ap (λ rest. b ∷ rest) (before_joined name value parts.1)

-- its second part is the value
after_joined : (name value : List ℕ) → list_any is_equals name ≡ false → after_first is_equals (name ++ 61 ∷ value) ≡ value
after_joined [] value e = after-stop 61 value refl
after_joined (b ∷ name) value e =
    let parts = or_false (is_equals b) (list_any is_equals name) e in
    after-go b (name ++ 61 ∷ value) parts.0 ∙ after_joined name value parts.1

-- a name alone has no second part
before_alone : (name : List ℕ) → list_any is_equals name ≡ false → before_first is_equals name ≡ name
before_alone [] e = refl
before_alone (b ∷ name) e =
    let parts = or_false (is_equals b) (list_any is_equals name) e in
    before-go b name parts.0 ∙ ap (λ rest. b ∷ rest) (before_alone name parts.1)

-- what stands before the first equals sign has none
before_plain : (text : List ℕ) → list_any is_equals (before_first is_equals text) ≡ false
before_plain [] = refl
before_plain (b ∷ text) = go (is_equals b) refl (before_plain text)
  where
    go : (c : Bool) → is_equals b ≡ c → list_any is_equals (before_first is_equals text) ≡ false → list_any is_equals (before_first is_equals (b ∷ text)) ≡ false
    go true e rest = ap (list_any is_equals) (before-stop b text e)
    go false e rest = ap (list_any is_equals) (before-go b text e) ∙ ap (λ d. d || list_any is_equals (before_first is_equals text)) e ∙ rest

-- a text with an equals sign is its two parts
joined_again : (text : List ℕ) → list_any is_equals text ≡ true → before_first is_equals text ++ 61 ∷ after_first is_equals text ≡ text
joined_again [] e = absurd (true≢false (sym e))
joined_again (b ∷ text) e = go (is_equals b) refl e (joined_again text)
  where
    go : (c : Bool) → is_equals b ≡ c → (c || list_any is_equals text) ≡ true
        → (list_any is_equals text ≡ true → before_first is_equals text ++ 61 ∷ after_first is_equals text ≡ text)
        → before_first is_equals (b ∷ text) ++ 61 ∷ after_first is_equals (b ∷ text) ≡ b ∷ text
    go true is h rest =
        ap₂ (λ (xs ys : List ℕ). xs ++ 61 ∷ ys) (before-stop b text is) (after-stop b text is) ∙ ap (λ n. n ∷ text) (sym (eqb-true b 61 is))
    go false is h rest =
        ap₂ (λ (xs ys : List ℕ). xs ++ 61 ∷ ys) (before-go b text is) (after-go b text is) ∙ ap (λ t. b ∷ t) (rest h)

-- both together, of a name with its value
cut_joined : (name value : List ℕ) → list_any is_equals name ≡ false → name_and_value (name ++ 61 ∷ value) ≡ (name, Some value)
cut_joined name value e =
    ap₂ (λ (n : List ℕ) (v : Option (List ℕ)). (n, v)) (before_joined name value e)
    (ap (λ b. cond b (Some (after_first is_equals (name ++ 61 ∷ value))) None) (has_equals name value) ∙ ap (λ v. Some v) (after_joined name value e))

-- both together, of a name alone
cut_alone : (name : List ℕ) → list_any is_equals name ≡ false → name_and_value name ≡ (name, None)
cut_alone name e =
    ap₂ (λ (n : List ℕ) (v : Option (List ℕ)). (n, v)) (before_alone name e) (ap (λ b. cond b (Some (after_first is_equals name)) None) e)

-- ---- a run is read as its pieces

-- the pieces of the words of a run are its pieces
pub run_is_read : (run : List Written) → have_plain_names run ≡ true → pieces_of (words_of run) ≡ Some (map (λ written. written.piece) run)
run_is_read [] plain = refl
run_is_read (written ∷ run) plain =
    let parts = and_parts (not (list_any is_equals written.piece.name)) (have_plain_names run) plain in
    let name : list_any is_equals written.piece.name ≡ false = false_of_not (list_any is_equals written.piece.name) parts.0 in
    let rest : pieces_after (words_of run) None ≡ Some (map (λ w. w.piece) run) = run_is_read run parts.1 in
    go written.is_joined name rest
  where
    go : (b : Bool) → list_any is_equals written.piece.name ≡ false → pieces_after (words_of run) None ≡ Some (map (λ w. w.piece) run)
        → pieces_of (words_before (record { piece = written.piece; is_joined = b }) (words_of run)) ≡ Some (written.piece ∷ map (λ w. w.piece) run)
    go true name rest =
        ap (λ cut. pieces_from (Some cut) (pieces_after (words_of run))) (cut_joined written.piece.name written.piece.value name)
        ∙ ap (with_piece written.piece.name written.piece.value) rest
    go false name rest =
        ap (λ cut. pieces_from (Some cut) (pieces_after (written.piece.value ∷ words_of run))) (cut_alone written.piece.name name)
        ∙ ap (with_piece written.piece.name written.piece.value) rest

-- ---- what is read is a run

-- the words are a run of the pieces, or a value with such a run where a name waits for it
abbrev pub IsRun : List (List ℕ) → Option (List ℕ) → List Piece → Type 0
IsRun words None pieces = (run : List Written) × (have_plain_names run ≡ true) × (words_of run ≡ words) × (map (λ written. written.piece) run ≡ pieces)
IsRun words (Some name) pieces =
    (value : List ℕ) × (run : List Written) × (have_plain_names run ≡ true) × (value ∷ words_of run ≡ words)
    × (record { name = name; value = value } ∷ map (λ written. written.piece) run ≡ pieces)

-- one piece more in front
begun_run : (text : List ℕ) (words : List (List ℕ)) → ((waits : Option (List ℕ)) (pieces : List Piece) → pieces_after words waits ≡ Some pieces → IsRun words waits pieces)
    → (pieces : List Piece) → (b : Bool) → list_any is_equals text ≡ b
    → pieces_from (Some (before_first is_equals text, cond b (Some (after_first is_equals text)) None)) (pieces_after words) ≡ Some pieces
    → IsRun ((45 ∷ 45 ∷ text) ∷ words) None pieces
begun_run text words later pieces true has those =
    let name : List ℕ = before_first is_equals text in
    let value : List ℕ = after_first is_equals text in
    let parts = front name value (pieces_after words None) pieces those in
    let rest : IsRun words None parts.0 = later None parts.0 parts.1 in
    let one : Written = record { piece = record { name = name; value = value }; is_joined = true } in (
      one ∷ rest.0,
      ap (λ b. not b && have_plain_names rest.0) (before_plain text) ∙ rest.1,
      ap₂ (λ (t : List ℕ) (ws : List (List ℕ)). (45 ∷ 45 ∷ t) ∷ ws) (joined_again text has) rest.2,
      ap (λ ps. one.piece ∷ ps) rest.3 ∙ parts.2,
    )
begun_run text words later pieces false has those =
    let name : List ℕ = before_first is_equals text in
    let rest : IsRun words (Some name) pieces = later (Some name) pieces those in
    let one : Written = record { piece = record { name = name; value = rest.0 }; is_joined = false } in (
      one ∷ rest.1,
      ap (λ b. not b && have_plain_names rest.1) (before_plain text) ∙ rest.2,
      ap₂ (λ (t : List ℕ) (ws : List (List ℕ)). (45 ∷ 45 ∷ t) ∷ ws) (before_alone text has) rest.3,
      rest.4,
    )

-- a word that begins a piece begins a run
word_run : (word : List ℕ) (words : List (List ℕ)) → ((waits : Option (List ℕ)) (pieces : List Piece) → pieces_after words waits ≡ Some pieces → IsRun words waits pieces)
    → (pieces : List Piece) → pieces_after (word ∷ words) None ≡ Some pieces → IsRun (word ∷ words) None pieces
word_run [] words later pieces those = absurd (some≢none pieces those)
word_run (x ∷ []) words later pieces those = absurd (some≢none pieces those)
word_run (x ∷ y ∷ text) words later pieces those = go (x == 45) (y == 45) refl refl those
  where
    go : (a b : Bool) → (x == 45) ≡ a → (y == 45) ≡ b → pieces_from (option_map name_and_value (cond (a && b) (Some text) None)) (pieces_after words) ≡ Some pieces
        → IsRun ((x ∷ y ∷ text) ∷ words) None pieces
    go true true first second those =
        let run : IsRun ((45 ∷ 45 ∷ text) ∷ words) None pieces = begun_run text words later pieces (list_any is_equals text) refl those in (
          run.0,
          run.1,
          run.2 ∙ ap₂ (λ (p q : ℕ). (p ∷ q ∷ text) ∷ words) (sym (eqb-true x 45 first)) (sym (eqb-true y 45 second)),
          run.3,
        )
    go true false first second those = absurd (some≢none pieces those)
    go false b first second those = absurd (some≢none pieces those)

-- words that have pieces are a run of them
pub read_is_run : (words : List (List ℕ)) (waits : Option (List ℕ)) (pieces : List Piece) → pieces_after words waits ≡ Some pieces → IsRun words waits pieces
read_is_run [] None pieces those = ([], refl, refl, let same : [] ≡ pieces = cc in same)
read_is_run [] (Some name) pieces those = absurd (some≢none pieces those)
read_is_run (word ∷ words) None pieces those = word_run word words (read_is_run words) pieces those
read_is_run (word ∷ words) (Some name) pieces those =
    let parts = front name word (pieces_after words None) pieces those in
    let rest : IsRun words None parts.0 = read_is_run words None parts.0 parts.1 in (
      word,
      rest.0,
      rest.1,
      ap (λ (ws : List (List ℕ)). word ∷ ws) rest.2,
      ap (λ (ps : List Piece). record { name = name; value = word } ∷ ps) rest.3 ∙ parts.2,
    )
