-- What accepted pieces set, and the numbers that values write.
use Rattle.std.proofs.Common.{◌≡◌, ◌∙◌, ◌<◌, ◌≤◌, ◌^◌, ℕ, Bool, cond, true, false, ◌&&◌, nat_le, List, [], ◌∷◌, ◌++◌, Option, Some, None, codes, refl, sym, ap, true≢false, arith, leb-true, le-leb}
use Rattle.std.proofs.lemmas.Bool.{and_parts}
use Rattle.std.specs.Fmt.{decimal}
use Rattle.std.specs.List.{list_all}
use Rattle.std.specs.Prelude.{option_and_then}
use Rattle.std.specs.Option.{option_map, is_some}
use Rattle.std.specs.Str.{bytes_eq}
use Rattle.craig_script.specs.NumberWords.{number_of}
use Rattle.craig_script.proofs.NumbersLemmas.{number_of-decimal, number_of-is_decimal}
use Rattle.craig_words.specs.CommandLine.{Piece, are_different, has_name, is_allowed, limit_named, number_between, set_by, settings_of, value_of}
use Rattle.craig_words.specs.declared.words.Words.{Words}
use Rattle.craig_words.proofs.PieceLemmas.{are_accepted, bytes_same, one_more_different, or_false, same_bytes, some≢none, twice}

-- a choice that isn't nothing
chosen : {A : Type 0} (b : Bool) (made value : A) → cond b (Some made) None ≡ Some value → (b ≡ true) × (made ≡ value)
chosen true made value e = (refl, cc)
chosen false made value e = absurd (some≢none value e)

-- what accepted pieces set is what they say
pub accepted_set : (pieces : List Piece) (words : Words) → settings_of pieces ≡ Some words → (are_different pieces ≡ true) × (set_by pieces ≡ words)
accepted_set pieces words e =
    let parts = chosen (are_accepted pieces) (set_by pieces) words e in
    ((and_parts (are_different pieces) (list_all is_allowed pieces) parts.0).0, parts.1)

-- no piece before one has its name
absent_before : (before after : List Piece) (piece : Piece) → are_different (before ++ piece ∷ after) ≡ true → has_name piece.name before ≡ false
absent_before before after piece e = go (has_name piece.name before) refl
  where
    go : (b : Bool) → has_name piece.name before ≡ b → b ≡ false
    go false is = refl
    go true is = absurd (true≢false (sym e ∙ twice before piece after is))

-- the value of a name behind pieces that don't have it
value_behind : (before after : List Piece) (piece : Piece) → has_name piece.name before ≡ false → value_of piece.name (before ++ piece ∷ after) ≡ Some piece.value
value_behind [] after piece e = rw (bytes_same piece.name) refl
value_behind (x ∷ before) after piece e =
    let parts = or_false (bytes_eq x.name piece.name) (has_name piece.name before) e in
    rw parts.0 (value_behind before after piece parts.1)

-- the value of a piece is the one of its name
pub value_there : (before after : List Piece) (piece : Piece) (words : Words) → settings_of (before ++ piece ∷ after) ≡ Some words
    → value_of piece.name (before ++ piece ∷ after) ≡ Some piece.value
value_there before after piece words e =
    value_behind before after piece (absent_before before after piece (accepted_set (before ++ piece ∷ after) words e).0)

-- one more piece that is allowed and new
all_more : (p : Piece → Bool) (pieces : List Piece) (piece : Piece) → list_all p pieces ≡ true → p piece ≡ true → list_all p (pieces ++ piece ∷ []) ≡ true
all_more p [] piece e one = ap (λ b. b && true) one
all_more p (x ∷ pieces) piece e one =
    let parts = and_parts (p x) (list_all p pieces) e in
    ap (λ b. b && list_all p (pieces ++ piece ∷ [])) parts.0 ∙ all_more p pieces piece parts.1 one

-- accepted pieces with such a one are accepted
pub one_more_accepted : (pieces : List Piece) (words : Words) (piece : Piece) → settings_of pieces ≡ Some words → has_name piece.name pieces ≡ false → is_allowed piece ≡ true
    → is_some (settings_of (pieces ++ piece ∷ [])) ≡ true
one_more_accepted pieces words piece e new one =
    let before = and_parts (are_different pieces) (list_all is_allowed pieces) (chosen (are_accepted pieces) (set_by pieces) words e).0 in
    let all : List Piece = pieces ++ piece ∷ [] in
    ap (λ b. is_some (cond (b && list_all is_allowed all) (Some (set_by all)) None)) (one_more_different pieces piece before.0 new)
    ∙ ap (λ b. is_some (cond b (Some (set_by all)) None)) (all_more is_allowed pieces piece before.1 one)

-- an option alone
pub alone : {A : Type 0} (make : Option A → Words) (o : Option A) → cond (is_some o && true) (Some (make o)) None ≡ option_map (λ x. make (Some x)) o
alone make None = refl
alone make (Some x) = refl

-- ---- numbers

-- a number that passes the test of a range is in it
in_range : (least most n : ℕ) (m : ℕ) → cond (nat_le least m && nat_le m most) (Some m) None ≡ Some n → (m ≡ n) × (least ≤ n) × (n ≤ most)
in_range least most n m e =
    let parts = chosen (nat_le least m && nat_le m most) m n e in
    let bounds = and_parts (nat_le least m) (nat_le m most) parts.0 in
    let low : least ≤ m = leb-true least m bounds.0 in
    let high : m ≤ most = leb-true m most bounds.1 in
    (parts.1, omega (arith, parts.1), omega (arith, parts.1))

-- a text that reads as a number in a range is its decimal form
pub between_only : (least most : ℕ) (text : List ℕ) (n : ℕ) → number_between least most text ≡ Some n → (text ≡ decimal n) × (least ≤ n) × (n ≤ most)
between_only least most text n e = go (number_of text) refl e
  where
    go : (o : Option ℕ) → number_of text ≡ o → option_and_then (λ m. cond (nat_le least m && nat_le m most) (Some m) None) o ≡ Some n
        → (text ≡ decimal n) × (least ≤ n) × (n ≤ most)
    go None is e = absurd (some≢none n e)
    go (Some m) is e =
        let range = in_range least most n m e in
        ((number_of-is_decimal text m is).0 ∙ ap decimal range.0, range.1, range.2)

-- the decimal form of each number in a range reads as it
pub between_all : (least most n : ℕ) → least ≤ n → n ≤ most → n < 10 ^ 18 → number_between least most (decimal n) ≡ Some n
between_all least most n low high small =
    ap (option_and_then (λ m. cond (nat_le least m && nat_le m most) (Some m) None)) (number_of-decimal n small)
    ∙ ap (λ b. cond (b && nat_le n most) (Some n) None) (le-leb least n low) ∙ ap (λ b. cond b (Some n) None) (le-leb n most high)

-- a number isn't the word for none
not_none : (n : ℕ) → n < 10 ^ 18 → bytes_eq (decimal n) (codes "none") ≡ false
not_none n small = go (bytes_eq (decimal n) (codes "none")) refl
  where
    go : (b : Bool) → bytes_eq (decimal n) (codes "none") ≡ b → b ≡ false
    go false is = refl
    go true is = absurd (some≢none n (ap number_of (sym (same_bytes (decimal n) (codes "none") is)) ∙ number_of-decimal n small))

-- the same of a limit
pub limit_all : (n : ℕ) → 1 ≤ n → n ≤ 100000 → n < 10 ^ 18 → limit_named (decimal n) ≡ Some (Some n)
limit_all n low high small =
    ap (λ b. cond b (Some None) (option_map (λ m. Some m) (number_between 1 100000 (decimal n)))) (not_none n small)
    ∙ ap (option_map (λ m. Some m)) (between_all 1 100000 n low high small)

-- and back
pub limit_only : (text : List ℕ) (n : ℕ) → limit_named text ≡ Some (Some n) → (text ≡ decimal n) × (1 ≤ n) × (n ≤ 100000)
limit_only text n e = go (bytes_eq text (codes "none")) (number_between 1 100000 text) refl e
  where
    go : (b : Bool) (o : Option ℕ) → number_between 1 100000 text ≡ o → cond b (Some None) (option_map (λ m. Some m) o) ≡ Some (Some n)
        → (text ≡ decimal n) × (1 ≤ n) × (n ≤ 100000)
    go true o is e = let bad : None ≡ Some n = cc in absurd (some≢none n bad)
    go false None is e = absurd (some≢none (Some n) e)
    go false (Some m) is e = let same : m ≡ n = cc in between_only 1 100000 text n (is ∙ ap (λ k. Some k) same)
