-- Laws of the words of a line.
use Rattle.std.proofs.Common.{◌≡◌, ℕ, suc, ◌<◌, ◌≤◌, Bool, true, false, not, Some, None, List, [], ◌∷◌, length, take, drop, get_or, refl, sym, ◌∙◌, ap, subst, arith, drop-cons, length-drop}
use Rattle.std.specs.List.{position, position_or_len, slice_split, filter, onto_first}
use Rattle.std.specs.Option.{unwrap_or}
use Rattle.std.proofs.lemmas.List.Splits.{slice_split-cons_yes, slice_split-cons_no}
use Rattle.std.proofs.lemmas.List.Sums.{passes_at_first, prefix_len-le-length}
use Rattle.std.proofs.lemmas.Bool.Decides.{nat_tests}
use Rattle.craig_script.specs.Words.{is_separator, has_byte, words}

-- whether the byte is in a word
abbrev pub in_word : ℕ → Bool
in_word b = not (is_separator b)

pub position_or_len-stop : (p : ℕ → Bool) (b : ℕ) (bs : List ℕ) → p b ≡ true → position_or_len p (b ∷ bs) ≡ 0
position_or_len-stop p b bs e = rw e refl

pub position_or_len-go : (p : ℕ → Bool) (b : ℕ) (bs : List ℕ) → p b ≡ false → position_or_len p (b ∷ bs) ≡ suc (position_or_len p bs)
position_or_len-go p b bs e = rw e (omega arith)

words-separator : (b : ℕ) (bs : List ℕ) → is_separator b ≡ true → words (b ∷ bs) ≡ words bs
words-separator b bs e = ap (filter has_byte) (slice_split-cons_yes is_separator b bs e)

in_word-no : (b : ℕ) → is_separator b ≡ true → in_word b ≡ false
in_word-no b e = ap not e

in_word-yes : (b : ℕ) → is_separator b ≡ false → in_word b ≡ true
in_word-yes b e = ap not e

-- separators in front make no difference
words-by : (t : Bool) (b : ℕ) (bs : List ℕ) → is_separator b ≡ t → words bs ≡ words (drop (position_or_len in_word bs) bs) →
    words (b ∷ bs) ≡ words (drop (position_or_len in_word (b ∷ bs)) (b ∷ bs))
words-by true b bs e h =
    words-separator b bs e ∙ h ∙ sym (ap (λ z. words (drop z (b ∷ bs))) (position_or_len-go in_word b bs (in_word-no b e)))
words-by false b bs e h = sym (ap (λ z. words (drop z (b ∷ bs))) (position_or_len-stop in_word b bs (in_word-yes b e)))

words-drop : (x : List ℕ) → words x ≡ words (drop (position_or_len in_word x) x)
words-drop [] = refl
words-drop (b ∷ bs) = words-by (is_separator b) b bs refl (words-drop bs)

past-by : (t : Bool) (b : ℕ) (bs : List ℕ) → is_separator b ≡ t → suc (length bs) ≤ position_or_len in_word (b ∷ bs) →
    (length bs ≤ position_or_len in_word bs → words bs ≡ []) → words (b ∷ bs) ≡ []
past-by true b bs e h rest = words-separator b bs e ∙ rest (omega (arith, h, position_or_len-go in_word b bs (in_word-no b e)))
past-by false b bs e h rest = absurd (omega (arith, h, position_or_len-stop in_word b bs (in_word-yes b e)))

words-past : (x : List ℕ) → length x ≤ position_or_len in_word x → words x ≡ []
words-past [] h = refl
words-past (b ∷ bs) h = past-by (is_separator b) b bs refl h (words-past bs)

pub words-none : (x : List ℕ) → position in_word x ≡ None → words x ≡ []
words-none x e =
    let past : length x ≤ position_or_len in_word x = grind (arith, nat_tests) in
    words-past x past

-- what is behind the first run
record Behind (x : List ℕ) : Type 0 where
  runs : List (List ℕ)
  split : slice_split is_separator x ≡ take (position_or_len is_separator x) x ∷ runs
  rest : filter has_byte runs ≡ words (drop (position_or_len is_separator x) x)

behind-by : (t : Bool) (b : ℕ) (bs : List ℕ) → is_separator b ≡ t → Behind bs → Behind (b ∷ bs)
behind-by true b bs e h = record {
  runs = slice_split is_separator bs;
  split = slice_split-cons_yes is_separator b bs e ∙ sym (ap (λ z. take z (b ∷ bs) ∷ slice_split is_separator bs) (position_or_len-stop is_separator b bs e));
  rest = sym (words-separator b bs e) ∙ sym (ap (λ z. words (drop z (b ∷ bs))) (position_or_len-stop is_separator b bs e));
}
behind-by false b bs e h = record {
  runs = h.runs;
  split = slice_split-cons_no is_separator b bs e ∙ ap (onto_first b) h.split ∙ sym (ap (λ z. take z (b ∷ bs) ∷ h.runs) (position_or_len-go is_separator b bs e));
  rest = h.rest ∙ sym (ap (λ z. words (drop z (b ∷ bs))) (position_or_len-go is_separator b bs e));
}

behind : (x : List ℕ) → Behind x
behind [] = record { runs = []; split = refl; rest = refl }
behind (b ∷ bs) = behind-by (is_separator b) b bs refl (behind bs)

-- a word in front goes up to the first separator
pub record FirstWord (x : List ℕ) : Type 0 where
  pub word : words x ≡ take (position_or_len is_separator x) x ∷ words (drop (position_or_len is_separator x) x)
  pub some : 0 < position_or_len is_separator x

first_word-cons : (b : ℕ) (bs : List ℕ) → is_separator b ≡ false → FirstWord (b ∷ bs)
first_word-cons b bs e =
    let h = behind (b ∷ bs) in
    let go = position_or_len-go is_separator b bs e in
    record {
      word = ap (filter has_byte) h.split
          ∙ ap (λ z. filter has_byte (take z (b ∷ bs) ∷ h.runs)) go
          ∙ sym (ap (λ z. take z (b ∷ bs) ∷ filter has_byte h.runs) go)
          ∙ ap (λ z. take (position_or_len is_separator (b ∷ bs)) (b ∷ bs) ∷ z) h.rest;
      some = omega (arith, go);
    }

pub position-inside : (p : ℕ → Bool) (x : List ℕ) (i : ℕ) → position p x ≡ Some i → (position_or_len p x ≡ i) × (i < length x)
position-inside p x i e = grind (arith, nat_tests)

pub first_word : (x : List ℕ) (i : ℕ) → position in_word x ≡ Some i → FirstWord (drop i x)
first_word x i e =
    let inside = position-inside in_word x i e in
    let at : in_word (get_or x i 0) ≡ true =
    subst (λ (z : ℕ). in_word (get_or x z 0) ≡ true) inside.0 (passes_at_first in_word x 0 (omega (arith, inside))) in
    let no : is_separator (get_or x i 0) ≡ false = grind arith in
    let cut : drop i x ≡ get_or x i 0 ∷ drop (suc i) x = drop-cons x i 0 inside.1 in
    subst (λ (z : List ℕ). FirstWord z) (sym cut) (first_word-cons (get_or x i 0) (drop (suc i) x) no)

pub words-from : (x : List ℕ) (i : ℕ) → position in_word x ≡ Some i → words x ≡ words (drop i x)
words-from x i e = words-drop x ∙ ap (λ z. words (drop z x)) (position-inside in_word x i e).0

pub FirstWord-shorter : (x : List ℕ) (i : ℕ) → position in_word x ≡ Some i → length (drop (position_or_len is_separator (drop i x)) (drop i x)) < length x
FirstWord-shorter x i e =
    omega (arith, length-drop (position_or_len is_separator (drop i x)) (drop i x), length-drop i x, (first_word x i e).some, (position-inside in_word x i e).1)

-- where a call answers the place or else the length
pub position-or_length : (p : ℕ → Bool) (x : List ℕ) → unwrap_or (position p x) (length x) ≡ position_or_len p x
position-or_length p x = grind (arith, nat_tests, prefix_len-le-length (λ y. not (p y)) x)
