-- Laws of bytes that are cut at a separator.
use Rattle.std.proofs.Common.{◌≡◌, ℕ, suc, ◌+◌, ◌<◌, ◌≤◌, Bool, true, false, cond, not, ◌||◌, Some, None, List, [], ◌∷◌, length, drop, refl, sym, ◌∙◌, ap, arith, ltb, length-drop, ltb-true, lt-ltb}
use Rattle.std.specs.List.{list_any, position, position_or_len, slice_split, onto_first, before_first, after_first}
use Rattle.std.specs.Option.{unwrap_or}
use Rattle.std.proofs.lemmas.List.{take_all, drop-drop}
use Rattle.std.proofs.lemmas.Option.{cond_some}
use Rattle.std.proofs.lemmas.List.Splits.{slice_split-cons_no, slice_split_first}
use Rattle.std.proofs.lemmas.List.Sums.{prefix_len-le-length}
use Rattle.std.proofs.lemmas.Bool.Decides.{nat_tests}
use Rattle.craig_aiger_read.specs.Cuts.{is_byte, behind_first, pieces_behind}

-- where a call answers the place or else the length
pub position-or_length : (p : ℕ → Bool) (x : List ℕ) → unwrap_or (position p x) (length x) ≡ position_or_len p x
position-or_length p x = grind (arith, nat_tests, prefix_len-le-length (λ y. not (p y)) x)

pub position_or_len-le : (p : ℕ → Bool) (x : List ℕ) → position_or_len p x ≤ length x
position_or_len-le p x = prefix_len-le-length (λ y. not (p y)) x

pub position_or_len-stop : {X : Type 0} (p : X → Bool) (b : X) (bs : List X) → p b ≡ true → position_or_len p (b ∷ bs) ≡ 0
position_or_len-stop p b bs e = rw e refl

pub position_or_len-go : {X : Type 0} (p : X → Bool) (b : X) (bs : List X) → p b ≡ false → position_or_len p (b ∷ bs) ≡ suc (position_or_len p bs)
position_or_len-go p b bs e = rw e (omega arith)

past-by : (p : ℕ → Bool) (t : Bool) (b : ℕ) (bs : List ℕ) → p b ≡ t → suc (length bs) ≤ position_or_len p (b ∷ bs) →
    (length bs ≤ position_or_len p bs → slice_split p bs ≡ bs ∷ []) → slice_split p (b ∷ bs) ≡ (b ∷ bs) ∷ []
past-by p true b bs e h rest = absurd (omega (arith, h, position_or_len-stop p b bs e))
past-by p false b bs e h rest = slice_split-cons_no p b bs e ∙ ap (onto_first b) (rest (omega (arith, h, position_or_len-go p b bs e)))

-- bytes without a separator are one piece
slice_split-past : (p : ℕ → Bool) (x : List ℕ) → length x ≤ position_or_len p x → slice_split p x ≡ x ∷ []
slice_split-past p [] h = refl
slice_split-past p (b ∷ bs) h = past-by p (p b) b bs refl h (slice_split-past p bs)

split-by : (separator : ℕ) (x : List ℕ) (t : Bool) → ltb (position_or_len (is_byte separator) x) (length x) ≡ t →
    slice_split (is_byte separator) x ≡ before_first (is_byte separator) x ∷ pieces_behind separator (cond t (Some (after_first (is_byte separator) x)) None)
split-by separator x true e = slice_split_first (is_byte separator) x 0 (ltb-true (position_or_len (is_byte separator) x) (length x) e)
split-by separator x false e =
    let past : length x ≤ position_or_len (is_byte separator) x = grind (arith, nat_tests, e) in
    slice_split-past (is_byte separator) x past ∙ ap (λ z. z ∷ []) (sym (take_all (position_or_len (is_byte separator) x) x past))

-- the first piece goes up to the first separator
pub slice_split-cut : (separator : ℕ) (x : List ℕ) → slice_split (is_byte separator) x ≡ before_first (is_byte separator) x ∷ pieces_behind separator (behind_first separator x)
slice_split-cut separator x = split-by separator x (ltb (position_or_len (is_byte separator) x) (length x)) refl

-- what is behind a first byte from the place on
pub behind_first-is : (separator n : ℕ) (x rest behind : List ℕ) (b : ℕ) → n ≡ position_or_len (is_byte separator) x → rest ≡ b ∷ behind → rest ≡ drop n x →
    Some behind ≡ behind_first separator x
behind_first-is separator n x rest behind b place cut from =
    let inside : n < length x = omega (arith, ap length cut, ap length from, length-drop n x) in
    let test : ltb (position_or_len (is_byte separator) x) (length x) ≡ true = lt-ltb (position_or_len (is_byte separator) x) (length x) (omega (arith, inside, place)) in
    let after : after_first (is_byte separator) x ≡ behind =
    ap (λ z. drop (z + 1) x) (sym place) ∙ sym (drop-drop 1 n x) ∙ ap (drop 1) (sym from ∙ cut) in
    rw (test, after) refl

-- nothing is behind the end
pub behind_first-none : (separator n : ℕ) (x rest : List ℕ) → n ≡ position_or_len (is_byte separator) x → length rest ≡ 0 → rest ≡ drop n x →
    None ≡ behind_first separator x
behind_first-none separator n x rest place cut from =
    let test : ltb (position_or_len (is_byte separator) x) (length x) ≡ false = grind (arith, nat_tests, cut, ap length from, length-drop n x, place) in
    rw test refl

-- what is behind the first separator, where there is one
pub record Behind (separator : ℕ) (x behind : List ℕ) : Type 0 where
  pub inside : position_or_len (is_byte separator) x < length x
  pub is : behind ≡ drop (position_or_len (is_byte separator) x + 1) x

pub behind_first-some : (separator : ℕ) (x behind : List ℕ) → behind_first separator x ≡ Some behind → Behind separator x behind
behind_first-some separator x behind e =
    let parts = cond_some (ltb (position_or_len (is_byte separator) x) (length x)) (after_first (is_byte separator) x) behind e in
    record { inside = ltb-true (position_or_len (is_byte separator) x) (length x) parts.0; is = sym parts.1 }

pub behind_first-past : (separator : ℕ) (x : List ℕ) → behind_first separator x ≡ None → length x ≤ position_or_len (is_byte separator) x
behind_first-past separator x e = grind (arith, nat_tests, e)

any-by : (separator : ℕ) (t : Bool) (b : ℕ) (bs : List ℕ) → is_byte separator b ≡ t → list_any (is_byte separator) bs ≡ ltb (position_or_len (is_byte separator) bs) (length bs) →
    list_any (is_byte separator) (b ∷ bs) ≡ ltb (position_or_len (is_byte separator) (b ∷ bs)) (suc (length bs))
any-by separator true b bs e h =
    let inside : ltb (position_or_len (is_byte separator) (b ∷ bs)) (suc (length bs)) ≡ true = grind (arith, nat_tests, position_or_len-stop (is_byte separator) b bs e) in
    ap (λ z. z || list_any (is_byte separator) bs) e ∙ sym inside
any-by separator false b bs e h =
    let inside : ltb (position_or_len (is_byte separator) (b ∷ bs)) (suc (length bs)) ≡ ltb (position_or_len (is_byte separator) bs) (length bs) =
    grind (arith, nat_tests, position_or_len-go (is_byte separator) b bs e) in
    ap (λ z. z || list_any (is_byte separator) bs) e ∙ h ∙ sym inside

-- a separator is there exactly where its first place is inside
pub list_any-inside : (separator : ℕ) (x : List ℕ) → list_any (is_byte separator) x ≡ ltb (position_or_len (is_byte separator) x) (length x)
list_any-inside separator [] = let t : ltb 0 0 ≡ false = grind (arith, nat_tests) in sym t
list_any-inside separator (b ∷ bs) = any-by separator (is_byte separator b) b bs refl (list_any-inside separator bs)
