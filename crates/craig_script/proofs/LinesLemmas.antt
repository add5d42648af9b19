-- Laws of the lines of a stream.
use Rattle.std.proofs.Common.{◌≡◌, ℕ, zero, suc, ◌+◌, ◌<◌, ◌≤◌, Bool, true, false, not, cond, ◌⊎◌, inl, inr, List, [], ◌∷◌, ◌++◌, length, min, take, drop, get_or, Some, None, subst, map, refl, sym, ◌∙◌, ap, arith, append_assoc, append-nil, length-append}
use Rattle.std.specs.List.{concat, position, position_or_len}
use Rattle.std.proofs.lemmas.List.Sums.{split_at_first, passes_at_first}
use Rattle.std.proofs.Math.Seq.{take-append-add}
use Rattle.std.proofs.lemmas.Bool.{cases_lt}
use Rattle.std.proofs.lemmas.List.{take_all, take_min, length-take, map-append}
use Rattle.std.proofs.lemmas.List.Folds.{list_any-append}
use Rattle.std.proofs.lemmas.Bool.Decides.{nat_tests}
use Rattle.craig_script.specs.declared.line.Line.{Line}
use Rattle.craig_script.specs.declared.line.Line.TheVariants.{Overlong}
use Rattle.craig_script.specs.Lines.{LinesView, unended, before_first_byte, fed, ended, all_fed, with_given, is_newline, has_newline, onto_first, whole_lines, last_part, unless_empty, line_of, line_limit, cut_back, script_lines, IsPartial}

-- a front of the bytes has no newline where they have none
pub has_newline-take : (n : ℕ) (x : List ℕ) → has_newline x ≡ false → has_newline (take n x) ≡ false
has_newline-take zero x none = refl
has_newline-take (suc n) [] none = refl
has_newline-take (suc n) (b ∷ bs) none = grind (arith, has_newline-take n bs)

pub has_newline-append : (x y : List ℕ) → has_newline x ≡ false → has_newline y ≡ false → has_newline (x ++ y) ≡ false
has_newline-append x y none none' = rw (list_any-append is_newline x y, none, none') refl

pub whole_lines-none : (x : List ℕ) → has_newline x ≡ false → whole_lines x ≡ []
whole_lines-none [] none = refl
whole_lines-none (b ∷ bs) none = grind (arith, whole_lines-none bs)

pub last_part-none : (x : List ℕ) → has_newline x ≡ false → last_part x ≡ x
last_part-none [] none = refl
last_part-none (b ∷ bs) none = rw none refl

pub onto_first-none : (ls : List (List ℕ)) → onto_first [] ls ≡ ls
onto_first-none [] = refl
onto_first-none (l ∷ ls) = refl

pub onto_first-onto_first : (b : ℕ) (x : List ℕ) (ls : List (List ℕ)) → onto_first (b ∷ []) (onto_first x ls) ≡ onto_first (b ∷ x) ls
onto_first-onto_first b x [] = refl
onto_first-onto_first b x (l ∷ ls) = refl

-- bytes without a newline go onto the first line behind them
pub whole_lines-onto : (x y : List ℕ) → has_newline x ≡ false → whole_lines (x ++ y) ≡ onto_first x (whole_lines y)
whole_lines-onto [] y none = sym (onto_first-none (whole_lines y))
whole_lines-onto (b ∷ bs) y none = grind (arith, whole_lines-onto bs y, onto_first-onto_first b bs (whole_lines y))

-- a newline ends the line before it
pub whole_lines-at : (x y : List ℕ) → has_newline x ≡ false → whole_lines (x ++ 10 ∷ y) ≡ x ∷ whole_lines y
whole_lines-at x y none = rw (whole_lines-onto x (10 ∷ y) none) (rw (append-nil x) refl)

pub last_part-at : (x y : List ℕ) → has_newline y ≡ true → last_part (x ++ y) ≡ last_part y
last_part-at [] y some = refl
last_part-at (b ∷ bs) y some = grind (arith, list_any-append is_newline bs y, last_part-at bs y)

pub last_part-append : (x y : List ℕ) → has_newline y ≡ false → last_part (x ++ y) ≡ last_part x ++ y
last_part-append [] y none = last_part-none y none
last_part-append (b ∷ bs) y none = grind (arith, list_any-append is_newline bs y, last_part-append bs y)

pub has_newline-last_part : (x : List ℕ) → has_newline (last_part x) ≡ false
has_newline-last_part [] = refl
has_newline-last_part (b ∷ bs) = grind (arith, has_newline-last_part bs)

length-onto_first : (x : List ℕ) (ls : List (List ℕ)) → length (onto_first x ls) ≡ length ls
length-onto_first x [] = refl
length-onto_first x (l ∷ ls) = refl

-- a newline among the bytes ends a line
whole_lines-some : (x : List ℕ) → has_newline x ≡ true → 0 < length (whole_lines x)
whole_lines-some [] some = cc
whole_lines-some (b ∷ bs) some = grind (arith, whole_lines-some bs, length-onto_first (b ∷ []) (whole_lines bs))

onto_first-append : (x : List ℕ) (ls ms : List (List ℕ)) → 0 < length ls → onto_first x (ls ++ ms) ≡ onto_first x ls ++ ms
onto_first-append x [] ms some = absurd (omega arith)
onto_first-append x (l ∷ ls) ms some = refl

-- what comes behind the last newline is all that is left of the bytes before
pub whole_lines-append : (x y : List ℕ) → whole_lines (x ++ y) ≡ whole_lines x ++ whole_lines (last_part x ++ y)
whole_lines-append [] y = refl
whole_lines-append (b ∷ bs) y =
    grind (arith, whole_lines-append bs y, whole_lines-some bs, whole_lines-none bs, last_part-none bs, onto_first-append (b ∷ []) (whole_lines bs) (whole_lines (last_part bs ++ y)))

last_part-by : (x y : List ℕ) (h : Bool) → has_newline y ≡ h → last_part (x ++ y) ≡ last_part (last_part x ++ y)
last_part-by x y true e = last_part-at x y e ∙ sym (last_part-at (last_part x) y e)
last_part-by x y false e =
    last_part-append x y e ∙ sym (last_part-append (last_part x) y e ∙ ap (λ z. z ++ y) (last_part-none (last_part x) (has_newline-last_part x)))

pub last_part-append_part : (x y : List ℕ) → last_part (x ++ y) ≡ last_part (last_part x ++ y)
last_part-append_part x y = last_part-by x y (has_newline y) refl

-- what a line is cut back to is as good as the line
pub take-take_append : (n : ℕ) (x y : List ℕ) → take n (take n x ++ y) ≡ take n (x ++ y)
take-take_append zero x y = refl
take-take_append (suc n) [] y = refl
take-take_append (suc n) (b ∷ bs) y = ap (λ z. b ∷ z) (take-take_append n bs y)

pub cut_back-cut_back : (x y : List ℕ) → cut_back (cut_back x ++ y) ≡ cut_back (x ++ y)
unfolding cut_back
cut_back-cut_back x y = take-take_append (line_limit + 1) x y

pub has_newline-cut_back : (x : List ℕ) → has_newline x ≡ false → has_newline (cut_back x) ≡ false
unfolding cut_back
has_newline-cut_back x none = has_newline-take (line_limit + 1) x none

line_of-long : (x : List ℕ) → line_limit < length x → line_of x ≡ Overlong
line_of-long x h = grind (arith, nat_tests)

length-take_append : (n : ℕ) (x y : List ℕ) → n ≤ length x → n ≤ length (take n x ++ y)
length-take_append n x y h = omega (arith, length-append (take n x) y, length-take n x)

line_of-by : (n : ℕ) (x y : List ℕ) → line_limit < n → (length x < n) ⊎ (n ≤ length x) → line_of (take n x ++ y) ≡ line_of (x ++ y)
line_of-by n x y h (inr long) =
    line_of-long (take n x ++ y) (omega (arith, length-take_append n x y long)) ∙ sym (line_of-long (x ++ y) (omega (arith, length-append x y)))
line_of-by n x y h (inl short) = ap (λ z. line_of (z ++ y)) (take_all n x (omega arith))

pub line_of-cut_back : (x y : List ℕ) → line_of (cut_back x ++ y) ≡ line_of (x ++ y)
unfolding cut_back
line_of-cut_back x y = line_of-by (line_limit + 1) x y (omega arith) (cases_lt (length x) (line_limit + 1))

pub map_line_of-cut_back : (x : List ℕ) (ls : List (List ℕ)) → map line_of (onto_first (cut_back x) ls) ≡ map line_of (onto_first x ls)
map_line_of-cut_back x [] = refl
map_line_of-cut_back x (l ∷ ls) = ap (λ z. z ∷ map line_of ls) (line_of-cut_back x l)

pub ready-cut_back : (x y : List ℕ) → has_newline x ≡ false → map line_of (whole_lines (cut_back x ++ y)) ≡ map line_of (whole_lines (x ++ y))
ready-cut_back x y none =
    rw (whole_lines-onto (cut_back x) y (has_newline-cut_back x none), whole_lines-onto x y none) (map_line_of-cut_back x (whole_lines y))

part-by : (x y : List ℕ) → has_newline x ≡ false → (h : Bool) → has_newline y ≡ h → cut_back (last_part (cut_back x ++ y)) ≡ cut_back (last_part (x ++ y))
part-by x y none true e = ap cut_back (last_part-at (cut_back x) y e ∙ sym (last_part-at x y e))
part-by x y none false e =
    rw (last_part-none (cut_back x ++ y) (has_newline-append (cut_back x) y (has_newline-cut_back x none) e), last_part-none (x ++ y) (has_newline-append x y none e)) (cut_back-cut_back x y)

pub part-cut_back : (x y : List ℕ) → has_newline x ≡ false → cut_back (last_part (cut_back x ++ y)) ≡ cut_back (last_part (x ++ y))
part-cut_back x y none = part-by x y none (has_newline y) refl

whole_ready : (x y : List ℕ) → map line_of (whole_lines x) ++ map line_of (whole_lines (cut_back (last_part x) ++ y)) ≡ map line_of (whole_lines (x ++ y))
whole_ready x y =
    rw (whole_lines-append x y, map-append line_of (whole_lines x) (whole_lines (last_part x ++ y)), ready-cut_back (last_part x) y (has_newline-last_part x)) refl

whole_part : (x y : List ℕ) → cut_back (last_part (cut_back (last_part x) ++ y)) ≡ cut_back (last_part (x ++ y))
whole_part x y = part-cut_back (last_part x) y (has_newline-last_part x) ∙ sym (ap cut_back (last_part-append_part x y))

same_cut : (r r' : List Line) (p p' : List ℕ) (f : Bool) → r ≡ r' → p ≡ p' →
    (let x : LinesView = record { ready = r; partial = p; finished = f } in x) ≡ record { ready = r'; partial = p'; finished = f }
same_cut r r' p p' f e h = cc

-- it makes no difference where a stream is cut into pieces
pub fed-fed : (c : LinesView) (a b : List ℕ) → fed (fed c a) b ≡ fed c (a ++ b)
fed-fed c a b =
    same_cut _ _ _ _ false
    (append_assoc c.ready (map line_of (whole_lines (c.partial ++ a))) (map line_of (whole_lines (cut_back (last_part (c.partial ++ a)) ++ b)))
    ∙ ap (λ z. c.ready ++ z) (whole_ready (c.partial ++ a) b ∙ ap (λ z. map line_of (whole_lines z)) (append_assoc c.partial a b)))
    (whole_part (c.partial ++ a) b ∙ ap (λ z. cut_back (last_part z)) (append_assoc c.partial a b))

-- lines that were given before change nothing
pub fed-with_given : (given : List Line) (c : LinesView) (a : List ℕ) → fed (with_given given c) a ≡ with_given given (fed c a)
fed-with_given given c a = same_cut _ _ _ _ false (append_assoc given c.ready (map line_of (whole_lines (c.partial ++ a)))) refl

pub ended-with_given : (given : List Line) (c : LinesView) → ended (with_given given c) ≡ with_given given (ended c)
ended-with_given given c = same_cut _ _ _ _ true (append_assoc given c.ready (map line_of (unless_empty c.partial))) refl

pub fed-before_first_byte : fed before_first_byte [] ≡ before_first_byte
unfolding cut_back
fed-before_first_byte = refl

all_fed-fed : (c : LinesView) (a : List ℕ) (pieces : List (List ℕ)) → all_fed (fed c a) pieces ≡ fed c (a ++ concat pieces)
all_fed-fed c a [] = sym (ap (λ z. fed c z) (append-nil a))
all_fed-fed c a (p ∷ ps) =
    ap (λ z. all_fed z ps) (fed-fed c a p) ∙ all_fed-fed c (a ++ p) ps ∙ ap (λ z. fed c z) (append_assoc a p (concat ps))

-- pieces are as good as the stream that they make
pub all_fed-before_first_byte : (pieces : List (List ℕ)) → all_fed before_first_byte pieces ≡ fed before_first_byte (concat pieces)
all_fed-before_first_byte pieces = sym (ap (λ z. all_fed z pieces) fed-before_first_byte) ∙ all_fed-fed before_first_byte [] pieces

unless_empty-some : (x : List ℕ) → 0 < length x → unless_empty x ≡ x ∷ []
unless_empty-some [] h = absurd (omega arith)
unless_empty-some (b ∷ bs) h = refl

pub length-cut_back : (x : List ℕ) → length (cut_back x) ≤ line_limit + 1
unfolding cut_back
length-cut_back x = omega (arith, length-take (line_limit + 1) x)

length-cut_back-some : (x : List ℕ) → 0 < length x → 0 < length (cut_back x)
unfolding cut_back
length-cut_back-some x h = omega (arith, length-take (line_limit + 1) x)

pub line_of-cut_back_alone : (x : List ℕ) → line_of (cut_back x) ≡ line_of x
line_of-cut_back_alone x = sym (ap line_of (append-nil (cut_back x))) ∙ line_of-cut_back x [] ∙ ap line_of (append-nil x)

cut_back-nil : cut_back [] ≡ []
unfolding cut_back
cut_back-nil = refl

last_line : (x : List ℕ) → map line_of (unless_empty (cut_back x)) ≡ map line_of (unless_empty x)
last_line [] = ap (λ z. map line_of (unless_empty z)) cut_back-nil
last_line (b ∷ bs) =
    ap (map line_of) (unless_empty-some (cut_back (b ∷ bs)) (length-cut_back-some (b ∷ bs) (omega arith))) ∙ ap (λ z. z ∷ []) (line_of-cut_back_alone (b ∷ bs))

-- what a stream gives, once it has ended
pub script_lines-ended : (s : List ℕ) → (ended (fed before_first_byte s)).ready ≡ script_lines s
script_lines-ended s =
    ap (λ z. map line_of (whole_lines s) ++ z) (last_line (last_part s)) ∙ sym (map-append line_of (whole_lines s) (unless_empty (last_part s)))

-- a line that ends in the bytes is ready, and the bytes behind its newline are to come
pub fed-line : (ready : List Line) (part front rest : List ℕ) → has_newline part ≡ false → has_newline front ≡ false →
    fed (unended ready part) (front ++ 10 ∷ rest)
    ≡ fed (unended (ready ++ line_of (cut_back (part ++ front)) ∷ []) []) rest
fed-line ready part front rest none none' =
    let none'' : has_newline (part ++ front) ≡ false = has_newline-append part front none none' in
    same_cut _ _ _ _ false
    (ap (λ z. ready ++ map line_of (whole_lines z)) (sym (append_assoc part front (10 ∷ rest)))
    ∙ ap (λ z. ready ++ map line_of z) (whole_lines-at (part ++ front) rest none'')
    ∙ ap (λ z. ready ++ z ∷ map line_of (whole_lines rest)) (sym (line_of-cut_back_alone (part ++ front)))
    ∙ sym (append_assoc ready (line_of (cut_back (part ++ front)) ∷ []) (map line_of (whole_lines rest))))
    (ap (λ z. cut_back (last_part z)) (sym (append_assoc part front (10 ∷ rest)))
    ∙ ap cut_back (last_part-at (part ++ front) (10 ∷ rest) refl))

-- the line that the first newline ends, and then what the bytes behind it give
pub fed-first_line : (ready : List Line) (part front rest : List ℕ) → has_newline part ≡ false → has_newline front ≡ false →
    fed (unended ready part) (front ++ 10 ∷ rest) ≡ unended ((ready ++ line_of (cut_back (part ++ front)) ∷ []) ++ (fed before_first_byte rest).ready) (fed before_first_byte rest).partial
fed-first_line ready part front rest none none' = fed-line ready part front rest none none'

-- bytes without a newline go onto the part
pub fed-part : (ready : List Line) (part rest : List ℕ) → has_newline part ≡ false → has_newline rest ≡ false →
    fed (unended ready part) rest ≡ unended ready (cut_back (part ++ rest))
fed-part ready part rest none none' =
    let none'' : has_newline (part ++ rest) ≡ false = has_newline-append part rest none none' in
    same_cut _ _ _ _ false
    (ap (λ z. ready ++ map line_of z) (whole_lines-none (part ++ rest) none'') ∙ append-nil ready)
    (ap cut_back (last_part-none (part ++ rest) none''))

-- as much of the bytes as still fits is as much as the line is cut back to
pub cut_back-append : (x y : List ℕ) (room : ℕ) → length x + room ≡ line_limit + 1 → x ++ take (min room (length y)) y ≡ cut_back (x ++ y)
unfolding cut_back
cut_back-append x y room e =
    ap (λ z. x ++ z) (take_min room y) ∙ sym (take-append-add x y room) ∙ ap (λ z. take z (x ++ y)) e

pub cut_back-IsPartial : (x : List ℕ) → has_newline x ≡ false → IsPartial (cut_back x)
cut_back-IsPartial x none = record { bounded = length-cut_back x; open_ended = has_newline-cut_back x none }

has_newline-past : (x : List ℕ) → length x ≤ position_or_len is_newline x → has_newline x ≡ false
has_newline-past [] h = refl
has_newline-past (b ∷ bs) h = grind (arith, has_newline-past bs)

pub has_newline-by_position : (x : List ℕ) → position is_newline x ≡ None → has_newline x ≡ false
has_newline-by_position x e =
    let past : length x ≤ position_or_len is_newline x = grind (arith, nat_tests) in
    has_newline-past x past

before_first-by : (t : Bool) (n b : ℕ) (bs : List ℕ) → is_newline b ≡ t → has_newline (take n bs) ≡ false →
    has_newline (take (cond (not t) (1 + n) 0) (b ∷ bs)) ≡ false
before_first-by true n b bs e h = refl
before_first-by false n b bs e h =
    let one : suc n ≡ 1 + n = omega arith in
    subst (λ (z : ℕ). has_newline (take z (b ∷ bs)) ≡ false) one (rw (e, h) refl)

has_newline-before_first : (x : List ℕ) → has_newline (take (position_or_len is_newline x) x) ≡ false
has_newline-before_first [] = refl
has_newline-before_first (b ∷ bs) =
    before_first-by (is_newline b) (position_or_len is_newline bs) b bs refl (has_newline-before_first bs)

-- the place of the first newline cuts the bytes there
pub first_newline : (x : List ℕ) (i : ℕ) → position is_newline x ≡ Some i → (x ≡ take i x ++ 10 ∷ drop (i + 1) x) × (has_newline (take i x) ≡ false)
first_newline x i e =
    let inside : (position_or_len is_newline x ≡ i) × (i < length x) = grind (arith, nat_tests) in
    let at : is_newline (get_or x (position_or_len is_newline x) 0) ≡ true = passes_at_first is_newline x 0 (omega (arith, inside)) in
    let ten : get_or x i 0 ≡ 10 = grind (arith, nat_tests, ap (λ z. get_or x z 0) (inside.0)) in
    let cut : x ≡ take i x ++ (get_or x i 0 ∷ drop (i + 1) x) = subst (λ (z : ℕ). x ≡ take z x ++ (get_or x z 0 ∷ drop (z + 1) x)) inside.0 (split_at_first is_newline x 0 (omega (arith, inside))) in
    (subst (λ (z : ℕ). x ≡ take i x ++ z ∷ drop (i + 1) x) ten cut, subst (λ (z : ℕ). has_newline (take z x) ≡ false) inside.0 (has_newline-before_first x))
