-- Pieces: what a refused one does to those that it stands among, and how they grow by one.
use Rattle.std.proofs.Common.{◌≡◌, ◌∙◌, ℕ, Bool, cond, true, false, not, ◌&&◌, ◌||◌, List, [], ◌∷◌, ◌++◌, Option, Some, None, codes, refl, sym, ap, true≢false}
use Rattle.std.proofs.lemmas.Bool.{and_parts}
use Rattle.std.proofs.Math.Bool.{and-false, or-true}
use Rattle.std.specs.List.{list_all}
use Rattle.std.specs.Option.{is_some}
use Rattle.std.specs.Str.{bytes_eq}
use Rattle.std.proofs.lemmas.Slice.Eq.{bytes_eq-Decides}
use Rattle.craig_words.specs.CommandLine.{Piece, with_piece, has_name, are_different, is_allowed}
use Rattle.craig_words.specs.ClapCommand.{is_known}

-- the pieces are accepted
abbrev pub are_accepted : List Piece → Bool
are_accepted pieces = are_different pieces && list_all is_allowed pieces

-- a choice between equal values
pub cond_same : {X : Type 0} (b : Bool) (x : X) → cond b x x ≡ x
cond_same true x = refl
cond_same false x = refl

-- a choice that fails, by its parts
pub or_false : (a b : Bool) → (a || b) ≡ false → (a ≡ false) × (b ≡ false)
or_false true b e = absurd (true≢false e)
or_false false b e = (refl, e)

-- a test whose negation is true
pub false_of_not : (b : Bool) → not b ≡ true → b ≡ false
false_of_not true e = absurd (true≢false (sym e))
false_of_not false e = refl

-- a piece that isn't allowed, among others
pub all_fails : (p : Piece → Bool) (before : List Piece) (piece : Piece) (after : List Piece) → p piece ≡ false → list_all p (before ++ piece ∷ after) ≡ false
all_fails p [] piece after e = ap (λ b. b && list_all p after) e
all_fails p (x ∷ before) piece after e = ap (λ b. p x && b) (all_fails p before piece after e) ∙ and-false (p x)

-- it refuses all pieces
pub not_allowed : (before : List Piece) (piece : Piece) (after : List Piece) → is_allowed piece ≡ false → are_accepted (before ++ piece ∷ after) ≡ false
not_allowed before piece after e =
    ap (λ b. are_different (before ++ piece ∷ after) && b) (all_fails is_allowed before piece after e) ∙ and-false (are_different (before ++ piece ∷ after))

-- a name that stands before
has_name-append : (name : List ℕ) (a b : List Piece) → has_name name (a ++ b) ≡ (has_name name a || has_name name b)
has_name-append name [] b = refl
has_name-append name (p ∷ a) b = go (bytes_eq p.name name) (has_name-append name a b)
  where
    go : (c : Bool) → has_name name (a ++ b) ≡ (has_name name a || has_name name b) → (c || has_name name (a ++ b)) ≡ ((c || has_name name a) || has_name name b)
    go true e = refl
    go false e = e

-- a text is the same as itself
pub bytes_same : (x : List ℕ) → bytes_eq x x ≡ true
bytes_same x = (bytes_eq-Decides x x).1 refl

-- texts whose bytes are the same
pub same_bytes : (x y : List ℕ) → bytes_eq x y ≡ true → x ≡ y
same_bytes x y e = (bytes_eq-Decides x y).0 e

-- a name that stands twice
pub twice : (before : List Piece) (piece : Piece) (after : List Piece) → has_name piece.name before ≡ true → are_different (before ++ piece ∷ after) ≡ false
twice [] piece after e = absurd (true≢false (sym e))
twice (x ∷ before) piece after e = go (bytes_eq x.name piece.name) refl e (twice before piece after)
  where
    there : bytes_eq x.name piece.name ≡ true → has_name x.name (before ++ piece ∷ after) ≡ true
    there same =
        let is : bytes_eq piece.name x.name ≡ true = ap (λ n. bytes_eq n x.name) (sym (same_bytes x.name piece.name same)) ∙ bytes_same x.name in
        has_name-append x.name before (piece ∷ after) ∙ ap (λ b. has_name x.name before || (b || has_name x.name after)) is ∙ or-true (has_name x.name before)

    go : (b : Bool) → bytes_eq x.name piece.name ≡ b → (b || has_name piece.name before) ≡ true
        → (has_name piece.name before ≡ true → are_different (before ++ piece ∷ after) ≡ false)
        → (not (has_name x.name (before ++ piece ∷ after)) && are_different (before ++ piece ∷ after)) ≡ false
    go true same h later = ap (λ b. not b && are_different (before ++ piece ∷ after)) (there same)
    go false same h later = ap (λ b. not (has_name x.name (before ++ piece ∷ after)) && b) (later h) ∙ and-false (not (has_name x.name (before ++ piece ∷ after)))

-- it refuses all pieces
pub twice_refused : (before : List Piece) (piece : Piece) (after : List Piece) → has_name piece.name before ≡ true → are_accepted (before ++ piece ∷ after) ≡ false
twice_refused before piece after e = ap (λ b. b && list_all is_allowed (before ++ piece ∷ after)) (twice before piece after e)

-- one more name that doesn't stand before
pub one_more_different : (pieces : List Piece) (piece : Piece) → are_different pieces ≡ true → has_name piece.name pieces ≡ false → are_different (pieces ++ piece ∷ []) ≡ true
one_more_different [] piece d new = refl
one_more_different (x ∷ pieces) piece d new =
    let parts = and_parts (not (has_name x.name pieces)) (are_different pieces) d in
    let news = or_false (bytes_eq x.name piece.name) (has_name piece.name pieces) new in
    let other : bytes_eq piece.name x.name ≡ false = unlike (bytes_eq piece.name x.name) refl news.0 in
    let absent : has_name x.name (pieces ++ piece ∷ []) ≡ false =
    has_name-append x.name pieces (piece ∷ []) ∙ ap (λ b. has_name x.name pieces || (b || false)) other ∙ none (has_name x.name pieces) parts.0 in
    ap (λ b. not b && are_different (pieces ++ piece ∷ [])) absent ∙ one_more_different pieces piece parts.1 news.1
  where
    unlike : (b : Bool) → bytes_eq piece.name x.name ≡ b → bytes_eq x.name piece.name ≡ false → b ≡ false
    unlike false e other = refl
    unlike true e other =
        absurd (true≢false (sym (ap (λ n. bytes_eq n piece.name) (sym (same_bytes piece.name x.name e)) ∙ bytes_same piece.name) ∙ other))

    none : (b : Bool) → not b ≡ true → (b || false) ≡ false
    none true e = absurd (true≢false (sym e))
    none false e = refl

-- ---- the first piece

-- nothing isn't something
pub some≢none : {X : Type 0} (x : X) → None ≡ Some x → ⊥
some≢none x e = true≢false (sym (ap is_some e))

-- pieces with one in front begin with it
pub front : (name value : List ℕ) (others : Option (List Piece)) (pieces : List Piece) → with_piece name value others ≡ Some pieces
    → (rest : List Piece) × (others ≡ Some rest) × (record { name = name; value = value } ∷ rest ≡ pieces)
front name value None pieces e = absurd (some≢none pieces e)
front name value (Some rest) pieces e = (rest, refl, cc)

-- a name that isn't known, or a value that begins with a minus sign, isn't allowed
unknown_name : (b c d f : Bool) (x y z w : Bool) → (b || (c || (d || (f || false)))) ≡ false → cond b x (cond c y (cond d z (cond f w false))) ≡ false
unknown_name false false false false x y z w e = refl
unknown_name true c d f x y z w e = absurd (true≢false e)
unknown_name false true d f x y z w e = absurd (true≢false e)
unknown_name false false true f x y z w e = absurd (true≢false e)
unknown_name false false false true x y z w e = absurd (true≢false e)

-- in which order texts are compared makes no difference
bytes_eq-sym : (x y : List ℕ) → bytes_eq x y ≡ bytes_eq y x
bytes_eq-sym x y = go (bytes_eq x y) (bytes_eq y x) refl refl
  where
    go : (b c : Bool) → bytes_eq x y ≡ b → bytes_eq y x ≡ c → b ≡ c
    go true true e f = refl
    go false false e f = refl
    go true false e f = absurd (true≢false (sym ((bytes_eq-Decides y x).1 (sym (same_bytes x y e))) ∙ f))
    go false true e f = absurd (true≢false (sym ((bytes_eq-Decides x y).1 (sym (same_bytes y x f))) ∙ e))

-- a name that isn't known, whatever its value
pub unknown_refused : (name value : List ℕ) → is_known name ≡ false → is_allowed (record { name = name; value = value }) ≡ false
unknown_refused name value e =
    unknown_name (bytes_eq name (codes "system")) (bytes_eq name (codes "format")) (bytes_eq name (codes "limit")) (bytes_eq name (codes "gen")) _ _ _ _
    (rw (bytes_eq-sym name (codes "system"), bytes_eq-sym name (codes "format"), bytes_eq-sym name (codes "limit"), bytes_eq-sym name (codes "gen")) e)

-- four choices that all fail
four : (b c d f : Bool) → cond b false (cond c false (cond d false (cond f false false))) ≡ false
four true c d f = refl
four false true d f = refl
four false false true f = refl
four false false false f = cond_same f false

-- a value that begins with a minus sign, whatever its name
pub signed_refused : (name rest : List ℕ) → is_allowed (record { name = name; value = 45 ∷ rest }) ≡ false
signed_refused name rest =
    simp and-false (four (bytes_eq name (codes "system")) (bytes_eq name (codes "format")) (bytes_eq name (codes "limit")) (bytes_eq name (codes "gen")))
