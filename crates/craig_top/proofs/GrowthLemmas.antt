-- Clauses keep their meaning when names are added.
use Rattle.std.proofs.Common.{get_or, ◌∙◌, length, ℕ, zero, suc, ◌+◌, ◌<◌, ◌≤◌, ◌≡◌, List, [], ◌∷◌, ◌++◌, arith, refl, true, map, nat_lt, nat_le, nat_eq, take, inl, inr, ℤ, pos, negsuc, length-append}
use Rattle.std.proofs.lemmas.Bool.{and_parts, and_from, ltb-true, lt-ltb, leb-true, cases_Bool}
use Rattle.craig_script.specs.Reading.{is_within, variable_limit}
use Rattle.std.proofs.lemmas.List.{map-append, get_or_append_left, take_more}
use mir.Val.{SFits}
use mir.Syntax.{w64}
use Rattle.std.proofs.lemmas.Int.{ints}
use Rattle.std.specs.List.{list_any, list_all}
use Rattle.std.specs.Int.RustNames.{unsigned_abs}
use Rattle.craig_spec.specs.Literal.{Literal, Clause}
use Rattle.craig_base.specs.declared.script_part.Part.{Part}
use Rattle.craig_base.specs.Names.{with_name}
use Rattle.craig_top.specs.GivenState.{script_literal}
use Rattle.craig_top.specs.Growth.{NamesGrow}
use Rattle.craig_top.specs.Values.{IsOver, AreOver}
use Rattle.craig_top.specs.Naming.{named_literal, named_clause, written}

pub NamesGrow-refl : (names : List ℕ) → NamesGrow names names
NamesGrow-refl names = record { longer = omega arith; kept = λ i h. refl }

pub NamesGrow-trans : (a b c : List ℕ) → NamesGrow a b → NamesGrow b c → NamesGrow a c
NamesGrow-trans a b c g h = record {
  longer = omega (arith, g.longer, h.longer);
  kept = λ i l. h.kept i (omega (arith, g.longer)) ∙ g.kept i l;
}

NamesGrow-append : (names : List ℕ) (name : ℕ) → NamesGrow names (names ++ name ∷ [])
NamesGrow-append names name = record {
  longer = omega (arith, length-append names (name ∷ []));
  kept = λ i l. get_or_append_left names (name ∷ []) 0 i l;
}

pub NamesGrow-with_name : (names : List ℕ) (name : ℕ) → NamesGrow names (with_name names name)
NamesGrow-with_name names name = elim (cases_Bool (list_any (nat_eq name) names)) [
  | inl t ↦ rw t (NamesGrow-refl names)
  | inr f ↦ rw f (NamesGrow-append names name)
]

pub IsOver-more : (n m : ℕ) (c : Clause) → n ≤ m → IsOver n c → IsOver m c
IsOver-more n m [] h over = refl
IsOver-more n m (l ∷ c) h over =
    let parts : (nat_lt l.var n ≡ true) × (IsOver n c) = and_parts _ _ over in
    let below : l.var < n = ltb-true l.var n parts.0 in
    and_from _ _ (lt-ltb l.var m (omega arith)) (IsOver-more n m c h parts.1)

pub AreOver-more : (n m : ℕ) (cs : List Clause) → n ≤ m → AreOver n cs → AreOver m cs
AreOver-more n m [] h over = refl
AreOver-more n m (c ∷ cs) h over =
    let parts : (IsOver n c) × (AreOver n cs) = and_parts _ _ over in
    and_from _ _ (IsOver-more n m c h parts.0) (AreOver-more n m cs h parts.1)

pub named_clause-grows : (old new : List ℕ) (c : Clause) → NamesGrow old new → IsOver (length old) c → named_clause new c ≡ named_clause old c
named_clause-grows old new [] g over = refl
named_clause-grows old new (l ∷ c) g over =
    let parts : (nat_lt l.var (length old) ≡ true) × (IsOver (length old) c) = and_parts _ _ over in
    let here : get_or new l.var 0 ≡ get_or old l.var 0 = g.kept l.var (ltb-true l.var (length old) parts.0) in
    rw (here, named_clause-grows old new c g parts.1) refl

pub written-grows : (old new : List ℕ) (accepted : List (Part × Clause)) → NamesGrow old new → AreOver (length old) (map (λ a. a.1) accepted) → written new accepted ≡ written old accepted
written-grows old new [] g over = refl
written-grows old new (a ∷ others) g over =
    let parts : (IsOver (length old) a.1) × (AreOver (length old) (map (λ b. b.1) others)) = and_parts _ _ over in
    rw (named_clause-grows old new a.1 g parts.0, written-grows old new others g parts.1) refl

-- a number that names a variable is kept by its type
pub SFits-from_abs : (z : ℤ) → unsigned_abs z ≤ variable_limit → SFits w64 z
SFits-from_abs (pos n) h = omega (arith, ints)
SFits-from_abs (negsuc n) h = omega (arith, ints)

-- a number that is admitted is within its bounds
pub is_within-bounds : (limit n : ℕ) → is_within limit n ≡ true → (1 ≤ n) × (n ≤ limit)
is_within-bounds limit n e =
    let bounds : (nat_le 1 n ≡ true) × (nat_le n limit ≡ true) = and_parts _ _ e in
    (leb-true 1 n bounds.0, leb-true n limit bounds.1)

-- each number of a list that is admitted names a variable
pub is_within-at : (limit : ℕ) (zs : List ℤ) (i : ℕ) (d : ℤ) → list_all (is_within limit) (map unsigned_abs zs) ≡ true → i < length zs
    → (1 ≤ unsigned_abs (get_or zs i d)) × (unsigned_abs (get_or zs i d) ≤ limit)
is_within-at limit [] i d all h = absurd (omega arith)
is_within-at limit (z ∷ zs) zero d all h =
    let parts : (is_within limit (unsigned_abs z) ≡ true) × (list_all (is_within limit) (map unsigned_abs zs) ≡ true) = and_parts _ _ all in
    let bounds : (nat_le 1 (unsigned_abs z) ≡ true) × (nat_le (unsigned_abs z) limit ≡ true) = and_parts _ _ parts.0 in
    (leb-true 1 (unsigned_abs z) bounds.0, leb-true (unsigned_abs z) limit bounds.1)
is_within-at limit (z ∷ zs) (suc i) d all h =
    let parts : (is_within limit (unsigned_abs z) ≡ true) × (list_all (is_within limit) (map unsigned_abs zs) ≡ true) = and_parts _ _ all in
    is_within-at limit zs i d parts.1 (omega arith)

-- one literal more of a clause, whose variable may be new
pub named_clause-push : (old new : List ℕ) (c pushed : Clause) (l : Literal) (zs : List ℤ) (i : ℕ) (d : ℤ) → NamesGrow old new → IsOver (length old) c
    → named_clause old c ≡ map script_literal (take i zs) → i < length zs → pushed ≡ c ++ l ∷ [] → named_literal new l ≡ script_literal (get_or zs i d)
    → named_clause new pushed ≡ map script_literal (take (i + 1) zs)
named_clause-push old new c pushed l zs i d g over so h p e =
    let before : named_clause new c ≡ map script_literal (take i zs) = named_clause-grows old new c g over ∙ so in
    rw (p, map-append (named_literal new) c (l ∷ []), before, e, take_more zs i d h, map-append script_literal (take i zs) (get_or zs i d ∷ [])) refl

-- one literal more
pub IsOver-push : (n : ℕ) (c : Clause) (l : Literal) → IsOver n c → l.var < n → IsOver n (c ++ l ∷ [])
IsOver-push n [] l over h = and_from _ _ (lt-ltb l.var n h) refl
IsOver-push n (m ∷ c) l over h =
    let parts : (nat_lt m.var n ≡ true) × (IsOver n c) = and_parts _ _ over in
    and_from _ _ parts.0 (IsOver-push n c l parts.1 h)

pub AreOver-push : (n : ℕ) (cs : List Clause) (c : Clause) → AreOver n cs → IsOver n c → AreOver n (cs ++ c ∷ [])
AreOver-push n [] c over h = and_from _ _ h refl
AreOver-push n (d ∷ cs) c over h =
    let parts : (IsOver n d) × (AreOver n cs) = and_parts _ _ over in
    and_from _ _ parts.0 (AreOver-push n cs c parts.1 h)
