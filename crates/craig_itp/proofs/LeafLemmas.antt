-- What the values of leaves say of literals.
use Rattle.std.proofs.Common.{◌≡◌, inl, inr, ℕ, suc, zero, Bool, true, false, cond, not, [], ◌∷◌, Contains, refl, sym, subst, ◌∙◌, arith}
use Rattle.std.specs.List.{filter, list_all}
use Rattle.std.proofs.lemmas.Bool.{or_cases, or_left, or_right, and_from, and_parts, cases_Bool, not-true, not_from_false}
use Rattle.craig_spec.specs.Literal.{Literal, Clause}
use Rattle.craig_spec.specs.Occurs.{occurs_in_clause}
use Rattle.craig_spec.specs.Truth.{Assignment, literal_value, clause_value}
use Rattle.craig_spec.specs.PartialInterpolant.{Label, A, AB, B, is_a, is_b, Labelling, leaf_a_value, leaf_b_value}
use Rattle.craig_spec.proofs.ClauseLemmas.{clause_value-find, occurs_in_clause-member}
use Rattle.craig_spec.proofs.MemberLemmas.{Contains-cases, Contains-front, Contains-later}
use Rattle.craig_itp.specs.Labellings.{crosses, CrossingAreFalse}

-- the variable of each literal occurs in the clause
pub occurs_at : (c : Clause) (m : Literal) → Contains c m → occurs_in_clause m.var c ≡ true
occurs_at c m here = occurs_in_clause-member m.var c m here refl

module _ (label : ℕ → Label) (s : Assignment) where
  -- some literal labelled B is true
  abbrev pub HasTrueB : Clause → Type 0
  HasTrueB c = (m : Literal) × Contains c m × (is_b (label m.var) ≡ true) × (literal_value s m ≡ true)

  HasTrueB-later : (m : Literal) (c : Clause) → HasTrueB c → HasTrueB (m ∷ c)
  HasTrueB-later m c n = (n.0, Contains-later m c n.0 n.1, n.2, n.3)

  leaf_a-cases : (m : Literal) (c : Clause) (b : Bool) → is_b (label m.var) ≡ b → clause_value s (cond b (m ∷ filter (λ n. is_b (label n.var)) c) (filter (λ n. is_b (label n.var)) c)) ≡ true → (leaf_a_value label s c ≡ true → HasTrueB c) → HasTrueB (m ∷ c)
  leaf_a-cases m c true e h later =
      elim (or_cases (literal_value s m) (leaf_a_value label s c) h) [
        | inl here ↦ (m, Contains-front m c, e, here)
        | inr rest ↦ HasTrueB-later m c (later rest)
      ]
  leaf_a-cases m c false e h later = HasTrueB-later m c (later h)

  pub leaf_a-true : (c : Clause) → leaf_a_value label s c ≡ true → HasTrueB c
  leaf_a-true [] h = absurd (let no : false ≡ true = h in cc)
  leaf_a-true (m ∷ c) h = leaf_a-cases m c (is_b (label m.var)) refl h (leaf_a-true c)

  leaf_a-later : (m : Literal) (c : Clause) (b : Bool) → leaf_a_value label s c ≡ true → clause_value s (cond b (m ∷ filter (λ n. is_b (label n.var)) c) (filter (λ n. is_b (label n.var)) c)) ≡ true
  leaf_a-later m c true h = or_right (literal_value s m) (leaf_a_value label s c) h
  leaf_a-later m c false h = h

  leaf_a-here : (m : Literal) (c : Clause) → is_b (label m.var) ≡ true → literal_value s m ≡ true → leaf_a_value label s (m ∷ c) ≡ true
  leaf_a-here m c b h = rw b (or_left (literal_value s m) (leaf_a_value label s c) h)

  pub leaf_a-from : (c : Clause) (m : Literal) → Contains c m → is_b (label m.var) ≡ true → literal_value s m ≡ true → leaf_a_value label s c ≡ true
  leaf_a-from [] m (k, within, at) b h = absurd (omega arith)
  leaf_a-from (n ∷ c) m (zero, within, at) b h = subst (λ (q : Literal). leaf_a_value label s (q ∷ c) ≡ true) (sym at) (leaf_a-here m c b h)
  leaf_a-from (n ∷ c) m (suc k, within, at) b h = leaf_a-later n c (is_b (label n.var)) (leaf_a-from c m (k, omega arith, at) b h)

  -- each literal labelled A is false
  abbrev pub HasFalseAs : Clause → Type 0
  HasFalseAs c = (m : Literal) → Contains c m → is_a (label m.var) ≡ true → literal_value s m ≡ false

  leaf_b-cases : (m : Literal) (c : Clause) (b : Bool) → is_a (label m.var) ≡ b → list_all (λ n. not (literal_value s n)) (cond b (m ∷ filter (λ n. is_a (label n.var)) c) (filter (λ n. is_a (label n.var)) c)) ≡ true → (b ≡ true → literal_value s m ≡ false) × (leaf_b_value label s c ≡ true)
  leaf_b-cases m c true e h = let p = and_parts (not (literal_value s m)) (leaf_b_value label s c) h in (λ b. not-true (literal_value s m) p.0, p.1)
  leaf_b-cases m c false e h = (λ b. absurd (cc), h)

  pub leaf_b-false : (c : Clause) → leaf_b_value label s c ≡ true → HasFalseAs c
  leaf_b-false [] h m (k, within, at) a = absurd (omega arith)
  leaf_b-false (n ∷ c) h m here a =
      let p = leaf_b-cases n c (is_a (label n.var)) refl h in
      elim (Contains-cases n c m here) [
        | inl same ↦ subst (λ (q : Literal). is_a (label q.var) ≡ true → literal_value s q ≡ false) same p.0 a
        | inr rest ↦ leaf_b-false c p.1 m rest a
      ]

  leaf_b-more : (m : Literal) (c : Clause) (b : Bool) → is_a (label m.var) ≡ b → (b ≡ true → literal_value s m ≡ false) → leaf_b_value label s c ≡ true → list_all (λ n. not (literal_value s n)) (cond b (m ∷ filter (λ n. is_a (label n.var)) c) (filter (λ n. is_a (label n.var)) c)) ≡ true
  leaf_b-more m c true e here rest = and_from (not (literal_value s m)) (leaf_b_value label s c) (not_from_false (literal_value s m) (here refl)) rest
  leaf_b-more m c false e here rest = rest

  pub leaf_b-from : (c : Clause) → HasFalseAs c → leaf_b_value label s c ≡ true
  leaf_b-from [] h = refl
  leaf_b-from (n ∷ c) h = leaf_b-more n c (is_a (label n.var)) refl (h n (Contains-front n c)) (leaf_b-from c (λ m here. h m (Contains-later n c m here)))

b_not_a : (x : Label) → is_b x ≡ true → is_a x ≡ false
b_not_a A h = absurd (let no : false ≡ true = h in cc)
b_not_a AB h = refl
b_not_a B h = refl

a_not_b : (x : Label) → is_a x ≡ true → is_b x ≡ false
a_not_b A h = refl
a_not_b AB h = refl
a_not_b B h = absurd (let no : false ≡ true = h in cc)

module _ (low high : Labelling) (s : Assignment) (c : Clause) (crossing : CrossingAreFalse low high s c) where
  -- a true literal that isn't labelled A in the low labelling is labelled B in the high one
  b_in_high : (m : Literal) → Contains c m → literal_value s m ≡ true → is_a (low.label m.var) ≡ false → is_b (high.label m.var) ≡ true
  b_in_high m here h not_a =
      elim (cases_Bool (is_b (high.label m.var))) [
        | inl b ↦ b
        | inr not_b ↦ absurd (
            let cross : crosses low high m.var ≡ true = and_from (not (is_a (low.label m.var))) (not (is_b (high.label m.var))) (not_from_false (is_a (low.label m.var)) not_a) (not_from_false (is_b (high.label m.var)) not_b) in
            let no : true ≡ false = sym h ∙ crossing m here cross in
            cc)
      ]

  -- a literal that is labelled A in the high labelling alone is false
  a_in_high : (m : Literal) → Contains c m → is_a (high.label m.var) ≡ true → is_a (low.label m.var) ≡ false → literal_value s m ≡ false
  a_in_high m here a not_a =
      crossing m here (and_from (not (is_a (low.label m.var))) (not (is_b (high.label m.var))) (not_from_false (is_a (low.label m.var)) not_a) (not_from_false (is_b (high.label m.var)) (a_not_b (high.label m.var) a)))

  -- an original of side A in both
  leaf_a-implied : leaf_a_value low.label s c ≡ true → leaf_a_value high.label s c ≡ true
  leaf_a-implied h =
      let m = leaf_a-true low.label s c h in
      leaf_a-from high.label s c m.0 m.1 (b_in_high m.0 m.1 m.3 (b_not_a (low.label (m.0).var) m.2)) m.3

  -- one of side B in both
  leaf_b-implied : leaf_b_value low.label s c ≡ true → leaf_b_value high.label s c ≡ true
  leaf_b-implied h =
      leaf_b-from high.label s c (λ m here a. elim (cases_Bool (is_a (low.label m.var))) [
        | inl low_a ↦ leaf_b-false low.label s c h m here low_a
        | inr not_a ↦ a_in_high m here a not_a
      ])

  -- one that is added to side A
  leaf_added-implied : clause_value s c ≡ true → leaf_b_value low.label s c ≡ true → leaf_a_value high.label s c ≡ true
  leaf_added-implied true_clause h =
      let m = clause_value-find s c true_clause in
      let not_a : is_a (low.label (m.0).var) ≡ false = elim (cases_Bool (is_a (low.label (m.0).var))) [
        | inl a ↦ absurd (let no : true ≡ false = sym m.2 ∙ leaf_b-false low.label s c h m.0 m.1 a in cc)
        | inr not_a ↦ not_a
      ] in
      leaf_a-from high.label s c m.0 m.1 (b_in_high m.0 m.1 m.2 not_a) m.2

  -- any original
  pub leaf-implied : (a b : Bool) → (a ≡ true → b ≡ true) → (b ≡ true → a ≡ false → clause_value s c ≡ true) → cond a (leaf_a_value low.label s c) (leaf_b_value low.label s c) ≡ true → cond b (leaf_a_value high.label s c) (leaf_b_value high.label s c) ≡ true
  leaf-implied true true up added h = leaf_a-implied h
  leaf-implied true false up added h = absurd (let no : false ≡ true = up refl in cc)
  leaf-implied false true up added h = leaf_added-implied (added refl refl) h
  leaf-implied false false up added h = leaf_b-implied h
