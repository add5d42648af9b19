-- Clauses over script variables, by rising variable.
use Rattle.std.proofs.Common.{◌≡◌, ◌≢◌, ◌∙◌, sym, ap, subst, refl, inl, inr, ℕ, ◌<◌, ◌≤◌, Bool, true, false, eqb, nat_lt, max, List, [], ◌∷◌, length, get_or, All, AllPairs, Contains, ◌⊎◌, arith}
use Rattle.std.specs.List.{list_all}
use Rattle.std.proofs.lemmas.Bool.{and_from}
use Rattle.std.proofs.lemmas.Bool.Decides.{Decides-eqb, nat_tests}
use Rattle.std.proofs.lemmas.List.{get_or-map, length-map}
use Rattle.std.proofs.lemmas.Map.Made.{AllPairs-from_IsDistinct}
use Rattle.craig_spec.specs.Chain.{SameLiterals}
use Rattle.craig_spec.specs.Dimacs.{is_by_variable}
use Rattle.craig_spec.specs.DimacsText.{greatest_of_clause}
use Rattle.craig_spec.specs.Literal.{Literal, Clause}
use Rattle.craig_spec.proofs.MemberLemmas.{Contains-cases, Contains-front, Contains-later, list_all-members}
use Rattle.craig_base.specs.Clauses.{IsAscending, IsNormal, IsTautology}
use Rattle.craig_base.specs.Literals.{literal_code}
use Rattle.craig_base.specs.Names.{AreNames}
use Rattle.craig_base.proofs.ClausesLemmas.{IsNormal-vars_apart, vars_apart-IsNormal}
use Rattle.craig_cnf.specs.ScriptClauses.{by_variable, inserted, named_clause, named_literal}
use Rattle.craig_cnf.proofs.OrderLemmas.{Ascends, EachBefore, EachBefore-and, EachBefore-from_pairs, ascending_unique}

abbrev pub variable : Literal → ℕ
variable l = l.var

abbrev pub AreApart : Clause → Type 0
AreApart c = EachBefore (λ l m. l.var ≢ m.var) c

-- what has a literal more has it or one of the others
member_by : (l m : Literal) (c : Clause) (x : Literal) (t : Bool) → nat_lt l.var m.var ≡ t → (Contains (inserted l c) x → (l ≡ x) ⊎ Contains c x) → Contains (inserted l (m ∷ c)) x → (l ≡ x) ⊎ Contains (m ∷ c) x
member_by l m c x true e rest h = Contains-cases l (m ∷ c) x (rw e at h)
member_by l m c x false e rest h =
    elim (Contains-cases m (inserted l c) x (rw e at h)) [
      | inl same ↦ inr (subst (Contains (m ∷ c)) same (Contains-front m c))
      | inr later ↦ (elim (rest later) [ inl same ↦ inl same | inr there ↦ inr (Contains-later m c x there) ])
    ]

inserted-member : (l : Literal) (c : Clause) (x : Literal) → Contains (inserted l c) x → (l ≡ x) ⊎ Contains c x
inserted-member l [] x h = Contains-cases l [] x h
inserted-member l (m ∷ c) x h = member_by l m c x (nat_lt l.var m.var) refl (inserted-member l c x) h

inserted-has_by : (l m : Literal) (c : Clause) (t : Bool) → nat_lt l.var m.var ≡ t → Contains (inserted l c) l → Contains (inserted l (m ∷ c)) l
inserted-has_by l m c true e rest = rw e (Contains-front l (m ∷ c))
inserted-has_by l m c false e rest = rw e (Contains-later m (inserted l c) l rest)

inserted-has : (l : Literal) (c : Clause) → Contains (inserted l c) l
inserted-has l [] = Contains-front l []
inserted-has l (m ∷ c) = inserted-has_by l m c (nat_lt l.var m.var) refl (inserted-has l c)

inserted-keeps_by : (l m : Literal) (c : Clause) (x : Literal) (t : Bool) → nat_lt l.var m.var ≡ t → (Contains c x → Contains (inserted l c) x) → Contains (m ∷ c) x → Contains (inserted l (m ∷ c)) x
inserted-keeps_by l m c x true e rest h = rw e (Contains-later l (m ∷ c) x h)
inserted-keeps_by l m c x false e rest h =
    rw e (elim (Contains-cases m c x h) [
      | inl same ↦ subst (Contains (m ∷ inserted l c)) same (Contains-front m (inserted l c))
      | inr later ↦ Contains-later m (inserted l c) x (rest later)
    ])

inserted-keeps : (l : Literal) (c : Clause) (x : Literal) → Contains c x → Contains (inserted l c) x
inserted-keeps l [] x (k, within, at) = absurd (omega (arith, within))
inserted-keeps l (m ∷ c) x h = inserted-keeps_by l m c x (nat_lt l.var m.var) refl (inserted-keeps l c x) h

by_variable-member : (c : Clause) (x : Literal) → Contains (by_variable c) x → Contains c x
by_variable-member [] x h = h
by_variable-member (l ∷ c) x h =
    elim (inserted-member l (by_variable c) x h) [
      | inl same ↦ subst (Contains (l ∷ c)) same (Contains-front l c)
      | inr there ↦ Contains-later l c x (by_variable-member c x there)
    ]

by_variable-keeps : (c : Clause) (x : Literal) → Contains c x → Contains (by_variable c) x
by_variable-keeps [] x h = h
by_variable-keeps (l ∷ c) x h =
    elim (Contains-cases l c x h) [
      | inl same ↦ subst (Contains (inserted l (by_variable c))) same (inserted-has l (by_variable c))
      | inr there ↦ inserted-keeps l (by_variable c) x (by_variable-keeps c x there)
    ]

-- the literals stay
pub SameLiterals-by_variable : (c : Clause) → SameLiterals (by_variable c) c
SameLiterals-by_variable c l = (by_variable-member c l, by_variable-keeps c l)

below_or_not : (l m : Literal) → nat_lt l.var m.var ≡ false → (l.var ≡ m.var → ⊥) → m.var < l.var
below_or_not l m e apart = let h : m.var ≤ l.var = grind (arith, nat_tests, e) in omega (arith, h, apart)

-- and their variables rise, where no two are of one variable
inserted-ascends_by : (l m : Literal) (c : Clause) (t : Bool) → nat_lt l.var m.var ≡ t → Ascends variable (m ∷ c) → ((n : Literal) → Contains (m ∷ c) n → l.var ≢ n.var) → Ascends variable (inserted l c) → Ascends variable (inserted l (m ∷ c))
inserted-ascends_by l m c true e up apart rest =
    let less : l.var < m.var = grind (arith, nat_tests, e) in
    rw e (λ n h. elim (Contains-cases m c n h) [ inl same ↦ subst (λ (k : Literal). l.var < k.var) same less | inr there ↦ (let more : m.var < n.var = up.0 n there in omega (arith, less, more)) ], up)
inserted-ascends_by l m c false e up apart rest =
    let more : m.var < l.var = below_or_not l m e (apart m (Contains-front m c)) in
    rw e (λ n h. elim (inserted-member l c n h) [ inl same ↦ subst (λ (k : Literal). m.var < k.var) same more | inr there ↦ up.0 n there ], rest)

inserted-ascends : (l : Literal) (c : Clause) → Ascends variable c → ((m : Literal) → Contains c m → l.var ≢ m.var) → Ascends variable (inserted l c)
inserted-ascends l [] up apart = (λ n (k, within, at). absurd (omega (arith, within)), tt)
inserted-ascends l (m ∷ c) up apart = inserted-ascends_by l m c (nat_lt l.var m.var) refl up apart (inserted-ascends l c up.1 (λ n h. apart n (Contains-later m c n h)))

pub by_variable-ascends : (c : Clause) → AreApart c → Ascends variable (by_variable c)
by_variable-ascends [] apart = tt
by_variable-ascends (l ∷ c) apart = inserted-ascends l (by_variable c) (by_variable-ascends c apart.1) (λ m h. apart.0 m (by_variable-member c m h))

-- rising variables pass the test
pub is_by_variable-ascends : (c : Clause) → Ascends variable c → is_by_variable c ≡ true
is_by_variable-ascends [] up = refl
is_by_variable-ascends (l ∷ c) up =
    and_from (list_all (λ m. nat_lt l.var m.var) c) (is_by_variable c)
    (list_all-members (λ m. nat_lt l.var m.var) c (λ m here. let h : l.var < m.var = up.0 m here in grind (arith, nat_tests, h)))
    (is_by_variable-ascends c up.1)

-- the greatest variable stays
inserted-greatest_by : (l m : Literal) (c : Clause) (t : Bool) → nat_lt l.var m.var ≡ t → greatest_of_clause (inserted l c) ≡ max l.var (greatest_of_clause c) → greatest_of_clause (inserted l (m ∷ c)) ≡ max l.var (max m.var (greatest_of_clause c))
inserted-greatest_by l m c true e rest = rw e refl
inserted-greatest_by l m c false e rest = rw e (omega (arith, rest))

inserted-greatest : (l : Literal) (c : Clause) → greatest_of_clause (inserted l c) ≡ max l.var (greatest_of_clause c)
inserted-greatest l [] = refl
inserted-greatest l (m ∷ c) = inserted-greatest_by l m c (nat_lt l.var m.var) refl (inserted-greatest l c)

pub by_variable-greatest : (c : Clause) → greatest_of_clause (by_variable c) ≡ greatest_of_clause c
by_variable-greatest [] = refl
by_variable-greatest (l ∷ c) = inserted-greatest l (by_variable c) ∙ ap (max l.var) (by_variable-greatest c)

-- different dense variables have different names
pub names_differ : (names : List ℕ) → AreNames names → (x y : ℕ) → x < length names → y < length names → get_or names x 0 ≡ get_or names y 0 → x ≡ y
names_differ names h x y x_within y_within same =
    let apart : AllPairs (λ a b. a ≢ b) names = AllPairs-from_IsDistinct {eq = eqb} Decides-eqb names h.distinct in
    let not_before : x < y → ⊥ = λ less. apart x y 0 less y_within same in
    let not_after : y < x → ⊥ = λ less. apart y x 0 less x_within (sym same) in
    omega (arith, not_before, not_after)

-- so a normal clause stays one under the names of its variables
pub named-apart : (names : List ℕ) (c : Clause) → AreNames names → All (λ (l : Literal). l.var < length names) c → IsNormal c → AllPairs (λ (l m : Literal). l.var ≢ m.var) (named_clause names c)
named-apart names c h within normal i j d less inside same =
    let n : length (named_clause names c) ≡ length c = length-map c (named_literal names) in
    let at_i : get_or (named_clause names c) i d ≡ named_literal names (get_or c i d) = get_or-map (named_literal names) c i d d (omega arith) in
    let at_j : get_or (named_clause names c) j d ≡ named_literal names (get_or c j d) = get_or-map (named_literal names) c j d d (omega arith) in
    vars_apart-IsNormal c normal i j d less (omega arith)
    (names_differ names h (get_or c i d).var (get_or c j d).var (within i d (omega arith)) (within j d (omega arith)) (sym (ap variable at_i) ∙ same ∙ ap variable at_j))

-- the order of codes is that of variables, where these differ
code_below : (l m : Literal) (s t : Bool) → l.negated ≡ s → m.negated ≡ t → literal_code l < literal_code m → l.var ≢ m.var → l.var < m.var
code_below l m true true e f less apart = let h = rw (e, f) at less in omega (arith, h, apart)
code_below l m true false e f less apart = let h = rw (e, f) at less in omega (arith, h, apart)
code_below l m false true e f less apart = let h = rw (e, f) at less in omega (arith, h, apart)
code_below l m false false e f less apart = let h = rw (e, f) at less in omega (arith, h, apart)

ascends-normal : (c : Clause) → IsAscending c → IsNormal c → Ascends variable c
ascends-normal c up normal =
    EachBefore-and (λ l m. literal_code l < literal_code m) (λ l m. l.var ≢ m.var) (λ l m. l.var < m.var) c
    (λ l m less apart. code_below l m l.negated m.negated refl refl less apart)
    (EachBefore-from_pairs (λ l m. literal_code l < literal_code m) c up)
    (EachBefore-from_pairs (λ l m. l.var ≢ m.var) c (vars_apart-IsNormal c normal))

-- the literals in order, each once, are those by rising variable
pub sorted-by_variable : (names : List ℕ) (c d : Clause) → AreNames names → All (λ (l : Literal). l.var < length names) c → IsNormal c → SameLiterals (named_clause names c) d → IsAscending d → IsNormal d → d ≡ by_variable (named_clause names c)
sorted-by_variable names c d h within normal same up d_normal =
    let n : Clause = named_clause names c in
    ascending_unique variable d (by_variable n) (ascends-normal d up d_normal)
    (by_variable-ascends n (EachBefore-from_pairs (λ l m. l.var ≢ m.var) n (named-apart names c h within normal)))
    (λ z there. (SameLiterals-by_variable n z).1 ((same z).1 there))
    (λ z there. (same z).0 ((SameLiterals-by_variable n z).0 there))

-- and there is no tautology among them
pub named-no_tautology : (names : List ℕ) (c : Clause) → AreNames names → All (λ (l : Literal). l.var < length names) c → IsNormal c → IsTautology (named_clause names c) → ⊥
named-no_tautology names c h within normal = (IsNormal-vars_apart (named_clause names c) (named-apart names c h within normal)).not_tautology
