-- Clauses, resolvents and chains whose variables are named anew.
use Rattle.std.proofs.Common.{◌≡◌, ◌≢◌, ◌⊎◌, ℕ, ◌<◌, List, [], ◌∷◌, length, map, Contains, AllPairs, Option, Some, ap, sym, ◌∙◌, subst, inl, inr, nat_eq}
use Rattle.std.specs.List.{IsDistinct}
use Rattle.std.proofs.lemmas.Bool.{cases_order}
use Rattle.std.proofs.lemmas.Bool.Decides.{Decides-eqb}
use Rattle.std.proofs.lemmas.Map.Made.{AllPairs-from_IsDistinct}
use Rattle.craig_spec.specs.Literal.{Literal, Clause, negation}
use Rattle.craig_spec.specs.Chain.{ChainStep, SameLiterals, IsResolvent, IsChain, ChainOk}
use Rattle.craig_top.specs.Named.{named_chain_step, AreDifferent}
use Rattle.craig_top.specs.Naming.{named_literal, named_clause}
use Rattle.craig_top.specs.Values.{IsOver}
use Rattle.craig_spec.proofs.MemberLemmas.{Contains-image, Contains-from_image}
use Rattle.craig_top.proofs.OverLemmas.{IsOver-contains, IsResolvent-over}

-- different entries are of different variables
pub AreDifferent-from_AllPairs : (names : List ℕ) → AllPairs (λ m n. m ≢ n) names → AreDifferent names
AreDifferent-from_AllPairs names pairs x y a b e = elim (cases_order x y) [
  | inl same ↦ same
  | inr (inl below) ↦ absurd (pairs x y 0 below b e)
  | inr (inr above) ↦ absurd (pairs y x 0 above a (sym e))
]

-- the same from the test of a table of names
pub AreDifferent-from_IsDistinct : (names : List ℕ) → IsDistinct nat_eq names → AreDifferent names
AreDifferent-from_IsDistinct names distinct = AreDifferent-from_AllPairs names (AllPairs-from_IsDistinct Decides-eqb names distinct)

-- clauses with the same literals have the same named ones
pub SameLiterals-named : (names : List ℕ) (c d : Clause) → SameLiterals c d → SameLiterals (named_clause names c) (named_clause names d)
SameLiterals-named names c d same m = (λ here. goes c d (λ l. (same l).0) m here, λ here. goes d c (λ l. (same l).1) m here) where
  goes : (a b : Clause) → ((l : Literal) → Contains a l → Contains b l) → (m : Literal) → Contains (named_clause names a) m → Contains (named_clause names b) m
  goes a b to m here =
      let found = Contains-from_image (named_literal names) a m here in
      subst (λ x. Contains (named_clause names b) x) (sym found.2) (Contains-image (named_literal names) b found.0 (to found.0 found.1))

module _ (names : List ℕ) (differ : AreDifferent names) where
  -- literals with the same named one are the same
  pub same_from_named : (l m : Literal) → l.var < length names → m.var < length names → named_literal names l ≡ named_literal names m → l ≡ m
  same_from_named l m a b e =
      let v : l.var ≡ m.var = differ l.var m.var a b (ap (λ (x : Literal). x.var) e) in
      let s : l.negated ≡ m.negated = ap (λ (x : Literal). x.negated) e in
      λ i. record { var = v i; negated = s i }

  -- a named literal stands in the named clause where the literal does
  pub Contains-from_named : (c : Clause) (l : Literal) → IsOver (length names) c → l.var < length names → Contains (named_clause names c) (named_literal names l) → Contains c l
  Contains-from_named c l over below here =
      let found = Contains-from_image (named_literal names) c (named_literal names l) here in
      let same : found.0 ≡ l = same_from_named found.0 l (IsOver-contains (length names) c found.0 over found.1) below (sym found.2) in
      subst (λ x. Contains c x) same found.1

  -- the resolvent of named clauses is the named one
  module _ (p : Literal) (c d r : Clause) (first : IsOver (length names) c) (second : IsOver (length names) d) (resolved : IsResolvent p c d r) where
    pivot_below : p.var < length names
    pivot_below = IsOver-contains (length names) c p first resolved.first_has

    named-no_other : (l m : Literal) → Contains c l → m ≡ named_literal names l → Contains (named_clause names d) (negation m) → m ≡ named_literal names p
    named-no_other l m here e there =
        let there2 : Contains (named_clause names d) (named_literal names (negation l)) = subst (λ (x : Literal). Contains (named_clause names d) (negation x)) e there in
        let below : l.var < length names = IsOver-contains (length names) c l first here in
        let same : l ≡ p = resolved.no_other l here (Contains-from_named d (negation l) second below there2) in
        e ∙ ap (named_literal names) same

    named-to : (l : Literal) → Contains r l → ((Contains (named_clause names c) (named_literal names l) × (named_literal names l ≢ named_literal names p)) ⊎ (Contains (named_clause names d) (named_literal names l) × (named_literal names l ≢ negation (named_literal names p))))
    named-to l here = elim ((resolved.literals l).0 here) [
      | inl h ↦ inl (Contains-image (named_literal names) c l h.0, λ e. h.1 (same_from_named l p (IsOver-contains (length names) c l first h.0) pivot_below e))
      | inr h ↦ inr (Contains-image (named_literal names) d l h.0, λ e. h.1 (same_from_named l (negation p) (IsOver-contains (length names) d l second h.0) pivot_below e))
    ]

    named-from_first : (l m : Literal) → Contains c l → m ≡ named_literal names l → (m ≢ named_literal names p) → Contains (named_clause names r) m
    named-from_first l m here e other =
        subst (λ x. Contains (named_clause names r) x) (sym e) (Contains-image (named_literal names) r l ((resolved.literals l).1 (inl (here, λ same. other (e ∙ ap (named_literal names) same)))))

    named-from_second : (l m : Literal) → Contains d l → m ≡ named_literal names l → (m ≢ negation (named_literal names p)) → Contains (named_clause names r) m
    named-from_second l m here e other =
        subst (λ x. Contains (named_clause names r) x) (sym e) (Contains-image (named_literal names) r l ((resolved.literals l).1 (inr (here, λ same. other (e ∙ ap (named_literal names) same)))))

    pub IsResolvent-named : IsResolvent (named_literal names p) (named_clause names c) (named_clause names d) (named_clause names r)
    IsResolvent-named = record {
      first_has = Contains-image (named_literal names) c p resolved.first_has;
      second_has = Contains-image (named_literal names) d (negation p) resolved.second_has;
      no_other = λ m here there. let found = Contains-from_image (named_literal names) c m here in named-no_other found.0 m found.1 found.2 there;
      literals = λ m. (
        λ here. let found = Contains-from_image (named_literal names) r m here in
            subst (λ x. (Contains (named_clause names c) x × (x ≢ named_literal names p)) ⊎ (Contains (named_clause names d) x × (x ≢ negation (named_literal names p)))) (sym found.2) (named-to found.0 found.1),
        λ h. elim h [
          | inl h ↦ (let found = Contains-from_image (named_literal names) c m h.0 in named-from_first found.0 m found.1 found.2 h.1)
          | inr h ↦ (let found = Contains-from_image (named_literal names) d m h.0 in named-from_second found.0 m found.1 found.2 h.1)
        ],
      );
    }

  -- a chain over a look-up, and over one that gives the named clauses
  module _ (f g : ℕ → Option Clause) (over : (x : ℕ) (d : Clause) → f x ≡ Some d → IsOver (length names) d) (gives : (x : ℕ) (d : Clause) → f x ≡ Some d → g x ≡ Some (named_clause names d)) where
    pub IsChain-named : (c : Clause) (rest : List ChainStep) (last : Clause) → IsOver (length names) c → IsChain f c rest last → IsChain g (named_clause names c) (map (named_chain_step names) rest) (named_clause names last)
    IsChain-named c [] last first h = SameLiterals-named names c last h
    IsChain-named c (s ∷ rest) last first (d, r, is, resolved, more) =
        let second : IsOver (length names) d = over s.antecedent d is in
        (named_clause names d, named_clause names r, gives s.antecedent d is, IsResolvent-named s.pivot c d r first second resolved, IsChain-named r rest last (IsResolvent-over (length names) s.pivot c d r first second resolved) more)

    pub ChainOk-named : (literals : Clause) (first : ℕ) (rest : List ChainStep) → ChainOk f literals first rest → ChainOk g (named_clause names literals) first (map (named_chain_step names) rest)
    ChainOk-named literals first rest chain = record {
      start = named_clause names chain.start;
      start_is = gives first chain.start chain.start_is;
      chain = IsChain-named chain.start rest literals (over first chain.start chain.start_is) chain.chain;
    }
