-- Lemmas under the names of a script: they meet the rule that those over dense variables do.
use Rattle.std.proofs.Common.{◌≡◌, ◌≢◌, ◌∙◌, sym, ap, subst, refl, ℕ, ◌+◌, ◌<◌, Bool, false, ◌&&◌, List, [], ◌∷◌, ◌++◌, length, take, map, get_or, get_or-take, length-take, nat_eq, nat_lt, filter, zero-add, eq-eqb, All, Contains, AllPairs, IsTrue, inl, inr, arith}
use Rattle.std.specs.List.{list_all, range_with_len, IsDistinct}
use Rattle.std.specs.List.Sorted.{IsStrictlyIncreasing}
use Rattle.std.proofs.Math.Bool.{and-true}
use Rattle.std.proofs.Math.Seq.{take-length}
use Rattle.std.proofs.lemmas.Bool.{cases_lt, eqb-true}
use Rattle.std.proofs.lemmas.Bool.Decides.{Decides-eqb}
use Rattle.std.proofs.lemmas.Cmp.{nat_eq_equiv}
use Rattle.std.proofs.lemmas.List.{get_or-map, get_or_append_left, get_or_default, get_or_push, length-map, length_push}
use Rattle.std.proofs.lemmas.List.Elements.{Contains-get_or}
use Rattle.std.proofs.lemmas.List.FromFn.{get_or-range_with_len, length-range_with_len}
use Rattle.std.proofs.lemmas.List.Sorted.{Contains-permutation, IsPermutation-map, IsPermutation-sym}
use Rattle.std.proofs.lemmas.Map.Keys.{IsDistinct-IsPermutation, IsStrictlyIncreasing-from_distinct}
use Rattle.std.proofs.lemmas.Map.Made.{IsDistinct-from_AllPairs}
use Rattle.std.proofs.lemmas.Map.Views.{any-filter_same}
use Rattle.craig_spec.specs.Literal.{Literal, Clause}
use Rattle.craig_spec.specs.Truth.{Assignment, IsModel, Implies, clause_value, variable_value}
use Rattle.craig_spec.specs.Occurs.{Occurs, occurs_in_clause}
use Rattle.craig_spec.specs.Chain.{SameLiterals}
use Rattle.craig_base.specs.Clauses.{IsNormal, IsTautology}
use Rattle.craig_base.specs.LemmaRule.{ContainsClause, NoneMoreThanTwice, MeetsLemmaRule}
use Rattle.craig_top.specs.LemmaReply.{IsNamedLemma, AreNamedLemmas}
use Rattle.craig_top.specs.Named.{AreDifferent}
use Rattle.craig_top.specs.Naming.{named_literal, named_clause}
use Rattle.craig_top.specs.Values.{IsOver, AreOver}
use Rattle.craig_spec.proofs.ClauseLemmas.{SameLiterals-sym, SameLiterals-trans, clause_value-same, occurs_in_clause-find, occurs_in_clause-member}
use Rattle.craig_spec.proofs.MemberLemmas.{Contains-image, Contains-from_image, list_all-member, list_all-members, list_any-member, map-map}
use Rattle.craig_base.proofs.ClausesLemmas.{IsTautology-SameLiterals, vars_apart-IsNormal}
use Rattle.craig_top.proofs.DenseLemmas.{Agrees, clause_value-named}
use Rattle.craig_top.proofs.NamedChainLemmas.{AreDifferent-from_IsDistinct, Contains-from_named}
use Rattle.craig_top.proofs.NamedRefutationLemmas.{not_tautology-named}
use Rattle.craig_top.proofs.NamingLemmas.{occurs-below, occurs-named}
use Rattle.craig_top.proofs.OverLemmas.{IsOver-contains, IsOver-each}

-- a printed lemma has the named literals
SameLiterals-printed : (names : List ℕ) (c m : Clause) → IsNamedLemma names c m → SameLiterals (named_clause names c) m
SameLiterals-printed names c m is l = (
  λ here. Contains-permutation (named_clause names c) m l is.permuted here,
  λ here. Contains-permutation m (named_clause names c) l (IsPermutation-sym (named_clause names c) m is.permuted) here,
)

-- the dense variables whose names an assignment of the script makes true
abbrev dense_trues : List ℕ → Assignment → Assignment
dense_trues names s = filter (λ x. variable_value s (get_or names x 0)) (range_with_len 0 (length names))

-- each dense variable has there the value of its name
Agrees-dense : (names : List ℕ) (s : Assignment) → Agrees names (dense_trues names s) s
Agrees-dense names s x below =
    let p : ℕ → Bool = λ y. variable_value s (get_or names y 0) in
    let all : List ℕ = range_with_len 0 (length names) in
    let stands : Contains all x = (x, omega (arith, below, length-range_with_len 0 (length names)), get_or-range_with_len 0 (length names) x x below ∙ zero-add x) in
    any-filter_same (nat_eq x) p (p x) (λ y same. ap p (sym (eqb-true x y same))) all
    ∙ ap (λ b. p x && b) (list_any-member (nat_eq x) all x stands (eq-eqb x x refl)) ∙ and-true (p x)

-- each of the clauses is over as many variables as all are
IsOver-member : (n : ℕ) (clauses : List Clause) (c : Clause) → AreOver n clauses → Contains clauses c → IsOver n c
IsOver-member n clauses c over here = list_all-member (λ (d : Clause). list_all (λ (l : Literal). nat_lt l.var n) d) clauses c here over

-- a model of the named clauses is one of the dense ones
IsModel-dense : (names : List ℕ) (s : Assignment) (clauses : List Clause) → AreOver (length names) clauses → IsModel s (map (named_clause names) clauses) → IsModel (dense_trues names s) clauses
IsModel-dense names s clauses over model = list_all-members (clause_value (dense_trues names s)) clauses (λ c here. (
    clause_value-named names (dense_trues names s) s c (Agrees-dense names s) (IsOver-member (length names) clauses c over here)
    ∙ list_all-member (clause_value s) (map (named_clause names) clauses) (named_clause names c) (Contains-image (named_clause names) clauses c here) model))

-- a clause whose variables are those of clauses over n variables is so too
IsOver-known : (n : ℕ) (clauses : List Clause) (c : Clause) → AreOver n clauses → ((x : ℕ) → IsTrue (occurs_in_clause x c) → Occurs x clauses) → IsOver n c
IsOver-known n clauses c over known = IsOver-each n c (λ l here. occurs-below n l.var clauses over (known l.var (occurs_in_clause-member l.var c l here refl)))

-- so each lemma is over as many variables as the clauses
pub AreOver-lemmas : (n : ℕ) (clauses lemmas : List Clause) → AreOver n clauses → MeetsLemmaRule clauses lemmas → AreOver n lemmas
AreOver-lemmas n clauses lemmas over rule = list_all-members (λ (c : Clause). list_all (λ (l : Literal). nat_lt l.var n) c) lemmas (λ c here. subst (λ (d : Clause). IsOver n d) here.2 (IsOver-known n clauses (get_or lemmas here.0 c) over (rule.known here.0 c here.1)))

-- what follows from the clauses, named
implied-printed : (names : List ℕ) (clauses : List Clause) (c m : Clause) → AreOver (length names) clauses → IsOver (length names) c → IsNamedLemma names c m → Implies clauses (λ s. IsTrue (clause_value s c)) → Implies (map (named_clause names) clauses) (λ s. IsTrue (clause_value s m))
implied-printed names clauses c m over is_over is implied s model =
    clause_value-same s (named_clause names c) m (SameLiterals-printed names c m is)
    (sym (clause_value-named names (dense_trues names s) s c (Agrees-dense names s) is_over) ∙ implied (dense_trues names s) (IsModel-dense names s clauses over model))

-- the variables of a printed lemma are those of the named clauses
known-printed : (names : List ℕ) (clauses : List Clause) (c m : Clause) → IsNamedLemma names c m → ((x : ℕ) → IsTrue (occurs_in_clause x c) → Occurs x clauses) → (x : ℕ) → IsTrue (occurs_in_clause x m) → Occurs x (map (named_clause names) clauses)
known-printed names clauses c m is known x occurs_there =
    let found = occurs_in_clause-find x m occurs_there in
    let origin = Contains-from_image (named_literal names) c found.0 ((SameLiterals-printed names c m is found.0).1 found.1) in
    let l : Literal = origin.0 in
    let name : get_or names l.var 0 ≡ x = sym (ap (λ (n : Literal). n.var) origin.2) ∙ found.2 in
    subst (λ y. Occurs y (map (named_clause names) clauses)) name (occurs-named names l.var clauses (known l.var (occurs_in_clause-member l.var c l origin.1 refl)))

module _ (names : List ℕ) (differ : AreDifferent names) where
  -- a named clause contains a named one only where the dense one contains the dense one
  ContainsClause-from_named : (c d : Clause) → IsOver (length names) c → IsOver (length names) d → ContainsClause (named_clause names c) (named_clause names d) → ContainsClause c d
  ContainsClause-from_named c d over other contains l here =
      Contains-from_named names differ c l over (IsOver-contains (length names) d l other here) (contains (named_literal names l) (Contains-image (named_literal names) d l here))

  -- so two have the same literals only where the dense ones have
  SameLiterals-from_named : (c d : Clause) → IsOver (length names) c → IsOver (length names) d → SameLiterals (named_clause names c) (named_clause names d) → SameLiterals c d
  SameLiterals-from_named c d over other same l =
      (ContainsClause-from_named d c other over (λ n. (same n).0) l, ContainsClause-from_named c d over other (λ n. (same n).1) l)

  -- a printed lemma is no tautology, as the dense one is none
  not_tautology-printed : (c m : Clause) → IsOver (length names) c → IsNamedLemma names c m → ¬ IsTautology c → ¬ IsTautology m
  not_tautology-printed c m over is none tautology =
      let named : IsTautology (named_clause names c) = (IsTautology-SameLiterals (named_clause names c) m (SameLiterals-printed names c m is)).1 tautology in
      not_tautology-named names differ c over (λ l here there. none (l, here, there)) named.0 named.1 named.2

  -- a printed lemma contains a named clause only where the dense lemma contains the clause
  new-printed : (clauses : List Clause) (c m : Clause) → AreOver (length names) clauses → IsOver (length names) c → IsNamedLemma names c m → ((d : Clause) → Contains clauses d → ¬ ContainsClause c d)
      → (e : Clause) → Contains (map (named_clause names) clauses) e → ¬ ContainsClause m e
  new-printed clauses c m over is_over is none e here contains =
      let origin = Contains-from_image (named_clause names) clauses e here in
      let d : Clause = origin.0 in
      let d_over : IsOver (length names) d = IsOver-member (length names) clauses d over origin.1 in
      let contains_named : ContainsClause (named_clause names c) (named_clause names d) = λ l has. (SameLiterals-printed names c m is l).1 (contains l (subst (λ (f : Clause). Contains f l) (sym origin.2) has)) in
      none d origin.1 (ContainsClause-from_named c d is_over d_over contains_named)

  -- two printed lemmas have the same literals only where the dense ones have
  same_from_printed : (c d m n : Clause) → IsOver (length names) c → IsOver (length names) d → IsNamedLemma names c m → IsNamedLemma names d n → SameLiterals m n → SameLiterals c d
  same_from_printed c d m n over other first second same =
      SameLiterals-from_named c d over other
      (SameLiterals-trans (named_clause names c) m (named_clause names d) (SameLiterals-printed names c m first)
      (SameLiterals-trans m n (named_clause names d) same (SameLiterals-sym (named_clause names d) n (SameLiterals-printed names d n second))))

  -- no three printed lemmas have the same literals, as no three dense ones have
  few-printed : (lemmas named : List Clause) → ((k : ℕ) (d : Clause) → k < length lemmas → IsOver (length names) (get_or lemmas k d)) → AreNamedLemmas names lemmas named → NoneMoreThanTwice lemmas → NoneMoreThanTwice named
  few-printed lemmas named over are few i j k d first second within one two =
      let last : k < length lemmas = omega (arith, within, are.many) in
      let middle : j < length lemmas = omega (arith, second, last) in
      let front : i < length lemmas = omega (arith, first, middle) in
      few i j k d first second last
      (same_from_printed (get_or lemmas i d) (get_or lemmas j d) (get_or named i d) (get_or named j d) (over i d front) (over j d middle) (are.each i d front) (are.each j d middle) one)
      (same_from_printed (get_or lemmas j d) (get_or lemmas k d) (get_or named j d) (get_or named k d) (over j d middle) (over k d last) (are.each j d middle) (are.each k d last) two)

-- the lemmas of a search under the names of the script
pub MeetsLemmaRule-named : (names : List ℕ) (clauses lemmas named : List Clause) → IsDistinct nat_eq names → AreOver (length names) clauses → MeetsLemmaRule clauses lemmas → AreNamedLemmas names lemmas named → MeetsLemmaRule (map (named_clause names) clauses) named
MeetsLemmaRule-named names clauses lemmas named distinct over rule are =
    let differ : AreDifferent names = AreDifferent-from_IsDistinct names distinct in
    let is_over : (k : ℕ) (d : Clause) → k < length lemmas → IsOver (length names) (get_or lemmas k d) = λ k d within. IsOver-known (length names) clauses (get_or lemmas k d) over (rule.known k d within) in
    let inside : (k : ℕ) → k < length named → k < length lemmas = λ k within. omega (arith, within, are.many) in
    record {
      implied = λ k d within. implied-printed names clauses (get_or lemmas k d) (get_or named k d) over (is_over k d (inside k within)) (are.each k d (inside k within)) (rule.implied k d (inside k within));
      known = λ k d within. known-printed names clauses (get_or lemmas k d) (get_or named k d) (are.each k d (inside k within)) (rule.known k d (inside k within));
      not_tautology = λ k d within. not_tautology-printed names differ (get_or lemmas k d) (get_or named k d) (is_over k d (inside k within)) (are.each k d (inside k within)) (rule.not_tautology k d (inside k within));
      new = λ k d within. new-printed names differ clauses (get_or lemmas k d) (get_or named k d) over (is_over k d (inside k within)) (are.each k d (inside k within)) (rule.new k d (inside k within));
      few = few-printed names differ lemmas named is_over are rule.few;
    }

-- no lemma is printed yet
pub AreNamedLemmas-none : (names : List ℕ) → AreNamedLemmas names [] []
AreNamedLemmas-none names = record { many = refl; each = λ k d within. absurd (omega (arith, within)) }

-- one lemma more
pub AreNamedLemmas-push : (names : List ℕ) (k : ℕ) (dense named : List Clause) (n d : Clause) → AreNamedLemmas names (take k dense) named → k < length dense → IsNamedLemma names (get_or dense k d) n → AreNamedLemmas names (take (k + 1) dense) (named ++ n ∷ [])
AreNamedLemmas-push names k dense named n d are within is = record {
  many = omega (arith, length_push named n, are.many, length-take k dense, length-take (k + 1) dense, within);
  each = λ j e before. (
      let front : length named ≡ k = omega (arith, are.many, length-take k dense, within) in
      let up_to : j < k + 1 = omega (arith, before, length-take (k + 1) dense) in
      subst (λ (c : Clause). IsNamedLemma names c (get_or (named ++ n ∷ []) j e)) (sym (get_or-take (k + 1) dense j e up_to)) (elim (cases_lt j k) [
        | inl earlier ↦ subst (λ (m : Clause). IsNamedLemma names (get_or dense j e) m) (sym (get_or_append_left named (n ∷ []) e j (omega (arith, earlier, front))))
            (subst (λ (c : Clause). IsNamedLemma names c (get_or named j e)) (get_or-take k dense j e earlier) (are.each j e (omega (arith, earlier, length-take k dense, within))))
        | inr later ↦
            let same : k ≡ j = omega (arith, later, up_to) in
            let here : get_or dense k d ≡ get_or dense j e = ap (λ i. get_or dense i d) same ∙ get_or_default dense j d e (omega (arith, within, same)) in
            subst (λ (m : Clause). IsNamedLemma names (get_or dense j e) m) (sym (get_or_push named n e j (omega (arith, front, same)))) (subst (λ (c : Clause). IsNamedLemma names c n) here is)
      ]));
}

-- all are printed
pub AreNamedLemmas-all : (names : List ℕ) (k : ℕ) (dense named : List Clause) → AreNamedLemmas names (take k dense) named → k ≡ length dense → AreNamedLemmas names dense named
AreNamedLemmas-all names k dense named are end = subst (λ (cs : List Clause). AreNamedLemmas names cs named) (ap (λ n. take n dense) end ∙ take-length dense) are

-- where no variable stands twice, no name does
names_apart : (names : List ℕ) → AreDifferent names → (c : Clause) → IsOver (length names) c → AllPairs (λ l m. l.var ≢ m.var) c → AllPairs (λ x y. x ≢ y) (map (λ (l : Literal). get_or names l.var 0) c)
names_apart names differ c over apart i j d before within same =
    let none : Literal = record { var = 0; negated = false } in
    let name : Literal → ℕ = λ l. get_or names l.var 0 in
    let inside : j < length c = omega (arith, within, length-map c name) in
    let earlier : i < length c = omega (arith, before, inside) in
    let below : (k : ℕ) → k < length c → (get_or c k none).var < length names = λ k h. IsOver-contains (length names) c (get_or c k none) over (Contains-get_or c k none h) in
    apart i j none before inside
    (differ (get_or c i none).var (get_or c j none).var (below i earlier) (below j inside) (sym (get_or-map name c i none d earlier) ∙ same ∙ get_or-map name c j none d inside))

-- a printed lemma that is normal has each variable once, by rising variable
pub named-rising : (names : List ℕ) (dense named : Clause) → IsDistinct nat_eq names → IsOver (length names) dense → IsNormal dense → IsNamedLemma names dense named → IsStrictlyIncreasing (map (λ (l : Literal). l.var) named)
named-rising names dense named distinct over normal is =
    let apart : AllPairs (λ x y. x ≢ y) (map (λ (l : Literal). l.var) (named_clause names dense)) =
    subst (λ (xs : List ℕ). AllPairs (λ x y. x ≢ y) xs) (sym (map-map (λ (l : Literal). l.var) (named_literal names) dense))
    (names_apart names (AreDifferent-from_IsDistinct names distinct) dense over (vars_apart-IsNormal dense normal)) in
    IsStrictlyIncreasing-from_distinct (map (λ (l : Literal). l.var) named) is.sorted
    (IsDistinct-IsPermutation nat_eq nat_eq_equiv.symm (map (λ (l : Literal). l.var) (named_clause names dense)) (map (λ (l : Literal). l.var) named)
    (IsPermutation-map (λ (l : Literal). l.var) (named_clause names dense) named is.permuted)
    (IsDistinct-from_AllPairs Decides-eqb (map (λ (l : Literal). l.var) (named_clause names dense)) apart))

-- all of them do
pub all-rising : (names : List ℕ) (clauses dense named : List Clause) → IsDistinct nat_eq names → AreOver (length names) clauses → MeetsLemmaRule clauses dense → All IsNormal dense → AreNamedLemmas names dense named → All (λ (c : Clause). IsStrictlyIncreasing (map (λ (l : Literal). l.var) c)) named
all-rising names clauses dense named distinct over rule normal are k d within =
    let inside : k < length dense = omega (arith, are.many, within) in
    named-rising names (get_or dense k d) (get_or named k d) distinct (IsOver-known (length names) clauses (get_or dense k d) over (rule.known k d inside)) (normal k d inside) (are.each k d inside)
