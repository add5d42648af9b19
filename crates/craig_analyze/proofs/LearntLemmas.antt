-- What is learnt in the end.
use Rattle.std.proofs.Common.{◌≡◌, ◌≢◌, inl, inr, ℕ, suc, zero, ◌<◌, List, [], ◌∷◌, ◌++◌, length, get_or, map, All, AllPairs, Contains, Some, refl, sym, ap, subst, ◌∙◌, arith}
use Rattle.std.proofs.lemmas.List.Elements.{All-cons, All-nil, All-contains, All-weaker}
use Rattle.craig_spec.specs.Literal.{Literal, Clause, negation}
use Rattle.craig_spec.specs.Chain.{ChainStep, IsChain, ChainOk}
use Rattle.craig_base.specs.Clauses.{IsNormal}
use Rattle.craig_base.specs.LemmaRule.{ContainsClause}
use Rattle.craig_proof.specs.Tracer.{chain_of}
use Rattle.craig_watch.specs.Trail.{Trail, IsFalse, IsAssigned, level_at}
use Rattle.craig_watch.specs.Held.{HeldView, held_clause, IsConsistent}
use Rattle.craig_analyze.specs.declared.learnt.Learnt.{Learnt}
use Rattle.craig_analyze.specs.Learnt.{IsDerived, IsAssertingClause, IsGreatestOf, IsNumberOfDifferent}
use Rattle.craig_analyze.specs.declared.staying.Staying.TheVariants.{InnerLevels}
use Rattle.craig_analyze.specs.Resolvent.{ResolventView, at_place, negated_at, resolvent_of, IsEndLevel, IsUnresolved, HasBegun, HasPresent, HasFound, HasEnded, HasMinimized, Leads}
use Rattle.craig_analyze.proofs.PlaceLemmas.{place-false, level_at-place, false-assigned, false-not_both}
use Rattle.craig_analyze.proofs.ResolventLemmas.{has-cases}

-- a literal of the present level in the false clause is pending
pub begun-present : (h : HeldView) (id : ℕ) (s : ResolventView) (l : Literal) → IsConsistent h → (b : HasBegun h id s) → Contains b.conflict l → level_at h.trail l ≡ h.level → HasPresent h s
begun-present h id s l ok b has level =
    elim (has-cases h.trail s l ((b.same l).0 has)) [
      | inl there ↦
          let p : ℕ = there.0 in
          let low : p < length h.trail = All-contains (λ q. q < length h.trail) s.pending p b.unresolved.below there.1 in
          (p, there.1, sym (level_at-place h.trail p ok.distinct low) ∙ ap (level_at h.trail) there.2 ∙ level)
      | inr lower ↦
          let inner = All-contains (λ m. (0 < level_at h.trail m) × (level_at h.trail m < h.level)) s.lower l b.unresolved.lower_inner lower in
          let less : level_at h.trail l < h.level = inner.1 in
          absurd (omega arith)
    ]

-- the literal that was found
pub found-false : (h : HeldView) (first : Literal) (before after : List ChainStep) (old s : ResolventView) → IsConsistent h → HasFound h first before after old s → IsFalse h.trail first
found-false h first before after old s ok f = subst (IsFalse h.trail) (sym f.first_is) (place-false h.trail f.place ok.distinct f.within)

pub found-level : (h : HeldView) (first : Literal) (before after : List ChainStep) (old s : ResolventView) → IsConsistent h → HasFound h first before after old s → level_at h.trail first ≡ h.level
found-level h first before after old s ok f = ap (level_at h.trail) f.first_is ∙ level_at-place h.trail f.place ok.distinct f.within ∙ f.level

-- what is left of the resolvent
pub minimized-lower : (h : HeldView) (first : Literal) (before after : List ChainStep) (old s : ResolventView) → HasMinimized h first before after old s → resolvent_of h.trail s ≡ s.lower
minimized-lower h first before after old s e = ap (λ (places : List ℕ). map (negated_at h.trail) places ++ s.lower) e.none

pub ended-lower : (h : HeldView) (before after : List ChainStep) (old s : ResolventView) → HasEnded h before after old s → resolvent_of h.trail s ≡ s.lower
ended-lower h before after old s e = ap (λ (places : List ℕ). map (negated_at h.trail) places ++ s.lower) e.none

pub lower-assigned : (h : HeldView) (b : ℕ) (s : ResolventView) → IsUnresolved InnerLevels h b s → All (λ l. IsAssigned h.trail l.var) s.lower
lower-assigned h b s u = All-weaker (IsFalse h.trail) (λ l. IsAssigned h.trail l.var) (λ l. false-assigned h.trail l) s.lower u.lower_false

pub apart-cons : (x : Literal) (xs : Clause) → ((k : ℕ) (d : Literal) → k < length xs → x.var ≢ (get_or xs k d).var) → AllPairs (λ l m. l.var ≢ m.var) xs → AllPairs (λ l m. l.var ≢ m.var) (x ∷ xs)
apart-cons x xs first rest zero zero d before within = absurd (omega arith)
apart-cons x xs first rest zero (suc j) d before within = first j d (omega arith)
apart-cons x xs first rest (suc i) zero d before within = absurd (omega arith)
apart-cons x xs first rest (suc i) (suc j) d before within = rest i j d (omega arith) (omega arith)

-- literals of one variable have one level
same-level : (t : Trail) (l m : Literal) → l.var ≡ m.var → level_at t l ≡ level_at t m
same-level t l m e = ap (λ v. level_at t (record { var = v; negated = l.negated })) e

module _ (h : HeldView) (id : ℕ) (first : Literal) (start mid end : List ChainStep) (s0 s1 s2 : ResolventView) (ok : IsConsistent h) (above : 0 < h.level) (b : HasBegun h id s0) (f : HasFound h first start mid s0 s1) (e : HasMinimized h first mid end s1 s2) where
  pub learnt-false : All (IsFalse h.trail) (first ∷ s2.lower)
  learnt-false = All-cons (IsFalse h.trail) first s2.lower (found-false h first start mid s0 s1 ok f) e.unresolved.lower_false

  pub learnt-assigned : All (λ l. IsAssigned h.trail l.var) (first ∷ s2.lower)
  learnt-assigned = All-weaker (IsFalse h.trail) (λ l. IsAssigned h.trail l.var) (λ l. false-assigned h.trail l) (first ∷ s2.lower) learnt-false

  first-apart : (k : ℕ) (d : Literal) → k < length s2.lower → first.var ≢ (get_or s2.lower k d).var
  first-apart k d w same =
      let inner = e.unresolved.lower_inner k d w in
      let less : level_at h.trail (get_or s2.lower k d) < h.level = inner.1 in
      let present : level_at h.trail first ≡ h.level = found-level h first start mid s0 s1 ok f in
      let equal : level_at h.trail first ≡ level_at h.trail (get_or s2.lower k d) = same-level h.trail first (get_or s2.lower k d) same in
      omega arith

  learnt-normal : IsNormal (first ∷ s2.lower)
  learnt-normal = record {
    distinct = λ i j d before within same. apart-cons first s2.lower first-apart e.unresolved.lower_apart i j d before within (ap (λ (l : Literal). l.var) same);
    not_tautology = λ (l, here, there). false-not_both h.trail l ok.distinct (All-contains (IsFalse h.trail) (first ∷ s2.lower) l learnt-false here) (All-contains (IsFalse h.trail) (first ∷ s2.lower) (negation l) learnt-false there);
  }

  learnt-chain : start ≡ [] → ChainOk (held_clause h.arena) (first ∷ s2.lower) id end
  learnt-chain none =
      let begins : Leads h b.conflict start [] s0 = subst (λ (steps : List ChainStep). Leads h b.conflict steps [] s0) (sym none) b.same in
      let whole : Leads h b.conflict end (first ∷ []) s2 = e.chain b.conflict (f.chain b.conflict begins) in
      record {
        start = b.conflict;
        start_is = b.held;
        chain = subst (λ (c : Clause). IsChain (held_clause h.arena) b.conflict end (first ∷ c)) (minimized-lower h first mid end s1 s2 e) whole;
      }

  -- the clause and its chain
  pub learnt-derived : (l : Learnt) → l.lits ≡ first ∷ s2.lower → l.first.0 ≡ id → chain_of l.rest ≡ end → start ≡ [] → IsDerived h.arena l
  learnt-derived l lits named steps none = record {
    normal = subst IsNormal (sym lits) learnt-normal;
    chain =
        subst (λ (c : Clause). ChainOk (held_clause h.arena) c l.first.0 (chain_of l.rest)) (sym lits)
        (subst (λ (n : ℕ). ChainOk (held_clause h.arena) (first ∷ s2.lower) n (chain_of l.rest)) (sym named)
        (subst (λ (rest : List ChainStep). ChainOk (held_clause h.arena) (first ∷ s2.lower) id rest) (sym steps) (learnt-chain none)));
  }

  -- it is asserting
  pub learnt-asserting : (l : Learnt) → l.lits ≡ first ∷ s2.lower → IsGreatestOf (map (level_at h.trail) s2.lower) l.back → IsNumberOfDifferent (map (level_at h.trail) l.lits) l.glue → ((n : ℕ) (c : Clause) → held_clause h.arena n ≡ Some c → ¬ ContainsClause (first ∷ s2.lower) c) → IsAssertingClause h l
  learnt-asserting l lits back glue new = record {
    first = first;
    rest = s2.lower;
    parts = lits;
    falsified = subst (All (IsFalse h.trail)) (sym lits) learnt-false;
    first_level = found-level h first start mid s0 s1 ok f;
    rest_levels = e.unresolved.lower_inner;
    back = back;
    glue = glue;
    new = λ n c held. subst (λ (d : Clause). ¬ ContainsClause d c) (sym lits) (new n c held);
  }

  pub lower-levels : All (λ m. level_at h.trail m < h.level) s2.lower
  lower-levels = All-weaker (λ m. (0 < level_at h.trail m) × (level_at h.trail m < h.level)) (λ m. level_at h.trail m < h.level) (λ m both. both.1) s2.lower e.unresolved.lower_inner

-- at level 0 there are no lower literals
none-lower : (h : HeldView) (lower : Clause) → h.level ≡ 0 → All (λ l. (0 < level_at h.trail l) × (level_at h.trail l < h.level)) lower → lower ≡ []
none-lower h [] level inner = refl
none-lower h (l ∷ lower) level inner = absurd (let both = inner 0 l (omega arith) in let up : 0 < level_at h.trail l = both.0 in let down : level_at h.trail l < h.level = both.1 in omega arith)

-- and all that is pending is of level 0
pub begun-root : (h : HeldView) (id : ℕ) (s : ResolventView) → h.level ≡ 0 → HasBegun h id s → All (λ p. (at_place h.trail p).level ≡ 0) s.pending
begun-root h id s level b = All-weaker (λ p. IsEndLevel h (at_place h.trail p).level) (λ p. (at_place h.trail p).level ≡ 0) (λ p end. elim end [ inl z ↦ z | inr present ↦ present ∙ level ]) s.pending b.unresolved.ends

empty-normal : IsNormal []
empty-normal = record {
  distinct = λ i j d before within. absurd (let no : j < 0 = within in omega arith);
  not_tautology = λ (l, here, there). (let no : here.0 < 0 = here.1 in omega arith);
}

pub refuted-derived : (h : HeldView) (id : ℕ) (start end : List ChainStep) (s0 s1 : ResolventView) (l : Learnt) → h.level ≡ 0 → HasBegun h id s0 → HasEnded h start end s0 s1 → l.lits ≡ [] → l.first.0 ≡ id → chain_of l.rest ≡ end → start ≡ [] → IsDerived h.arena l
refuted-derived h id start end s0 s1 l level b e lits named steps none =
    let begins : Leads h b.conflict start [] s0 = subst (λ (before : List ChainStep). Leads h b.conflict before [] s0) (sym none) b.same in
    let whole : Leads h b.conflict end [] s1 = e.chain b.conflict [] (All-nil (λ l. IsFalse h.trail l × (0 < level_at h.trail l))) begins in
    let empty : resolvent_of h.trail s1 ≡ [] = ended-lower h start end s0 s1 e ∙ none-lower h s1.lower level e.unresolved.lower_inner in
    let chain : ChainOk (held_clause h.arena) [] id end = record {
      start = b.conflict;
      start_is = b.held;
      chain = subst (λ (c : Clause). IsChain (held_clause h.arena) b.conflict end c) empty whole;
    } in
    record {
      normal = subst IsNormal (sym lits) empty-normal;
      chain =
          subst (λ (c : Clause). ChainOk (held_clause h.arena) c l.first.0 (chain_of l.rest)) (sym lits)
          (subst (λ (n : ℕ). ChainOk (held_clause h.arena) [] n (chain_of l.rest)) (sym named)
          (subst (λ (rest : List ChainStep). ChainOk (held_clause h.arena) [] id rest) (sym steps) chain));
    }
