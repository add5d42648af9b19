-- A learnt clause may be held after going back.
use Rattle.std.proofs.Common.{◌≡◌, ◌⊎◌, inl, inr, ℕ, ◌<◌, ◌≤◌, List, [], ◌∷◌, length, get_or, map, All, Contains, Some, sym, subst, ◌∙◌, arith}
use Rattle.std.proofs.lemmas.List.{get_or_default, get_or-map, length-map}
use Rattle.std.proofs.lemmas.List.Elements.{All-cons, All-contains, All-map}
use Rattle.craig_spec.specs.Literal.{Literal, Clause, negation}
use Rattle.craig_spec.specs.Chain.{ChainStep, IsChain}
use Rattle.craig_proof.specs.declared.step.Step.{Step}
use Rattle.craig_proof.specs.Tracer.{chain_of}
use Rattle.craig_watch.specs.declared.trail_entry.TrailEntry.{TrailEntry}
use Rattle.craig_watch.specs.Trail.{Trail, IsFalse, entry_of, level_at, part_up_to}
use Rattle.craig_watch.specs.Held.{HeldView, IsConsistent, MayBeHeld, held_clause}
use Rattle.craig_analyze.specs.declared.learnt.Learnt.{Learnt}
use Rattle.craig_analyze.specs.Learnt.{IsAssertingClause, IsDerived}

-- what is false has an entry
abbrev pub FalseHaveEntries : Type 0
FalseHaveEntries = (t : Trail) (l : Literal) → IsFalse t l → (e : TrailEntry) × (entry_of t l.var ≡ Some e) × (e.literal ≡ negation l)

-- an entry stands at a place
abbrev pub EntriesHavePlaces : Type 0
EntriesHavePlaces = (t : Trail) (v : ℕ) (e : TrailEntry) → entry_of t v ≡ Some e → (k : ℕ) × (k < length t) × (e.literal.var ≡ v) × ((d : TrailEntry) → get_or t k d ≡ e)

-- a false clause may be held after going back to the greatest level of its literals but the first
abbrev pub AssertingMayBeHeld : Type 0
AssertingMayBeHeld = (h : HeldView) (first : Literal) (rest : Clause) (back : ℕ) → IsConsistent h → All (IsFalse h.trail) (first ∷ rest) → back < level_at h.trail first → All (λ m. level_at h.trail m ≤ back) rest → (back ≡ 0) ⊎ ((last : Literal) × Contains rest last × (level_at h.trail last ≡ back)) → MayBeHeld (record h { trail = part_up_to back h.trail; level = back }) (first ∷ rest)

-- the literals of a false clause are of known variables
pub known-falsified : FalseHaveEntries → EntriesHavePlaces → (h : HeldView) (c : Clause) → IsConsistent h → All (IsFalse h.trail) c → All (λ l. l.var < h.vars) c
known-falsified entries places h c ok falsified k d within =
    let l : Literal = get_or c k d in
    let e = entries h.trail l (falsified k d within) in
    let p = places h.trail l.var e.0 e.1 in
    let low : e.0.literal.var < h.vars = subst (λ (f : TrailEntry). f.literal.var < h.vars) (p.3 e.0) (ok.known p.0 e.0 p.1) in
    subst (λ (v : ℕ). v < h.vars) p.2 low

All-unmap : (f : Literal → ℕ) (P : ℕ → Type 0) (c : Clause) → All P (map f c) → All (λ l. P (f l)) c
All-unmap f P c all k d within =
    let inside : k < length (map f c) = rw length-map within in
    subst P (get_or-map f c k d (f d) within) (all k (f d) inside)

Contains-unmap : (f : Literal → ℕ) (c : Clause) (n : ℕ) (d : Literal) → Contains (map f c) n → (l : Literal) × Contains c l × (f l ≡ n)
Contains-unmap f c n d (k, within, at) =
    let inside : k < length c = subst (λ (m : ℕ). k < m) (length-map c f) within in
    (get_or c k d, (k, inside, get_or_default c k (get_or c k d) d inside), sym (get_or-map f c k d n inside) ∙ at)

-- a search goes back to a lower level
pub back-below : (h : HeldView) (l : Learnt) → 0 < h.level → IsAssertingClause h l → l.back < h.level
back-below h l above asserting = elim asserting.back.1 [
  | inl here ↦
      let lower : All (λ (m : Literal). level_at h.trail m < h.level) asserting.rest = λ k d within. (asserting.rest_levels k d within).1 in
      All-contains (λ (n : ℕ). n < h.level) (map (level_at h.trail) asserting.rest) l.back (All-map (λ (n : ℕ). n < h.level) (level_at h.trail) asserting.rest lower) here
  | inr none ↦ let low : l.back ≡ 0 = none.1 in omega arith
]

-- to where the clause forces its first literal
pub fits-back : AssertingMayBeHeld → (h : HeldView) (l : Learnt) → IsConsistent h → 0 < h.level → IsAssertingClause h l → MayBeHeld (record h { trail = part_up_to l.back h.trail; level = l.back }) l.lits
fits-back may h l ok above asserting =
    let lits = asserting.parts in
    let falsified = subst (All (IsFalse h.trail)) lits asserting.falsified in
    let low : l.back < h.level = back-below h l above asserting in
    let first : l.back < level_at h.trail asserting.first = subst (λ (n : ℕ). l.back < n) (sym asserting.first_level) low in
    let rest = All-unmap (level_at h.trail) (λ (n : ℕ). n ≤ l.back) asserting.rest asserting.back.0 in
    let greatest : (l.back ≡ 0) ⊎ ((last : Literal) × Contains asserting.rest last × (level_at h.trail last ≡ l.back)) = elim asserting.back.1 [
      | inl here ↦ inr (Contains-unmap (level_at h.trail) asserting.rest l.back asserting.first here)
      | inr none ↦ inl none.1
    ] in
    subst (MayBeHeld (record h { trail = part_up_to l.back h.trail; level = l.back })) (sym lits) (may h asserting.first asserting.rest l.back ok falsified first rest greatest)

-- the pivots of a chain over held clauses are of known variables
chain-pivots : (h : HeldView) (start : Clause) (rest : List ChainStep) (last : Clause) → IsConsistent h → IsChain (held_clause h.arena) start rest last → All (λ s. s.pivot.var < h.vars) rest
chain-pivots h start [] last ok chain = λ k d within. absurd (omega arith)
chain-pivots h start (s ∷ rest) last ok (d, resolvent, held, resolved, more) =
    All-cons (λ (q : ChainStep). q.pivot.var < h.vars) s rest (All-contains (λ (l : Literal). l.var < h.vars) d (negation s.pivot) (ok.clauses s.antecedent d held).1 resolved.second_has) (chain-pivots h resolvent rest last ok more)

pub known-pivots : (h : HeldView) (l : Learnt) → IsConsistent h → IsDerived h.arena l → All (λ s. s.pivot.var < h.vars) l.rest
known-pivots h l ok derived = λ k d within.
    let told : ChainStep = record { pivot = d.pivot; antecedent = d.antecedent.0 } in
    let inside : k < length (chain_of l.rest) = rw length-map within in
    subst (λ (s : ChainStep). s.pivot.var < h.vars) (get_or-map (λ (s : Step). record { pivot = s.pivot; antecedent = s.antecedent.0 }) l.rest k d told within) (chain-pivots h derived.chain.start (chain_of l.rest) l.lits ok derived.chain.chain k told inside)
