-- The clauses that a search has learnt, and how many there are at most.
use Rattle.std.proofs.Common.{◌≡◌, inl, inr, ℕ, ◌+◌, ◌-◌, ◌^◌, ◌<◌, ◌≤◌, List, length, get_or, map, All, AllPairs, Contains, Some, None, refl, sym, ap, subst, ◌∙◌, arith}
use Rattle.std.specs.List.{range_with_len}
use Rattle.std.specs.Option.{option_map}
use Rattle.std.proofs.lemmas.List.FromFn.{length-map-range_with_len, get_or-map-range_with_len}
use Rattle.std.proofs.lemmas.Bool.{cases_eq}
use Rattle.craig_spec.specs.Literal.{Literal, Clause}
use Rattle.craig_spec.specs.Chain.{SameLiterals}
use Rattle.craig_base.specs.Clauses.{IsTautology}
use Rattle.craig_base.specs.LawsOfClauses.{AreClausesOver, ClausesAreFew}
use Rattle.craig_base.specs.Arena.{ArenaView, FlaggedClause, IsArena, ChangesOnly, OnlyReorders, clause_at, literals_at, literals_of}
use Rattle.craig_base.specs.LemmaRule.{ContainsClause}
use Rattle.craig_watch.specs.Held.{HeldView, IsConsistent, held_clause}
use Rattle.craig_search.specs.Searching.{IsJournal, IsNew}
use Rattle.craig_base.proofs.LookUpLemmas.{added-held, added-here, added-kept, flagged, held-below, literals_at-found}
use Rattle.craig_base.proofs.ReorderLemmas.{GivesSame-before, GivesSame-reordered}

pub IsJournal-start : (a : ArenaView) → IsArena a → IsJournal a.given a
IsJournal-start a ok = record {
  stand = λ id high low. absurd (omega arith);
  new = λ id other c d high before is also contains. let low : id < a.given = held-below a id c ok is in omega arith;
}

pub IsJournal-reordered : (first : ℕ) (a b : ArenaView) → IsJournal first a → OnlyReorders a b → IsJournal first b
IsJournal-reordered first a b journal only = record {
  stand = λ id high low.
      let same : b.given ≡ a.given = only.given in
      let p = journal.stand id high (omega arith) in
      let q = GivesSame-reordered a b only id p.0 p.1 in
      (q.0, q.1);
  new = λ id other c d high before is also contains.
      let p = GivesSame-before a b only id c is in
      let q = GivesSame-before a b only other d also in
      journal.new id other p.0 q.0 high before p.1 q.1 (λ l h. (p.2 l).0 (contains l ((q.2 l).1 h)));
}

pub IsJournal-learnt : (first : ℕ) (a b : ArenaView) (id : ℕ) (f : FlaggedClause) → IsJournal first a → b.given ≡ a.given + 1 → id ≡ a.given → clause_at a id ≡ None → ChangesOnly a b id (Some f) → IsArena b → IsNew a f.literals → IsJournal first b
IsJournal-learnt first a b id f journal given next fresh only ok new = record {
  stand = λ k high low. elim (cases_eq k id) [
    | inl same ↦ (f.literals, ap (literals_of b) same ∙ ap (option_map (λ (g : FlaggedClause). g.literals)) (added-here a b id f fresh only))
    | inr other ↦
        let p = journal.stand k high (omega arith) in
        let g = flagged (clause_at a k) p.0 p.1 in
        (g.0.literals, ap (option_map (λ (h : FlaggedClause). h.literals)) (added-kept a b id f fresh only k g.0 g.1))
  ];
  new = λ k other c d high before is also contains.
      let low : k < b.given = held-below b k c ok is in
      elim (added-held a b id f fresh only other d also) [
        | inl last ↦ let same : other ≡ id = last.0 in omega arith
        | inr old ↦ elim (added-held a b id f fresh only k c is) [
          | inl last ↦ new other d old (subst (λ (e : Clause). ContainsClause e d) (sym last.1) contains)
          | inr was ↦ journal.new k other c d high before was old contains
        ]
      ];
}

-- the literals of the learnt clauses, first to last
learnt_clauses : ℕ → ArenaView → List Clause
learnt_clauses first a = map (literals_at a) (range_with_len first (a.given - first))

learnt-at : (first : ℕ) (a : ArenaView) → IsJournal first a → (k : ℕ) (d : Clause) → k < a.given - first → (c : Clause) × (held_clause a (first + k) ≡ Some c) × (get_or (learnt_clauses first a) k d ≡ c)
unfolding learnt_clauses
learnt-at first a journal k d within =
    let p = journal.stand (first + k) (omega arith) (omega arith) in
    (p.0, p.1, get_or-map-range_with_len (literals_at a) first (a.given - first) k (first + k) d within refl ∙ literals_at-found a (first + k) p.0 p.1)

length-learnt : (first : ℕ) (a : ArenaView) → length (learnt_clauses first a) ≡ a.given - first
unfolding learnt_clauses
length-learnt first a = length-map-range_with_len (literals_at a) first (a.given - first)

contained : (c d e f : Clause) → c ≡ e → d ≡ f → SameLiterals c d → ContainsClause f e
contained c d e f is also same l here = subst (λ (g : Clause). Contains g l) also ((same l).0 (subst (λ (g : Clause). Contains g l) (sym is) here))

pub journal-bounded : ClausesAreFew → (first : ℕ) (h : HeldView) → IsConsistent h → IsJournal first h.arena → h.arena.given - first ≤ 3 ^ h.vars
journal-bounded bound first h ok journal =
    let cs : List Clause = learnt_clauses first h.arena in
    let same : length cs ≡ h.arena.given - first = length-learnt first h.arena in
    let over : AreClausesOver h.vars cs = λ k d within.
    let p = learnt-at first h.arena journal k d (omega arith) in
    let is = ok.clauses (first + k) p.0 p.1 in
    subst (λ (c : Clause). ¬ IsTautology c × All (λ (l : Literal). l.var < h.vars) c) (sym p.2) (is.0.not_tautology, is.1) in
    let different : AllPairs (λ (c d : Clause). ¬ SameLiterals c d) cs = λ i j d before within both.
    let p = learnt-at first h.arena journal i d (omega arith) in
    let q = learnt-at first h.arena journal j d (omega arith) in
    journal.new (first + j) (first + i) q.0 p.0 (omega arith) (omega arith) q.1 p.1 (contained (get_or cs i d) (get_or cs j d) p.0 q.0 p.2 q.2 both) in
    let few : length cs ≤ 3 ^ h.vars = bound h.vars cs over different in
    omega arith
