-- A clause is let go.
use Rattle.std.proofs.Common.{◌≡◌, ◌≢◌, ◌⊎◌, inl, inr, ℕ, ◌<◌, Bool, cond, ne_eqb, List, length, get_or, All, AllPairs, Some, None, refl, sym, ap, subst, ◌∙◌, arith}
use Rattle.std.specs.Option.{option_map}
use Rattle.std.proofs.lemmas.List.{get_or_default}
use Rattle.craig_spec.specs.Literal.{Literal, Clause}
use Rattle.craig_spec.proofs.LiteralLemmas.{same_or_not}
use Rattle.craig_base.specs.declared.clause_id.ClauseId.{ClauseId}
use Rattle.craig_base.specs.Arena.{ArenaView, FlaggedClause, IsArena, IsLive, ChangesOnly, clause_at, literals_at}
use Rattle.craig_base.proofs.FoundLemmas.{literals_of-changed}
use Rattle.craig_base.proofs.LookUpLemmas.{literals_at-found}
use Rattle.craig_watch.specs.declared.beside.Beside.{Beside}
use Rattle.craig_watch.specs.declared.watched.Watched.{Watched}
use Rattle.craig_watch.specs.Trail.{Trail}
use Rattle.craig_watch.specs.Held.{held_clause}
use Rattle.craig_watch.specs.Watches.{WatchListView, IsWatch, Watches, AreListed, AreSettled, TakesWatch, IsBesideOf, list_of}
use Rattle.craig_watch.specs.WatchedState.{IsSound, shown}
use Rattle.craig_watch.proofs.HeldLemmas.{IsConsistent-without}
use Rattle.craig_watch.proofs.ListedLemmas.{IsRightList, right-list, listed-from, right-same, right-taken}
use Rattle.craig_watch.proofs.LookLemmas.{watch-cases}
use Rattle.craig_watch.proofs.SwapLemmas.{differ-at}
use Rattle.craig_watch.proofs.StateLemmas.{live-literals_at}

module _ (a b : ArenaView) (id : ℕ) (only : ChangesOnly a b id None) where
  still-held : (k : ℕ) (c : Clause) → held_clause b k ≡ Some c → (k ≢ id) × (held_clause a k ≡ Some c)
  still-held k c is =
      elim (literals_of-changed a b id None only k c is) [
        | inl this ↦ absurd (let no : None ≡ Some c = this.1 in cc)
        | inr other ↦ other
      ]

  kept-held : (k : ℕ) (c : Clause) → k ≢ id → held_clause a k ≡ Some c → held_clause b k ≡ Some c
  kept-held k c ne is = ap (option_map (λ (f : FlaggedClause). f.literals)) (only k ∙ ap (λ (t : Bool). cond t None (clause_at a k)) (ne_eqb k id ne)) ∙ is

  still-watches : (k : ℕ) (l : Literal) → Watches b k l → Watches a k l
  still-watches k l w = record { clause = w.clause; held = (still-held k w.clause w.held).1; watch = w.watch }

  gone-watches : (l : Literal) → Watches b id l → ⊥
  gone-watches l w = (still-held id w.clause w.held).0 refl

  kept-watches : (k : ℕ) (l : Literal) → k ≢ id → Watches a k l → Watches b k l
  kept-watches k l ne w = record { clause = w.clause; held = kept-held k w.clause ne w.held; watch = w.watch }

  still-beside : (l : Literal) (k : ClauseId) (e : Beside) → IsBesideOf a l k e → IsBesideOf b l k e
  still-beside l k e h c is = h c (still-held k.0 c is).1

  pub AreSettled-gone : (t : Trail) (looked walked : ℕ) → b.given ≡ a.given → AreSettled a t looked walked → AreSettled b t looked walked
  AreSettled-gone t looked walked given h = record {
    given = let low = h.given in omega arith;
    within = h.within;
    present = h.present;
    walked_pending_or_waiting = λ k c l held. h.walked_pending_or_waiting k c l (still-held k c held).1;
    short = λ k c held. h.short k c (still-held k c held).1;
  }

  -- a clause that nothing watches
  pub AreListed-short : (vars : ℕ) (lists : List WatchListView) → AreListed a vars lists → ((l : Literal) → Watches a id l → ⊥) → AreListed b vars lists
  AreListed-short vars lists h none =
      listed-from b vars lists h.sized (λ l. right-same a b l (list_of lists l) (right-list a vars lists l h) (λ k w. kept-watches k l (λ is. none l (subst (λ (n : ℕ). Watches a n l) is w)) w) (λ k. still-watches k l) (λ k e has. still-beside l k e))

  -- a clause that two literals watch
  pub AreListed-gone : (vars : ℕ) (lists mid new : List WatchListView) (this : ClauseId) (first second : Literal) (i j : ℕ) → this.0 ≡ id → AreListed a vars lists → first ≢ second → ((l : Literal) → Watches a id l → (l ≡ first) ⊎ (l ≡ second)) → TakesWatch lists mid first i → TakesWatch mid new second j → i < length (list_of lists first).ids → j < length (list_of mid second).ids → ((d : ClauseId) → get_or (list_of lists first).ids i d ≡ this) → ((d : ClauseId) → get_or (list_of mid second).ids j d ≡ this) → AreListed b vars new
  AreListed-gone vars lists mid new this first second i j same_id h differ watches one two low_i low_j at_i at_j =
      let sized = h.sized in
      let long = one.sized in
      let long_too = two.sized in
      let before : list_of mid second ≡ list_of lists second = one.others second (λ e. differ (sym e)) in
      let after : list_of new first ≡ list_of mid first = two.others first differ in
      let gone : (l : Literal) → Watches b this.0 l → ⊥ = λ l w. gone-watches l (subst (λ (n : ℕ). Watches b n l) same_id w) in
      let kept : (l : Literal) (k : ℕ) → k ≢ this.0 → Watches a k l → Watches b k l = λ l k ne. kept-watches k l (λ e. ne (e ∙ sym same_id)) in
      listed-from b vars new (omega arith) (λ l. elim (same_or_not l first) [
        | inl same ↦ subst (λ (m : Literal). IsRightList b m (list_of new m)) (sym same)
            (subst (IsRightList b first) (sym after)
            (right-taken a b first (list_of lists first) (list_of mid first) this i (right-list a vars lists first h) one.ids one.beside low_i at_i (gone first) (kept first) (λ k. still-watches k first) (λ k e has. still-beside first k e)))
        | inr not_first ↦ elim (same_or_not l second) [
          | inl same ↦ subst (λ (m : Literal). IsRightList b m (list_of new m)) (sym same)
              (right-taken a b second (list_of mid second) (list_of new second) this j (subst (IsRightList a second) (sym before) (right-list a vars lists second h)) two.ids two.beside low_j at_j (gone second) (kept second) (λ k. still-watches k second) (λ k e has. still-beside second k e))
          | inr not_second ↦
              let is : list_of new l ≡ list_of lists l = two.others l not_second ∙ one.others l not_first in
              subst (IsRightList b l) (sym is)
              (right-same a b l (list_of lists l) (right-list a vars lists l h) (λ k w. kept-watches k l (λ e. elim (watches l (subst (λ (n : ℕ). Watches a n l) e w)) [ inl f ↦ not_first f | inr g ↦ not_second g ]) w) (λ k. still-watches k l) (λ k e has. still-beside l k e))
        ]
      ])

-- all is right after a clause went
pub gone-short : (s : Watched) (b : ArenaView) (id : ClauseId) (lits : Clause) → IsSound s → IsArena b → b.given ≡ s.arena.given → ChangesOnly s.arena b id.0 None → All (λ e. e.reason ≢ Some id) s.assigned.trail → lits ≡ literals_at s.arena id.0 → length lits < 2 → IsSound (record s { arena = b })
gone-short s b id lits ok arena given only free same short = record {
  consistent = IsConsistent-without (shown s) b id ok.consistent arena only free;
  watched = record {
    listed = AreListed-short s.arena b id.0 only s.assigned.vars s.lists ok.watched.listed (λ l w.
        let one : literals_at s.arena id.0 ≡ w.clause = literals_at-found s.arena id.0 w.clause w.held in
        let long = ap length (same ∙ one) in
        let two = w.watch.long in
        omega arith);
    settled = AreSettled-gone s.arena b id.0 only s.assigned.trail s.looked s.walked given ok.watched.settled;
  };
}

pub gone-long : (s : Watched) (b : ArenaView) (mid new : List WatchListView) (id : ClauseId) (lits : Clause) (first second : Literal) (i j : ℕ) → IsSound s → IsLive s.arena id.0 → IsArena b → b.given ≡ s.arena.given → ChangesOnly s.arena b id.0 None → All (λ e. e.reason ≢ Some id) s.assigned.trail → lits ≡ literals_at s.arena id.0 → 1 < length lits → first ≡ get_or lits 0 first → second ≡ get_or lits 1 second → TakesWatch s.lists mid first i → TakesWatch mid new second j → i < length (list_of s.lists first).ids → j < length (list_of mid second).ids → get_or (list_of s.lists first).ids i id ≡ id → get_or (list_of mid second).ids j id ≡ id → IsSound (record s { arena = b; lists = new })
gone-long s b mid new id lits first second i j ok live arena given only free same long at_first at_second one two low_i low_j at_i at_j =
    let c : Clause = literals_at s.arena id.0 in
    let held = live-literals_at s.arena id.0 live in
    let here : get_or c 0 first ≡ first = ap (λ (ys : Clause). get_or ys 0 first) (sym same) ∙ sym at_first in
    let there : get_or c 1 second ≡ second = ap (λ (ys : Clause). get_or ys 1 second) (sym same) ∙ sym at_second in
    let long_too : length lits ≡ length c = ap length same in
    let apart = (ok.consistent.clauses id.0 c held).0.distinct in
    let differ : first ≢ second = λ e. differ-at c 0 1 first apart (omega arith) (omega arith) (omega arith) (here ∙ e ∙ sym (get_or_default c 1 first second (omega arith) ∙ there)) in
    record {
      consistent = IsConsistent-without (shown s) b id ok.consistent arena only free;
      watched = record {
        listed = AreListed-gone s.arena b id.0 only s.assigned.vars s.lists mid new id first second i j refl ok.watched.listed differ (λ l w.
            let is : c ≡ w.clause = literals_at-found s.arena id.0 w.clause w.held in
            elim (watch-cases c first l (subst (λ (x : Clause). IsWatch x l) (sym is) w.watch) here) [ inl f ↦ inl f | inr g ↦ inr (sym g ∙ get_or_default c 1 l second (omega arith) ∙ there) ])
            one two low_i low_j (λ d. get_or_default (list_of s.lists first).ids i d id low_i ∙ at_i) (λ d. get_or_default (list_of mid second).ids j d id low_j ∙ at_j);
        settled = AreSettled-gone s.arena b id.0 only s.assigned.trail s.looked s.walked given ok.watched.settled;
      };
    }

-- the first two literals of a clause differ
pub first-differs : (s : Watched) (id : ClauseId) (lits : Clause) (first second : Literal) → IsSound s → IsLive s.arena id.0 → lits ≡ literals_at s.arena id.0 → 1 < length lits → first ≡ get_or lits 0 first → second ≡ get_or lits 1 second → first ≢ second
first-differs s id lits first second ok live same long at_first at_second e =
    let c : Clause = literals_at s.arena id.0 in
    let apart : AllPairs (λ x y. x ≢ y) lits = subst (AllPairs (λ (x y : Literal). x ≢ y)) (sym same) (ok.consistent.clauses id.0 c (live-literals_at s.arena id.0 live)).0.distinct in
    differ-at lits 0 1 first apart (omega arith) long (omega arith) (sym at_first ∙ e ∙ at_second ∙ get_or_default lits 1 second first long)
