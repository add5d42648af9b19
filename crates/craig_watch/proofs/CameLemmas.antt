-- A clause is held.
use Rattle.std.proofs.Common.{◌≡◌, ◌≢◌, ◌⊎◌, inl, inr, ℕ, ◌+◌, ◌<◌, ◌≤◌, Bool, true, false, cond, eqb, ne_eqb, eqb-true, eq-eqb, List, [], ◌∷◌, length, get_or, All, Contains, Some, Result, Ok, Err, refl, sym, ap, subst, ◌∙◌, arith}
use Rattle.std.specs.Result.{IfOk, OnErr}
use Rattle.std.specs.Option.{option_map}
use Rattle.std.proofs.lemmas.Bool.Decides.{leb_tells}
use Rattle.std.proofs.Common.{◌++◌, ◌-◌, take}
use Rattle.std.proofs.lemmas.List.{get_or_default, length_push, take-append-le, take_all}
use Rattle.craig_spec.specs.Literal.{Literal, Clause}
use Rattle.craig_spec.proofs.LiteralLemmas.{same_or_not}
use Rattle.craig_base.specs.declared.clause_id.ClauseId.{ClauseId}
use Rattle.craig_base.specs.Arena.{ArenaView, FlaggedClause, IsArena, ChangesOnly, clause_at, with_clause}
use Rattle.craig_base.specs.Clauses.{IsNormal}
use Rattle.craig_base.proofs.FoundLemmas.{literals_of-changed}
use Rattle.craig_base.proofs.LookUpLemmas.{held-below}
use Rattle.craig_watch.specs.declared.beside.Beside.{Beside}
use Rattle.craig_watch.specs.declared.watched.Watched.{Watched}
use Rattle.craig_watch.specs.Trail.{Trail}
use Rattle.craig_watch.specs.Held.{held_clause, MayBeHeld}
use Rattle.craig_watch.specs.Watches.{WatchListView, IsWatch, Watches, AreListed, AreSettled, ChangesList, IsBeside, IsBesideOf, IsPairOf, WatchesBoth, beside_for, list_of, with_watch}
use Rattle.craig_watch.specs.WatchedState.{IsSound, shown}
use Rattle.craig_watch.proofs.HeldLemmas.{IsConsistent-with}
use Rattle.craig_watch.proofs.ListedLemmas.{IsRightList, right-list, listed-from, right-same, right-pushed}
use Rattle.craig_watch.proofs.LookLemmas.{watch-cases}
use Rattle.craig_watch.proofs.SwapLemmas.{differ-at}

module _ (a b : ArenaView) (id : ℕ) (f : FlaggedClause) (arena : IsArena a) (is_given : id ≡ a.given) (only : ChangesOnly a b id (Some f)) where
  now-held : (k : ℕ) (d : Clause) → held_clause b k ≡ Some d → ((k ≡ id) × (f.literals ≡ d)) ⊎ ((k ≢ id) × (held_clause a k ≡ Some d))
  now-held k d is =
      elim (literals_of-changed a b id (Some f) only k d is) [
        | inl this ↦ inl (this.0, let both : Some f.literals ≡ Some d = this.1 in let same : f.literals ≡ d = cc in same)
        | inr other ↦ inr other
      ]

  fresh : (k : ℕ) (c : Clause) → held_clause a k ≡ Some c → k ≢ id
  fresh k c is e = (let low : k < a.given = held-below a k c arena is in let p : k ≡ id = e in omega arith)

  kept-held : (k : ℕ) (c : Clause) → held_clause a k ≡ Some c → held_clause b k ≡ Some c
  kept-held k c is = ap (option_map (λ (g : FlaggedClause). g.literals)) (only k ∙ ap (λ (t : Bool). cond t (Some f) (clause_at a k)) (ne_eqb k id (fresh k c is))) ∙ is

  this-held : held_clause b id ≡ Some f.literals
  this-held = ap (option_map (λ (g : FlaggedClause). g.literals)) (only id ∙ ap (λ (t : Bool). cond t (Some f) (clause_at a id)) (eq-eqb id id refl))

  kept-watches : (k : ℕ) (l : Literal) → Watches a k l → Watches b k l
  kept-watches k l w = record { clause = w.clause; held = kept-held k w.clause w.held; watch = w.watch }

  now-watches : (k : ℕ) (l : Literal) → Watches b k l → ((k ≡ id) × IsWatch f.literals l) ⊎ Watches a k l
  now-watches k l w =
      elim (now-held k w.clause w.held) [
        | inl this ↦ inl (this.0, subst (λ (x : Clause). IsWatch x l) (sym this.1) w.watch)
        | inr other ↦ inr (record { clause = w.clause; held = other.1; watch = w.watch })
      ]

  not-watched : (l : Literal) → Watches a id l → ⊥
  not-watched l w = fresh id w.clause w.held refl

  -- of a clause in the lists
  kept-beside : (l : Literal) (k : ClauseId) (e : Beside) → Watches a k.0 l → IsBesideOf a l k e → IsBesideOf b l k e
  kept-beside l k e w h c is =
      elim (now-held k.0 c is) [
        | inl this ↦ absurd (fresh k.0 w.clause w.held this.0)
        | inr other ↦ h c other.1
      ]

  pub AreSettled-came : (t : Trail) (looked walked : ℕ) → a.given ≤ b.given → AreSettled a t looked walked → AreSettled b t looked walked
  AreSettled-came t looked walked le h = record {
    given = let low = h.given in omega arith;
    within = h.within;
    present = h.present;
    walked_pending_or_waiting = λ k c l held w falsified. elim (now-held k c held) [
      | inl this ↦ inr (inr (let low = h.given in let same = this.0 in omega arith))
      | inr other ↦ h.walked_pending_or_waiting k c l other.1 w falsified
    ];
    short = λ k c held few. elim (now-held k c held) [
      | inl this ↦ inr (let low = h.given in let same = this.0 in omega arith)
      | inr other ↦ h.short k c other.1 few
    ];
  }

  pub AreListed-came_short : (vars : ℕ) (lists : List WatchListView) → AreListed a vars lists → length f.literals < 2 → AreListed b vars lists
  AreListed-came_short vars lists h short =
      listed-from b vars lists h.sized (λ l. right-same a b l (list_of lists l) (right-list a vars lists l h) (λ k. kept-watches k l)
      (λ k w. elim (now-watches k l w) [ inl this ↦ absurd (let long = this.1.long in omega arith) | inr old ↦ old ])
      (λ k e has. kept-beside l k e (((h.watchers l).exact k).0 has)))

  pub AreListed-came : (vars : ℕ) (lists new : List WatchListView) (this : ClauseId) (first second : Literal) (pair : Bool) → this.0 ≡ id → AreListed a vars lists → length new ≡ length lists → first ≢ second → IsWatch f.literals first → IsWatch f.literals second → ((l : Literal) → IsWatch f.literals l → (l ≡ first) ⊎ (l ≡ second)) → IsBeside f.literals first (beside_for pair second) → IsBeside f.literals second (beside_for pair first) → WatchesBoth lists new this first second pair → AreListed b vars new
  AreListed-came vars lists new this first second pair same_id h long differ watch_one watch_two watches beside_one beside_two both =
      let sized = h.sized in
      let watched : (l : Literal) → IsWatch f.literals l → Watches b this.0 l = λ l w. record { clause = f.literals; held = ap (held_clause b) same_id ∙ this-held; watch = w } in
      let none : (l : Literal) → Watches a this.0 l → ⊥ = λ l w. not-watched l (subst (λ (n : ℕ). Watches a n l) same_id w) in
      let back : (l : Literal) (k : ℕ) → Watches b k l → (k ≡ this.0) ⊎ Watches a k l = λ l k w. elim (now-watches k l w) [ inl new ↦ inl (new.0 ∙ sym same_id) | inr old ↦ inr old ] in
      let right : (l : Literal) (e : Beside) → IsBeside f.literals l e → IsBesideOf b l this e = λ l e r d is.
      (let same : Some f.literals ≡ Some d = sym (ap (held_clause b) same_id ∙ this-held) ∙ is in let one : f.literals ≡ d = cc in subst (λ (x : Clause). IsBeside x l e) one r) in
      let step : (l : Literal) (k : ClauseId) (e : Beside) → Contains (list_of lists l).ids k → IsBesideOf a l k e → IsBesideOf b l k e = λ l k e has. kept-beside l k e (((h.watchers l).exact k).0 has) in
      listed-from b vars new (omega arith) (λ l. elim (same_or_not l first) [
        | inl same ↦ subst (λ (m : Literal). IsRightList b m (list_of new m)) (sym same)
            (subst (IsRightList b first) (sym both.one) (right-pushed a b first (list_of lists first) this (beside_for pair second) (right-list a vars lists first h) (none first) (watched first watch_one) (λ k. kept-watches k first) (back first) (step first) (right first (beside_for pair second) beside_one)))
        | inr not_first ↦ elim (same_or_not l second) [
          | inl same ↦ subst (λ (m : Literal). IsRightList b m (list_of new m)) (sym same)
              (subst (IsRightList b second) (sym both.two) (right-pushed a b second (list_of lists second) this (beside_for pair first) (right-list a vars lists second h) (none second) (watched second watch_two) (λ k. kept-watches k second) (back second) (step second) (right second (beside_for pair first) beside_two)))
          | inr not_second ↦
              subst (IsRightList b l) (sym (both.others l not_first not_second))
              (right-same a b l (list_of lists l) (right-list a vars lists l h) (λ k. kept-watches k l)
              (λ k w. elim (now-watches k l w) [ inl new ↦ elim (watches l new.1) [ inl e ↦ absurd (not_first e) | inr e ↦ absurd (not_second e) ] | inr old ↦ old ])
              (λ k e has. step l k e has))
        ]
      ])

-- what stands beside the entries of the new clause
pair-of : (c : Clause) (first second : Literal) → length c ≡ 2 → get_or c 0 first ≡ first → get_or c 1 second ≡ second → IsPairOf c first second
pair-of c first second long here there = record {
  one = (0, omega arith, here);
  other = (1, omega arith, there);
  only = λ x (k, within, at). elim (leb_tells k 0) [
    | inl none ↦ let p : k ≤ 0 = none.1 in let is : k ≡ 0 = omega arith in inl (sym at ∙ ap (λ (j : ℕ). get_or c j x) is ∙ get_or_default c 0 x first (omega arith) ∙ here)
    | inr some ↦ let p : 0 < k = some.1 in let is : k ≡ 1 = omega arith in inr (sym at ∙ ap (λ (j : ℕ). get_or c j x) is ∙ get_or_default c 1 x second (omega arith) ∙ there)
  ];
}

pair-back : (c : Clause) (l m : Literal) → IsPairOf c l m → IsPairOf c m l
pair-back c l m p = record { one = p.other; other = p.one; only = λ x has. elim (p.only x has) [ inl a ↦ inr a | inr b ↦ inl b ] }

beside-one : (b : Bool) (c : Clause) (first second : Literal) → eqb (length c) 2 ≡ b → 1 < length c → get_or c 0 first ≡ first → get_or c 1 second ≡ second → IsBeside c first (beside_for b second)
beside-one true c first second is long here there = pair-of c first second (eqb-true (length c) 2 is) here there
beside-one false c first second is long here there = (1, long, there)

beside-two : (b : Bool) (c : Clause) (first second : Literal) → eqb (length c) 2 ≡ b → 1 < length c → get_or c 0 first ≡ first → get_or c 1 second ≡ second → IsBeside c second (beside_for b first)
beside-two true c first second is long here there = pair-back c first second (pair-of c first second (eqb-true (length c) 2 is) here there)
beside-two false c first second is long here there = (0, omega arith, here)

-- all is right after a clause came
pub came-short : {E : Type 0} (s : Watched) (b : ArenaView) (f : FlaggedClause) (r : Result ClauseId E) → IsSound s → IsArena b → IfOk r (λ id. id.0 ≡ s.arena.given) → IfOk r (λ id. ChangesOnly s.arena b id.0 (Some f)) → IfOk r (λ id. s.arena.given ≤ b.given) → OnErr r (b ≡ s.arena) → IsNormal f.literals → All (λ l. l.var < s.assigned.vars) f.literals → MayBeHeld (shown s) f.literals → length f.literals < 2 → IsSound (record s { arena = b })
came-short {E} s b f (Ok id) ok arena next only le unchanged normal known may short = record {
  consistent = IsConsistent-with (shown s) b f false ok.consistent arena (subst (λ (n : ℕ). ChangesOnly s.arena b n (Some f)) next only) normal known may;
  watched = record {
    listed = AreListed-came_short s.arena b id.0 f ok.consistent.arena next only s.assigned.vars s.lists ok.watched.listed short;
    settled = AreSettled-came s.arena b id.0 f ok.consistent.arena next only s.assigned.trail s.looked s.walked le ok.watched.settled;
  };
}
came-short {E} s b f (Err e) ok arena next only le unchanged normal known may short = subst (λ (a : ArenaView). IsSound (record { arena = a; assigned = s.assigned; lists = s.lists; looked = s.looked; walked = s.walked })) (sym unchanged) ok

pub came-long : (s : Watched) (b : ArenaView) (new : List WatchListView) (id given : ClauseId) (f : FlaggedClause) (lits : Clause) (first second : Literal) → IsSound s → IsArena b → s.arena.given ≤ b.given → id.0 ≡ s.arena.given → given.0 ≡ s.arena.given → ChangesOnly s.arena b given.0 (Some f) → lits ≡ f.literals → IsNormal f.literals → All (λ l. l.var < s.assigned.vars) f.literals → MayBeHeld (shown s) f.literals → 1 < length f.literals → first ≡ get_or lits 0 first → second ≡ get_or lits 1 second → length new ≡ length s.lists → WatchesBoth s.lists new id first second (eqb (length lits) 2) → IsSound (record s { arena = b; lists = new })
came-long s b new id given f lits first second ok arena le id_is given_is only same normal known may long at_first at_second sized both =
    let c : Clause = f.literals in
    let here : get_or c 0 first ≡ first = ap (λ (ys : Clause). get_or ys 0 first) (sym same) ∙ sym at_first in
    let there : get_or c 1 second ≡ second = ap (λ (ys : Clause). get_or ys 1 second) (sym same) ∙ sym at_second in
    let differ : first ≢ second = λ e. differ-at c 0 1 first normal.distinct (omega arith) long (omega arith) (here ∙ e ∙ sym (get_or_default c 1 first second long ∙ there)) in
    let pair : eqb (length c) 2 ≡ eqb (length lits) 2 = ap (λ (ys : Clause). eqb (length ys) 2) (sym same) in
    record {
      consistent = IsConsistent-with (shown s) b f false ok.consistent arena (subst (λ (n : ℕ). ChangesOnly s.arena b n (Some f)) given_is only) normal known may;
      watched = record {
        listed = AreListed-came s.arena b given.0 f ok.consistent.arena given_is only s.assigned.vars s.lists new id first second (eqb (length lits) 2) (id_is ∙ sym given_is) ok.watched.listed sized differ
            (record { long = long; place = 0; first = omega arith; at = here }) (record { long = long; place = 1; first = omega arith; at = there })
            (λ l w. elim (watch-cases c first l w here) [ inl a ↦ inl a | inr g ↦ inr (sym g ∙ get_or_default c 1 l second long ∙ there) ])
            (beside-one (eqb (length lits) 2) c first second pair long here there) (beside-two (eqb (length lits) 2) c first second pair long here there) both;
        settled = AreSettled-came s.arena b given.0 f ok.consistent.arena given_is only s.assigned.trail s.looked s.walked le ok.watched.settled;
      };
    }

take-front : {X : Type 0} (xs : List X) (x : X) → take (length (xs ++ x ∷ []) - 1) (xs ++ x ∷ []) ≡ xs
take-front xs x =
    let long : length (xs ++ x ∷ []) ≡ length xs + 1 = length_push xs x in
    let one : length (xs ++ x ∷ []) - 1 ≡ length xs = omega arith in
    ap (λ (n : ℕ). take n (xs ++ x ∷ [])) one ∙ take-append-le (length xs) xs (x ∷ []) (omega arith) ∙ take_all (length xs) xs (omega arith)

-- a list without its last entry
abbrev pub front : WatchListView → WatchListView
front w = record { ids = take (length w.ids - 1) w.ids; beside = take (length w.beside - 1) w.beside }

front-with : (w : WatchListView) (id : ClauseId) (e : Beside) → front (with_watch w id e) ≡ w
front-with w id e = λ i. record { ids = take-front w.ids id i; beside = take-front w.beside e i }

-- two entries that are taken back
pub popped-both : (old w p q : List WatchListView) (id : ClauseId) (first second : Literal) (pair : Bool) → first ≢ second → WatchesBoth old w id first second pair → ChangesList w p second (front (list_of w second)) → ChangesList p q first (front (list_of p first)) → (l : Literal) → list_of q l ≡ list_of old l
popped-both old w p q id first second pair differ both one two l =
    elim (same_or_not l first) [
      | inl same ↦ subst (λ (m : Literal). list_of q m ≡ list_of old m) (sym same) (two.here ∙ ap front (one.others first differ ∙ both.one) ∙ front-with (list_of old first) id (beside_for pair second))
      | inr not_first ↦ elim (same_or_not l second) [
        | inl same ↦ subst (λ (m : Literal). list_of q m ≡ list_of old m) (sym same) (two.others second (λ e. differ (sym e)) ∙ one.here ∙ ap front both.two ∙ front-with (list_of old second) id (beside_for pair first))
        | inr not_second ↦ two.others l not_first ∙ one.others l not_second ∙ both.others l not_first not_second
      ]
    ]

-- one id more was given
pub came-more : {E : Type 0} (a b : ArenaView) (f : FlaggedClause) (r : Result ClauseId E) → IfOk r (λ _. b ≡ with_clause a f) → IfOk r (λ _. a.given ≤ b.given)
came-more {E} a b f (Ok id) is = (let given = ap (λ (x : ArenaView). x.given) is in omega arith)
came-more {E} a b f (Err e) is = tt
