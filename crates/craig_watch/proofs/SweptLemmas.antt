-- Many clauses are let go, and the lists are swept once.
use Rattle.std.proofs.Common.{◌≡◌, ◌≢◌, ◌⊎◌, inl, inr, ℕ, zero, suc, ◌+◌, ◌<◌, ◌≤◌, Bool, true, false, cond, eqb, List, [], ◌∷◌, ◌++◌, length, get_or, take, All, AllPairs, Option, Some, None, IsSome, refl, sym, ap, subst, ◌∙◌, arith, eqb-true, ne_eqb}
use Rattle.std.specs.Option.{option_map}
use Rattle.std.proofs.lemmas.Bool.{eqb-false}
use Rattle.std.proofs.lemmas.List.{get_or_default, get_or-take, take_more, length-take-le}
use Rattle.std.proofs.lemmas.List.Elements.{All-head, All-tail}
use Rattle.craig_spec.specs.Literal.{Literal, Clause}
use Rattle.craig_base.specs.declared.clause_id.ClauseId.{ClauseId}
use Rattle.craig_base.specs.Arena.{ArenaView, FlaggedClause, IsArena, IsLive, clause_at, literals_at, without}
use Rattle.craig_base.proofs.ArenaLemmas.{ChangesOnly-without}
use Rattle.craig_watch.specs.declared.watched.Watched.{Watched}
use Rattle.craig_watch.specs.Held.{held_clause}
use Rattle.craig_watch.specs.Watches.{WatchListView, IsBeside, IsSwept, IsTakenOut, Watches, list_of, without_all}
use Rattle.craig_watch.specs.WatchedState.{IsSound, shown}
use Rattle.craig_watch.proofs.HeldLemmas.{IsConsistent-fewer}
use Rattle.craig_watch.proofs.ListedLemmas.{IsRightList, right-list, listed-from, same-id}
use Rattle.craig_watch.proofs.StateLemmas.{live-literals_at}
use Rattle.craig_watch.proofs.TakenLemmas.{taken-from, Contains-left, distinct-taken}

-- before the sweep
pub swept-none : (a : ArenaView) (w : WatchListView) (n : ℕ) → length w.beside ≡ length w.ids → n ≡ length w.ids → IsSwept a n w w
swept-none a w n step all = record {
  in_step = step;
  stood = λ k within. record { place = k; within = within; ids = λ d. refl; beside = λ e. refl };
  distinct = λ h. h;
  live = λ k d low within. absurd (omega arith);
  kept = λ id has live. has;
}

-- an entry that stays
live-cases : (b : Bool) (a : ArenaView) (i k : ℕ) (w : WatchListView) (d : ClauseId) → eqb k i ≡ b → ((j : ℕ) (e : ClauseId) → i + 1 ≤ j → j < length w.ids → IsLive a (get_or w.ids j e).0) → IsLive a (get_or w.ids i d).0 → i ≤ k → k < length w.ids → IsLive a (get_or w.ids k d).0
live-cases true a i k w d is later here low within =
    let same : k ≡ i = eqb-true k i is in
    subst (λ (m : ℕ). IsLive a (get_or w.ids m d).0) (sym same) here
live-cases false a i k w d is later here low within =
    let other : k ≢ i = eqb-false k i is in
    later k d (omega (arith, other)) within

pub swept-kept : (a : ArenaView) (i : ℕ) (old w : WatchListView) (x : ClauseId) → IsSwept a (i + 1) old w → i < length w.ids → x ≡ get_or w.ids i x → IsLive a x.0 → IsSwept a i old w
swept-kept a i old w x h low at live = record {
  in_step = h.in_step;
  stood = h.stood;
  distinct = h.distinct;
  live = λ k d from within. live-cases (eqb k i) a i k w d refl h.live (subst (λ (y : ClauseId). IsLive a y.0) (at ∙ get_or_default w.ids i x d low) live) from within;
  kept = h.kept;
}

-- an entry that is taken out
same-place : (k i j m n p : ℕ) → p ≡ n → ((k ≢ i) × (j ≡ k)) ⊎ ((k ≡ i) × (j ≡ n)) → ((k ≢ i) × (m ≡ k)) ⊎ ((k ≡ i) × (m ≡ p)) → m ≡ j
same-place k i j m n p len (inl a) (inl b) = (let x = a.1 in let y = b.1 in omega arith)
same-place k i j m n p len (inl a) (inr b) = absurd (a.0 b.0)
same-place k i j m n p len (inr a) (inl b) = absurd (b.0 a.0)
same-place k i j m n p len (inr a) (inr b) = (let x = a.1 in let y = b.1 in omega arith)

later-place : (k i j n : ℕ) → i ≤ k → k < n → ((k ≢ i) × (j ≡ k)) ⊎ ((k ≡ i) × (j ≡ n)) → i + 1 ≤ j
later-place k i j n low within (inl a) = (let x = a.0 in let y = a.1 in omega (arith, x))
later-place k i j n low within (inr a) = (let x = a.0 in let y = a.1 in omega arith)

pub swept-taken : (a : ArenaView) (i : ℕ) (old w new : WatchListView) (x : ClauseId) → IsSwept a (i + 1) old w → i < length w.ids → x ≡ get_or w.ids i x → (IsLive a x.0 → ⊥) → IsTakenOut i w.ids new.ids → IsTakenOut i w.beside new.beside → IsSwept a i old new
swept-taken a i old w new x h low at gone ids beside =
    let one = ids.less in
    let two = beside.less in
    let step = h.in_step in
    let same_length : length new.beside ≡ length new.ids = omega arith in
    record {
      in_step = same_length;
      stood = λ k within.
          let f = taken-from i w.ids new.ids k ids low within in
          let g = taken-from i w.beside new.beside k beside (omega arith) (omega arith) in
          let same : g.0 ≡ f.0 = same-place k i f.0 g.0 (length new.ids) (length new.beside) same_length f.4 g.4 in
          let there = h.stood f.0 f.1 in
          record {
            place = there.place;
            within = there.within;
            ids = λ d. f.3 d ∙ there.ids d;
            beside = λ e. g.3 e ∙ ap (λ (m : ℕ). get_or w.beside m e) same ∙ there.beside e;
          };
      distinct = λ apart. distinct-taken i w.ids new.ids ids low (h.distinct apart);
      live = λ k d from within.
          let f = taken-from i w.ids new.ids k ids low within in
          subst (λ (y : ClauseId). IsLive a y.0) (sym (f.3 d)) (h.live f.0 d (later-place k i f.0 (length new.ids) from within f.4) f.1);
      kept = λ id has live. Contains-left i w.ids new.ids id ids low (h.kept id has live) (λ e. gone (subst (λ (y : ClauseId). IsLive a y.0) (sym e ∙ get_or_default w.ids i id x low ∙ sym at) live));
    }

-- the clauses that are left were held, and those of other ids are left
fewer-cases : (b : Bool) (o : Option FlaggedClause) (c : FlaggedClause) → cond b None o ≡ Some c → o ≡ Some c
fewer-cases true o c is = absurd (let no : None ≡ Some c = is in cc)
fewer-cases false o c is = is

pub held_before : (a : ArenaView) (ids : List ClauseId) (k : ℕ) (c : FlaggedClause) → clause_at (without_all a ids) k ≡ Some c → clause_at a k ≡ Some c
held_before a [] k c is = is
held_before a (id ∷ ids) k c is = fewer-cases (eqb k id.0) (clause_at a k) c (sym (ChangesOnly-without a id.0 k) ∙ held_before (without a id.0) ids k c is)

pub still_held : (a : ArenaView) (ids : List ClauseId) (k : ℕ) → All (λ id. k ≢ id.0) ids → clause_at (without_all a ids) k ≡ clause_at a k
still_held a [] k h = refl
still_held a (id ∷ ids) k h =
    let ne : k ≢ id.0 = All-head (λ (i : ClauseId). k ≢ i.0) id ids h in
    still_held (without a id.0) ids k (All-tail (λ (i : ClauseId). k ≢ i.0) id ids h) ∙ ChangesOnly-without a id.0 k ∙ ap (λ (t : Bool). cond t None (clause_at a k)) (ne_eqb k id.0 ne)

-- one more goes
pub without_more : (a : ArenaView) (ids : List ClauseId) (x : ClauseId) → without_all a (ids ++ x ∷ []) ≡ without (without_all a ids) x.0
without_more a [] x = refl
without_more a (id ∷ ids) x = without_more (without a id.0) ids x

pub without_next : (a b : ArenaView) (ids : List ClauseId) (i : ℕ) (x : ClauseId) → i < length ids → x ≡ get_or ids i x → b ≡ without_all a (take i ids) → without b x.0 ≡ without_all a (take (i + 1) ids)
without_next a b ids i x low at is =
    ap (λ (c : ArenaView). without c x.0) is ∙ sym (without_more a (take i ids) x) ∙ ap (λ (y : ClauseId). without_all a (take i ids ++ y ∷ [])) at ∙ sym (ap (without_all a) (take_more ids i x low))

pub still_live : (a b : ArenaView) (ids : List ClauseId) (i : ℕ) (x : ClauseId) → i < length ids → x ≡ get_or ids i x → b ≡ without_all a (take i ids) → All (λ id. IsLive a id.0) ids → AllPairs (λ p q. p ≢ q) ids → IsLive b x.0
still_live a b ids i x low at is live apart =
    let here : IsLive a x.0 = subst (λ (y : ClauseId). IsLive a y.0) (sym at) (live i x low) in
    let others : All (λ id. x.0 ≢ id.0) (take i ids) = λ k d h.
    let len : length (take i ids) ≡ i = length-take-le i ids (omega arith) in
    let before : k < i = omega arith in
    λ e. apart k i d before low (same-id (get_or ids k d) (get_or ids i d) (ap (λ (y : ClauseId). y.0) (sym (get_or-take i ids k d before)) ∙ sym e ∙ ap (λ (y : ClauseId). y.0) (at ∙ get_or_default ids i x d low))) in
    subst IsSome (sym (ap (λ (c : ArenaView). clause_at c x.0) is ∙ still_held a (take i ids) x.0 others)) here

abbrev literals : FlaggedClause → Clause
literals f = f.literals

sub-cases : (o p : Option FlaggedClause) (c : Clause) → ((f : FlaggedClause) → o ≡ Some f → p ≡ Some f) → option_map literals o ≡ Some c → option_map literals p ≡ Some c
sub-cases None p c h is = absurd (let no : None ≡ Some c = is in cc)
sub-cases (Some f) p c h is = ap (option_map literals) (h f refl) ∙ is

held-sub : (a b : ArenaView) (ids : List ClauseId) → b ≡ without_all a ids → (k : ℕ) (c : Clause) → held_clause b k ≡ Some c → held_clause a k ≡ Some c
held-sub a b ids same k c is = sub-cases (clause_at b k) (clause_at a k) c (λ f at. held_before a ids k f (sym (ap (λ (x : ArenaView). clause_at x k) same) ∙ at)) is

live-held : (o : Option FlaggedClause) (c : Clause) → option_map literals o ≡ Some c → IsSome o
live-held None c is = absurd (let no : None ≡ Some c = is in cc)
live-held (Some f) c is = refl

same-some : (c d : Clause) → Some c ≡ Some d → c ≡ d
same-some c d e = cc

-- a swept list is right of the literal
right-swept : (a b : ArenaView) (l : Literal) (w v : WatchListView) → IsRightList a l w → ((k : ℕ) (c : Clause) → held_clause b k ≡ Some c → held_clause a k ≡ Some c) → IsSwept b 0 w v → IsRightList b l v
right-swept a b l w v h sub s = record {
  watchers = record {
    distinct = s.distinct h.watchers.distinct;
    exact = λ id. (
      λ (k, within, at).
          let st = s.stood k within in
          let old : Watches a id.0 l = (h.watchers.exact id).0 (st.place, st.within, sym (st.ids id) ∙ at) in
          let live : IsLive b id.0 = subst (λ (y : ClauseId). IsLive b y.0) at (s.live k id (omega arith) within) in
          let held = live-literals_at b id.0 live in
          record { clause = old.clause; held = held ∙ ap Some (same-some (literals_at b id.0) old.clause (sym (sub id.0 (literals_at b id.0) held) ∙ old.held)); watch = old.watch },
      λ is. s.kept id ((h.watchers.exact id).1 (record { clause = is.clause; held = sub id.0 is.clause is.held; watch = is.watch })) (live-held (clause_at b id.0) is.clause is.held),
    );
  };
  in_step = s.in_step;
  beside = λ k d e low.
      let st = s.stood k low in
      λ c held. subst (IsBeside c l) (sym (st.beside e)) (h.beside st.place d e st.within c (subst (λ (i : ClauseId). held_clause a i.0 ≡ Some c) (st.ids d) (sub (get_or v.ids k d).0 c held)));
}

given_all : (a : ArenaView) (ids : List ClauseId) → (without_all a ids).given ≡ a.given
given_all a [] = refl
given_all a (id ∷ ids) = given_all (without a id.0) ids

-- all is right after the clauses went
pub gone-all : (s : Watched) (b : ArenaView) (ids : List ClauseId) (new : List WatchListView) → IsSound s → IsArena b → b ≡ without_all s.arena ids → All (λ id. All (λ e. e.reason ≢ Some id) s.assigned.trail) ids → length new ≡ length s.lists → ((l : Literal) → IsSwept b 0 (list_of s.lists l) (list_of new l)) → IsSound (record s { arena = b; lists = new })
gone-all s b ids new ok arena same free sized swept =
    let sub = held-sub s.arena b ids same in
    let given : b.given ≡ s.arena.given = ap (λ (x : ArenaView). x.given) same ∙ given_all s.arena ids in
    let h = ok.watched.settled in
    let low = h.given in
    let long = ok.watched.listed.sized in
    record {
      consistent = IsConsistent-fewer (shown s) b false ok.consistent arena sub (λ k d r c w is held.
          let others : All (λ id. r.0 ≢ id.0) ids = λ i e within same_id. free i e within k d w (is ∙ ap Some (same-id r (get_or ids i e) same_id)) in
          ap (option_map literals) (ap (λ (x : ArenaView). clause_at x r.0) same ∙ still_held s.arena ids r.0 others) ∙ held);
      watched = record {
        listed = listed-from b s.assigned.vars new (omega arith) (λ l. right-swept s.arena b l (list_of s.lists l) (list_of new l) (right-list s.arena s.assigned.vars s.lists l ok.watched.listed) sub (swept l));
        settled = record {
          given = omega arith;
          within = h.within;
          present = h.present;
          walked_pending_or_waiting = λ k c l held. h.walked_pending_or_waiting k c l (sub k c held);
          short = λ k c held. h.short k c (sub k c held);
        };
      };
    }

abbrev nothing : Option FlaggedClause
nothing = None

none-cond : (b : Bool) → cond b nothing nothing ≡ nothing
none-cond true = refl
none-cond false = refl

none_stays : (a : ArenaView) (ids : List ClauseId) (k : ℕ) → clause_at a k ≡ None → clause_at (without_all a ids) k ≡ None
none_stays a [] k none = none
none_stays a (id ∷ ids) k none =
    none_stays (without a id.0) ids k (ChangesOnly-without a id.0 k ∙ ap (λ (o : Option FlaggedClause). cond (eqb k id.0) None o) none ∙ none-cond (eqb k id.0))

-- what was let go is not live
pub none_at : (a : ArenaView) (ids : List ClauseId) (i : ℕ) (d : ClauseId) → i < length ids → clause_at (without_all a ids) (get_or ids i d).0 ≡ None
none_at a [] i d low = absurd (omega arith)
none_at a (id ∷ ids) zero d low =
    let same : eqb id.0 id.0 ≡ true = grind arith in
    none_stays (without a id.0) ids id.0 (ChangesOnly-without a id.0 id.0 ∙ ap (λ (t : Bool). cond t None (clause_at a id.0)) same)
none_at a (id ∷ ids) (suc i) d low = none_at (without a id.0) ids i d (omega arith)
