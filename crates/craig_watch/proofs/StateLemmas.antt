-- Clauses under a trail stay right when a literal is forced and when literals of a clause change their places.
use Rattle.std.proofs.Common.{◌≡◌, ◌≢◌, inl, inr, ℕ, ◌-◌, ◌<◌, ◌≤◌, List, [], ◌∷◌, ◌++◌, length, get_or, swap, AllPairs, Contains, Option, Some, None, IsSome, refl, sym, ap, subst, ◌∙◌, arith}
use Rattle.std.specs.Option.{option_map_or}
use Rattle.std.proofs.lemmas.List.{get_or_default, append-nil, append_assoc}
use Rattle.std.proofs.lemmas.List.Elements.{All-append, All-push}
use Rattle.craig_spec.specs.Literal.{Literal, Clause}
use Rattle.craig_base.specs.declared.clause_id.ClauseId.{ClauseId}
use Rattle.craig_base.specs.Arena.{ArenaView, FlaggedClause, IsArena, IsLive, OnlyReorders, ChangesClause, literals_at, clause_at}
use Rattle.craig_base.proofs.FoundLemmas.{literals_of-live}
use Rattle.craig_base.proofs.LookUpLemmas.{literals_at-found}
use Rattle.craig_base.proofs.ReorderLemmas.{OnlyReorders-refl, OnlyReorders-trans, GivesSame-before}
use Rattle.craig_watch.specs.declared.trail_entry.TrailEntry.{TrailEntry}
use Rattle.craig_watch.specs.declared.beside.Beside.TheVariants.{Blocker}
use Rattle.craig_watch.specs.declared.value.Value.TheVariants.{False}
use Rattle.craig_watch.specs.declared.watched.Watched.{Watched}
use Rattle.craig_watch.specs.Trail.{Trail, IsFalse, level_at, decisions}
use Rattle.craig_watch.specs.Held.{HeldView, held_clause, IsConsistent, IsLengthened, with_entry}
use Rattle.craig_watch.specs.Watches.{WatchListView, IsTakenOut, IsBesideOf, ChangesList, TakesWatch, HasTrueUpTo, IsWatch, Watches, list_of, with_watch}
use Rattle.craig_watch.specs.WatchedState.{Continues, Exchanges, IsForcedBy, IsReached, IsSound, LosesEntry, MayMove, shown, with_forced}
use Rattle.craig_watch.proofs.HeldLemmas.{IsConsistent-forced, decisions-forced, forced}
use Rattle.craig_watch.proofs.SwapLemmas.{IsWatch-exchanged, IsWatch-exchanged_before}
use Rattle.craig_watch.proofs.ReorderedLemmas.{Reorders, Reorders-swapped, IsConsistent-reordered, swapped, swapped-here, swapped-there}
use Rattle.craig_watch.proofs.ListedLemmas.{AreListed-same, AreListed-moved, watches-now, differ}
use Rattle.craig_watch.proofs.SettledLemmas.{AreSettled-push, AreSettled-reordered, HasTrueUpTo-longer, HasTrueUpTo-same, level_at-longer, false≢free}

-- nothing changed
pub IsLengthened-none : (h : HeldView) → IsLengthened h h
IsLengthened-none h = record {
  clauses = OnlyReorders-refl h.arena;
  vars = refl;
  present = refl;
  dead = refl;
  added = [];
  trail = sym (append-nil h.trail);
  level = λ k d w. absurd (omega arith);
  reason = λ k d w. absurd (omega arith);
}

-- lengthened twice
pub IsLengthened-twice : (old mid new : HeldView) → IsLengthened old mid → IsLengthened mid new → IsLengthened old new
IsLengthened-twice old mid new one two = record {
  clauses = OnlyReorders-trans old.arena mid.arena new.arena one.clauses two.clauses;
  vars = two.vars ∙ one.vars;
  present = two.present ∙ one.present;
  dead = two.dead ∙ one.dead;
  added = one.added ++ two.added;
  trail = two.trail ∙ ap (λ (t : Trail). t ++ two.added) one.trail ∙ append_assoc old.trail one.added two.added;
  level = All-append (λ (e : TrailEntry). e.level ≡ old.level) one.added two.added one.level (λ k d w. two.level k d w ∙ one.present);
  reason = All-append (λ (e : TrailEntry). IsSome e.reason) one.added two.added one.reason two.reason;
}

pub Continues-none : (s : Watched) → IsSound s → Continues s s
Continues-none s ok = record { lengthened = IsLengthened-none (shown s); sound = ok; looked = refl; walked = refl }

pub Continues-twice : (old mid new : Watched) → Continues old mid → Continues mid new → Continues old new
Continues-twice old mid new one two = record {
  lengthened = IsLengthened-twice (shown old) (shown mid) (shown new) one.lengthened two.lengthened;
  sound = two.sound;
  looked = two.looked ∙ one.looked;
  walked = two.walked ∙ one.walked;
}

-- a literal is forced
pub Continues-forced : (s : Watched) (l : Literal) (id : ClauseId) → IsSound s → IsForcedBy s l id.0 → Continues s (with_forced s l id)
Continues-forced s l id ok f =
    let e : TrailEntry = forced l (decisions s.assigned.trail) id in
    let consistent : IsConsistent (with_entry (shown s) e) = IsConsistent-forced (shown s) l (decisions s.assigned.trail) id f.clause ok.consistent f.held f.forces f.free refl in
    let same : decisions (s.assigned.trail ++ e ∷ []) ≡ decisions s.assigned.trail = decisions-forced (shown s) l (decisions s.assigned.trail) id ok.consistent in
    record {
      lengthened = record {
        clauses = OnlyReorders-refl s.arena;
        vars = refl;
        present = same;
        dead = refl;
        added = e ∷ [];
        trail = refl;
        level = All-push (λ (g : TrailEntry). g.level ≡ decisions s.assigned.trail) [] e (λ k d w. absurd (omega arith)) refl;
        reason = All-push (λ (g : TrailEntry). IsSome g.reason) [] e (λ k d w. absurd (omega arith)) refl;
      };
      sound = record {
        consistent = consistent;
        watched = record {
          listed = ok.watched.listed;
          settled = AreSettled-push s.arena s.assigned.trail e s.looked s.walked ok.watched.settled consistent.distinct (sym same) (λ k d behind w. ok.watched.settled.present k d behind w ∙ sym same);
        };
      };
      looked = refl;
      walked = refl;
    }

-- a clause that was reached stays so
pub reached-on : (old new : Watched) (l : Literal) (id : ℕ) → Continues old new → IsFalse old.assigned.trail l → IsReached old l id → IsReached new l id
reached-on old new l id c falsified h d now =
    let was = GivesSame-before old.arena new.arena c.lengthened.clauses id d now in
    let first : HasTrueUpTo old.assigned.trail was.0 (level_at old.assigned.trail l) = h was.0 was.1 in
    let trail : new.assigned.trail ≡ old.assigned.trail ++ c.lengthened.added = c.lengthened.trail in
    let level : level_at (old.assigned.trail ++ c.lengthened.added) l ≡ level_at old.assigned.trail l = level_at-longer old.assigned.trail c.lengthened.added l False falsified false≢free in
    subst (λ (t : Trail). HasTrueUpTo t d (level_at t l)) (sym trail)
    (subst (HasTrueUpTo (old.assigned.trail ++ c.lengthened.added) d) (sym level)
    (HasTrueUpTo-longer old.assigned.trail c.lengthened.added d (level_at old.assigned.trail l)
    (HasTrueUpTo-same old.assigned.trail was.0 d (level_at old.assigned.trail l) (λ x. ((was.2 x).1, (was.2 x).0)) first)))

-- literals of a clause changed their places: what is shown
lengthened-reordered : (s : Watched) (b : ArenaView) (lists : List WatchListView) → OnlyReorders s.arena b → IsLengthened (shown s) (shown (record s { arena = b; lists = lists }))
lengthened-reordered s b lists only = record {
  clauses = only;
  vars = refl;
  present = refl;
  dead = refl;
  added = [];
  trail = sym (append-nil s.assigned.trail);
  level = λ k d w. absurd (omega arith);
  reason = λ k d w. absurd (omega arith);
}

pub live-literals_at : (a : ArenaView) (id : ℕ) → IsLive a id → held_clause a id ≡ Some (literals_at a id)
live-literals_at a id live = literals_of-live a id live

-- the clause after the exchange
swapped-literals : (a b : ArenaView) (id : ℕ) (c : Clause) (i j : ℕ) → held_clause a id ≡ Some c → ChangesClause a b id (swapped i j) → (held_clause b id ≡ Some (swap c i j))
swapped-literals a b id c i j held only =
    elim (swapped-there a b id c i j held only id c held) [
      | inl other ↦ absurd (other.0 refl)
      | inr this ↦ this.2
    ]

pub live-held : (o : Option FlaggedClause) (c : Clause) → Rattle.std.specs.Option.option_map (λ (f : FlaggedClause). f.literals) o ≡ Some c → IsSome o
live-held None c is = absurd (let no : None ≡ Some c = is in cc)
live-held (Some f) c is = refl

-- the first two literals of a clause are exchanged
pub turned : (s : Watched) (b : ArenaView) (id : ClauseId) → IsSound s → IsLive s.arena id.0 → 1 < length (literals_at s.arena id.0) → IsArena b → b.given ≡ s.arena.given → ChangesClause s.arena b id.0 (swapped 0 1) → Exchanges s (record s { arena = b }) id 0 1
turned s b id ok live long arena given only =
    let c : Clause = literals_at s.arena id.0 in
    let held : held_clause s.arena id.0 ≡ Some c = live-literals_at s.arena id.0 live in
    let r : Reorders s.arena b = Reorders-swapped s.arena b id.0 c 0 1 held only given (omega arith) long in
    let now : held_clause b id.0 ≡ Some (swap c 0 1) = swapped-literals s.arena b id.0 c 0 1 held only in
    let forth : (k : ℕ) (l : Literal) → Watches s.arena k l → Watches b k l = λ k l w. elim (swapped-there s.arena b id.0 c 0 1 held only k w.clause w.held) [
      | inl other ↦ record { clause = w.clause; held = other.1; watch = w.watch }
      | inr this ↦ record { clause = swap c 0 1; held = this.2; watch = IsWatch-exchanged c 0 1 l (omega arith) (omega arith) (omega arith) long (subst (λ (d : Clause). IsWatch d l) this.1 w.watch) }
    ] in
    let back : (k : ℕ) (l : Literal) → Watches b k l → Watches s.arena k l = λ k l w. elim (swapped-here s.arena b id.0 c 0 1 held only k w.clause w.held) [
      | inl other ↦ record { clause = w.clause; held = other.1; watch = w.watch }
      | inr this ↦ record { clause = c; held = ap (held_clause s.arena) this.0 ∙ held; watch = IsWatch-exchanged_before c 0 1 l (omega arith) (omega arith) (omega arith) long (subst (λ (d : Clause). IsWatch d l) (sym this.1) w.watch) }
    ] in
    record {
      continues = record {
        lengthened = lengthened-reordered s b s.lists r.only;
        sound = record {
          consistent = IsConsistent-reordered (shown s) b ok.consistent arena r;
          watched = record {
            listed = AreListed-same s.arena b s.assigned.vars s.lists ok.watched.listed r forth back;
            settled = AreSettled-reordered s.arena b s.assigned.trail s.looked s.walked ok.watched.settled r (λ k l w falsified. inl (back k l w));
          };
        };
        looked = refl;
        walked = refl;
      };
      assigned = refl;
      literals = literals_at-found b id.0 (swap c 0 1) now;
      live = live-held (clause_at b id.0) (swap c 0 1) now;
    }

-- one of the first two literals of a clause changes places with a later one
module _ (s : Watched) (b : ArenaView) (mid new : List WatchListView) (id : ClauseId) (place other index : ℕ) (m : MayMove s id place other index) (arena : IsArena b) (given : b.given ≡ s.arena.given) (only : ChangesClause s.arena b id.0 (swapped place other)) (old_one new_one blocker : Literal) (is_old : (d : Literal) → get_or m.clause place d ≡ old_one) (is_new : (d : Literal) → get_or m.clause other d ≡ new_one) (is_blocker : (d : Literal) → get_or m.clause (1 - place) d ≡ blocker) (pushed : ChangesList s.lists mid new_one (with_watch (list_of s.lists new_one) id (Blocker blocker))) (taken : TakesWatch mid new old_one index) where
  low_place : place < length m.clause
  low_place = (let f = m.first in let l = m.later in let w = m.within in omega arith)

  apart : AllPairs (λ x y. x ≢ y) m.clause
  apart = (m.sound.consistent.clauses id.0 m.clause m.held).0.distinct

  reorders : Reorders s.arena b
  reorders = Reorders-swapped s.arena b id.0 m.clause place other m.held only given low_place m.within

  listed_low : index < length (list_of s.lists old_one).ids
  listed_low = subst (λ (l : Literal). index < length (list_of s.lists l).ids) (is_old old_one) (m.listed old_one)

  listed_entry : (e : ClauseId) → get_or (list_of s.lists old_one).ids index e ≡ id
  listed_entry e = subst (λ (l : Literal). get_or (list_of s.lists l).ids index e ≡ id) (is_old old_one) (m.entry old_one e)

  ones_differ : old_one ≢ new_one
  ones_differ = differ s.arena b id m.clause place other m.held only reorders m.first m.later m.within apart old_one new_one is_old is_new

  low_mate : 1 - place < length m.clause
  low_mate = (let l = m.later in let w = m.within in omega arith)

  right_beside : IsBesideOf s.arena new_one id (Blocker blocker)
  right_beside d held = (
      let both : Some m.clause ≡ Some d = sym m.held ∙ held in
      let same : m.clause ≡ d = cc in
      subst (λ (x : Clause). Contains x blocker) same (1 - place, low_mate, is_blocker blocker))

  pub moved : Exchanges s (record { arena = b; assigned = s.assigned; lists = new; looked = s.looked; walked = s.walked }) id place other
  moved =
      let now : held_clause b id.0 ≡ Some (swap m.clause place other) = swapped-literals s.arena b id.0 m.clause place other m.held only in
      record {
        continues = record {
          lengthened = lengthened-reordered s b new reorders.only;
          sound = record {
            consistent = IsConsistent-reordered (shown s) b m.sound.consistent arena reorders;
            watched = record {
              listed = AreListed-moved s.arena b id m.clause place other m.held only reorders m.first m.later m.within apart old_one new_one is_old is_new s.assigned.vars s.lists mid new index (Blocker blocker) m.sound.watched.listed pushed taken listed_low listed_entry right_beside;
              settled = AreSettled-reordered s.arena b s.assigned.trail s.looked s.walked m.sound.watched.settled reorders (λ k l w falsified. elim (watches-now s.arena b id m.clause place other m.held only reorders m.first m.later m.within apart old_one new_one is_old is_new k l w) [
                | inl new ↦ inr (subst (λ (n : ℕ). s.looked ≤ n) (sym new.0) (m.right l (subst (IsFalse s.assigned.trail) (new.1 ∙ sym (is_new l)) falsified)))
                | inr old ↦ inl old.0
              ]);
            };
          };
          looked = refl;
          walked = refl;
        };
        assigned = refl;
        literals = literals_at-found b id.0 (swap m.clause place other) now ∙ ap (λ (d : Clause). swap d place other) (sym (literals_at-found s.arena id.0 m.clause m.held));
        live = live-held (clause_at b id.0) (swap m.clause place other) now;
      }

  loses-one : LosesEntry s (record { arena = b; assigned = s.assigned; lists = new; looked = s.looked; walked = s.walked }) old_one index
  loses-one =
      let before : list_of mid old_one ≡ list_of s.lists old_one = pushed.others old_one ones_differ in
      let ids : IsTakenOut index (list_of s.lists old_one).ids (list_of new old_one).ids = subst (λ (w : WatchListView). IsTakenOut index w.ids (list_of new old_one).ids) before taken.ids in
      let less = ids.less in
      record {
        shorter = ids.less;
        before = λ k d low. ids.rest k d (λ e. (let p : k ≡ index = e in omega arith)) (let low_too = listed_low in omega arith);
      }

  pub loses : (d : Literal) → LosesEntry s (record { arena = b; assigned = s.assigned; lists = new; looked = s.looked; walked = s.walked }) (get_or (literals_at s.arena id.0) place d) index
  loses d =
      let is : get_or (literals_at s.arena id.0) place d ≡ old_one = ap (λ (x : Clause). get_or x place d) (literals_at-found s.arena id.0 m.clause m.held) ∙ is_old d in
      subst (λ (l : Literal). LosesEntry s (record { arena = b; assigned = s.assigned; lists = new; looked = s.looked; walked = s.walked }) l index) (sym is) loses-one

-- an element that was read, whichever default is named
pub element-is : (xs c : Clause) (i : ℕ) (x : Literal) → x ≡ get_or xs i x → xs ≡ c → i < length c → (d : Literal) → get_or c i d ≡ x
element-is xs c i x is same low d = get_or_default c i d x low ∙ ap (λ (ys : Clause). get_or ys i x) (sym same) ∙ sym is
