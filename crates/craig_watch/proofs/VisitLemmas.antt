-- Visits of the entries in the list of a literal that became false.
use Rattle.std.proofs.Common.{◌≡◌, ◌≢◌, inl, inr, ℕ, suc, ◌+◌, ◌-◌, ◌*◌, ◌<◌, ◌≤◌, Bool, true, false, cond, List, [], ◌∷◌, ◌++◌, length, get_or, All, Contains, Some, None, refl, sym, ap, subst, ◌∙◌, arith}
use Rattle.std.proofs.lemmas.Bool.Decides.{leb_tells}
use Rattle.std.proofs.Common.{set, eqb, eqb-true}
use Rattle.std.proofs.lemmas.Bool.{eqb-false}
use Rattle.std.proofs.lemmas.List.{get_or_default, length-set, get_or-set_same, get_or-set_other}
use Rattle.std.proofs.lemmas.List.Elements.{All-contains, Contains-get_or}
use Rattle.craig_spec.specs.Literal.{Literal, Clause}
use Rattle.craig_spec.proofs.LiteralLemmas.{same_or_not}
use Rattle.craig_base.specs.declared.clause_id.ClauseId.{ClauseId}
use Rattle.craig_base.specs.Literals.{literal_code}
use Rattle.craig_base.specs.Arena.{ArenaView, IsLive, literals_at, clause_at}
use Rattle.craig_base.proofs.LookUpLemmas.{literals_at-found}
use Rattle.craig_watch.specs.declared.trail_entry.TrailEntry.{TrailEntry}
use Rattle.craig_watch.specs.declared.beside.Beside.{Beside}
use Rattle.craig_watch.specs.declared.beside.Beside.TheVariants.{Other, Blocker}
use Rattle.craig_watch.specs.declared.value.Value.TheVariants.{True, False, Free}
use Rattle.craig_watch.specs.declared.visit.Visit.TheVariants.{Stays, Moved}
use Rattle.craig_watch.specs.declared.watched.Watched.{Watched}
use Rattle.craig_watch.specs.Trail.{Trail, entry_of, value_under, IsFalse, level_at, decisions}
use Rattle.craig_watch.specs.Held.{HeldView, held_clause, IsConsistent, IsFalsified}
use Rattle.craig_watch.specs.Watches.{WatchListView, ChangesList, Watches, IsPairOf, IsBeside, IsBesideOf, HasTrueUpTo, list_of}
use Rattle.craig_watch.proofs.ListedLemmas.{IsRightList, right-list, listed-from}
use Rattle.craig_watch.specs.WatchedState.{Continues, HasReached, HasVisited, IsForcedBy, IsOpenPlace, IsReached, IsSound, IsVisiting, LosesEntry, StandsFirst, ids_of, shown, with_forced}
use Rattle.craig_watch.proofs.TrailLemmas.{levels-bounded}
use Rattle.craig_watch.proofs.PlacesLemmas.{entry-true, place-found, true-entry}
use Rattle.craig_watch.proofs.LevelsLemmas.{level_at-entry}
use Rattle.craig_watch.proofs.AssignedLemmas.{found-last}
use Rattle.craig_watch.proofs.HeldLemmas.{IsConsistent-forced, forced}
use Rattle.craig_watch.proofs.SettledLemmas.{kept-value, level_at-longer, false≢free}
use Rattle.craig_watch.proofs.StateLemmas.{IsLengthened-none, Continues-forced, reached-on, live-literals_at, live-held}

-- a literal of a held clause is of a known variable
pub known-at : (s : Watched) (id : ℕ) (lits : Clause) (k : ℕ) (x : Literal) → IsSound s → IsLive s.arena id → lits ≡ literals_at s.arena id → x ≡ get_or lits k x → k < length lits → x.var < s.assigned.vars
known-at s id lits k x ok live same is low =
    let known = (ok.consistent.clauses id (literals_at s.arena id) (live-literals_at s.arena id live)).1 in
    let all : All (λ l. l.var < s.assigned.vars) lits = subst (All (λ (l : Literal). l.var < s.assigned.vars)) (sym same) known in
    subst (λ (l : Literal). l.var < s.assigned.vars) (sym is) (all k x low)

-- so the list of such a literal is there
code-cases : (v : ℕ) (b : Bool) (n m : ℕ) → v < n → 2 * n ≤ m → 2 * v + cond b 1 0 < m
code-cases v true n m low le = omega arith
code-cases v false n m low le = omega arith

pub code-low : (s : Watched) (l : Literal) → IsSound s → l.var < s.assigned.vars → literal_code l < length s.lists
code-low s l ok known = code-cases l.var l.negated s.assigned.vars (length s.lists) known ok.watched.listed.sized

-- the clause of an entry
pub entry-watches : (s : Watched) (l : Literal) (index : ℕ) (id : ClauseId) → IsSound s → index < length (ids_of s l) → id ≡ get_or (ids_of s l) index id → Watches s.arena id.0 l
entry-watches s l index id ok low is = ((ok.watched.listed.watchers l).exact id).0 (index, low, sym is)

pub watches-live : (a : ArenaView) (id : ℕ) (l : Literal) → Watches a id l → IsLive a id
watches-live a id l w = live-held (clause_at a id) w.clause w.held

-- what is true is so at a level that isn't above the present one
pub level-low : (h : HeldView) (m : Literal) → IsConsistent h → value_under h.trail m ≡ True → level_at h.trail m ≤ decisions h.trail
level-low h m ok is =
    let e = entry-true h.trail m is in
    let p = place-found h.trail m.var e.0 e.1 in
    let at : level_at h.trail m ≡ e.0.level = level_at-entry h.trail m e.0 e.1 in
    let same : (get_or h.trail p.0 e.0).level ≡ e.0.level = ap (λ (f : TrailEntry). f.level) (p.3 e.0) in
    let low : (get_or h.trail p.0 e.0).level ≤ decisions h.trail = levels-bounded h.trail ok.levels p.0 e.0 p.1 in
    omega arith

-- one entry more was reached
pub reached-more : (s : Watched) (l : Literal) (n : ℕ) → HasReached s l n → ((d : ClauseId) → n < length (ids_of s l) → IsReached s l (get_or (ids_of s l) n d).0) → HasReached s l (n + 1)
reached-more s l n h last k d low within =
    elim (leb_tells (suc k) n) [
      | inl here ↦ h k d here.1 within
      | inr gone ↦
          let past : n < suc k = gone.1 in
          let is : k ≡ n = omega arith in
          subst (λ (j : ℕ). IsReached s l (get_or (ids_of s l) j d).0) (sym is) (last d (omega arith))
    ]

-- since a literal of its clause is true
pub reached-true : (s : Watched) (l : Literal) (index : ℕ) (m : Literal) → IsVisiting s l index → value_under s.assigned.trail m ≡ True → ((d : ClauseId) (c : Clause) → held_clause s.arena (get_or (ids_of s l) index d).0 ≡ Some c → Contains c m) → HasReached s l (index + 1)
reached-true s l index m v is has = reached-more s l index v.reached (λ d low c held. record {
  true_one = m;
  has = has d c held;
  is_true = is;
  low = let low = level-low (shown s) m v.sound.consistent is in let here = v.present in omega arith;
})

-- or it was forced
forced-true : (s : Watched) (l m : Literal) (id : ClauseId) (c : Clause) → IsSound s → IsForcedBy s m id.0 → Contains c m → level_at s.assigned.trail l ≡ decisions s.assigned.trail → level_at (with_forced s m id).assigned.trail l ≡ level_at s.assigned.trail l → HasTrueUpTo (with_forced s m id).assigned.trail c (level_at (with_forced s m id).assigned.trail l)
forced-true s l m id c ok f has present same =
    let e : TrailEntry = forced m (decisions s.assigned.trail) id in
    let t : Trail = s.assigned.trail ++ e ∷ [] in
    let next = IsConsistent-forced (shown s) m (decisions s.assigned.trail) id f.clause ok.consistent f.held f.forces f.free refl in
    let found : entry_of t m.var ≡ Some e = found-last s.assigned.trail e next.distinct in
    record {
      true_one = m;
      has = has;
      is_true = true-entry t m e found refl;
      low = let at : level_at t m ≡ decisions s.assigned.trail = level_at-entry t m e found in omega arith;
    }

pub reached-forced : (s : Watched) (l : Literal) (index : ℕ) (m : Literal) (id : ClauseId) → IsVisiting s l index → IsForcedBy s m id.0 → ((d : ClauseId) → get_or (ids_of s l) index d ≡ id) → HasReached (with_forced s m id) l (index + 1)
reached-forced s l index m id v f entry =
    let on = Continues-forced s m id v.sound f in
    let same : level_at (with_forced s m id).assigned.trail l ≡ level_at s.assigned.trail l = level_at-longer s.assigned.trail (forced m (decisions s.assigned.trail) id ∷ []) l False v.falsified false≢free in
    reached-more (with_forced s m id) l index
    (λ k d low within. reached-on s (with_forced s m id) l (get_or (ids_of s l) k d).0 on v.falsified (v.reached k d low within))
    (λ d low c held.
    let is : held_clause s.arena id.0 ≡ Some c = ap (λ (x : ClauseId). held_clause s.arena x.0) (sym (entry d)) ∙ held in
    let both : Some f.clause ≡ Some c = sym f.held ∙ is in
    let one : f.clause ≡ c = cc in
    forced-true s l m id c v.sound f (subst (λ (x : Clause). Contains x m) one f.forces.has) v.present same)

-- the clause of an entry with the other literal beside it
pub pair-at : (s : Watched) (l : Literal) (index : ℕ) (m : Literal) (d : ClauseId) (c : Clause) → IsVisiting s l index → get_or (list_of s.lists l).beside index (Other m) ≡ Other m → held_clause s.arena (get_or (ids_of s l) index d).0 ≡ Some c → IsPairOf c l m
pair-at s l index m d c v is held = subst (λ (e : Beside). IsBeside c l e) is (v.sound.watched.listed.beside l index d (Other m) v.within c held)

pub blocker-at : (s : Watched) (l : Literal) (index : ℕ) (m : Literal) (d : ClauseId) (c : Clause) → IsVisiting s l index → get_or (list_of s.lists l).beside index (Blocker m) ≡ Blocker m → held_clause s.arena (get_or (ids_of s l) index d).0 ≡ Some c → Contains c m
blocker-at s l index m d c v is held = subst (λ (e : Beside). IsBeside c l e) is (v.sound.watched.listed.beside l index d (Blocker m) v.within c held)

-- what stands beside an entry is of a known variable
any_id : ClauseId
any_id = record { 0 = 0 }

entry-id : (s : Watched) (l : Literal) (index : ℕ) → IsVisiting s l index → Watches s.arena (get_or (ids_of s l) index any_id).0 l
entry-id s l index v = ((v.sound.watched.listed.watchers l).exact (get_or (ids_of s l) index any_id)).0 (Contains-get_or (ids_of s l) index any_id v.within)

pub pair-known : (s : Watched) (l : Literal) (index : ℕ) (m : Literal) → IsVisiting s l index → get_or (list_of s.lists l).beside index (Other m) ≡ Other m → m.var < s.assigned.vars
pair-known s l index m v is =
    let w = entry-id s l index v in
    All-contains (λ (x : Literal). x.var < s.assigned.vars) w.clause m (v.sound.consistent.clauses (get_or (ids_of s l) index any_id).0 w.clause w.held).1 (pair-at s l index m any_id w.clause v is w.held).other

pub blocker-known : (s : Watched) (l : Literal) (index : ℕ) (m : Literal) → IsVisiting s l index → get_or (list_of s.lists l).beside index (Blocker m) ≡ Blocker m → m.var < s.assigned.vars
blocker-known s l index m v is =
    let w = entry-id s l index v in
    All-contains (λ (x : Literal). x.var < s.assigned.vars) w.clause m (v.sound.consistent.clauses (get_or (ids_of s l) index any_id).0 w.clause w.held).1 (blocker-at s l index m any_id w.clause v is w.held)

-- of a clause of two literals both are false
false-pair : (t : Trail) (c : Clause) (l m : Literal) → IsPairOf c l m → IsFalse t l → IsFalse t m → All (IsFalse t) c
false-pair t c l m p false_l false_m k d low =
    elim (p.only (get_or c k d) (Contains-get_or c k d low)) [ inl same ↦ subst (IsFalse t) (sym same) false_l | inr same ↦ subst (IsFalse t) (sym same) false_m ]

pub pair-falsified : (s : Watched) (l : Literal) (index : ℕ) (m : Literal) (id : ClauseId) → IsVisiting s l index → get_or (list_of s.lists l).beside index (Other m) ≡ Other m → id ≡ get_or (ids_of s l) index id → IsFalse s.assigned.trail m → IsFalsified (shown s) id.0
pair-falsified s l index m id v is entry falsified =
    let w = entry-watches s l index id v.sound v.within entry in
    (w.clause, w.held, false-pair s.assigned.trail w.clause l m (pair-at s l index m id w.clause v is (ap (λ (x : ClauseId). held_clause s.arena x.0) (sym entry) ∙ w.held)) v.falsified falsified)

-- or the one is false and the other free
pub pair-forced : (s : Watched) (l : Literal) (index : ℕ) (m : Literal) (id : ClauseId) → IsVisiting s l index → get_or (list_of s.lists l).beside index (Other m) ≡ Other m → id ≡ get_or (ids_of s l) index id → value_under s.assigned.trail m ≡ Free → IsForcedBy s m id.0
pair-forced s l index m id v is entry free =
    let w = entry-watches s l index id v.sound v.within entry in
    let p = pair-at s l index m id w.clause v is (ap (λ (x : ClauseId). held_clause s.arena x.0) (sym entry) ∙ w.held) in
    record {
      clause = w.clause;
      held = w.held;
      forces = record { has = p.other; others = λ x has ne. elim (p.only x has) [ inl same ↦ subst (IsFalse s.assigned.trail) (sym same) v.falsified | inr same ↦ absurd (ne same) ] };
      free = free;
    }

pub entry-any : (s : Watched) (l : Literal) (index : ℕ) (id : ClauseId) → index < length (ids_of s l) → id ≡ get_or (ids_of s l) index id → (d : ClauseId) → get_or (ids_of s l) index d ≡ id
entry-any s l index id low is d = get_or_default (ids_of s l) index d id low ∙ sym is

pub watched-long : (s : Watched) (l : Literal) (index : ℕ) (id : ClauseId) → IsSound s → index < length (ids_of s l) → id ≡ get_or (ids_of s l) index id → 1 < length (literals_at s.arena id.0)
watched-long s l index id ok low is =
    let w = entry-watches s l index id ok low is in
    let same : literals_at s.arena id.0 ≡ w.clause = literals_at-found s.arena id.0 w.clause w.held in
    let long = ap length same in
    let two = w.watch.long in
    omega arith

pub watched-live : (s : Watched) (l : Literal) (index : ℕ) (id : ClauseId) → IsSound s → index < length (ids_of s l) → id ≡ get_or (ids_of s l) index id → IsLive s.arena id.0
watched-live s l index id ok low is = watches-live s.arena id.0 l (entry-watches s l index id ok low is)

found-clause : (s : Watched) (l : Literal) (index : ℕ) (id : ClauseId) (d : ClauseId) (c : Clause) → index < length (ids_of s l) → id ≡ get_or (ids_of s l) index id → held_clause s.arena (get_or (ids_of s l) index d).0 ≡ Some c → literals_at s.arena id.0 ≡ c
found-clause s l index id d c low is held = literals_at-found s.arena id.0 c (ap (λ (x : ClauseId). held_clause s.arena x.0) (sym (entry-any s l index id low is d)) ∙ held)

-- a literal that was read in the clause of the entry
pub has-read : (s : Watched) (l : Literal) (index : ℕ) (id : ClauseId) (lits : Clause) (k : ℕ) (x : Literal) → index < length (ids_of s l) → id ≡ get_or (ids_of s l) index id → lits ≡ literals_at s.arena id.0 → k < length lits → x ≡ get_or lits k x → (d : ClauseId) (c : Clause) → held_clause s.arena (get_or (ids_of s l) index d).0 ≡ Some c → Contains c x
has-read s l index id lits k x low is same within at d c held =
    subst (λ (y : Clause). Contains y x) (same ∙ found-clause s l index id d c low is held) (k, within, sym at)

-- another literal stands beside an entry
right-beside : (s : Watched) (l : Literal) (index : ℕ) (m : Literal) → IsSound s → index < length (ids_of s l) → ((d : ClauseId) (c : Clause) → held_clause s.arena (get_or (ids_of s l) index d).0 ≡ Some c → Contains c m) → IsRightList s.arena l (record { ids = ids_of s l; beside = set (list_of s.lists l).beside index (Blocker m) })
right-beside s l index m ok low has = record {
  watchers = ok.watched.listed.watchers l;
  in_step = length-set (list_of s.lists l).beside index (Blocker m) ∙ ok.watched.listed.in_step l;
  beside = λ k d e within. elim (eqb k index) as (λ b. eqb k index ≡ b → IsBesideOf s.arena l (get_or (ids_of s l) k d) (get_or (set (list_of s.lists l).beside index (Blocker m)) k e)) [
    | true ↦ λ is.
        let same : k ≡ index = eqb-true k index is in
        let step = ok.watched.listed.in_step l in
        subst (λ (j : ℕ). IsBesideOf s.arena l (get_or (ids_of s l) j d) (get_or (set (list_of s.lists l).beside index (Blocker m)) j e)) (sym same)
        (subst (λ (y : Beside). IsBesideOf s.arena l (get_or (ids_of s l) index d) y) (sym (get_or-set_same (list_of s.lists l).beside index (Blocker m) e (omega arith))) (λ c held. has d c held))
    | false ↦ λ is.
        subst (λ (y : Beside). IsBesideOf s.arena l (get_or (ids_of s l) k d) y) (sym (get_or-set_other (list_of s.lists l).beside index k (Blocker m) e (eqb-false k index is))) (ok.watched.listed.beside l k d e within)
  ] refl;
}

pub Continues-beside : (s : Watched) (new : List WatchListView) (l : Literal) (index : ℕ) (m : Literal) → IsSound s → index < length (ids_of s l) → ((d : ClauseId) (c : Clause) → held_clause s.arena (get_or (ids_of s l) index d).0 ≡ Some c → Contains c m) → ChangesList s.lists new l (record { ids = ids_of s l; beside = set (list_of s.lists l).beside index (Blocker m) }) → Continues s (record { arena = s.arena; assigned = s.assigned; lists = new; looked = s.looked; walked = s.walked })
Continues-beside s new l index m ok low has h = record {
  lengthened = IsLengthened-none (shown s);
  sound = record {
    consistent = ok.consistent;
    watched = record {
      listed = listed-from s.arena s.assigned.vars new (let one = h.sized in let two = ok.watched.listed.sized in omega arith) (λ x. elim (same_or_not x l) [
        | inl same ↦ subst (λ (y : Literal). IsRightList s.arena y (list_of new y)) (sym same) (subst (IsRightList s.arena l) (sym h.here) (right-beside s l index m ok low has))
        | inr other ↦ subst (IsRightList s.arena x) (sym (h.others x other)) (right-list s.arena s.assigned.vars s.lists x ok.watched.listed)
      ]);
      settled = ok.watched.settled;
    };
  };
  looked = refl;
  walked = refl;
}

pub visited-beside : (s : Watched) (new : List WatchListView) (l : Literal) (index : ℕ) (b : List Beside) → ChangesList s.lists new l (record { ids = ids_of s l; beside = b }) → HasReached s l (index + 1) → HasVisited s (record { arena = s.arena; assigned = s.assigned; lists = new; looked = s.looked; walked = s.walked }) l index Stays
visited-beside s new l index b h reached =
    let ids : (list_of new l).ids ≡ ids_of s l = ap (λ (w : WatchListView). w.ids) h.here in
    (subst (λ (xs : List ClauseId). (k : ℕ) (d : ClauseId) → k < index + 1 → k < length xs → IsReached s l (get_or xs k d).0) (sym ids) reached, ap length ids)

-- the entries before one that is gone
pub reached-moved : (s new : Watched) (l : Literal) (index : ℕ) → IsVisiting s l index → Continues s new → LosesEntry s new l index → HasVisited s new l index Moved
reached-moved s new l index v on lost =
    let less = lost.shorter in
    (λ k d low within. subst (λ (x : ClauseId). IsReached new l x.0) (sym (lost.before k d low)) (reached-on s new l (get_or (ids_of s l) k d).0 on v.falsified (v.reached k d low (omega arith))), lost.shorter)

-- all literals but the other watch are false
all-but : (t : Trail) (c : Clause) (l : Literal) (place : ℕ) → StandsFirst c l place → IsFalse t l → IsOpenPlace t c None → (k : ℕ) (d : Literal) → k ≢ 1 - place → k < length c → IsFalse t (get_or c k d)
all-but t c l place own falsified rest k d ne low =
    elim (leb_tells 2 k) [
      | inl later ↦ rest k d (let p : 2 ≤ k = later.1 in omega arith) low
      | inr early ↦ let p : k < 2 = early.1 in let f = own.first in let is : k ≡ place = omega (arith, ne) in
          subst (λ (j : ℕ). IsFalse t (get_or c j d)) (sym is) (subst (IsFalse t) (sym (get_or_default c place d l (omega arith) ∙ own.at)) falsified)
    ]

pub unit-falsified : (s : Watched) (l : Literal) (id : ClauseId) (lits : Clause) (other : Literal) (place : ℕ) → IsLive s.arena id.0 → IsFalse s.assigned.trail l → StandsFirst (literals_at s.arena id.0) l place → IsOpenPlace s.assigned.trail (literals_at s.arena id.0) None → lits ≡ literals_at s.arena id.0 → other ≡ get_or lits (1 - place) other → IsFalse s.assigned.trail other → IsFalsified (shown s) id.0
unit-falsified s l id lits other place live falsified own rest same at other_false =
    let c : Clause = literals_at s.arena id.0 in (
      c,
      live-literals_at s.arena id.0 live,
      λ k d low. elim (eqb k (1 - place)) as (λ b. eqb k (1 - place) ≡ b → IsFalse s.assigned.trail (get_or c k d)) [
        | true ↦ λ eq. let is : k ≡ 1 - place = eqb-true k (1 - place) eq in
            subst (λ (j : ℕ). IsFalse s.assigned.trail (get_or c j d)) (sym is) (subst (IsFalse s.assigned.trail) (sym (get_or_default c (1 - place) d other (omega arith) ∙ ap (λ (ys : Clause). get_or ys (1 - place) other) (sym same) ∙ sym at)) other_false)
        | false ↦ λ eq. all-but s.assigned.trail c l place own falsified rest k d (eqb-false k (1 - place) eq) low
      ] refl,
    )

pub unit-forced : (s : Watched) (l : Literal) (id : ClauseId) (lits : Clause) (other : Literal) (place : ℕ) → IsLive s.arena id.0 → IsFalse s.assigned.trail l → StandsFirst (literals_at s.arena id.0) l place → IsOpenPlace s.assigned.trail (literals_at s.arena id.0) None → lits ≡ literals_at s.arena id.0 → 1 < length lits → other ≡ get_or lits (1 - place) other → value_under s.assigned.trail other ≡ Free → IsForcedBy s other id.0
unit-forced s l id lits other place live falsified own rest same long at free =
    let c : Clause = literals_at s.arena id.0 in
    let here : get_or c (1 - place) other ≡ other = ap (λ (ys : Clause). get_or ys (1 - place) other) (sym same) ∙ sym at in
    let some : 1 < length c = subst (λ (ys : Clause). 1 < length ys) same long in
    let low_mate : 1 - place < length c = omega arith in
    record {
      clause = c;
      held = live-literals_at s.arena id.0 live;
      forces = record {
        has = (1 - place, low_mate, here);
        others = λ m (k, low, is) ne. elim (eqb k (1 - place)) as (λ b. eqb k (1 - place) ≡ b → IsFalse s.assigned.trail m) [
          | true ↦ λ eq. let is_mate : k ≡ 1 - place = eqb-true k (1 - place) eq in
              absurd (ne (sym is ∙ ap (λ (j : ℕ). get_or c j m) is_mate ∙ get_or_default c (1 - place) m other low_mate ∙ here))
          | false ↦ λ eq. subst (IsFalse s.assigned.trail) is (all-but s.assigned.trail c l place own falsified rest k m (eqb-false k (1 - place) eq) low)
        ] refl;
      };
      free = free;
    }

-- the visit goes on in what continues
pub visiting-on : (s new : Watched) (l : Literal) (n : ℕ) → l.var < s.assigned.vars → IsFalse s.assigned.trail l → level_at s.assigned.trail l ≡ decisions s.assigned.trail → Continues s new → n < length (ids_of new l) → HasReached new l n → IsVisiting new l n
visiting-on s new l n known falsified present on low reached =
    let trail : new.assigned.trail ≡ s.assigned.trail ++ on.lengthened.added = on.lengthened.trail in
    let vars : new.assigned.vars ≡ s.assigned.vars = on.lengthened.vars in
    let level : level_at new.assigned.trail l ≡ level_at s.assigned.trail l = ap (λ (t : Trail). level_at t l) trail ∙ level_at-longer s.assigned.trail on.lengthened.added l False falsified false≢free in
    record {
      sound = on.sound;
      known = omega arith;
      falsified = ap (λ (t : Trail). value_under t l) trail ∙ kept-value s.assigned.trail on.lengthened.added l False falsified false≢free;
      present = level ∙ present ∙ sym on.lengthened.present;
      within = low;
      reached = reached;
    }

-- a literal that watches a clause stands first or second
pub stands-first : (a : ArenaView) (id : ℕ) (l : Literal) (lits : Clause) (x : Literal) → Watches a id l → lits ≡ literals_at a id → x ≡ get_or lits 0 x → x ≡ l → StandsFirst (literals_at a id) l 0
stands-first a id l lits x w same at is =
    let one : literals_at a id ≡ w.clause = literals_at-found a id w.clause w.held in
    let long : 1 < length (literals_at a id) = subst (λ (d : Clause). 1 < length d) (sym one) w.watch.long in
    record { first = omega arith; at = get_or_default (literals_at a id) 0 l x (omega arith) ∙ ap (λ (d : Clause). get_or d 0 x) (sym same) ∙ sym at ∙ is }

pub stands-second : (a : ArenaView) (id : ℕ) (l : Literal) (lits : Clause) (x : Literal) → Watches a id l → lits ≡ literals_at a id → x ≡ get_or lits 0 x → x ≢ l → StandsFirst (literals_at a id) l 1
stands-second a id l lits x w same at ne =
    let one : literals_at a id ≡ w.clause = literals_at-found a id w.clause w.held in
    let f = w.watch.first in
    let two = w.watch.long in
    record {
      first = omega arith;
      at = elim (leb_tells w.watch.place 0) [
        | inl none ↦ let p : w.watch.place ≤ 0 = none.1 in let is : w.watch.place ≡ 0 = omega arith in
            absurd (ne (at ∙ ap (λ (d : Clause). get_or d 0 x) (same ∙ one) ∙ get_or_default w.clause 0 x l (omega arith) ∙ ap (λ (k : ℕ). get_or w.clause k l) (sym is) ∙ w.watch.at))
        | inr some ↦ let p : 0 < w.watch.place = some.1 in let is : w.watch.place ≡ 1 = omega arith in
            ap (λ (d : Clause). get_or d 1 l) one ∙ ap (λ (k : ℕ). get_or w.clause k l) (sym is) ∙ w.watch.at
      ];
    }

pub watches-long : (a : ArenaView) (id : ℕ) (l : Literal) → Watches a id l → 1 < length (literals_at a id)
watches-long a id l w = subst (λ (d : Clause). 1 < length d) (sym (literals_at-found a id w.clause w.held)) w.watch.long
