-- Held clauses and their trail stay consistent when a clause comes or goes, and when the trail changes.
use Rattle.std.proofs.Common.{◌≡◌, ◌≢◌, ◌⊎◌, inl, inr, ℕ, suc, ◌+◌, ◌<◌, ◌≤◌, Bool, true, false, cond, eqb, List, [], ◌∷◌, ◌++◌, length, get_or, All, Contains, Option, Some, None, is_none, refl, sym, ap, subst, ◌∙◌, arith, eqb-true}
use Rattle.std.proofs.Common.{Result, Ok, Err}
use Rattle.std.specs.Result.{IfOk, OnErr}
use Rattle.std.specs.Option.{option_map}
use Rattle.std.proofs.lemmas.Grind.{common_steps}
use Rattle.std.proofs.lemmas.List.{length_push, get_or_append_left}
use Rattle.std.proofs.lemmas.Bool.Decides.{leb_tells}
use Rattle.std.proofs.lemmas.List.Sums.{count_by-le-length}
use Rattle.std.proofs.lemmas.List.Elements.{All-contains, All-push}
use Rattle.std.proofs.lemmas.List.Quantifiers.{all_pairs_push}
use Rattle.craig_spec.specs.Literal.{Literal, Clause}
use Rattle.craig_base.specs.declared.clause_id.ClauseId.{ClauseId}
use Rattle.craig_base.specs.Arena.{ArenaView, FlaggedClause, LiveClause, IsArena, clause_of, clause_at, with_id, ChangesOnly, ChangesClause}
use Rattle.craig_base.specs.Clauses.{IsNormal}
use Rattle.craig_watch.specs.declared.trail_entry.TrailEntry.{TrailEntry}
use Rattle.craig_watch.specs.declared.value.Value.{Value}
use Rattle.craig_watch.specs.declared.value.Value.TheVariants.{True, False, Free}
use Rattle.craig_watch.specs.Trail.{Trail, value_under, IsFalse, part_up_to, decisions}
use Rattle.craig_watch.specs.Held.{HeldView, held_clause, IsSettled, IsComplete, IsCompleteBelow, Forces, IsJustified, AreClauses, IsConsistent, with_entry, HasTwoNotFalse, IsAsserting, MayBeHeld}
use Rattle.craig_watch.proofs.TrailLemmas.{entry_of-free, absent-entry_of, value_under-part, value_under-part_free, value_under-absent, entry_of-part_above, part_up_to-push, part_up_to-whole, each_push, each_popped, AreLevels-push, AreLevels-popped, levels-bounded, level-last, length-le_from_known, decisions-push}

-- another arena under the same trail
pub IsConsistent-arena : (h : HeldView) (a : ArenaView) (dead : Bool) → IsConsistent h → IsArena a → AreClauses a h.vars → IsCompleteBelow a h.trail h.level → ((k : ℕ) (d : TrailEntry) (id : ClauseId) (c : Clause) → k < length h.trail → (get_or h.trail k d).reason ≡ Some id → held_clause h.arena id.0 ≡ Some c → held_clause a id.0 ≡ Some c) → IsConsistent (record { arena = a; vars = h.vars; trail = h.trail; level = decisions h.trail; dead = dead })
IsConsistent-arena h a dead ok arena clauses complete kept = record {
  few = ok.few;
  arena = arena;
  clauses = clauses;
  known = ok.known;
  distinct = ok.distinct;
  levels = ok.levels;
  level = refl;
  justified = λ k d w id is. let j = ok.justified k d w id is in (j.0, kept k d id j.0 w is j.1, j.2);
  complete = λ l w. complete l (rw ok.level w);
}

-- fewer clauses
pub IsConsistent-fewer : (h : HeldView) (a : ArenaView) (dead : Bool) → IsConsistent h → IsArena a → ((id : ℕ) (c : Clause) → held_clause a id ≡ Some c → held_clause h.arena id ≡ Some c) → ((k : ℕ) (d : TrailEntry) (id : ClauseId) (c : Clause) → k < length h.trail → (get_or h.trail k d).reason ≡ Some id → held_clause h.arena id.0 ≡ Some c → held_clause a id.0 ≡ Some c) → IsConsistent (record { arena = a; vars = h.vars; trail = h.trail; level = decisions h.trail; dead = dead })
IsConsistent-fewer h a dead ok arena sub kept =
    IsConsistent-arena h a dead ok arena (λ id c is. ok.clauses id c (sub id c is)) (λ l w id c is. ok.complete l w id c (sub id c is)) kept

-- the same clauses
pub IsConsistent-same : (h : HeldView) (a : ArenaView) (dead : Bool) → IsConsistent h → IsArena a → ((id : ℕ) → held_clause a id ≡ held_clause h.arena id) → IsConsistent (record { arena = a; vars = h.vars; trail = h.trail; level = decisions h.trail; dead = dead })
IsConsistent-same h a dead ok arena same =
    IsConsistent-fewer h a dead ok arena (λ id c is. sym (same id) ∙ is) (λ k d id c w is held. same id.0 ∙ held)

-- without the clause of an id
without-sub : (b : Bool) (o : Option FlaggedClause) (c : Clause) → option_map (λ f. f.literals) (cond b None o) ≡ Some c → option_map (λ f. f.literals) o ≡ Some c
without-sub true o c is = absurd (let no : None ≡ Some c = is in cc)
without-sub false o c is = is

without-kept : (b : Bool) (o : Option FlaggedClause) (c : Clause) → (b ≡ true → ⊥) → option_map (λ f. f.literals) o ≡ Some c → option_map (λ f. f.literals) (cond b None o) ≡ Some c
without-kept true o c other is = absurd (other refl)
without-kept false o c other is = is

abbrev clause_id : ℕ → ClauseId
clause_id n = record { 0 = n }

pub IsConsistent-without : (h : HeldView) (a : ArenaView) (id : ClauseId) → IsConsistent h → IsArena a → ChangesOnly h.arena a id.0 None → All (λ e. e.reason ≢ Some id) h.trail → IsConsistent (record { arena = a; vars = h.vars; trail = h.trail; level = decisions h.trail; dead = h.dead })
IsConsistent-without h a id ok arena only free =
    IsConsistent-fewer h a h.dead ok arena (λ k c is. without-sub (eqb k id.0) (clause_at h.arena k) c (ap (option_map (λ (f : FlaggedClause). f.literals)) (sym (only k)) ∙ is))
    (λ k d r c w is held.
    ap (option_map (λ (f : FlaggedClause). f.literals)) (only r.0) ∙ without-kept (eqb r.0 id.0) (clause_at h.arena r.0) c (λ e. free k d w (is ∙ ap Some (ap clause_id (eqb-true r.0 id.0 e)))) held)

-- under the next id nothing is held
clause_of-given : (cs : List LiveClause) (n : ℕ) → All (λ c. c.id < n) cs → clause_of cs n ≡ None
clause_of-given [] n h = refl
clause_of-given (c ∷ cs) n h =
    let low : c.id < n = h 0 c (omega arith) in
    let ne : eqb c.id n ≡ false = grind (arith, common_steps) in
    rw ne (clause_of-given cs n (λ k d w. h (suc k) d (omega arith)))

pub held_clause-given : (a : ArenaView) → IsArena a → held_clause a a.given ≡ None
held_clause-given a h = ap (option_map (λ (f : FlaggedClause). f.literals)) (clause_of-given a.clauses a.given h.below)

-- what is not false is not false in a part
not_false-part : (level : ℕ) (t : Trail) (l : Literal) → value_under t l ≢ False → value_under (part_up_to level t) l ≢ False
not_false-part level t l ne is =
    elim (value_under-part level t l) [ inl free ↦ (let no : Free ≡ False = sym free ∙ is in cc) | inr same ↦ ne (sym same ∙ is) ]

by_value : (v : Value) → v ≢ False → (v ≡ True) ⊎ (v ≡ Free)
by_value True ne = inl refl
by_value False ne = absurd (ne refl)
by_value Free ne = inr refl

-- a literal that isn't false is true or free
not_false-cases : (t : Trail) (l : Literal) → value_under t l ≢ False → (value_under t l ≡ True) ⊎ (value_under t l ≡ Free)
not_false-cases t l ne = by_value (value_under t l) ne

settled-two : (t : Trail) (c : Clause) → HasTwoNotFalse t c → IsSettled t c
settled-two t c (l, m, has_l, has_m, differ, l_not, m_not) =
    elim (not_false-cases t l l_not) [
      | inl true_l ↦ inl (l, has_l, true_l)
      | inr free_l ↦ elim (not_false-cases t m m_not) [ inl true_m ↦ inl (m, has_m, true_m) | inr free_m ↦ inr (l, m, has_l, has_m, differ, free_l, free_m) ]
    ]

Contains-first : (l : Literal) (c : Clause) → Contains (l ∷ c) l
Contains-first l c = (0, omega arith, refl)

Contains-later : (l : Literal) (c : Clause) (m : Literal) → Contains c m → Contains (l ∷ c) m
Contains-later l c m (k, within, is) = (suc k, omega arith, is)

-- a clause that may be held is settled at each lower level
settled-asserting : (t : Trail) (level l : ℕ) (c : Clause) → IsAsserting t level c → l < level → IsSettled (part_up_to l t) c
settled-asserting t level l c h below =
    let has_first : Contains c h.first = subst (λ (x : Clause). Contains x h.first) (sym h.parts) (Contains-first h.first h.rest) in
    let has_last : Contains c h.last = subst (λ (x : Clause). Contains x h.last) (sym h.parts) (Contains-later h.first h.rest h.last h.has_last) in
    let last_false : value_under t h.last ≡ False = All-contains (IsFalse t) h.rest h.last h.others h.has_last in
    let differ : h.first ≢ h.last = λ e. (let no : Free ≡ False = sym h.free ∙ ap (value_under t) e ∙ last_false in cc) in
    let high : l < h.last_entry.level = rw h.last_level below in
    let last_free : value_under (part_up_to l t) h.last ≡ Free = value_under-absent (part_up_to l t) h.last (entry_of-part_above l t h.last.var h.last_entry h.last_is high) in
    inr (h.first, h.last, has_first, has_last, differ, value_under-part_free l t h.first h.free, last_free)

settled-may_be_held : (h : HeldView) (c : Clause) (l : ℕ) → MayBeHeld h c → l < h.level → IsSettled (part_up_to l h.trail) c
settled-may_be_held h c l may below =
    elim may [
      | inl ground_level ↦ absurd (omega arith)
      | inr above ↦ elim above [
        | inl two ↦ settled-two (part_up_to l h.trail) c (two.0, two.1, two.2, two.3, two.4, not_false-part l h.trail two.0 two.5, not_false-part l h.trail two.1 two.6)
        | inr asserting ↦ settled-asserting h.trail h.level l c asserting below
      ]
    ]

-- one clause more
with_clause-cases : (b : Bool) (o : Option FlaggedClause) (f : FlaggedClause) (c : Clause) → option_map (λ g. g.literals) (cond b (Some f) o) ≡ Some c → (f.literals ≡ c) ⊎ (option_map (λ g. g.literals) o ≡ Some c)
with_clause-cases true o f c is = inl (let same : Some f.literals ≡ Some c = is in cc)
with_clause-cases false o f c is = inr is

with-kept : (b : Bool) (o : Option FlaggedClause) (f : FlaggedClause) (c : Clause) → (b ≡ true → ⊥) → option_map (λ g. g.literals) o ≡ Some c → option_map (λ g. g.literals) (cond b (Some f) o) ≡ Some c
with-kept true o f c other is = absurd (other refl)
with-kept false o f c other is = is

pub IsConsistent-with : (h : HeldView) (a : ArenaView) (f : FlaggedClause) (dead : Bool) → IsConsistent h → IsArena a → ChangesOnly h.arena a h.arena.given (Some f) → IsNormal f.literals → All (λ l. l.var < h.vars) f.literals → MayBeHeld h f.literals → IsConsistent (record { arena = a; vars = h.vars; trail = h.trail; level = decisions h.trail; dead = dead })
IsConsistent-with h a f dead ok arena only normal known may =
    let held : (k : ℕ) → held_clause a k ≡ option_map (λ g. g.literals) (cond (eqb k h.arena.given) (Some f) (clause_at h.arena k)) = λ k. ap (option_map (λ (g : FlaggedClause). g.literals)) (only k) in
    let cases : (k : ℕ) (c : Clause) → held_clause a k ≡ Some c → (f.literals ≡ c) ⊎ (held_clause h.arena k ≡ Some c) = λ k c is. with_clause-cases (eqb k h.arena.given) (clause_at h.arena k) f c (sym (held k) ∙ is) in
    IsConsistent-arena h a dead ok arena
    (λ k c is. elim (cases k c is) [ inl same ↦ (subst IsNormal same normal, subst (λ (x : Clause). All (λ l. l.var < h.vars) x) same known) | inr old ↦ ok.clauses k c old ])
    (λ l w k c is. elim (cases k c is) [ inl same ↦ subst (IsSettled (part_up_to l h.trail)) same (settled-may_be_held h f.literals l may w) | inr old ↦ ok.complete l w k c old ])
    (λ k d r c w is old. held r.0 ∙ with-kept (eqb r.0 h.arena.given) (clause_at h.arena r.0) f c (λ e. (let no : None ≡ Some c = sym (held_clause-given h.arena ok.arena) ∙ ap (held_clause h.arena) (sym (eqb-true r.0 h.arena.given e)) ∙ old in cc)) old)

-- one literal more on the trail
pub IsConsistent-push : (h : HeldView) (e : TrailEntry) → IsConsistent h → e.literal.var < h.vars → value_under h.trail e.literal ≡ Free → IsJustified h.arena h.trail e → e.level ≡ decisions (h.trail ++ e ∷ []) → ((l : ℕ) → l < decisions (h.trail ++ e ∷ []) → IsComplete h.arena (part_up_to l h.trail)) → IsConsistent (with_entry h e)
IsConsistent-push h e ok known free justified level complete =
    let absent = absent-entry_of h.trail e.literal.var (entry_of-free h.trail e.literal free) in
    record {
      few = ok.few;
      arena = ok.arena;
      clauses = ok.clauses;
      known = All-push (λ f. f.literal.var < h.vars) h.trail e ok.known known;
      distinct = all_pairs_push (λ f g. f.literal.var ≢ g.literal.var) h.trail e ok.distinct absent;
      levels = AreLevels-push h.trail e ok.levels level;
      level = refl;
      justified = each_push (IsJustified h.arena) h.trail e ok.justified justified;
      complete = λ l w. subst (IsComplete h.arena) (sym (part_up_to-push l h.trail e (rw level w))) (complete l w);
    }

-- and one less
pub IsConsistent-popped : (a : ArenaView) (vars : ℕ) (t : Trail) (e : TrailEntry) (level : ℕ) (dead : Bool) → IsConsistent (record { arena = a; vars = vars; trail = t ++ e ∷ []; level = level; dead = dead }) → IsConsistent (record { arena = a; vars = vars; trail = t; level = decisions t; dead = dead })
IsConsistent-popped a vars t e level dead ok =
    let long : length (t ++ e ∷ []) ≡ length t + 1 = length_push t e in
    let same : (k : ℕ) (d : TrailEntry) → k < length t → get_or (t ++ e ∷ []) k d ≡ get_or t k d = λ k d w. get_or_append_left t (e ∷ []) d k w in
    let last : e.level ≡ decisions (t ++ e ∷ []) = level-last t e ok.levels in
    let more : decisions (t ++ e ∷ []) ≡ decisions t + cond (is_none e.reason) 1 0 = decisions-push t e in
    let present : level ≡ decisions (t ++ e ∷ []) = ok.level in
    record {
      few = ok.few;
      arena = ok.arena;
      clauses = ok.clauses;
      known = λ k d w. subst (λ (f : TrailEntry). f.literal.var < vars) (same k d w) (ok.known k d (omega arith));
      distinct = λ i j d before w. subst (λ (f : TrailEntry). f.literal.var ≢ (get_or t j d).literal.var) (same i d (omega arith)) (subst (λ (f : TrailEntry). (get_or (t ++ e ∷ []) i d).literal.var ≢ f.literal.var) (same j d w) (ok.distinct i j d before (omega arith)));
      levels = AreLevels-popped t e ok.levels;
      level = refl;
      justified = each_popped (IsJustified a) t e ok.justified;
      complete = λ l w. subst (IsComplete a) (part_up_to-push l t e (omega arith)) (ok.complete l (omega arith));
    }

-- the same after a call of the arena that may lack memory
pub IsConsistent-numbered : {E : Type 0} (h : HeldView) (a : ArenaView) (dead : Bool) (r : Result ClauseId E) → IsConsistent h → IsArena a → IfOk r (λ id. a ≡ with_id h.arena) → OnErr r (a ≡ h.arena) → IsConsistent (record { arena = a; vars = h.vars; trail = h.trail; level = decisions h.trail; dead = dead })
IsConsistent-numbered h a dead (Ok id) ok arena numbered unchanged = IsConsistent-same h a dead ok arena (λ k. ap (λ (b : ArenaView). held_clause b k) numbered)
IsConsistent-numbered h a dead (Err e) ok arena numbered unchanged = IsConsistent-same h a dead ok arena (λ k. ap (λ (b : ArenaView). held_clause b k) unchanged)

pub IsConsistent-added : {E : Type 0} (h : HeldView) (a : ArenaView) (f : FlaggedClause) (dead : Bool) (r : Result ClauseId E) → IsConsistent h → IsArena a → IfOk r (λ id. id.0 ≡ h.arena.given) → IfOk r (λ id. ChangesOnly h.arena a id.0 (Some f)) → OnErr r (a ≡ h.arena) → IsNormal f.literals → All (λ l. l.var < h.vars) f.literals → MayBeHeld h f.literals → IsConsistent (record { arena = a; vars = h.vars; trail = h.trail; level = decisions h.trail; dead = dead })
IsConsistent-added h a f dead (Ok id) ok arena next only unchanged normal known may =
    IsConsistent-with h a f dead ok arena (subst (λ (n : ℕ). ChangesOnly h.arena a n (Some f)) next only) normal known may
IsConsistent-added h a f dead (Err e) ok arena next only unchanged normal known may = IsConsistent-same h a dead ok arena (λ k. ap (λ (b : ArenaView). held_clause b k) unchanged)

-- other flags
flags-same : (b : Bool) (o : Option FlaggedClause) (g : FlaggedClause → FlaggedClause) → ((f : FlaggedClause) → (g f).literals ≡ f.literals) → option_map (λ f. f.literals) (cond b (option_map g o) o) ≡ option_map (λ f. f.literals) o
flags-same true (Some f) g same = ap Some (same f)
flags-same true None g same = refl
flags-same false o g same = refl

flags-at : (b : Bool) (k id : ℕ) (a : ArenaView) (g : FlaggedClause → FlaggedClause) → eqb k id ≡ b → ((f : FlaggedClause) → (g f).literals ≡ f.literals) → option_map (λ f. f.literals) (cond b (option_map g (clause_at a id)) (clause_at a k)) ≡ option_map (λ f. f.literals) (clause_at a k)
flags-at true k id a g is same = flags-same true (clause_at a id) g same ∙ ap (λ (n : ℕ). option_map (λ (f : FlaggedClause). f.literals) (clause_at a n)) (sym (eqb-true k id is))
flags-at false k id a g is same = refl

pub IsConsistent-flagged : (h : HeldView) (a : ArenaView) (g : FlaggedClause → FlaggedClause) (id : ℕ) → IsConsistent h → IsArena a → ChangesClause h.arena a id g → ((f : FlaggedClause) → (g f).literals ≡ f.literals) → IsConsistent (record { arena = a; vars = h.vars; trail = h.trail; level = decisions h.trail; dead = h.dead })
IsConsistent-flagged h a g id ok arena only same =
    IsConsistent-same h a h.dead ok arena (λ k. ap (option_map (λ (f : FlaggedClause). f.literals)) (only k) ∙ flags-at (eqb k id) k id h.arena g refl same)

-- more known variables
pub IsConsistent-known : (h : HeldView) (vars : ℕ) → IsConsistent h → h.vars ≤ vars → vars ≤ 2147483648 → IsConsistent (record { arena = h.arena; vars = vars; trail = h.trail; level = decisions h.trail; dead = h.dead })
IsConsistent-known h vars ok more few = record {
  few = few;
  arena = ok.arena;
  clauses = λ id c is. ((ok.clauses id c is).0, λ k d w. let low = (ok.clauses id c is).1 k d w in omega arith);
  known = λ k d w. let low = ok.known k d w in omega arith;
  distinct = ok.distinct;
  levels = ok.levels;
  level = refl;
  justified = ok.justified;
  complete = λ l w. ok.complete l (rw ok.level w);
}

-- the level is no greater than the number of variables
pub level-bounded : (h : HeldView) → IsConsistent h → h.level ≤ h.vars
level-bounded h ok =
    let counted : decisions h.trail ≤ length h.trail = count_by-le-length (λ (e : TrailEntry). is_none e.reason) h.trail in
    let few : length h.trail ≤ h.vars = length-le_from_known h.trail h.vars ok.known ok.distinct in
    let is : h.level ≡ decisions h.trail = ok.level in
    omega arith

-- where a level is open, something is assigned
pub trail-open : (h : HeldView) → IsConsistent h → 0 < h.level → 0 < length h.trail
trail-open h ok open_level =
    let counted : decisions h.trail ≤ length h.trail = count_by-le-length (λ (e : TrailEntry). is_none e.reason) h.trail in
    let is : h.level ≡ decisions h.trail = ok.level in
    omega arith

-- up to the present level the part is the whole trail
pub part_up_to-present : (h : HeldView) (l : ℕ) → IsConsistent h → h.level ≤ l → part_up_to l h.trail ≡ h.trail
part_up_to-present h l ok high =
    let is : h.level ≡ decisions h.trail = ok.level in
    part_up_to-whole l h.trail (λ k d w. let low : (get_or h.trail k d).level ≤ decisions h.trail = levels-bounded h.trail ok.levels k d w in omega arith)

-- a decision where propagation is complete
abbrev pub decision : Literal → ℕ → TrailEntry
decision l n = record { literal = l; level = n; reason = None }

pub decisions-decided : (h : HeldView) (l : Literal) (n : ℕ) → IsConsistent h → decisions (h.trail ++ decision l n ∷ []) ≡ h.level + 1
decisions-decided h l n ok =
    let more : decisions (h.trail ++ decision l n ∷ []) ≡ decisions h.trail + 1 = decisions-push h.trail (decision l n) in
    let is : h.level ≡ decisions h.trail = ok.level in
    omega arith

pub IsConsistent-decided : (h : HeldView) (l : Literal) (n : ℕ) → IsConsistent h → l.var < h.vars → value_under h.trail l ≡ Free → IsComplete h.arena h.trail → n ≡ h.level + 1 → IsConsistent (with_entry h (decision l n))
IsConsistent-decided h l n ok known free complete next =
    let more : decisions (h.trail ++ decision l n ∷ []) ≡ h.level + 1 = decisions-decided h l n ok in
    IsConsistent-push h (decision l n) ok known free (λ id is. absurd (let no : None ≡ Some id = is in cc)) (next ∙ sym more)
    (λ m w. elim (leb_tells (suc m) h.level) [
      | inl here ↦ ok.complete m here.1
      | inr gone ↦ let past : h.level < suc m = gone.1 in subst (IsComplete h.arena) (sym (part_up_to-present h m ok (omega arith))) complete
    ])

-- a literal that a held clause forces
abbrev pub forced : Literal → ℕ → ClauseId → TrailEntry
forced l n id = record { literal = l; level = n; reason = Some id }

pub decisions-forced : (h : HeldView) (l : Literal) (n : ℕ) (id : ClauseId) → IsConsistent h → decisions (h.trail ++ forced l n id ∷ []) ≡ h.level
decisions-forced h l n id ok =
    let more : decisions (h.trail ++ forced l n id ∷ []) ≡ decisions h.trail + 0 = decisions-push h.trail (forced l n id) in
    let is : h.level ≡ decisions h.trail = ok.level in
    omega arith

pub IsConsistent-forced : (h : HeldView) (l : Literal) (n : ℕ) (id : ClauseId) (c : Clause) → IsConsistent h → held_clause h.arena id.0 ≡ Some c → Forces h.trail c l → value_under h.trail l ≡ Free → n ≡ h.level → IsConsistent (with_entry h (forced l n id))
IsConsistent-forced h l n id c ok held forces free level =
    let same : decisions (h.trail ++ forced l n id ∷ []) ≡ h.level = decisions-forced h l n id ok in
    IsConsistent-push h (forced l n id) ok (All-contains (λ m. m.var < h.vars) c l (ok.clauses id.0 c held).1 forces.has) free
    (λ r is. let e : id ≡ r = cc in (c, subst (λ (x : ClauseId). held_clause h.arena x.0 ≡ Some c) e held, forces))
    (level ∙ sym same) (λ m w. ok.complete m (omega arith))
