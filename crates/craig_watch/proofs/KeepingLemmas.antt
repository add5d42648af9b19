-- Clauses come and go, a decision is made, and the trail goes back.
use Rattle.std.proofs.Common.{◌≡◌, ◌⊎◌, inl, inr, ℕ, ◌+◌, ◌*◌, ◌<◌, ◌≤◌, Bool, true, false, cond, eqb, List, [], ◌∷◌, ◌++◌, length, get_or, Option, Some, None, refl, sym, ap, subst, ◌∙◌, arith, eqb-true}
use Rattle.std.proofs.Common.{Result, Ok, Err}
use Rattle.std.specs.Result.{IfOk, OnErr}
use Rattle.std.specs.Option.{option_map}
use Rattle.std.proofs.lemmas.Bool.Decides.{leb_tells}
use Rattle.std.proofs.Common.{take}
use Rattle.std.proofs.lemmas.List.{length-take-le, take-take}
use Rattle.craig_watch.proofs.LevelsLemmas.{part_up_to-take}
use Rattle.craig_watch.proofs.TrailLemmas.{part_up_to-twice}
use Rattle.craig_watch.proofs.SettledLemmas.{part-at}
use Rattle.craig_spec.specs.Literal.{Literal}
use Rattle.craig_base.specs.declared.clause_id.ClauseId.{ClauseId}
use Rattle.craig_base.specs.Arena.{ArenaView, FlaggedClause, IsArena, ChangesClause, clause_at, with_id}
use Rattle.craig_watch.specs.declared.value.Value.TheVariants.{Free}
use Rattle.craig_watch.specs.declared.watched.Watched.{Watched}
use Rattle.craig_watch.specs.Assigned.{IsTrail}
use Rattle.craig_watch.specs.Trail.{Trail, value_under, part_up_to, decisions}
use Rattle.craig_watch.specs.Held.{HeldView, held_clause, IsComplete, IsConsistent, IsJustified, with_entry}
use Rattle.craig_watch.specs.Watches.{WatchListView, Watches, AreSettled, AreWatched, list_of}
use Rattle.craig_watch.specs.WatchedState.{IsSound, shown}
use Rattle.craig_watch.proofs.AssignedLemmas.{part-whole}
use Rattle.craig_watch.proofs.HeldLemmas.{IsConsistent-numbered, IsConsistent-known, IsConsistent-decided, IsConsistent-flagged, decisions-decided, decision}
use Rattle.craig_watch.proofs.ListedLemmas.{IsRightList, right-list, listed-from, right-same}
use Rattle.craig_watch.proofs.SettledLemmas.{AreSettled-push, AreSettled-reset, AreSettled-back}

-- the same clauses are held
same-watches : (a b : ArenaView) → ((id : ℕ) → held_clause b id ≡ held_clause a id) → (k : ℕ) (l : Literal) → Watches a k l → Watches b k l
same-watches a b same k l w = record { clause = w.clause; held = same k ∙ w.held; watch = w.watch }

pub AreWatched-same : (a b : ArenaView) (vars : ℕ) (t : Trail) (lists : List WatchListView) (looked walked : ℕ) → AreWatched a vars t lists looked walked → a.given ≤ b.given → ((id : ℕ) → held_clause b id ≡ held_clause a id) → AreWatched b vars t lists looked walked
AreWatched-same a b vars t lists looked walked h le same = record {
  listed = listed-from b vars lists h.listed.sized (λ l. right-same a b l (list_of lists l) (right-list a vars lists l h.listed) (λ k. same-watches a b same k l) (λ k. same-watches b a (λ id. sym (same id)) k l) (λ k e has old c is. old c (sym (same k.0) ∙ is)));
  settled = record {
    given = let low = h.settled.given in omega arith;
    within = h.settled.within;
    present = h.settled.present;
    walked_pending_or_waiting = λ id c l held. h.settled.walked_pending_or_waiting id c l (sym (same id) ∙ held);
    short = λ id c held. h.settled.short id c (sym (same id) ∙ held);
  };
}

-- before a decision
decided-settled : (a : ArenaView) (t : Trail) (looked walked now : ℕ) → AreSettled a t looked walked → (((walked < length t) × (now ≡ 0)) ⊎ ((length t ≤ walked) × (now ≡ looked))) → AreSettled a t now (length t)
decided-settled a t looked walked now h (inl (less, is)) = subst (λ (n : ℕ). AreSettled a t n (length t)) (sym is) (AreSettled-reset a t looked walked h)
decided-settled a t looked walked now h (inr (all, is)) =
    let w = h.within in
    let same : walked ≡ length t = omega arith in
    subst (λ (n : ℕ). AreSettled a t n (length t)) (sym is) (subst (λ (n : ℕ). AreSettled a t looked n) same h)

pub decided-sound : (s : Watched) (l : Literal) (level now : ℕ) → IsSound s → l.var < s.assigned.vars → value_under s.assigned.trail l ≡ Free → IsComplete s.arena s.assigned.trail → level ≡ decisions s.assigned.trail + 1 → (((s.walked < length s.assigned.trail) × (now ≡ 0)) ⊎ ((length s.assigned.trail ≤ s.walked) × (now ≡ s.looked))) → IsSound (record s { assigned = record { vars = s.assigned.vars; trail = s.assigned.trail ++ decision l level ∷ [] }; looked = now; walked = length s.assigned.trail })
decided-sound s l level now ok known free complete is which =
    let consistent : IsConsistent (with_entry (shown s) (decision l level)) = IsConsistent-decided (shown s) l level ok.consistent known free complete is in
    let more : decisions (s.assigned.trail ++ decision l level ∷ []) ≡ decisions s.assigned.trail + 1 = decisions-decided (shown s) l level ok.consistent in
    record {
      consistent = consistent;
      watched = record {
        listed = ok.watched.listed;
        settled = AreSettled-push s.arena s.assigned.trail (decision l level) now (length s.assigned.trail) (decided-settled s.arena s.assigned.trail s.looked s.walked now ok.watched.settled which) consistent.distinct (is ∙ sym more) (λ k d behind w. absurd (omega arith));
      };
    }

-- a part of the trail is consistent
pub IsConsistent-part : (h : HeldView) (level : ℕ) → IsConsistent h → level ≤ decisions h.trail → IsTrail h.vars (part_up_to level h.trail) → decisions (part_up_to level h.trail) ≡ level → IsConsistent (record { arena = h.arena; vars = h.vars; trail = part_up_to level h.trail; level = decisions (part_up_to level h.trail); dead = h.dead })
IsConsistent-part h level ok low trail is = record {
  few = ok.few;
  arena = ok.arena;
  clauses = ok.clauses;
  known = trail.known;
  distinct = trail.distinct;
  levels = trail.levels;
  level = refl;
  justified = λ k d w.
      let at = part-at level h.trail k d w in
      let p = part_up_to-take level h.trail in
      let long : length (part_up_to level h.trail) ≡ length (take p.0 h.trail) = ap length p.2 in
      let same : length (take p.0 h.trail) ≡ p.0 = length-take-le p.0 h.trail p.1 in
      let front : take k (part_up_to level h.trail) ≡ take k h.trail = ap (take k) p.2 ∙ take-take k p.0 h.trail (omega arith) in
      subst (λ (u : Trail). IsJustified h.arena u (get_or (part_up_to level h.trail) k d)) (sym front)
      (subst (IsJustified h.arena (take k h.trail)) (sym at.1) (ok.justified k d at.0));
  complete = λ l w. let present = ok.level in subst (IsComplete h.arena) (sym (part_up_to-twice l level h.trail (omega arith))) (ok.complete l (omega arith));
}

-- going back
pub back-sound : (s : Watched) (level n : ℕ) → IsSound s → IsConsistent (record { arena = s.arena; vars = s.assigned.vars; trail = part_up_to level s.assigned.trail; level = decisions (part_up_to level s.assigned.trail); dead = false }) → level ≤ decisions s.assigned.trail → n ≤ s.walked → n ≤ length (part_up_to level s.assigned.trail) → (s.walked ≤ n) ⊎ (length (part_up_to level s.assigned.trail) ≤ n) → IsSound (record s { assigned = record { vars = s.assigned.vars; trail = part_up_to level s.assigned.trail }; walked = n })
back-sound s level n ok consistent low le within all = record {
  consistent = consistent;
  watched = record {
    listed = ok.watched.listed;
    settled = elim (leb_tells (decisions s.assigned.trail) level) [
      | inl high ↦
          let whole : part_up_to level s.assigned.trail ≡ s.assigned.trail = part-whole s.assigned.vars level s.assigned.trail (record { few = ok.consistent.few; known = ok.consistent.known; distinct = ok.consistent.distinct; levels = ok.consistent.levels }) high.1 in
          let long = ap length whole in
          let w = ok.watched.settled.within in
          let same : s.walked ≡ n = elim all [ inl up ↦ omega arith | inr up ↦ omega arith ] in
          subst (λ (t : Trail). AreSettled s.arena t s.looked n) (sym whole) (subst (λ (m : ℕ). AreSettled s.arena s.assigned.trail s.looked m) same ok.watched.settled)
      | inr below ↦ AreSettled-back s.arena s.assigned.trail s.looked s.walked level n ok.watched.settled ok.consistent.levels ok.consistent.distinct below.1 le within all
    ];
  };
}

-- the same after calls of the arena that change no literals
pub numbered-sound : {E : Type 0} (s : Watched) (b : ArenaView) (r : Result ClauseId E) → IsSound s → IsArena b → IfOk r (λ _. b ≡ with_id s.arena) → OnErr r (b ≡ s.arena) → IsSound (record s { arena = b })
numbered-sound {E} s b (Ok id) ok arena numbered unchanged = record {
  consistent = IsConsistent-numbered {E = E} (shown s) b false (Ok id) ok.consistent arena numbered unchanged;
  watched = AreWatched-same s.arena b s.assigned.vars s.assigned.trail s.lists s.looked s.walked ok.watched (let same = ap (λ (a : ArenaView). a.given) numbered in omega arith) (λ k. ap (λ (a : ArenaView). held_clause a k) numbered);
}
numbered-sound {E} s b (Err e) ok arena numbered unchanged = record {
  consistent = IsConsistent-numbered {E = E} (shown s) b false (Err e) ok.consistent arena numbered unchanged;
  watched = AreWatched-same s.arena b s.assigned.vars s.assigned.trail s.lists s.looked s.walked ok.watched (let same = ap (λ (a : ArenaView). a.given) unchanged in omega arith) (λ k. ap (λ (a : ArenaView). held_clause a k) unchanged);
}

flags-same : (b : Bool) (o p : Option FlaggedClause) (g : FlaggedClause → FlaggedClause) → ((f : FlaggedClause) → (g f).literals ≡ f.literals) → (b ≡ true → p ≡ o) → option_map (λ f. f.literals) (cond b (option_map g o) p) ≡ option_map (λ f. f.literals) p
flags-same true (Some f) p g same at = ap Some (same f) ∙ ap (option_map (λ (f : FlaggedClause). f.literals)) (sym (at refl))
flags-same true None p g same at = ap (option_map (λ (f : FlaggedClause). f.literals)) (sym (at refl))
flags-same false o p g same at = refl

pub flagged-sound : (s : Watched) (b : ArenaView) (id : ℕ) (g : FlaggedClause → FlaggedClause) → IsSound s → IsArena b → b.given ≡ s.arena.given → ChangesClause s.arena b id g → ((f : FlaggedClause) → (g f).literals ≡ f.literals) → IsSound (record s { arena = b })
flagged-sound s b id g ok arena given only same = record {
  consistent = IsConsistent-flagged (shown s) b g id ok.consistent arena only same;
  watched = AreWatched-same s.arena b s.assigned.vars s.assigned.trail s.lists s.looked s.walked ok.watched (omega arith) (λ k. ap (option_map (λ (f : FlaggedClause). f.literals)) (only k) ∙ flags-same (eqb k id) (clause_at s.arena id) (clause_at s.arena k) g same (λ is. ap (clause_at s.arena) (eqb-true k id is)));
}

-- more variables
pub grown-sound : (s : Watched) (vars : ℕ) (lists : List WatchListView) → IsSound s → s.assigned.vars ≤ vars → vars ≤ 2147483648 → 2 * vars ≤ length lists → ((l : Literal) → list_of lists l ≡ list_of s.lists l) → IsSound (record s { assigned = record { vars = vars; trail = s.assigned.trail }; lists = lists })
grown-sound s vars lists ok more few sized same = record {
  consistent = IsConsistent-known (shown s) vars ok.consistent more few;
  watched = record {
    listed = listed-from s.arena vars lists sized (λ l. subst (IsRightList s.arena l) (sym (same l)) (right-list s.arena s.assigned.vars s.lists l ok.watched.listed));
    settled = ok.watched.settled;
  };
}
