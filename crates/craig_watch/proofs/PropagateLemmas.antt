-- Propagation goes on from clause to clause and from list to list.
use Rattle.std.proofs.Common.{◌≡◌, ℕ, ◌+◌, ◌<◌, ◌≤◌, List, ◌++◌, length, get_or, map, Some, None, sym, ap, subst, ◌∙◌, arith}
use Rattle.std.proofs.lemmas.List.{get_or-map, get_or_append_left, length-map, length-append}
use Rattle.craig_spec.specs.Literal.{Literal, Clause, negation}
use Rattle.craig_spec.proofs.LiteralLemmas.{negation_twice}
use Rattle.craig_base.specs.declared.clause_id.ClauseId.{ClauseId}
use Rattle.craig_watch.specs.declared.trail_entry.TrailEntry.{TrailEntry}
use Rattle.craig_watch.specs.declared.watched.Watched.{Watched}
use Rattle.craig_watch.specs.Trail.{Trail, any_entry, IsFalse, level_at, decisions}
use Rattle.craig_watch.specs.Held.{HeldView, held_clause, IsComplete, IsLengthened}
use Rattle.craig_watch.specs.Watches.{AreSettled, IsWatch, HasTrueUpTo}
use Rattle.craig_watch.specs.WatchedState.{Continues, HasLookedAt, HasReached, IsSound, ids_of, shown}
use Rattle.craig_watch.proofs.TrailLemmas.{length-le_from_known}
use Rattle.craig_watch.proofs.PlacesLemmas.{false-place}
use Rattle.craig_watch.proofs.SettledLemmas.{level-place, AreSettled-walked, AreSettled-looked, IsComplete-settled}
use Rattle.craig_watch.proofs.StateLemmas.{IsLengthened-twice}

-- one clause more was looked at
pub looked-on : (old s new : Watched) → IsLengthened (shown old) (shown s) → Continues s new → s.looked < s.arena.given → HasLookedAt new s.looked None → IsLengthened (shown old) (shown (record new { looked = new.looked + 1 })) × IsSound (record new { looked = new.looked + 1 }) × (new.arena.given ≡ s.arena.given) × (new.looked ≡ s.looked)
looked-on old s new before on more looked =
    let given : new.arena.given ≡ s.arena.given = on.lengthened.clauses.given in
    let same : new.looked ≡ s.looked = on.looked in
    let done : HasLookedAt new new.looked None = subst (λ (n : ℕ). HasLookedAt new n None) (sym same) looked in (
      IsLengthened-twice (shown old) (shown s) (shown new) before on.lengthened,
      record {
        consistent = on.sound.consistent;
        watched = record {
          listed = on.sound.watched.listed;
          settled = AreSettled-looked new.arena new.assigned.trail new.looked new.walked on.sound.watched.settled (omega arith) done.0 done.1;
        };
      },
      given,
      same,
    )

-- the literal that a place of the trail made false
pub walk-ready : (s : Watched) (lits : List Literal) (x m : Literal) → IsSound s → lits ≡ map (λ e. e.literal) s.assigned.trail → s.walked < length lits → x ≡ get_or lits s.walked x → m ≡ negation x → (m.var < s.assigned.vars) × IsFalse s.assigned.trail m × (level_at s.assigned.trail m ≡ decisions s.assigned.trail) × ((d : TrailEntry) → (get_or s.assigned.trail s.walked d).literal ≡ negation m)
walk-ready s lits x m ok same low at is =
    let t : Trail = s.assigned.trail in
    let long : length lits ≡ length t = ap length same ∙ length-map t (λ (e : TrailEntry). e.literal) in
    let within : s.walked < length t = omega arith in
    let here : (d : TrailEntry) → (get_or t s.walked d).literal ≡ negation m = λ d.
    sym (get_or-map (λ (e : TrailEntry). e.literal) t s.walked d x within) ∙ ap (λ (ls : List Literal). get_or ls s.walked x) (sym same) ∙ sym at ∙ sym (negation_twice x) ∙ ap negation (sym is) in
    let var : (get_or t s.walked any_entry).literal.var ≡ m.var = ap (λ (l : Literal). l.var) (here any_entry) in
    let known : (get_or t s.walked any_entry).literal.var < s.assigned.vars = ok.consistent.known s.walked any_entry within in (
      omega arith,
      false-place t s.walked any_entry m ok.consistent.distinct within (here any_entry),
      level-place t s.walked any_entry m ok.consistent.distinct within (here any_entry) ∙ ok.watched.settled.present s.walked any_entry (omega arith) within,
      here,
    )

longer : (old new : HeldView) → IsLengthened old new → length old.trail ≤ length new.trail
longer old new h =
    let same : length new.trail ≡ length (old.trail ++ h.added) = ap length h.trail in
    let both : length (old.trail ++ h.added) ≡ length old.trail + length h.added = length-append old.trail h.added in
    omega arith

-- each clause of the list was reached
reached-clause : (s : Watched) (m : Literal) (id : ℕ) (c : Clause) → IsSound s → held_clause s.arena id ≡ Some c → IsWatch c m → HasReached s m (length (ids_of s m)) → HasTrueUpTo s.assigned.trail c (level_at s.assigned.trail m)
reached-clause s m id c ok held w reached =
    let this : ClauseId = record { 0 = id } in
    let has = ((ok.watched.listed.watchers m).exact this).1 (record { clause = c; held = held; watch = w }) in
    reached has.0 this has.1 has.1 c (ap (λ (x : ClauseId). held_clause s.arena x.0) has.2 ∙ held)

-- the list of one literal more was walked
pub walked-on : (old s new : Watched) (m : Literal) → IsLengthened (shown old) (shown s) → s.looked ≡ s.arena.given → Continues s new → s.walked < length s.assigned.trail → ((d : TrailEntry) → (get_or s.assigned.trail s.walked d).literal ≡ negation m) → HasReached new m (length (ids_of new m)) → IsLengthened (shown old) (shown (record new { walked = new.walked + 1 })) × IsSound (record new { walked = new.walked + 1 }) × (new.looked ≡ new.arena.given) × (new.walked ≡ s.walked) × (new.assigned.vars ≡ s.assigned.vars)
walked-on old s new m before looked on low at reached =
    let trail : new.assigned.trail ≡ s.assigned.trail ++ on.lengthened.added = on.lengthened.trail in
    let same : new.walked ≡ s.walked = on.walked in
    let more : length s.assigned.trail ≤ length new.assigned.trail = longer (shown s) (shown new) on.lengthened in
    let here : (d : TrailEntry) → (get_or new.assigned.trail new.walked d).literal ≡ negation m = λ d.
    ap (λ (n : ℕ). (get_or new.assigned.trail n d).literal) same ∙ ap (λ (t : Trail). (get_or t s.walked d).literal) trail ∙ ap (λ (e : TrailEntry). e.literal) (get_or_append_left s.assigned.trail on.lengthened.added d s.walked low) ∙ at d in (
      IsLengthened-twice (shown old) (shown s) (shown new) before on.lengthened,
      record {
        consistent = on.sound.consistent;
        watched = record {
          listed = on.sound.watched.listed;
          settled = AreSettled-walked new.arena new.assigned.trail new.looked new.walked m on.sound.watched.settled (omega arith) here (λ id c held w. reached-clause new m id c on.sound held w reached);
        };
      },
      on.looked ∙ looked ∙ sym on.lengthened.clauses.given,
      same,
      on.lengthened.vars,
    )

-- where nothing waits and nothing is pending
pub all-complete : (s : Watched) → IsSound s → s.looked ≡ s.arena.given → length s.assigned.trail ≤ s.walked → IsComplete s.arena s.assigned.trail
all-complete s ok looked walked =
    let within = ok.watched.settled.within in
    let is : s.walked ≡ length s.assigned.trail = omega arith in
    IsComplete-settled (shown s) (subst (λ (n : ℕ). AreSettled s.arena s.assigned.trail n (length s.assigned.trail)) looked (subst (λ (n : ℕ). AreSettled s.arena s.assigned.trail s.looked n) is ok.watched.settled)) ok.consistent

-- no more literals are assigned than are known
pub walked-few : (s : Watched) → IsSound s → s.walked < length s.assigned.trail → s.walked < s.assigned.vars
walked-few s ok low =
    let few : length s.assigned.trail ≤ s.assigned.vars = length-le_from_known s.assigned.trail s.assigned.vars ok.consistent.known ok.consistent.distinct in
    omega arith
