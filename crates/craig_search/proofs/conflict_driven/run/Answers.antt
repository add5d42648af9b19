use Rattle.std.proofs.Common.{◌≡◌, ℕ, ◌+◌, ◌≤◌, length, length-append, refl, ap, sym, subst, ◌∙◌, arith}
use Rattle.std.proofs.lemmas.List.{length_push}
use Rattle.craig_proof.specs.Covers.{IsCovering}
use Rattle.craig_watch.specs.Trail.{Trail}
use Rattle.craig_watch.specs.Held.{HeldView, held_clause}
use Rattle.craig_search.specs.Searching.{IsJournal, IsSearching}
use Rattle.craig_search.proofs.CoversLemmas.{covers-reordered}
use Rattle.craig_search.proofs.JournalLemmas.{IsJournal-reordered, IsJournal-start}
use Rattle.craig_search.proofs.TurnLemmas.{turn-first, turn-given, turn-journal, turn-later, turn-smaller, units-first, units-given, units-journal, units-later, units-smaller}
use Rattle.craig_search.proofs.DerivedUnitLemmas.{IsComplete-derived, IsReady-derived, before-derived, decided-derived}
use Rattle.craig_spec.specs.Literal.{Clause}
use Rattle.craig_base.specs.Arena.{ArenaView}
use Rattle.craig_search.specs.Assuming.{AreDecided}
use Rattle.craig_search.specs.Leaves.{IsReady}
use Rattle.craig_search.specs.Journal.{AreBelow, IsListed}
use Rattle.craig_search.proofs.LimitLemmas.{AreBelow-listed, AreBelow-start, AreBelow-stays, IsLimited-listed, StayKept-reordered}
use Rattle.craig_search.proofs.ReadyLemmas.{IsReady-arena, IsReady-longer}
use Rattle.craig_search.proofs.AssumingLemmas.{before-longer, decided-back, decided-longer, decided-root}
use Rattle.craig_search.proofs.SearchingLemmas.{IsSearching-lengthened, IsSearching-moved, IsSearching-start}
use Rattle.craig_search.proofs.conflict_driven.run.Goals as goal

pub turns-init : goal.turns-init
turns-init g c = record {
  searching = IsSearching-start c.args.held.now (g.T.Tracer.told c.args.tracer.now) c.requires.under_way.consistent c.requires.under_way.covers;
  ready = c.requires.under_way.ready;
  covers = c.requires.under_way.covers;
  order = refl;
  tells = refl;
  kept = refl;
  within = omega arith;
  decided = decided-root c.args.assumptions.now c.args.held.now c.requires.under_way.consistent c.requires.level;
  before = λ p a low at. absurd (omega (arith, low));
  listed = subst (AreBelow c.args.limit c.args.held.now.arena c.args.held.now.arena) (sym c.requires.none_yet) (AreBelow-start c.args.limit c.args.held.now.arena c.requires.limit);
  journal = subst (λ (n : ℕ). IsJournal n c.args.held.now.arena) (sym (c.new-reductions.ensures.since ∙ c.given.ensures.value ∙ ap (λ (a : ArenaView). a.given) c.arena.ensures.value)) (IsJournal-start c.args.held.now.arena c.requires.under_way.consistent.arena);
  first = c.new-reductions.ensures.first ∙ c.given.ensures.value ∙ ap (λ (a : ArenaView). a.given) c.arena.ensures.value;
  later = (let is : c.new-reductions.result.since ≡ c.args.held.now.arena.given = c.new-reductions.ensures.since ∙ c.given.ensures.value ∙ ap (λ (a : ArenaView). a.given) c.arena.ensures.value in omega (arith, is));
  given = (let is : c.new-reductions.result.since ≡ c.args.held.now.arena.given = c.new-reductions.ensures.since ∙ c.given.ensures.value ∙ ap (λ (a : ArenaView). a.given) c.arena.ensures.value in omega (arith, is));
}

pub derive_units-requires-clause-covers : goal.derive_units-requires-clause-covers
derive_units-requires-clause-covers g c =
    covers-reordered (g.T.Tracer.told c.turns.tracer) c.turns.held.arena c.propagate.new.self.arena c.turns.invariant.covers c.in_ok-propagate.ensures.lengthened.clauses

pub first_open-place-requires-clause-before : goal.first_open-place-requires-clause-before
first_open-place-requires-clause-before g c =
    let lengthened = c.in_ok-propagate.ensures.lengthened in
    before-derived c.propagate.new.self c.derive_units.new.held c.args.assumptions.now c.turns.place _ _ c.in_ok-derive_units-in-None.ensures.derives (before-longer c.turns.held.trail lengthened.added c.propagate.new.self.trail c.args.assumptions.now c.turns.place lengthened.trail c.turns.invariant.before)

pub decide_next-requires-clause-complete : goal.decide_next-requires-clause-complete
decide_next-requires-clause-complete g c =
    IsComplete-derived c.propagate.new.self c.derive_units.new.held _ _ c.in_ok-derive_units-in-None.ensures.derives (c.in_ok-propagate.ensures.complete c.in-None.is)

pub decide_next-requires-clause-ready : goal.decide_next-requires-clause-ready
decide_next-requires-clause-ready g c =
    let lengthened = c.in_ok-propagate.ensures.lengthened in
    IsReady-derived c.propagate.new.self c.derive_units.new.held c.turns.order _ _ c.in_ok-derive_units-in-None.ensures.derives (IsReady-longer c.turns.held c.propagate.new.self c.turns.order lengthened.added c.turns.invariant.ready lengthened.vars lengthened.trail)

pub decide_next-requires-clause-decided : goal.decide_next-requires-clause-decided
decide_next-requires-clause-decided g c =
    let lengthened = c.in_ok-propagate.ensures.lengthened in
    decided-derived c.propagate.new.self c.derive_units.new.held c.args.assumptions.now _ _ c.in_ok-derive_units-in-None.ensures.derives c.in_ok-derive_units-in-None.ensures.consistent (decided-longer c.args.assumptions.now c.turns.held.trail lengthened.added c.propagate.new.self.trail lengthened.trail lengthened.reason c.turns.invariant.decided)

pub turns-smaller-in-Decided : goal.turns-smaller-in-Decided
turns-smaller-in-Decided g c =
    let old = c.turns.held in
    let p = c.propagate.new.self in
    let last = c.derive_units.new.held in
    let new = c.decide_next.new.held in
    let lengthened = c.in_ok-propagate.ensures.lengthened in
    let units = c.in_ok-derive_units-in-None.ensures in
    let derived = units.derives in
    let turn = c.in-Decided.ensures.turn in
    let size : length new.trail ≡ length last.trail + 1 = ap (λ (h : HeldView). length h.trail) turn.1 ∙ length_push last.trail _ in
    let kept : length last.trail ≡ length p.trail = derived.assigned in
    let more : length p.trail ≡ length old.trail + length lengthened.added = ap (λ (t : Trail). length t) lengthened.trail ∙ length-append old.trail lengthened.added in
    units-smaller c.args.held.now.arena.given old p last c.turns.reductions c.derive_units.new.reductions c.turns.invariant.given lengthened.vars lengthened.clauses.given derived.given derived.vars units.reduced new (ap (λ (h : HeldView). h.vars) turn.1) (ap (λ (h : HeldView). h.arena.given) turn.1) (omega arith) (c.levels_rise.ensures.few_literals new c.in-Decided.ensures.consistent)

pub turns-preserved-in-Decided : goal.turns-preserved-in-Decided
turns-preserved-in-Decided g c =
    let start = c.args.held.now in
    let old = c.turns.held in
    let p = c.propagate.new.self in
    let last = c.derive_units.new.held in
    let new = c.decide_next.new.held in
    let told = g.T.Tracer.told c.derive_units.new.tracer in
    let lengthened = c.in_ok-propagate.ensures.lengthened in
    let units = c.in_ok-derive_units-in-None.ensures in
    let derived = units.derives in
    let turn = c.in-Decided.ensures.turn in
    let is = turn.1 in
    let search = derived.goes_on start (g.T.Tracer.told c.args.tracer.now) (IsSearching-lengthened start old p _ _ c.turns.invariant.searching lengthened) in
    let low = c.turns.invariant.given in
    let journal = IsJournal-reordered c.turns.reductions.since old.arena p.arena c.turns.invariant.journal lengthened.clauses in
    let stays = AreBelow-stays c.args.limit start.arena p.arena last.arena c.turns.journal derived.stay (AreBelow-stays c.args.limit start.arena old.arena p.arena c.turns.journal (StayKept-reordered old.arena p.arena lengthened.clauses) c.turns.invariant.listed) in
    record {
      searching = subst (λ (h : HeldView). IsSearching start h (g.T.Tracer.told c.args.tracer.now) told) (sym is) (IsSearching-moved start last _ _ _ _ search);
      ready = turn.2;
      covers = subst (λ (h : HeldView). IsCovering told (held_clause h.arena) h.arena.given) (sym is) units.covers;
      order = c.in-Decided.ensures.order ∙ c.turns.invariant.order;
      tells = units.tells ∙ c.turns.invariant.tells;
      kept = units.kept ∙ c.turns.invariant.kept;
      within = c.first_open-place.ensures.within;
      decided = turn.3;
      before = before-longer last.trail _ new.trail c.args.assumptions.now c.first_open-place.result (ap (λ (h : HeldView). h.trail) is) c.first_open-place.ensures.before;
      listed = subst (λ (h : HeldView). AreBelow c.args.limit start.arena h.arena c.turns.journal) (sym is) stays;
      journal = subst (λ (h : HeldView). IsJournal c.derive_units.new.reductions.since h.arena) (sym is) (units-journal start.arena.given old p last c.turns.reductions c.derive_units.new.reductions low lengthened.vars lengthened.clauses.given derived.given derived.vars units.reduced journal units.consistent);
      first = units-first start.arena.given old p last c.turns.reductions c.derive_units.new.reductions low lengthened.vars lengthened.clauses.given derived.given derived.vars units.reduced c.turns.invariant.first;
      later = units-later start.arena.given old p last c.turns.reductions c.derive_units.new.reductions low lengthened.vars lengthened.clauses.given derived.given derived.vars units.reduced c.turns.invariant.later;
      given = subst (λ (h : HeldView). c.derive_units.new.reductions.since ≤ h.arena.given) (sym is) (units-given start.arena.given old p last c.turns.reductions c.derive_units.new.reductions low lengthened.vars lengthened.clauses.given derived.given derived.vars units.reduced);
    }

pub returns-in-Model-clause-outcome : goal.returns-in-Model-clause-outcome
returns-in-Model-clause-outcome g c =
    let start = c.args.held.now in
    let p = c.propagate.new.self in
    let told = g.T.Tracer.told c.derive_units.new.tracer in
    let units = c.in_ok-derive_units-in-None.ensures in
    let turn = c.in-Model.ensures.turn in
    let search = units.derives.goes_on start (g.T.Tracer.told c.args.tracer.now) (IsSearching-lengthened start c.turns.held p _ _ c.turns.invariant.searching c.in_ok-propagate.ensures.lengthened) in
    record {
      ends = (
        subst (λ (h : HeldView). IsSearching start h (g.T.Tracer.told c.args.tracer.now) told) (sym turn.0) search,
        turn.1,
        turn.2,
      );
      consistent = c.in-Model.ensures.consistent;
      alive = ap (λ (h : HeldView). h.dead) turn.0 ∙ units.derives.dead ∙ c.in_ok-propagate.ensures.alive;
      covers = subst (λ (h : HeldView). IsCovering told (held_clause h.arena) h.arena.given) (sym turn.0) units.covers;
    }

pub returns-in-Failed-clause-outcome : goal.returns-in-Failed-clause-outcome
returns-in-Failed-clause-outcome g c =
    let start = c.args.held.now in
    let p = c.propagate.new.self in
    let told = g.T.Tracer.told c.derive_units.new.tracer in
    let units = c.in_ok-derive_units-in-None.ensures in
    let turn = c.in-Failed.ensures.turn in
    let search = units.derives.goes_on start (g.T.Tracer.told c.args.tracer.now) (IsSearching-lengthened start c.turns.held p _ _ c.turns.invariant.searching c.in_ok-propagate.ensures.lengthened) in
    record {
      ends = (
        subst (λ (h : HeldView). IsSearching start h (g.T.Tracer.told c.args.tracer.now) told) (sym turn.0) search,
        turn.1,
        turn.2,
        turn.3,
        turn.4,
      );
      consistent = c.in-Failed.ensures.consistent;
      alive = ap (λ (h : HeldView). h.dead) turn.0 ∙ units.derives.dead ∙ c.in_ok-propagate.ensures.alive;
      covers = subst (λ (h : HeldView). IsCovering told (held_clause h.arena) h.arena.given) (sym turn.0) units.covers;
    }

pub refuted-requires-clause-covers : goal.refuted-requires-clause-covers
refuted-requires-clause-covers g c =
    covers-reordered (g.T.Tracer.told c.turns.tracer) c.turns.held.arena c.propagate.new.self.arena c.turns.invariant.covers c.in_ok-propagate.ensures.lengthened.clauses

pub returns-then-level-eq0-clause-outcome : goal.returns-then-level-eq0-clause-outcome
returns-then-level-eq0-clause-outcome g c =
    let p = c.propagate.new.self in
    let lengthened = c.in_ok-propagate.ensures.lengthened in
    record {
      ends = (
        p,
        g.T.Tracer.told c.turns.tracer,
        IsSearching-lengthened c.args.held.now c.turns.held p _ _ c.turns.invariant.searching lengthened,
        c.in_ok-refuted-in-Some.ensures.refuted,
        sym c.level.ensures.value ∙ c.if-level-eq0.true,
        IsReady-longer c.turns.held p c.turns.order lengthened.added c.turns.invariant.ready lengthened.vars lengthened.trail,
      );
      consistent = c.in_ok-refuted-in-Some.ensures.consistent;
      alive = ap (λ (h : HeldView). h.dead) c.in_ok-refuted-in-Some.ensures.refuted.numbered ∙ c.in_ok-propagate.ensures.alive;
      covers = c.in_ok-refuted-in-Some.ensures.covers;
    }

pub learn-requires-clause-under_way : goal.learn-requires-clause-under_way
learn-requires-clause-under_way g c =
    let lengthened = c.in_ok-propagate.ensures.lengthened in
    record {
      consistent = c.in_ok-propagate.ensures.consistent;
      ready = IsReady-longer c.turns.held c.propagate.new.self c.turns.order lengthened.added c.turns.invariant.ready lengthened.vars lengthened.trail;
      covers = covers-reordered (g.T.Tracer.told c.turns.tracer) c.turns.held.arena c.propagate.new.self.arena c.turns.invariant.covers lengthened.clauses;
    }

pub turns-smaller-else-met : goal.turns-smaller-else-met
turns-smaller-else-met g c =
    let start = c.args.held.now in
    let old = c.turns.held in
    let mid = c.restart_if_due.new.held in
    let lengthened = c.in_ok-propagate.ensures.lengthened in
    let restarted = c.restart_if_due.ensures.back.1 in
    let before = IsSearching-lengthened start old c.propagate.new.self _ _ c.turns.invariant.searching lengthened in
    let search = c.in_ok-learnt-in-Some.ensures.goes_on start _ before in
    let vars : mid.vars ≡ old.vars = ap (λ (h : HeldView). h.vars) restarted ∙ search.leaves.vars ∙ sym c.turns.invariant.searching.leaves.vars in
    let given : mid.arena.given ≡ old.arena.given + 1 = ap (λ (h : HeldView). h.arena.given) restarted ∙ c.in_ok-learnt-in-Some.ensures.given ∙ ap (λ (n : ℕ). n + 1) lengthened.clauses.given in
    let journal = subst (λ (h : HeldView). IsJournal c.turns.reductions.since h.arena) (sym restarted) (c.in_ok-learnt-in-Some.ensures.journals c.turns.reductions.since (IsJournal-reordered c.turns.reductions.since old.arena c.propagate.new.self.arena c.turns.invariant.journal lengthened.clauses)) in
    turn-smaller start.arena.given old mid c.reduce_if_due.new.held c.turns.reductions c.reduce_if_due.new.reductions _ _ c.turns.invariant.given journal vars given c.reduce_if_due.ensures.lets_go c.reduce_if_due.ensures.reduced c.no_longer_list.ensures.once c.restart_if_due.ensures.consistent

pub turns-preserved-else-met : goal.turns-preserved-else-met
turns-preserved-else-met g c =
    let start = c.args.held.now in
    let old = c.turns.held in
    let mid = c.restart_if_due.new.held in
    let new = c.reduce_if_due.new.held in
    let lengthened = c.in_ok-propagate.ensures.lengthened in
    let learnt = c.in_ok-learnt-in-Some.ensures in
    let restarted = c.restart_if_due.ensures.back in
    let gone = c.reduce_if_due.ensures.lets_go in
    let reduced = c.reduce_if_due.ensures.reduced in
    let told = g.T.Tracer.told c.learn.new.tracer in
    let lengthened_search = IsSearching-lengthened start old c.propagate.new.self _ _ c.turns.invariant.searching lengthened in
    let search = learnt.goes_on start (g.T.Tracer.told c.args.tracer.now) lengthened_search in
    let moved = subst (λ (h : HeldView). IsSearching start h (g.T.Tracer.told c.args.tracer.now) told) (sym restarted.1) (IsSearching-moved start c.learn.new.held _ _ _ _ search) in
    let vars : mid.vars ≡ old.vars = ap (λ (h : HeldView). h.vars) restarted.1 ∙ search.leaves.vars ∙ sym c.turns.invariant.searching.leaves.vars in
    let given : mid.arena.given ≡ old.arena.given + 1 = ap (λ (h : HeldView). h.arena.given) restarted.1 ∙ learnt.given ∙ ap (λ (n : ℕ). n + 1) lengthened.clauses.given in
    let journal = subst (λ (h : HeldView). IsJournal c.turns.reductions.since h.arena) (sym restarted.1) (learnt.journals c.turns.reductions.since (IsJournal-reordered c.turns.reductions.since old.arena c.propagate.new.self.arena c.turns.invariant.journal lengthened.clauses)) in
    let low = c.turns.invariant.given in
    let decided = decided-back c.args.assumptions.now c.propagate.new.self.trail c.learn.new.held.trail learnt.back.0 learnt.back.1 (decided-longer c.args.assumptions.now old.trail lengthened.added c.propagate.new.self.trail lengthened.trail lengthened.reason c.turns.invariant.decided) in
    let listed = subst (λ (d : Clause). IsListed c.args.limit d c.turns.journal c.list_lemma.new.journal c.in_ok-met-in-Some.met) c.as_slice.ensures c.in_ok-met-in-Some.ensures in
    let before = c.turns.invariant.listed in
    let after_propagation = AreBelow-stays c.args.limit start.arena old.arena c.propagate.new.self.arena c.turns.journal (StayKept-reordered old.arena c.propagate.new.self.arena lengthened.clauses) before in
    let below = subst (λ (h : HeldView). AreBelow c.args.limit start.arena h.arena c.list_lemma.new.journal) (sym restarted.1) (AreBelow-listed c.args.limit start.arena c.propagate.new.self.arena c.learn.new.held.arena _ c.turns.journal c.list_lemma.new.journal _ after_propagation (learnt.listed start (g.T.Tracer.told c.args.tracer.now) lengthened_search) listed c.if-met.false) in
    record {
      searching = gone.goes_on start (g.T.Tracer.told c.args.tracer.now) (let first : c.turns.reductions.first ≡ start.arena.given = c.turns.invariant.first in omega (arith, first)) moved;
      ready = subst (λ (h : HeldView). IsReady h c.restart_if_due.new.order) (sym gone.others) (IsReady-arena mid c.restart_if_due.new.order new.arena c.restart_if_due.ensures.ready);
      covers = c.reduce_if_due.ensures.covers;
      order = c.restart_if_due.ensures.dead ∙ learnt.order ∙ c.turns.invariant.order;
      tells = c.reduce_if_due.ensures.tells ∙ learnt.tells ∙ c.turns.invariant.tells;
      kept = c.reduce_if_due.ensures.kept ∙ learnt.kept ∙ c.turns.invariant.kept;
      within = omega arith;
      decided = subst (λ (h : HeldView). AreDecided c.args.assumptions.now h.trail) (sym gone.others) (decided-back c.args.assumptions.now c.learn.new.held.trail mid.trail restarted.0 (ap (λ (h : HeldView). h.trail) restarted.1) decided);
      before = λ p a low at. absurd (omega (arith, low));
      listed = AreBelow-stays c.args.limit start.arena mid.arena new.arena c.list_lemma.new.journal gone.kept below;
      journal = turn-journal start.arena.given old mid new c.turns.reductions c.reduce_if_due.new.reductions _ _ low journal vars given gone reduced c.reduce_if_due.ensures.consistent;
      first = turn-first start.arena.given old mid new c.turns.reductions c.reduce_if_due.new.reductions _ _ low journal vars given gone reduced c.turns.invariant.first;
      later = turn-later start.arena.given old mid new c.turns.reductions c.reduce_if_due.new.reductions _ _ low journal vars given gone reduced c.turns.invariant.later;
      given = turn-given start.arena.given old mid new c.turns.reductions c.reduce_if_due.new.reductions _ _ low journal vars given gone reduced;
    }

pub turns-smaller : goal.turns-smaller
turns-smaller g c =
    let start = c.args.held.now in
    let old = c.turns.held in
    let mid = c.restart_if_due.new.held in
    let lengthened = c.in_ok-propagate.ensures.lengthened in
    let restarted = c.restart_if_due.ensures.back.1 in
    let before = IsSearching-lengthened start old c.propagate.new.self _ _ c.turns.invariant.searching lengthened in
    let search = c.in_ok-learnt-in-Some.ensures.goes_on start _ before in
    let vars : mid.vars ≡ old.vars = ap (λ (h : HeldView). h.vars) restarted ∙ search.leaves.vars ∙ sym c.turns.invariant.searching.leaves.vars in
    let given : mid.arena.given ≡ old.arena.given + 1 = ap (λ (h : HeldView). h.arena.given) restarted ∙ c.in_ok-learnt-in-Some.ensures.given ∙ ap (λ (n : ℕ). n + 1) lengthened.clauses.given in
    let journal = subst (λ (h : HeldView). IsJournal c.turns.reductions.since h.arena) (sym restarted) (c.in_ok-learnt-in-Some.ensures.journals c.turns.reductions.since (IsJournal-reordered c.turns.reductions.since old.arena c.propagate.new.self.arena c.turns.invariant.journal lengthened.clauses)) in
    turn-smaller start.arena.given old mid c.reduce_if_due.new.held c.turns.reductions c.reduce_if_due.new.reductions _ _ c.turns.invariant.given journal vars given c.reduce_if_due.ensures.lets_go c.reduce_if_due.ensures.reduced c.no_longer_list.ensures.once c.restart_if_due.ensures.consistent

pub turns-preserved : goal.turns-preserved
turns-preserved g c =
    let start = c.args.held.now in
    let old = c.turns.held in
    let mid = c.restart_if_due.new.held in
    let new = c.reduce_if_due.new.held in
    let lengthened = c.in_ok-propagate.ensures.lengthened in
    let learnt = c.in_ok-learnt-in-Some.ensures in
    let restarted = c.restart_if_due.ensures.back in
    let gone = c.reduce_if_due.ensures.lets_go in
    let reduced = c.reduce_if_due.ensures.reduced in
    let told = g.T.Tracer.told c.learn.new.tracer in
    let lengthened_search = IsSearching-lengthened start old c.propagate.new.self _ _ c.turns.invariant.searching lengthened in
    let search = learnt.goes_on start (g.T.Tracer.told c.args.tracer.now) lengthened_search in
    let moved = subst (λ (h : HeldView). IsSearching start h (g.T.Tracer.told c.args.tracer.now) told) (sym restarted.1) (IsSearching-moved start c.learn.new.held _ _ _ _ search) in
    let vars : mid.vars ≡ old.vars = ap (λ (h : HeldView). h.vars) restarted.1 ∙ search.leaves.vars ∙ sym c.turns.invariant.searching.leaves.vars in
    let given : mid.arena.given ≡ old.arena.given + 1 = ap (λ (h : HeldView). h.arena.given) restarted.1 ∙ learnt.given ∙ ap (λ (n : ℕ). n + 1) lengthened.clauses.given in
    let journal = subst (λ (h : HeldView). IsJournal c.turns.reductions.since h.arena) (sym restarted.1) (learnt.journals c.turns.reductions.since (IsJournal-reordered c.turns.reductions.since old.arena c.propagate.new.self.arena c.turns.invariant.journal lengthened.clauses)) in
    let low = c.turns.invariant.given in
    let decided = decided-back c.args.assumptions.now c.propagate.new.self.trail c.learn.new.held.trail learnt.back.0 learnt.back.1 (decided-longer c.args.assumptions.now old.trail lengthened.added c.propagate.new.self.trail lengthened.trail lengthened.reason c.turns.invariant.decided) in
    let listed = subst (λ (d : Clause). IsListed c.args.limit d c.turns.journal c.list_lemma.new.journal c.in_ok-met-in-Some.met) c.as_slice.ensures c.in_ok-met-in-Some.ensures in
    let before = c.turns.invariant.listed in
    let after_propagation = AreBelow-stays c.args.limit start.arena old.arena c.propagate.new.self.arena c.turns.journal (StayKept-reordered old.arena c.propagate.new.self.arena lengthened.clauses) before in
    let below = subst (λ (h : HeldView). AreBelow c.args.limit start.arena h.arena c.list_lemma.new.journal) (sym restarted.1) (AreBelow-listed c.args.limit start.arena c.propagate.new.self.arena c.learn.new.held.arena _ c.turns.journal c.list_lemma.new.journal _ after_propagation (learnt.listed start (g.T.Tracer.told c.args.tracer.now) lengthened_search) listed c.if-met.false) in
    record {
      searching = gone.goes_on start (g.T.Tracer.told c.args.tracer.now) (let first : c.turns.reductions.first ≡ start.arena.given = c.turns.invariant.first in omega (arith, first)) moved;
      ready = subst (λ (h : HeldView). IsReady h c.restart_if_due.new.order) (sym gone.others) (IsReady-arena mid c.restart_if_due.new.order new.arena c.restart_if_due.ensures.ready);
      covers = c.reduce_if_due.ensures.covers;
      order = c.restart_if_due.ensures.dead ∙ learnt.order ∙ c.turns.invariant.order;
      tells = c.reduce_if_due.ensures.tells ∙ learnt.tells ∙ c.turns.invariant.tells;
      kept = c.reduce_if_due.ensures.kept ∙ learnt.kept ∙ c.turns.invariant.kept;
      within = omega arith;
      decided = subst (λ (h : HeldView). AreDecided c.args.assumptions.now h.trail) (sym gone.others) (decided-back c.args.assumptions.now c.learn.new.held.trail mid.trail restarted.0 (ap (λ (h : HeldView). h.trail) restarted.1) decided);
      before = λ p a low at. absurd (omega (arith, low));
      listed = AreBelow-stays c.args.limit start.arena mid.arena new.arena c.list_lemma.new.journal gone.kept below;
      journal = turn-journal start.arena.given old mid new c.turns.reductions c.reduce_if_due.new.reductions _ _ low journal vars given gone reduced c.reduce_if_due.ensures.consistent;
      first = turn-first start.arena.given old mid new c.turns.reductions c.reduce_if_due.new.reductions _ _ low journal vars given gone reduced c.turns.invariant.first;
      later = turn-later start.arena.given old mid new c.turns.reductions c.reduce_if_due.new.reductions _ _ low journal vars given gone reduced c.turns.invariant.later;
      given = turn-given start.arena.given old mid new c.turns.reductions c.reduce_if_due.new.reductions _ _ low journal vars given gone reduced;
    }

pub returns-then-met-clause-listed : goal.returns-then-met-clause-listed
returns-then-met-clause-listed g c =
    let start = c.args.held.now in
    let old = c.turns.held in
    let p = c.propagate.new.self in
    let lengthened = c.in_ok-propagate.ensures.lengthened in
    let search = IsSearching-lengthened start old p (g.T.Tracer.told c.args.tracer.now) _ c.turns.invariant.searching lengthened in
    let listed = subst (λ (d : Clause). IsListed c.args.limit d c.turns.journal c.list_lemma.new.journal c.in_ok-met-in-Some.met) c.as_slice.ensures c.in_ok-met-in-Some.ensures in
    let below = AreBelow-stays c.args.limit start.arena old.arena p.arena c.turns.journal (StayKept-reordered old.arena p.arena lengthened.clauses) c.turns.invariant.listed in
    IsLimited-listed c.args.limit start p.arena c.learn.new.held.arena c.in_ok-learnt-in-Some.learnt.lits c.turns.journal c.list_lemma.new.journal c.in_ok-met-in-Some.met below (c.in_ok-learnt-in-Some.ensures.listed start _ search) listed c.if-met.true

pub returns-then-met-clause-outcome : goal.returns-then-met-clause-outcome
returns-then-met-clause-outcome g c =
    let start = c.args.held.now in
    let learnt = c.in_ok-learnt-in-Some.ensures in
    let before = IsSearching-lengthened start c.turns.held c.propagate.new.self _ _ c.turns.invariant.searching c.in_ok-propagate.ensures.lengthened in
    let search = learnt.goes_on start (g.T.Tracer.told c.args.tracer.now) before in
    record {
      ends = (search, learnt.under_way.ready);
      consistent = learnt.under_way.consistent;
      alive = search.leaves.dead ∙ sym before.leaves.dead ∙ c.in_ok-propagate.ensures.alive;
      covers = learnt.under_way.covers;
    }
