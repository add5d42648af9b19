use Rattle.std.proofs.Common.{◌≡◌, ℕ, ◌≤◌, List, length, ap, sym, subst, ◌∙◌, arith}
use Rattle.craig_watch.specs.Trail.{part_up_to}
use Rattle.craig_watch.specs.Held.{HeldView, held_clause}
use Rattle.craig_proof.specs.Covers.{IsCovering}
use Rattle.craig_search.specs.Journal.{ListsLemmas}
use Rattle.craig_search.specs.Leaves.{Leaves}
use Rattle.craig_search.specs.Searching.{IsOutcome}
use Rattle.craig_search.specs.Tells.{IsRoot, IsUnitId, Tells}
use Rattle.craig_search.specs.Verdict.{IsRefuted}
use Rattle.craig_search.proofs.FailedLemmas.{failed-contradictory, failed-leaves, failed-told}
use Rattle.craig_search.proofs.SearchingLemmas.{IsSearching-moved}
use Rattle.craig_search.proofs.VerdictLemmas.{refuted-contradictory, refuted-leaves, refuted-ready, refuted-told}
use Rattle.craig_search.proofs.conflict_driven.search.Goals as goal

pub run-requires : goal.run-requires
run-requires g c = record {
  under_way = record {
    consistent = c.level-level.ensures.consistent;
    ready = c.requires.begins.ready;
    covers = c.requires.begins.covers;
  };
  level = c.requires.begins.level;
  known = c.requires.known;
  limit = c.requires.limit;
  none_yet = c.new-journal.ensures;
}

pub returns-in-Model-clause-searched : goal.returns-in-Model-clause-searched
returns-in-Model-clause-searched g c =
    let outcome = subst (IsOutcome c.args.assumptions.now c.args.held.now c.run.new.held c.run.new.order (g.T.Tracer.told c.args.tracer.now) (g.T.Tracer.told c.run.new.tracer)) c.in-Model.is c.in_ok-outcome.ensures.outcome in
    record {
      verdict = outcome.ends.1;
      ids = tt;
      at_rest = outcome.ends.2;
      leaves = outcome.ends.0.leaves;
      consistent = outcome.consistent;
      alive = outcome.alive;
      covers = outcome.covers;
      told = outcome.ends.0.tells;
    }

pub returns-in-Refuted-clause-searched : goal.returns-in-Refuted-clause-searched
returns-in-Refuted-clause-searched g c =
    let start = c.args.held.now in
    let end = c.run.new.held in
    let root = c.in-Refuted.root.0 in
    let assumptions = c.args.assumptions.now in
    let outcome = subst (IsOutcome c.args.assumptions.now c.args.held.now c.run.new.held c.run.new.order (g.T.Tracer.told c.args.tracer.now) (g.T.Tracer.told c.run.new.tracer)) c.in-Refuted.is c.in_ok-outcome.ensures.outcome in
    let last = outcome.ends.0 in
    let by_then = outcome.ends.1 in
    let search = outcome.ends.2 in
    let empty = outcome.ends.3 in
    record {
      verdict = subst (IsRefuted start assumptions) (sym c.none.ensures) (refuted-contradictory start last end root _ by_then _ assumptions search empty);
      ids = (let none : length c.none.result ≡ 0 = ap (λ (places : List ℕ). length places) c.none.ensures in let up : start.arena.given ≤ last.arena.given = search.leaves.given in let next : root ≡ last.arena.given = empty.next in omega (arith, none, up, next));
      at_rest = (ap (λ (h : HeldView). h.level) empty.numbered ∙ outcome.ends.4, refuted-ready last end c.run.new.order root by_then _ outcome.ends.5 empty);
      leaves = refuted-leaves start last end root _ by_then _ search empty;
      consistent = outcome.consistent;
      alive = outcome.alive;
      covers = outcome.covers;
      told = λ t u is also. subst (λ (places : List ℕ). Tells (held_clause start.arena) start.arena.given (IsUnitId root places) t u × IsRoot end assumptions root places t u) (sym c.none.ensures) (refuted-told start last end root _ by_then _ assumptions t u outcome.consistent.arena search empty is also);
    }

pub returns-in_ok-failure-in-Failed-clause-searched : goal.returns-in_ok-failure-in-Failed-clause-searched
returns-in_ok-failure-in-Failed-clause-searched g c =
    let start = c.args.held.now in
    let end = c.run.new.held in
    let mid : HeldView = record end { trail = part_up_to 0 end.trail; level = 0 } in
    let new = c.failed.new.held in
    let assumptions = c.args.assumptions.now in
    let outcome = subst (IsOutcome c.args.assumptions.now c.args.held.now c.run.new.held c.run.new.order (g.T.Tracer.told c.args.tracer.now) (g.T.Tracer.told c.run.new.tracer)) c.in-Failed.is c.in_ok-outcome.ensures.outcome in
    let f = c.in_ok-failure-in-Failed.ensures.failure in
    let search = IsSearching-moved start end _ _ (part_up_to 0 end.trail) 0 outcome.ends.0 in
    record {
      verdict = failed-contradictory start mid new assumptions _ _ _ _ _ search f;
      ids = (let next : _ ≡ _ = f.next in let up : start.arena.given ≤ mid.arena.given = search.leaves.given in omega (arith, next, up));
      at_rest = (ap (λ (h : HeldView). h.level) f.numbered, c.in_ok-failure-in-Failed.ensures.ready);
      leaves = failed-leaves start mid new assumptions _ _ _ _ _ search f;
      consistent = c.in_ok-failure-in-Failed.ensures.consistent;
      alive = ap (λ (h : HeldView). h.dead) f.numbered ∙ outcome.alive;
      covers = c.in_ok-failure-in-Failed.ensures.covers;
      told = λ t u is also. failed-told start mid new assumptions _ _ _ _ _ t u search f outcome.consistent.arena (c.in_ok-failure-in-Failed.ensures.covers u also) is also;
    }

pub returns-in-Limited-clause-searched : goal.returns-in-Limited-clause-searched
returns-in-Limited-clause-searched g c =
    let start = c.args.held.now in
    let end = c.run.new.held in
    let after = g.T.Tracer.told c.run.new.tracer in
    let back = c.go_back.ensures.back in
    let outcome = subst (IsOutcome c.args.assumptions.now start end c.run.new.order (g.T.Tracer.told c.args.tracer.now) after) c.in-Limited.is c.in_ok-outcome.ensures.outcome in
    let listed = subst (ListsLemmas c.args.limit start c.run.new.journal) c.in-Limited.is c.in_ok-outcome.ensures.listed in
    let search = outcome.ends.0 in
    record {
      verdict = listed;
      ids = tt;
      at_rest = (ap (λ (h : HeldView). h.level) back, c.go_back.ensures.ready);
      leaves = subst (Leaves start) (sym back) (IsSearching-moved start end _ _ (part_up_to 0 end.trail) 0 search).leaves;
      consistent = c.go_back.ensures.consistent;
      alive = ap (λ (h : HeldView). h.dead) back ∙ outcome.alive;
      covers = subst (λ (h : HeldView). IsCovering after (held_clause h.arena) h.arena.given) (sym back) outcome.covers;
      told = search.tells;
    }
