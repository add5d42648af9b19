use Rattle.std.proofs.Common.{◌≡◌, ◌+◌, ap}
use Rattle.craig_watch.specs.Held.{HeldView, held_clause}
use Rattle.craig_search.proofs.LeavesLemmas.{Leaves-learnt}
use Rattle.craig_search.proofs.SearchingLemmas.{kept-learnt}
use Rattle.craig_search.proofs.TellsLemmas.{TellsLearnt-told, derived-of_search}
use Rattle.craig_proof.proofs.OldOrNextLemmas.{old_or_added}
use Rattle.craig_search.proofs.CoversLemmas.{covers-told}
use Rattle.craig_search.proofs.holding.hold_derived.Goals as goal

pub derived-requires-clause-unforgotten : goal.derived-requires-clause-unforgotten
derived-requires-clause-unforgotten g c = c.covered_chain_is_told.ensures.antecedents _ _ _ _ _ _ c.requires.covers c.requires.chain

pub derived-requires-clause-chain : goal.derived-requires-clause-chain
derived-requires-clause-chain g c = c.covered_chain_is_told.ensures.chain _ _ _ _ _ _ c.requires.covers c.requires.chain

pub returns-clause-goes_on : goal.returns-clause-goes_on
returns-clause-goes_on g c =
    let old = c.args.held.now in
    let held = c.in_ok-id.ensures.held in
    let given : c.hold.new.self.arena.given ≡ old.arena.given + 1 = ap (λ (h : HeldView). h.arena.given) held in
    λ start before search. record {
      lent = search.lent;
      covered = search.covered;
      leaves = Leaves-learnt start old c.hold.new.self c.in_ok-id.id.0 _ _ _ search.leaves (ap (λ (h : HeldView). h.vars) held) (ap (λ (h : HeldView). h.dead) held) given c.in_ok-id.ensures.next c.in_ok-id.ensures.fresh c.in_ok-id.ensures.only c.requires.learnt c.requires.chain;
      kept = λ k. kept-learnt (held_clause start.arena) old.arena c.hold.new.self.arena c.in_ok-id.id.0 k _ (search.kept k) c.in_ok-id.ensures.fresh c.in_ok-id.ensures.only;
      tells = TellsLearnt-told start before _ _ _ search.tells c.in_ok-derived.ensures.told (derived-of_search _ start old _ _ _ _ search.leaves c.in_ok-id.ensures.next c.requires.chain);
    }

pub returns-clause-covers : goal.returns-clause-covers
returns-clause-covers g c =
    let old = c.args.held.now in
    covers-told _ _ old.arena c.hold.new.self.arena _ _ _ _ c.requires.covers c.in_ok-derived.ensures.told c.in_ok-id.ensures.next (ap (λ (h : HeldView). h.arena.given) c.in_ok-id.ensures.held) c.requires.chain (old_or_added old.arena c.hold.new.self.arena c.in_ok-id.id.0 _ c.in_ok-id.ensures.fresh c.in_ok-id.ensures.only)
