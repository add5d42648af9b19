use Rattle.std.proofs.Common.{◌∙◌}
use Rattle.std.proofs.lemmas.Result.{on_ok_weaker}
use Rattle.craig_proof.specs.StoredSteps.{told_of}
use Rattle.craig_proof.proofs.PartLemmas.{NeededPart-normal, NeededPart-rising, NeededPart-root, NeededPart-stand}
use Rattle.craig_proof.proofs.ToldLemmas.{HasId-unforgotten}
use Rattle.craig_proof.proofs.chain_store.ChainStore.replay.Goals as goal

pub needed_steps-requires-clause-root : goal.needed_steps-requires-clause-root
needed_steps-requires-clause-root g c = HasId-unforgotten c.self.inside.steps c.args.root.0 (rw (← c.self.view_is) at c.requires.root)

pub tell_all-requires-clause-rising : goal.tell_all-requires-clause-rising
tell_all-requires-clause-rising g c = rw c.as_slice.ensures.value (NeededPart-rising c.self.inside.steps _ c.args.root.0 c.self.invariant.told.rising c.in_ok-needed.ensures.needed)

pub tell_all-requires-clause-stand : goal.tell_all-requires-clause-stand
tell_all-requires-clause-stand g c = rw c.as_slice.ensures.value (NeededPart-stand c.self.inside.steps _ c.args.root.0 c.self.invariant.told.stand c.in_ok-needed.ensures.needed)

pub tell_all-requires-clause-normal : goal.tell_all-requires-clause-normal
tell_all-requires-clause-normal g c = rw c.as_slice.ensures.value (NeededPart-normal c.self.inside.steps _ c.args.root.0 c.self.invariant.normal c.in_ok-needed.ensures.needed)

pub returns-clause-told : goal.returns-clause-told
returns-clause-told g c =
    let t = told_of c.self.inside.greatest c.self.inside.steps in
    let needed = c.in_ok-needed.ensures.needed in
    let told = rw c.as_slice.ensures.value at c.tell_all.ensures.told in
    let greatest = NeededPart-root t _ c.args.root.0 c.self.invariant.told (rw (← c.self.view_is) at c.requires.root) needed in
    rw (← c.self.view_is) (on_ok_weaker c.tell_all.result (λ h t is. let x = h t is in (x.0, x.1, x.3 ∙ greatest, rw x.2 needed)) told)
