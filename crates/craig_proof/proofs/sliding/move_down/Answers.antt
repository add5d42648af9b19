use Rattle.std.proofs.Common.{subst, sym}
use Rattle.craig_proof.specs.Reclaiming.{IsMovedDown}
use Rattle.craig_proof.proofs.SlidingLemmas.{moved_down}
use Rattle.craig_proof.proofs.sliding.move_down.Goals as goal

pub returns : goal.returns
returns g c =
    subst (λ xs. IsMovedDown c.args.items.now xs c.args.start c.args.end c.args.to) (sym c.copy_within.ensures.after) (moved_down c.args.items.now c.args.start c.args.end c.args.to)
