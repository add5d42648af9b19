use Rattle.std.proofs.Common.{◌-◌, sym, subst, arith, List, ℕ}
use Rattle.craig_spec.specs.PackedChain.{rest_bytes}
use Rattle.craig_proof.specs.PackedSteps.{AreUnread}
use Rattle.craig_proof.proofs.PackedLemmas.{rest_unread, unread-same, unread-view}
use Rattle.craig_proof.proofs.packed_steps.PackedSteps.open.Goals as goal

pub invariant_of-result : goal.invariant_of-result
invariant_of-result c =
    let r = c.requires in
    let read = c.first_number-difference.ensures (c.args.id.0 - r.first) (rest_bytes c.args.id.0 r.rest) r.bytes_are in
    unread-same c.args.id.0 _ r.rest (subst (λ (bs : List ℕ). AreUnread c.args.id.0 bs r.rest) (sym read.1) (rest_unread c.args.id.0 r.first r.rest r.packable))

pub returns : goal.returns
returns c = λ first rest packable is.
    let read = c.first_number-difference.ensures (c.args.id.0 - first) (rest_bytes c.args.id.0 rest) is in
    let low = packable.first_before in
    let one = read.0 in
    (omega (arith, one, low), unread-view c.args.id.0 _ rest (subst (λ (bs : List ℕ). AreUnread c.args.id.0 bs rest) (sym read.1) (rest_unread c.args.id.0 first rest packable)))
