use Rattle.std.proofs.Common.{◌<◌, length, heap_items, ap, ◌∙◌, arith}
use Rattle.craig_spec.specs.Literal.{negation}
use Rattle.craig_proof.specs.Tracer.{chain_of}
use Rattle.craig_analyze.specs.Resolvent.{view_of}
use Rattle.craig_analyze.proofs.LevelLemmas.{literal-read}
use Rattle.craig_analyze.proofs.LoopLemmas.{walking-first, walking-resolvable, walking-present, walking-next, walking-found}
use Rattle.craig_analyze.proofs.resolvent.Resolvent.find_asserting.Goals as goal

pub loop-self-init : goal.loop-self-init
loop-self-init c =
    walking-first c.args.held.now c.requires.unresolved.0 c.take_greatest-place.result (chain_of c.args.steps.now) (view_of c.args.self.now) (view_of c.take_greatest-place.new.self) c.requires.consistent c.requires.level c.requires.unresolved.1 c.requires.present c.take_greatest-place.ensures

pub resolve_on-requires : goal.resolve_on-requires
resolve_on-requires c =
    walking-resolvable c.args.held.now c.loop-self.place (chain_of c.args.steps.now) (chain_of c.loop-self.steps) (view_of c.args.self.now) (view_of c.loop-self.self) c.requires.consistent c.loop-self.invariant (c.is_at_root.ensures.above c.loop-self-test.true)

pub take_greatest-place-requires-in-loop-self : goal.take_greatest-place-requires-in-loop-self
take_greatest-place-requires-in-loop-self c =
    let present = walking-present c.args.held.now c.loop-self.place (chain_of c.args.steps.now) (chain_of c.loop-self.steps) (chain_of c.resolve_on.new.steps) (view_of c.args.self.now) (view_of c.loop-self.self) (view_of c.resolve_on.new.self) c.requires.consistent c.loop-self.invariant (c.is_at_root.ensures.above c.loop-self-test.true) c.in_ok-resolve_on.ensures in
    let within : present.1.0 < length (heap_items c.resolve_on.new.self.pending) = present.1.1 in
    omega (arith, c.resolve_on.new.self.pending.data.ok.0)

pub loop-self-smaller : goal.loop-self-smaller
loop-self-smaller c =
    (walking-next c.args.held.now c.loop-self.place c.take_greatest-place-in-loop-self.result (chain_of c.args.steps.now) (chain_of c.loop-self.steps) (chain_of c.resolve_on.new.steps) (view_of c.args.self.now) (view_of c.loop-self.self) (view_of c.resolve_on.new.self) (view_of c.take_greatest-place-in-loop-self.new.self) c.requires.consistent c.requires.level c.loop-self.invariant (c.is_at_root.ensures.above c.loop-self-test.true) c.in_ok-resolve_on.ensures c.take_greatest-place-in-loop-self.ensures).1

pub loop-self-preserved : goal.loop-self-preserved
loop-self-preserved c =
    (walking-next c.args.held.now c.loop-self.place c.take_greatest-place-in-loop-self.result (chain_of c.args.steps.now) (chain_of c.loop-self.steps) (chain_of c.resolve_on.new.steps) (view_of c.args.self.now) (view_of c.loop-self.self) (view_of c.resolve_on.new.self) (view_of c.take_greatest-place-in-loop-self.new.self) c.requires.consistent c.requires.level c.loop-self.invariant (c.is_at_root.ensures.above c.loop-self-test.true) c.in_ok-resolve_on.ensures c.take_greatest-place-in-loop-self.ensures).0

pub returns : goal.returns
returns c =
    let h = c.args.held.now in
    let read = literal-read h.trail c.trail.result.now c.loop-self.place c.index-trail-place.result c.trail.ensures.value c.loop-self.invariant.within c.index-trail-place.is in
    walking-found h c.loop-self.place c.not.result (chain_of c.args.steps.now) (chain_of c.loop-self.steps) (view_of c.args.self.now) (view_of c.loop-self.self) c.loop-self.invariant (c.not.ensures ∙ ap negation read) (c.is_at_root.ensures.root c.loop-self-test.false)
