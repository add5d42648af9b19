use Rattle.std.proofs.Common.{◌<◌, get_or, length, ◌∙◌, ap, arith}
use Rattle.std.proofs.lemmas.Result.{IfOk-from_err}
use Rattle.craig_aiger_read.specs.ReadOrder.{moved_by}
use Rattle.craig_aiger_read.proofs.NamingLemmas.{roots-more}
use Rattle.craig_aiger_read.proofs.naming.named_roots.Goals as goal

pub loop-place-preserved : goal.loop-place-preserved
loop-place-preserved c =
    let split = c.in-Some.ensures.steps.0.0 in
    let place = c.in-Some.ensures.steps.1 in
    let next = c.in-Some.ensures.steps.2 in
    let size = ap length split in
    let inside : c.loop-place.place-iterator.count < length c.args.literals.now = omega (arith, size, c.loop-place.invariant.1) in (
      roots-more (moved_by c.args.first c.args.variables.now) c.loop-place.roots.items c.push.new.self.items c.args.literals.now c.loop-place.place-iterator.count c.next.new.self.count c.moved-literal.result
          c.loop-place.place-iterator.iter.rest.items c.next.new.self.iter.rest.items c.in-Some.name _ c.loop-place.invariant.0 split inside next
          (c.moved-literal.ensures ∙ ap (λ z. moved_by c.args.first c.args.variables.now (get_or c.args.literals.now z 0)) place) c.in_ok-push.ensures.items,
      omega (arith, size, next, c.loop-place.invariant.1),
    )

pub returns-in_err-push : goal.returns-in_err-push
returns-in_err-push c = IfOk-from_err _ _ c.from_residual.ensures.0
