use Rattle.std.proofs.Common.{◌<◌, get_or, length, map, sym, ◌∙◌, ap, arith}
use Rattle.std.proofs.lemmas.List.{get_or-map, length-map}
use Rattle.craig_aiger_read.specs.declared.root_line.RootLine.{RootLine}
use Rattle.craig_aiger_read.proofs.NamingLemmas.{roots-more}
use Rattle.craig_aiger_read.proofs.naming.roots_with_names.Goals as goal

pub loop-place-preserved : goal.loop-place-preserved
loop-place-preserved c =
    let split = c.in-Some.ensures.steps.0.0 in
    let place = c.in-Some.ensures.steps.1 in
    let next = c.in-Some.ensures.steps.2 in
    let size = ap length split in
    let lines = c.args.lines.now in
    let literals = map (λ (x : RootLine). x.literal) lines in
    let inside : c.loop-place.place-iterator.count < length lines = omega (arith, size, c.loop-place.invariant.1) in
    let inside_all : c.loop-place.place-iterator.count < length literals = omega (arith, inside, length-map lines (λ (x : RootLine). x.literal)) in (
      roots-more (λ n. n) c.loop-place.roots.items c.push.new.self.items literals c.loop-place.place-iterator.count c.next.new.self.count _
          c.loop-place.place-iterator.iter.rest.items c.next.new.self.iter.rest.items c.in-Some.name _ c.loop-place.invariant.0 split inside_all next
          (ap (λ z. (get_or lines z (record { offset = 0; literal = 0 })).literal) place ∙ sym (get_or-map (λ (x : RootLine). x.literal) lines c.loop-place.place-iterator.count (record { offset = 0; literal = 0 }) 0 inside))
          c.in_ok-push.ensures.items,
      omega (arith, size, next, c.loop-place.invariant.1),
    )
