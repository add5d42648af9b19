use Rattle.std.proofs.Common.{◌≡◌, ◌<◌, ◌≤◌, length, set, arith}
use Rattle.std.proofs.lemmas.List.{length-set}
use Rattle.craig_order.proofs.PermutationLemmas.{ArePlaces-appended, IsAppended-more}
use Rattle.craig_order.proofs.permutation.Permutation.grow.Goals as goal

pub loop-var-preserved : goal.loop-var-preserved
loop-var-preserved c =
    let ok = c.loop-var.invariant in
    let size : length c.loop-var.self-inside.places.items ≡ c.loop-var.var = ok.appended.known in
    let from : c.len-known.result ≤ c.loop-var.var = c.loop-var.auto.var in
    let more : length c.self.inside.places.items ≤ c.loop-var.var = omega (arith, c.len-known.ensures, c.self.inside.places.ok.0) in
    let filled : length c.loop-var.self-inside.row.items ≡ c.args.count = ok.filled in
    let low : c.loop-var.var < c.args.count = c.loop-var-test.true in
    let few : c.args.count ≤ 2147483648 = c.requires.few in
    let wide : length (set c.loop-var.self-inside.row.items c.loop-var.var c.loop-var.var) ≡ length c.loop-var.self-inside.row.items = length-set c.loop-var.self-inside.row.items c.loop-var.var c.loop-var.var in
    record {
      places = rw c.push_reserved.ensures.items (ArePlaces-appended c.loop-var.self-inside.row.items c.loop-var.self-inside.places.items c.loop-var.var ok.places size (omega arith) (omega arith));
      appended = rw c.push_reserved.ensures.items (IsAppended-more c.args.self.now c.loop-var.self-inside.places.items c.loop-var.var ok.appended (rw (← c.self.view_is) more));
      filled = omega arith;
      room = omega (arith, ok.room, c.push_reserved.ensures.len, c.push_reserved.ensures.capacity);
    }
