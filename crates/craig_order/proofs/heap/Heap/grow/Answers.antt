use Rattle.std.proofs.Common.{◌≡◌, ℕ, ◌<◌, ◌≤◌, List, false, ltb, length, get_or, sym, ap, ◌∙◌, arith}
use Rattle.craig_order.specs.Heap.{IsAppended, standing}
use Rattle.craig_order.proofs.HeapLemmas.{place-absent, standing-at, standing-length}
use Rattle.craig_order.proofs.heap.Heap.grow.Goals as goal

-- what stands in the heap when variables were appended to the row
as-before : (size count : ℕ) (old new : List ℕ) → IsAppended old new count → length old ≤ count → (v : ℕ) → v < length (standing size old) → get_or (standing size new) v false ≡ get_or (standing size old) v false
as-before size count old new so more v w =
    let long : length (standing size old) ≡ length old = standing-length size old in
    let all : length new ≡ count = so.known in
    standing-at size new v (omega arith) ∙ ap (λ (p : ℕ). ltb p size) (so.as_before v (omega arith)) ∙ sym (standing-at size old v (omega arith))

others : (size count : ℕ) (old new : List ℕ) → IsAppended old new count → size ≤ length old → (v : ℕ) → length old ≤ v → v < count → get_or (standing size new) v false ≡ false
others size count old new so fits v low w =
    let all : length new ≡ count = so.known in
    let is : get_or new v 0 ≡ v = so.last v low w in
    place-absent size new v (omega arith) (omega arith)

pub loop-var-init : goal.loop-var-init
loop-var-init c =
    let h = c.self.inside in
    let so = c.in_ok-grow.ensures.appended in
    let fits : h.size ≤ length h.permutation = c.self.invariant in
    let size : c.len-known.result ≡ length h.permutation = c.len-known.ensures in
    let long : length (standing h.size h.permutation) ≡ length h.permutation = standing-length h.size h.permutation in
    let more : length (standing h.size h.permutation) ≤ c.args.count = rw (← c.self.view_is) at c.requires.more in
    rw (← c.self.view_is) (record {
      known = standing-length h.size c.grow.new.self ∙ so.known;
      as_before = as-before h.size c.args.count h.permutation c.grow.new.self so (omega arith);
      stand = λ v low w. absurd (omega arith);
      others = λ v low w. others h.size c.args.count h.permutation c.grow.new.self so fits v (omega arith) w;
    })
