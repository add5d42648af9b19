use Rattle.std.proofs.Common.{◌≡◌, ℕ, ◌+◌, ◌-◌, ◌<◌, ◌≤◌, List, false, length, get_or, set, map, sym, ap, ◌∙◌, arith}
use Rattle.craig_order.specs.Heap.{exchanged, standing}
use Rattle.craig_order.proofs.HeapLemmas.{standing-none, standing-taken}
use Rattle.craig_order.proofs.heap.Heap.pop.Goals as goal

-- in an empty heap nothing stands
none-stands : (size : ℕ) (places : List ℕ) → size ≡ 0 → (v : ℕ) → get_or (standing size places) v false ≡ false
none-stands size places empty v = ap (λ (n : ℕ). get_or (standing n places) v false) empty ∙ standing-none places v

-- what stands in the heap afterwards
stands-taken : (size less var : ℕ) (places moved new : List ℕ) → var < length places → get_or places var 0 ≡ 0 → ((v : ℕ) → v < length places → get_or places v 0 ≡ 0 → v ≡ var) → size ≡ less + 1 → moved ≡ map (exchanged 0 less) places → standing less new ≡ standing less moved → standing less new ≡ set (standing size places) var false
stands-taken size less var places moved new known first only size_is moved_is new_is =
    new_is ∙ ap (standing less) moved_is ∙ standing-taken less var places known first only ∙ ap (λ (n : ℕ). set (standing n places) var false) (sym size_is)

pub returns-then-self-eq0-clause-none : goal.returns-then-self-eq0-clause-none
returns-then-self-eq0-clause-none c = λ is v. rw (← c.self.view_is) (none-stands c.self.inside.size c.self.inside.permutation c.if-self-eq0.true v)

pub overflow_cast-result : goal.overflow_cast-result
overflow_cast-result c =
    let few : length c.self.inside.permutation ≤ 2147483648 = c.at-var.ensures.few in
    let known : c.at-var.result < length c.self.inside.permutation = c.at-var.ensures.known in
    omega arith

pub returns-clause-taken : goal.returns-clause-taken
returns-clause-taken c =
    let some : 0 < c.self.inside.size = omega (arith, c.if-self-eq0.false) in
    rw (← c.self.view_is) (stands-taken c.self.inside.size (c.self.inside.size - 1) c.at-var.result c.self.inside.permutation c.exchange.new.self c.sift_down.new.permutation c.at-var.ensures.known c.at-var.ensures.place c.at-var.ensures.only (omega arith) c.exchange.ensures c.sift_down.ensures.stand)
