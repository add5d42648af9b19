use Rattle.std.proofs.Common.{◌≡◌, ℕ, ◌+◌, ◌<◌, ◌≤◌, List, true, false, length, get_or, set, map, sym, ap, ◌∙◌, arith}
use Rattle.craig_order.specs.Heap.{exchanged, standing}
use Rattle.craig_order.proofs.HeapLemmas.{absent-place, standing-appended, standing-length}
use Rattle.craig_order.proofs.heap.Heap.append.Goals as goal

-- the size is that of some of the places
size-fits : (size var place : ℕ) (places : List ℕ) → var < length (standing size places) → get_or (standing size places) var false ≡ false → place ≡ get_or places var 0 → place < length places → length places ≤ 2147483648 → size < 2147483648
size-fits size var place places known absent is within few =
    let long : length (standing size places) ≡ length places = standing-length size places in
    let high : size ≤ get_or places var 0 = absent-place size places var (omega arith) absent in
    omega arith

-- what stands in the heap afterwards
stands-appended : (size var place : ℕ) (places new : List ℕ) → var < length (standing size places) → get_or (standing size places) var false ≡ false → place ≡ get_or places var 0 → ((v : ℕ) → v < length places → get_or places v 0 ≡ place → v ≡ var) → new ≡ map (exchanged place size) places → standing (size + 1) new ≡ set (standing size places) var true
stands-appended size var place places new known absent is only new_is =
    let long : length (standing size places) ≡ length places = standing-length size places in
    let w : var < length places = omega arith in
    ap (standing (size + 1)) (new_is ∙ ap (λ (p : ℕ). map (exchanged p size) places) is)
    ∙ standing-appended size var places w (absent-place size places var w absent) (λ v known_too e. only v known_too (e ∙ sym is))

pub overflow_add-self : goal.overflow_add-self
overflow_add-self c =
    let small : c.self.inside.size < 2147483648 = size-fits c.self.inside.size c.args.var c.place_of-place.result c.self.inside.permutation (rw (← c.self.view_is) at c.requires.known) (rw (← c.self.view_is) at c.requires.absent) c.place_of-place.ensures.place c.place_of-place.ensures.within c.place_of-place.ensures.few in
    omega arith

pub returns-clause-stands : goal.returns-clause-stands
returns-clause-stands c =
    rw (← c.self.view_is) (stands-appended c.self.inside.size c.args.var c.place_of-place.result c.self.inside.permutation _ (rw (← c.self.view_is) at c.requires.known) (rw (← c.self.view_is) at c.requires.absent) c.place_of-place.ensures.place c.place_of-place.ensures.only c.exchange.ensures)
