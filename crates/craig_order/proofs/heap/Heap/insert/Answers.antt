use Rattle.std.proofs.Common.{◌≡◌, ℕ, ◌<◌, List, true, length, get_or, set, subst}
use Rattle.craig_order.specs.Heap.{standing}
use Rattle.craig_order.proofs.HeapLemmas.{set_present, standing-length}
use Rattle.craig_order.proofs.heap.Heap.insert.Goals as goal

-- what stands in the heap is put there again
stands-still : (size var place : ℕ) (places : List ℕ) → var < length (standing size places) → place ≡ get_or places var 0 → place < size → standing size places ≡ set (standing size places) var true
stands-still size var place places known is low = set_present size places var (subst (λ (n : ℕ). var < n) (standing-length size places) known) (subst (λ (p : ℕ). p < size) is low)

pub returns-else-place_of-last : goal.returns-else-place_of-last
returns-else-place_of-last c =
    rw (← c.self.view_is) (stands-still c.self.inside.size c.args.var.0 c.place_of.result c.self.inside.permutation (rw (← c.self.view_is) at c.requires.known) c.place_of.ensures.place c.if-place_of-last.false)
