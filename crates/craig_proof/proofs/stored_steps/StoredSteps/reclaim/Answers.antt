use Rattle.std.proofs.Common.{◌≡◌, length, arith}
use Rattle.std.proofs.lemmas.List.{take_at}
use Rattle.craig_proof.proofs.SlidingLemmas.{have_chains, is_left, marked_stored}
use Rattle.craig_proof.proofs.stored_steps.StoredSteps.reclaim.Goals as goal

pub slide_down-filled-requires : goal.slide_down-filled-requires
slide_down-filled-requires c =
    let rising = rw (← c.self.view_is) at c.requires.rising in
    let stand = rw (← c.self.view_is) at c.requires.stand in
    let same = rw c.deref_mut.ensures.value at c.mark_needed.ensures.same in
    let marked_rows : length c.mark_needed.new.rows ≡ c.self.inside.rows.len = omega (arith, c.mark_needed.auto.rows, c.deref_mut.ensures.len) in
    rw (c.deref_mut-2.ensures.value, c.deref_mut-3.ensures.value, c.deref_mut-4.ensures.value, take_at _ _ _ marked_rows) (_, marked_stored c.self.inside.rows.items c.self.inside.literals.items c.self.inside.bytes.items c.self.invariant rising stand c.mark_needed.new.rows same)

pub invariant_of-self : goal.invariant_of-self
invariant_of-self c =
    let rising = rw (← c.self.view_is) at c.requires.rising in
    let stand = rw (← c.self.view_is) at c.requires.stand in
    let same = rw c.deref_mut.ensures.value at c.mark_needed.ensures.same in
    let marked_rows : length c.mark_needed.new.rows ≡ c.self.inside.rows.len = omega (arith, c.mark_needed.auto.rows, c.deref_mut.ensures.len) in
    let rows : length c.slide_down-filled.new.rows ≡ c.self.inside.rows.len = omega (arith, c.slide_down-filled.auto.rows, c.deref_mut-2.ensures.len, marked_rows) in
    let literals : length c.slide_down-filled.new.literals ≡ c.self.inside.literals.len = omega (arith, c.slide_down-filled.auto.literals, c.deref_mut-3.ensures.len) in
    let bytes : length c.slide_down-filled.new.bytes ≡ c.self.inside.bytes.len = omega (arith, c.slide_down-filled.auto.bytes, c.deref_mut-4.ensures.len) in
    let marks = (rw (c.deref_mut.ensures.value, c.deref.ensures.value) at c.mark_needed.ensures.marked) _ (have_chains c.self.inside.rows.items c.self.inside.literals.items c.self.inside.bytes.items c.self.invariant rising stand) in
    let slid = (rw (c.deref_mut-2.ensures.value, c.deref_mut-3.ensures.value, c.deref_mut-4.ensures.value, take_at _ _ _ marked_rows) at c.slide_down-filled.ensures.left) _ (marked_stored c.self.inside.rows.items c.self.inside.literals.items c.self.inside.bytes.items c.self.invariant rising stand c.mark_needed.new.rows same) in
    let left = is_left c.self.inside.rows.items c.self.inside.literals.items c.self.inside.bytes.items c.self.invariant rising stand c.mark_needed.new.rows same c.slide_down-filled.new.rows c.slide_down-filled.new.literals c.slide_down-filled.new.bytes c.slide_down-filled.result marks c.slide_down-filled.ensures.sliding slid in
    rw (c.truncate.ensures.items, c.truncate-2.ensures.items, c.truncate-3.ensures.items, take_at _ _ _ rows, take_at _ _ _ literals, take_at _ _ _ bytes) left.stored

pub returns-clause-reclaims : goal.returns-clause-reclaims
returns-clause-reclaims c =
    let rising = rw (← c.self.view_is) at c.requires.rising in
    let stand = rw (← c.self.view_is) at c.requires.stand in
    let same = rw c.deref_mut.ensures.value at c.mark_needed.ensures.same in
    let marked_rows : length c.mark_needed.new.rows ≡ c.self.inside.rows.len = omega (arith, c.mark_needed.auto.rows, c.deref_mut.ensures.len) in
    let rows : length c.slide_down-filled.new.rows ≡ c.self.inside.rows.len = omega (arith, c.slide_down-filled.auto.rows, c.deref_mut-2.ensures.len, marked_rows) in
    let literals : length c.slide_down-filled.new.literals ≡ c.self.inside.literals.len = omega (arith, c.slide_down-filled.auto.literals, c.deref_mut-3.ensures.len) in
    let bytes : length c.slide_down-filled.new.bytes ≡ c.self.inside.bytes.len = omega (arith, c.slide_down-filled.auto.bytes, c.deref_mut-4.ensures.len) in
    let marks = (rw (c.deref_mut.ensures.value, c.deref.ensures.value) at c.mark_needed.ensures.marked) _ (have_chains c.self.inside.rows.items c.self.inside.literals.items c.self.inside.bytes.items c.self.invariant rising stand) in
    let slid = (rw (c.deref_mut-2.ensures.value, c.deref_mut-3.ensures.value, c.deref_mut-4.ensures.value, take_at _ _ _ marked_rows) at c.slide_down-filled.ensures.left) _ (marked_stored c.self.inside.rows.items c.self.inside.literals.items c.self.inside.bytes.items c.self.invariant rising stand c.mark_needed.new.rows same) in
    let left = is_left c.self.inside.rows.items c.self.inside.literals.items c.self.inside.bytes.items c.self.invariant rising stand c.mark_needed.new.rows same c.slide_down-filled.new.rows c.slide_down-filled.new.literals c.slide_down-filled.new.bytes c.slide_down-filled.result marks c.slide_down-filled.ensures.sliding slid in
    rw (c.truncate.ensures.items, c.truncate-2.ensures.items, c.truncate-3.ensures.items, take_at _ _ _ rows, take_at _ _ _ literals, take_at _ _ _ bytes, ← c.self.view_is) left.reclaims

pub returns-clause-in_use : goal.returns-clause-in_use
returns-clause-in_use c =
    let rising = rw (← c.self.view_is) at c.requires.rising in
    let stand = rw (← c.self.view_is) at c.requires.stand in
    let same = rw c.deref_mut.ensures.value at c.mark_needed.ensures.same in
    let marked_rows : length c.mark_needed.new.rows ≡ c.self.inside.rows.len = omega (arith, c.mark_needed.auto.rows, c.deref_mut.ensures.len) in
    let rows : length c.slide_down-filled.new.rows ≡ c.self.inside.rows.len = omega (arith, c.slide_down-filled.auto.rows, c.deref_mut-2.ensures.len, marked_rows) in
    let literals : length c.slide_down-filled.new.literals ≡ c.self.inside.literals.len = omega (arith, c.slide_down-filled.auto.literals, c.deref_mut-3.ensures.len) in
    let bytes : length c.slide_down-filled.new.bytes ≡ c.self.inside.bytes.len = omega (arith, c.slide_down-filled.auto.bytes, c.deref_mut-4.ensures.len) in
    let marks = (rw (c.deref_mut.ensures.value, c.deref.ensures.value) at c.mark_needed.ensures.marked) _ (have_chains c.self.inside.rows.items c.self.inside.literals.items c.self.inside.bytes.items c.self.invariant rising stand) in
    let slid = (rw (c.deref_mut-2.ensures.value, c.deref_mut-3.ensures.value, c.deref_mut-4.ensures.value, take_at _ _ _ marked_rows) at c.slide_down-filled.ensures.left) _ (marked_stored c.self.inside.rows.items c.self.inside.literals.items c.self.inside.bytes.items c.self.invariant rising stand c.mark_needed.new.rows same) in
    let left = is_left c.self.inside.rows.items c.self.inside.literals.items c.self.inside.bytes.items c.self.invariant rising stand c.mark_needed.new.rows same c.slide_down-filled.new.rows c.slide_down-filled.new.literals c.slide_down-filled.new.bytes c.slide_down-filled.result marks c.slide_down-filled.ensures.sliding slid in
    rw (c.truncate.ensures.items, c.truncate-2.ensures.items, c.truncate-3.ensures.items, take_at _ _ _ rows, take_at _ _ _ literals, take_at _ _ _ bytes, ← c.self.view_is) left.in_use
