use Rattle.std.proofs.Common.{◌≡◌, ◌∙◌, arith, length}
use Rattle.std.proofs.lemmas.List.{take_at}
use Rattle.craig_base.proofs.arena.Arena.compact.Goals as goal

pub invariant_of-self : goal.invariant_of-self
invariant_of-self c =
    let heads : length c.close_gaps-left.new.heads ≡ c.self.inside.heads.len = omega (arith, c.close_gaps-left.auto.heads, c.deref_mut.ensures.len) in
    let literals : length c.close_gaps-left.new.literals ≡ c.self.inside.literals.len = omega (arith, c.close_gaps-left.auto.literals, c.deref_mut-2.ensures.len) in
    rw (c.truncate.ensures.items, take_at _ _ _ heads, take_at _ _ _ literals) c.close_gaps-left.ensures.laid_out

pub returns : goal.returns
returns c =
    let heads : length c.close_gaps-left.new.heads ≡ c.self.inside.heads.len = omega (arith, c.close_gaps-left.auto.heads, c.deref_mut.ensures.len) in
    let literals : length c.close_gaps-left.new.literals ≡ c.self.inside.literals.len = omega (arith, c.close_gaps-left.auto.literals, c.deref_mut-2.ensures.len) in
    rw (c.truncate.ensures.items, take_at _ _ _ heads, take_at _ _ _ literals) (rw (c.deref_mut.ensures.value, c.deref_mut-2.ensures.value) at c.close_gaps-left.ensures.same) ∙ c.self.view_is
