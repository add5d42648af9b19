use Rattle.std.proofs.Common.{arith}
use Rattle.craig_proof.proofs.RowLemmas.{read_stored, stored_original, stored_same}
use Rattle.craig_proof.proofs.stored_steps.StoredSteps.push_original.Goals as goal

pub invariant_of-self-2 : goal.invariant_of-self-2
invariant_of-self-2 c =
    rw (c.push_reserved.ensures.items, c.in_ok-reserve.ensures.items, c.in_ok-extend_from_slice.ensures.items)
    (stored_same _ _ _ _ (stored_original c.self.inside.rows.items c.self.inside.literals.items c.self.inside.bytes.items _ c.args.id c.args.part c.args.lits.now c.len-literals.result c.len.result (omega (arith, c.len-literals.ensures, c.self.inside.literals.ok.0)) (omega (arith, c.len.ensures, c.self.inside.bytes.ok.0)) c.self.invariant))

pub returns-clause-pushed : goal.returns-clause-pushed
returns-clause-pushed c =
    rw (c.push_reserved.ensures.items, c.in_ok-reserve.ensures.items, c.in_ok-extend_from_slice.ensures.items, ← c.self.view_is)
    (read_stored _ _ _ _ (stored_original c.self.inside.rows.items c.self.inside.literals.items c.self.inside.bytes.items _ c.args.id c.args.part c.args.lits.now c.len-literals.result c.len.result (omega (arith, c.len-literals.ensures, c.self.inside.literals.ok.0)) (omega (arith, c.len.ensures, c.self.inside.bytes.ok.0)) c.self.invariant))
