use Rattle.std.proofs.Common.{arith}
use Rattle.craig_proof.proofs.RowLemmas.{packable_of, read_stored, stored_derived, stored_same}
use Rattle.craig_proof.proofs.stored_steps.StoredSteps.push_derived.Goals as goal

pub invariant_of-self-2 : goal.invariant_of-self-2
invariant_of-self-2 c =
    rw (c.push_reserved.ensures.items, c.in_ok-reserve.ensures.items, c.in_ok-extend_from_slice.ensures.items, c.in_ok-reserve-2.ensures.items, c.in_ok-append_chain.ensures.appended)
    (stored_same _ _ _ _ (stored_derived c.self.inside.rows.items c.self.inside.literals.items c.self.inside.bytes.items _ c.args.id c.args.first c.args.lits.now c.args.rest.now c.len-literals.result c.len-bytes.result (omega (arith, c.len-literals.ensures, c.in_ok-reserve-2.ensures.len, c.self.inside.literals.ok.0)) (omega (arith, c.len-bytes.ensures, c.self.inside.bytes.ok.0)) (packable_of c.args.id.0 c.args.first.0 c.args.rest.now c.requires.first c.requires.rest c.in_ok-append_chain.ensures.small) c.self.invariant))

pub returns-clause-pushed : goal.returns-clause-pushed
returns-clause-pushed c =
    rw (c.push_reserved.ensures.items, c.in_ok-reserve.ensures.items, c.in_ok-extend_from_slice.ensures.items, c.in_ok-reserve-2.ensures.items, c.in_ok-append_chain.ensures.appended, ← c.self.view_is)
    (read_stored _ _ _ _ (stored_derived c.self.inside.rows.items c.self.inside.literals.items c.self.inside.bytes.items _ c.args.id c.args.first c.args.lits.now c.args.rest.now c.len-literals.result c.len-bytes.result (omega (arith, c.len-literals.ensures, c.in_ok-reserve-2.ensures.len, c.self.inside.literals.ok.0)) (omega (arith, c.len-bytes.ensures, c.self.inside.bytes.ok.0)) (packable_of c.args.id.0 c.args.first.0 c.args.rest.now c.requires.first c.requires.rest c.in_ok-append_chain.ensures.small) c.self.invariant))
