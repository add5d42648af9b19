use Rattle.std.proofs.Common.{arith}
use Rattle.craig_proof.proofs.RowLemmas.{derived_lent, row_derived, row_original, row_packed, within_rows}
use Rattle.craig_proof.proofs.stored_steps.StoredSteps.step.Goals as goal

pub index-row-requires : goal.index-row-requires
index-row-requires c =
    let within = within_rows c.self.inside.literals.items c.self.inside.bytes.items c.self.inside.rows.items c.args.place (rw (← c.self.view_is) at c.requires) in
    omega (arith, within, c.self.inside.rows.ok.0)

pub open-rest-requires : goal.open-rest-requires
open-rest-requires c =
    let within = within_rows c.self.inside.literals.items c.self.inside.bytes.items c.self.inside.rows.items c.args.place (rw (← c.self.view_is) at c.requires) in
    row_packed _ _ _ _ (row_derived c.self.inside.rows.items c.self.inside.literals.items c.self.inside.bytes.items _ c.self.invariant c.args.place c.index-row.result.now within c.index-row.ensures c.in-None.is c.packed.result.now (rw (← c.self.view_is) at c.packed.ensures))

pub returns-in-Some : goal.returns-in-Some
returns-in-Some c =
    let within = within_rows c.self.inside.literals.items c.self.inside.bytes.items c.self.inside.rows.items c.args.place (rw (← c.self.view_is) at c.requires) in
    rw (← c.self.view_is) (row_original c.self.inside.rows.items c.self.inside.literals.items c.self.inside.bytes.items _ c.self.invariant c.args.place c.index-row.result.now within c.index-row.ensures c.in-Some.part c.in-Some.is c.literals.result.now (rw (← c.self.view_is) at c.literals.ensures))

pub returns-in-None : goal.returns-in-None
returns-in-None c =
    let within = within_rows c.self.inside.literals.items c.self.inside.bytes.items c.self.inside.rows.items c.args.place (rw (← c.self.view_is) at c.requires) in
    rw (← c.self.view_is) (derived_lent _ _ _ _ _ _ (row_derived c.self.inside.rows.items c.self.inside.literals.items c.self.inside.bytes.items _ c.self.invariant c.args.place c.index-row.result.now within c.index-row.ensures c.in-None.is c.packed.result.now (rw (← c.self.view_is) at c.packed.ensures)) c.open-rest.ensures)
