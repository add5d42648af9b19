use Rattle.std.proofs.Common.{arith}
use Rattle.craig_proof.proofs.RowLemmas.{row_id, within_rows}
use Rattle.craig_proof.proofs.stored_steps.StoredSteps.id.Goals as goal

pub index-requires : goal.index-requires
index-requires c =
    let within = within_rows c.self.inside.literals.items c.self.inside.bytes.items c.self.inside.rows.items c.args.place (rw (← c.self.view_is) at c.requires) in
    omega (arith, within, c.self.inside.rows.ok.0)

pub returns : goal.returns
returns c =
    let within = within_rows c.self.inside.literals.items c.self.inside.bytes.items c.self.inside.rows.items c.args.place (rw (← c.self.view_is) at c.requires) in
    rw (← c.self.view_is) (row_id c.self.inside.rows.items c.self.inside.literals.items c.self.inside.bytes.items _ c.self.invariant c.args.place c.index.result.now within c.index.ensures)
