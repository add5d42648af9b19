use Rattle.std.proofs.Common.{◌<◌, arith, length}
use Rattle.craig_base.proofs.HeadsLemmas.{within_heads, flags_found}
use Rattle.craig_base.proofs.arena.Arena.flags.Goals as goal

pub index-requires : goal.index-requires
index-requires c =
    let within : c.args.id.0 < length c.self.inside.heads.items = within_heads _ _ _ (rw (← c.self.view_is) at c.requires) in
    omega (arith, c.self.inside.heads.ok.0)

pub returns : goal.returns
returns c = rw (← c.self.view_is, c.flags.ensures) (flags_found c.self.inside.heads.items c.self.inside.literals.items c.args.id.0 c.index.result.now (rw (← c.self.view_is) at c.requires) c.index.ensures)
