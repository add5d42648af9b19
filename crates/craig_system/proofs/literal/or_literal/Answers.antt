use Rattle.std.proofs.Common.{◌≡◌, ◌||◌}
use Rattle.craig_spec.specs.Truth.{Assignment}
use Rattle.craig_aig.specs.Cones.{ConeWithin}
use Rattle.craig_aig.specs.Values.{edge_value}
use Rattle.craig_system.specs.Building.{IsMore}
use Rattle.craig_aig.proofs.GrowthLemmas.{ArenaGrows-trans}
use Rattle.craig_system.proofs.ResultLemmas.{IfOk-both}
use Rattle.craig_system.proofs.LiteralLemmas.{IsMore-or}
use Rattle.craig_system.proofs.literal.or_literal.Goals as goal

pub returns-clause-more : goal.returns-clause-more
returns-clause-more c =
    let old = c.args.aig.now in
    let a = c.literal_edge.new.aig in
    let new = c.or.new.self in
    let before = c.args.edge in
    let literal = c.in_ok-literal.literal in
    IfOk-both c.or.result (λ e. (s : Assignment) → edge_value s new e ≡ (edge_value s a before || edge_value s a literal)) (ConeWithin a before literal new) (IsMore c.args.lit old before new)
    (λ e value inputs. IsMore-or c.args.lit old a new before literal e c.literal_edge.ensures.grows c.requires c.in_ok-literal.ensures.literal value inputs)
    c.or.ensures.computes c.or.ensures.cone

pub returns-clause-grows : goal.returns-clause-grows
returns-clause-grows c =
    ArenaGrows-trans c.args.aig.now c.literal_edge.new.aig c.or.new.self c.literal_edge.ensures.grows
    c.or.ensures.grows
