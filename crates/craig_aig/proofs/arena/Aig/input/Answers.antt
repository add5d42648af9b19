use Rattle.std.proofs.Common.{◌≡◌}
use Rattle.std.proofs.lemmas.Result.{IfOk-weaker}
use Rattle.craig_spec.specs.Truth.{Assignment, variable_value}
use Rattle.craig_aig.specs.Edges.{Edge}
use Rattle.craig_aig.specs.Values.{edge_value}
use Rattle.craig_aig.proofs.ConjunctionLemmas.{within-IsShared, edge_value-IsShared, cone-IsShared}
use Rattle.craig_aig.proofs.GrowthLemmas.{ArenaGrows-Extends}
use Rattle.craig_aig.proofs.arena.Aig.input.Goals as goal

pub returns-clause-within : goal.returns-clause-within
returns-clause-within c = IfOk-weaker _ _ _ (λ e h. within-IsShared _ _ _ e h) c.share.ensures.shared

pub returns-clause-computes : goal.returns-clause-computes
returns-clause-computes c =
    let P : Edge → Type 0 = λ e. (s : Assignment) → edge_value s c.share.new.self e ≡ variable_value s c.args.var.0 in
    IfOk-weaker _ _ P (λ e h s. edge_value-IsShared s _ _ _ e c.share.ensures.is_arena h) c.share.ensures.shared

pub returns-clause-cone : goal.returns-clause-cone
returns-clause-cone c = IfOk-weaker _ _ _ (λ e h. cone-IsShared _ _ _ e c.share.ensures.is_arena h) c.share.ensures.shared

pub returns-clause-grows : goal.returns-clause-grows
returns-clause-grows c = ArenaGrows-Extends _ _ c.share.ensures.extends c.share.ensures.is_arena
