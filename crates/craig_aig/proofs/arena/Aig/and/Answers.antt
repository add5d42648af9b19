use Rattle.std.proofs.Common.{◌≡◌, ◌&&◌, sym, subst, ◌∙◌}
use Rattle.std.proofs.lemmas.Result.{IfOk-weaker}
use Rattle.craig_spec.specs.Truth.{Assignment}
use Rattle.craig_aig.specs.Arenas.{IsAig}
use Rattle.craig_aig.specs.Cones.{ConeWithin}
use Rattle.craig_aig.specs.Conjunctions.{gate}
use Rattle.craig_aig.specs.Edges.{Edge}
use Rattle.craig_aig.specs.Growth.{IsShared}
use Rattle.craig_aig.specs.Values.{edge_value}
use Rattle.craig_aig.proofs.ConjunctionLemmas.{edge_value-folded, cone-folded, within-IsShared, edge_value-gate, cone-gate}
use Rattle.craig_aig.proofs.GrowthLemmas.{ArenaGrows-Extends, ArenaGrows-same}
use Rattle.craig_aig.proofs.arena.Aig.and.Goals as goal

pub returns-in-Some-clause-computes : goal.returns-in-Some-clause-computes
returns-in-Some-clause-computes c =
    λ s. edge_value-folded s _ c.args.left c.args.right _ (subst IsAig c.self.view_is c.self.invariant) (sym c.fold.ensures ∙ c.in-Some.is)

pub returns-in-Some-clause-cone : goal.returns-in-Some-clause-cone
returns-in-Some-clause-cone c =
    cone-folded _ c.args.left c.args.right _ (subst IsAig c.self.view_is c.self.invariant) (sym c.fold.ensures ∙ c.in-Some.is)

pub returns-in-Some-clause-grows : goal.returns-in-Some-clause-grows
returns-in-Some-clause-grows c = ArenaGrows-same c.args.self.now (subst IsAig c.self.view_is c.self.invariant)

pub returns-in-None-clause-within : goal.returns-in-None-clause-within
returns-in-None-clause-within c = IfOk-weaker _ _ _ (λ e h. within-IsShared _ _ _ e h) c.share.ensures.shared

pub returns-in-None-clause-computes : goal.returns-in-None-clause-computes
returns-in-None-clause-computes c =
    let P : Edge → Type 0 = IsShared c.args.self.now (gate c.args.left c.args.right) c.share.new.self in
    let Q : Edge → Type 0 = λ e. (s : Assignment) → edge_value s c.share.new.self e ≡ (edge_value s c.args.self.now c.args.left && edge_value s c.args.self.now c.args.right) in
    IfOk-weaker _ P Q (λ e h s. edge_value-gate s _ _ c.args.left c.args.right e c.share.ensures.is_arena c.share.ensures.extends c.requires.left c.requires.right h)
    (rw c.make_gate.ensures at c.share.ensures.shared)

pub returns-in-None-clause-cone : goal.returns-in-None-clause-cone
returns-in-None-clause-cone c =
    let P : Edge → Type 0 = IsShared c.args.self.now (gate c.args.left c.args.right) c.share.new.self in
    let Q : Edge → Type 0 = ConeWithin c.args.self.now c.args.left c.args.right c.share.new.self in
    IfOk-weaker _ P Q (λ e h. cone-gate _ _ c.args.left c.args.right e c.share.ensures.is_arena c.share.ensures.extends c.requires.left c.requires.right h)
    (rw c.make_gate.ensures at c.share.ensures.shared)

pub returns-in-None-clause-grows : goal.returns-in-None-clause-grows
returns-in-None-clause-grows c = ArenaGrows-Extends _ _ c.share.ensures.extends c.share.ensures.is_arena
