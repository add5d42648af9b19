use Rattle.std.proofs.Common.{◌≡◌, ◌||◌, ◌&&◌, ap, ◌∙◌}
use Rattle.std.proofs.lemmas.Result.{IfOk-weaker}
use Rattle.craig_spec.specs.Truth.{Assignment}
use Rattle.craig_aig.specs.Cones.{ConeWithin}
use Rattle.craig_aig.specs.Values.{edge_value}
use Rattle.craig_system.specs.Rules.{labelling, IsChoice, IsJoin}
use Rattle.craig_system.proofs.ResultLemmas.{IfOk-both}
use Rattle.craig_system.proofs.JoinLemmas.{IsJoin-or, IsJoin-and, IsJoin-choice}
use Rattle.craig_system.proofs.system.System.join.Goals as goal

pub returns-in-A-clause-join : goal.returns-in-A-clause-join
returns-in-A-clause-join g c =
    let old = c.args.aig.now in
    let new = c.or.new.self in
    let left = c.args.left in
    let right = c.args.right in
    let label = (labelling c.args.sides.now c.args.cut (g.Self.System.marks c.args.self.now)).label in
    IfOk-both c.or.result (λ e. (s : Assignment) → edge_value s new e ≡ (edge_value s old left || edge_value s old right)) (ConeWithin old left right new) (IsJoin label c.args.pivot old left right new)
    (λ e value inputs. IsJoin-or label c.args.pivot old new left right e (c.in-A.ensures ∙ ap label c.var.ensures.value) value inputs)
    c.or.ensures.computes c.or.ensures.cone

pub returns-in-Ab-clause-join : goal.returns-in-Ab-clause-join
returns-in-Ab-clause-join g c =
    let old = c.args.aig.now in
    let new = c.choice.new.aig in
    let left = c.args.left in
    let right = c.args.right in
    let label = (labelling c.args.sides.now c.args.cut (g.Self.System.marks c.args.self.now)).label in
    IfOk-weaker c.choice.result (IsChoice c.args.pivot old left right new) (IsJoin label c.args.pivot old left right new)
    (λ e h. IsJoin-choice label c.args.pivot old new left right e (c.in-Ab.ensures ∙ ap label c.var.ensures.value) h)
    c.choice.ensures.choice

pub returns-in-B-clause-join : goal.returns-in-B-clause-join
returns-in-B-clause-join g c =
    let old = c.args.aig.now in
    let new = c.and.new.self in
    let left = c.args.left in
    let right = c.args.right in
    let label = (labelling c.args.sides.now c.args.cut (g.Self.System.marks c.args.self.now)).label in
    IfOk-both c.and.result (λ e. (s : Assignment) → edge_value s new e ≡ (edge_value s old left && edge_value s old right)) (ConeWithin old left right new) (IsJoin label c.args.pivot old left right new)
    (λ e value inputs. IsJoin-and label c.args.pivot old new left right e (c.in-B.ensures ∙ ap label c.var.ensures.value) value inputs)
    c.and.ensures.computes c.and.ensures.cone
