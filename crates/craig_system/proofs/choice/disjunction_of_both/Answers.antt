use Rattle.craig_aig.specs.Cones.{ChoiceConeWithin}
use Rattle.craig_aig.specs.Values.{ComputesChoice}
use Rattle.craig_system.specs.Rules.{IsChoice}
use Rattle.craig_aig.proofs.GrowthLemmas.{ArenaGrows-trans}
use Rattle.craig_system.proofs.ResultLemmas.{IfOk-both}
use Rattle.craig_system.proofs.JoinLemmas.{IsChoice-mux}
use Rattle.craig_system.proofs.choice.disjunction_of_both.Goals as goal

pub returns-clause-choice : goal.returns-clause-choice
returns-clause-choice c =
    let old = c.args.aig.now in
    let a = c.literal_edge.new.aig in
    let new = c.mux.new.self in
    let left = c.args.left in
    let right = c.args.right in
    let literal = c.in_ok-literal.literal in
    IfOk-both c.mux.result (ComputesChoice a literal right left new) (ChoiceConeWithin a literal right left new) (IsChoice c.args.pivot old left right new)
    (λ e value inputs. IsChoice-mux c.args.pivot old a new left right literal e c.literal_edge.ensures.grows c.requires.left c.requires.right c.in_ok-literal.ensures.literal value inputs)
    c.mux.ensures.computes c.mux.ensures.cone

pub returns-clause-grows : goal.returns-clause-grows
returns-clause-grows c =
    ArenaGrows-trans c.args.aig.now c.literal_edge.new.aig c.mux.new.self c.literal_edge.ensures.grows
    c.mux.ensures.grows
