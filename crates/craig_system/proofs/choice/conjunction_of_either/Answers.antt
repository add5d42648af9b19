use Rattle.std.proofs.Common.{◌≡◌, ◌&&◌, subst}
use Rattle.craig_spec.specs.Literal.{Literal}
use Rattle.craig_spec.specs.Truth.{Assignment}
use Rattle.craig_aig.specs.Cones.{ConeWithin}
use Rattle.craig_aig.specs.Values.{edge_value}
use Rattle.craig_system.specs.Building.{IsMore}
use Rattle.craig_system.specs.Rules.{IsChoice}
use Rattle.craig_aig.proofs.GrowthLemmas.{ArenaGrows-trans}
use Rattle.craig_system.proofs.ResultLemmas.{IfOk-both}
use Rattle.craig_system.proofs.JoinLemmas.{IsChoice-and}
use Rattle.craig_system.proofs.choice.conjunction_of_either.Goals as goal

pub returns-in_err-second-clause-grows : goal.returns-in_err-second-clause-grows
returns-in_err-second-clause-grows c = ArenaGrows-trans c.args.aig.now c.or_literal.new.aig c.or_literal-2.new.aig c.or_literal.ensures.grows c.or_literal-2.ensures.grows

pub returns-clause-choice : goal.returns-clause-choice
returns-clause-choice c =
    let old = c.args.aig.now in
    let a = c.or_literal.new.aig in
    let b = c.or_literal-2.new.aig in
    let new = c.and.new.self in
    let left = c.args.left in
    let right = c.args.right in
    let first = c.in_ok-first.first in
    let second = c.in_ok-second.second in
    let negated = subst (λ (l : Literal). IsMore l a right b second) c.not.ensures c.in_ok-second.ensures.more in
    IfOk-both c.and.result (λ e. (s : Assignment) → edge_value s new e ≡ (edge_value s b first && edge_value s b second)) (ConeWithin b first second new) (IsChoice c.args.pivot old left right new)
    (λ e value inputs.
    IsChoice-and c.args.pivot old a b new left right first second e c.or_literal.ensures.grows c.or_literal-2.ensures.grows c.requires.left c.requires.right c.in_ok-first.ensures.within
    c.in_ok-first.ensures.more negated value inputs)
    c.and.ensures.computes c.and.ensures.cone

pub returns-clause-grows : goal.returns-clause-grows
returns-clause-grows c =
    let old = c.args.aig.now in
    let b = c.or_literal-2.new.aig in
    ArenaGrows-trans old b c.and.new.self (ArenaGrows-trans old c.or_literal.new.aig b c.or_literal.ensures.grows c.or_literal-2.ensures.grows)
    c.and.ensures.grows
