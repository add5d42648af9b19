use Rattle.craig_aig.proofs.ArenaLemmas.{IsAig-cut, cut-is}
use Rattle.craig_aig.proofs.FunctionLemmas.{KeepsEdges-take}
use Rattle.craig_aig.proofs.arena.Aig.back_to.Goals as goal

pub invariant_of-self : goal.invariant_of-self
invariant_of-self c =
    IsAig-cut _ _ _ c.args.level (rw c.nodes.ensures.value at c.truncate.ensures.keys) c.self.view_is c.self.invariant c.nodes.ensures.positive c.requires

pub returns-clause-kept : goal.returns-clause-kept
returns-clause-kept c =
    KeepsEdges-take _ _ c.args.level (cut-is _ _ _ c.args.level (rw c.nodes.ensures.value at c.truncate.ensures.keys) c.self.view_is c.nodes.ensures.positive) c.requires

pub returns-clause-is_arena : goal.returns-clause-is_arena
returns-clause-is_arena c =
    IsAig-cut _ _ _ c.args.level (rw c.nodes.ensures.value at c.truncate.ensures.keys) c.self.view_is c.self.invariant c.nodes.ensures.positive c.requires
