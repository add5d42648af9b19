use Rattle.std.proofs.Common.{ℕ, ◌++◌, ◌∷◌, [], Some, ap, sym, subst, ◌∙◌}
use Rattle.craig_watch.specs.Assigned.{AssignedView}
use Rattle.craig_watch.specs.WatchedState.{Continues}
use Rattle.craig_watch.proofs.StateLemmas.{Continues-forced}
use Rattle.craig_watch.proofs.watched.Watched.force.Goals as goal

pub returns-clause-continues : goal.returns-clause-continues
returns-clause-continues c =
    subst (λ (x : AssignedView). Continues c.args.self.now (record { arena = c.args.self.now.arena; assigned = x; lists = c.args.self.now.lists; looked = c.args.self.now.looked; walked = c.args.self.now.walked }))
    (sym (c.push.ensures.pushed ∙ ap (λ (n : ℕ). record { vars = c.args.self.now.assigned.vars; trail = c.args.self.now.assigned.trail ++ record { literal = c.args.literal; level = n; reason = Some c.args.id } ∷ [] }) c.level-level.ensures.value))
    (Continues-forced c.args.self.now c.args.literal c.args.id c.requires.sound c.requires.forced)
