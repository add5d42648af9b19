use Rattle.std.proofs.Common.{◌≡◌, take}
use Rattle.craig_watch.specs.Watches.{without_all}
use Rattle.craig_watch.proofs.keeping.kill_all.Given as goal

-- the clauses of the ids before this one are gone
abbrev pub invariant-loop-id : goal.invariant-loop-id
invariant-loop-id l = l.arena ≡ without_all l.fn.arena (take l.id-index l.ids)
