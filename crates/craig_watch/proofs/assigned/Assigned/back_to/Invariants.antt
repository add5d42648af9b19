use Rattle.std.proofs.Common.{◌≡◌, ◌≤◌, length}
use Rattle.craig_watch.specs.Trail.{decisions, part_up_to}
use Rattle.craig_watch.proofs.assigned.Assigned.back_to.Given as goal

-- what stands above the level is taken from the trail, and nothing else
abbrev pub invariant-loop-self : goal.invariant-loop-self
invariant-loop-self l = record {
  part : part_up_to l.level l.self.trail ≡ part_up_to l.level l.initial.self.trail;
  vars : l.self.vars ≡ l.initial.self.vars;
  open_still : l.level ≤ decisions l.self.trail;
}

abbrev pub decreases-loop-self : goal.decreases-loop-self
decreases-loop-self l = length l.self.trail
