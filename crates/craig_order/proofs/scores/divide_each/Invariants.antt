use Rattle.std.proofs.Common.{ℕ, ◌<◌, ◌≤◌, get_or}
use Rattle.craig_order.proofs.scores.divide_each.Given as goal

-- the scores before are divided
abbrev pub invariant-loop-score : goal.invariant-loop-score
invariant-loop-score l = (k : ℕ) → k < l.score-index → get_or l.scores k 0 ≤ 281474976710656
