use Rattle.std.proofs.Common.{◌≢◌, ℕ, ◌<◌, ◌≤◌, length, get_or}
use Rattle.craig_base.specs.declared.clause_id.ClauseId.{ClauseId}
use Rattle.craig_watch.proofs.watch_list.WatchList.place_of.Given as goal

-- it stands at none of the places behind
abbrev pub invariant-loop-index : goal.invariant-loop-index
invariant-loop-index l = record {
  within : l.index ≤ length l.self.ids;
  behind : (k : ℕ) (d : ClauseId) → l.index ≤ k → k < length l.self.ids → get_or l.self.ids k d ≢ l.id;
}

abbrev pub decreases-loop-index : goal.decreases-loop-index
decreases-loop-index l = l.index
