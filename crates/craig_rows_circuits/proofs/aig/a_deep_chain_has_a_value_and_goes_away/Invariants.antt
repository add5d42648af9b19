use Rattle.std.proofs.Common.{◌<◌, ◌≤◌, length}
use Rattle.craig_rows_circuits.proofs.aig.a_deep_chain_has_a_value_and_goes_away.Given as goal

abbrev pub invariant-chain : goal.invariant-chain
invariant-chain g l = (l.x.place < length l.aig) × (l.last.place < length l.aig) × (l.level ≤ length l.aig)
