use Rattle.std.proofs.Common.{◌≡◌, ◌∷◌, take}
use Rattle.craig_analyze.proofs.analysis.with_first.Given as goal

-- the first literal and the others so far
abbrev pub invariant-loop-lit : goal.invariant-loop-lit
invariant-loop-lit l = l.lits ≡ l.fn.first ∷ take l.lit-index l.others
