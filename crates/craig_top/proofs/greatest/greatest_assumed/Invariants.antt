use Rattle.std.proofs.Common.{◌≡◌, ℕ, ℤ, map, take}
use Rattle.craig_spec.specs.DimacsText.{greatest_of_clause}
use Rattle.craig_top.specs.GivenState.{script_literal}
use Rattle.craig_top.proofs.greatest.greatest_assumed.Given as goal

-- the greatest variable of the assumptions so far
abbrev pub invariant-loop-pair : goal.invariant-loop-pair
invariant-loop-pair l = l.greatest ≡ greatest_of_clause (map (λ (pair : ℕ × ℤ). script_literal pair.1) (take l.pair-index l.pairs))
