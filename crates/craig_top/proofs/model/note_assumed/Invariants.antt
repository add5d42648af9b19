use Rattle.std.proofs.Common.{◌≡◌, ℕ, false, ◌||◌, get_or, take}
use Rattle.craig_search.specs.Verdict.{units}
use Rattle.craig_spec.specs.Occurs.{occurs}
use Rattle.craig_top.proofs.model.note_assumed.Given as goal

-- the variables of the assumptions so far are noted too
abbrev pub invariant-loop-assumption : goal.invariant-loop-assumption
invariant-loop-assumption l = (x : ℕ) → get_or l.named x false ≡ (get_or l.fn.named x false || occurs x (units (take l.assumption-index l.assumptions)))
