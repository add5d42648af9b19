use Rattle.std.proofs.Common.{◌≡◌, ◌%◌, ◌^◌, take}
use Rattle.std.specs.List.{sum_by}
use Rattle.craig_search.specs.Fingerprint.{mixed_literal}
use Rattle.craig_search.proofs.fingerprint.fingerprint.Given as goal

-- the literals so far are added up
abbrev pub invariant-loop-lit : goal.invariant-loop-lit
invariant-loop-lit l = l.sum ≡ sum_by mixed_literal (take l.lit-index l.lits) % 2 ^ 64
