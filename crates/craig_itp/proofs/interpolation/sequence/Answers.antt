use Rattle.std.proofs.Common.{ℕ, ◌+◌, ◌∙◌, ap}
use Rattle.std.specs.List.{range_with_len}
use Rattle.craig_itp.proofs.SequenceLemmas.{all_cuts-within}
use Rattle.craig_itp.proofs.interpolation.sequence.Goals as goal

pub chosen-requires-clause-cuts : goal.chosen-requires-clause-cuts
chosen-requires-clause-cuts g c =
    all_cuts-within c.args.sides.now.parts c.as_slice.result.now
    (c.as_slice.ensures.value ∙ c.in_ok-cuts.ensures ∙ ap (λ (n : ℕ). range_with_len 0 (n + 1)) c.parts.ensures.value)
