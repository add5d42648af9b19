use Rattle.std.proofs.Common.{◌∙◌, ◌∷◌, ◌++◌, [], ap, append-nil, arith, false, not, sym, true}
use Rattle.craig_script.specs.Generator.{end_bound, has_bit, holds, state_bit}
use Rattle.craig_script.proofs.GeneratorLemmas.{above_more, stored}
use Rattle.craig_script.proofs.generator.end_clause.Goals as goal
use Rattle.craig_script.proofs.generator.end_clause.Goals.{then-not-has_bit+in_ok-push-2, else-not-has_bit}

pub loop-above-preserved : goal.loop-above-preserved
loop-above-preserved c =
    elim c.if-not-has_bit.branch [
      | then-not-has_bit+in_ok-push-2 w ↦
          above_more (λ i. holds (state_bit c.args.steps i)) (λ i. not (has_bit (end_bound c.args.steps) i)) c.args.bit c.loop-above.above true c.loop-above.lits c.if-not-has_bit.lits c.loop-above.auto.above
          (ap not (ap (λ n. has_bit n c.loop-above.above) (sym c.end_bound.ensures) ∙ sym c.has_bit.ensures ∙ w.if-not-has_bit.true)) c.loop-above.invariant
          (w.lits-is ∙ w.in_ok-push-2.ensures.pushed ∙ ap (λ z. c.loop-above.lits ++ z ∷ []) (stored w.number-then-not-has_bit.result (state_bit c.args.steps c.loop-above.above) (w.number-then-not-has_bit.ensures ∙ ap holds w.state_bit-then-not-has_bit.ensures) (omega arith)))
      | else-not-has_bit w ↦
          above_more (λ i. holds (state_bit c.args.steps i)) (λ i. not (has_bit (end_bound c.args.steps) i)) c.args.bit c.loop-above.above false c.loop-above.lits c.if-not-has_bit.lits c.loop-above.auto.above
          (ap not (ap (λ n. has_bit n c.loop-above.above) (sym c.end_bound.ensures) ∙ sym c.has_bit.ensures ∙ w.if-not-has_bit.false)) c.loop-above.invariant (w.lits-is ∙ sym (append-nil c.loop-above.lits))
    ]
