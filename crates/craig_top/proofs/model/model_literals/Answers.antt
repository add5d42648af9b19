use Rattle.std.proofs.Common.{◌∙◌, ap, not, [], ◌∷◌, ◌++◌}
use Rattle.craig_top.proofs.NamingLemmas.{model_below-named, model_below-unnamed}
use Rattle.craig_top.proofs.model.model_literals.Goals as goal
use Rattle.craig_top.proofs.model.model_literals.Goals.{then-named-place+in_ok-push, else-named-place}

pub loop-place-preserved : goal.loop-place-preserved
loop-place-preserved c =
    elim c.if-named-place.branch [
      | then-named-place+in_ok-push w ↦ model_below-named c.args.names.now c.args.named.now c.args.values.now c.loop-place.place _ _ _ c.loop-place.invariant w.if-named-place.true
          w.name.ensures.value (ap (λ v. v.items) w.literals-is ∙ w.in_ok-push.ensures.items ∙ ap (λ l. c.loop-place.literals.items ++ l ∷ []) w.new.ensures ∙ ap (λ b. c.loop-place.literals.items ++ record { var = w.name.result; negated = not b } ∷ []) w.get.ensures)
      | else-named-place w ↦ model_below-unnamed c.args.names.now c.args.named.now c.args.values.now c.loop-place.place _ _ c.loop-place.invariant w.if-named-place.false
          (ap (λ v. v.items) w.literals-is)
    ]
