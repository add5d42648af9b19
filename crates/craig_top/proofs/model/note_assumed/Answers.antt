use Rattle.std.proofs.Common.{◌≡◌, ◌||◌, ◌<◌, ℕ, false, true, get_or, set, length, ap, arith, ◌∙◌}
use Rattle.craig_spec.specs.Occurs.{occurs_in_clause}
use Rattle.std.proofs.Common.{[], ◌∷◌}
use Rattle.craig_top.proofs.AssumptionLemmas.{assumed-below, noted-more, noted-set}
use Rattle.craig_top.proofs.model.note_assumed.Goals as goal

pub bounds-named-var : goal.bounds-named-var
bounds-named-var c =
    let below = assumed-below (length c.args.named.now) c.args.assumptions.now c.loop-assumption.assumption-index c.assumption-item.result c.requires c.loop-assumption-test.true c.assumption-item.is in
    omega (arith, below, c.var.ensures.value, c.loop-assumption.auto.named)

pub loop-assumption-preserved : goal.loop-assumption-preserved
loop-assumption-preserved c =
    let below = assumed-below (length c.args.named.now) c.args.assumptions.now c.loop-assumption.assumption-index c.assumption-item.result c.requires c.loop-assumption-test.true c.assumption-item.is in
    let within : c.assumption-item.result.1.var < length c.loop-assumption.named = omega (arith, below, c.loop-assumption.auto.named) in
    let noted : (x : ℕ) → get_or (set c.loop-assumption.named c.var.result.0 true) x false ≡ (get_or c.loop-assumption.named x false || occurs_in_clause x (c.assumption-item.result.1 ∷ [])) =
    λ x. ap (λ (v : ℕ). get_or (set c.loop-assumption.named v true) x false) c.var.ensures.value ∙ noted-set c.loop-assumption.named c.assumption-item.result.1 x within in
    noted-more c.args.assumptions.now c.loop-assumption.assumption-index c.assumption-item.result (λ x. get_or c.args.named.now x false) (λ x. get_or c.loop-assumption.named x false) (λ x. get_or (set c.loop-assumption.named c.var.result.0 true) x false)
    c.loop-assumption-test.true c.assumption-item.is c.loop-assumption.invariant noted
