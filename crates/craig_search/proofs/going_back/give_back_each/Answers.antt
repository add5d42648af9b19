use Rattle.std.proofs.Common.{◌≡◌, ℕ, ◌<◌, true, length, get_or, ap, sym, subst, ◌∙◌, below_more}
use Rattle.std.proofs.lemmas.List.{get_or_read}
use Rattle.craig_spec.specs.Literal.{Literal}
use Rattle.craig_order.specs.Order.{OrderView, is_given_back}
use Rattle.craig_search.proofs.ReadyLemmas.{given_back-here, given_back-kept}
use Rattle.craig_search.proofs.going_back.give_back_each.Goals as goal

pub save-requires : goal.save-requires
save-requires c =
    let low = subst (λ (l : Literal). l.var < length c.args.order.now.given_back) (sym c.lit-item.is) (c.requires c.loop-lit.lit-index c.lit-item.result c.loop-lit-test.true) in
    subst (λ (n : ℕ). c.lit-item.result.var < n) (sym c.loop-lit.invariant.known) low

pub give_back-requires : goal.give_back-requires
give_back-requires c =
    let low = subst (λ (l : Literal). l.var < length c.args.order.now.given_back) (sym c.lit-item.is) (c.requires c.loop-lit.lit-index c.lit-item.result c.loop-lit-test.true) in
    let known : length c.save.new.self.given_back ≡ length c.args.order.now.given_back = ap (λ (o : OrderView). length o.given_back) c.save.ensures ∙ c.loop-lit.invariant.known in
    subst (λ (n : ℕ). c.var.result.0 < n) (sym known) (subst (λ (v : ℕ). v < length c.args.order.now.given_back) (sym c.var.ensures.value) low)

pub loop-lit-preserved : goal.loop-lit-preserved
loop-lit-preserved c =
    let i = c.loop-lit.lit-index in
    let order = c.loop-lit.order in
    record {
      known = c.give_back.ensures.known ∙ ap (λ (o : OrderView). length o.given_back) c.save.ensures ∙ c.loop-lit.invariant.known;
      kept = λ v was. given_back-kept order c.save.new.self c.give_back.new.self c.var.result.0 v c.save.ensures c.give_back.ensures (c.loop-lit.invariant.kept v was);
      dead = c.give_back.ensures.dead ∙ ap (λ (o : OrderView). o.dead) c.save.ensures ∙ c.loop-lit.invariant.dead;
      given = λ k d low. below_more (λ j. is_given_back c.give_back.new.self (get_or c.args.lits.now j d).var ≡ true) i (λ j before. given_back-kept order c.save.new.self c.give_back.new.self c.var.result.0 (get_or c.args.lits.now j d).var c.save.ensures c.give_back.ensures (c.loop-lit.invariant.given j d before)) (given_back-here c.save.new.self c.give_back.new.self c.var.result.0 (get_or c.args.lits.now i d).var c.give_back.ensures (ap (λ (l : Literal). l.var) (sym (get_or_read c.args.lits.now i c.lit-item.result c.loop-lit-test.true c.lit-item.is d)) ∙ sym c.var.ensures.value)) k low;
    }
