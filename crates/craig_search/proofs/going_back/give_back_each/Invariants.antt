use Rattle.std.proofs.Common.{◌≡◌, ℕ, ◌<◌, true, length, get_or}
use Rattle.craig_spec.specs.Literal.{Literal}
use Rattle.craig_order.specs.Order.{is_given_back}
use Rattle.craig_search.proofs.going_back.give_back_each.Given as goal

abbrev pub invariant-loop-lit : goal.invariant-loop-lit
invariant-loop-lit l = record {
  known : length l.order.given_back ≡ length l.initial.order.given_back;
  kept : (v : ℕ) → is_given_back l.initial.order v ≡ true → is_given_back l.order v ≡ true;
  dead : l.order.dead ≡ l.initial.order.dead;
  given : (k : ℕ) (d : Literal) → k < l.lit-index → is_given_back l.order (get_or l.lits k d).var ≡ true;
}
