use Rattle.std.proofs.Common.{◌≡◌, ℕ, ◌<◌, true, length, get_or}
use Rattle.craig_spec.specs.Literal.{Literal}
use Rattle.craig_order.specs.Order.{is_given_back}
use Rattle.craig_solver.proofs.settling.give_back_each.Given as goal

abbrev pub invariant-loop-lit : goal.invariant-loop-lit
invariant-loop-lit l = record {
  known : length l.order.given_back ≡ length l.initial.order.given_back;
  dead : l.order.dead ≡ l.initial.order.dead;
  given : (k : ℕ) (d : Literal) → k < l.lit-index → is_given_back l.order (get_or l.lits k d).var ≡ true;
}
