use Rattle.std.proofs.Common.{◌≤◌, subst, sym, Contains}
use Rattle.std.proofs.lemmas.Result.{IfOk-from_err}
use Rattle.craig_aiger.proofs.TableLemmas.{All-from_members, dedup_rises, dedup_has, dedup_from}
use Rattle.craig_aiger.proofs.script_inputs.input_names.Goals as goal

pub returns-clause-rising : goal.returns-clause-rising
returns-clause-rising c = dedup_rises c.in_ok-inputs.inputs.items c.sort_unstable.new.self.items c.dedup.new.self.items c.sort_unstable.ensures.permutation c.sort_unstable.ensures.sorted c.dedup.ensures.filtered

pub returns-clause-variables : goal.returns-clause-variables
returns-clause-variables c = All-from_members (λ x. (1 ≤ x) × (x ≤ 2147483647)) c.in_ok-inputs.inputs.items c.dedup.new.self.items
    (dedup_from c.in_ok-inputs.inputs.items c.sort_unstable.new.self.items c.dedup.new.self.items c.sort_unstable.ensures.permutation c.sort_unstable.ensures.sorted c.dedup.ensures.filtered) c.in_ok-inputs.ensures.variables

pub returns-clause-names : goal.returns-clause-names
returns-clause-names c = λ x. (
  λ h. subst (λ l. Contains l x) c.in_ok-inputs.ensures.names (dedup_from c.in_ok-inputs.inputs.items c.sort_unstable.new.self.items c.dedup.new.self.items c.sort_unstable.ensures.permutation c.sort_unstable.ensures.sorted c.dedup.ensures.filtered x h),
  λ h. dedup_has c.in_ok-inputs.inputs.items c.sort_unstable.new.self.items c.dedup.new.self.items c.sort_unstable.ensures.permutation c.sort_unstable.ensures.sorted c.dedup.ensures.filtered x (subst (λ l. Contains l x) (sym c.in_ok-inputs.ensures.names) h),
)

pub returns-in_err-inputs-clause-rising : goal.returns-in_err-inputs-clause-rising
returns-in_err-inputs-clause-rising c = IfOk-from_err _ _ c.from_residual.ensures.0

pub returns-in_err-inputs-clause-variables : goal.returns-in_err-inputs-clause-variables
returns-in_err-inputs-clause-variables c = IfOk-from_err _ _ c.from_residual.ensures.0

pub returns-in_err-inputs-clause-names : goal.returns-in_err-inputs-clause-names
returns-in_err-inputs-clause-names c = IfOk-from_err _ _ c.from_residual.ensures.0

pub returns-in_err-inputs-clause-bound : goal.returns-in_err-inputs-clause-bound
returns-in_err-inputs-clause-bound c = IfOk-from_err _ _ c.from_residual.ensures.0
