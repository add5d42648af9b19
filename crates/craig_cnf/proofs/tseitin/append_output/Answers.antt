use Rattle.craig_spec.proofs.AppendedLemmas.{AppendsOnly-then, AppendsOnly-tried}
use Rattle.std.specs.Result.{is_ok}
use Rattle.std.proofs.Common.{true}
use Rattle.craig_cnf.proofs.tseitin.append_output.Goals as goal

pub returns-clause-appends : goal.returns-clause-appends
returns-clause-appends c =
    AppendsOnly-then _ _ _ (AppendsOnly-tried true _ _ _ c.in_ok-extend_from_slice.ensures.items)
    (AppendsOnly-then _ _ _ c.in_ok-append_name.ensures.appends
    (AppendsOnly-then _ _ _ (AppendsOnly-tried true _ _ _ c.in_ok-extend_from_slice-2.ensures.items)
    (AppendsOnly-then _ _ _ c.in_ok-append_root.ensures.appends
    (AppendsOnly-tried (is_ok c.extend_from_slice-3.result) _ _ _ c.extend_from_slice-3.ensures.items))))
