use Rattle.std.proofs.Common.{◌∙◌, sym, ap}
use Rattle.std.proofs.lemmas.List.Folds.{list_all-map}
use Rattle.std.specs.Int.RustNames.{unsigned_abs}
use Rattle.std.specs.List.{list_all}
use Rattle.craig_script.specs.Reading.{variables_named, is_within}
use Rattle.craig_script.proofs.admission.variables_are_within.Goals as goal

pub returns-in-Add : goal.returns-in-Add
returns-in-Add c =
    rw (c.each_literal_is_within.ensures, c.as_slice.ensures)
    (sym (list_all-map (is_within c.args.limit) unsigned_abs c.in-Add.lits)
    ∙ ap (λ z. list_all (is_within c.args.limit) (variables_named z)) (sym c.in-Add.is))

pub returns-in-Solve : goal.returns-in-Solve
returns-in-Solve c =
    rw (c.each_assumption_is_within.ensures, c.as_slice-in-Solve.ensures)
    (sym (list_all-map (is_within c.args.limit) (λ pair. unsigned_abs pair.1) c.in-Solve.pairs)
    ∙ ap (λ z. list_all (is_within c.args.limit) (variables_named z)) (sym c.in-Solve.is))
