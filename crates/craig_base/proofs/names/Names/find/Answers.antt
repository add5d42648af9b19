use Rattle.std.proofs.Common.{◌≡◌, true, false, sym}
use Rattle.craig_base.proofs.NamesLemmas.{slice_get-position, Contains-position}
use Rattle.craig_base.proofs.names.Names.find.Goals as goal

pub returns-clause-absent : goal.returns-clause-absent
returns-clause-absent c =
    (λ e. absurd (let no : true ≡ false = e in cc), λ absent. absurd (absent (rw (← c.self.view_is) (Contains-position c.args.name c.self.inside.table.keys c.in_ok-place.place (sym c.in_ok-place.ensures.index)))))

pub returns-clause-place : goal.returns-clause-place
returns-clause-place c = rw (← c.self.view_is) (slice_get-position c.args.name c.self.inside.table.keys c.in_ok-place.place (sym c.in_ok-place.ensures.index))
