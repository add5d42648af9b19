use Rattle.std.proofs.Common.{subst, ◌≡◌, ℕ, Some, eqb-true}
use Rattle.std.specs.Option.{option_map}
use Rattle.craig_watch.specs.Trail.{entry_of}
use Rattle.craig_analyze.proofs.RedundancyLemmas.{root-forced}
use Rattle.craig_analyze.proofs.meeting.is_root.Goals as goal

pub returns-clause-yes : goal.returns-clause-yes
returns-clause-yes c is =
    let h = c.args.held.now in
    let told = subst (λ (v : ℕ). option_map (λ e. e.level) (entry_of h.trail v) ≡ Some c.level_of.result) c.var.ensures.value c.level_of.ensures in
    root-forced h c.args.lit.var c.level_of.result c.level.ensures.consistent c.requires told (eqb-true c.level_of.result 0 is)
