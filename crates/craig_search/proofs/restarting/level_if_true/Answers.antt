use Rattle.craig_search.proofs.PlaceLemmas.{level-low}
use Rattle.craig_search.proofs.restarting.level_if_true.Goals as goal

pub returns-then-eq : goal.returns-then-eq
returns-then-eq c =
    let h = c.args.held.now in
    level-low h.trail h.level c.var.result.0 c.level_of.result (c.entries_have_places.ensures.place h.trail) (c.levels_rise.ensures.present h c.requires.consistent) c.level_of.ensures
