use Rattle.craig_base.proofs.HeadsLemmas.{arena_with-slid, closed-slid, laid_out-slid}
use Rattle.craig_base.proofs.closing_gaps.slide_down.Goals as goal

pub returns-clause-closed : goal.returns-clause-closed
returns-clause-closed c =
    closed-slid c.args.heads.now c.args.literals.now c.args.place c.args.end c.live_length-length.result _ c.live_length-length.ensures c.requires.laid_out c.requires.closed c.requires.within

pub returns-clause-same : goal.returns-clause-same
returns-clause-same c =
    arena_with-slid c.args.heads.now c.args.literals.now c.copy_within.new.self c.args.place c.args.end c.live_length-length.result _ c.live_length-length.ensures c.requires.laid_out c.requires.closed c.requires.within c.copy_within.ensures.len c.copy_within.ensures.by_index.0 c.copy_within.ensures.by_index.1 c.copy_within.ensures.by_index.2

pub returns-clause-laid_out : goal.returns-clause-laid_out
returns-clause-laid_out c =
    laid_out-slid c.args.heads.now c.args.literals.now c.copy_within.new.self c.args.place c.args.end c.live_length-length.result _ c.live_length-length.ensures c.requires.laid_out c.requires.closed c.requires.within c.copy_within.ensures.len
