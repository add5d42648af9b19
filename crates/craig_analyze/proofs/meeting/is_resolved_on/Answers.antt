use Rattle.std.proofs.Common.{sym, ◌∙◌}
use Rattle.craig_analyze.proofs.LevelLemmas.{level_of-is, inner-level}
use Rattle.craig_analyze.proofs.CoreLemmas.{unforced-decision}
use Rattle.craig_analyze.proofs.meeting.is_resolved_on.Goals as goal

pub returns-in-InnerLevels-clause-no : goal.returns-in-InnerLevels-clause-no
returns-in-InnerLevels-clause-no c is falsified =
    let h = c.args.held.now in
    let level = level_of-is h.trail c.args.lit c.var.result.0 c.level_of.result c.var.ensures.value c.level_of.ensures in
    let no = c.is_end_level.ensures.no is in
    rw c.in-InnerLevels.is (inner-level h c.args.lit c.level_of.result c.level-present.ensures.consistent level no.0 (λ e. no.1 (e ∙ sym c.level-present.ensures.value)))

pub returns-in-Decisions-clause-no : goal.returns-in-Decisions-clause-no
returns-in-Decisions-clause-no c is falsified =
    rw c.in-Decisions.is (unforced-decision c.args.held.now.trail c.args.lit c.is_forced.result c.is_forced.ensures is falsified)
