use Rattle.craig_aiger_read.proofs.CutLemmas.{behind_first-is}
use Rattle.craig_aiger_read.proofs.cut.cut_at.Goals as goal

pub returns-in-Some-clause-behind : goal.returns-in-Some-clause-behind
returns-in-Some-clause-behind c =
    behind_first-is c.args.separator c.separator_place.result c.args.bytes.now c.split_at.result.1.now c.in-Some.behind.now c.in-Some.field-0-0.now
    c.separator_place.ensures.place c.in-Some.ensures.cases.0 c.split_at.ensures.back
