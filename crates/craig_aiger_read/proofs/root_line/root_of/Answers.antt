use Rattle.std.proofs.Common.{Some, sym, ◌∙◌, ap}
use Rattle.craig_spec.specs.AigerReading.{root_of}
use Rattle.craig_aiger_read.specs.ReadViews.{as_counts}
use Rattle.craig_aiger_read.proofs.NumberLemmas.{checked-fails, checked-holds, root_of-none, root_of-one}
use Rattle.craig_aiger_read.proofs.root_line.root_of.Goals as goal

pub returns-in_default : goal.returns-in_default
returns-in_default c = ap (root_of (as_counts c.args.counts.now) c.args.offset) (sym c.in_default.ensures)

pub returns-in-len1 : goal.returns-in-len1
returns-in-len1 c =
    root_of-one (as_counts c.args.counts.now) _ _ c.as_slice.result.now (sym c.in-Some.ensures ∙ ap Some (sym c.as_slice.ensures.numbers)) c.in-len1.len_at_least c.in-len1.len_below
    ∙ checked-fails _ _ _ _ (sym c.if-not-is_literal.ensures)

pub returns-in-len1-2 : goal.returns-in-len1-2
returns-in-len1-2 c =
    root_of-one (as_counts c.args.counts.now) _ _ c.as_slice.result.now (sym c.in-Some.ensures ∙ ap Some (sym c.as_slice.ensures.numbers)) c.in-len1.len_at_least c.in-len1.len_below
    ∙ checked-holds _ _ _ _ (sym c.if-not-is_literal.ensures)

pub returns-in_default-as_slice : goal.returns-in_default-as_slice
returns-in_default-as_slice c =
    root_of-none (as_counts c.args.counts.now) _ _ c.as_slice.result.now (sym c.in-Some.ensures ∙ ap Some (sym c.as_slice.ensures.numbers)) c.in_default-as_slice.len_below
