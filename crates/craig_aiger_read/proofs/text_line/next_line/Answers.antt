use Rattle.std.proofs.Common.{refl, sym}
use Rattle.std.proofs.lemmas.Bool.{eqb-true}
use Rattle.std.proofs.lemmas.List.{nil_from_length}
use Rattle.craig_aiger_read.proofs.LineLemmas.{first_line-borrowed, some_byte}
use Rattle.craig_aiger_read.proofs.text_line.next_line.Goals as goal

pub returns-then-is_empty-clause-none : goal.returns-then-is_empty-clause-none
returns-then-is_empty-clause-none c = nil_from_length _ (eqb-true _ 0 (sym c.if-is_empty.ensures))

pub returns-clause-some : goal.returns-clause-some
returns-clause-some c =
    first_line-borrowed c.args.text.now c.cut_at.result.0.now c.cut_at.result.1 c.unwrap_or.result _ (some_byte _ (sym c.if-is_empty.ensures)) c.cut_at.ensures.front c.cut_at.ensures.behind refl c.unwrap_or.ensures
