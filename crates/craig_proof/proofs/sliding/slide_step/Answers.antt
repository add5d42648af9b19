use Rattle.craig_proof.proofs.RowLemmas.{no_row}
use Rattle.craig_proof.proofs.SlidingLemmas.{skips, skips_left}
use Rattle.craig_proof.proofs.sliding.slide_step.Goals as goal

pub returns-else-rows-place-clause-sliding : goal.returns-else-rows-place-clause-sliding
returns-else-rows-place-clause-sliding c = skips c.args.rows.now c.args.literals.now c.args.bytes.now c.args.place c.args.filled c.requires.sliding c.requires.within no_row

pub returns-else-rows-place-clause-left : goal.returns-else-rows-place-clause-left
returns-else-rows-place-clause-left c = skips_left c.args.rows.now c.args.literals.now c.args.bytes.now c.args.place c.args.filled c.requires.sliding c.requires.within _ c.if-rows-place.false
