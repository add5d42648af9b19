use Rattle.std.proofs.Common.{◌∙◌, sym}
use Rattle.craig_script.proofs.RisingLemmas.{rising-end, rising-step, rising-stop}
use Rattle.craig_script.proofs.admission.are_rising_within.Goals as goal

pub loop-number-preserved : goal.loop-number-preserved
loop-number-preserved c = (
  sym (rising-step c.loop-number.least c.args.greatest c.args.numbers.now c.loop-number.number-index c.in-Some.next _ c.loop-number-test.true (sym c.next_least.ensures.next ∙ c.in-Some.is)) ∙ c.loop-number.invariant.0,
  c.in-Some.ensures.bound,
)

pub returns-in_default : goal.returns-in_default
returns-in_default c =
    sym (rising-stop c.loop-number.least c.args.greatest c.args.numbers.now c.loop-number.number-index _ c.loop-number-test.true (sym c.next_least.ensures.next ∙ c.in_default.is)) ∙ c.loop-number.invariant.0

pub returns : goal.returns
returns c = sym (rising-end c.loop-number.least c.args.greatest c.args.numbers.now c.loop-number.number-index c.loop-number-test.false) ∙ c.loop-number.invariant.0
