use Rattle.std.proofs.Common.{◌+◌, refl}
use Rattle.craig_aiger.specs.AsciiText.{input_line}
use Rattle.craig_aiger.proofs.AppendingLemmas.{HasRoom-more, IsAppended-more}
use Rattle.craig_aiger.proofs.writing.append_inputs.Goals as goal

pub append_literal-requires : goal.append_literal-requires
append_literal-requires c = HasRoom-more input_line 1 c.args.inputs.now c.loop-place.place (1 + c.loop-place.place) 0 c.args.out.now c.loop-place.out c.loop-place-test.true refl c.loop-place.invariant c.requires

pub loop-place-preserved : goal.loop-place-preserved
loop-place-preserved c = IsAppended-more input_line 1 c.args.inputs.now c.loop-place.place (1 + c.loop-place.place) 0 c.args.out.now c.loop-place.out c.loop-place-test.true refl c.loop-place.invariant c.append_literal.new.out c.append_literal.ensures
