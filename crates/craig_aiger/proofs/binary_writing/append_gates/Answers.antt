use Rattle.std.proofs.Common.{◌+◌, refl}
use Rattle.craig_aiger.specs.BinaryText.{gate_groups}
use Rattle.craig_aiger.proofs.AppendingLemmas.{HasRoom-more, IsAppended-more}
use Rattle.craig_aiger.proofs.binary_writing.append_gates.Goals as goal

pub append_gate-requires-clause-room : goal.append_gate-requires-clause-room
append_gate-requires-clause-room c = HasRoom-more gate_groups c.args.first c.args.gates.now c.loop-place.place (c.args.first + c.loop-place.place) _ c.args.out.now c.loop-place.out c.loop-place-test.true refl c.loop-place.invariant c.requires.room

pub loop-place-preserved : goal.loop-place-preserved
loop-place-preserved c = IsAppended-more gate_groups c.args.first c.args.gates.now c.loop-place.place (c.args.first + c.loop-place.place) _ c.args.out.now c.loop-place.out c.loop-place-test.true refl c.loop-place.invariant c.append_gate.new.out c.append_gate.ensures
