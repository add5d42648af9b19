use Rattle.std.proofs.Common.{◌≡◌, ◌++◌, take}
use Rattle.craig_spec.specs.PackedChain.{rest_bytes}
use Rattle.craig_proof.specs.PackedSteps.{ArePivotsSmall}
use Rattle.craig_proof.specs.Tracer.{chain_of}
use Rattle.craig_proof.proofs.packing.append_steps.Given as goal

abbrev pub invariant-loop-step : goal.invariant-loop-step
invariant-loop-step l = record {
  appended : l.out.items ≡ l.initial.out.items ++ rest_bytes l.id.0 (chain_of (take l.step-index l.rest));
  small : ArePivotsSmall (chain_of (take l.step-index l.rest));
}
