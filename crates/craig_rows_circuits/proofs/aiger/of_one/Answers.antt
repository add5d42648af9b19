use Rattle.std.proofs.Common.{ℕ, Contains, length, ◌<◌}
use Rattle.craig_spec.proofs.MemberLemmas.{All-alone}
use Rattle.craig_aig.specs.Cones.{cone}
use Rattle.craig_aig.specs.Edges.{Edge}
use Rattle.craig_aiger.specs.declared.out_name.OutName.{OutName}
use Rattle.craig_rows_circuits.proofs.aiger.of_one.Goals as goal

pub new-requires-clause-inputs : goal.new-requires-clause-inputs
new-requires-clause-inputs c = All-alone (λ (o : OutName × Edge). (x : ℕ) → Contains (cone c.args.aig.now o.1) x → x < length c.args.names.now) (c.args.name, c.args.edge) c.requires.inputs
