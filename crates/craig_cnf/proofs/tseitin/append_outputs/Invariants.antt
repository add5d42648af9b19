use Rattle.std.proofs.Common.{◌≡◌, ◌++◌, map, take}
use Rattle.std.specs.List.{flat_map}
use Rattle.craig_spec.specs.CircuitCnfText.{root_line}
use Rattle.craig_cnf.specs.LayoutClauses.{named_root}
use Rattle.craig_cnf.proofs.tseitin.append_outputs.Given as goal

-- the outputs so far are appended
abbrev pub invariant-loop-place : goal.invariant-loop-place
invariant-loop-place l = l.out.items ≡ l.fn.out.items ++ flat_map root_line (map (named_root l.top l.layout.inputs) (take l.place l.layout.outputs))
