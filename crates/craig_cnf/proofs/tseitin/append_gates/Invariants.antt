use Rattle.std.proofs.Common.{◌≡◌, ◌+◌, ◌++◌, map, take}
use Rattle.std.specs.List.{flat_map}
use Rattle.craig_spec.specs.CircuitCnfText.{gates_clauses}
use Rattle.craig_spec.specs.DimacsText.{clause_line}
use Rattle.craig_cnf.specs.LayoutClauses.{text_operands}
use Rattle.craig_cnf.proofs.tseitin.append_gates.Given as goal

-- the clauses of the gates so far are appended
abbrev pub invariant-loop-place : goal.invariant-loop-place
invariant-loop-place l = l.out.items ≡ l.fn.out.items ++ flat_map clause_line (gates_clauses (l.top + 1) (map (text_operands l.top l.layout.inputs) (take l.place l.layout.gates)))
