-- Worked texts, read by computation: what the definitions of the readings give, and what they refuse.
use Rattle.std.proofs.Common.{◌≡◌, refl, true, false, [], ◌∷◌, Some, None, codes}
use Rattle.std.specs.Fmt.{digits}
use Rattle.craig_spec.specs.CircuitCnf.{circuit_clauses, circuit_defined, operands_by, read_cnf, root_of_line}
use Rattle.craig_spec.specs.Dimacs.{clause_of_line, read_dimacs}

one_gate : read_cnf 2 (codes "c o 0 3\np cnf 3 3\n-3 2 0\n-3 1 0\n3 -2 -1 0\n") ≡ Some (record { inputs = 1 ∷ (2 ∷ []); gates = record { left = 4; right = 2 } ∷ []; outputs = record { name = codes "0"; literal = 6 } ∷ [] })
unfolding read_cnf circuit_clauses circuit_defined operands_by root_of_line clause_of_line digits
one_gate = refl

constants : read_cnf 1 (codes "c o 0 T\nc o 1 1\nc o 2 F\np cnf 1 0\n") ≡ Some (record { inputs = 1 ∷ []; gates = []; outputs = record { name = codes "0"; literal = 1 } ∷ (record { name = codes "1"; literal = 2 } ∷ (record { name = codes "2"; literal = 0 } ∷ [])) })
unfolding read_cnf circuit_clauses circuit_defined operands_by root_of_line clause_of_line digits
constants = refl

negated : read_cnf 7 (codes "c o m3 -5\np cnf 5 0\n") ≡ Some (record { inputs = 5 ∷ []; gates = []; outputs = record { name = codes "m3"; literal = 3 } ∷ [] })
unfolding read_cnf circuit_clauses circuit_defined operands_by root_of_line clause_of_line digits
negated = refl

wrong_count : read_cnf 2 (codes "c o 0 3\np cnf 3 4\n-3 2 0\n-3 1 0\n3 -2 -1 0\n") ≡ None
unfolding read_cnf circuit_clauses circuit_defined operands_by root_of_line clause_of_line digits
wrong_count = refl

wrong_greatest : read_cnf 2 (codes "c o 0 3\np cnf 4 3\n-3 2 0\n-3 1 0\n3 -2 -1 0\n") ≡ None
unfolding read_cnf circuit_clauses circuit_defined operands_by root_of_line clause_of_line digits
wrong_greatest = refl

clause_missing : read_cnf 2 (codes "c o 0 3\np cnf 3 2\n-3 2 0\n-3 1 0\n") ≡ None
unfolding read_cnf circuit_clauses circuit_defined operands_by root_of_line clause_of_line digits
clause_missing = refl

another_order : read_cnf 2 (codes "c o 0 3\np cnf 3 3\n-3 2 0\n-3 1 0\n3 -1 -2 0\n") ≡ None
unfolding read_cnf circuit_clauses circuit_defined operands_by root_of_line clause_of_line digits
another_order = refl

another_gate : read_cnf 3 (codes "c o 0 3\np cnf 3 3\n-3 2 0\n-3 1 0\n3 -2 -1 0\n") ≡ None
unfolding read_cnf circuit_clauses circuit_defined operands_by root_of_line clause_of_line digits
another_gate = refl

later_operand : read_cnf 2 (codes "c o 0 3\np cnf 4 3\n-3 4 0\n-3 1 0\n3 -4 -1 0\n") ≡ None
unfolding read_cnf circuit_clauses circuit_defined operands_by root_of_line clause_of_line digits
later_operand = refl

no_newline : read_cnf 2 (codes "p cnf 0 0") ≡ None
unfolding read_cnf circuit_clauses circuit_defined operands_by root_of_line clause_of_line digits
no_newline = refl

empty_circuit : read_cnf 2 (codes "p cnf 0 0\n") ≡ Some (record { inputs = []; gates = []; outputs = [] })
unfolding read_cnf circuit_clauses circuit_defined operands_by root_of_line clause_of_line digits
empty_circuit = refl

leading_zero : read_dimacs (codes "p cnf 5 1\n03 -5 0\n") ≡ None
unfolding read_dimacs clause_of_line digits
leading_zero = refl

one_clause : read_dimacs (codes "p cnf 5 1\n3 -5 0\n") ≡ Some ((record { var = 3; negated = false } ∷ (record { var = 5; negated = true } ∷ [])) ∷ [])
unfolding read_dimacs clause_of_line digits
one_clause = refl

no_clause : read_dimacs (codes "p cnf 0 0\n") ≡ Some []
unfolding read_dimacs clause_of_line digits
no_clause = refl

empty_clause : read_dimacs (codes "p cnf 0 1\n0\n") ≡ Some ([] ∷ [])
unfolding read_dimacs clause_of_line digits
empty_clause = refl

falling : read_dimacs (codes "p cnf 5 1\n-5 3 0\n") ≡ None
unfolding read_dimacs clause_of_line digits
falling = refl

blank : read_dimacs (codes "") ≡ None
unfolding read_dimacs clause_of_line digits
blank = refl
