-- The bytes of a text of clauses that defines a circuit, and the clauses that define gates.
--
-- The clauses are those of Tseitin, "On the complexity of derivation in propositional calculus", 1968.
use Rattle.std.specs.Prelude.{ℕ, ◌+◌, List, [], ◌∷◌, ◌++◌, length, true, false, codes}
use Rattle.std.specs.List.{flat_map}
use Rattle.craig_spec.specs.CircuitCnf.{CircuitClauses, Fixed, Defined, NamedRoot, Operands, Root, greatest_said, negative, positive}
use Rattle.craig_spec.specs.DimacsText.{clause_line, header_bytes, literal_text}
use Rattle.craig_spec.specs.Literal.{Clause, negation}

-- a root: T or F where it is the constant, or its literal
abbrev pub root_text : Root → List ℕ
root_text (Fixed true) = codes "T"
root_text (Fixed false) = codes "F"
root_text (Defined l) = literal_text l

-- the comment line that names a root
abbrev pub root_line : NamedRoot → List ℕ
root_line r = codes "c o " ++ r.name ++ codes " " ++ root_text r.root ++ codes "\n"

-- the roots, the header, and a line for each clause
abbrev pub cnf_text : CircuitClauses → List ℕ
cnf_text said = flat_map root_line said.roots ++ header_bytes (greatest_said said) (length said.clauses) ++ codes "\n" ++ flat_map clause_line said.clauses

-- the gate implies each operand, and both together imply the gate
abbrev pub gate_clauses : ℕ → Operands → List Clause
gate_clauses gate g =
    (negative gate ∷ (g.left ∷ [])) ∷ ((negative gate ∷ (g.right ∷ [])) ∷ ((positive gate ∷ (negation g.left ∷ (negation g.right ∷ []))) ∷ []))

-- the clauses of gates, where the first one has this variable
abbrev pub gates_clauses : ℕ → List Operands → List Clause
gates_clauses gate [] = []
gates_clauses gate (g ∷ gates) = gate_clauses gate g ++ gates_clauses (gate + 1) gates
