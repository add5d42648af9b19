-- The clauses that define the gates of a layout, over its script variables and a fresh variable for each gate.
use Rattle.std.specs.Prelude.{ℕ, ◌+◌, ◌-◌, ◌/◌, ◌%◌, ◌==◌, nat_le, nat_lt, List, map, length, slice_index, if◌then◌else◌}
use Rattle.craig_spec.specs.CircuitCnf.{CircuitClauses, Defined, Fixed, NamedRoot, Operands, Root}
use Rattle.craig_spec.specs.CircuitCnfText.{cnf_text, gates_clauses}
use Rattle.craig_spec.specs.Literal.{Literal}
use Rattle.craig_aiger.specs.Layouts.{Layout}
use Rattle.craig_aiger.specs.OutNames.{name_text}
use Rattle.craig_aiger.specs.declared.out_name.OutName.{OutName}

-- the variable of a text that a variable of the layout stands for: the script variable of an input, or the fresh one of a gate, the first of which comes after the top
abbrev pub text_variable : ℕ → List ℕ → ℕ → ℕ
text_variable top inputs v = if nat_le v (length inputs) then slice_index inputs (v - 1) else top + (v - length inputs)

-- the literal of a text that a literal of the layout stands for, where it isn't the constant
abbrev pub text_literal : ℕ → List ℕ → ℕ → Literal
text_literal top inputs l = record { var = text_variable top inputs (l / 2); negated = l % 2 == 1 }

-- the root that a literal of the layout stands for
abbrev pub text_root : ℕ → List ℕ → ℕ → Root
text_root top inputs l = if nat_lt l 2 then Fixed (l == 1) else Defined (text_literal top inputs l)

-- the root of an output, with its name
abbrev pub named_root : ℕ → List ℕ → (OutName × ℕ) → NamedRoot
named_root top inputs o = record { name = name_text o.0; root = text_root top inputs o.1 }

-- the operands of a gate
abbrev pub text_operands : ℕ → List ℕ → (ℕ × ℕ) → Operands
text_operands top inputs g = record { left = text_literal top inputs g.0; right = text_literal top inputs g.1 }

-- the roots and the clauses of a layout, whose fresh variables come after the top
abbrev pub layout_clauses : ℕ → Layout → CircuitClauses
layout_clauses top l = record {
  roots = map (named_root top l.inputs) l.outputs;
  clauses = gates_clauses (top + 1) (map (text_operands top l.inputs) l.gates);
}

-- the text of a layout, whose fresh variables come after the top
abbrev pub layout_text : ℕ → Layout → List ℕ
layout_text top l = cnf_text (layout_clauses top l)
