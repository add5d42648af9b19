-- The reading of a text of clauses as a circuit, over the list of its lines: each three clauses define a gate.
--
-- The clauses are those of Tseitin, "On the complexity of derivation in propositional calculus", 1968. The variables up
-- to some number are those of a script, and each gate has a fresh variable above them, in order. Comment lines in front
-- name the roots, each the constant or a literal.
use Rattle.std.specs.Prelude.{ℕ, ◌+◌, ◌-◌, ◌*◌, ◌&&◌, ◌||◌, ◌==◌, Bool, true, false, not, nat_eq, nat_le, nat_lt, max, List, [], ◌∷◌, length, map, filter, drop, slice_index, take_while, Option, Some, None, codes, if◌then◌else◌}
use Rattle.std.specs.Option.{option_map}
use Rattle.std.specs.List.{list_all, list_any, range_with_len}
use Rattle.std.specs.Str.{bytes_eq}
use Rattle.craig_spec.specs.AigerReading.{all_read, place_in, words_of, ◌>>?◌}
use Rattle.craig_spec.specs.Circuit.{Circuit}
use Rattle.craig_spec.specs.Dimacs.{clause_of_line, ended_lines, literal_of_word}
use Rattle.craig_spec.specs.DimacsText.{greatest_of_clauses, header_bytes}
use Rattle.craig_spec.specs.Literal.{Literal, Clause, negation}
use Rattle.craig_spec.specs.Occurs.{occurs}

-- what an output is: the constant of a truth value, or a literal
pub data Root : Type 0 where
  -- the constant
  Fixed : Bool → Root
  -- the literal
  Defined : Literal → Root

-- a root with its name, which is a list of bytes
pub record NamedRoot : Type 0 where
  -- the bytes of the name
  pub name : List ℕ
  -- the root
  pub root : Root

-- what the lines of a text say
pub record CircuitClauses : Type 0 where
  -- the roots, in order
  pub roots : List NamedRoot
  -- the clauses, in order
  pub clauses : List Clause

-- the root that a word writes: T, F or a literal
abbrev pub root_of_word : List ℕ → Option Root
root_of_word word =
    if bytes_eq word (codes "T") then Some (Fixed true)
    else if bytes_eq word (codes "F") then Some (Fixed false)
    else option_map Defined (literal_of_word word)

-- the root of these words: c, o, its name, and what it is
abbrev pub root_of_words : List (List ℕ) → Option NamedRoot
root_of_words (c ∷ (o ∷ (name ∷ (root ∷ [])))) = if bytes_eq c (codes "c") && bytes_eq o (codes "o") then option_map (λ r. record { name = name; root = r }) (root_of_word root) else None
root_of_words other = None

-- the root that a line is
unfoldable pub root_of_line : List ℕ → Option NamedRoot
root_of_line line = root_of_words (words_of line)

-- whether the line is a comment, as those of roots are
abbrev pub is_comment : List ℕ → Bool
is_comment line = slice_index line 0 == 99

-- the variable of a root, and 0 where it is the constant
abbrev pub variable_of_root : Root → ℕ
variable_of_root (Fixed value) = 0
variable_of_root (Defined l) = l.var

-- the greatest variable of the roots, and 0 where they have none
abbrev pub greatest_of_roots : List NamedRoot → ℕ
greatest_of_roots [] = 0
greatest_of_roots (r ∷ roots) = max (variable_of_root r.root) (greatest_of_roots roots)

-- the greatest variable that occurs in a clause or as a root, and 0 where none does
abbrev pub greatest_said : CircuitClauses → ℕ
greatest_said said = max (greatest_of_roots said.roots) (greatest_of_clauses said.clauses)

-- the roots, and what the lines behind them say: a header, and a line for each clause
abbrev pub with_clauses : List NamedRoot → List (List ℕ) → Option CircuitClauses
with_clauses roots [] = None
with_clauses roots (header ∷ lines) =
    all_read (map clause_of_line lines) >>? λ clauses.
    (let said : CircuitClauses = record { roots = roots; clauses = clauses } in
    if bytes_eq header (header_bytes (greatest_said said) (length clauses)) then Some said else None)

-- what these lines say
abbrev pub said_by_lines : List (List ℕ) → Option CircuitClauses
said_by_lines lines =
    all_read (map root_of_line (take_while is_comment lines)) >>? λ roots.
    with_clauses roots (drop (length (take_while is_comment lines)) lines)

-- what a text says
unfoldable pub circuit_clauses : List ℕ → Option CircuitClauses
circuit_clauses bytes = ended_lines bytes >>? said_by_lines

-- the literals of a gate's operands
pub record Operands : Type 0 where
  -- of the first operand
  pub left : Literal
  -- of the second operand
  pub right : Literal

-- whether two literals are the same
abbrev pub same_literal : Literal → Literal → Bool
same_literal l m = nat_eq l.var m.var && (if l.negated then m.negated else not m.negated)

-- the literal of a variable
abbrev pub positive : ℕ → Literal
positive x = record { var = x; negated = false }

-- the literal of the negation of a variable
abbrev pub negative : ℕ → Literal
negative x = record { var = x; negated = true }

-- whether the literal has a variable, and one below that of the gate
abbrev pub is_before : ℕ → Literal → Bool
is_before gate l = nat_lt 0 l.var && nat_lt l.var gate

-- the operand of a gate by a clause that says that the gate implies it: a script literal or that of an earlier gate
abbrev pub implied_operand : ℕ → Clause → Option Literal
implied_operand gate (l ∷ (operand ∷ [])) = if same_literal l (negative gate) && is_before gate operand then Some operand else None
implied_operand gate other = None

-- whether the clause says that the two operands imply the gate
abbrev pub is_implied_gate : ℕ → Literal → Literal → Clause → Bool
is_implied_gate gate left right (l ∷ (m ∷ (n ∷ []))) = same_literal l (positive gate) && same_literal m (negation left) && same_literal n (negation right)
is_implied_gate gate left right other = false

-- the operands of a gate by its three clauses
unfoldable pub operands_by : ℕ → Clause → Clause → Clause → Option Operands
operands_by gate first second third =
    implied_operand gate first >>? λ left.
    (implied_operand gate second >>? λ right.
    (if is_implied_gate gate left right third then Some (record { left = left; right = right }) else None))

-- the operands of the gates that the clauses define, three a gate, where the first gate has this variable
abbrev pub gates_defined : ℕ → List Clause → Option (List Operands)
gates_defined gate [] = Some []
gates_defined gate (first ∷ []) = None
gates_defined gate (first ∷ (second ∷ [])) = None
gates_defined gate (first ∷ (second ∷ (third ∷ clauses))) = operands_by gate first second third >>? λ operands. option_map (λ gates. operands ∷ gates) (gates_defined (gate + 1) clauses)

-- whether the root is the constant, or a script literal or that of a gate before the one of the variable
abbrev pub is_root_before : ℕ → Root → Bool
is_root_before gate (Fixed value) = true
is_root_before gate (Defined l) = is_before gate l

-- whether the script variable occurs in a clause or as a root
abbrev pub occurs_in_text : CircuitClauses → ℕ → Bool
occurs_in_text said x = list_any (λ (r : NamedRoot). nat_eq x (variable_of_root r.root)) said.roots || occurs x said.clauses

-- the script variables that occur, where they are those up to the greatest, by rising number
abbrev pub script_variables : ℕ → CircuitClauses → List ℕ
script_variables greatest said = filter (occurs_in_text said) (range_with_len 1 greatest)

-- the variable of the circuit: that of the input, by its place, or of the gate, by its number
abbrev pub circuit_variable : ℕ → List ℕ → ℕ → ℕ
circuit_variable greatest inputs x = if nat_le x greatest then 1 + place_in inputs x else length inputs + (x - greatest)

-- the literal of the circuit
abbrev pub circuit_literal : ℕ → List ℕ → Literal → ℕ
circuit_literal greatest inputs l = 2 * circuit_variable greatest inputs l.var + (if l.negated then 1 else 0)

-- the literal of a root in the circuit
abbrev pub literal_of_root : ℕ → List ℕ → Root → ℕ
literal_of_root greatest inputs (Fixed value) = if value then 1 else 0
literal_of_root greatest inputs (Defined l) = circuit_literal greatest inputs l

-- the circuit of these inputs, gates and roots, where the script variables are those up to the greatest
abbrev pub circuit_with : ℕ → List ℕ → List Operands → List NamedRoot → Circuit
circuit_with greatest inputs gates roots = record {
  inputs = inputs;
  gates = map (λ (g : Operands). record { left = circuit_literal greatest inputs g.left; right = circuit_literal greatest inputs g.right }) gates;
  outputs = map (λ (r : NamedRoot). record { name = r.name; literal = literal_of_root greatest inputs r.root }) roots;
}

-- the circuit that the clauses define, where the script variables are those up to the greatest and the gates have those above it, in order
unfoldable pub circuit_defined : ℕ → CircuitClauses → Option Circuit
circuit_defined greatest said =
    gates_defined (greatest + 1) said.clauses >>? λ gates.
    (if list_all (λ (r : NamedRoot). is_root_before (greatest + 1 + length gates) r.root) said.roots
    then Some (circuit_with greatest (script_variables greatest said) gates said.roots)
    else None)

-- the circuit that a text is, where the script variables are those up to the greatest
unfoldable pub read_cnf : ℕ → List ℕ → Option Circuit
read_cnf greatest bytes = circuit_clauses bytes >>? circuit_defined greatest

-- the clauses that a text has
abbrev pub clauses_of_cnf : List ℕ → Option (List Clause)
clauses_of_cnf bytes = option_map (λ (said : CircuitClauses). said.clauses) (circuit_clauses bytes)
