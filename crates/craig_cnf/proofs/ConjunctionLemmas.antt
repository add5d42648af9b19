-- The clauses of gates are true where each gate is the conjunction of its operands.
use Rattle.std.proofs.Common.{◌≡◌, ◌∙◌, sym, ap, refl, ℕ, zero, suc, ◌+◌, Bool, true, false, not, ◌&&◌, ◌||◌, List, [], ◌∷◌, Some, slice_get, arith}
use Rattle.std.specs.List.{list_all}
use Rattle.std.proofs.lemmas.Bool.{and_parts, and_from}
use Rattle.craig_spec.specs.CircuitCnf.{Operands}
use Rattle.craig_spec.specs.CircuitCnfText.{gates_clauses}
use Rattle.craig_spec.specs.Literal.{negation}
use Rattle.craig_spec.specs.Truth.{Assignment, clause_value, literal_value, variable_value}
use Rattle.craig_spec.proofs.LiteralLemmas.{literal_value-negation}

-- whether two truth values are the same
abbrev same_value : Bool → Bool → Bool
same_value true b = b
same_value false b = not b

same_value-is : (a b : Bool) → same_value a b ≡ true → a ≡ b
same_value-is true true e = refl
same_value-is true false e = absurd cc
same_value-is false true e = absurd cc
same_value-is false false e = refl

same_value-itself : (a : Bool) → same_value a a ≡ true
same_value-itself true = refl
same_value-itself false = refl

-- the three clauses of a gate in a table of truth values
three_clauses : (g a b rest : Bool) → ((not g || (a || false)) && ((not g || (b || false)) && ((g || (not a || (not b || false))) && rest))) ≡ (same_value g (a && b) && rest)
three_clauses true true true rest = refl
three_clauses true true false rest = refl
three_clauses true false true rest = refl
three_clauses true false false rest = refl
three_clauses false true true rest = refl
three_clauses false true false rest = refl
three_clauses false false true rest = refl
three_clauses false false false rest = refl

-- the value that the operands of a gate give it
abbrev pub operands_value : Assignment → Operands → Bool
operands_value e g = literal_value e g.left && literal_value e g.right

clauses-more : (e : Assignment) (gate : ℕ) (g : Operands) (gates : List Operands) → list_all (clause_value e) (gates_clauses gate (g ∷ gates)) ≡ (same_value (variable_value e gate) (operands_value e g) && list_all (clause_value e) (gates_clauses (gate + 1) gates))
clauses-more e gate g gates =
    let rest : Bool = list_all (clause_value e) (gates_clauses (gate + 1) gates) in
    let v : Bool = variable_value e gate in
    let a : Bool = literal_value e g.left in
    let b : Bool = literal_value e g.right in
    ap (λ c. (not v || (a || false)) && ((not v || (b || false)) && ((v || (c || (literal_value e (negation g.right) || false))) && rest))) (literal_value-negation e g.left)
    ∙ ap (λ c. (not v || (a || false)) && ((not v || (b || false)) && ((v || (not a || (c || false))) && rest))) (literal_value-negation e g.right)
    ∙ three_clauses v a b rest

-- each gate has the value that its operands give it
abbrev pub AreConjunctions : Assignment → ℕ → List Operands → Type 0
AreConjunctions e gate gates = (j : ℕ) (g : Operands) → slice_get gates j ≡ Some g → variable_value e (gate + j) ≡ operands_value e g

pub conjunctions-model : (e : Assignment) (gate : ℕ) (gates : List Operands) → list_all (clause_value e) (gates_clauses gate gates) ≡ true → AreConjunctions e gate gates
conjunctions-model e gate [] h j g is = absurd cc
conjunctions-model e gate (f ∷ gates) h zero g is =
    let p = and_parts (same_value (variable_value e gate) (operands_value e f)) (list_all (clause_value e) (gates_clauses (gate + 1) gates)) (sym (clauses-more e gate f gates) ∙ h) in
    let same : f ≡ g = cc in
    let n : gate + zero ≡ gate = omega arith in
    rw n (same_value-is (variable_value e gate) (operands_value e f) p.0 ∙ ap (operands_value e) same)
conjunctions-model e gate (f ∷ gates) h (suc j) g is =
    let p = and_parts (same_value (variable_value e gate) (operands_value e f)) (list_all (clause_value e) (gates_clauses (gate + 1) gates)) (sym (clauses-more e gate f gates) ∙ h) in
    let n : gate + suc j ≡ (gate + 1) + j = omega arith in
    rw n (conjunctions-model e (gate + 1) gates p.1 j g is)

pub model-conjunctions : (e : Assignment) (gate : ℕ) (gates : List Operands) → AreConjunctions e gate gates → list_all (clause_value e) (gates_clauses gate gates) ≡ true
model-conjunctions e gate [] h = refl
model-conjunctions e gate (g ∷ gates) h =
    let n0 : gate + 0 ≡ gate = omega arith in
    let here : variable_value e gate ≡ operands_value e g = ap (variable_value e) (sym n0) ∙ h 0 g refl in
    clauses-more e gate g gates
    ∙ and_from (same_value (variable_value e gate) (operands_value e g)) (list_all (clause_value e) (gates_clauses (gate + 1) gates))
    (ap (λ v. same_value v (operands_value e g)) here ∙ same_value-itself (operands_value e g))
    (model-conjunctions e (gate + 1) gates (λ j f is. let n : (gate + 1) + j ≡ gate + suc j = omega arith in ap (variable_value e) n ∙ h (suc j) f is))
