-- The clauses of gates are read as these gates, and no others are.
use Rattle.std.proofs.Common.{◌≡◌, ◌∙◌, sym, ap, subst, refl, ℕ, ◌+◌, ◌<◌, Bool, true, false, ◌&&◌, eqb, eqb-true, eq-eqb, nat_lt, List, [], ◌∷◌, ◌++◌, Option, Some, None, arith}
use Rattle.std.proofs.lemmas.Bool.{and_parts}
use Rattle.std.proofs.lemmas.Bool.Decides.{nat_tests}
use Rattle.craig_spec.specs.CircuitCnf.{Operands, gates_defined, implied_operand, is_before, is_implied_gate, negative, operands_by, positive, same_literal}
use Rattle.craig_spec.specs.CircuitCnfText.{gate_clauses, gates_clauses}
use Rattle.craig_spec.specs.Literal.{Literal, Clause, negation}

-- a literal of a script variable or of an earlier gate
pub record IsBefore (gate : ℕ) (l : Literal) : Type 0 where
  pub some : 0 < l.var
  pub below : l.var < gate

-- operands of variables below their gate, where the first gate has this variable
abbrev pub AreBefore : ℕ → List Operands → Type 0
AreBefore gate [] = Unit {0}
AreBefore gate (g ∷ gates) = (IsBefore gate g.left × IsBefore gate g.right) × AreBefore (gate + 1) gates

pub is_before-test : (gate : ℕ) (l : Literal) → IsBefore gate l → is_before gate l ≡ true
is_before-test gate l h =
    let some : nat_lt 0 l.var ≡ true = grind (arith, nat_tests, h.some) in
    let less : nat_lt l.var gate ≡ true = grind (arith, nat_tests, h.below) in
    rw (some, less) refl

test-is_before : (gate : ℕ) (l : Literal) → is_before gate l ≡ true → IsBefore gate l
test-is_before gate l e =
    let p = and_parts (nat_lt 0 l.var) (nat_lt l.var gate) e in
    let low : nat_lt 0 l.var ≡ true = p.0 in
    let high : nat_lt l.var gate ≡ true = p.1 in
    record { some = grind (arith, nat_tests, low); below = grind (arith, nat_tests, high) }

same-itself_by : (x : ℕ) (s : Bool) → same_literal (record { var = x; negated = s }) (record { var = x; negated = s }) ≡ true
same-itself_by x true = let e : eqb x x ≡ true = eq-eqb x x refl in rw e refl
same-itself_by x false = let e : eqb x x ≡ true = eq-eqb x x refl in rw e refl

same-itself : (l : Literal) → same_literal l l ≡ true
same-itself l = same-itself_by l.var l.negated

same-signs : (x y : ℕ) (s t : Bool) → same_literal (record { var = x; negated = s }) (record { var = y; negated = t }) ≡ true → (x ≡ y) × (s ≡ t)
same-signs x y true true e = (eqb-true x y (and_parts (eqb x y) true e).0, refl)
same-signs x y true false e = (eqb-true x y (and_parts (eqb x y) false e).0, sym (and_parts (eqb x y) false e).1)
same-signs x y false true e = (eqb-true x y (and_parts (eqb x y) false e).0, (and_parts (eqb x y) false e).1)
same-signs x y false false e = (eqb-true x y (and_parts (eqb x y) true e).0, refl)

same-literals : (l m : Literal) → same_literal l m ≡ true → l ≡ m
same-literals l m e = let p = same-signs l.var m.var l.negated m.negated e in λ i. record { var = p.0 i; negated = p.1 i }

-- the three clauses give the operands
operand_read : (gate : ℕ) (l : Literal) → IsBefore gate l → implied_operand gate (negative gate ∷ (l ∷ [])) ≡ Some l
operand_read gate l h =
    let e : eqb gate gate ≡ true = eq-eqb gate gate refl in
    rw (e, is_before-test gate l h) refl

implied_read : (gate : ℕ) (l m : Literal) → is_implied_gate gate l m (positive gate ∷ (negation l ∷ (negation m ∷ []))) ≡ true
implied_read gate l m =
    let e : eqb gate gate ≡ true = eq-eqb gate gate refl in
    rw (e, same-itself (negation l), same-itself (negation m)) refl

operands_read : (gate : ℕ) (g : Operands) → IsBefore gate g.left → IsBefore gate g.right → operands_by gate (negative gate ∷ (g.left ∷ [])) (negative gate ∷ (g.right ∷ [])) (positive gate ∷ (negation g.left ∷ (negation g.right ∷ []))) ≡ Some g
unfolding operands_by
operands_read gate g left right = rw (operand_read gate g.left left, operand_read gate g.right right, implied_read gate g.left g.right) refl

pub gates_read : (gate : ℕ) (gates : List Operands) → AreBefore gate gates → gates_defined gate (gates_clauses gate gates) ≡ Some gates
gates_read gate [] h = refl
gates_read gate (g ∷ gates) h =
    let rest : gates_defined (gate + 1) (gates_clauses (gate + 1) gates) ≡ Some gates = gates_read (gate + 1) gates h.1 in
    rw (operands_read gate g h.0.0 h.0.1, rest) refl

-- what a clause is that gives an operand
operand_clause_by : (gate : ℕ) (l m a : Literal) (s t : Bool) → same_literal l (negative gate) ≡ s → is_before gate m ≡ t → implied_operand gate (l ∷ (m ∷ [])) ≡ Some a → (l ∷ (m ∷ []) ≡ negative gate ∷ (a ∷ [])) × IsBefore gate a
operand_clause_by gate l m a true true e f is =
    let same : l ≡ negative gate = same-literals l (negative gate) e in
    let some : Some m ≡ Some a = sym (rw (e, f) refl) ∙ is in
    let it : m ≡ a = cc in
    (ap (λ k. k ∷ (m ∷ [])) same ∙ ap (λ k. negative gate ∷ (k ∷ [])) it, subst (IsBefore gate) it (test-is_before gate m f))
operand_clause_by gate l m a true false e f is = absurd (let none : None ≡ Some a = sym (rw (e, f) refl) ∙ is in cc)
operand_clause_by gate l m a false t e f is = absurd (let none : None ≡ Some a = sym (rw e refl) ∙ is in cc)

operand_clause : (gate : ℕ) (c : Clause) (a : Literal) → implied_operand gate c ≡ Some a → (c ≡ negative gate ∷ (a ∷ [])) × IsBefore gate a
operand_clause gate [] a is = absurd cc
operand_clause gate (l ∷ []) a is = absurd cc
operand_clause gate (l ∷ (m ∷ [])) a is = operand_clause_by gate l m a (same_literal l (negative gate)) (is_before gate m) refl refl is
operand_clause gate (l ∷ (m ∷ (n ∷ c))) a is = absurd cc

-- and one that says that two operands imply the gate
implied_clause : (gate : ℕ) (a b : Literal) (c : Clause) → is_implied_gate gate a b c ≡ true → c ≡ positive gate ∷ (negation a ∷ (negation b ∷ []))
implied_clause gate a b [] is = absurd cc
implied_clause gate a b (l ∷ []) is = absurd cc
implied_clause gate a b (l ∷ (m ∷ [])) is = absurd cc
implied_clause gate a b (l ∷ (m ∷ (n ∷ []))) is =
    let p = and_parts (same_literal l (positive gate) && same_literal m (negation a)) (same_literal n (negation b)) is in
    let q = and_parts (same_literal l (positive gate)) (same_literal m (negation a)) p.0 in
    ap (λ k. k ∷ (m ∷ (n ∷ []))) (same-literals l (positive gate) q.0)
    ∙ ap (λ k. positive gate ∷ (k ∷ (n ∷ []))) (same-literals m (negation a) q.1)
    ∙ ap (λ k. positive gate ∷ (negation a ∷ (k ∷ []))) (same-literals n (negation b) p.1)
implied_clause gate a b (l ∷ (m ∷ (n ∷ (k ∷ c)))) is = absurd cc

-- the clauses that give a gate's operands are its own
pub record AreClausesOf (gate : ℕ) (first second third : Clause) (g : Operands) : Type 0 where
  pub first_is : first ≡ negative gate ∷ (g.left ∷ [])
  pub second_is : second ≡ negative gate ∷ (g.right ∷ [])
  pub third_is : third ≡ positive gate ∷ (negation g.left ∷ (negation g.right ∷ []))
  pub left_before : IsBefore gate g.left
  pub right_before : IsBefore gate g.right

three_at : (gate : ℕ) (first second third : Clause) (g : Operands) (l m : Literal) (t : Bool) → implied_operand gate first ≡ Some l → implied_operand gate second ≡ Some m → is_implied_gate gate l m third ≡ t → operands_by gate first second third ≡ Some g → AreClausesOf gate first second third g
unfolding operands_by
three_at gate first second third g l m true e f implied is =
    let some : Some (record { left = l; right = m }) ≡ Some g = sym (rw (e, f, implied) refl) ∙ is in
    let it : record { left = l; right = m } ≡ g = cc in
    let left : l ≡ g.left = ap (λ (o : Operands). o.left) it in
    let right : m ≡ g.right = ap (λ (o : Operands). o.right) it in
    let one = operand_clause gate first l e in
    let two = operand_clause gate second m f in
    record {
      first_is = one.0 ∙ ap (λ k. negative gate ∷ (k ∷ [])) left;
      second_is = two.0 ∙ ap (λ k. negative gate ∷ (k ∷ [])) right;
      third_is = implied_clause gate l m third implied ∙ ap (λ k. positive gate ∷ (negation k ∷ (negation m ∷ []))) left ∙ ap (λ k. positive gate ∷ (negation g.left ∷ (negation k ∷ []))) right;
      left_before = subst (IsBefore gate) left one.1;
      right_before = subst (IsBefore gate) right two.1;
    }
three_at gate first second third g l m false e f implied is = absurd (let no : None ≡ Some g = sym (rw (e, f, implied) refl) ∙ is in cc)

three_by : (gate : ℕ) (first second third : Clause) (g : Operands) (a b : Option Literal) → implied_operand gate first ≡ a → implied_operand gate second ≡ b → operands_by gate first second third ≡ Some g → AreClausesOf gate first second third g
unfolding operands_by
three_by gate first second third g None b e f is = absurd (let no : None ≡ Some g = sym (rw e refl) ∙ is in cc)
three_by gate first second third g (Some l) None e f is = absurd (let no : None ≡ Some g = sym (rw (e, f) refl) ∙ is in cc)
three_by gate first second third g (Some l) (Some m) e f is = three_at gate first second third g l m (is_implied_gate gate l m third) e f refl is

-- clauses that are read as gates are their clauses
pub record AreDefined (gate : ℕ) (clauses : List Clause) (gates : List Operands) : Type 0 where
  pub clauses_are : clauses ≡ gates_clauses gate gates
  pub before : AreBefore gate gates

defined_by : (gate : ℕ) (first second third : Clause) (clauses : List Clause) (gates : List Operands) (o : Option Operands) (r : Option (List Operands)) → operands_by gate first second third ≡ o → gates_defined (gate + 1) clauses ≡ r →
    ((rest : List Operands) → gates_defined (gate + 1) clauses ≡ Some rest → AreDefined (gate + 1) clauses rest) → gates_defined gate (first ∷ (second ∷ (third ∷ clauses))) ≡ Some gates → AreDefined gate (first ∷ (second ∷ (third ∷ clauses))) gates
defined_by gate first second third clauses gates None r e f later is = absurd (let no : None ≡ Some gates = sym (rw e refl) ∙ is in cc)
defined_by gate first second third clauses gates (Some g) None e f later is = absurd (let no : None ≡ Some gates = sym (rw (e, f) refl) ∙ is in cc)
defined_by gate first second third clauses gates (Some g) (Some rest) e f later is =
    let some : Some (g ∷ rest) ≡ Some gates = sym (rw (e, f) refl) ∙ is in
    let it : g ∷ rest ≡ gates = cc in
    let here : AreClausesOf gate first second third g = three_by gate first second third g (implied_operand gate first) (implied_operand gate second) refl refl e in
    let there : AreDefined (gate + 1) clauses rest = later rest f in
    subst (AreDefined gate (first ∷ (second ∷ (third ∷ clauses)))) it (record {
      clauses_are =
          ap (λ c. c ∷ (second ∷ (third ∷ clauses))) here.first_is
          ∙ ap (λ c. (negative gate ∷ (g.left ∷ [])) ∷ (c ∷ (third ∷ clauses))) here.second_is
          ∙ ap (λ c. (negative gate ∷ (g.left ∷ [])) ∷ ((negative gate ∷ (g.right ∷ [])) ∷ (c ∷ clauses))) here.third_is
          ∙ ap (λ cs. gate_clauses gate g ++ cs) there.clauses_are;
      before = ((here.left_before, here.right_before), there.before);
    })

pub gates_are : (gate : ℕ) (clauses : List Clause) (gates : List Operands) → gates_defined gate clauses ≡ Some gates → AreDefined gate clauses gates
gates_are gate [] gates is = (let it : [] ≡ gates = cc in subst (AreDefined gate []) it (record { clauses_are = refl; before = tt }))
gates_are gate (first ∷ []) gates is = absurd cc
gates_are gate (first ∷ (second ∷ [])) gates is = absurd cc
gates_are gate (first ∷ (second ∷ (third ∷ clauses))) gates is =
    defined_by gate first second third clauses gates (operands_by gate first second third) (gates_defined (gate + 1) clauses) refl refl (λ rest e. gates_are (gate + 1) clauses rest e) is
