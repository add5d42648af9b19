-- Which variables occur in the clauses of gates, and how many clauses there are.
use Rattle.std.proofs.Common.{◌≡◌, ◌∙◌, sym, ap, refl, inl, inr, ◌⊎◌, ℕ, zero, suc, ◌+◌, ◌*◌, ◌<◌, ◌≤◌, Bool, true, false, ◌||◌, eqb, eqb-true, max, List, [], ◌∷◌, length, arith}
use Rattle.std.specs.List.{list_any}
use Rattle.std.proofs.lemmas.Bool.{or_cases, or_left, or_right}
use Rattle.craig_spec.specs.CircuitCnf.{Operands}
use Rattle.craig_spec.specs.CircuitCnfText.{gates_clauses}
use Rattle.craig_spec.specs.DimacsText.{greatest_of_clauses}
use Rattle.craig_spec.specs.Occurs.{occurs}
use Rattle.craig_cnf.proofs.GateClausesLemmas.{AreBefore}

-- whether an operand is of the variable
abbrev pub uses : ℕ → Operands → Bool
uses x g = eqb x g.left.var || eqb x g.right.var

collapse : (p q r rest : Bool) → ((p || (q || false)) || ((p || (r || false)) || ((p || (q || (r || false))) || rest))) ≡ ((p || (q || r)) || rest)
collapse true q r rest = refl
collapse false true r rest = refl
collapse false false true rest = refl
collapse false false false rest = refl

occurs-more : (x gate : ℕ) (g : Operands) (gates : List Operands) → occurs x (gates_clauses gate (g ∷ gates)) ≡ ((eqb x gate || uses x g) || occurs x (gates_clauses (gate + 1) gates))
occurs-more x gate g gates = collapse (eqb x gate) (eqb x g.left.var) (eqb x g.right.var) (occurs x (gates_clauses (gate + 1) gates))

-- a variable of the clauses is that of a gate, or that of an operand
pub occurs-cases : (x gate : ℕ) (gates : List Operands) → occurs x (gates_clauses gate gates) ≡ true → (gate ≤ x) ⊎ (list_any (uses x) gates ≡ true)
occurs-cases x gate [] e = absurd cc
occurs-cases x gate (g ∷ gates) e =
    elim (or_cases (eqb x gate || uses x g) (occurs x (gates_clauses (gate + 1) gates)) (sym (occurs-more x gate g gates) ∙ e)) [
      | inl here ↦ (elim (or_cases (eqb x gate) (uses x g) here) [
        | inl own ↦ inl (let same : x ≡ gate = eqb-true x gate own in omega (arith, same))
        | inr used ↦ inr (or_left (uses x g) (list_any (uses x) gates) used)
      ])
      | inr later ↦ (elim (occurs-cases x (gate + 1) gates later) [
        | inl above ↦ inl (omega (arith, above))
        | inr used ↦ inr (or_right (uses x g) (list_any (uses x) gates) used)
      ])
    ]

-- and that of an operand occurs
pub occurs-operand : (x gate : ℕ) (gates : List Operands) → list_any (uses x) gates ≡ true → occurs x (gates_clauses gate gates) ≡ true
occurs-operand x gate [] e = absurd cc
occurs-operand x gate (g ∷ gates) e =
    occurs-more x gate g gates ∙ (elim (or_cases (uses x g) (list_any (uses x) gates) e) [
      | inl here ↦ or_left (eqb x gate || uses x g) (occurs x (gates_clauses (gate + 1) gates)) (or_right (eqb x gate) (uses x g) here)
      | inr later ↦ or_right (eqb x gate || uses x g) (occurs x (gates_clauses (gate + 1) gates)) (occurs-operand x (gate + 1) gates later)
    ])

pub length-gates_clauses : (gate : ℕ) (gates : List Operands) → length (gates_clauses gate gates) ≡ 3 * length gates
length-gates_clauses gate [] = refl
length-gates_clauses gate (g ∷ gates) = omega (arith, length-gates_clauses (gate + 1) gates)

-- the greatest variable of the clauses is that of the last gate
pub record IsLastGate (gate count greatest : ℕ) : Type 0 where
  pub none : count ≡ 0 → greatest ≡ 0
  pub last : 0 < count → greatest + 1 ≡ gate + count

greatest_of_three : (gate l r rest : ℕ) → l < gate → r < gate → max (max gate (max l 0)) (max (max gate (max r 0)) (max (max gate (max l (max r 0))) rest)) ≡ max gate rest
greatest_of_three gate l r rest hl hr =
    let first : max gate (max l 0) ≡ gate = omega (arith, hl) in
    let second : max gate (max r 0) ≡ gate = omega (arith, hr) in
    let third : max gate (max l (max r 0)) ≡ gate = omega (arith, hl, hr) in
    ap (λ n. max n (max (max gate (max r 0)) (max (max gate (max l (max r 0))) rest))) first
    ∙ ap (λ n. max gate (max n (max (max gate (max l (max r 0))) rest))) second
    ∙ ap (λ n. max gate (max gate (max n rest))) third
    ∙ omega arith

greatest_by : (gate n rest greatest : ℕ) → greatest ≡ max gate rest → IsLastGate (gate + 1) n rest → IsLastGate gate (suc n) greatest
greatest_by gate zero rest greatest is h = record {
  none = λ e. absurd (omega (arith, e));
  last = λ some. let z : rest ≡ 0 = h.none refl in omega (arith, is, z);
}
greatest_by gate (suc n) rest greatest is h = record {
  none = λ e. absurd (omega (arith, e));
  last = λ some. let z : rest + 1 ≡ (gate + 1) + suc n = h.last (omega arith) in omega (arith, is, z);
}

pub greatest-gates_clauses : (gate : ℕ) (gates : List Operands) → AreBefore gate gates → IsLastGate gate (length gates) (greatest_of_clauses (gates_clauses gate gates))
greatest-gates_clauses gate [] h = record { none = λ e. refl; last = λ some. absurd (omega (arith, some)) }
greatest-gates_clauses gate (g ∷ gates) h =
    greatest_by gate (length gates) (greatest_of_clauses (gates_clauses (gate + 1) gates)) (greatest_of_clauses (gates_clauses gate (g ∷ gates)))
    (greatest_of_three gate g.left.var g.right.var (greatest_of_clauses (gates_clauses (gate + 1) gates)) h.0.0.below h.0.1.below) (greatest-gates_clauses (gate + 1) gates h.1)
