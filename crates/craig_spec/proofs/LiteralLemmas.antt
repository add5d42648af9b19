-- Literals and their negations.
use Rattle.std.proofs.Common.{◌≡◌, ◌⊎◌, inl, inr, Bool, true, false, cond, not, eqb, refl, ap, eqb-true}
use Rattle.std.proofs.lemmas.Bool.{eqb-false}
use Rattle.craig_spec.specs.Literal.{Literal, negation}
use Rattle.craig_spec.specs.Truth.{Assignment, literal_value, variable_value}

-- two signs are the same or not, and so are two literals
same_signs : (a b : Bool) → (a ≡ b) ⊎ (a ≡ b → ⊥)
same_signs true true = inl refl
same_signs true false = inr (λ e. cc)
same_signs false true = inr (λ e. cc)
same_signs false false = inl refl

same_or_not-cases : (l m : Literal) (b : Bool) → eqb l.var m.var ≡ b → (l.negated ≡ m.negated) ⊎ (l.negated ≡ m.negated → ⊥) → (l ≡ m) ⊎ (l ≡ m → ⊥)
same_or_not-cases l m true e (inl s) = inl (let v : l.var ≡ m.var = eqb-true l.var m.var e in λ i. record { var = v i; negated = s i })
same_or_not-cases l m true e (inr s) = inr (λ same. s (ap (λ (x : Literal). x.negated) same))
same_or_not-cases l m false e s = inr (λ same. eqb-false l.var m.var e (ap (λ (x : Literal). x.var) same))

pub same_or_not : (l m : Literal) → (l ≡ m) ⊎ (l ≡ m → ⊥)
same_or_not l m = same_or_not-cases l m (eqb l.var m.var) refl (same_signs l.negated m.negated)

-- a literal is the negation of its negation
negation_twice-sign : (b : Bool) → not (not b) ≡ b
negation_twice-sign true = refl
negation_twice-sign false = refl

pub negation_twice : (l : Literal) → negation (negation l) ≡ l
negation_twice l = λ i. record { var = l.var; negated = negation_twice-sign l.negated i }

-- a negation has the other value
literal_value-signs : (v n : Bool) → cond (not n) (not v) v ≡ not (cond n (not v) v)
literal_value-signs true true = refl
literal_value-signs true false = refl
literal_value-signs false true = refl
literal_value-signs false false = refl

pub literal_value-negation : (s : Assignment) (l : Literal) → literal_value s (negation l) ≡ not (literal_value s l)
literal_value-negation s l = literal_value-signs (variable_value s l.var) l.negated

-- a literal is true where its variable has the value that its sign asks for
pub signs : (negated value : Bool) → value ≡ not negated → cond negated (not value) value ≡ true
signs true value is = rw is refl
signs false value is = is
