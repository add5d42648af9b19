-- Literals and their codes.
use Rattle.std.proofs.Common.{◌≡◌, ℕ, ◌+◌, ◌*◌, ◌<◌, ◌≤◌, Bool, true, false, cond, not, refl, ap, arith}
use Rattle.std.proofs.lemmas.Grind.{common_steps}
use Rattle.craig_spec.specs.Literal.{Literal, negation}
use Rattle.craig_base.specs.Literals.{literal_code}

-- the variable and the sign from the parts of two equal codes
pub same_parts : (v w : ℕ) (a b : Bool) → 2 * v + cond a 1 0 ≡ 2 * w + cond b 1 0 → (v ≡ w) × (a ≡ b)
same_parts v w true true e = (omega arith, refl)
same_parts v w true false e = absurd (omega arith)
same_parts v w false true e = absurd (omega arith)
same_parts v w false false e = (omega arith, refl)

-- two literals with the same code are the same
pub literal_code-injective : (l m : Literal) → literal_code l ≡ literal_code m → l ≡ m
literal_code-injective l m e =
    let p : (l.var ≡ m.var) × (l.negated ≡ m.negated) = same_parts l.var m.var l.negated m.negated e in
    λ i. record { var = p.0 i; negated = p.1 i }

-- of two codes of one variable the smaller is that of the positive literal
signs_from_codes : (v : ℕ) (a b : Bool) → 2 * v + cond a 1 0 < 2 * v + cond b 1 0 → not a ≡ b
signs_from_codes v true true h = absurd (omega arith)
signs_from_codes v true false h = absurd (omega arith)
signs_from_codes v false true h = refl
signs_from_codes v false false h = absurd (omega arith)

-- of two literals of one variable the first in their order is the positive one, and the other its negation
pub negation-from_codes : (l m : Literal) → l.var ≡ m.var → literal_code l < literal_code m → negation l ≡ m
negation-from_codes l m e h =
    let s : not l.negated ≡ m.negated = signs_from_codes l.var l.negated m.negated (rw (← e) at h) in
    λ i. record { var = e i; negated = s i }

not-differs : (b : Bool) → b ≡ not b → ⊥
not-differs true e = cc
not-differs false e = cc

-- no literal is its own negation
pub negation-differs : (l : Literal) → l ≡ negation l → ⊥
negation-differs l e = not-differs l.negated (ap (λ (m : Literal). m.negated) e)

signs_from_differs : (a b : Bool) → (a ≡ b → ⊥) → not a ≡ b
signs_from_differs true true differ = absurd (differ refl)
signs_from_differs true false differ = refl
signs_from_differs false true differ = refl
signs_from_differs false false differ = absurd (differ refl)

-- two literals of one variable that differ are each other's negation
pub negation-from_differs : (l m : Literal) → l.var ≡ m.var → (l ≡ m → ⊥) → negation l ≡ m
negation-from_differs l m e differ =
    let s : not l.negated ≡ m.negated = signs_from_differs l.negated m.negated (λ q. differ (λ i. record { var = e i; negated = q i })) in
    λ i. record { var = e i; negated = s i }

-- literals of one variable have codes that differ by at most one
pub literal_code-near : (l m : Literal) → l.var ≡ m.var → literal_code m ≤ literal_code l + 1
literal_code-near l m e = grind (arith, common_steps)
