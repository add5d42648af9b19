-- Laws of the codes of edges.
use Rattle.std.proofs.Common.{◌≡◌, ℕ, ◌+◌, ◌*◌, ◌/◌, ◌%◌, ◌^◌, ◌<◌, Bool, true, false, Fits, w64, refl, arith}
use mir.Val.{bool_byte}
use Rattle.craig_aig.specs.Edges.{edge_of_code}

-- the code that an edge is made with is the edge's
pub code-edge : (p n : ℕ) (t : Bool) → n ≡ bool_byte t → edge_of_code (2 * p + n) ≡ record { place = p; negated = t }
code-edge p n true e =
    let half : (2 * p + n) / 2 ≡ p = omega arith in
    let odd : (2 * p + n) % 2 ≡ 1 = omega arith in
    rw (half, odd) refl
code-edge p n false e =
    let half : (2 * p + n) / 2 ≡ p = omega arith in
    let even : (2 * p + n) % 2 ≡ 0 = omega arith in
    rw (half, even) refl

pub byte-small : (t : Bool) → bool_byte t < 2
byte-small true = omega arith
byte-small false = omega arith

-- and it fits a word
pub double-fits : (p : ℕ) → p < 2 ^ 63 → Fits w64 (2 * p)
double-fits p h = omega arith

pub code-small : (p n : ℕ) (t : Bool) → p < 2 ^ 63 → n ≡ bool_byte t → 2 * p + n < 2 ^ 64
code-small p n t h e = omega (arith, byte-small t)

pub code-fits : (p n : ℕ) (t : Bool) → p < 2 ^ 63 → n ≡ bool_byte t → Fits w64 (2 * p + n)
code-fits p n t h e = omega (arith, byte-small t)
