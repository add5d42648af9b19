-- Facts for one variant of a result.
use Rattle.std.proofs.Common.{Result, Ok, Err, OnOk, OnErr, List, ℕ, ◌≡◌, ◌++◌}

-- a text with a property was appended, where it is known which
pub appended : {T E : Type 0} (P : List ℕ → Type 0) (r : Result T E) (text old new : List ℕ) → P text → OnOk r (new ≡ old ++ text) → OnOk r ((t : List ℕ) × P t × (new ≡ old ++ t))
appended P (Ok x) text old new p e = (text, p, e)
appended P (Err x) text old new p e = tt

-- what holds anyway holds after an error
pub after_error : {T E : Type 0} (r : Result T E) (P : Type 0) → P → OnErr r P
after_error (Ok x) P p = tt
after_error (Err x) P p = p

-- or where there was none
pub always : {T E : Type 0} (r : Result T E) (P : Type 0) → P → OnOk r P
always (Ok x) P p = p
always (Err x) P p = tt
