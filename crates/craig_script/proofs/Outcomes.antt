-- What holds whether a call succeeded or not.
use Rattle.std.proofs.Common.{◌≡◌, Result, Ok, Err}
use Rattle.std.specs.Bool.{if◌then◌else◌}
use Rattle.std.specs.Result.{OnOk, OnErr, is_ok}

pub either_way : {T E P : Type 0} (r : Result T E) → OnOk r P → OnErr r P → P
either_way (Ok x) p q = p
either_way (Err e) p q = q

-- what is one thing after a success and another after a failure
pub where_ok : {T E X : Type 0} (r : Result T E) (x a b : X) → x ≡ (if is_ok r then a else b) → OnOk r (x ≡ a)
where_ok (Ok v) x a b e = e
where_ok (Err v) x a b e = tt
