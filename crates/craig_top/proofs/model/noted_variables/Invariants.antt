use Rattle.std.proofs.Common.{◌≡◌, ◌<◌, ℕ, false, get_or, is_some, vec_len}
use Rattle.craig_label.specs.Sides.{range_of}
use Rattle.craig_top.proofs.model.noted_variables.Given as goal

-- the variables so far are told apart
abbrev pub invariant-loop-place : goal.invariant-loop-place
invariant-loop-place l = record {
  len : vec_len l.noted ≡ l.place;
  noted : (x : ℕ) → x < l.place → get_or l.noted.items x false ≡ is_some (range_of l.sides x);
}
