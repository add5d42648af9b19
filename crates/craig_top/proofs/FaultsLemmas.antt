-- Counts of faults, call by call.
use Rattle.std.proofs.Common.{◌≡◌, ◌∙◌, subst, ℕ, ◌≤◌, arith}
use Rattle.craig_io.specs.Faults.{Rose}
use Rattle.craig_top.specs.Faults.{CountsFaults}

-- nothing failed
pub CountsFaults-quiet : (failed : Type 0) (before later : ℕ) → ¬ failed → later ≡ before → CountsFaults failed before later
CountsFaults-quiet failed before later none e = record { fault = λ is. absurd (none is); quiet = λ _. e; count = omega (arith, e) }

-- a call failed
pub CountsFaults-failed : (failed : Type 0) (before later : ℕ) → failed → Rose before later → before ≤ later → CountsFaults failed before later
CountsFaults-failed failed before later is rose count = record { fault = λ _. rose; quiet = λ none. absurd (none is); count = count }

-- the last call failed where the run did, and the count stood before it
pub CountsFaults-last : (called failed : Type 0) (first before later : ℕ) → before ≡ first → (failed → called) → (called → failed) → CountsFaults called before later → CountsFaults failed first later
CountsFaults-last called failed first before later e to from c = record {
  fault = λ is. subst (λ b. Rose b later) e (c.fault (to is));
  quiet = λ none. c.quiet (λ is. none (from is)) ∙ e;
  count = omega (arith, e, c.count);
}
