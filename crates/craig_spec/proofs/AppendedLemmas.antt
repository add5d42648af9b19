-- Bytes that only grow at their end, call by call.
use Rattle.std.proofs.Common.{◌≡◌, ◌∙◌, sym, ap, ℕ, Bool, true, false, cond, List, [], ◌++◌, append_assoc, append-nil}
use Rattle.craig_spec.specs.Appended.{AppendsOnly}

-- nothing came
pub AppendsOnly-same : (old new : List ℕ) → new ≡ old → AppendsOnly old new
AppendsOnly-same old new e = record { text = []; behind = e ∙ sym (append-nil old) }

-- a text came
pub AppendsOnly-text : (old new text : List ℕ) → new ≡ old ++ text → AppendsOnly old new
AppendsOnly-text old new text e = record { text = text; behind = e }

-- a text came, or memory for it was wanted in vain
pub AppendsOnly-tried : (b : Bool) (old new text : List ℕ) → new ≡ cond b (old ++ text) old → AppendsOnly old new
AppendsOnly-tried true old new text e = AppendsOnly-text old new text e
AppendsOnly-tried false old new text e = AppendsOnly-same old new e

-- first some bytes came, and then more
pub AppendsOnly-then : (old mid new : List ℕ) → AppendsOnly old mid → AppendsOnly mid new → AppendsOnly old new
AppendsOnly-then old mid new a b =
    record { text = a.text ++ b.text; behind = b.behind ∙ ap (λ z. z ++ b.text) a.behind ∙ append_assoc old a.text b.text }
