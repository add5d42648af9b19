-- Texts that come behind what was there.
use Rattle.std.specs.Prelude.{◌≡◌, ℕ, List, ◌++◌}

-- a text with the property came behind what was there
abbrev pub AppendsText : (old new : List ℕ) → (List ℕ → Type 0) → Type 0
AppendsText old new P = (text : List ℕ) × P text × (new ≡ old ++ text)
