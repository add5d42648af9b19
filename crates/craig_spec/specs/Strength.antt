-- The order of strength of three sequences of interpolants: D'Silva, Kroening, Purandare and Weissenbacher, "Interpolant
-- Strength" (VMCAI 2010).
use Rattle.std.specs.Prelude.{◌≡◌, ℕ, List, Some, slice_get, IsTrue}
use Rattle.craig_spec.specs.Truth.{Assignment}
use Rattle.craig_spec.specs.Circuit.{Circuit, circuit_value}
use Rattle.craig_spec.specs.Cut.{PartClause}
use Rattle.craig_spec.specs.Sequence.{IsSequence}

-- each literal of the first list implies the one at its place in the second
abbrev pub ImplyInTurn : Circuit → List ℕ → List ℕ → Type 0
ImplyInTurn c strong weak = (place l m : ℕ) → slice_get strong place ≡ Some l → slice_get weak place ≡ Some m → (s : Assignment) → IsTrue (circuit_value s c l) → IsTrue (circuit_value s c m)

-- the literals of the three systems are sequences over the same cuts, by falling strength at each cut
pub record IsOrderedByStrength (clauses : List PartClause) (parts : ℕ) (cuts : List ℕ) (c : Circuit) (mcmillan pudlak inverse : List ℕ) : Type 0 where
  -- those of McMillan's system are a sequence
  pub mcmillan_sequence : IsSequence clauses parts cuts c mcmillan
  -- so are those of Pudlák's
  pub pudlak_sequence : IsSequence clauses parts cuts c pudlak
  -- and those of the inverse system
  pub inverse_sequence : IsSequence clauses parts cuts c inverse
  -- at each cut McMillan's implies Pudlák's
  pub strong : ImplyInTurn c mcmillan pudlak
  -- and Pudlák's implies the inverse one
  pub weak : ImplyInTurn c pudlak inverse
