-- Packed chains that are written and read.
use Rattle.std.specs.Prelude.{◌≡◌, ◌<◌, ◌^◌, ◌++◌, ℕ, List, All}
use Rattle.craig_spec.specs.Chain.{ChainStep}
use Rattle.craig_spec.specs.PackedChain.{AreBefore, number_bytes, packed_chain, rest_bytes}

-- the first list begins the second
abbrev pub BeginsWith : List ℕ → List ℕ → Type 0
BeginsWith before after = (more : List ℕ) × (after ≡ before ++ more)

-- the bytes begin with a number of 64 bits
abbrev pub BeginsWithNumber : List ℕ → Type 0
BeginsWithNumber bytes = (n : ℕ) × (rest : List ℕ) × (bytes ≡ number_bytes n ++ rest) × (n < 2 ^ 64)

-- the variables of the pivots are dense ones
abbrev pub ArePivotsSmall : List ChainStep → Type 0
ArePivotsSmall rest = All (λ s. s.pivot.var < 2147483648) rest

-- the chain can be packed under the id: all antecedents are before it, and the variables of its pivots are dense ones
pub record IsPackable (id first : ℕ) (rest : List ChainStep) : Type 0 where
  -- the first antecedent is before the id
  pub first_before : first < id
  -- so are the others
  pub before : AreBefore id rest
  -- the variables are dense ones
  pub small : ArePivotsSmall rest

-- the bytes are a packed chain of the clause with the id
pub record IsPackedChain (id : ℕ) (bytes : List ℕ) : Type 0 where
  -- the first antecedent
  pub first : ℕ
  -- the resolutions
  pub rest : List ChainStep
  -- they can be packed
  pub packable : IsPackable id first rest
  -- and these are their bytes
  pub bytes_are : bytes ≡ packed_chain id first rest

-- the bytes are those of the resolutions, which can be packed
pub record AreUnread (id : ℕ) (bytes : List ℕ) (rest : List ChainStep) : Type 0 where
  -- their bytes
  pub bytes_are : bytes ≡ rest_bytes id rest
  -- the antecedents are before the id
  pub before : AreBefore id rest
  -- the variables of the pivots are dense ones
  pub small : ArePivotsSmall rest
