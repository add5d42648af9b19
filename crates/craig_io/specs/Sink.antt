-- What a write does to the bytes held, where they are told.
use Rattle.std.specs.Prelude.{◌≡◌, ℕ, ◌≤◌, List, ◌++◌, length, take, drop, Option, Some}

-- where the bytes held were told, the first n of bytes stand behind them
pub record AppendsFirst (n : ℕ) (bytes : List ℕ) (before after : Option (List ℕ)) : Type 0 where
  -- they are told afterwards too, behind those that were held
  pub grown : (held : List ℕ) → before ≡ Some held → after ≡ Some (held ++ take n bytes)

-- where the bytes held were told, all of bytes stand behind them
pub record AppendsAll (bytes : List ℕ) (before after : Option (List ℕ)) : Type 0 where
  -- they are told afterwards too, behind those that were held
  pub grown : (held : List ℕ) → before ≡ Some held → after ≡ Some (held ++ bytes)

-- where the bytes held were told, a prefix of bytes stands behind them
pub record AppendsPrefix (bytes : List ℕ) (before after : Option (List ℕ)) : Type 0 where
  -- how many bytes the prefix has, and what is held
  pub some : (held : List ℕ) → before ≡ Some held → (n : ℕ) × (n ≤ length bytes) × (after ≡ Some (held ++ take n bytes))

-- the bytes but for the rest are written
pub record HasWritten (bytes rest : List ℕ) (before after : Option (List ℕ)) : Type 0 where
  -- how many are written
  pub done : ℕ
  -- that many there are
  pub within : done ≤ length bytes
  -- the rest is what stands behind them
  pub left : rest ≡ drop done bytes
  -- they stand behind the bytes that were held
  pub appended : AppendsFirst done bytes before after
