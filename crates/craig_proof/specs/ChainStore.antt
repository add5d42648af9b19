-- A chain store.
use Rattle.std.specs.Prelude.{◌≡◌, ℕ, Bool, List, Option, Some, Contains}
use Rattle.std.specs.Option.{ForSome}
use Rattle.craig_spec.specs.Chain.{ChainStep, Derived, Told, ToldStep}
use Rattle.craig_spec.specs.Needed.{IsNeededPart}

-- what a chain store is seen as
pub record ChainStoreView : Type 0 where
  -- what was told
  pub told : Told
  -- whether a call wanted memory in vain, after which each further one is refused
  pub dead : Bool

-- where the other tracer tells its meaning, it was told the steps that the root needs, the root's last
abbrev pub IsReplayed : List ToldStep → ℕ → Option Told → Option Told → Type 0
IsReplayed steps root before after = ForSome before (λ _. (u : Told) × (after ≡ Some u) × (u.greatest ≡ Some root) × IsNeededPart steps root u.steps)

-- a derived clause is kept under the id, with this chain
pub record IsDerivedUnder (steps : List ToldStep) (id first : ℕ) (rest : List ChainStep) : Type 0 where
  -- its step
  pub step : ToldStep
  -- which is kept
  pub kept : Contains steps step
  -- under the id
  pub id_is : step.id ≡ id
  -- with this chain
  pub chain : step.origin ≡ Derived first rest

-- a derived clause is kept under the id
abbrev pub HasDerived : List ToldStep → ℕ → Type 0
HasDerived steps id = (first : ℕ) × (rest : List ChainStep) × IsDerivedUnder steps id first rest
