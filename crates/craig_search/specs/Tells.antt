-- What a search tells a tracer that tells its meaning.
use Rattle.std.specs.Prelude.{◌≡◌, ◌⊎◌, ℕ, ◌+◌, ◌-◌, ◌<◌, ◌≤◌, true, false, List, [], ◌∷◌, Option, Some, None, IsSome, Contains, length, slice_get}
use Rattle.craig_spec.specs.Literal.{Literal, Clause}
use Rattle.craig_spec.specs.Chain.{ChainStep, Derived, Original, ToldStep, Told, antecedents, IsUnforgotten}
use Rattle.craig_spec.specs.Needed.{IsNeeded, IsOriginal}
use Rattle.craig_base.specs.declared.script_part.Part.{Part}
use Rattle.craig_watch.specs.Held.{HeldView, held_clause}
use Rattle.craig_proof.specs.Tracer.{original_step}
use Rattle.craig_search.specs.declared.verdict.Verdict.{Verdict}
use Rattle.craig_search.specs.declared.verdict.Verdict.TheVariants.{Model, Failed, Limit}
use Rattle.craig_search.specs.Verdict.{Assumptions, at_places}

-- the step was told before, and is forgotten now if it was
abbrev pub WasTold : Told → ToldStep → Type 0
WasTold t s = (r : ToldStep) × Contains t.steps r × (r.id ≡ s.id) × (r.literals ≡ s.literals) × (r.origin ≡ s.origin) × (r.forgotten ≡ true → s.forgotten ≡ true)

-- the step is told still
abbrev pub IsStillTold : Told → ToldStep → Type 0
IsStillTold u s = (r : ToldStep) × Contains u.steps r × (r.id ≡ s.id) × (r.literals ≡ s.literals) × (r.origin ≡ s.origin)

-- a step of this search; which ids of originals there are is a parameter
pub record IsOfSearch (lent : ℕ → Option Clause) (first : ℕ) (IsUnit : ℕ → Type 0) (s : ToldStep) : Type 0 where
  -- its id was given in this search
  pub later : first ≤ s.id
  -- it is an original only under one of these ids
  pub originals : IsOriginal s.origin → IsUnit s.id
  -- it stands on clauses that were lent and on steps of this search
  pub antecedents : (a : ℕ) → Contains (antecedents s.origin) a → (first ≤ a) ⊎ IsSome (lent a)

-- what a search has told, where it was lent clauses and the first id of its own
pub record Tells (lent : ℕ → Option Clause) (first : ℕ) (IsUnit : ℕ → Type 0) (t u : Told) : Type 0 where
  -- steps of its own, and nothing else
  pub steps : (s : ToldStep) → Contains u.steps s → WasTold t s ⊎ IsOfSearch lent first IsUnit s
  -- each step from before is told still
  pub stay : (s : ToldStep) → Contains t.steps s → IsStillTold u s
  -- and isn't forgotten, where its clause was not lent
  pub unforgotten : (id : ℕ) → IsUnforgotten t.steps id → lent id ≡ None → IsUnforgotten u.steps id

-- an id of a unit of a refutation: they stand directly below its root
abbrev pub IsUnitId : ℕ → List ℕ → ℕ → Type 0
IsUnitId root places id = (id < root) × (root ≤ id + length places)

-- the step of the unit clause of a failed assumption
pub record IsUnitStep (assumptions : Assumptions) (places : List ℕ) (s : ToldStep) : Type 0 where
  -- the part and the literal that was assumed
  pub assumed : Part × Literal
  -- it stands at one of the places
  pub at_place : Contains (at_places assumptions places) assumed
  -- it was told with its part
  pub part : s.origin ≡ Original assumed.0.0
  -- and is the only literal
  pub literals : s.literals ≡ assumed.1 ∷ []

-- an empty clause that stands on clauses that were told before and on the units of the failed assumptions
pub record IsRoot (new : HeldView) (assumptions : Assumptions) (root : ℕ) (places : List ℕ) (t u : Told) : Type 0 where
  -- the first antecedent of the empty clause
  pub first : ℕ
  -- its other antecedents
  pub rest : List ChainStep
  -- it was told and isn't forgotten
  pub told : Contains u.steps (record { id = root; literals = []; origin = Derived first rest; forgotten = false })
  -- and so was the unit of each failed assumption, in their order under the ids directly below it
  pub units : (k : ℕ) (a : Part × Literal) → slice_get (at_places assumptions places) k ≡ Some a → Contains u.steps (original_step (root - length places + k) a.0.0 (a.1 ∷ []))
  -- of the originals it needs those from before and these units alone
  pub needs : (s : ToldStep) → Contains u.steps s → IsOriginal s.origin → IsNeeded u.steps root s.id → WasTold t s ⊎ IsUnitId root places s.id
  -- the ids of the clauses that are held come before the root
  pub last : (id : ℕ) (c : Clause) → held_clause new.arena id ≡ Some c → id < root
  -- no clause is held under its id
  pub root_not_held : held_clause new.arena root ≡ None
  -- or under that of a unit
  pub units_not_held : (id : ℕ) → IsUnitId root places id → held_clause new.arena id ≡ None
  -- and none that is held needs a unit
  pub units_not_needed : (id unit : ℕ) → IsSome (held_clause new.arena id) → IsUnitId root places unit → ¬ IsNeeded u.steps id unit

-- by the verdict: only a refutation tells originals, the units of the failed assumptions, and it tells its root
abbrev pub TellsVerdict : HeldView → HeldView → Assumptions → Verdict → Told → Told → Type 0
TellsVerdict old new assumptions Model t u = Tells (held_clause old.arena) old.arena.given (λ id. ⊥) t u
TellsVerdict old new assumptions (Failed root places) t u =
    Tells (held_clause old.arena) old.arena.given (IsUnitId root.0 places) t u × IsRoot new assumptions root.0 places t u
TellsVerdict old new assumptions (Limit journal) t u = Tells (held_clause old.arena) old.arena.given (λ id. ⊥) t u

-- the same of a tracer that tells its meaning
abbrev pub IsVerdictTold : HeldView → HeldView → Assumptions → Verdict → Option Told → Option Told → Type 0
IsVerdictTold old new assumptions verdict before after = (t u : Told) → before ≡ Some t → after ≡ Some u → TellsVerdict old new assumptions verdict t u
