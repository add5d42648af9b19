-- The end of a search by an assumption that is false.
use Rattle.std.specs.Prelude.{◌≡◌, ℕ, ◌+◌, suc, List, [], ◌∷◌, Option, Some, length, nat_eq, if◌then◌else◌}
use Rattle.std.specs.Option.{option_map}
use Rattle.craig_spec.specs.Literal.{Literal, Clause, negation}
use Rattle.craig_spec.specs.Chain.{ChainOk, Told, with_step}
use Rattle.craig_base.specs.declared.script_part.Part.{Part}
use Rattle.craig_proof.specs.Tracer.{chain_of, derived_step, original_step}
use Rattle.craig_proof.specs.declared.step.Step.{Step}
use Rattle.craig_watch.specs.Trail.{part_up_to}
use Rattle.craig_watch.specs.Held.{HeldView, held_clause}
use Rattle.craig_search.specs.Verdict.{AreFirstPlaces, Assumptions, at_places}

-- ids were given on, and nothing else has changed
abbrev pub with_ids : HeldView → ℕ → HeldView
with_ids h n = record h { arena = record h.arena { given = h.arena.given + n } }

-- the search has gone back to level 0
abbrev pub at_root : HeldView → HeldView
at_root h = record h { trail = part_up_to 0 h.trail; level = 0 }

-- the steps that resolve on the negations of the assumptions with their units, which have rising ids
abbrev pub unit_chain : ℕ → Assumptions → List Step
unit_chain id [] = []
unit_chain id (a ∷ assumptions) = record { pivot = negation a.1; antecedent = record { 0 = id } } ∷ unit_chain (suc id) assumptions

-- the units of the assumptions are told with their parts, under rising ids
abbrev pub with_units_told : ℕ → Assumptions → Told → Told
with_units_told id [] t = t
with_units_told id (a ∷ assumptions) t = with_units_told (suc id) assumptions (with_step t (original_step id a.0.0 (a.1 ∷ [])))

-- the look-up with the unit of the assumption under the id
abbrev pub with_unit : (ℕ → Option Clause) → ℕ → Part × Literal → ℕ → Option Clause
with_unit clause_of id a k = if nat_eq k id then Some (a.1 ∷ []) else clause_of k

-- the look-up with the units of the assumptions under rising ids
abbrev pub look_up : (ℕ → Option Clause) → ℕ → Assumptions → ℕ → Option Clause
look_up clause_of id [] = clause_of
look_up clause_of id (a ∷ assumptions) = look_up (with_unit clause_of id a) (suc id) assumptions

-- assumptions at places were refuted with held clauses
pub record IsFailure (assumptions : Assumptions) (old new : HeldView) (root : ℕ) (places : List ℕ) (before after : Option Told) : Type 0 where
  -- each place is the first one of its literal
  pub first_places : AreFirstPlaces assumptions places
  -- ids were given to the units and to the root, and nothing else has changed
  pub numbered : new ≡ with_ids old (length places + 1)
  -- the root has the last of them
  pub next : root ≡ old.arena.given + length places
  -- the first clause of the chain
  pub first : ℕ
  -- its steps
  pub rest : List Step
  -- the chain over the held clauses and the units gives no literal
  pub chain : ChainOk (look_up (held_clause old.arena) old.arena.given (at_places assumptions places)) [] first (chain_of rest)
  -- the units were told, and then the root
  pub told : after ≡ option_map (λ t. with_step (with_units_told old.arena.given (at_places assumptions places) t) (derived_step root [] first rest)) before

-- the tracer that told the one tells the units of the assumptions at the places besides
abbrev pub AreUnitsTold : HeldView → Assumptions → List ℕ → Option Told → Option Told → Type 0
AreUnitsTold h assumptions places before after = after ≡ option_map (with_units_told h.arena.given (at_places assumptions places)) before

-- the look-up of held clauses and of the units of the assumptions at the places
abbrev pub units_of : HeldView → Assumptions → List ℕ → ℕ → Option Clause
units_of h assumptions places = look_up (held_clause h.arena) h.arena.given (at_places assumptions places)
