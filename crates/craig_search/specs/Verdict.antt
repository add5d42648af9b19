-- What a search answers.
use Rattle.std.specs.Prelude.{◌≡◌, ◌≢◌, ℕ, ◌+◌, ◌<◌, ◌≤◌, List, [], ◌∷◌, Option, Some, length, map, All, slice_get}
use Rattle.std.specs.Option.{option_to_list}
use Rattle.std.specs.List.{flat_map}
use Rattle.std.specs.List.Sorted.{IsStrictlyIncreasing}
use Rattle.craig_spec.specs.Literal.{Literal, Clause}
use Rattle.craig_spec.specs.Truth.{AreContradictory}
use Rattle.craig_base.specs.declared.script_part.Part.{Part}
use Rattle.craig_base.specs.Arena.{clauses_of}
use Rattle.craig_base.specs.Clauses.{IsNormal}
use Rattle.craig_base.specs.LemmaRule.{MeetsLemmaRule}
use Rattle.craig_watch.specs.declared.value.Value.TheVariants.{True}
use Rattle.craig_watch.specs.Trail.{IsAssigned, value_under}
use Rattle.craig_watch.specs.Held.{HeldView, HasTrue, held_clause}
use Rattle.craig_search.specs.declared.verdict.Verdict.{Verdict}
use Rattle.craig_search.specs.declared.verdict.Verdict.TheVariants.{Model, Failed, Limit}

-- the literals that are assumed, each in a part
abbrev pub Assumptions : Type 0
Assumptions = List (Part × Literal)

-- the assumptions at the places
abbrev pub at_places : Assumptions → List ℕ → Assumptions
at_places assumptions places = flat_map (λ p. option_to_list (slice_get assumptions p)) places

-- their unit clauses
abbrev pub units : Assumptions → List Clause
units assumptions = map (λ a. a.1 ∷ []) assumptions

-- places of different assumptions
pub record AreFirstPlaces (assumptions : Assumptions) (places : List ℕ) : Type 0 where
  -- they rise
  pub rising : IsStrictlyIncreasing places
  -- each is the first one of its literal
  pub first : All (λ p. (a : Part × Literal) × (slice_get assumptions p ≡ Some a) × ((q : ℕ) (b : Part × Literal) → q < p → slice_get assumptions q ≡ Some b → b.1 ≢ a.1)) places

-- the trail is a model
pub record IsFound (h : HeldView) (assumptions : Assumptions) : Type 0 where
  -- every variable is assigned
  pub assigned : (v : ℕ) → v < h.vars → IsAssigned h.trail v
  -- all held clauses are true
  pub clauses : (id : ℕ) (c : Clause) → held_clause h.arena id ≡ Some c → HasTrue h.trail c
  -- and so are the assumptions
  pub assumed : All (λ a. value_under h.trail a.1 ≡ True) assumptions

-- no assignment makes the clauses that were held and the assumptions at the places true
pub record IsRefuted (h : HeldView) (assumptions : Assumptions) (places : List ℕ) : Type 0 where
  -- the places are those of different assumptions
  pub first_places : AreFirstPlaces assumptions places
  -- their literals and the clauses are not true together
  pub contradictory : AreContradictory (clauses_of h.arena) (units (at_places assumptions places))

-- the limit was met by lemmas over the clauses that were held
pub record IsLimited (h : HeldView) (limit : Option ℕ) (lemmas : List Clause) : Type 0 where
  -- there are as many as the limit
  pub many : limit ≡ Some (length lemmas)
  -- they meet the rule
  pub rule : MeetsLemmaRule (clauses_of h.arena) lemmas
  -- no literal stands in one of them twice
  pub normal : All IsNormal lemmas

-- what the verdict says of the clauses that were held, and of the trail
abbrev pub IsVerdict : HeldView → HeldView → Assumptions → Option ℕ → Verdict → Type 0
IsVerdict old new assumptions limit Model = IsFound new assumptions
IsVerdict old new assumptions limit (Failed root places) = IsRefuted old assumptions places
IsVerdict old new assumptions limit (Limit lemmas) = IsLimited old limit lemmas

-- the verdict is a model or a refutation
abbrev pub IsDefiniteVerdict : Verdict → Type 0
IsDefiniteVerdict Model = Unit {0}
IsDefiniteVerdict (Failed root places) = Unit {0}
IsDefiniteVerdict (Limit lemmas) = ⊥

-- where assumptions fail, the root and the ids below it, one for each of their units, were given in this search
abbrev pub HasUnitIds : HeldView → Verdict → Type 0
HasUnitIds old Model = Unit {0}
HasUnitIds old (Failed root places) = old.arena.given + length places ≤ root.0
HasUnitIds old (Limit lemmas) = Unit {0}
