-- What is true of all that a search tells a tracer.
use Rattle.std.specs.Prelude.{◌≡◌, ◌⊎◌, ℕ, List, Option, None, Contains, IsSome}
use Rattle.craig_spec.specs.Literal.{Clause}
use Rattle.craig_spec.specs.Chain.{IsTold, Told, ToldStep, without_id}
use Rattle.craig_spec.specs.Needed.{IsNeeded, IsOriginal}
use Rattle.craig_base.specs.declared.clause_id.ClauseId.{ClauseId}
use Rattle.craig_proof.specs.Covers.{Covers}
use Rattle.craig_watch.specs.Held.{HeldView, held_clause}
use Rattle.craig_search.specs.Tells.{IsUnitId, IsUnitStep, TellsVerdict, WasTold}
use Rattle.craig_search.specs.Verdict.{AreFirstPlaces, Assumptions}
use Rattle.craig_search.specs.declared.verdict.Verdict.{Verdict}
use Rattle.craig_search.specs.declared.verdict.Verdict.TheVariants.{Failed}

-- clauses that a tracer covers besides those that the search was lent are covered after it
abbrev pub OthersStayCovered : Type 0
OthersStayCovered =
    (old new : HeldView) (assumptions : Assumptions) (verdict : Verdict) (t u : Told) (f : ℕ → Option Clause) (given : ℕ)
    → TellsVerdict old new assumptions verdict t u
    → Covers t f given
    → Covers u (held_clause new.arena) new.arena.given
    → ((id : ℕ) → IsSome (f id) → held_clause old.arena id ≡ None)
    → Covers u f new.arena.given

-- an original that the root of a refutation needs was told before or is the unit of a failed assumption
abbrev pub RootsRestOnAssumptions : Type 0
RootsRestOnAssumptions =
    (old new : HeldView) (assumptions : Assumptions) (root : ClauseId) (places : List ℕ) (t u : Told)
    → TellsVerdict old new assumptions (Failed root places) t u
    → AreFirstPlaces assumptions places
    → IsTold u
    → (s : ToldStep)
    → Contains u.steps s
    → IsOriginal s.origin
    → IsNeeded u.steps root.0 s.id
    → WasTold t s ⊎ IsUnitStep assumptions places s

-- an original that a held clause needs after a refutation was told before
abbrev pub HeldClausesRestOnClauses : Type 0
HeldClausesRestOnClauses =
    (old new : HeldView) (assumptions : Assumptions) (root : ClauseId) (places : List ℕ) (t u : Told)
    → TellsVerdict old new assumptions (Failed root places) t u
    → (id : ℕ)
    → IsSome (held_clause new.arena id)
    → (s : ToldStep)
    → Contains u.steps s
    → IsOriginal s.origin
    → IsNeeded u.steps id s.id
    → WasTold t s

-- the held clauses are covered still when the root of a refutation or a unit of it is forgotten
abbrev pub RefutationsMayBeForgotten : Type 0
RefutationsMayBeForgotten =
    (old new : HeldView) (assumptions : Assumptions) (root : ClauseId) (places : List ℕ) (t u : Told)
    → TellsVerdict old new assumptions (Failed root places) t u
    → Covers u (held_clause new.arena) new.arena.given
    → (id : ℕ)
    → (id ≡ root.0) ⊎ IsUnitId root.0 places id
    → Covers (without_id id u) (held_clause new.arena) new.arena.given
