-- What a solver keeps between calls.
use Rattle.std.specs.Prelude.{◌≡◌, ◌⊎◌, ℕ, ◌+◌, ◌<◌, ◌≤◌, Bool, false, List, [], ◌∷◌, ◌++◌, Option, Some, None, All, AllPairs, Contains, IsTrue, map}
use Rattle.std.specs.Option.{ForSome, option_map}
use Rattle.craig_spec.specs.Literal.{Clause}
use Rattle.craig_spec.specs.Chain.{SameLiterals, Told, ToldStep, IsUnforgotten, clause_told}
use Rattle.craig_spec.specs.Needed.{IsClosed, IsOriginal}
use Rattle.craig_spec.specs.Occurs.{Occurs, occurs_in_clause}
use Rattle.craig_spec.specs.Truth.{Implies, clause_value}
use Rattle.craig_base.specs.Arena.{ArenaView, FlaggedClause, clause_at, literals_at}
use Rattle.craig_base.specs.Clauses.{IsTautology}
use Rattle.craig_base.specs.declared.clause_id.ClauseId.{ClauseId}
use Rattle.craig_base.specs.declared.script_part.Part.{Part}
use Rattle.craig_watch.specs.Held.{HeldView, IsConsistent, held_clause}
use Rattle.craig_order.specs.Order.{OrderView}
use Rattle.craig_search.specs.Search.{MayBegin}
use Rattle.craig_solver.specs.declared.state.State.{State}
use Rattle.craig_solver.specs.Answer.{accepted_clauses}
use Rattle.craig_solver.specs.Solver.{IsAdded, SolverView}
use Rattle.craig_solver.specs.Told.{AreAllTold, IsAcceptedStep, IsUnit}

-- what a solver keeps, with what its tracer was told
pub record StateView : Type 0 where
  -- the accepted clauses as they were written, with their parts
  pub accepted : List (Part × Clause)
  -- the held clauses and their trail
  pub held : HeldView
  -- the order of decisions
  pub order : OrderView
  -- what the tracer was told, where it tells its meaning
  pub told : Option Told
  -- the ids of the held clauses that are not learnt
  pub held_ids : List ClauseId
  -- the empty clause of the last refutation, until the next search
  pub root : Option ClauseId
  -- how many units were told for it
  pub units : ℕ

-- the view of a state whose tracer has this meaning
abbrev pub state_with : {T : Type 0} → Option Told → State T → StateView
state_with told s = record { accepted = s.accepted.items; held = s.held; order = s.order; told = told; held_ids = s.held_ids.items; root = s.root; units = s.units }

-- one clause more is accepted
abbrev pub accepting : Part → Clause → StateView → StateView
accepting part clause s = record s { accepted = s.accepted ++ (part, clause) ∷ [] }

-- the clauses that are held under the ids
abbrev pub clauses_under : ArenaView → List ClauseId → List Clause
clauses_under a ids = map (λ id. literals_at a id.0) ids

-- those of a state
abbrev pub state_clauses : {T : Type 0} → State T → List Clause
state_clauses s = clauses_under s.held.arena s.held_ids.items

-- the number of a root
abbrev pub root_number : Option ClauseId → Option ℕ
root_number root = option_map (λ id. id.0) root

-- a solver that isn't dead, as contracts see it
abbrev pub living_view : {T : Type 0} → State T → SolverView T
living_view s = record { accepted = s.accepted.items; vars = s.held.vars; held = clauses_under s.held.arena s.held_ids.items; tracer = s.tracer; root = root_number s.root; dead = false }

-- a clause with these literals in any order is held, and isn't learnt
pub record IsHeld (a : ArenaView) (c : Clause) : Type 0 where
  -- its id
  pub id : ℕ
  -- it with its flags
  pub clause : FlaggedClause
  -- it is held under the id
  pub live : clause_at a id ≡ Some clause
  -- it has the literals
  pub literals : SameLiterals c clause.literals
  -- it isn't learnt
  pub not_learnt : clause.flags.learnt ≡ false

-- the ids of the held clauses that are not learnt
pub record AreHeldIds (a : ArenaView) (ids : List ClauseId) : Type 0 where
  -- they rise
  pub rising : AllPairs (λ x y. x.0 < y.0) ids
  -- such a clause is held under each of them
  pub held : All (λ x. (c : FlaggedClause) × (clause_at a x.0 ≡ Some c) × (c.flags.learnt ≡ false)) ids
  -- each such clause has one of them
  pub every : (id : ℕ) (c : FlaggedClause) → clause_at a id ≡ Some c → c.flags.learnt ≡ false → (x : ClauseId) × Contains ids x × (x.0 ≡ id)

-- what is held of the accepted clauses
pub record AreHeldFor (accepted : List (Part × Clause)) (a : ArenaView) (vars : ℕ) : Type 0 where
  -- their variables are known
  pub known : All (λ p. All (λ l. l.var < vars) p.1) accepted
  -- each that is no tautology is held
  pub held : (p : Part × Clause) → Contains accepted p → ¬ IsTautology p.1 → IsHeld a p.1
  -- what is held follows from them
  pub implied : (id : ℕ) (c : Clause) → held_clause a id ≡ Some c → Implies (accepted_clauses accepted) (λ s. IsTrue (clause_value s c))
  -- and has variables of theirs alone
  pub variables : (id x : ℕ) (c : Clause) → held_clause a id ≡ Some c → IsTrue (occurs_in_clause x c) → Occurs x (accepted_clauses accepted)

-- where the meaning is told, the root, if there is one, isn't forgotten, its clause is empty, and no clause is held under its id
abbrev pub IsRootOf : Option Told → ArenaView → Option ClauseId → Type 0
IsRootOf told a root = (id : ClauseId) → root ≡ Some id → ForSome told (λ t. IsUnforgotten t.steps id.0 × (clause_told t.steps id.0 ≡ Some []) × (held_clause a id.0 ≡ None))

-- an id of a unit of the last refutation: they stand directly below its root
abbrev pub IsLastUnit : Option ClauseId → ℕ → ℕ → Type 0
IsLastUnit root units id = (r : ClauseId) × (root ≡ Some r) × (id < r.0) × (r.0 ≤ id + units)

-- where the meaning is told, the units of the last refutation aren't forgotten, and no clause is held under their ids
pub record AreUnitsOf (told : Option Told) (a : ArenaView) (root : Option ClauseId) (units : ℕ) : Type 0 where
  -- there is an id below the root for each
  pub room : (r : ClauseId) → root ≡ Some r → units ≤ r.0
  -- none is forgotten or held
  pub each : (id : ℕ) → IsLastUnit root units id → ForSome told (λ t. IsUnforgotten t.steps id × (held_clause a id ≡ None))

-- the step of the unit of an assumption, forgotten unless it is one of the last refutation
pub record IsAssumedStep (root : Option ClauseId) (units : ℕ) (s : ToldStep) : Type 0 where
  -- it has one literal
  pub unit : IsUnit s
  -- it is forgotten, or one of the last refutation
  pub last : s.forgotten ≡ false → IsLastUnit root units s.id

-- each original is an accepted clause or the unit of an assumption
abbrev pub AreOriginals : List (Part × Clause) → Option ClauseId → ℕ → Told → Type 0
AreOriginals accepted root units t = (s : ToldStep) → Contains t.steps s → IsOriginal s.origin → IsAcceptedStep accepted s ⊎ IsAssumedStep root units s

-- the held clauses rest on accepted clauses alone
pub record RestOnAccepted (accepted : List (Part × Clause)) (a : ArenaView) (t : Told) : Type 0 where
  -- a set of ids
  pub set : ℕ → Bool
  -- with each step it has the antecedents of the step
  pub closed : IsClosed t.steps set
  -- it has each held clause
  pub held : (id : ℕ) (c : Clause) → held_clause a id ≡ Some c → IsTrue (set id)
  -- and no originals but accepted clauses
  pub accepted_alone : (s : ToldStep) → Contains t.steps s → IsTrue (set s.id) → IsOriginal s.origin → IsAcceptedStep accepted s

-- what is true of a solver that isn't dead
pub record IsState (s : StateView) : Type 0 where
  -- a search may begin
  pub begins : MayBegin s.held s.order s.told
  -- the clauses and their trail are as they are after every call
  pub consistent : IsConsistent s.held
  -- they live
  pub held_alive : s.held.dead ≡ false
  -- and so does the order
  pub order_alive : s.order.dead ≡ false
  -- the accepted clauses are held
  pub clauses : AreHeldFor s.accepted s.held.arena s.held.vars
  -- the ids are those of the clauses that are not learnt
  pub ids : AreHeldIds s.held.arena s.held_ids
  -- each original that was told is an accepted clause or the unit of an assumption
  pub originals : ForSome s.told (AreOriginals s.accepted s.root s.units)
  -- the held clauses rest on accepted clauses alone
  pub rests : ForSome s.told (RestOnAccepted s.accepted s.held.arena)
  -- and each accepted clause that is no tautology was told
  pub all_told : ForSome s.told (AreAllTold s.accepted)
  -- the root is that of a refutation
  pub root_of : IsRootOf s.told s.held.arena s.root
  -- and the units are those that it rests on
  pub units_of : AreUnitsOf s.told s.held.arena s.root s.units

-- a clause with these literals in any order may be accepted
abbrev pub MayAccept : Part → Clause → StateView → Type 0
MayAccept part clause s = (written : Clause) → SameLiterals written clause → IsState (accepting part written s)

-- one clause more is accepted by a state
abbrev pub AcceptsClause : {T : Type 0} → Part → Clause → Option Told → Option Told → State T → State T → Type 0
AcceptsClause part clause before after old new = IsAdded part clause before after (living_view old) (living_view new)

-- learnt clauses were let go
pub record LetsLearntGo (old new : StateView) : Type 0 where
  -- nothing else of the clauses, and of what was told, has changed
  pub rest : new ≡ record old { held = new.held; told = new.told }
  -- the same variables are known
  pub vars : new.held.vars ≡ old.held.vars
  -- the clauses that are not learnt are the same
  pub held : clauses_under new.held.arena old.held_ids ≡ clauses_under old.held.arena old.held_ids

-- units of the last refutation are forgotten, and all else is as before
abbrev pub ForgetsUnits : StateView → StateView → Type 0
ForgetsUnits old new = new ≡ record old { told = new.told; units = new.units }

-- the last refutation is forgotten
pub record ForgetsRoot (old new : StateView) : Type 0 where
  -- there is none, and all else is as before
  pub rest : new ≡ record old { told = new.told; root = None; units = new.units }
  -- the id of its root is forgotten
  pub gone : (id : ClauseId) → old.root ≡ Some id → ForSome new.told (λ t. ¬ IsUnforgotten t.steps id.0)
