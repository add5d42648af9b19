-- Resolution chains, and lists of clauses that are derived from one another by them: the trace of Zhang and Malik,
-- "Validating SAT Solvers Using an Independent Resolution-Based Checker" (DATE 2003).
use Rattle.std.specs.Prelude.{◌≡◌, ◌≢◌, ◌⊎◌, ◌↔◌, ℕ, ◌<◌, ◌≤◌, Bool, true, not, ◌&&◌, List, [], ◌∷◌, ◌++◌, Option, Some, None, length, take, map, nat_eq, All, AllPairs, Contains, IsTrue, slice_index_or, if◌then◌else◌}
use Rattle.std.specs.List.{list_any}
use Rattle.craig_spec.specs.Literal.{Literal, Clause, negation}

-- one resolution of a chain: the literal that is resolved on, and the id of the clause that has its negation
pub record ChainStep : Type 0 where
  -- a literal of the clause so far
  pub pivot : Literal
  -- the id of the clause that has its negation
  pub antecedent : ℕ

-- where a clause comes from: a part of the input, or a chain that begins at the clause of this id
pub data Origin : Type 0 where
  -- an original of the part
  Original : ℕ → Origin
  -- derived by the chain that begins at the clause of the id
  Derived : ℕ → List ChainStep → Origin

-- a clause under its id, and whether the id is forgotten, so that no later chain names it
pub record ToldStep : Type 0 where
  -- the id
  pub id : ℕ
  -- the literals
  pub literals : Clause
  -- where it comes from
  pub origin : Origin
  -- whether the id is forgotten
  pub forgotten : Bool

-- the greatest id that was told, if any, and the steps that are kept, by rising id
pub record Told : Type 0 where
  -- the greatest id, where one was told
  pub greatest : Option ℕ
  -- the steps that are kept
  pub steps : List ToldStep

-- nothing was told yet
abbrev pub nothing_told : Told
nothing_told = record { greatest = None; steps = [] }

-- one step more
abbrev pub with_step : Told → ToldStep → Told
with_step t s = record { greatest = Some s.id; steps = t.steps ++ s ∷ [] }

-- the step, forgotten if it has the id
abbrev pub forgotten_at : ℕ → ToldStep → ToldStep
forgotten_at id s = if nat_eq s.id id then record { id = s.id; literals = s.literals; origin = s.origin; forgotten = true } else s

-- the id is forgotten from now on
abbrev pub without_id : ℕ → Told → Told
without_id id t = record { greatest = t.greatest; steps = map (forgotten_at id) t.steps }

-- the clause that was told under the id
abbrev pub clause_told : List ToldStep → ℕ → Option Clause
clause_told [] id = None
clause_told (s ∷ steps) id = if nat_eq s.id id then Some s.literals else clause_told steps id

-- a step of the id is kept, and the id isn't forgotten
abbrev pub IsUnforgotten : List ToldStep → ℕ → Type 0
IsUnforgotten steps id = IsTrue (list_any (λ s. nat_eq s.id id && not s.forgotten) steps)

-- the id is above all that were told
abbrev pub IsAbove : Told → ℕ → Type 0
IsAbove t id = (g : ℕ) → t.greatest ≡ Some g → g < id

-- the ids that a step is derived from
abbrev pub antecedents : Origin → List ℕ
antecedents (Original part) = []
antecedents (Derived first rest) = first ∷ map (λ s. s.antecedent) rest

-- the resolvent of two clauses on a literal of the first
pub record IsResolvent (pivot : Literal) (c d resolvent : Clause) : Type 0 where
  -- the first has the literal
  pub first_has : Contains c pivot
  -- the second has its negation
  pub second_has : Contains d (negation pivot)
  -- no other literal of the one is negated in the other
  pub no_other : (l : Literal) → Contains c l → Contains d (negation l) → l ≡ pivot
  -- the literals of both without the two
  pub literals : (l : Literal) → Contains resolvent l ↔ ((Contains c l × (l ≢ pivot)) ⊎ (Contains d l × (l ≢ negation pivot)))

-- the two have the same literals, in any order
abbrev pub SameLiterals : Clause → Clause → Type 0
SameLiterals c d = (l : Literal) → Contains c l ↔ Contains d l

-- the clause, resolved with the antecedents in turn, has these literals in the end; the look-up gives the clause of an id
abbrev pub IsChain : (ℕ → Option Clause) → Clause → List ChainStep → Clause → Type 0
IsChain clause_of c [] last = SameLiterals c last
IsChain clause_of c (s ∷ rest) last = (d : Clause) × (resolvent : Clause) × (clause_of s.antecedent ≡ Some d) × IsResolvent s.pivot c d resolvent × IsChain clause_of resolvent rest last

-- the chain from the clause of the first id along the rest gives these literals
pub record ChainOk (clause_of : ℕ → Option Clause) (literals : Clause) (first : ℕ) (rest : List ChainStep) : Type 0 where
  -- the clause that the chain begins with
  pub start : Clause
  -- it is that of the first id
  pub start_is : clause_of first ≡ Some start
  -- the rest leads from it to the literals
  pub chain : IsChain clause_of start rest literals

-- wherever the first look-up gives a clause of the id, the second gives one with the same literals
abbrev pub GivesSame : (ℕ → Option Clause) → (ℕ → Option Clause) → ℕ → Type 0
GivesSame f g x = (d : Clause) → f x ≡ Some d → (e : Clause) × (g x ≡ Some e) × SameLiterals d e

-- a derived clause stands on the steps before it
abbrev pub StandsOn : List ToldStep → Clause → Origin → Type 0
StandsOn before literals (Original part) = Unit {0}
StandsOn before literals (Derived first rest) = ChainOk (clause_told before) literals first rest

-- each step stands on those before it
abbrev pub EachStands : List ToldStep → Type 0
EachStands steps = (k : ℕ) (d : ToldStep) → k < length steps → StandsOn (take k steps) (slice_index_or steps k d).literals (slice_index_or steps k d).origin

-- the ids rise
abbrev pub AreRising : List ToldStep → Type 0
AreRising steps = AllPairs (λ r s. r.id < s.id) steps

-- a list of steps by rising id, each on those before it, and the greatest id of them
pub record IsTold (t : Told) : Type 0 where
  -- the ids rise
  pub rising : AreRising t.steps
  -- none is above the greatest
  pub greatest : All (λ s. (g : ℕ) × (t.greatest ≡ Some g) × (s.id ≤ g)) t.steps
  -- each step stands on those before it
  pub stand : EachStands t.steps
