-- What the laws say of trails and of held clauses.
use Rattle.std.specs.Prelude.{◌≡◌, ◌≢◌, ◌⊎◌, ◌<◌, ◌≤◌, ◌∷◌, ℕ, Some, None, IsSome, All, Contains, length, take, slice_index_or}
use Rattle.craig_spec.specs.Literal.{Clause, Literal, negation}
use Rattle.craig_spec.specs.Truth.{IsModel}
use Rattle.craig_base.specs.Arena.{ArenaView, IsArena, clauses_of}
use Rattle.craig_base.specs.LemmaRule.{ContainsClause}
use Rattle.craig_base.specs.declared.clause_id.ClauseId.{ClauseId}
use Rattle.craig_watch.specs.declared.trail_entry.TrailEntry.{TrailEntry}
use Rattle.craig_watch.specs.declared.value.Value.TheVariants.{True, Free}
use Rattle.craig_watch.specs.Trail.{AreDistinct, AreLevels, IsFalse, Trail, assignment_of, entry_of, level_at, part_up_to, value_under}
use Rattle.craig_watch.specs.Held.{HeldView, IsComplete, IsConsistent, MayBeHeld, held_clause}

-- no entry has a higher level than a later one
abbrev pub LevelsRise : Trail → Type 0
LevelsRise t = (i j : ℕ) (d : TrailEntry) → i ≤ j → j < length t → (slice_index_or t i d).level ≤ (slice_index_or t j d).level

-- a decision has a level above 0
abbrev pub DecisionsAreAboveTheRoot : Trail → Type 0
DecisionsAreAboveTheRoot t = (k : ℕ) (d : TrailEntry) → k < length t → (slice_index_or t k d).reason ≡ None → 0 < (slice_index_or t k d).level

-- an entry of level 0 has a reason
abbrev pub RootEntriesHaveReasons : Trail → Type 0
RootEntriesHaveReasons t = (k : ℕ) (d : TrailEntry) → k < length t → (slice_index_or t k d).level ≡ 0 → IsSome (slice_index_or t k d).reason

-- the entry of a variable stands at a place of the trail
abbrev pub EntriesOfVariablesHavePlaces : Trail → Type 0
EntriesOfVariablesHavePlaces t = (v : ℕ) (e : TrailEntry) → entry_of t v ≡ Some e → (k : ℕ) × (k < length t) × (e.literal.var ≡ v) × ((d : TrailEntry) → slice_index_or t k d ≡ e)

-- where no variable is assigned twice, the entry at a place is that of its variable
abbrev pub PlacesHaveEntriesOfVariables : Type 0
PlacesHaveEntriesOfVariables = (t : Trail) (k : ℕ) (d : TrailEntry) → AreDistinct t → k < length t → entry_of t (slice_index_or t k d).literal.var ≡ Some (slice_index_or t k d)

-- the variable of a true literal has an entry with the literal itself
abbrev pub TrueLiteralsHaveEntries : Trail → Type 0
TrueLiteralsHaveEntries t = (l : Literal) → value_under t l ≡ True → (e : TrailEntry) × (entry_of t l.var ≡ Some e) × (e.literal ≡ l)

-- the variable of a false literal has an entry with its negation
abbrev pub FalseLiteralsHaveEntries : Trail → Type 0
FalseLiteralsHaveEntries t = (l : Literal) → IsFalse t l → (e : TrailEntry) × (entry_of t l.var ≡ Some e) × (e.literal ≡ negation l)

-- the negation of the literal stands at a place before this one
abbrev pub NegationStandsBefore : Trail → ℕ → Literal → Type 0
NegationStandsBefore t k l = (j : ℕ) × (j < k) × ((d : TrailEntry) → (slice_index_or t j d).literal ≡ negation l)

-- the negation of what is false under the first entries stands among them
abbrev pub EarlyFalseLiteralsStandBefore : Trail → Type 0
EarlyFalseLiteralsStandBefore t = (k : ℕ) (l : Literal) → k ≤ length t → IsFalse (take k t) l → NegationStandsBefore t k l

-- a part of the trail keeps the entries up to its level
abbrev pub PartsKeepEntries : Type 0
PartsKeepEntries = (level : ℕ) (t : Trail) (v : ℕ) (e : TrailEntry) → AreLevels t → entry_of t v ≡ Some e → e.level ≤ level → entry_of (part_up_to level t) v ≡ Some e

-- and the values of their literals
abbrev pub PartsKeepValues : Type 0
PartsKeepValues = (level : ℕ) (t : Trail) (l : Literal) (e : TrailEntry) → AreLevels t → entry_of t l.var ≡ Some e → e.level ≤ level → value_under (part_up_to level t) l ≡ value_under t l

-- what was assigned above the level of a part is free under it
abbrev pub HigherLevelsAreFree : Type 0
HigherLevelsAreFree = (level : ℕ) (t : Trail) (l : Literal) (e : TrailEntry) → entry_of t l.var ≡ Some e → level < e.level → value_under (part_up_to level t) l ≡ Free

-- the literals of the clause but this one are false, their negations standing at places before
abbrev pub OthersStandBefore : Trail → ℕ → Literal → Clause → Type 0
OthersStandBefore t k l c = (m : Literal) → Contains c m → m ≢ l → IsFalse t m × NegationStandsBefore t k m

-- the reason of the literal at a place is held and has it, and its others stand before
abbrev pub ReasonsStandBefore : HeldView → Type 0
ReasonsStandBefore h = (k : ℕ) (d : TrailEntry) (id : ClauseId) → k < length h.trail → (slice_index_or h.trail k d).reason ≡ Some id → (c : Clause) × (held_clause h.arena id.0 ≡ Some c) × Contains c (slice_index_or h.trail k d).literal × OthersStandBefore h.trail k (slice_index_or h.trail k d).literal c

-- two different literals of the clause have the present level
abbrev pub HasTwoOfPresentLevel : HeldView → Clause → Type 0
HasTwoOfPresentLevel h c = (l m : Literal) × Contains c l × Contains c m × (l ≢ m) × (level_at h.trail l ≡ h.level) × (level_at h.trail m ≡ h.level)

-- above level 0 a held clause that is false has two literals of the present level
abbrev pub FalseClausesHaveTwoOfPresentLevel : Type 0
FalseClausesHaveTwoOfPresentLevel = (h : HeldView) (id : ℕ) (c : Clause) → IsConsistent h → 0 < h.level → held_clause h.arena id ≡ Some c → All (IsFalse h.trail) c → HasTwoOfPresentLevel h c

-- the clause contains no held clause
abbrev pub ContainsNoHeldClause : ArenaView → Clause → Type 0
ContainsNoHeldClause a d = (id : ℕ) (c : Clause) → held_clause a id ≡ Some c → ¬ ContainsClause d c

-- above level 0 a false clause whose literals but the first have lower levels contains no held clause
abbrev pub AssertingClausesAreNew : Type 0
AssertingClausesAreNew = (h : HeldView) (first : Literal) (rest : Clause) → IsConsistent h → 0 < h.level → All (IsFalse h.trail) (first ∷ rest) → All (λ m. level_at h.trail m < h.level) rest → ContainsNoHeldClause h.arena (first ∷ rest)

-- the level is 0 or that of one of the literals
abbrev pub IsRootOrLevelOf : Trail → ℕ → Clause → Type 0
IsRootOrLevelOf t level c = (level ≡ 0) ⊎ ((last : Literal) × Contains c last × (level_at t last ≡ level))

-- a false clause may be held after going back to the greatest level of its literals but the first
abbrev pub AssertingClausesMayBeHeld : HeldView → Type 0
AssertingClausesMayBeHeld h = (first : Literal) (rest : Clause) (back : ℕ) → IsConsistent h → All (IsFalse h.trail) (first ∷ rest) → back < level_at h.trail first → All (λ m. level_at h.trail m ≤ back) rest → IsRootOrLevelOf h.trail back rest → MayBeHeld (record h { trail = part_up_to back h.trail; level = back }) (first ∷ rest)

-- no literal of a held clause is free
abbrev pub NoHeldLiteralIsFree : ArenaView → Trail → Type 0
NoHeldLiteralIsFree a t = (id : ℕ) (c : Clause) (l : Literal) → held_clause a id ≡ Some c → Contains c l → value_under t l ≢ Free

-- once propagation is complete and no literal of a held clause is free, the assignment is a model
abbrev pub CompleteTrailsAreModels : Type 0
CompleteTrailsAreModels = (a : ArenaView) (t : Trail) → IsArena a → AreDistinct t → IsComplete a t → NoHeldLiteralIsFree a t → IsModel (assignment_of t) (clauses_of a)
