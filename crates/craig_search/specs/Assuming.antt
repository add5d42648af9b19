-- Assumptions under way: which are true, and what was decided for them.
use Rattle.std.specs.Prelude.{◌≡◌, ◌≢◌, ◌⊎◌, ℕ, ◌<◌, List, Some, None, AllPairs, Contains, length, slice_get, slice_index_or, take}
use Rattle.craig_spec.specs.Literal.{Literal, Clause, negation}
use Rattle.craig_base.specs.declared.script_part.Part.{Part}
use Rattle.craig_order.specs.Order.{OrderView}
use Rattle.craig_watch.specs.declared.trail_entry.TrailEntry.{TrailEntry}
use Rattle.craig_watch.specs.declared.value.Value.TheVariants.{True}
use Rattle.craig_watch.specs.Trail.{Trail, IsFalse, value_under}
use Rattle.craig_watch.specs.Held.{HeldView, with_decision}
use Rattle.craig_search.specs.declared.deciding.Turn.{Turn}
use Rattle.craig_search.specs.declared.deciding.Turn.TheVariants.{Decided, Model, Failed}
use Rattle.craig_search.specs.Leaves.{IsReady}
use Rattle.craig_search.specs.Verdict.{Assumptions, IsFound}

-- the literal is assumed
abbrev pub IsAssumed : Assumptions → Literal → Type 0
IsAssumed assumptions l = (p : ℕ) × (a : Part × Literal) × (slice_get assumptions p ≡ Some a) × (a.1 ≡ l)

-- the assumptions before the place are true under the trail
abbrev pub AreTrueBefore : Trail → Assumptions → ℕ → Type 0
AreTrueBefore t assumptions place = (p : ℕ) (a : Part × Literal) → p < place → slice_get assumptions p ≡ Some a → value_under t a.1 ≡ True

-- the assumption at the place, if there is one, is not true
abbrev pub IsOpen : Trail → Assumptions → ℕ → Type 0
IsOpen t assumptions place = (a : Part × Literal) → slice_get assumptions place ≡ Some a → value_under t a.1 ≢ True

-- each decision on the trail is assumed, or was made when all assumptions were true
abbrev pub AreDecided : Assumptions → Trail → Type 0
AreDecided assumptions t = (k : ℕ) (d : TrailEntry) → k < length t → (slice_index_or t k d).reason ≡ None → IsAssumed assumptions (slice_index_or t k d).literal ⊎ AreTrueBefore (take k t) assumptions (length assumptions)

-- each decision on the trail is assumed
abbrev pub AreAllAssumed : Assumptions → Trail → Type 0
AreAllAssumed assumptions t = (k : ℕ) (d : TrailEntry) → k < length t → (slice_index_or t k d).reason ≡ None → IsAssumed assumptions (slice_index_or t k d).literal

-- what came of the decision of a literal that was assumed
abbrev pub IsAssumedTurn : HeldView → HeldView → Literal → Turn → Type 0
IsAssumedTurn old new l Decided = new ≡ with_decision old l
IsAssumedTurn old new l Model = ⊥
IsAssumedTurn old new l (Failed m) = (new ≡ old) × (m ≡ l) × IsFalse old.trail l

-- what came of the next decision
abbrev pub IsTurn : Assumptions → HeldView → HeldView → OrderView → Turn → Type 0
IsTurn assumptions old new o Decided = (l : Literal) × (new ≡ with_decision old l) × IsReady new o × AreDecided assumptions new.trail
IsTurn assumptions old new o Model = (new ≡ old) × IsFound new assumptions × (length o.given_back ≡ new.vars)
IsTurn assumptions old new o (Failed l) = (new ≡ old) × IsReady new o × IsFalse new.trail l × IsAssumed assumptions l × AreAllAssumed assumptions new.trail

-- the place is the first one of its literal, whose negation the clause has
abbrev pub NegatesAt : Assumptions → Clause → ℕ → Type 0
NegatesAt assumptions c p = (a : Part × Literal) × (slice_get assumptions p ≡ Some a) × Contains c (negation a.1) × ((q : ℕ) (b : Part × Literal) → q < p → slice_get assumptions q ≡ Some b → b.1 ≢ a.1)

-- the places before the bound whose literals' negations the clause has, each the first one of its literal
pub record AreNegated (assumptions : Assumptions) (c : Clause) (bound : ℕ) (places : List ℕ) : Type 0 where
  -- they rise
  pub rising : AllPairs (λ p q. p < q) places
  -- each is such a place
  pub each : (p : ℕ) → Contains places p → (p < bound) × NegatesAt assumptions c p
  -- and there is one of each such literal
  pub all : (p : ℕ) (a : Part × Literal) → p < bound → slice_get assumptions p ≡ Some a → Contains c (negation a.1) → (q : ℕ) × (b : Part × Literal) × Contains places q × (slice_get assumptions q ≡ Some b) × (b.1 ≡ a.1)
