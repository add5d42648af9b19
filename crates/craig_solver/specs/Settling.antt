-- What is done after a search before the solver answers.
use Rattle.std.specs.Prelude.{◌≡◌, ℕ, ◌<◌, List, Bool, Option, Some, None, IsTrue, length}
use Rattle.craig_spec.specs.Literal.{Literal}
use Rattle.craig_spec.specs.Truth.{literal_value}
use Rattle.craig_base.specs.Values.{assignment_of_values}
use Rattle.craig_base.specs.declared.clause_id.ClauseId.{ClauseId}
use Rattle.craig_watch.specs.declared.value.Value.TheVariants.{True}
use Rattle.craig_watch.specs.Trail.{Trail, IsAssigned, value_under}
use Rattle.craig_watch.specs.Held.{HeldView, IsConsistent}
use Rattle.craig_order.specs.Order.{OrderView}
use Rattle.craig_search.specs.Leaves.{IsReady}
use Rattle.craig_search.specs.declared.verdict.Verdict.{Verdict}
use Rattle.craig_search.specs.declared.verdict.Verdict.TheVariants as verdict
use Rattle.craig_solver.specs.declared.answer.Answer.{Answer}
use Rattle.craig_solver.specs.declared.answer.Answer.TheVariants as answer

-- the values on a trail
pub record AreValuesOf (vars : ℕ) (t : Trail) (values : List Bool) : Type 0 where
  -- there is one of each known variable
  pub many : length values ≡ vars
  -- each literal that is true on the trail is true under them
  pub literals : (l : Literal) → value_under t l ≡ True → IsTrue (literal_value (assignment_of_values values) l)

-- where the verdict is a model, every known variable is assigned
abbrev pub AssignsAll : HeldView → Verdict → Type 0
AssignsAll h verdict.Model = (v : ℕ) → v < h.vars → IsAssigned h.trail v
AssignsAll h (verdict.Failed root places) = Unit {0}
AssignsAll h (verdict.Limit lemmas) = Unit {0}

-- the answer has the values on the trail, or what the verdict says
abbrev pub IsAnswerFor : HeldView → Verdict → Answer → Type 0
IsAnswerFor h verdict.Model (answer.Model values) = AreValuesOf h.vars h.trail values
IsAnswerFor h verdict.Model (answer.Failed root places) = ⊥
IsAnswerFor h verdict.Model (answer.Limit lemmas) = ⊥
IsAnswerFor h (verdict.Failed root places) a = a ≡ answer.Failed root places
IsAnswerFor h (verdict.Limit lemmas) a = a ≡ answer.Limit lemmas

-- a search is over, and the next one may begin
pub record IsAtRoot (old new : HeldView) (o : OrderView) : Type 0 where
  -- the clauses are as before
  pub arena : new.arena ≡ old.arena
  -- and so are the known variables
  pub vars : new.vars ≡ old.vars
  -- and whether memory was refused
  pub dead : new.dead ≡ old.dead
  -- nothing is decided
  pub level : new.level ≡ 0
  -- the order has each free variable
  pub ready : IsReady new o
  -- the clauses and their trail are as they are after every call
  pub consistent : IsConsistent new

-- the root that a verdict has
abbrev pub root_of_verdict : Verdict → Option ClauseId
root_of_verdict verdict.Model = None
root_of_verdict (verdict.Failed root places) = Some root
root_of_verdict (verdict.Limit lemmas) = None

-- how many units were told for a verdict
abbrev pub units_of_verdict : Verdict → ℕ
units_of_verdict verdict.Model = 0
units_of_verdict (verdict.Failed root places) = length places
units_of_verdict (verdict.Limit lemmas) = 0
