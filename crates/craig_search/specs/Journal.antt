-- The journal of a search: its clauses, and which lemmas stand in it.
use Rattle.std.specs.Prelude.{◌≡◌, ℕ, ◌<◌, Bool, true, false, List, [], ◌∷◌, ◌++◌, Option, Some, None, All, length, nat_eq, slice_index_or}
use Rattle.craig_spec.specs.Literal.{Clause}
use Rattle.craig_spec.specs.Chain.{SameLiterals, Told}
use Rattle.craig_base.specs.Arena.{ArenaView, FlaggedClause, IsReordered, clause_at, clauses_of}
use Rattle.craig_base.specs.Clauses.{IsNormal}
use Rattle.craig_base.specs.LemmaRule.{MeetsLemmaRule}
use Rattle.craig_watch.specs.Held.{HeldView}
use Rattle.craig_search.specs.Searching.{IsSearching}
use Rattle.craig_search.specs.Verdict.{IsLimited}
use Rattle.craig_search.specs.declared.outcome.Outcome.{Outcome}
use Rattle.craig_search.specs.declared.outcome.Outcome.TheVariants.{Model, Refuted, Failed, Limited}

-- a clause with these literals in any order is held, and marked as kept
abbrev pub IsKept : ArenaView → Clause → Type 0
IsKept a c = (id : ℕ) × (d : FlaggedClause) × (clause_at a id ≡ Some d) × (d.flags.kept ≡ true) × SameLiterals c d.literals

-- what a search has learnt so far, over the clauses of its start, whether it holds it still or not
pub record AreLemmas (start : ArenaView) (now : ArenaView) (lemmas : List Clause) : Type 0 where
  -- they meet the rule
  pub rule : MeetsLemmaRule (clauses_of start) lemmas
  -- no literal stands in one of them twice
  pub normal : All IsNormal lemmas
  -- each that stands there twice is held and kept
  pub twice : (i j : ℕ) (d : Clause) → i < j → j < length lemmas → SameLiterals (slice_index_or lemmas i d) (slice_index_or lemmas j d) → IsKept now (slice_index_or lemmas i d)

-- the clause is learnt, so that it is the next lemma behind these, whatever the start of the search was
abbrev pub LearnsNext : List Clause → HeldView → HeldView → Option Told → Clause → Type 0
LearnsNext lemmas old new told c =
    (start : HeldView) (before : Option Told) → IsSearching start old before told → AreLemmas start.arena old.arena lemmas → AreLemmas start.arena new.arena (lemmas ++ c ∷ [])

-- clauses that are kept stay held
abbrev pub StayKept : ArenaView → ArenaView → Type 0
StayKept old new = (id : ℕ) (c : FlaggedClause) → clause_at old id ≡ Some c → c.flags.kept ≡ true → (d : FlaggedClause) × (clause_at new id ≡ Some d) × IsReordered c d

-- under a limit all that was learnt are lemmas, and there are fewer of them than the limit
abbrev pub AreBelow : Option ℕ → ArenaView → ArenaView → List Clause → Type 0
AreBelow None start now lemmas = Unit {0}
AreBelow (Some n) start now lemmas = AreLemmas start now lemmas × (length lemmas < n)

-- under a limit one lemma more is listed, and whether the limit is met by it
abbrev pub IsListed : Option ℕ → Clause → List Clause → List Clause → Bool → Type 0
IsListed None c old new met = (new ≡ old) × (met ≡ false)
IsListed (Some n) c old new met = (new ≡ old ++ c ∷ []) × (met ≡ nat_eq (length new) n)

-- where the turns of a search ended by the limit, its lemmas are listed
abbrev pub ListsLemmas : Option ℕ → HeldView → List Clause → Outcome → Type 0
ListsLemmas limit start lemmas Model = Unit {0}
ListsLemmas limit start lemmas (Refuted root) = Unit {0}
ListsLemmas limit start lemmas (Failed l) = Unit {0}
ListsLemmas limit start lemmas Limited = IsLimited start limit lemmas
