-- Clauses as a journal keeps them.
use Rattle.std.specs.Prelude.{◌≡◌, ℕ, ◌-◌, ◌<◌, ◌≤◌, Bool, true, List, [], ◌∷◌, All, length, take, drop, slice_index_or}
use Rattle.std.specs.BTreeSet.{BTreeSet, contains}
use Rattle.std.specs.Ordering.{nat_cmp}
use Rattle.craig_spec.specs.Literal.{Clause}
use Rattle.craig_spec.specs.Chain.{SameLiterals}
use Rattle.craig_base.specs.Clauses.{IsNormal}
use Rattle.craig_search.specs.Fingerprint.{fingerprint_of}

-- the clauses whose literals lie one behind another from the start on, each up to its end
abbrev pub clauses_at_ends : ℕ → List ℕ → Clause → List Clause
clauses_at_ends start [] literals = []
clauses_at_ends start (stop ∷ ends) literals = take (stop - start) (drop start literals) ∷ clauses_at_ends stop ends literals

-- the ends rise from the start on, and the last one is the end of the literals
abbrev pub AreEnds : ℕ → List ℕ → Clause → Type 0
AreEnds start [] literals = start ≡ length literals
AreEnds start (stop ∷ ends) literals = (start ≤ stop) × AreEnds stop ends literals

-- the literals and the ends of clauses, and the fingerprint of each clause among others
pub record AreStored (literals : Clause) (ends : List ℕ) (fingerprints : BTreeSet ℕ) : Type 0 where
  -- the ends of the clauses
  pub cut : AreEnds 0 ends literals
  -- each has its fingerprint there
  pub found : All (λ c. contains nat_cmp fingerprints (fingerprint_of c) ≡ true) (clauses_at_ends 0 ends literals)

-- where the list has the literals of the clause, the clause is marked
abbrev pub MarksRepeat : List Clause → Clause → Bool → Type 0
MarksRepeat lemmas c marked = All IsNormal lemmas → IsNormal c → (k : ℕ) (d : Clause) → k < length lemmas → SameLiterals (slice_index_or lemmas k d) c → marked ≡ true
