-- The entries of an arena and the list of the live clauses that they stand for.
use Rattle.std.proofs.Common.{◌≡◌, ℕ, suc, zero, ◌+◌, ◌<◌, ◌≤◌, true, cond, not, eqb, List, [], ◌∷◌, ◌++◌, length, get_or, set, map, All, AllPairs, Option, Some, None, length-set, length-append, refl, sym, subst, arith, eqb-true, ne_eqb}
use Rattle.std.specs.List.{filter}
use Rattle.std.specs.Option.{option_map, IsSome}
use Rattle.std.proofs.lemmas.List.Elements.{All-nil, All-cons, All-weaker}
use Rattle.std.proofs.lemmas.List.Kept.{AllPairs-cons}
use Rattle.std.proofs.lemmas.Bool.{eqb-false}
use Rattle.craig_base.specs.Arena.{FlaggedClause, LiveClause, ArenaView, IsArena, ChangesOnly, ChangesClause, clause_of, clause_at, changed_clause, changed, without, with_id, with_clause}
use Rattle.craig_base.specs.ArenaTable.{live_from, arena_of}

-- what is found after one clause is changed
pub clause_of-changed : (f : FlaggedClause → FlaggedClause) (id k : ℕ) (cs : List LiveClause) → clause_of (map (changed_clause f id) cs) k ≡ cond (eqb k id) (option_map f (clause_of cs id)) (clause_of cs k)
clause_of-changed f id k [] = grind arith
clause_of-changed f id k (c ∷ cs) = let rest = clause_of-changed f id k cs in grind (arith, eqb-true, eqb-false)

-- what is found after one is taken out
pub clause_of-without : (id k : ℕ) (cs : List LiveClause) → clause_of (filter (λ c. not (eqb c.id id)) cs) k ≡ cond (eqb k id) None (clause_of cs k)
clause_of-without id k [] = grind arith
clause_of-without id k (c ∷ cs) = let rest = clause_of-without id k cs in grind (arith, eqb-true, eqb-false)

-- ids below the first are not there
pub clause_of-before : (entries : List (Option FlaggedClause)) (first k : ℕ) → k < first → clause_of (live_from first entries) k ≡ None
clause_of-before [] first k h = refl
clause_of-before (None ∷ es) first k h = clause_of-before es (suc first) k (omega arith)
clause_of-before (Some c ∷ es) first k h = rw (ne_eqb first k (λ same. omega arith)) (clause_of-before es (suc first) k (omega arith))

-- nor those past the last
pub clause_of-after : (entries : List (Option FlaggedClause)) (first k : ℕ) → first + length entries ≤ k → clause_of (live_from first entries) k ≡ None
clause_of-after [] first k h = refl
clause_of-after (None ∷ es) first k h = clause_of-after es (suc first) k (omega arith)
clause_of-after (Some c ∷ es) first k h = rw (ne_eqb first k (λ same. omega arith)) (clause_of-after es (suc first) k (omega arith))

same_eqb : (a b : ℕ) → a ≡ b → eqb a b ≡ true
same_eqb a b e = grind arith

-- what is found is the entry
pub clause_of-entry : (entries : List (Option FlaggedClause)) (first i k : ℕ) → k ≡ first + i → clause_of (live_from first entries) k ≡ get_or entries i None
clause_of-entry [] first i k e = refl
clause_of-entry (None ∷ es) first zero k e = clause_of-before es (suc first) k (omega arith)
clause_of-entry (None ∷ es) first (suc i) k e = clause_of-entry es (suc first) i k (omega arith)
clause_of-entry (Some c ∷ es) first zero k e = rw (same_eqb first k (omega arith)) refl
clause_of-entry (Some c ∷ es) first (suc i) k e = rw (ne_eqb first k (λ same. omega arith)) (clause_of-entry es (suc first) i k (omega arith))

-- a change of an id below the first changes nothing
map-before : (f : FlaggedClause → FlaggedClause) (entries : List (Option FlaggedClause)) (first k : ℕ) → k < first → map (changed_clause f k) (live_from first entries) ≡ live_from first entries
map-before f [] first k h = refl
map-before f (None ∷ es) first k h = map-before f es (suc first) k (omega arith)
map-before f (Some c ∷ es) first k h = rw (ne_eqb first k (λ same. omega arith), map-before f es (suc first) k (omega arith)) refl

-- a write to the entry of a live clause changes the one clause
pub live_from-changed : (f : FlaggedClause → FlaggedClause) (entries : List (Option FlaggedClause)) (first i k : ℕ) (old : FlaggedClause) → k ≡ first + i → get_or entries i None ≡ Some old → live_from first (set entries i (Some (f old))) ≡ map (changed_clause f k) (live_from first entries)
live_from-changed f [] first i k old e at_i = absurd (cc)
live_from-changed f (None ∷ es) first zero k old e at_i = absurd (cc)
live_from-changed f (Some c ∷ es) first zero k old e at_i =
    let same : c ≡ old = cc in
    rw (same_eqb first k (omega arith), map-before f es (suc first) k (omega arith), same) refl
live_from-changed f (None ∷ es) first (suc i) k old e at_i = live_from-changed f es (suc first) i k old (omega arith) at_i
live_from-changed f (Some c ∷ es) first (suc i) k old e at_i =
    rw (ne_eqb first k (λ same. omega arith), live_from-changed f es (suc first) i k old (omega arith) at_i) refl

filter-before : (entries : List (Option FlaggedClause)) (first k : ℕ) → k < first → filter (λ c. not (eqb c.id k)) (live_from first entries) ≡ live_from first entries
filter-before [] first k h = refl
filter-before (None ∷ es) first k h = filter-before es (suc first) k (omega arith)
filter-before (Some c ∷ es) first k h = rw (ne_eqb first k (λ same. omega arith), filter-before es (suc first) k (omega arith)) refl

-- an entry that is emptied takes the one clause out
pub live_from-without : (entries : List (Option FlaggedClause)) (first i k : ℕ) → k ≡ first + i → live_from first (set entries i None) ≡ filter (λ c. not (eqb c.id k)) (live_from first entries)
live_from-without [] first i k e = refl
live_from-without (None ∷ es) first zero k e = sym (filter-before es (suc first) k (omega arith))
live_from-without (Some c ∷ es) first zero k e = rw (same_eqb first k (omega arith)) (sym (filter-before es (suc first) k (omega arith)))
live_from-without (None ∷ es) first (suc i) k e = live_from-without es (suc first) i k (omega arith)
live_from-without (Some c ∷ es) first (suc i) k e = rw (ne_eqb first k (λ same. omega arith), live_from-without es (suc first) i k (omega arith)) refl

-- an empty entry at the end adds no clause
pub live_from-numbered : (entries : List (Option FlaggedClause)) (first : ℕ) → live_from first (entries ++ None ∷ []) ≡ live_from first entries
live_from-numbered [] first = refl
live_from-numbered (None ∷ es) first = live_from-numbered es (suc first)
live_from-numbered (Some c ∷ es) first = rw (live_from-numbered es (suc first)) refl

-- an entry at the end adds its clause there
pub live_from-added : (entries : List (Option FlaggedClause)) (c : FlaggedClause) (first k : ℕ) → k ≡ first + length entries → live_from first (entries ++ Some c ∷ []) ≡ live_from first entries ++ record { id = k; clause = c } ∷ []
live_from-added [] c first k e = let same : first ≡ k = omega arith in rw same refl
live_from-added (None ∷ es) c first k e = live_from-added es c (suc first) k (omega arith)
live_from-added (Some d ∷ es) c first k e = rw (live_from-added es c (suc first) k (omega arith)) refl

-- what is found after one is added whose id isn't there
pub clause_of-added : (cs : List LiveClause) (c : FlaggedClause) (id k : ℕ) → clause_of cs id ≡ None → clause_of (cs ++ record { id = id; clause = c } ∷ []) k ≡ cond (eqb k id) (Some c) (clause_of cs k)
clause_of-added [] c id k none = grind (arith, eqb-true, eqb-false)
clause_of-added (d ∷ cs) c id k none = let rest = clause_of-added cs c id k in grind (arith, eqb-true, eqb-false)

-- the entry of an id that was given
pub clause_at-entry : (entries : List (Option FlaggedClause)) (k : ℕ) → clause_at (arena_of entries) k ≡ get_or entries k None
clause_at-entry entries k = clause_of-entry entries 0 k k (omega arith)

within-entry : (entries : List (Option FlaggedClause)) (i : ℕ) → IsSome (get_or entries i None) → i < length entries
within-entry [] i h = absurd (cc)
within-entry (e ∷ es) zero h = omega arith
within-entry (e ∷ es) (suc i) h = let r : i < length es = within-entry es i h in omega arith

-- a live clause has an entry
pub within-live : (entries : List (Option FlaggedClause)) (k : ℕ) → IsSome (clause_at (arena_of entries) k) → k < length entries
within-live entries k h = within-entry entries k (rw clause_at-entry at h)

-- an entry that is emptied
pub arena_of-without : (entries : List (Option FlaggedClause)) (k : ℕ) → arena_of (set entries k None) ≡ without (arena_of entries) k
arena_of-without entries k = rw (live_from-without entries 0 k k (omega arith), length-set entries k None) refl

pub ChangesOnly-without : (a : ArenaView) (k : ℕ) → ChangesOnly a (without a k) k None
ChangesOnly-without a id k = clause_of-without id k a.clauses

-- a clause that is changed in its entry
pub arena_of-changed : (f : FlaggedClause → FlaggedClause) (entries : List (Option FlaggedClause)) (k : ℕ) (old : FlaggedClause) → get_or entries k None ≡ Some old → arena_of (set entries k (Some (f old))) ≡ changed f (arena_of entries) k
arena_of-changed f entries k old at_k = rw (live_from-changed f entries 0 k k old (omega arith) at_k, length-set entries k (Some (f old))) refl

pub ChangesClause-changed : (f : FlaggedClause → FlaggedClause) (a : ArenaView) (k : ℕ) → ChangesClause a (changed f a k) k f
ChangesClause-changed f a id k = clause_of-changed f id k a.clauses

-- one id more
pub arena_of-numbered : (entries : List (Option FlaggedClause)) → arena_of (entries ++ None ∷ []) ≡ with_id (arena_of entries)
arena_of-numbered entries = rw (live_from-numbered entries 0, length-append entries (None ∷ [])) refl

-- one clause more
pub arena_of-added : (entries : List (Option FlaggedClause)) (c : FlaggedClause) → arena_of (entries ++ Some c ∷ []) ≡ with_clause (arena_of entries) c
arena_of-added entries c = rw (live_from-added entries c 0 (length entries) (omega arith), length-append entries (Some c ∷ [])) refl

-- nothing is live under an id that was not given
pub clause_at-next : (entries : List (Option FlaggedClause)) → clause_at (arena_of entries) (length entries) ≡ None
clause_at-next entries = clause_of-after entries 0 (length entries) (omega arith)

pub ChangesOnly-added : (entries : List (Option FlaggedClause)) (c : FlaggedClause) → ChangesOnly (arena_of entries) (with_clause (arena_of entries) c) (length entries) (Some c)
ChangesOnly-added entries c k = clause_of-added (live_from 0 entries) c (length entries) k (clause_at-next entries)

-- the ids of a table lie between its first and its last
ids-within : (entries : List (Option FlaggedClause)) (first : ℕ) → All (λ c. (first ≤ c.id) × (c.id < first + length entries)) (live_from first entries)
ids-within [] first = All-nil (λ c. (first ≤ c.id) × (c.id < first + 0))
ids-within (None ∷ es) first = All-weaker (λ c. (suc first ≤ c.id) × (c.id < suc first + length es)) (λ c. (first ≤ c.id) × (c.id < first + suc (length es))) (λ c h. (omega arith, omega arith)) (live_from (suc first) es) (ids-within es (suc first))
ids-within (Some d ∷ es) first = All-cons (λ c. (first ≤ c.id) × (c.id < first + suc (length es))) _ _ (omega arith, omega arith) (All-weaker (λ c. (suc first ≤ c.id) × (c.id < suc first + length es)) (λ c. (first ≤ c.id) × (c.id < first + suc (length es))) (λ c h. (omega arith, omega arith)) (live_from (suc first) es) (ids-within es (suc first)))

ids-rising : (entries : List (Option FlaggedClause)) (first : ℕ) → AllPairs (λ c d. c.id < d.id) (live_from first entries)
ids-rising [] first = λ i j d before within. absurd (omega arith)
ids-rising (None ∷ es) first = ids-rising es (suc first)
ids-rising (Some c ∷ es) first = AllPairs-cons (λ c d. c.id < d.id) _ _ (All-weaker (λ d. (suc first ≤ d.id) × (d.id < suc first + length es)) (λ d. first < d.id) (λ d h. omega arith) (live_from (suc first) es) (ids-within es (suc first))) (ids-rising es (suc first))

-- every table stands for an arena
pub IsArena-table : (entries : List (Option FlaggedClause)) → IsArena (arena_of entries)
IsArena-table entries = record {
  rising = ids-rising entries 0;
  below = All-weaker (λ c. (0 ≤ c.id) × (c.id < 0 + length entries)) (λ c. c.id < length entries) (λ c h. omega arith) (live_from 0 entries) (ids-within entries 0);
}

-- what is found after an entry is emptied
pub ChangesOnly-table : (entries : List (Option FlaggedClause)) (k : ℕ) → ChangesOnly (arena_of entries) (arena_of (set entries k None)) k None
ChangesOnly-table entries k = subst (λ x. ChangesOnly (arena_of entries) x k None) (sym (arena_of-without entries k)) (ChangesOnly-without (arena_of entries) k)

-- and after it is changed
pub ChangesClause-table : (f : FlaggedClause → FlaggedClause) (entries : List (Option FlaggedClause)) (k : ℕ) (old : FlaggedClause) → get_or entries k None ≡ Some old → ChangesClause (arena_of entries) (arena_of (set entries k (Some (f old)))) k f
ChangesClause-table f entries k old at_k =
    subst (λ x. ChangesClause (arena_of entries) x k f) (sym (arena_of-changed f entries k old at_k)) (ChangesClause-changed f (arena_of entries) k)

-- and after one is added
pub ChangesOnly-table_added : (entries : List (Option FlaggedClause)) (c : FlaggedClause) → ChangesOnly (arena_of entries) (arena_of (entries ++ Some c ∷ [])) (length entries) (Some c)
ChangesOnly-table_added entries c =
    subst (λ x. ChangesOnly (arena_of entries) x (length entries) (Some c)) (sym (arena_of-added entries c)) (ChangesOnly-added entries c)

-- nothing is live under the new id
pub clause_at-numbered : (entries : List (Option FlaggedClause)) → clause_at (arena_of (entries ++ None ∷ [])) (length entries) ≡ None
clause_at-numbered entries = rw (live_from-numbered entries 0) (clause_at-next entries)

-- nor past the last
pub clause_at-past : (entries : List (Option FlaggedClause)) (k : ℕ) → length entries ≤ k → clause_at (arena_of entries) k ≡ None
clause_at-past entries k h = clause_of-after entries 0 k (omega arith)
