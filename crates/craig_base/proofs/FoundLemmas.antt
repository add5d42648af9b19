-- Clauses that are found under their ids, and the list that has them.
use Rattle.std.proofs.Common.{◌≡◌, ◌≢◌, ◌⊎◌, inl, inr, ◌↔◌, ℕ, suc, zero, ◌<◌, Bool, true, false, cond, eqb, ◌&&◌, List, [], ◌∷◌, ◌++◌, length, get_or, map, AllPairs, Contains, Option, Some, None, IsSome, refl, sym, ap, subst, ◌∙◌, arith, eqb-true}
use Rattle.std.specs.Option.{option_map}
use Rattle.std.specs.List.{list_all}
use Rattle.std.proofs.lemmas.List.{map-append}
use Rattle.std.proofs.lemmas.Bool.{eqb-false}
use Rattle.craig_spec.specs.Literal.{Clause}
use Rattle.craig_spec.specs.Truth.{Assignment, IsModel, clause_value}
use Rattle.craig_base.specs.Arena.{FlaggedClause, LiveClause, ArenaView, IsArena, IsLive, ChangesOnly, clause_of, clause_at, literals_at, literals_of, clauses_of, with_clause}
use Rattle.craig_spec.proofs.MemberLemmas.{Contains-later, Contains-image}
use Rattle.craig_base.proofs.LookUpLemmas.{flagged, live-literals}

abbrev live : ℕ → FlaggedClause → LiveClause
live id c = record { id = id; clause = c }

-- what is found stands in the list
found-cases : (b : Bool) (d : LiveClause) (cs : List LiveClause) (id : ℕ) (c : FlaggedClause) → eqb d.id id ≡ b → cond b (Some d.clause) (clause_of cs id) ≡ Some c → (clause_of cs id ≡ Some c → Contains cs (live id c)) → Contains (d ∷ cs) (live id c)
found-cases true d cs id c is found later =
    let same : d.clause ≡ c = cc in
    (0, omega arith, λ i. record { id = eqb-true d.id id is i; clause = same i })
found-cases false d cs id c is found later = Contains-later d cs (live id c) (later found)

Contains-found : (cs : List LiveClause) (id : ℕ) (c : FlaggedClause) → clause_of cs id ≡ Some c → Contains cs (live id c)
Contains-found [] id c found = absurd (let no : None ≡ Some c = found in cc)
Contains-found (d ∷ cs) id c found = found-cases (eqb d.id id) d cs id c refl found (Contains-found cs id c)

-- and the way back, where the ids rise
at-cases : (b : Bool) (d : LiveClause) (cs : List LiveClause) (id : ℕ) (c : FlaggedClause) (k : ℕ) → eqb d.id id ≡ b → AllPairs (λ x y. x.id < y.id) (d ∷ cs) → k < length (d ∷ cs) → get_or (d ∷ cs) k (live id c) ≡ live id c → ((j : ℕ) → j < length cs → get_or cs j (live id c) ≡ live id c → clause_of cs id ≡ Some c) → cond b (Some d.clause) (clause_of cs id) ≡ Some c
at-cases true d cs id c zero is rising within at later = ap (λ (x : LiveClause). Some x.clause) at
at-cases false d cs id c zero is rising within at later = absurd (eqb-false d.id id is (ap (λ (x : LiveClause). x.id) at))
at-cases true d cs id c (suc k) is rising within at later =
    let up : d.id < (get_or cs k (live id c)).id = rising 0 (suc k) (live id c) (omega arith) within in
    let same : (get_or cs k (live id c)).id ≡ id = ap (λ (x : LiveClause). x.id) at in
    let first : d.id ≡ id = eqb-true d.id id is in
    absurd (omega arith)
at-cases false d cs id c (suc k) is rising within at later = later k (omega arith) at

found-at : (cs : List LiveClause) (id : ℕ) (c : FlaggedClause) (k : ℕ) → AllPairs (λ x y. x.id < y.id) cs → k < length cs → get_or cs k (live id c) ≡ live id c → clause_of cs id ≡ Some c
found-at [] id c k rising within at = absurd (omega arith)
found-at (d ∷ cs) id c k rising within at =
    at-cases (eqb d.id id) d cs id c k refl rising within at (λ j w is. found-at cs id c j (λ m n e before inside. rising (suc m) (suc n) e (omega arith) (omega arith)) w is)

-- a clause is found under the id exactly where the list has it
pub clause_at-Contains : (a : ArenaView) (id : ℕ) (c : FlaggedClause) → IsArena a → (clause_at a id ≡ Some c) ↔ Contains a.clauses (live id c)
clause_at-Contains a id c ok = (Contains-found a.clauses id c, λ here. found-at a.clauses id c here.0 ok.rising here.1 here.2)

-- its literals stand in the list of the literals
pub Contains-clauses_of : (a : ArenaView) (id : ℕ) (c : Clause) → literals_of a id ≡ Some c → Contains (clauses_of a) c
Contains-clauses_of a id c is =
    let f = flagged (clause_at a id) c is in
    subst (Contains (clauses_of a)) f.2 (Contains-image (λ (d : LiveClause). d.clause.literals) a.clauses (live id f.0) (Contains-found a.clauses id f.0 f.1))

mapped-from : (cs : List LiveClause) (c : Clause) (k : ℕ) → k < length (map (λ d. d.clause.literals) cs) → get_or (map (λ d. d.clause.literals) cs) k c ≡ c → (d : LiveClause) × Contains cs d × (d.clause.literals ≡ c)
mapped-from [] c k within at = absurd (omega arith)
mapped-from (d ∷ cs) c zero within at = (d, (0, omega arith, refl), at)
mapped-from (d ∷ cs) c (suc k) within at = let m = mapped-from cs c k (omega arith) at in (m.0, Contains-later d cs m.0 m.1, m.2)

-- and the literals in it are those of clauses that are found
pub literals_of-Contains : (a : ArenaView) (c : Clause) → IsArena a → Contains (clauses_of a) c → (id : ℕ) × (literals_of a id ≡ Some c)
literals_of-Contains a c ok (k, within, at) =
    let m = mapped-from a.clauses c k within at in
    let found : clause_at a m.0.id ≡ Some m.0.clause = (clause_at-Contains a m.0.id m.0.clause ok).1 m.1 in
    (m.0.id, ap (option_map (λ (f : FlaggedClause). f.literals)) found ∙ ap Some m.2)

pub clauses_of-with_clause : (a : ArenaView) (c : FlaggedClause) → clauses_of (with_clause a c) ≡ clauses_of a ++ c.literals ∷ []
clauses_of-with_clause a c = map-append (λ (d : LiveClause). d.clause.literals) a.clauses (live a.given c ∷ [])

-- an id that is live was given
live-clause : (o : Option FlaggedClause) → IsSome o → (c : FlaggedClause) × (o ≡ Some c)
live-clause None h = absurd (let no : false ≡ true = h in cc)
live-clause (Some c) h = (c, refl)

pub below-given : (a : ArenaView) (id : ℕ) → IsArena a → IsLive a id → id < a.given
below-given a id ok h =
    let c = live-clause (clause_at a id) h in
    let here = Contains-found a.clauses id c.0 c.1 in
    let low : (get_or a.clauses here.0 (live id c.0)).id < a.given = ok.below here.0 (live id c.0) here.1 in
    let same : (get_or a.clauses here.0 (live id c.0)).id ≡ id = ap (λ (x : LiveClause). x.id) here.2 in
    omega arith

-- a member of a list that is true is true
all-cases : (b : Bool) (s : Assignment) (cs : List Clause) → (b && list_all (clause_value s) cs) ≡ true → (b ≡ true) × (list_all (clause_value s) cs ≡ true)
all-cases true s cs h = (refl, h)
all-cases false s cs h = absurd (let no : false ≡ true = h in cc)

true-at : (s : Assignment) (cs : List Clause) (c : Clause) (k : ℕ) → IsModel s cs → k < length cs → get_or cs k c ≡ c → clause_value s c ≡ true
true-at s [] c k model within at = absurd (omega arith)
true-at s (d ∷ cs) c zero model within at = subst (λ (x : Clause). clause_value s x ≡ true) at (all-cases (clause_value s d) s cs model).0
true-at s (d ∷ cs) c (suc k) model within at = true-at s cs c k (all-cases (clause_value s d) s cs model).1 (omega arith) at

pub IsModel-all : (s : Assignment) (cs : List Clause) → ((c : Clause) → Contains cs c → clause_value s c ≡ true) → IsModel s cs
IsModel-all s [] h = refl
IsModel-all s (d ∷ cs) h = rw (h d (0, omega arith, refl)) (IsModel-all s cs (λ c here. h c (Contains-later d cs c here)))

-- a model of the clauses makes each clause true that is found
pub IsModel-found : (a : ArenaView) (s : Assignment) → IsModel s (clauses_of a) → (id : ℕ) (c : Clause) → literals_of a id ≡ Some c → clause_value s c ≡ true
IsModel-found a s model id c is = let here = Contains-clauses_of a id c is in true-at s (clauses_of a) c here.0 model here.1 here.2

-- and the other way round
pub IsModel-from_found : (a : ArenaView) (s : Assignment) → IsArena a → ((id : ℕ) (c : Clause) → literals_of a id ≡ Some c → clause_value s c ≡ true) → IsModel s (clauses_of a)
IsModel-from_found a s ok h = IsModel-all s (clauses_of a) (λ c here. let found = literals_of-Contains a c ok here in h found.0 c found.1)

pub literals_of-live : (a : ArenaView) (id : ℕ) → IsLive a id → literals_of a id ≡ Some (literals_at a id)
literals_of-live a id h = live-literals (clause_at a id) h

-- those after one clause changed
changed-cases : (b : Bool) (k id : ℕ) (now before : Option FlaggedClause) (c : Clause) → eqb k id ≡ b → option_map (λ f. f.literals) (cond b now before) ≡ Some c → ((k ≡ id) × (option_map (λ f. f.literals) now ≡ Some c)) ⊎ ((k ≢ id) × (option_map (λ f. f.literals) before ≡ Some c))
changed-cases true k id now before c same is = inl (eqb-true k id same, is)
changed-cases false k id now before c same is = inr (eqb-false k id same, is)

pub literals_of-changed : (old new : ArenaView) (id : ℕ) (now : Option FlaggedClause) → ChangesOnly old new id now → (k : ℕ) (c : Clause) → literals_of new k ≡ Some c → ((k ≡ id) × (option_map (λ f. f.literals) now ≡ Some c)) ⊎ ((k ≢ id) × (literals_of old k ≡ Some c))
literals_of-changed old new id now only k c is =
    changed-cases (eqb k id) k id now (clause_at old k) c refl (ap (option_map (λ (f : FlaggedClause). f.literals)) (sym (only k)) ∙ is)
