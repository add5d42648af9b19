-- Which variables the clauses and pivots of told steps have.
use Rattle.std.proofs.Common.{◌≡◌, ℕ, zero, suc, ◌<◌, Bool, true, false, cond, List, [], ◌∷◌, length, get_or, take, Contains, Option, Some, get_or-take, length-take, refl, sym, ◌∙◌, subst, arith, inl, inr, eqb, ltb-true, lt-ltb, filter}
use Rattle.std.proofs.lemmas.List.Elements.{Contains-get_or}
use Rattle.std.proofs.lemmas.Bool.{and_parts, and_from}
use Rattle.craig_spec.specs.Literal.{Literal, Clause}
use Rattle.craig_spec.specs.Chain.{ChainStep, Origin, Original, Derived, ToldStep, clause_told, SameLiterals, IsResolvent, IsChain, StandsOn, EachStands}
use Rattle.craig_spec.specs.Needed.{IsOriginal}
use Rattle.craig_spec.specs.Cut.{PartClause, clauses_within}
use Rattle.craig_spec.specs.DrawnFromOneRefutation.{IsOriginalOf, IsRefutationOf}
use Rattle.craig_top.specs.Named.{bare_clauses, ArePivotsOver, IsOverOrigin, AreClausesOver, AreStepsOver}
use Rattle.craig_top.specs.Values.{IsOver, AreOver}
use Rattle.craig_spec.proofs.MemberLemmas.{Contains-front, Contains-later, Contains-take}

-- a clause over n variables is so literal by literal
pub IsOver-contains : (n : ℕ) (c : Clause) (l : Literal) → IsOver n c → Contains c l → l.var < n
IsOver-contains n [] l over (k, within, at) = absurd (omega (arith, within))
IsOver-contains n (m ∷ c) l over (zero, within, at) = subst (λ (x : Literal). x.var < n) at (ltb-true m.var n (and_parts _ _ over).0)
IsOver-contains n (m ∷ c) l over (suc k, within, at) = IsOver-contains n c l (and_parts _ _ over).1 (k, omega (arith, within), at)

pub IsOver-each : (n : ℕ) (c : Clause) → ((l : Literal) → Contains c l → l.var < n) → IsOver n c
IsOver-each n [] below = refl
IsOver-each n (m ∷ c) below = and_from _ _ (lt-ltb m.var n (below m (Contains-front m c))) (IsOver-each n c (λ l here. below l (Contains-later m c l here)))

-- so is a resolvent of such clauses
pub IsResolvent-over : (n : ℕ) (p : Literal) (c d r : Clause) → IsOver n c → IsOver n d → IsResolvent p c d r → IsOver n r
IsResolvent-over n p c d r first second resolved = IsOver-each n r (λ l here. elim ((resolved.literals l).0 here) [
  | inl h ↦ IsOver-contains n c l first h.0
  | inr h ↦ IsOver-contains n d l second h.0
])

-- the pivots of a chain over clauses of n variables are below n
pub IsChain-over : (n : ℕ) (f : ℕ → Option Clause) (c : Clause) (rest : List ChainStep) (last : Clause) → ((x : ℕ) (d : Clause) → f x ≡ Some d → IsOver n d) → IsOver n c → IsChain f c rest last → ArePivotsOver n rest
IsChain-over n f c [] last over first h = refl
IsChain-over n f c (s ∷ rest) last over first (d, r, is, resolved, more) =
    and_from _ _ (lt-ltb s.pivot.var n (IsOver-contains n c s.pivot first resolved.first_has)) (IsChain-over n f r rest last over (IsResolvent-over n s.pivot c d r first (over s.antecedent d is) resolved) more)

-- each clause that was told is over n variables
over-cases : (n : ℕ) (a c : Clause) (rest : Option Clause) (b : Bool) → cond b (Some a) rest ≡ Some c → IsOver n a → (rest ≡ Some c → IsOver n c) → IsOver n c
over-cases n a c rest true e first later = let same : a ≡ c = cc in subst (λ x. IsOver n x) same first
over-cases n a c rest false e first later = later e

pub clause_told-over : (n : ℕ) (steps : List ToldStep) → AreClausesOver n steps → (id : ℕ) (c : Clause) → clause_told steps id ≡ Some c → IsOver n c
clause_told-over n [] over id c e = absurd (cc)
clause_told-over n (s ∷ steps) over id c e =
    over-cases n s.literals c (clause_told steps id) (eqb s.id id) e (over s (Contains-front s steps)) (clause_told-over n steps (λ r here. over r (Contains-later s steps r here)) id c)

-- so are the clauses of the first steps
pub AreClausesOver-take : (n k : ℕ) (steps : List ToldStep) → AreClausesOver n steps → AreClausesOver n (take k steps)
AreClausesOver-take n k steps over s here = over s (Contains-take k steps s here)

-- pivots of steps that stand on one another are variables of their clauses
StandsOn-over : (n : ℕ) (before : List ToldStep) (c : Clause) (origin : Origin) → AreClausesOver n before → StandsOn before c origin → IsOverOrigin n origin
StandsOn-over n before c (Original part) over stands = tt
StandsOn-over n before c (Derived first rest) over stands =
    let told = clause_told-over n before over in
    IsChain-over n (clause_told before) stands.start rest c told (told first stands.start stands.start_is) stands.chain

pub AreStepsOver-stand : (n : ℕ) (steps : List ToldStep) → AreClausesOver n steps → EachStands steps → AreStepsOver n steps
AreStepsOver-stand n steps over stand s (k, within, at) =
    let origin : IsOverOrigin n (get_or steps k s).origin =
    StandsOn-over n (take k steps) (get_or steps k s).literals (get_or steps k s).origin (AreClausesOver-take n k steps over) (stand k s within) in
    (over s (k, within, at), subst (λ (r : ToldStep). IsOverOrigin n r.origin) at origin)

-- a clause with the same literals is over as many variables
pub IsOver-same : (n : ℕ) (c d : Clause) → IsOver n c → SameLiterals c d → IsOver n d
IsOver-same n c d over same = IsOver-each n d (λ l here. IsOver-contains n c l over ((same l).1 here))

-- what a chain gives is over as many as its antecedents
pub IsChain-last : (n : ℕ) (f : ℕ → Option Clause) (c : Clause) (rest : List ChainStep) (last : Clause) → ((x : ℕ) (d : Clause) → f x ≡ Some d → IsOver n d) → IsOver n c → IsChain f c rest last → IsOver n last
IsChain-last n f c [] last over first h = IsOver-same n c last first h
IsChain-last n f c (s ∷ rest) last over first (d, r, is, resolved, more) = IsChain-last n f r rest last over (IsResolvent-over n s.pivot c d r first (over s.antecedent d is) resolved) more

-- where the originals are over n variables, all steps are
module _ (n : ℕ) (steps : List ToldStep) (stand : EachStands steps) (originals : (s : ToldStep) → Contains steps s → IsOriginal s.origin → IsOver n s.literals) where
  over_by_origin : (k : ℕ) (s : ToldStep) (origin : Origin) → s.origin ≡ origin → Contains steps s → AreClausesOver n (take k steps) → StandsOn (take k steps) s.literals origin → IsOver n s.literals
  over_by_origin k s (Original part) is here before stands = originals s here (rw is tt)
  over_by_origin k s (Derived first rest) is here before stands =
      let told = clause_told-over n (take k steps) before in
      IsChain-last n (clause_told (take k steps)) stands.start rest s.literals told (told first stands.start stands.start_is) stands.chain

  over_before : (k : ℕ) → ((j : ℕ) (d : ToldStep) → j < k → j < length steps → IsOver n (get_or steps j d).literals) → AreClausesOver n (take k steps)
  over_before k earlier s (i, within, at) =
      let before : i < k = omega (arith, within, length-take k steps) in
      let inside : i < length steps = omega (arith, within, length-take k steps) in
      let same : get_or steps i s ≡ s = sym (get_or-take k steps i s before) ∙ at in
      subst (λ (r : ToldStep). IsOver n r.literals) same (earlier i s before inside)

  over_up_to : (m k : ℕ) (d : ToldStep) → k < m → k < length steps → IsOver n (get_or steps k d).literals
  over_up_to zero k d below within = absurd (omega (arith, below))
  over_up_to (suc m) k d below within =
      over_by_origin k (get_or steps k d) (get_or steps k d).origin refl (Contains-get_or steps k d within)
      (over_before k (λ j e before inside. over_up_to m j e (omega (arith, below, before)) inside)) (stand k d within)

  pub AreClausesOver-originals : AreClausesOver n steps
  AreClausesOver-originals s (k, within, at) = subst (λ (r : ToldStep). IsOver n r.literals) at (over_up_to (suc k) k s (omega arith) within)

-- the clauses of a list are over n variables one by one
pub AreOver-contains : (n : ℕ) (clauses : List PartClause) (c : PartClause) → AreOver n (bare_clauses clauses) → Contains clauses c → IsOver n c.clause
AreOver-contains n [] c over (k, within, at) = absurd (omega (arith, within))
AreOver-contains n (d ∷ clauses) c over (zero, within, at) = subst (λ (e : PartClause). IsOver n e.clause) at (and_parts _ _ over).0
AreOver-contains n (d ∷ clauses) c over (suc k, within, at) = AreOver-contains n clauses c (and_parts _ _ over).1 (k, omega (arith, within), at)

-- a refutation of clauses of n variables has no others
pub IsRefutationOf-over : (n : ℕ) (clauses : List PartClause) (steps : List ToldStep) (root : ℕ) → AreOver n (bare_clauses clauses) → IsRefutationOf clauses steps root → AreClausesOver n steps
IsRefutationOf-over n clauses steps root over refutes =
    AreClausesOver-originals n steps refutes.stand (λ s here is.
    let original : IsOriginalOf clauses s = refutes.originals s here is in
    IsOver-same n original.source.clause s.literals (AreOver-contains n clauses original.source over original.is_one) original.literals)

-- the clauses of some parts are over as many variables as all of them
over_within-cases : (n : ℕ) (c : PartClause) (rest : List PartClause) (b : Bool) → IsOver n c.clause → AreOver n (bare_clauses rest) → AreOver n (bare_clauses (cond b (c ∷ rest) rest))
over_within-cases n c rest true first later = and_from _ _ first later
over_within-cases n c rest false first later = later

pub AreOver-within : (n : ℕ) (test : ℕ → Bool) (clauses : List PartClause) → AreOver n (bare_clauses clauses) → AreOver n (clauses_within test clauses)
AreOver-within n test [] over = refl
AreOver-within n test (c ∷ clauses) over =
    let parts : IsOver n c.clause × AreOver n (bare_clauses clauses) = and_parts _ _ over in
    over_within-cases n c (filter (λ (d : PartClause). test d.part) clauses) (test c.part) parts.0 (AreOver-within n test clauses parts.1)
