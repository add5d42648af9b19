-- What is derived by resolution follows.
use Rattle.std.proofs.Common.{◌≡◌, ℕ, suc, zero, ◌<◌, Bool, true, false, cond, not, eqb, List, [], ◌∷◌, length, get_or, take, map, Contains, Option, Some, length-take, refl, ap, sym, ◌∙◌, arith, eqb-true, ◌⊎◌, inl, inr}
use Rattle.std.proofs.lemmas.List.{get_or_default, get_or-take}
use Rattle.craig_spec.proofs.ToldLemmas.{IsNeeded-below}
use Rattle.craig_spec.proofs.MemberLemmas.{Contains-front, Contains-later}
use Rattle.craig_spec.proofs.LiteralLemmas.{same_or_not}
use Rattle.craig_spec.proofs.ClauseLemmas.{clause_value-find, clause_value-member}
use Rattle.craig_spec.specs.Literal.{Literal, Clause, negation}
use Rattle.craig_spec.specs.Truth.{Assignment, literal_value, clause_value, variable_value}
use Rattle.craig_spec.specs.Chain.{ChainStep, Origin, Original, Derived, ToldStep, Told, antecedents, clause_told, IsResolvent, IsChain, ChainOk, StandsOn, IsTold}
use Rattle.craig_spec.specs.Needed.{OriginalsHold, AllFollow}

-- a literal and its negation aren't both true
not_both-signs : (v n : Bool) → cond n (not v) v ≡ true → cond (not n) (not v) v ≡ true → ⊥
not_both-signs true true h k = cc
not_both-signs true false h k = cc
not_both-signs false true h k = cc
not_both-signs false false h k = cc

not_both : (a : Assignment) (l : Literal) → literal_value a l ≡ true → literal_value a (negation l) ≡ true → ⊥
not_both a l h k = not_both-signs (variable_value a l.var) l.negated h k

-- a resolvent is true where both clauses are
resolvent-second : (a : Assignment) (p : Literal) (c d r : Clause) → IsResolvent p c d r → literal_value a p ≡ true → (m : Literal) → Contains d m → literal_value a m ≡ true → (m ≡ negation p) ⊎ (m ≡ negation p → ⊥) → clause_value a r ≡ true
resolvent-second a p c d r resolved pivot m here h (inl same) = absurd (not_both a p pivot (rw same at h))
resolvent-second a p c d r resolved pivot m here h (inr other) = clause_value-member a r m ((resolved.literals m).1 (inr (here, other))) h

resolvent-first : (a : Assignment) (p : Literal) (c d r : Clause) → IsResolvent p c d r → clause_value a d ≡ true → (l : Literal) → Contains c l → literal_value a l ≡ true → (l ≡ p) ⊎ (l ≡ p → ⊥) → clause_value a r ≡ true
resolvent-first a p c d r resolved second l here h (inl same) =
    let t = clause_value-find a d second in resolvent-second a p c d r resolved (rw same at h) t.0 t.1 t.2 (same_or_not t.0 (negation p))
resolvent-first a p c d r resolved second l here h (inr other) = clause_value-member a r l ((resolved.literals l).1 (inl (here, other))) h

resolvent_true : (a : Assignment) (p : Literal) (c d r : Clause) → IsResolvent p c d r → clause_value a c ≡ true → clause_value a d ≡ true → clause_value a r ≡ true
resolvent_true a p c d r resolved first second =
    let t = clause_value-find a c first in resolvent-first a p c d r resolved second t.0 t.1 t.2 (same_or_not t.0 p)

-- so is what a chain gives
chain_true : (a : Assignment) (f : ℕ → Option Clause) (c : Clause) (rest : List ChainStep) (last : Clause) → IsChain f c rest last → ((x : ℕ) (d : Clause) → Contains (map (λ s. s.antecedent) rest) x → f x ≡ Some d → clause_value a d ≡ true) → clause_value a c ≡ true → clause_value a last ≡ true
chain_true a f c [] last chain known h =
    let t = clause_value-find a c h in clause_value-member a last t.0 ((chain t.0).0 t.1) t.2
chain_true a f c (s ∷ rest) last (d, r, e, resolved, more) known h =
    let second : clause_value a d ≡ true = known s.antecedent d (Contains-front s.antecedent (map (λ q. q.antecedent) rest)) e in
    chain_true a f r rest last more (λ x b here is. known x b (Contains-later s.antecedent (map (λ q. q.antecedent) rest) x here) is) (resolvent_true a s.pivot c d r resolved h second)

-- a chain's clause is true where those of its antecedents are
pub ChainOk-true : (f : ℕ → Option Clause) (literals : Clause) (first : ℕ) (rest : List ChainStep) → ChainOk f literals first rest → (a : Assignment) → ((x : ℕ) (c : Clause) → Contains (antecedents (Derived first rest)) x → f x ≡ Some c → clause_value a c ≡ true) → clause_value a literals ≡ true
ChainOk-true f literals first rest chain a known =
    let ids : List ℕ = map (λ q. q.antecedent) rest in
    chain_true a f chain.start rest literals chain.chain (λ x c here. known x c (Contains-later first ids x here)) (known first chain.start (Contains-front first ids) chain.start_is)

-- where the clause of an id stands
told_place-cases : (s : ToldStep) (steps : List ToldStep) (id : ℕ) (c : Clause) (b : Bool) → eqb s.id id ≡ b → cond b (Some s.literals) (clause_told steps id) ≡ Some c → (clause_told steps id ≡ Some c → (k : ℕ) × (k < length steps) × ((d : ToldStep) → ((get_or steps k d).id ≡ id) × ((get_or steps k d).literals ≡ c))) → (k : ℕ) × (k < length (s ∷ steps)) × ((d : ToldStep) → ((get_or (s ∷ steps) k d).id ≡ id) × ((get_or (s ∷ steps) k d).literals ≡ c))
told_place-cases s steps id c true e h later = (0, omega arith, λ d. (eqb-true s.id id e, cc))
told_place-cases s steps id c false e h later = let p = later h in (suc p.0, omega arith, p.2)

pub told_place : (steps : List ToldStep) (id : ℕ) (c : Clause) → clause_told steps id ≡ Some c → (k : ℕ) × (k < length steps) × ((d : ToldStep) → ((get_or steps k d).id ≡ id) × ((get_or steps k d).literals ≡ c))
told_place [] id c h = absurd (cc)
told_place (s ∷ steps) id c h = told_place-cases s steps id c (eqb s.id id) refl h (told_place steps id c)

-- the claim at one place
TrueAt : (steps : List ToldStep) (a : Assignment) → ToldStep → Type 0
TrueAt steps a s = OriginalsHold steps s.id a → clause_value a s.literals ≡ true

module _ (steps : List ToldStep) (a : Assignment) (told : (k : ℕ) (d : ToldStep) → k < length steps → StandsOn (take k steps) (get_or steps k d).literals (get_or steps k d).origin) where
  -- the antecedents of a step are true by the claim at earlier places
  antecedents_true : (k : ℕ) (s : ToldStep) → k < length steps → get_or steps k s ≡ s → ((j : ℕ) (d : ToldStep) → j < k → TrueAt steps a (get_or steps j d)) → OriginalsHold steps s.id a → (x : ℕ) (c : Clause) → Contains (antecedents s.origin) x → clause_told (take k steps) x ≡ Some c → clause_value a c ≡ true
  unfolding TrueAt
  antecedents_true k s within at earlier holds x c ante e =
      let p = told_place (take k steps) x c e in
      let before : p.0 < k = omega (arith, p.1, length-take k steps) in
      let same = get_or-take k steps p.0 s before in
      let id_is : (get_or steps p.0 s).id ≡ x = sym (ap (λ (q : ToldStep). q.id) same) ∙ (p.2 s).0 in
      let c_is : (get_or steps p.0 s).literals ≡ c = sym (ap (λ (q : ToldStep). q.literals) same) ∙ (p.2 s).1 in
      let holds_below : OriginalsHold steps (get_or steps p.0 s).id a = λ o here original needed. holds o here original (IsNeeded-below steps s x o.id (k, within, at) ante (rw id_is at needed)) in
      rw (← c_is) (earlier p.0 s before holds_below)

  true_by_origin : (k : ℕ) (s : ToldStep) (origin : Origin) → s.origin ≡ origin → k < length steps → get_or steps k s ≡ s → StandsOn (take k steps) s.literals origin → ((j : ℕ) (d : ToldStep) → j < k → TrueAt steps a (get_or steps j d)) → OriginalsHold steps s.id a → clause_value a s.literals ≡ true
  true_by_origin k s (Original part) is within at stands earlier holds = holds s (k, within, at) (rw is tt) (λ p root closed. root)
  true_by_origin k s (Derived first rest) is within at stands earlier holds =
      let known = antecedents_true k s within at earlier holds in
      let ids : antecedents s.origin ≡ first ∷ map (λ q. q.antecedent) rest = rw is refl in
      let start : clause_value a stands.start ≡ true = known first stands.start (rw ids (Contains-front first (map (λ q. q.antecedent) rest))) stands.start_is in
      chain_true a (clause_told (take k steps)) stands.start rest s.literals stands.chain (λ x c here e. known x c (rw ids (Contains-later first (map (λ q. q.antecedent) rest) x here)) e) start

  true_up_to : (n k : ℕ) (d : ToldStep) → k < n → k < length steps → TrueAt steps a (get_or steps k d)
  unfolding TrueAt
  true_up_to zero k d below within = absurd (omega arith)
  true_up_to (suc n) k d below within = λ holds.
      let at : get_or steps k (get_or steps k d) ≡ get_or steps k d = get_or_default steps k (get_or steps k d) d within in
      true_by_origin k (get_or steps k d) (get_or steps k d).origin refl within at (told k d within) (λ j e before. true_up_to n j e (omega arith) (omega arith)) holds

-- each clause that was told follows from the originals under it
pub AllFollow-told : (t : Told) → IsTold t → AllFollow t.steps
unfolding TrueAt
AllFollow-told t told s a (k, within, at) holds =
    let claim = true_up_to t.steps a told.stand (suc k) k s (omega arith) within in
    rw at at (claim (rw at holds))
