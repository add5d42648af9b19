-- The steps that are left when others are given up.
use Rattle.std.proofs.Common.{◌≡◌, ℕ, suc, zero, ◌<◌, ◌≤◌, Bool, true, false, cond, eqb, List, [], ◌∷◌, length, get_or, take, Contains, Some, refl, ap, arith, eqb-true}
use Rattle.std.specs.List.{filter}
use Rattle.std.proofs.lemmas.List.{get_or_default}
use Rattle.std.proofs.lemmas.List.Elements.{All-filter}
use Rattle.std.proofs.lemmas.List.Kept.{AllPairs-filter}
use Rattle.craig_spec.proofs.MemberLemmas.{Contains-take}
use Rattle.craig_spec.specs.Chain.{ToldStep, Told, antecedents, clause_told, EachStands, IsTold}
use Rattle.craig_spec.specs.Needed.{IsOriginal, Reclaims}
use Rattle.craig_base.specs.Clauses.{IsNormal}
use Rattle.craig_proof.specs.StoredSteps.{IsStore}
use Rattle.craig_proof.proofs.ChainLemmas.{StandsOn-same}

-- where a step stood that is left, and that those before it are what is left of those that were
record LeftAt (p : ToldStep → Bool) (steps left : List ToldStep) (k : ℕ) : Type 0 where
  place : ℕ
  within : place < length steps
  at : (d : ToldStep) → get_or left k d ≡ get_or steps place d
  passes : (d : ToldStep) → p (get_or steps place d) ≡ true
  before : take k left ≡ filter p (take place steps)

left_at-cases : (p : ToldStep → Bool) (s : ToldStep) (steps : List ToldStep) (k : ℕ) (b : Bool) → p s ≡ b → k < length (cond b (s ∷ filter p steps) (filter p steps)) → ((i : ℕ) → i < length (filter p steps) → LeftAt p steps (filter p steps) i) → LeftAt p (s ∷ steps) (cond b (s ∷ filter p steps) (filter p steps)) k
left_at-cases p s steps zero true e within later = record { place = 0; within = omega arith; at = λ d. refl; passes = λ d. e; before = refl }
left_at-cases p s steps (suc k) true e within later =
    let l = later k (omega arith) in
    record { place = suc l.place; within = omega (arith, l.within); at = l.at; passes = l.passes; before = rw e (ap (λ xs. s ∷ xs) l.before) }
left_at-cases p s steps k false e within later =
    let l = later k within in
    record { place = suc l.place; within = omega (arith, l.within); at = l.at; passes = l.passes; before = rw e l.before }

left_at : (p : ToldStep → Bool) (steps : List ToldStep) (k : ℕ) → k < length (filter p steps) → LeftAt p steps (filter p steps) k
left_at p [] k within = absurd (omega arith)
left_at p (s ∷ steps) k within = left_at-cases p s steps k (p s) refl within (left_at p steps)

left_told-cases : (p : ToldStep → Bool) (s : ToldStep) (steps : List ToldStep) (x : ℕ) (b q : Bool) → eqb s.id x ≡ q → (s.id ≡ x → b ≡ true) → clause_told (filter p steps) x ≡ clause_told steps x → clause_told (cond b (s ∷ filter p steps) (filter p steps)) x ≡ cond q (Some s.literals) (clause_told steps x)
left_told-cases p s steps x true q e passes rest = rw (e, rest) refl
left_told-cases p s steps x false true e passes rest = absurd (let no : false ≡ true = passes (eqb-true s.id x e) in cc)
left_told-cases p s steps x false false e passes rest = rest

-- an id whose steps are left has the same clause
pub clause_told-left : (p : ToldStep → Bool) (steps : List ToldStep) (x : ℕ) → ((r : ToldStep) → Contains steps r → r.id ≡ x → p r ≡ true) → clause_told (filter p steps) x ≡ clause_told steps x
clause_told-left p [] x passes = refl
clause_told-left p (s ∷ steps) x passes =
    left_told-cases p s steps x (p s) (eqb s.id x) refl (passes s (0, omega arith, refl)) (clause_told-left p steps x (λ r here. passes r (suc here.0, omega (arith, here.1), here.2)))

pub EachStands-left : (p : ToldStep → Bool) (steps : List ToldStep) → EachStands steps → ((s r : ToldStep) → Contains steps s → Contains steps r → p s ≡ true → Contains (antecedents s.origin) r.id → p r ≡ true) → EachStands (filter p steps)
EachStands-left p steps stand closed k d within =
    let l = left_at p steps k within in
    let s : ToldStep = get_or steps l.place d in
    let here : Contains steps s = (l.place, l.within, get_or_default steps l.place s d l.within) in
    rw (l.at d, l.before) (StandsOn-same (take l.place steps) (filter p (take l.place steps)) s.literals s.origin (λ x ante. clause_told-left p (take l.place steps) x (λ r there is. closed s r here (Contains-take l.place steps r there) (l.passes d) (rw is ante))) (stand l.place d l.within))

-- what is left is a list of steps that each stand on those before it
pub IsTold-reclaims : (t u : Told) → IsTold t → Reclaims t u → IsTold u
IsTold-reclaims t u told r = record {
  rising = rw r.steps (AllPairs-filter (λ q s. q.id < s.id) r.kept t.steps told.rising);
  greatest = rw (r.greatest, r.steps) (All-filter r.kept (λ s. (g : ℕ) × (t.greatest ≡ Some g) × (s.id ≤ g)) t.steps told.greatest);
  stand = rw r.steps (EachStands-left r.kept t.steps told.stand r.closed);
}

-- and what a store keeps
pub IsStore-reclaims : (t u : Told) → IsStore t → Reclaims t u → IsStore u
IsStore-reclaims t u store r = record {
  told = IsTold-reclaims t u store.told r;
  normal = rw r.steps (All-filter r.kept (λ s. IsOriginal s.origin → IsNormal s.literals) t.steps store.normal);
}
