-- Steps that stand on one another, each by itself.
use Rattle.std.proofs.Common.{◌≡◌, ℕ, suc, zero, ◌<◌, Bool, true, false, cond, eqb, List, [], ◌∷◌, length, get_or, take, Contains, Option, Some, None, refl, ap, sym, subst, ◌∙◌, arith, eqb-true, length-take}
use Rattle.std.proofs.lemmas.List.{get_or-take}
use Rattle.craig_spec.specs.Literal.{Clause}
use Rattle.craig_spec.specs.Chain.{ChainStep, Origin, Original, Derived, ToldStep, Told, antecedents, clause_told, IsChain, StandsOn, IsTold}
use Rattle.craig_spec.specs.Needed.{IsNeeded}
use Rattle.craig_spec.proofs.ToldLemmas.{StandsOn-given, clause_told-find}

-- what the first steps tell, all of them tell
more_told-cases : (r : ToldStep) (steps : List ToldStep) (k x : ℕ) (d : Clause) (b : Bool) → cond b (Some r.literals) (clause_told (take k steps) x) ≡ Some d → (clause_told (take k steps) x ≡ Some d → clause_told steps x ≡ Some d) → cond b (Some r.literals) (clause_told steps x) ≡ Some d
more_told-cases r steps k x d true h later = h
more_told-cases r steps k x d false h later = later h

more_told : (steps : List ToldStep) (k x : ℕ) (d : Clause) → clause_told (take k steps) x ≡ Some d → clause_told steps x ≡ Some d
more_told [] zero x d h = h
more_told [] (suc k) x d h = h
more_told (r ∷ steps) zero x d h = absurd (let no : None ≡ Some d = h in cc)
more_told (r ∷ steps) (suc k) x d h = more_told-cases r steps k x d (eqb r.id x) h (more_told steps k x d)

-- a chain over a look-up is one over a look-up that gives more
IsChain-more : (f g : ℕ → Option Clause) (c : Clause) (rest : List ChainStep) (last : Clause) → ((x : ℕ) (d : Clause) → f x ≡ Some d → g x ≡ Some d) → IsChain f c rest last → IsChain g c rest last
IsChain-more f g c [] last more chain = chain
IsChain-more f g c (s ∷ rest) last more (d, r, is, resolved, chain) = (d, r, more s.antecedent d is, resolved, IsChain-more f g r rest last more chain)

StandsOn-more : (before after : List ToldStep) (c : Clause) (origin : Origin) → ((x : ℕ) (d : Clause) → clause_told before x ≡ Some d → clause_told after x ≡ Some d) → StandsOn before c origin → StandsOn after c origin
StandsOn-more before after c (Original part) more h = h
StandsOn-more before after c (Derived first rest) more h = record { start = h.start; start_is = more first h.start h.start_is; chain = IsChain-more (clause_told before) (clause_told after) h.start rest c more h.chain }

-- a clause of the first steps is that of a place among them
told_place-cases : (s : ToldStep) (steps : List ToldStep) (id : ℕ) (c : Clause) (b : Bool) → eqb s.id id ≡ b → cond b (Some s.literals) (clause_told steps id) ≡ Some c → (clause_told steps id ≡ Some c → (k : ℕ) × (k < length steps) × ((d : ToldStep) → (get_or steps k d).id ≡ id)) → (k : ℕ) × (k < length (s ∷ steps)) × ((d : ToldStep) → (get_or (s ∷ steps) k d).id ≡ id)
told_place-cases s steps id c true e h later = (0, omega arith, λ d. eqb-true s.id id e)
told_place-cases s steps id c false e h later = let p = later h in (suc p.0, omega arith, p.2)

told_place : (steps : List ToldStep) (id : ℕ) (c : Clause) → clause_told steps id ≡ Some c → (k : ℕ) × (k < length steps) × ((d : ToldStep) → (get_or steps k d).id ≡ id)
told_place [] id c h = absurd (cc)
told_place (s ∷ steps) id c h = told_place-cases s steps id c (eqb s.id id) refl h (told_place steps id c)

-- a step stands on all of the steps, and its antecedents have lower ids
pub record Stands (steps : List ToldStep) (s : ToldStep) : Type 0 where
  pub stands : StandsOn steps s.literals s.origin
  pub below : (x : ℕ) → Contains (antecedents s.origin) x → x < s.id
  pub given : (x : ℕ) → Contains (antecedents s.origin) x → (r : ToldStep) × Contains steps r × (r.id ≡ x)

pub each_stands : (t : Told) → IsTold t → (s : ToldStep) → Contains t.steps s → Stands t.steps s
each_stands t told s (k, within, at) =
    let here : StandsOn (take k t.steps) s.literals s.origin = subst (λ (q : ToldStep). StandsOn (take k t.steps) q.literals q.origin) at (told.stand k s within) in
    record {
      stands = StandsOn-more (take k t.steps) t.steps s.literals s.origin (more_told t.steps k) here;
      below = λ x ante.
          let d = StandsOn-given (take k t.steps) s.literals s.origin x here ante in
          let p = told_place (take k t.steps) x d.0 d.1 in
          let before : p.0 < k = omega (arith, p.1, length-take k t.steps) in
          let low : (get_or t.steps p.0 s).id ≡ x = sym (ap (λ (q : ToldStep). q.id) (get_or-take k t.steps p.0 s before)) ∙ p.2 s in
          let up : (get_or t.steps p.0 s).id < (get_or t.steps k s).id = told.rising p.0 k s before within in
          let high : (get_or t.steps k s).id ≡ s.id = ap (λ (q : ToldStep). q.id) at in
          omega arith;
      given = λ x ante.
          let d = StandsOn-given (take k t.steps) s.literals s.origin x here ante in
          let r = clause_told-find t.steps x d.0 (more_told t.steps k x d.0 d.1) in
          (r.0, r.1, r.2);
    }

-- what holds of each step where it holds of the antecedents holds of all
up_to : (steps : List ToldStep) (P : ToldStep → Type 0) → ((s : ToldStep) → Contains steps s → Stands steps s) → ((s : ToldStep) → Contains steps s → ((r : ToldStep) → Contains steps r → Contains (antecedents s.origin) r.id → P r) → P s) → (n : ℕ) (s : ToldStep) → Contains steps s → s.id < n → P s
up_to steps P stand claim zero s here low = absurd (omega arith)
up_to steps P stand claim (suc n) s here low = claim s here (λ r there ante. let below = (stand s here).below r.id ante in up_to steps P stand claim n r there (omega arith))

pub by_antecedents : (steps : List ToldStep) (P : ToldStep → Type 0) → ((s : ToldStep) → Contains steps s → Stands steps s) → ((s : ToldStep) → Contains steps s → ((r : ToldStep) → Contains steps r → Contains (antecedents s.origin) r.id → P r) → P s) → (s : ToldStep) → Contains steps s → P s
by_antecedents steps P stand claim s here = up_to steps P stand claim (suc s.id) s here (omega arith)

-- the antecedents of what a root needs are needed
pub needed_antecedent : (steps : List ToldStep) (root : ℕ) (s : ToldStep) (x : ℕ) → Contains steps s → Contains (antecedents s.origin) x → IsNeeded steps root s.id → IsNeeded steps root x
needed_antecedent steps root s x here ante needed p rooted closed = closed s x here (needed p rooted closed) ante
