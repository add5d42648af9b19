-- What a tracer was told goes on covering the clauses of a solver.
use Rattle.std.proofs.Common.{◌≡◌, ◌≢◌, ℕ, suc, ◌+◌, ◌<◌, ◌≤◌, Bool, true, false, cond, not, ◌&&◌, ◌||◌, eqb, List, [], ◌∷◌, ◌++◌, get_or, map, All, Contains, Option, Some, None, refl, sym, ap, subst, ◌∙◌, arith, eqb-true, ne_eqb}
use Rattle.std.specs.List.{filter, list_any}
use Rattle.std.specs.Option.{ForSome, option_map, is_some}
use Rattle.std.proofs.lemmas.Bool.{eqb-false}
use Rattle.std.proofs.lemmas.List.Elements.{Contains-get_or}
use Rattle.craig_spec.proofs.ToldLemmas.{clause_told-pushed, clause_told-last, IsUnforgotten-pushed}
use Rattle.craig_spec.proofs.ClauseLemmas.{SameLiterals-trans}
use Rattle.craig_spec.specs.Literal.{Clause}
use Rattle.craig_spec.specs.Chain.{ChainStep, Derived, ToldStep, Told, antecedents, clause_told, forgotten_at, nothing_told, with_step, without_id, IsUnforgotten, IsAbove, GivesSame, ChainOk, StandsOn}
use Rattle.craig_spec.specs.Needed.{Reclaims}
use Rattle.craig_proof.specs.declared.step.Step.{Step}
use Rattle.craig_proof.specs.Tracer.{chain_of, original_step, derived_step, Appends}
use Rattle.craig_proof.specs.Covers.{Covers, IsCovering, IsOldOrNext}
use Rattle.craig_proof.proofs.AppendsLemmas.{before_step, before_forgotten, told_before}
use Rattle.craig_proof.proofs.CallerLemmas.{unforgotten_pushed}
use Rattle.craig_proof.proofs.ChainLemmas.{ChainOk-same}
use Rattle.craig_proof.proofs.ChainGrowthLemmas.{ChainOk-given}
use Rattle.craig_proof.proofs.ToldLemmas.{IsTold-nothing, IsTold-with_step, IsTold-without_id, clause_told-forgotten}
use Rattle.craig_proof.proofs.ReclaimLemmas.{IsTold-reclaims, clause_told-left}

or-left : (b c d : Bool) → (c ≡ true → d ≡ true) → (b || c) ≡ true → (b || d) ≡ true
or-left true c d more h = refl
or-left false c d more h = more h

-- a mark at another id changes nothing
mark-elsewhere : (b : Bool) (id x : ℕ) (s : ToldStep) → eqb s.id id ≡ b → id ≢ x → (eqb (cond b (record { id = s.id; literals = s.literals; origin = s.origin; forgotten = true }) s).id x && not (cond b (record { id = s.id; literals = s.literals; origin = s.origin; forgotten = true }) s).forgotten) ≡ (eqb s.id x && not s.forgotten)
mark-elsewhere true id x s is other = let same : s.id ≡ id = eqb-true s.id id is in rw (ne_eqb s.id x (λ e. other (sym same ∙ e))) refl
mark-elsewhere false id x s is other = refl

IsUnforgotten-elsewhere : (id x : ℕ) (steps : List ToldStep) → id ≢ x → IsUnforgotten steps x → IsUnforgotten (map (forgotten_at id) steps) x
IsUnforgotten-elsewhere id x [] other h = h
IsUnforgotten-elsewhere id x (s ∷ steps) other h =
    rw (mark-elsewhere (eqb s.id id) id x s refl other) (or-left (eqb s.id x && not s.forgotten) (list_any (λ q. eqb q.id x && not q.forgotten) steps) (list_any (λ q. eqb q.id x && not q.forgotten) (map (forgotten_at id) steps)) (IsUnforgotten-elsewhere id x steps other) h)

-- what is left of the steps of an id
left-cases : (p : ToldStep → Bool) (s : ToldStep) (steps : List ToldStep) (x : ℕ) (b q : Bool) → eqb s.id x ≡ q → (s.id ≡ x → b ≡ true) → (q && not s.forgotten || list_any (λ r. eqb r.id x && not r.forgotten) steps) ≡ true → (IsUnforgotten steps x → IsUnforgotten (filter p steps) x) → IsUnforgotten (cond b (s ∷ filter p steps) (filter p steps)) x
left-cases p s steps x true q e passes h later =
    rw e (or-left (q && not s.forgotten) (list_any (λ r. eqb r.id x && not r.forgotten) steps) (list_any (λ r. eqb r.id x && not r.forgotten) (filter p steps)) later h)
left-cases p s steps x false true e passes h later = absurd (let no : false ≡ true = passes (eqb-true s.id x e) in cc)
left-cases p s steps x false false e passes h later = later h

IsUnforgotten-left : (p : ToldStep → Bool) (steps : List ToldStep) (x : ℕ) → ((r : ToldStep) → Contains steps r → r.id ≡ x → p r ≡ true) → IsUnforgotten steps x → IsUnforgotten (filter p steps) x
IsUnforgotten-left p [] x passes h = h
IsUnforgotten-left p (s ∷ steps) x passes h =
    left-cases p s steps x (p s) (eqb s.id x) refl (passes s (0, omega arith, refl)) h (IsUnforgotten-left p steps x (λ r here. passes r (suc here.0, omega (arith, here.1), here.2)))

-- every id that was told is below the next
below-next : (t : Told) (f : ℕ → Option Clause) (given : ℕ) → Covers t f given → All (λ s. s.id < given) t.steps
below-next t f given covers k d w =
    let g = covers.stand.greatest k d w in
    let low : g.0 < given = covers.next g.0 g.1 in
    omega (arith, g.2)

-- nothing was told, and nothing is to be covered
pub Covers-nothing : (f : ℕ → Option Clause) (given : ℕ) → ((id : ℕ) → f id ≡ None) → Covers nothing_told f given
Covers-nothing f given none = record {
  stand = IsTold-nothing;
  next = λ g is. absurd (let no : None ≡ Some g = is in cc);
  same = λ id c is. absurd (let no : None ≡ Some c = sym (none id) ∙ is in cc);
  unforgotten = λ id c is. absurd (let no : None ≡ Some c = sym (none id) ∙ is in cc);
}

-- fewer clauses, with their literals in any order, and more ids
pub Covers-fewer : (t : Told) (f g : ℕ → Option Clause) (given more : ℕ) → Covers t f given → given ≤ more → ((id : ℕ) → GivesSame g f id) → Covers t g more
Covers-fewer t f g given more covers le sub = record {
  stand = covers.stand;
  next = λ n is. let low : n < given = covers.next n is in omega arith;
  same = λ id c is.
      let old = sub id c is in
      let told = covers.same id old.0 old.1 in
      (told.0, told.1, SameLiterals-trans c old.0 told.0 old.2 told.2);
  unforgotten = λ id c is. let old = sub id c is in covers.unforgotten id old.0 old.1;
}

pub IsCovering-fewer : (told : Option Told) (f g : ℕ → Option Clause) (given more : ℕ) → IsCovering told f given → given ≤ more → ((id : ℕ) → GivesSame g f id) → IsCovering told g more
IsCovering-fewer told f g given more covers le sub t is = Covers-fewer t f g given more (covers t is) le sub

-- a step is told under the next id
pushed-same : (b : Bool) (t : Told) (f g : ℕ → Option Clause) (given : ℕ) (s : ToldStep) → Covers t f given → s.id ≡ given → IsOldOrNext f g given s.literals → (id : ℕ) → eqb id given ≡ b → GivesSame g (clause_told (t.steps ++ s ∷ [])) id
pushed-same true t f g given s covers is old id at c found =
    let next : id ≡ given = eqb-true id given at in
    let below : All (λ r. r.id < s.id) t.steps = subst (λ (n : ℕ). All (λ r. r.id < n) t.steps) (sym is) (below-next t f given covers) in
    let last : clause_told (t.steps ++ s ∷ []) id ≡ Some s.literals = ap (clause_told (t.steps ++ s ∷ [])) (next ∙ sym is) ∙ clause_told-last t.steps s below in
    (s.literals, last, old.at_next c (ap g (sym next) ∙ found))
pushed-same false t f g given s covers is old id at c found =
    let was = old.others id (eqb-false id given at) c found in
    let told = covers.same id was.0 was.1 in
    (told.0, clause_told-pushed t.steps s id told.0 told.1, SameLiterals-trans c was.0 told.0 was.2 told.2)

pushed-unforgotten : (b : Bool) (t : Told) (f g : ℕ → Option Clause) (given : ℕ) (s : ToldStep) → Covers t f given → s.id ≡ given → s.forgotten ≡ false → IsOldOrNext f g given s.literals → (id : ℕ) → eqb id given ≡ b → (c : Clause) → g id ≡ Some c → IsUnforgotten (t.steps ++ s ∷ []) id
pushed-unforgotten true t f g given s covers is kept old id at c found =
    subst (IsUnforgotten (t.steps ++ s ∷ [])) (is ∙ sym (eqb-true id given at)) (unforgotten_pushed t.steps s kept)
pushed-unforgotten false t f g given s covers is kept old id at c found =
    let was = old.others id (eqb-false id given at) c found in
    IsUnforgotten-pushed t.steps s id (covers.unforgotten id was.0 was.1)

pub Covers-pushed : (t : Told) (f g : ℕ → Option Clause) (given : ℕ) (s : ToldStep) → Covers t f given → s.id ≡ given → s.forgotten ≡ false → StandsOn t.steps s.literals s.origin → IsOldOrNext f g given s.literals → Covers (with_step t s) g (given + 1)
Covers-pushed t f g given s covers is kept stands old = record {
  stand = IsTold-with_step t s covers.stand (subst (IsAbove t) (sym is) covers.next) stands;
  next = λ n at. let last : s.id ≡ n = (let e : Some s.id ≡ Some n = at in cc) in omega arith;
  same = λ id. pushed-same (eqb id given) t f g given s covers is old id refl;
  unforgotten = λ id. pushed-unforgotten (eqb id given) t f g given s covers is kept old id refl;
}

-- a chain over the clauses that are covered is one over the told steps
pub Covers-chain : (t : Told) (f : ℕ → Option Clause) (given : ℕ) (literals : Clause) (first : ℕ) (rest : List ChainStep) → Covers t f given → ChainOk f literals first rest → ChainOk (clause_told t.steps) literals first rest
Covers-chain t f given literals first rest covers chain = ChainOk-same f (clause_told t.steps) literals first rest (λ x here. covers.same x) chain

-- none of whose antecedents is forgotten
pub Covers-antecedents : (t : Told) (f : ℕ → Option Clause) (given : ℕ) (literals : Clause) (first : ℕ) (rest : List ChainStep) → Covers t f given → ChainOk f literals first rest → All (IsUnforgotten t.steps) (antecedents (Derived first rest))
Covers-antecedents t f given literals first rest covers chain k d w =
    let x : ℕ = get_or (antecedents (Derived first rest)) k d in
    let here : Contains (antecedents (Derived first rest)) x = Contains-get_or (antecedents (Derived first rest)) k d w in
    let c = ChainOk-given f literals first rest chain x here in
    covers.unforgotten x c.0 c.1

pub IsCovering-above : (told : Option Told) (f : ℕ → Option Clause) (given : ℕ) → IsCovering told f given → ForSome told (λ t. IsAbove t given)
IsCovering-above told f given covers t is = (covers t is).next

pub IsCovering-held : (told : Option Told) (f : ℕ → Option Clause) (given id : ℕ) (c : Clause) → IsCovering told f given → f id ≡ Some c → ForSome told (λ t. IsUnforgotten t.steps id)
IsCovering-held told f given id c covers found t is = (covers t is).unforgotten id c found

pub IsCovering-chain : (told : Option Told) (f : ℕ → Option Clause) (given : ℕ) (literals : Clause) (first : ℕ) (rest : List ChainStep) → IsCovering told f given → ChainOk f literals first rest → ForSome told (λ t. ChainOk (clause_told t.steps) literals first rest)
IsCovering-chain told f given literals first rest covers chain t is = Covers-chain t f given literals first rest (covers t is) chain

pub IsCovering-antecedents : (told : Option Told) (f : ℕ → Option Clause) (given : ℕ) (literals : Clause) (first : ℕ) (rest : List ChainStep) → IsCovering told f given → ChainOk f literals first rest → ForSome told (λ t. All (IsUnforgotten t.steps) (antecedents (Derived first rest)))
IsCovering-antecedents told f given literals first rest covers chain t is = Covers-antecedents t f given literals first rest (covers t is) chain

-- the same where the meaning may be told
pub IsCovering-nothing : (told : Option Told) (f : ℕ → Option Clause) (given : ℕ) → ForSome told (λ t. t ≡ nothing_told) → ((id : ℕ) → f id ≡ None) → IsCovering told f given
IsCovering-nothing told f given nothing none t is = subst (λ (u : Told). Covers u f given) (sym (nothing t is)) (Covers-nothing f given none)

pub IsCovering-pushed : (before after : Option Told) (f g : ℕ → Option Clause) (given : ℕ) (s : ToldStep) → IsCovering before f given → Appends before after s → s.id ≡ given → s.forgotten ≡ false → ((t : Told) → before ≡ Some t → StandsOn t.steps s.literals s.origin) → IsOldOrNext f g given s.literals → IsCovering after g (given + 1)
IsCovering-pushed before after f g given s covers appends is kept stands old u at =
    let was = before_step before after s u appends at in
    subst (λ (v : Told). Covers v g (given + 1)) (sym was.2) (Covers-pushed was.0 f g given s (covers was.0 was.1) is kept (stands was.0 was.1) old)

pub IsCovering-original : (before after : Option Told) (f g : ℕ → Option Clause) (given part : ℕ) (literals : Clause) → IsCovering before f given → Appends before after (original_step given part literals) → IsOldOrNext f g given literals → IsCovering after g (given + 1)
IsCovering-original before after f g given part literals covers appends old =
    IsCovering-pushed before after f g given (original_step given part literals) covers appends refl refl (λ t is. tt) old

pub IsCovering-derived : (before after : Option Told) (f g : ℕ → Option Clause) (given : ℕ) (literals : Clause) (first : ℕ) (rest : List Step) → IsCovering before f given → Appends before after (derived_step given literals first rest) → ChainOk f literals first (chain_of rest) → IsOldOrNext f g given literals → IsCovering after g (given + 1)
IsCovering-derived before after f g given literals first rest covers appends chain old =
    IsCovering-pushed before after f g given (derived_step given literals first rest) covers appends refl refl (IsCovering-chain before f given literals first (chain_of rest) covers chain) old

-- an id is forgotten that isn't to be covered
pub Covers-forgotten : (t : Told) (f : ℕ → Option Clause) (given id : ℕ) → Covers t f given → f id ≡ None → Covers (without_id id t) f given
Covers-forgotten t f given id covers none = record {
  stand = IsTold-without_id id t covers.stand;
  next = covers.next;
  same = λ x c found. let told = covers.same x c found in (told.0, clause_told-forgotten id x t.steps ∙ told.1, told.2);
  unforgotten = λ x c found.
      IsUnforgotten-elsewhere id x t.steps (λ e. (let no : None ≡ Some c = sym none ∙ ap f e ∙ found in cc)) (covers.unforgotten x c found);
}

pub IsCovering-forgotten : (before after : Option Told) (f : ℕ → Option Clause) (given id : ℕ) → IsCovering before f given → after ≡ option_map (without_id id) before → f id ≡ None → IsCovering after f given
IsCovering-forgotten before after f given id covers is none u at =
    let was = before_forgotten before after id u is at in
    subst (λ (v : Told). Covers v f given) (sym was.2) (Covers-forgotten was.0 f given id (covers was.0 was.1) none)

-- an id that isn't forgotten stays where steps are given up
pub IsUnforgotten-reclaimed : (t u : Told) (x : ℕ) → Reclaims t u → IsUnforgotten t.steps x → IsUnforgotten u.steps x
IsUnforgotten-reclaimed t u x r alive =
    subst (λ (steps : List ToldStep). IsUnforgotten steps x) (sym r.steps) (IsUnforgotten-left r.kept t.steps x (λ s here is. r.needed s x here alive (λ p root closed. subst (λ (n : ℕ). p n ≡ true) (sym is) root)) alive)

-- steps are given up
pub Covers-reclaimed : (t u : Told) (f : ℕ → Option Clause) (given : ℕ) → Covers t f given → Reclaims t u → Covers u f given
Covers-reclaimed t u f given covers r =
    let left : (x : ℕ) (c : Clause) → f x ≡ Some c → (s : ToldStep) → Contains t.steps s → s.id ≡ x → r.kept s ≡ true = λ x c found s here is.
    r.needed s x here (covers.unforgotten x c found) (λ p root closed. subst (λ (n : ℕ). p n ≡ true) (sym is) root) in
    record {
      stand = IsTold-reclaims t u covers.stand r;
      next = λ n is. covers.next n (sym r.greatest ∙ is);
      same = λ x c found.
          let told = covers.same x c found in
          (told.0, ap (λ (steps : List ToldStep). clause_told steps x) r.steps ∙ clause_told-left r.kept t.steps x (left x c found) ∙ told.1, told.2);
      unforgotten = λ x c found. IsUnforgotten-reclaimed t u x r (covers.unforgotten x c found);
    }

pub IsCovering-reclaimed : (before after : Option Told) (f : ℕ → Option Clause) (given : ℕ) → IsCovering before f given → is_some after ≡ is_some before → ((t : Told) → before ≡ Some t → (u : Told) × (after ≡ Some u) × Reclaims t u) → IsCovering after f given
IsCovering-reclaimed before after f given covers tells reclaims v at =
    let was = told_before before after v tells at in
    let r = reclaims was.0 was.1 in
    let same : r.0 ≡ v = (let e : Some r.0 ≡ Some v = sym r.1 ∙ at in cc) in
    subst (λ (w : Told). Covers w f given) same (Covers-reclaimed was.0 r.0 f given (covers was.0 was.1) r.2)
