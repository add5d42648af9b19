-- Telling steps again.
use Rattle.std.proofs.Common.{◌≡◌, ℕ, suc, zero, ◌+◌, ◌<◌, Bool, true, false, cond, not, ◌&&◌, ◌||◌, eqb, List, [], ◌∷◌, ◌++◌, length, get_or, take, map, All, Option, Some, None, refl, ap, sym, subst, ◌∙◌, arith}
use Rattle.std.specs.List.{filter, list_any}
use Rattle.std.specs.Option.{ForSome, is_some}
use Rattle.std.proofs.lemmas.List.{get_or_default, take_more}
use Rattle.std.proofs.lemmas.List.Elements.{All-take}
use Rattle.std.proofs.Math.Seq.{take-length}
use Rattle.craig_spec.proofs.ToldLemmas.{StandsOn-given}
use Rattle.craig_spec.specs.Literal.{Clause}
use Rattle.craig_spec.specs.Chain.{Derived, Original, ToldStep, Told, antecedents, clause_told, nothing_told, with_step, IsUnforgotten, IsAbove, StandsOn, EachStands, AreRising}
use Rattle.craig_spec.specs.Needed.{unforgotten}
use Rattle.craig_proof.specs.NeededSteps.{last_id, TellsSteps}
use Rattle.craig_proof.specs.Tracer.{Appends, chain_of, derived_step, original_step}
use Rattle.craig_proof.specs.declared.step.Step.{Step}

-- the steps of the ids that pass, not forgotten
abbrev pub part : (ℕ → Bool) → List ToldStep → List ToldStep
part p steps = map unforgotten (filter (λ s. p s.id) steps)

-- a clause that was told by steps of which none is forgotten is not forgotten
unforgotten_told-cases : (s : ToldStep) (rest : List ToldStep) (x : ℕ) (c : Clause) (b : Bool) → eqb s.id x ≡ b → cond b (Some s.literals) (clause_told rest x) ≡ Some c → s.forgotten ≡ false → (clause_told rest x ≡ Some c → IsUnforgotten rest x) → (b && not s.forgotten || list_any (λ q. eqb q.id x && not q.forgotten) rest) ≡ true
unforgotten_told-cases s rest x c true e h f later = rw f refl
unforgotten_told-cases s rest x c false e h f later = later h

unforgotten_told : (steps : List ToldStep) (x : ℕ) (c : Clause) → All (λ (s : ToldStep). s.forgotten ≡ false) steps → clause_told steps x ≡ Some c → IsUnforgotten steps x
unforgotten_told [] x c all h = absurd (cc)
unforgotten_told (s ∷ steps) x c all h = unforgotten_told-cases s steps x c (eqb s.id x) refl h (all 0 s (omega arith)) (unforgotten_told steps x c (λ k d within. all (suc k) d (omega arith)))

last_id-pushed : (steps : List ToldStep) (s : ToldStep) → last_id (steps ++ s ∷ []) ≡ Some s.id
last_id-pushed [] s = refl
last_id-pushed (r ∷ []) s = refl
last_id-pushed (r ∷ q ∷ steps) s = last_id-pushed (q ∷ steps) s

-- the first steps were told, and nothing else
pub record ToldFirst (steps : List ToldStep) (place : ℕ) (u : Told) : Type 0 where
  pub steps_are : u.steps ≡ take place steps
  pub greatest_is : u.greatest ≡ last_id u.steps
  pub below : (g : ℕ) → u.greatest ≡ Some g → (k : ℕ) × (k < place) × ((d : ToldStep) → (get_or steps k d).id ≡ g)

-- where the meaning is told
pub record IsTellingUpTo (steps : List ToldStep) (place : ℕ) (old new : Option Told) : Type 0 where
  pub tells : is_some new ≡ is_some old
  pub first_told : ForSome new (ToldFirst steps place)

pub IsTelling-nothing : (steps : List ToldStep) (old : Option Told) → ForSome old (λ t. t ≡ nothing_told) → IsTellingUpTo steps 0 old old
IsTelling-nothing steps old nothing = record {
  tells = refl;
  first_told = λ t is. let e = nothing t is in record {
    steps_are = ap (λ (u : Told). u.steps) e;
    greatest_is = rw e refl;
    below = λ g h. absurd (let no : None ≡ Some g = sym (ap (λ (u : Told). u.greatest) e) ∙ h in cc);
  };
}

-- the next step may be told
module _ (steps : List ToldStep) (place : ℕ) (u : Told) (s : ToldStep) (within : place < length steps) (at : get_or steps place s ≡ s) (told : ToldFirst steps place u) where
  pub IsAbove-next : AreRising steps → IsAbove u s.id
  IsAbove-next rising g h =
      let b = told.below g h in
      let up : (get_or steps b.0 s).id < (get_or steps place s).id = rising b.0 place s b.1 within in
      let low : (get_or steps b.0 s).id ≡ g = b.2 s in
      let high : (get_or steps place s).id ≡ s.id = ap (λ (q : ToldStep). q.id) at in
      omega arith

  pub StandsOn-next : EachStands steps → StandsOn u.steps s.literals s.origin
  StandsOn-next stand = rw told.steps_are (rw at at (stand place s within))

  pub IsUnforgotten-next : EachStands steps → All (λ (q : ToldStep). q.forgotten ≡ false) u.steps → All (IsUnforgotten u.steps) (antecedents s.origin)
  IsUnforgotten-next stand all k d inside =
      let x : ℕ = get_or (antecedents s.origin) k d in
      let t = StandsOn-given u.steps s.literals s.origin x (StandsOn-next stand) (k, inside, get_or_default (antecedents s.origin) k x d inside) in
      unforgotten_told u.steps x t.0 all t.1

  pub ToldFirst-next : ToldFirst steps (place + 1) (with_step u s)
  ToldFirst-next = record {
    steps_are = ap (λ (xs : List ToldStep). xs ++ s ∷ []) told.steps_are ∙ rw (take_more steps place s within, at) refl;
    greatest_is = sym (last_id-pushed u.steps s);
    below = λ g h. (place, omega arith, λ d. let e : s.id ≡ g = cc in ap (λ (q : ToldStep). q.id) (get_or_default steps place d s within ∙ at) ∙ e);
  }

-- none of the first steps is forgotten where none of all is
pub unforgotten_first : (steps : List ToldStep) (place : ℕ) (u : Told) → All (λ (q : ToldStep). q.forgotten ≡ false) steps → ToldFirst steps place u → All (λ (q : ToldStep). q.forgotten ≡ false) u.steps
unforgotten_first steps place u all told = rw told.steps_are (All-take (λ (q : ToldStep). q.forgotten ≡ false) place steps all)

-- and none of a part is
pub all_unforgotten : {R : Type 0} (f : R → ToldStep) (rows : List R) → All (λ (q : ToldStep). q.forgotten ≡ false) (map (λ r. unforgotten (f r)) rows)
all_unforgotten f [] k d within = absurd (omega arith)
all_unforgotten f (r ∷ rows) zero d within = refl
all_unforgotten f (r ∷ rows) (suc k) d within = all_unforgotten f rows k d (omega arith)

-- after a step is told
pub IsTelling-told : (steps : List ToldStep) (place : ℕ) (old mid new : Option Told) (s : ToldStep) → place < length steps → get_or steps place s ≡ s → IsTellingUpTo steps place old mid → Appends mid new s → is_some new ≡ is_some mid → IsTellingUpTo steps (place + 1) old new
IsTelling-told steps place old None new s within at telling appends tells = record {
  tells = tells ∙ telling.tells;
  first_told = λ v is. absurd (let no : true ≡ false = rw is at tells in cc);
}
IsTelling-told steps place old (Some t) new s within at telling appends tells = record {
  tells = tells ∙ telling.tells;
  first_told = λ v is.
      let e : new ≡ Some (with_step t s) = appends in
      let same : with_step t s ≡ v = cc in
      subst (ToldFirst steps (place + 1)) same (ToldFirst-next steps place t s within at (telling.first_told t refl));
}

-- at the end
pub IsTelling-done : (steps : List ToldStep) (place : ℕ) (old new : Option Told) → place ≡ length steps → IsTellingUpTo steps place old new → TellsSteps steps old new
IsTelling-done steps place old None is telling t told = absurd (let no : false ≡ is_some old = telling.tells in let yes : is_some old ≡ true = rw told refl in cc)
IsTelling-done steps place old (Some u) is telling t told =
    let all : take place steps ≡ steps = rw (is, take-length) refl in
    let same : u.steps ≡ steps = (telling.first_told u refl).steps_are ∙ all in
    (u, refl, same, (telling.first_told u refl).greatest_is ∙ ap last_id same)

-- the step that is told is the one that is kept
pub told_original : (s : ToldStep) (id part : ℕ) (literals : Clause) → s.id ≡ id → s.literals ≡ literals → s.origin ≡ Original part → unforgotten s ≡ original_step id part literals
told_original s id part literals a b c = λ i. record { id = a i; literals = b i; origin = c i; forgotten = false }

pub told_derived : (s : ToldStep) (id first : ℕ) (literals : Clause) (rest : List Step) → s.id ≡ id → s.literals ≡ literals → s.origin ≡ Derived first (chain_of rest) → unforgotten s ≡ derived_step id literals first rest
told_derived s id first literals rest a b c = λ i. record { id = a i; literals = b i; origin = c i; forgotten = false }
