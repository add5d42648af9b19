-- The values of partial interpolants, one step after the other.
use Rattle.std.proofs.Common.{inl, inr, ◌≡◌, ◌≢◌, ℕ, suc, zero, ◌<◌, Bool, true, false, cond, eqb, List, [], ◌∷◌, length, get_or, map, Contains, refl, ap, sym, subst, ◌∙◌, arith, eq-eqb, ne_eqb}
use Rattle.std.specs.List.{filter, fold}
use Rattle.std.proofs.lemmas.List.Sums.{fold_push}
use Rattle.craig_spec.specs.Literal.{Clause}
use Rattle.craig_spec.specs.Truth.{Assignment, literal_value}
use Rattle.craig_spec.specs.Chain.{ChainStep, Origin, Original, Derived, ToldStep, Told, antecedents, forgotten_at, with_step, without_id, AreRising, IsTold}
use Rattle.craig_spec.specs.Needed.{Reclaims}
use Rattle.craig_spec.specs.PartialInterpolant.{Labelling, join_value, chain_value, origin_value, with_value, partial_values}
use Rattle.craig_spec.proofs.MemberLemmas.{Contains-cases, Contains-front, Contains-later}
use Rattle.craig_itp.specs.Labellings.{MeetsRules, IsSameStep, AreStepsOf}
use Rattle.craig_itp.proofs.StandingLemmas.{each_stands, by_antecedents}

module _ (l : Labelling) (s : Assignment) where
  -- the value of a clause looks at no other values than those of its antecedents
  chain_value-same : (f g : ℕ → Bool) (left : Bool) (rest : List ChainStep) → ((x : ℕ) → Contains (map (λ q. q.antecedent) rest) x → f x ≡ g x) → chain_value l.label s f left rest ≡ chain_value l.label s g left rest
  chain_value-same f g left [] same = refl
  chain_value-same f g left (q ∷ rest) same =
      let ids : List ℕ = map (λ r. r.antecedent) rest in
      ap (λ b. chain_value l.label s f (join_value (l.label q.pivot.var) (literal_value s q.pivot) left b) rest) (same q.antecedent (Contains-front q.antecedent ids)) ∙ chain_value-same f g (join_value (l.label q.pivot.var) (literal_value s q.pivot) left (g q.antecedent)) rest (λ x here. same x (Contains-later q.antecedent ids x here))

  pub origin_value-same : (f g : ℕ → Bool) (c : Clause) (o : Origin) → ((x : ℕ) → Contains (antecedents o) x → f x ≡ g x) → origin_value l s f c o ≡ origin_value l s g c o
  origin_value-same f g c (Original part) same = refl
  origin_value-same f g c (Derived first rest) same =
      let ids : List ℕ = map (λ r. r.antecedent) rest in
      ap (λ b. chain_value l.label s f b rest) (same first (Contains-front first ids)) ∙ chain_value-same f g (g first) rest (λ x here. same x (Contains-later first ids x here))

  -- the values with one step more
  abbrev pub more_values : (ℕ → Bool) → ToldStep → ℕ → Bool
  more_values value r = with_value value r.id (origin_value l s value r.literals r.origin)

  abbrev pub values_from : (ℕ → Bool) → List ToldStep → ℕ → Bool
  values_from value steps = fold more_values value steps

  pub values-here : (value : ℕ → Bool) (r : ToldStep) → more_values value r r.id ≡ origin_value l s value r.literals r.origin
  values-here value r = rw (eq-eqb r.id r.id refl) refl

  pub values-elsewhere : (value : ℕ → Bool) (r : ToldStep) (x : ℕ) → (x ≡ r.id → ⊥) → more_values value r x ≡ value x
  values-elsewhere value r x other = rw (ne_eqb x r.id other) refl

  -- steps of greater ids change nothing
  values-below : (value : ℕ → Bool) (steps : List ToldStep) (x : ℕ) → ((j : ℕ) (d : ToldStep) → j < length steps → x < (get_or steps j d).id) → values_from value steps x ≡ value x
  values-below value [] x above = refl
  values-below value (r ∷ rest) x above =
      let here : x < r.id = above 0 r (omega arith) in
      values-below (more_values value r) rest x (λ j d within. above (suc j) d (omega arith)) ∙ values-elsewhere value r x (λ e. omega arith)

  values-first : (value : ℕ → Bool) (r : ToldStep) (rest : List ToldStep) → AreRising (r ∷ rest) → ((x : ℕ) → Contains (antecedents r.origin) x → x < r.id) → values_from value (r ∷ rest) r.id ≡ origin_value l s (values_from value (r ∷ rest)) r.literals r.origin
  values-first value r rest rising below =
      values-below (more_values value r) rest r.id (λ j d within. rising 0 (suc j) d (omega arith) (omega arith)) ∙ values-here value r ∙ origin_value-same value (values_from value (r ∷ rest)) r.literals r.origin (λ x ante.
      let low = below x ante in
      sym (values-below (more_values value r) rest x (λ j d within. let up : r.id < (get_or rest j d).id = rising 0 (suc j) d (omega arith) (omega arith) in omega arith) ∙ values-elsewhere value r x (λ e. omega arith)))

  -- the value of each step is that of its origin
  values-at : (value : ℕ → Bool) (steps : List ToldStep) (k : ℕ) (q : ToldStep) → AreRising steps → k < length steps → get_or steps k q ≡ q → ((x : ℕ) → Contains (antecedents q.origin) x → x < q.id) → values_from value steps q.id ≡ origin_value l s (values_from value steps) q.literals q.origin
  values-at value [] k q rising within at below = absurd (omega arith)
  values-at value (r ∷ rest) zero q rising within at below =
      subst (λ (p : ToldStep). ((x : ℕ) → Contains (antecedents p.origin) x → x < p.id) → values_from value (r ∷ rest) p.id ≡ origin_value l s (values_from value (r ∷ rest)) p.literals p.origin) at (values-first value r rest rising) below
  values-at value (r ∷ rest) (suc k) q rising within at below =
      values-at (more_values value r) rest k q (λ i j d before inside. rising (suc i) (suc j) d (omega arith) (omega arith)) (omega arith) at below

  pub MeetsRules-partial_values : (t : Told) → IsTold t → MeetsRules l s t.steps (partial_values l s t.steps)
  unfolding partial_values
  MeetsRules-partial_values t told q here = values-at (λ id. false) t.steps here.0 q told.rising here.1 here.2 (each_stands t told q here).below

  rules-same_step : (f : ℕ → Bool) (q r : ToldStep) → IsSameStep q r → f r.id ≡ origin_value l s f r.literals r.origin → f q.id ≡ origin_value l s f q.literals q.origin
  rules-same_step f q r same rule = rw (same.id, same.literals, same.origin) rule

  -- two lists of values that meet the rules agree, where the steps of the one are steps of the other
  pub MeetsRules-same : (t u : Told) (f g : ℕ → Bool) → IsTold u → AreStepsOf u.steps t.steps → MeetsRules l s t.steps f → MeetsRules l s u.steps g → (q : ToldStep) → Contains u.steps q → f q.id ≡ g q.id
  MeetsRules-same t u f g told steps one two =
      by_antecedents u.steps (λ q. f q.id ≡ g q.id) (each_stands u told) (λ q here earlier.
      let r = steps q here in
      let f_is : f q.id ≡ origin_value l s f q.literals q.origin = rules-same_step f q r.0 r.2 (one r.0 r.1) in
      f_is ∙ origin_value-same f g q.literals q.origin (λ x ante.
      let p = (each_stands u told q here).given x ante in
      subst (λ (y : ℕ). f y ≡ g y) p.2 (earlier p.0 p.1 (subst (λ (y : ℕ). Contains (antecedents q.origin) y) (sym p.2) ante))) ∙ sym (two q here))

  -- one step more
  partial_values-pushed : (t : Told) (q : ToldStep) → partial_values l s (with_step t q).steps ≡ more_values (partial_values l s t.steps) q
  unfolding partial_values
  partial_values-pushed t q = fold_push more_values (λ id. false) t.steps q

  pub partial_values-new : (t : Told) (q : ToldStep) → partial_values l s (with_step t q).steps q.id ≡ origin_value l s (partial_values l s t.steps) q.literals q.origin
  partial_values-new t q = ap (λ (f : ℕ → Bool). f q.id) (partial_values-pushed t q) ∙ values-here (partial_values l s t.steps) q

  pub partial_values-old : (t : Told) (q : ToldStep) (x : ℕ) → x ≢ q.id → partial_values l s (with_step t q).steps x ≡ partial_values l s t.steps x
  partial_values-old t q x other = ap (λ (f : ℕ → Bool). f x) (partial_values-pushed t q) ∙ values-elsewhere (partial_values l s t.steps) q x other

-- one id forgotten
same_values : (l : Labelling) (s : Assignment) (id : ℕ) (value : ℕ → Bool) (q : ToldStep) (b : Bool) → more_values l s value (cond b (record { id = q.id; literals = q.literals; origin = q.origin; forgotten = true }) q) ≡ more_values l s value q
same_values l s id value q true = refl
same_values l s id value q false = refl

values-forgotten : (l : Labelling) (s : Assignment) (id : ℕ) (value : ℕ → Bool) (steps : List ToldStep) → values_from l s value (map (forgotten_at id) steps) ≡ values_from l s value steps
values-forgotten l s id value [] = refl
values-forgotten l s id value (q ∷ steps) =
    ap (λ (f : ℕ → Bool). values_from l s f (map (forgotten_at id) steps)) (same_values l s id value q (eqb q.id id)) ∙ values-forgotten l s id (more_values l s value q) steps

pub partial_values-forgotten : (l : Labelling) (s : Assignment) (t : Told) (id : ℕ) → partial_values l s (without_id id t).steps ≡ partial_values l s t.steps
unfolding partial_values
partial_values-forgotten l s t id = values-forgotten l s id (λ x. false) t.steps

pub MeetsRules-unique : (l : Labelling) (s : Assignment) (t : Told) (value : ℕ → Bool) → IsTold t → MeetsRules l s t.steps value → (q : ToldStep) → Contains t.steps q → value q.id ≡ partial_values l s t.steps q.id
MeetsRules-unique l s t value told rules =
    MeetsRules-same l s t t value (partial_values l s t.steps) told (λ q here. (q, here, record { id = refl; literals = refl; origin = refl })) rules (MeetsRules-partial_values l s t told)

pub partial_values-fewer : (l : Labelling) (s : Assignment) (t u : Told) → IsTold t → IsTold u → AreStepsOf u.steps t.steps → (q : ToldStep) → Contains u.steps q → partial_values l s u.steps q.id ≡ partial_values l s t.steps q.id
partial_values-fewer l s t u told told_too steps q here =
    sym (MeetsRules-same l s t u (partial_values l s t.steps) (partial_values l s u.steps) told_too steps (MeetsRules-partial_values l s t told) (MeetsRules-partial_values l s u told_too) q here)

-- some steps given up
Contains-filter-cases : (p : ToldStep → Bool) (r q : ToldStep) (rest : List ToldStep) (b : Bool) → Contains (cond b (r ∷ filter p rest) (filter p rest)) q → (Contains (filter p rest) q → Contains rest q) → Contains (r ∷ rest) q
Contains-filter-cases p r q rest true here later =
    elim (Contains-cases r (filter p rest) q here) [ inl same ↦ (0, omega arith, same) | inr more ↦ Contains-later r rest q (later more) ]
Contains-filter-cases p r q rest false here later = Contains-later r rest q (later here)

Contains-filter : (p : ToldStep → Bool) (steps : List ToldStep) (q : ToldStep) → Contains (filter p steps) q → Contains steps q
Contains-filter p [] q here = here
Contains-filter p (r ∷ rest) q here = Contains-filter-cases p r q rest (p r) here (Contains-filter p rest q)

pub partial_values-reclaimed : (l : Labelling) (s : Assignment) (before after : Told) → IsTold before → IsTold after → Reclaims before after → (q : ToldStep) → Contains after.steps q → partial_values l s after.steps q.id ≡ partial_values l s before.steps q.id
partial_values-reclaimed l s before after told told_too reclaims =
    partial_values-fewer l s before after told told_too (λ q here. (q, Contains-filter reclaims.kept before.steps q (subst (λ (xs : List ToldStep). Contains xs q) reclaims.steps here), record { id = refl; literals = refl; origin = refl }))
