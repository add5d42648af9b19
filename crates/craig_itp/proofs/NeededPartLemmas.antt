-- The values of the steps that a root needs, over these steps alone.
use Rattle.std.proofs.Common.{◌≡◌, ◌↔◌, ℕ, Bool, true, false, cond, eqb, List, [], ◌∷◌, map, Contains, refl, ap, sym, subst, ◌∙◌}
use Rattle.std.specs.List.{filter}
use Rattle.craig_spec.specs.Truth.{Assignment}
use Rattle.craig_spec.specs.Chain.{ToldStep, Told, antecedents, IsTold}
use Rattle.craig_spec.specs.Needed.{IsClosed, IsNeeded, IsNeededPart, unforgotten}
use Rattle.craig_spec.specs.PartialInterpolant.{Labelling, origin_value, partial_values}
use Rattle.craig_spec.proofs.MemberLemmas.{Contains-front, Contains-later}
use Rattle.craig_itp.proofs.StandingLemmas.{each_stands, needed_antecedent}
use Rattle.craig_itp.proofs.PartialValuesLemmas.{origin_value-same, more_values, values_from, values-elsewhere}

-- the steps of the ids that pass, not forgotten
abbrev pub part : (ℕ → Bool) → List ToldStep → List ToldStep
part p steps = map unforgotten (filter (λ q. p q.id) steps)

module _ (l : Labelling) (s : Assignment) (p : ℕ → Bool) where
  -- the same values of the ids that pass
  abbrev Agree : (ℕ → Bool) → (ℕ → Bool) → Type 0
  Agree f g = (x : ℕ) → p x ≡ true → f x ≡ g x

  more-cases : (f g : ℕ → Bool) (r : ToldStep) (x : ℕ) (b : Bool) → eqb x r.id ≡ b → p x ≡ true → origin_value l s f r.literals r.origin ≡ origin_value l s g r.literals r.origin → Agree f g → cond b (origin_value l s f r.literals r.origin) (f x) ≡ cond b (origin_value l s g r.literals r.origin) (g x)
  more-cases f g r x true e on same agree = same
  more-cases f g r x false e on same agree = agree x on

  -- a step that passes
  Agree-more : (f g : ℕ → Bool) (r : ToldStep) → ((x : ℕ) → Contains (antecedents r.origin) x → p x ≡ true) → Agree f g → Agree (more_values l s f r) (more_values l s g (unforgotten r))
  Agree-more f g r antecedents_on agree x on =
      more-cases f g r x (eqb x r.id) refl on (origin_value-same l s f g r.literals r.origin (λ y ante. agree y (antecedents_on y ante))) agree

  -- one that doesn't
  Agree-skip : (f g : ℕ → Bool) (r : ToldStep) → p r.id ≡ false → Agree f g → Agree (more_values l s f r) g
  Agree-skip f g r off agree x on =
      values-elsewhere l s f r x (λ e. let no : true ≡ false = sym on ∙ ap p e ∙ off in absurd (cc)) ∙ agree x on

  part-cases : (f g : ℕ → Bool) (r : ToldStep) (rest : List ToldStep) (b : Bool) → p r.id ≡ b → (p r.id ≡ true → (x : ℕ) → Contains (antecedents r.origin) x → p x ≡ true) → ((f g : ℕ → Bool) → Agree f g → Agree (values_from l s f rest) (values_from l s g (part p rest))) → Agree f g → Agree (values_from l s f (r ∷ rest)) (values_from l s g (map unforgotten (cond b (r ∷ filter (λ q. p q.id) rest) (filter (λ q. p q.id) rest))))
  part-cases f g r rest true on closed later agree = later (more_values l s f r) (more_values l s g (unforgotten r)) (Agree-more f g r (closed on) agree)
  part-cases f g r rest false off closed later agree = later (more_values l s f r) g (Agree-skip f g r off agree)

  Agree-part : (steps : List ToldStep) (f g : ℕ → Bool) → IsClosed steps p → Agree f g → Agree (values_from l s f steps) (values_from l s g (part p steps))
  Agree-part [] f g closed agree = agree
  Agree-part (r ∷ rest) f g closed agree =
      part-cases f g r rest (p r.id) refl (λ on x ante. closed r x (Contains-front r rest) on ante) (λ h k same. Agree-part rest h k (λ q x here. closed q x (Contains-later r rest q here)) same) agree

  -- an id of no step has the value that it had
  none-cases : (f g : ℕ → Bool) (r : ToldStep) (rest : List ToldStep) (x : ℕ) (b : Bool) → (x ≡ r.id → ⊥) → ((f g : ℕ → Bool) → f x ≡ g x → values_from l s f rest x ≡ values_from l s g (part p rest) x) → f x ≡ g x → values_from l s f (r ∷ rest) x ≡ values_from l s g (map unforgotten (cond b (r ∷ filter (λ q. p q.id) rest) (filter (λ q. p q.id) rest))) x
  none-cases f g r rest x true other later same =
      later (more_values l s f r) (more_values l s g (unforgotten r)) (values-elsewhere l s f r x other ∙ same ∙ sym (values-elsewhere l s g (unforgotten r) x other))
  none-cases f g r rest x false other later same = later (more_values l s f r) g (values-elsewhere l s f r x other ∙ same)

  none-part : (steps : List ToldStep) (f g : ℕ → Bool) (x : ℕ) → ((q : ToldStep) → Contains steps q → q.id ≡ x → ⊥) → f x ≡ g x → values_from l s f steps x ≡ values_from l s g (part p steps) x
  none-part [] f g x none same = same
  none-part (r ∷ rest) f g x none same =
      none-cases f g r rest x (p r.id) (λ e. none r (Contains-front r rest) (sym e)) (λ h k e. none-part rest h k x (λ q here. none q (Contains-later r rest q here)) e) same

-- what is needed is closed
IsClosed-needed : (t : Told) (root : ℕ) (p : ℕ → Bool) → IsTold t → ((q : ToldStep) → Contains t.steps q → (p q.id ≡ true) ↔ IsNeeded t.steps root q.id) → IsClosed t.steps p
IsClosed-needed t root p told needed q x here on ante =
    let r = (each_stands t told q here).given x ante in
    let need : IsNeeded t.steps root x = needed_antecedent t.steps root q x here ante ((needed q here).0 on) in
    subst (λ (y : ℕ). p y ≡ true) r.2 ((needed r.0 r.1).1 (subst (λ (y : ℕ). IsNeeded t.steps root y) (sym r.2) need))

part-value : (l : Labelling) (s : Assignment) (t : Told) (root id : ℕ) (p : ℕ → Bool) (b : Bool) → IsTold t → ((q : ToldStep) → Contains t.steps q → (p q.id ≡ true) ↔ IsNeeded t.steps root q.id) → IsNeeded t.steps root id → p id ≡ b → partial_values l s t.steps id ≡ partial_values l s (part p t.steps) id
unfolding partial_values
part-value l s t root id p true told needed need on = Agree-part l s p t.steps (λ x. false) (λ x. false) (IsClosed-needed t root p told needed) (λ x e. refl) id on
part-value l s t root id p false told needed need off =
    none-part l s p t.steps (λ x. false) (λ x. false) id (λ q here same.
    let on : p q.id ≡ true = (needed q here).1 (subst (λ (y : ℕ). IsNeeded t.steps root y) (sym same) need) in
    let no : true ≡ false = sym on ∙ ap p same ∙ off in
    absurd (cc)) refl

-- a root's needed steps have the same values by themselves
pub partial_values-needed : (l : Labelling) (s : Assignment) (t : Told) → IsTold t → (root : ℕ) (steps : List ToldStep) → IsNeededPart t.steps root steps → (id : ℕ) → IsNeeded t.steps root id → partial_values l s steps id ≡ partial_values l s t.steps id
partial_values-needed l s t told root steps (p, needed, is) id need =
    ap (λ (xs : List ToldStep). partial_values l s xs id) is ∙ sym (part-value l s t root id p (p id) told needed need refl)
