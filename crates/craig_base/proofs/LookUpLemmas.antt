-- What the look-ups of an arena give, before and after one clause changes.
use Rattle.std.proofs.Common.{◌≡◌, ◌⊎◌, inl, inr, ℕ, suc, ◌<◌, Bool, true, false, cond, eqb, List, [], ◌∷◌, All, Option, Some, None, IsSome, refl, sym, ap, subst, ◌∙◌, arith, eqb-true, eq-eqb}
use Rattle.std.specs.Option.{option_map, option_map_or}
use Rattle.craig_spec.specs.Literal.{Clause}
use Rattle.craig_base.specs.Arena.{FlaggedClause, LiveClause, ArenaView, IsArena, ChangesOnly, clause_of, clause_at, literals_at, literals_of}

-- the clause with its flags
pub flagged : (o : Option FlaggedClause) (c : Clause) → option_map (λ f. f.literals) o ≡ Some c → (f : FlaggedClause) × (o ≡ Some f) × (f.literals ≡ c)
flagged None c is = absurd (let no : None ≡ Some c = is in cc)
flagged (Some f) c is = (f, refl, let same : Some f.literals ≡ Some c = is in cc)

-- the literals of a live clause
pub live-literals : (o : Option FlaggedClause) → IsSome o → option_map (λ f. f.literals) o ≡ Some (option_map_or (λ f. f.literals) o [])
live-literals None h = absurd (let no : false ≡ true = h in cc)
live-literals (Some f) h = refl

-- an id that is live was given
below-cases : (b : Bool) (e : LiveClause) (cs : List LiveClause) (id n : ℕ) (c : FlaggedClause) → eqb e.id id ≡ b → e.id < n → cond b (Some e.clause) (clause_of cs id) ≡ Some c → (clause_of cs id ≡ Some c → id < n) → id < n
below-cases true e cs id n c is first h later = subst (λ (k : ℕ). k < n) (eqb-true e.id id is) first
below-cases false e cs id n c is first h later = later h

below : (cs : List LiveClause) (id n : ℕ) (c : FlaggedClause) → clause_of cs id ≡ Some c → All (λ e. e.id < n) cs → id < n
below [] id n c h all = absurd (let no : None ≡ Some c = h in cc)
below (e ∷ cs) id n c h all = below-cases (eqb e.id id) e cs id n c refl (all 0 e (omega arith)) h (λ is. below cs id n c is (λ k d w. all (suc k) d (omega arith)))

pub live-below : (a : ArenaView) (id : ℕ) (c : FlaggedClause) → IsArena a → clause_at a id ≡ Some c → id < a.given
live-below a id c ok is = below a.clauses id a.given c is ok.below

pub held-below : (a : ArenaView) (id : ℕ) (c : Clause) → IsArena a → literals_of a id ≡ Some c → id < a.given
held-below a id c ok is = let f = flagged (clause_at a id) c is in live-below a id f.0 ok f.1

-- the literals that are found under the id
at-cases : (o : Option FlaggedClause) (c : Clause) → option_map (λ f. f.literals) o ≡ Some c → option_map_or (λ f. f.literals) o [] ≡ c
at-cases None c is = absurd (let no : None ≡ Some c = is in cc)
at-cases (Some f) c is = let same : Some f.literals ≡ Some c = is in cc

pub literals_at-found : (a : ArenaView) (id : ℕ) (c : Clause) → literals_of a id ≡ Some c → literals_at a id ≡ c
literals_at-found a id c is = at-cases (clause_at a id) c is

-- one clause more, under an id under which nothing was live
added-cases : (b : Bool) (k id : ℕ) (f d : FlaggedClause) (o : Option FlaggedClause) → eqb k id ≡ b → cond b (Some f) o ≡ Some d → ((k ≡ id) × (f ≡ d)) ⊎ (o ≡ Some d)
added-cases true k id f d o e h = inl (eqb-true k id e, let same : Some f ≡ Some d = h in cc)
added-cases false k id f d o e h = inr h

kept-cases : (b : Bool) (a : ArenaView) (k id : ℕ) (f c : FlaggedClause) → eqb k id ≡ b → clause_at a id ≡ None → clause_at a k ≡ Some c → cond b (Some f) (clause_at a k) ≡ Some c
kept-cases true a k id f c e fresh is =
    absurd (let no : None ≡ Some c = sym fresh ∙ ap (clause_at a) (sym (eqb-true k id e)) ∙ is in cc)
kept-cases false a k id f c e fresh is = is

module _ (a b : ArenaView) (id : ℕ) (f : FlaggedClause) (fresh : clause_at a id ≡ None) (only : ChangesOnly a b id (Some f)) where
  pub added-here : clause_at b id ≡ Some f
  added-here = only id ∙ ap (λ (t : Bool). cond t (Some f) (clause_at a id)) (eq-eqb id id refl)

  pub added-kept : (k : ℕ) (c : FlaggedClause) → clause_at a k ≡ Some c → clause_at b k ≡ Some c
  added-kept k c is = only k ∙ kept-cases (eqb k id) a k id f c refl fresh is

  pub added-before : (k : ℕ) (d : FlaggedClause) → clause_at b k ≡ Some d → ((k ≡ id) × (f ≡ d)) ⊎ (clause_at a k ≡ Some d)
  added-before k d is = added-cases (eqb k id) k id f d (clause_at a k) refl (sym (only k) ∙ is)

  pub added-held : (k : ℕ) (d : Clause) → literals_of b k ≡ Some d → ((k ≡ id) × (f.literals ≡ d)) ⊎ (literals_of a k ≡ Some d)
  added-held k d is =
      let g = flagged (clause_at b k) d is in
      elim (added-before k g.0 g.1) [
        | inl new ↦ inl (new.0, ap (λ (h : FlaggedClause). h.literals) new.1 ∙ g.2)
        | inr old ↦ inr (ap (option_map (λ h. h.literals)) old ∙ ap (λ (c : Clause). Some c) g.2)
      ]
