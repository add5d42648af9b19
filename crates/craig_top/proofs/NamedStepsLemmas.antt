-- Lists of told steps whose variables are named anew.
use Rattle.std.proofs.Common.{◌≡◌, ℕ, ◌<◌, Bool, true, false, cond, List, [], ◌∷◌, length, get_or, take, map, Option, Some, option_map, refl, ap, ◌∙◌, arith, eqb}
use Rattle.std.proofs.lemmas.List.{get_or-map, length-map, take-map}
use Rattle.craig_spec.specs.Literal.{Clause}
use Rattle.craig_spec.specs.Chain.{Origin, Original, Derived, ToldStep, clause_told, StandsOn, EachStands, AreRising}
use Rattle.craig_top.specs.Named.{named_origin, named_step, AreDifferent, AreClausesOver}
use Rattle.craig_top.specs.Naming.{named_clause}
use Rattle.craig_top.proofs.OverLemmas.{clause_told-over, AreClausesOver-take}
use Rattle.craig_top.proofs.NamedChainLemmas.{ChainOk-named}

-- the ids rise where they did
pub AreRising-named : (names : List ℕ) (steps : List ToldStep) → AreRising steps → AreRising (map (named_step names) steps)
AreRising-named names steps rising i j d before within =
    let inside : j < length steps = omega (arith, within, length-map steps (named_step names)) in
    rw (get_or-map (named_step names) steps i d d (omega (arith, before, inside)), get_or-map (named_step names) steps j d d inside) (rising i j d before inside)

-- the clause that was told under an id is the named one
told-cases : (names : List ℕ) (c : Clause) (rest : Option Clause) (b : Bool) → cond b (Some (named_clause names c)) (option_map (named_clause names) rest) ≡ option_map (named_clause names) (cond b (Some c) rest)
told-cases names c rest true = refl
told-cases names c rest false = refl

pub clause_told-named : (names : List ℕ) (steps : List ToldStep) (id : ℕ) → clause_told (map (named_step names) steps) id ≡ option_map (named_clause names) (clause_told steps id)
clause_told-named names [] id = refl
clause_told-named names (s ∷ steps) id =
    ap (λ rest. cond (eqb s.id id) (Some (named_clause names s.literals)) rest) (clause_told-named names steps id) ∙ told-cases names s.literals (clause_told steps id) (eqb s.id id)

pub clause_told-gives : (names : List ℕ) (steps : List ToldStep) (id : ℕ) (c : Clause) → clause_told steps id ≡ Some c → clause_told (map (named_step names) steps) id ≡ Some (named_clause names c)
clause_told-gives names steps id c e = clause_told-named names steps id ∙ ap (option_map (named_clause names)) e

module _ (names : List ℕ) (differ : AreDifferent names) where
  -- a named clause stands on the named steps
  pub StandsOn-named : (before : List ToldStep) (c : Clause) (origin : Origin) → AreClausesOver (length names) before → StandsOn before c origin → StandsOn (map (named_step names) before) (named_clause names c) (named_origin names origin)
  StandsOn-named before c (Original part) over stands = stands
  StandsOn-named before c (Derived first rest) over stands =
      ChainOk-named names differ (clause_told before) (clause_told (map (named_step names) before)) (clause_told-over (length names) before over) (clause_told-gives names before) c first rest stands

  pub EachStands-named : (steps : List ToldStep) → AreClausesOver (length names) steps → EachStands steps → EachStands (map (named_step names) steps)
  EachStands-named steps over stand k d within =
      let inside : k < length steps = omega (arith, within, length-map steps (named_step names)) in
      rw (get_or-map (named_step names) steps k d d inside, take-map (named_step names) k steps)
      (StandsOn-named (take k steps) (get_or steps k d).literals (get_or steps k d).origin (AreClausesOver-take (length names) k steps over) (stand k d inside))
