-- The originals that a refutation rests on, and the sides of their clauses.
use Rattle.std.proofs.Common.{◌≡◌, ◌∙◌, sym, subst, refl, ℕ, ◌<◌, ◌≤◌, Bool, true, false, List, nat_eq, Contains}
use Rattle.craig_spec.specs.Literal.{Literal, Clause}
use Rattle.craig_spec.specs.Occurs.{occurs, occurs_in_clause}
use Rattle.craig_spec.specs.Chain.{Origin, Original, ToldStep, Told, SameLiterals}
use Rattle.craig_spec.specs.Cut.{PartClause, is_on_side_a, side_a, side_b}
use Rattle.craig_spec.specs.Needed.{IsNeeded, IsOriginal}
use Rattle.craig_base.specs.declared.script_part.Part.{Part}
use Rattle.craig_label.specs.Sides.{SidesView, occurs_in_a, occurs_in_b, side_of, side_at}
use Rattle.craig_label.specs.declared.side.Side.TheVariants.{Shared}
use Rattle.craig_itp.specs.Interpolants.{Spans, NeededAreNoted, NeededHaveParts}
use Rattle.craig_top.specs.Named.{bare_clauses}
use Rattle.craig_top.specs.RestsOn.{RestsOn}
use Rattle.craig_top.specs.Sides.{AreSidesOf, parted}
use Rattle.craig_top.specs.Values.{AreOver}
use Rattle.craig_spec.proofs.MemberLemmas.{Contains-image, list_any-more}
use Rattle.craig_top.proofs.NamingLemmas.{occurs-below}
use Rattle.craig_top.proofs.OverLemmas.{AreOver-within}

-- each original that the root needs is one of the clauses, with its part and its literals in any order
abbrev pub AreOriginalsOf : List PartClause → List ToldStep → ℕ → Type 0
AreOriginalsOf clauses steps root = (step : ToldStep) (part : ℕ) → Contains steps step → IsNeeded steps root step.id → step.origin ≡ Original part
    → (c : PartClause) × Contains clauses c × (c.part ≡ part) × SameLiterals c.clause step.literals

-- a step of a part is an original
pub IsOriginal-from : (o : Origin) (part : ℕ) → o ≡ Original part → IsOriginal o
IsOriginal-from o part e = subst IsOriginal (sym e) tt

-- one origin has one part
pub same_part : (o : Origin) (p q : ℕ) → o ≡ Original p → o ≡ Original q → p ≡ q
same_part o p q e f = let h : Original p ≡ Original q = sym e ∙ f in cc

-- where a root rests on clauses, each original that it needs is one of them
pub AreOriginalsOf-rests : (clauses : List (Part × Clause)) (t : Told) (root : ℕ) → RestsOn clauses t root → AreOriginalsOf (parted clauses) t.steps root
AreOriginalsOf-rests clauses t root rests step part here needed is =
    let found = rests step here (IsOriginal-from step.origin part is) needed in (
      record { part = found.pair.0.0; clause = found.pair.1 },
      Contains-image (λ (b : Part × Clause). record { part = b.0.0; clause = b.1 }) clauses found.pair found.is_accepted,
      same_part step.origin found.pair.0.0 part found.part is,
      found.literals,
    )

module _ (clauses : List PartClause) (sides : SidesView) (are : AreSidesOf clauses sides) where
  pub are_noted : (steps : List ToldStep) (root : ℕ) → AreOriginalsOf clauses steps root → NeededAreNoted sides steps root
  are_noted steps root originals step here needed part x is has =
      let found = originals step part here needed is in
      let had : occurs_in_clause x found.0.clause ≡ true = list_any-more (λ (l : Literal). nat_eq x l.var) step.literals found.0.clause (λ l. (found.3 l).1) has in
      subst (Spans sides x) found.2 (are.spanned found.0 x found.1 had)

  pub have_parts : (steps : List ToldStep) (root : ℕ) → AreOriginalsOf clauses steps root → NeededHaveParts sides.parts steps root
  have_parts steps root originals step part here needed is =
      let found = originals step part here needed is in
      subst (λ n. n ≤ sides.parts) found.2 (are.parts found.0 found.1)

  -- a shared variable occurs on both sides
  pub shared_occurs : (cut x : ℕ) → side_at sides cut x ≡ Shared → (occurs x (side_a clauses cut) ≡ true) × (occurs x (side_b clauses cut) ≡ true)
  shared_occurs cut x e =
      let both = shared_sides (occurs_in_a sides cut x) (occurs_in_b sides cut x) e in
      (sym (are.in_a cut x) ∙ both.0, sym (are.in_b cut x) ∙ both.1)
    where
      shared_sides : (a b : Bool) → side_of a b ≡ Shared → (a ≡ true) × (b ≡ true)
      shared_sides true true h = (refl, refl)
      shared_sides true false h = cc
      shared_sides false true h = cc
      shared_sides false false h = cc

  -- so it has a name
  pub shared_named : (n : ℕ) → AreOver n (bare_clauses clauses) → (cut x : ℕ) → side_at sides cut x ≡ Shared → x < n
  shared_named n over cut x e = occurs-below n x (side_a clauses cut) (AreOver-within n (is_on_side_a cut) clauses over) (shared_occurs cut x e).0
