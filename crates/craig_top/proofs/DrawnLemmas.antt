-- The one refutation that the interpolants of all cuts are drawn from, over the variables of the script.
use Rattle.std.proofs.Common.{◌≡◌, ◌∙◌, sym, ap, subst, refl, ℕ, ◌<◌, List, [], ◌∷◌, ◌++◌, length, map, ◌≤◌, slice_index, Contains, Some}
use Rattle.std.proofs.lemmas.List.Elements.{Contains-append_right}
use Rattle.std.proofs.lemmas.Option.{same_Some}
use Rattle.craig_spec.specs.Literal.{Clause}
use Rattle.craig_spec.specs.Truth.{Assignment}
use Rattle.craig_spec.specs.Chain.{Told, ToldStep, IsTold, clause_told}
use Rattle.craig_spec.specs.Circuit.{Circuit, circuit_value}
use Rattle.craig_spec.specs.Cut.{PartClause, is_on_side_a, is_on_side_b}
use Rattle.craig_spec.specs.DrawnFromOneRefutation.{HaveRootValues, IsOriginalOf, IsRefutationOf, occurrence_labelling}
use Rattle.craig_spec.specs.Needed.{IsNeeded, IsOriginal, unforgotten}
use Rattle.craig_spec.specs.PartialInterpolant.{Label, Labelling, partial_interpolant}
use Rattle.craig_spec.specs.Sequence.{IsOutputAt}
use Rattle.craig_base.specs.declared.script_part.Part.{Part}
use Rattle.craig_label.specs.Sides.{SidesView}
use Rattle.craig_proof.specs.NeededSteps.{last_id}
use Rattle.craig_aiger.specs.Layouts.{dense_assignment}
use Rattle.craig_itp.specs.Labellings.{cut_value}
use Rattle.craig_system.specs.Rules.{labelling}
use Rattle.craig_top.specs.Named.{AreDifferent, AreClausesOver, bare_clauses, named_part_clause, named_step}
use Rattle.craig_top.specs.RestsOn.{RestsOn}
use Rattle.craig_top.specs.Sides.{AreSidesOf, parted}
use Rattle.craig_top.specs.Values.{AreOver}
use Rattle.craig_top.proofs.DenseLemmas.{Agrees}
use Rattle.craig_spec.proofs.MemberLemmas.{Contains-front}
use Rattle.craig_top.proofs.NamedSidesLemmas.{occurs_within-named}
use Rattle.craig_top.proofs.NamedValuesLemmas.{partial_interpolant-named}
use Rattle.craig_top.proofs.OriginalLemmas.{IsOriginalOf-pair}
use Rattle.craig_top.proofs.OverLemmas.{AreStepsOver-stand, IsRefutationOf-over}

-- the steps are those of the whole that the root needs: they stand on one another, and give the root the values that all give it
pub record IsRefutingPart (t : Told) (root : ℕ) (part : List ToldStep) : Type 0 where
  pub told : IsTold (record { greatest = Some root; steps = part })
  pub from : (s : ToldStep) → Contains part s → (r : ToldStep) × Contains t.steps r × (s ≡ unforgotten r) × IsNeeded t.steps root r.id
  pub ends : last_id part ≡ Some root
  pub clause : clause_told part root ≡ Some []
  pub found : (s : ToldStep) → Contains part s → clause_told part s.id ≡ Some s.literals
  pub values : (l : Labelling) (s : Assignment) → partial_interpolant l part root s ≡ partial_interpolant l t.steps root s

-- the last step, and those before it
split_last : (steps : List ToldStep) (root : ℕ) → last_id steps ≡ Some root → (before : List ToldStep) × (last : ToldStep) × (steps ≡ before ++ last ∷ []) × (last.id ≡ root)
split_last [] root e = cc
split_last (s ∷ []) root e = ([], s, refl, (let same : s.id ≡ root = cc in same))
split_last (s ∷ (r ∷ steps)) root e =
    let found = split_last (r ∷ steps) root e in
    (s ∷ found.0, found.1, ap (λ rs. s ∷ rs) found.2, found.3)

-- a needed original is one of the clauses
module _ (clauses : List (Part × Clause)) (t : Told) (root : ℕ) (rests : RestsOn clauses t root) where
  original_of : (r : ToldStep) → Contains t.steps r → IsOriginal r.origin → IsNeeded t.steps root r.id → IsOriginalOf (parted clauses) (unforgotten r)
  original_of r here is needed =
      let found = rests r here is needed in
      IsOriginalOf-pair clauses found.pair (unforgotten r) found.is_accepted found.part found.literals found.normal.distinct (λ l has other. found.normal.not_tautology (l, has, other))

  -- the needed steps are a refutation of the clauses
  pub IsRefutationOf-part : (part : List ToldStep) → IsRefutingPart t root part → IsRefutationOf (parted clauses) part root
  IsRefutationOf-part part refuting =
      let split = split_last part root refuting.ends in
      let is_last : Contains part split.1 = subst (λ steps. Contains steps split.1) (sym split.2) (Contains-append_right split.0 (split.1 ∷ []) split.1 (Contains-front split.1 [])) in
      record {
        rising = refuting.told.rising;
        stand = refuting.told.stand;
        originals = λ s here is. (let from = refuting.from s here in
            subst (λ r. IsOriginalOf (parted clauses) r) (sym from.2) (original_of from.0 from.1 (subst (λ (r : ToldStep). IsOriginal r.origin) from.2 is) from.3));
        before = split.0;
        last = split.1;
        ends = split.2;
        root_is = split.3;
        empty = same_Some split.1.literals [] (sym (refuting.found split.1 is_last) ∙ ap (clause_told part) split.3 ∙ refuting.clause);
      }

module _ (names : List ℕ) (differ : AreDifferent names) (clauses : List PartClause) (over : AreOver (length names) (bare_clauses clauses)) (sides : SidesView) (are : AreSidesOf clauses sides) where
  module _ (label : ℕ → Label) (marks : ℕ → Label) (agree : (x : ℕ) → x < length names → label x ≡ marks (slice_index names x)) where
    -- at each cut a name has the label that the sides give its variable
    named_labels : (cut x : ℕ) → x < length names → (occurrence_labelling (map (named_part_clause names) clauses) cut marks).label (slice_index names x) ≡ (labelling sides cut label).label x
    named_labels cut x below =
        rw (occurs_within-named names differ clauses over (is_on_side_a cut) x below, occurs_within-named names differ clauses over (is_on_side_b cut) x below, are.in_a cut x, are.in_b cut x, agree x below) refl

    -- the root has at each cut the value that the needed steps give it, named
    module _ (t : Told) (root : ℕ) (part : List ToldStep) (refuting : IsRefutingPart t root part) (refutes : IsRefutationOf clauses part root)
        (agrees : (s : Assignment) → Agrees names (dense_assignment names s) s) where
      pub root_value : (cut : ℕ) (s : Assignment) → cut_value sides label t.steps root cut (dense_assignment names s) ≡ partial_interpolant (occurrence_labelling (map (named_part_clause names) clauses) cut marks) (map (named_step names) part) root s
      root_value cut s =
          let all : AreClausesOver (length names) part = IsRefutationOf-over (length names) clauses part root over refutes in
          sym (refuting.values (labelling sides cut label) (dense_assignment names s))
          ∙ sym (partial_interpolant-named names (occurrence_labelling (map (named_part_clause names) clauses) cut marks) (labelling sides cut label) s (dense_assignment names s)
          (λ p. refl) (named_labels cut) (agrees s) part (AreStepsOver-stand (length names) part all refutes.stand) root)

      -- so have the literals of a circuit
      pub root_values : (cuts : List ℕ) (c : Circuit) (literals : List ℕ)
          → ((place cut l : ℕ) → IsOutputAt cuts literals place cut l → 1 ≤ cut → cut < sides.parts → (s : Assignment) → circuit_value s c l ≡ cut_value sides label t.steps root cut (dense_assignment names s))
          → HaveRootValues (map (named_part_clause names) clauses) sides.parts cuts (map (named_step names) part) root c (record { marks = marks; literals = literals })
      root_values cuts c literals values place cut l is low high s = values place cut l is low high s ∙ root_value cut s
