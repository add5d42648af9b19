-- The interpolants of the cuts of one refutation by one system, as literals of a circuit over the variables of the script.
use Rattle.std.proofs.Common.{◌≡◌, ◌∙◌, refl, sym, ap, subst, ℕ, ◌<◌, ◌≤◌, Bool, true, false, not, cond, List, [], length, map, nat_eq, slice_index, slice_get, Contains, Some, IsTrue, arith, inl, inr}
use Rattle.std.proofs.lemmas.Bool.{cases_Bool, eqb-true, eqb-false}
use Rattle.std.proofs.lemmas.List.Elements.{All-contains}
use Rattle.craig_spec.specs.Truth.{Assignment, IsModel}
use Rattle.craig_spec.specs.Occurs.{Occurs}
use Rattle.craig_spec.specs.Chain.{ToldStep}
use Rattle.craig_spec.specs.Circuit.{Circuit, circuit_cone, circuit_value}
use Rattle.craig_spec.specs.Cut.{PartClause, AreChosenCuts, clauses_between, clauses_within, is_between, is_on_side_a, is_on_side_b, side_a, side_b}
use Rattle.craig_spec.specs.PartialInterpolant.{Label}
use Rattle.craig_spec.specs.Sequence.{IsOutputAt, IsSequence, Separates}
use Rattle.craig_label.specs.Sides.{SidesView}
use Rattle.craig_aig.specs.Cones.{cone}
use Rattle.craig_aig.specs.Edges.{Edge}
use Rattle.craig_aig.specs.declared.node.Node.{Node}
use Rattle.craig_aiger.specs.Layouts.{dense_assignment}
use Rattle.craig_itp.specs.Interpolants.{AreInterpolants}
use Rattle.craig_itp.specs.Labellings.{PartsHold, cut_value, output_value}
use Rattle.craig_top.specs.Named.{bare_clauses, named_part_clause}
use Rattle.craig_top.specs.Sides.{AreSidesOf}
use Rattle.craig_top.specs.Values.{AreOver}
use Rattle.craig_top.proofs.CircuitShapeLemmas.{constant_false, constant_reaches_none, odd_negates, one_reaches_none}
use Rattle.craig_top.proofs.DenseLemmas.{Agrees, holds-within}
use Rattle.craig_spec.proofs.ClauseLemmas.{clause_value-same}
use Rattle.craig_spec.proofs.MemberLemmas.{Contains-from_image, Contains-from_slice_get}
use Rattle.craig_top.proofs.NamedSidesLemmas.{side_a-named, side_b-named}
use Rattle.craig_top.proofs.NamingLemmas.{occurs-named}
use Rattle.craig_top.proofs.NotedLemmas.{AreOriginalsOf, shared_occurs}
use Rattle.craig_top.proofs.OutputLemmas.{IsOutputOf}

-- a model of the clauses of some parts makes the originals of these parts true that the root needs
pub parts_hold : (names : List ℕ) (dense s : Assignment) (test : ℕ → Bool) (clauses : List PartClause) (steps : List ToldStep) (root : ℕ) → Agrees names dense s → AreOver (length names) (bare_clauses clauses) → AreOriginalsOf clauses steps root
    → IsModel s (clauses_within test (map (named_part_clause names) clauses)) → PartsHold test steps root dense
parts_hold names dense s test clauses steps root agrees over originals model step part here needed is passes =
    let found = originals step part here needed is in
    clause_value-same dense found.0.clause step.literals found.3 (holds-within names dense s test clauses agrees over model found.0 found.1 (ap test found.2 ∙ passes))

-- what the laws of a refutation's outputs say of one system
pub record HasCutValues (sides : SidesView) (marks : ℕ → Label) (steps : List ToldStep) (root : ℕ) : Type 0 where
  pub implied : (cut : ℕ) → cut ≤ sides.parts → (s : Assignment) → PartsHold (is_on_side_a cut) steps root s → output_value sides marks steps root cut s ≡ true
  pub refuted : (cut : ℕ) → cut ≤ sides.parts → (s : Assignment) → PartsHold (is_on_side_b cut) steps root s → output_value sides marks steps root cut s ≡ false
  pub step : (cut later : ℕ) → cut < later → later ≤ sides.parts → (s : Assignment) → PartsHold (is_between cut later) steps root s → IsTrue (output_value sides marks steps root cut s) → IsTrue (output_value sides marks steps root later s)

-- the literals of a circuit that one system has for the cuts are those of its edges
pub record AreLiteralsAt (names : List ℕ) (nodes : List Node) (cuts : List ℕ) (edges : List Edge) (c : Circuit) (literals : List ℕ) : Type 0 where
  pub count : length literals ≡ length cuts
  pub each : (k cut l : ℕ) → slice_get cuts k ≡ Some cut → slice_get literals k ≡ Some l → (e : Edge) × (slice_get edges k ≡ Some e) × IsOutputOf names nodes e c l

-- the literal 1 is true
pub one_is_true : (c : Circuit) (s : Assignment) → circuit_value s c 1 ≡ true
one_is_true c s = odd_negates c s 0 ∙ ap not (constant_false c s)

module _ (names : List ℕ) (clauses : List PartClause) (sides : SidesView) (steps : List ToldStep) (root : ℕ) (marks : ℕ → Label)
    (over : AreOver (length names) (bare_clauses clauses)) (are : AreSidesOf clauses sides) (originals : AreOriginalsOf clauses steps root)
    (agrees : (s : Assignment) → Agrees names (dense_assignment names s) s) (values : HasCutValues sides marks steps root)
    (nodes : List Node) (cuts : List ℕ) (edges : List Edge) (interpolants : AreInterpolants sides marks steps root nodes cuts edges) (chosen : AreChosenCuts sides.parts cuts)
    (c : Circuit) (literals : List ℕ) (at : AreLiteralsAt names nodes cuts edges c literals) where
  cut_within : (place cut l : ℕ) → IsOutputAt cuts literals place cut l → cut ≤ sides.parts
  cut_within place cut l is = All-contains (λ n. n ≤ sides.parts) cuts cut chosen.within (Contains-from_slice_get cuts place cut is.cut_is)

  -- the literal of an outer cut is constant
  literal-first : (place l : ℕ) → IsOutputAt cuts literals place 0 l → l ≡ 1
  literal-first place l is =
      let found = at.each place 0 l is.cut_is is.literal_is in
      let edge = (interpolants.each place 0 found.0 is.cut_is found.1).first refl in
      found.2.constant (ap (λ (e : Edge). e.place) edge) ∙ ap (λ (e : Edge). cond e.negated 1 0) edge

  literal-last : (place l : ℕ) → IsOutputAt cuts literals place sides.parts l → l ≡ 0
  literal-last place l is =
      let found = at.each place sides.parts l is.cut_is is.literal_is in
      let edge = (interpolants.each place sides.parts found.0 is.cut_is found.1).last refl in
      found.2.constant (ap (λ (e : Edge). e.place) edge) ∙ ap (λ (e : Edge). cond e.negated 1 0) edge

  -- the literal of a cut has the value of the refutation's output there
  pub cut_literal-value : (place cut l : ℕ) → IsOutputAt cuts literals place cut l → (s : Assignment) → circuit_value s c l ≡ output_value sides marks steps root cut (dense_assignment names s)
  cut_literal-value place cut l is s = elim (cases_Bool (nat_eq cut 0)) [
    | inl first ↦ (
        let zero_is : cut ≡ 0 = eqb-true cut 0 first in
        rw first (ap (λ n. circuit_value s c n) (literal-first place l (subst (λ n. IsOutputAt cuts literals place n l) zero_is is)) ∙ one_is_true c s))
    | inr later ↦ elim (cases_Bool (nat_eq cut sides.parts)) [
      | inl last ↦ (
          let parts_is : cut ≡ sides.parts = eqb-true cut sides.parts last in
          rw (later, last) (ap (λ n. circuit_value s c n) (literal-last place l (subst (λ n. IsOutputAt cuts literals place n l) parts_is is)) ∙ constant_false c s))
      | inr inner ↦ (
          let some : cut ≡ 0 → ⊥ = eqb-false cut 0 later in
          let other : cut ≡ sides.parts → ⊥ = eqb-false cut sides.parts inner in
          let within = cut_within place cut l is in
          let found = at.each place cut l is.cut_is is.literal_is in
          let is_inner = (interpolants.each place cut found.0 is.cut_is found.1).inner (omega (arith, some)) (omega (arith, other, within)) in
          rw (later, inner) (found.2.value s ∙ is_inner.value (dense_assignment names s)))
    ]
  ]

  -- each variable of its cone is on both sides
  cut_literal-shared : (place cut l : ℕ) → IsOutputAt cuts literals place cut l → 1 ≤ cut → cut < sides.parts → (x : ℕ) → Contains (circuit_cone c l) x
      → Occurs x (side_a (map (named_part_clause names) clauses) cut) × Occurs x (side_b (map (named_part_clause names) clauses) cut)
  cut_literal-shared place cut l is low high x h =
      let found = at.each place cut l is.cut_is is.literal_is in
      let is_inner = (interpolants.each place cut found.0 is.cut_is found.1).inner low high in
      let dense = Contains-from_image (slice_index names) (cone nodes found.0) x (found.2.cone_is x h) in
      let both = shared_occurs clauses sides are cut dense.0 (is_inner.inputs dense.0 dense.1) in
      subst (λ y. Occurs y (side_a (map (named_part_clause names) clauses) cut) × Occurs y (side_b (map (named_part_clause names) clauses) cut)) (sym dense.2)
      (rw (side_a-named names clauses cut, side_b-named names clauses cut) (occurs-named names dense.0 (side_a clauses cut) both.0, occurs-named names dense.0 (side_b clauses cut) both.1))

  -- no variable is in the cone of a constant
  shared-all : (place cut l : ℕ) → IsOutputAt cuts literals place cut l → (x : ℕ) → Contains (circuit_cone c l) x
      → Occurs x (side_a (map (named_part_clause names) clauses) cut) × Occurs x (side_b (map (named_part_clause names) clauses) cut)
  shared-all place cut l is x h = elim (cases_Bool (nat_eq cut 0)) [
    | inl first ↦ (
        let zero_is : cut ≡ 0 = eqb-true cut 0 first in
        let one : l ≡ 1 = literal-first place l (subst (λ n. IsOutputAt cuts literals place n l) zero_is is) in
        let none : Contains [] x = subst (λ xs. Contains xs x) (ap (circuit_cone c) one ∙ one_reaches_none c) h in
        absurd (omega (arith, none.1)))
    | inr later ↦ elim (cases_Bool (nat_eq cut sides.parts)) [
      | inl last ↦ (
          let parts_is : cut ≡ sides.parts = eqb-true cut sides.parts last in
          let zero : l ≡ 0 = literal-last place l (subst (λ n. IsOutputAt cuts literals place n l) parts_is is) in
          let none : Contains [] x = subst (λ xs. Contains xs x) (ap (circuit_cone c) zero ∙ constant_reaches_none c) h in
          absurd (omega (arith, none.1)))
      | inr inner ↦ (
          let some : cut ≡ 0 → ⊥ = eqb-false cut 0 later in
          let other : cut ≡ sides.parts → ⊥ = eqb-false cut sides.parts inner in
          let within = cut_within place cut l is in
          cut_literal-shared place cut l is (omega (arith, some)) (omega (arith, other, within)) x h)
    ]
  ]

  -- between the outer cuts it has the value of the root's partial interpolant
  pub inner-value : (place cut l : ℕ) → IsOutputAt cuts literals place cut l → 1 ≤ cut → cut < sides.parts → (s : Assignment) → circuit_value s c l ≡ cut_value sides marks steps root cut (dense_assignment names s)
  inner-value place cut l is low high s =
      let found = at.each place cut l is.cut_is is.literal_is in
      let is_inner = (interpolants.each place cut found.0 is.cut_is found.1).inner low high in
      found.2.value s ∙ is_inner.value (dense_assignment names s)

  separates : (place cut l : ℕ) → IsOutputAt cuts literals place cut l → Separates (map (named_part_clause names) clauses) cut c l
  separates place cut l is = record {
    implied = λ s model. cut_literal-value place cut l is s
        ∙ values.implied cut (cut_within place cut l is) (dense_assignment names s) (parts_hold names (dense_assignment names s) s (is_on_side_a cut) clauses steps root (agrees s) over originals model);
    refuted = λ s model. ap not (cut_literal-value place cut l is s
        ∙ values.refuted cut (cut_within place cut l is) (dense_assignment names s) (parts_hold names (dense_assignment names s) s (is_on_side_b cut) clauses steps root (agrees s) over originals model));
    shared = shared-all place cut l is;
  }

  onward_from : (place later_place cut later l m : ℕ) → IsOutputAt cuts literals place cut l → IsOutputAt cuts literals later_place later m → cut < later
      → (s : Assignment) → IsTrue (circuit_value s c l) → IsModel s (clauses_between (map (named_part_clause names) clauses) cut later) → IsTrue (circuit_value s c m)
  onward_from place later_place cut later l m is then before s holds model =
      cut_literal-value later_place later m then s
      ∙ values.step cut later before (cut_within later_place later m then) (dense_assignment names s)
      (parts_hold names (dense_assignment names s) s (is_between cut later) clauses steps root (agrees s) over originals model) (sym (cut_literal-value place cut l is s) ∙ holds)

  -- the literals are a sequence of interpolants of the clauses as they were written
  pub IsSequence-laid : IsSequence (map (named_part_clause names) clauses) sides.parts cuts c literals
  IsSequence-laid = record {
    chosen = chosen;
    count = at.count;
    first = literal-first;
    last = literal-last;
    separate = separates;
    onward = onward_from;
  }
