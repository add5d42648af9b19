-- The reply where there is no model, from the refutation that a store keeps.
use Rattle.std.proofs.Common.{Option, ◌≡◌, ◌∙◌, sym, ap, subst, refl, ℕ, zero, suc, ◌<◌, ◌≤◌, Bool, true, false, List, [], ◌∷◌, ◌++◌, append-nil, codes, length, map, nat_eq, slice_index, All, Contains, Some, get_or, IsTrue, Result, Ok, Err, OnOk, le-leb, arith, inl, inr}
use Rattle.std.proofs.lemmas.Bool.{and_from, and_parts, cases_Bool, eqb-true, eqb-false}
use Rattle.std.proofs.lemmas.List.Elements.{All-contains, All-head, All-tail, Contains-append_cases, Contains-get_or}
use Rattle.craig_spec.specs.Literal.{Clause, Literal}
use Rattle.craig_spec.specs.Truth.{Assignment}
use Rattle.craig_spec.specs.Chain.{IsTold, Told, ToldStep, clause_told}
use Rattle.craig_spec.specs.Circuit.{Circuit, IsCircuit, IsStrict, Output, circuit_cone, circuit_value}
use Rattle.craig_spec.specs.Cut.{AreChosenCuts, PartClause, PartLiteral, is_on_side_a, side_a, with_units}
use Rattle.craig_spec.specs.DimacsText.{greatest_of_clauses}
use Rattle.craig_spec.specs.DrawnFromOneRefutation.{HaveRootValues, IsRefutationOf, occurrence_labelling}
use Rattle.craig_spec.specs.FailedAssumptions.{NamesFailed}
use Rattle.craig_spec.specs.Needed.{IsNeededPart}
use Rattle.craig_spec.specs.PartialInterpolant.{Label, partial_interpolant}
use Rattle.craig_spec.specs.Sequence.{IsOutputAt, IsSequence}
use Rattle.craig_base.specs.declared.script_part.Part.{Part}
use Rattle.craig_label.specs.Sides.{IsSides, SidesView}
use Rattle.craig_aig.specs.declared.node.Node.{Node}
use Rattle.craig_aiger.specs.Layouts.{Layout, circuit_of, dense_assignment}
use Rattle.craig_aiger.specs.RoundTrip.{SameCircuit}
use Rattle.craig_aiger.specs.declared.family.Family.{Family}
use Rattle.craig_aiger.specs.declared.out_name.OutName.{OutName}
use Rattle.craig_itp.specs.Interpolants.{NeededHaveParts}
use Rattle.craig_itp.specs.Labellings.{IsEmptyRoot, cut_value}
use Rattle.craig_itp.specs.PartialValues.{MarksByStrength, OutputsFollow}
use Rattle.craig_search.specs.Verdict.{Assumptions}
use Rattle.craig_script.specs.declared.setting_words.FormatWord.{FormatWord}
use Rattle.craig_script.specs.declared.setting_words.SystemWord.{SystemWord}
use Rattle.craig_top.specs.Blocks.{Block, lined_bytes, printed_output}
use Rattle.craig_top.specs.Formats.{ReadsBack, format_of, greatest_named}
use Rattle.craig_top.specs.GivenState.{ScriptSettings}
use Rattle.craig_top.specs.CutLayout.{IsCutLayout}
use Rattle.craig_top.specs.LastRefutation.{IsRefutationBy}
use Rattle.craig_top.specs.Named.{AreDifferent, bare_clauses, named_part_clause, named_step}
use Rattle.craig_top.specs.Naming.{named_assumptions, named_clause, written}
use Rattle.craig_top.specs.RefutationReply.{AreByStrength, AreNoHigher, SystemLiterals, marked, outputs_at, system_outputs}
use Rattle.craig_top.specs.ReplyTexts.{failed_text, unsatisfiable_text}
use Rattle.craig_top.specs.RestsOn.{RestsOn}
use Rattle.craig_top.specs.Sides.{AreSidesOf, parted, with_assumed}
use Rattle.craig_top.specs.Stored.{HaveNames, stored_state}
use Rattle.craig_top.specs.Values.{AreOver, IsOver}
use Rattle.craig_top.specs.WrittenOutputs.{HasMarks}
use Rattle.craig_top.specs.WrittenSystems.{label_of_mark, systems_of}
use Rattle.craig_top.proofs.CircuitShapeLemmas.{constant_false}
use Rattle.craig_top.proofs.DenseLemmas.{Agrees}
use Rattle.craig_top.proofs.DrawnLemmas.{IsRefutingPart, IsRefutationOf-part, root_value}
use Rattle.craig_top.proofs.NamedRefutationLemmas.{IsRefutationOf-named, parted-named, literals-named, parted-bare, written-assumed}
use Rattle.craig_top.proofs.NotedLemmas.{AreOriginalsOf, AreOriginalsOf-rests}
use Rattle.craig_top.proofs.OutputLemmas.{AreReadOf, inputs-used, outputs-read}
use Rattle.craig_top.proofs.SequenceLemmas.{HasCutValues, IsSequence-laid, inner-value, one_is_true}
use Rattle.craig_top.proofs.SystemsLemmas.{AgreeInTurn, AreReadSystems, IsReadSystem, read_systems, systems-agree}
use Rattle.craig_top.proofs.FormatLemmas.{above-clauses, greatest-with_units, same_as_itself, within-parts}
use Rattle.craig_spec.proofs.MemberLemmas.{Contains-cases, Contains-from_image, Contains-front, Contains-later, Contains-from_slice_get, slice_get-below, slice_get-within}

-- the accepted clauses are over the names
pub over_parted : (names : List ℕ) (accepted : List (Part × Clause)) → HaveNames names accepted → AreOver (length names) (bare_clauses (parted accepted))
over_parted names accepted stored = subst (λ cs. AreOver (length names) cs) (sym (parted-bare accepted)) stored

-- so are the assumptions whose units stand behind them
pub over_failed : (n : ℕ) (accepted : List (Part × Clause)) (failed : Assumptions) → AreOver n (map (λ a. a.1) (with_assumed accepted failed)) → IsOver n (map (λ (a : Part × Literal). a.1) failed)
over_failed n [] [] over = refl
over_failed n [] (a ∷ failed) over = let parts = and_parts _ _ over in and_from _ _ (and_parts _ _ parts.0).0 (over_failed n [] failed parts.1)
over_failed n (c ∷ accepted) failed over = over_failed n accepted failed (and_parts _ _ over).1

-- what the laws say of the outputs of one refutation by any labels
pub cut_values : OutputsFollow → (sides : SidesView) → IsSides sides → (t : Told) (root : ℕ) → IsEmptyRoot t root → NeededHaveParts sides.parts t.steps root → (marks : ℕ → Label) → HasCutValues sides marks t.steps root
cut_values follow sides is_sides t root empty have marks = record {
  implied = follow.implied marks sides t root empty is_sides.parts have;
  refuted = follow.refuted marks sides t root empty is_sides.parts have;
  step = follow.step marks sides t root empty is_sides.parts have;
}

-- an output of systems stands at the place of its cut among those of one of them
output-at : (family : Option Family) (cuts literals : List ℕ) (o : OutName × ℕ) → Contains (outputs_at family cuts literals) o → (place : ℕ) × (cut : ℕ) × IsOutputAt cuts literals place cut o.1
output-at family [] literals o (k, within, at) = absurd (omega (arith, within))
output-at family (cut ∷ cuts) [] o (k, within, at) = absurd (omega (arith, within))
output-at family (cut ∷ cuts) (l ∷ literals) o here = elim (Contains-cases (record { family = family; cut = cut }, l) (outputs_at family cuts literals) o here) [
  | inl first ↦ (0, cut, record { cut_is = refl; literal_is = ap (λ (p : OutName × ℕ). Some p.1) first })
  | inr later ↦ (let found = output-at family cuts literals o later in (suc found.0, found.1, record { cut_is = found.2.cut_is; literal_is = found.2.literal_is }))
]

output-of_system : (cuts : List ℕ) (o : OutName × ℕ) (systems : List SystemLiterals) → Contains (system_outputs cuts systems) o → (y : SystemLiterals) × Contains systems y × (place : ℕ) × (cut : ℕ) × IsOutputAt cuts y.literals place cut o.1
output-of_system cuts o [] (k, within, at) = absurd (omega (arith, within))
output-of_system cuts o (y ∷ systems) here = elim (Contains-append_cases (outputs_at y.system.family cuts y.literals) (system_outputs cuts systems) o here) [
  | inl own ↦ (let found = output-at y.system.family cuts y.literals o own in (y, Contains-front y systems, found.0, found.1, found.2))
  | inr other ↦ (let found = output-of_system cuts o systems other in (found.0, Contains-later y systems found.0 found.1, found.2, found.3, found.4))
]

module _ (names : List ℕ) (differ : AreDifferent names) (accepted : List (Part × Clause)) (failed : Assumptions) (stored : HaveNames names (with_assumed accepted failed)) (sides : SidesView) (are : AreSidesOf (parted (with_assumed accepted failed)) sides)
    (t : Told) (stand : IsTold t) (root : ℕ) (rests : RestsOn (with_assumed accepted failed) t root) (part : List ToldStep) (refuting : IsRefutingPart t root part) (empty : clause_told t.steps root ≡ Some [])
    (values : (marks : ℕ → Label) → HasCutValues sides marks t.steps root) (by_marks : MarksByStrength)
    (agrees : (s : Assignment) → Agrees names (dense_assignment names s) s) (cuts : List ℕ) (chosen : AreChosenCuts sides.parts cuts) where
  -- the dense clauses, and the units of the failed assumptions
  abbrev clauses : List PartClause
  clauses = parted (with_assumed accepted failed)

  -- those of the state, and the named units
  abbrev with_failed : List PartClause
  with_failed = with_units (written names accepted) (named_assumptions names failed)

  as_written : map (named_part_clause names) clauses ≡ with_failed
  as_written = parted-named names (with_assumed accepted failed) ∙ written-assumed names accepted failed

  over : AreOver (length names) (bare_clauses clauses)
  over = over_parted names (with_assumed accepted failed) stored

  originals : AreOriginalsOf clauses t.steps root
  originals = AreOriginalsOf-rests (with_assumed accepted failed) t root rests

  -- the needed steps, named, refute the clauses
  needed_refutation : IsRefutationOf clauses part root
  needed_refutation = IsRefutationOf-part (with_assumed accepted failed) t root rests part refuting

  named_refutation : IsRefutationOf with_failed (map (named_step names) part) root
  named_refutation =
      subst (λ cs. IsRefutationOf cs (map (named_step names) part) root) as_written (IsRefutationOf-named names differ clauses part root over needed_refutation)

  -- the value of the root at a cut by labels of names
  abbrev named_value : (ℕ → Label) → ℕ → Assignment → Bool
  named_value marks cut s = partial_interpolant (occurrence_labelling (map (named_part_clause names) clauses) cut marks) (map (named_step names) part) root s

  -- the labels of the names, given to the dense variables
  abbrev labels_by_name : (ℕ → Label) → ℕ → Label
  labels_by_name marks x = marks (slice_index names x)

  by_name-value : (marks : ℕ → Label) (cut : ℕ) (s : Assignment) → cut_value sides (labels_by_name marks) t.steps root cut (dense_assignment names s) ≡ named_value marks cut s
  by_name-value marks cut s = root_value names differ clauses over sides are (labels_by_name marks) marks (λ x below. refl) t root part refuting needed_refutation agrees cut s

  -- by labels of names that are nowhere higher it implies the one by the others
  named-implies : (low high : ℕ → Label) → AreNoHigher low high → (cut : ℕ) (s : Assignment) → IsTrue (named_value low cut s) → IsTrue (named_value high cut s)
  named-implies low high no_higher cut s holds =
      sym (by_name-value high cut s)
      ∙ by_marks sides cut (labels_by_name low) (labels_by_name high) (λ x. le-leb _ _ (no_higher (slice_index names x))) t stand root empty (dense_assignment names s) (by_name-value low cut s ∙ holds)

  module _ (nodes : List Node) (c : Circuit) where
    -- the literals of a system are a sequence of interpolants
    system_sequence : (y : SystemLiterals) → IsReadSystem names sides t.steps root nodes cuts c y → IsSequence with_failed sides.parts cuts c y.literals
    system_sequence y read =
        subst (λ cs. IsSequence cs sides.parts cuts c y.literals) as_written
        (IsSequence-laid names clauses sides t.steps root read.label over are originals agrees (values read.label) nodes cuts read.edges read.interpolants chosen c y.literals read.literals)

    -- between the outer cuts they have the values of the root
    system_value : (y : SystemLiterals) → IsReadSystem names sides t.steps root nodes cuts c y → (place cut l : ℕ) → IsOutputAt cuts y.literals place cut l → 1 ≤ cut → cut < sides.parts → (s : Assignment) → circuit_value s c l ≡ named_value y.system.marks cut s
    system_value y read place cut l is low high s =
        inner-value names clauses sides t.steps root read.label over are originals agrees (values read.label) nodes cuts read.edges read.interpolants chosen c y.literals read.literals place cut l is low high s
        ∙ root_value names differ clauses over sides are read.label y.system.marks read.marks t root part refuting needed_refutation agrees cut s

    system_values : (y : SystemLiterals) → IsReadSystem names sides t.steps root nodes cuts c y → HaveRootValues with_failed sides.parts cuts (map (named_step names) part) root c (marked y)
    system_values y read =
        subst (λ cs. HaveRootValues cs sides.parts cuts (map (named_step names) part) root c (marked y)) as_written (λ place cut l is low high s. system_value y read place cut l is low high s)

    all_values : (ys : List SystemLiterals) → All (IsReadSystem names sides t.steps root nodes cuts c) ys → All (HaveRootValues with_failed sides.parts cuts (map (named_step names) part) root c) (map marked ys)
    all_values [] each k d within = absurd (omega (arith, within))
    all_values (y ∷ ys) each zero d within = system_values y (All-head (IsReadSystem names sides t.steps root nodes cuts c) y ys each)
    all_values (y ∷ ys) each (suc k) d within = all_values ys (All-tail (IsReadSystem names sides t.steps root nodes cuts c) y ys each) k d (omega (arith, within))

    all_sequences : (ys : List SystemLiterals) → All (IsReadSystem names sides t.steps root nodes cuts c) ys → All (λ (y : SystemLiterals). IsSequence with_failed sides.parts cuts c y.literals) ys
    all_sequences [] each k d within = absurd (omega (arith, within))
    all_sequences (y ∷ ys) each zero d within = system_sequence y (All-head (IsReadSystem names sides t.steps root nodes cuts c) y ys each)
    all_sequences (y ∷ ys) each (suc k) d within = all_sequences ys (All-tail (IsReadSystem names sides t.steps root nodes cuts c) y ys each) k d (omega (arith, within))

    -- the literal of a cut by labels that are nowhere higher implies the one by the others
    implied_at : (y z : SystemLiterals) → IsReadSystem names sides t.steps root nodes cuts c y → IsReadSystem names sides t.steps root nodes cuts c z → AreNoHigher y.system.marks z.system.marks
        → (place cut l m : ℕ) → IsOutputAt cuts y.literals place cut l → IsOutputAt cuts z.literals place cut m → (s : Assignment) → IsTrue (circuit_value s c l) → IsTrue (circuit_value s c m)
    implied_at y z read other no_higher place cut l m at_l at_m s holds = elim (cases_Bool (nat_eq cut 0)) [
      | inl first ↦ (
          let zero_is : cut ≡ 0 = eqb-true cut 0 first in
          let sequence = system_sequence z other in
          ap (λ n. circuit_value s c n) (sequence.first place m (subst (λ n. IsOutputAt cuts z.literals place n m) zero_is at_m)) ∙ one_is_true c s)
      | inr later ↦ elim (cases_Bool (nat_eq cut sides.parts)) [
        | inl last ↦ (
            let parts_is : cut ≡ sides.parts = eqb-true cut sides.parts last in
            let sequence = system_sequence y read in
            let none : l ≡ 0 = sequence.last place l (subst (λ n. IsOutputAt cuts y.literals place n l) parts_is at_l) in
            let no : false ≡ true = sym (ap (λ n. circuit_value s c n) none ∙ constant_false c s) ∙ holds in
            absurd (cc))
        | inr inner ↦ (
            let some : cut ≡ 0 → ⊥ = eqb-false cut 0 later in
            let apart : cut ≡ sides.parts → ⊥ = eqb-false cut sides.parts inner in
            let within = All-contains (λ n. n ≤ sides.parts) cuts cut chosen.within (Contains-from_slice_get cuts place cut at_l.cut_is) in
            let low : 1 ≤ cut = omega (arith, some) in
            let high : cut < sides.parts = omega (arith, apart, within) in
            system_value z other place cut m at_m low high s
            ∙ named-implies y.system.marks z.system.marks no_higher cut s (sym (system_value y read place cut l at_l low high s) ∙ holds))
      ]
    ]

    by_strength : (ys : List SystemLiterals) → All (IsReadSystem names sides t.steps root nodes cuts c) ys → AreByStrength c ys
    by_strength ys each y z is_one is_other no_higher place l m at_l at_m s holds =
        let read = All-contains (IsReadSystem names sides t.steps root nodes cuts c) ys y each is_one in
        let other = All-contains (IsReadSystem names sides t.steps root nodes cuts c) ys z each is_other in
        let within : place < length y.literals = slice_get-below y.literals place l at_l in
        let count = read.literals.count in
        let cut = slice_get-within cuts place (omega (arith, within, count)) in
        implied_at y z read other no_higher place cut.0 l m (record { cut_is = cut.1; literal_is = at_l }) (record { cut_is = cut.1; literal_is = at_m }) s holds

  -- the layout is read back as the outputs of the written systems
  module _ (system : SystemWord) (marks : List (ℕ × Label)) (label : ℕ → Label) (has : HasMarks names marks label) (layout : Layout) (laid : IsCutLayout names sides t.steps root cuts (systems_of system label) layout) where
    read_back : (c : Circuit) → SameCircuit layout c → AreReadSystems names sides t.steps root laid.nodes cuts c (systems_of system (label_of_mark marks)) c.outputs
    read_back c same =
        let groups = laid.system_outputs.groups in
        read_systems names sides t.steps root laid.nodes cuts c groups (systems_of system (label_of_mark marks)) c.outputs
        (subst (λ ds. AgreeInTurn names ds (systems_of system (label_of_mark marks))) (sym laid.system_outputs.systems_are) (systems-agree names system marks label has))
        laid.system_outputs.interpolants
        (subst (λ os. AreReadOf names laid.nodes c os c.outputs) laid.system_outputs.outputs_are (outputs-read names laid.nodes laid.outputs layout laid.laid_out laid.functions c same))

    -- an input of the layout is a variable of the clauses or of a failed assumption
    input-occurs : IsCircuit (circuit_of layout) → (x : ℕ) → Contains layout.inputs x → x ≤ greatest_of_clauses (bare_clauses with_failed)
    input-occurs is_circuit x here =
        let c = circuit_of layout in
        let same = same_as_itself layout is_circuit in
        let read = read_back c same in
        let used = inputs-used names laid.nodes laid.outputs layout laid.laid_out laid.functions c same x here in
        let printed = Contains-from_image printed_output (system_outputs cuts read.systems) used.0 (subst (λ os. Contains os used.0) read.outputs_are used.1) in
        let own = output-of_system cuts printed.0 read.systems printed.1 in
        let y = own.0 in
        let sequence = system_sequence laid.nodes c y (All-contains (IsReadSystem names sides t.steps root laid.nodes cuts c) read.systems y read.each own.1) in
        let shared = (sequence.separate own.2 own.3 printed.0.1 own.4).shared x (subst (λ (o : Output). Contains (circuit_cone c o.literal) x) printed.2 used.2) in
        omega (arith, above-clauses x (side_a with_failed own.3) shared.0, within-parts (is_on_side_a own.3) with_failed)

    -- so no input is above what no variable of theirs is above
    pub inputs-within : (settings : ScriptSettings) (top : ℕ) → IsCircuit (circuit_of layout) → greatest_named (stored_state settings names accepted) (named_assumptions names failed) ≤ top → All (λ x. x ≤ top) layout.inputs
    inputs-within settings top is_circuit named k d within =
        let x = get_or layout.inputs k d in
        let below = input-occurs is_circuit x (Contains-get_or layout.inputs k d within) in
        let same = greatest-with_units (stored_state settings names accepted) (named_assumptions names failed) in
        omega (arith, below, same, named)

    pub refutation_reply : (format : FormatWord) (limit : Option ℕ) (top : ℕ) → IsNeededPart t.steps root part → IsStrict (circuit_of layout) → (printed : List Literal) → printed ≡ named_clause names (map (λ (a : Part × Literal). a.1) failed) → ReadsBack (format_of format top) layout
        → (assumptions : List PartLiteral) → NamesFailed assumptions (named_assumptions names failed)
        → greatest_named (stored_state (record { parts = sides.parts; system = system; marks = marks; cuts = cuts; format = format; limit = limit }) names accepted) assumptions ≡ top
        → IsRefutationBy names t.steps (Some root) (stored_state (record { parts = sides.parts; system = system; marks = marks; cuts = cuts; format = format; limit = limit }) names accepted) assumptions (failed_text printed ++ lined_bytes (codes "a") ((format_of format top).write layout))
    refutation_reply format limit top needed strict printed is_printed reads assumptions names_failed is_top =
        let c = reads.0 in
        let read = read_back c reads.2 in
        let written = (format_of format top).write layout in
        let block : Block = record { letter = codes "a"; format = format_of format top; outputs = system_outputs cuts read.systems; bytes = written } in
        let blocks : List Block = block ∷ [] in (
          record {
            failed = named_assumptions names failed;
            names_failed = names_failed;
            block = block;
            text_is = ap (λ bytes. failed_text printed ++ bytes) (sym (append-nil (lined_bytes (codes "a") written)))
                ∙ ap (λ ls. unsatisfiable_text ls blocks) (is_printed ∙ sym (literals-named names failed));
            gives = record {
              letter = refl;
              format = ap (format_of format) (sym is_top);
              circuit = c;
              is_text = record {
                layout = layout;
                written = refl;
                strict = strict;
                reads = reads.1;
                is_circuit = (reads.2).is_circuit;
                outputs_are = read.outputs_are;
                used = inputs-used names laid.nodes laid.outputs layout laid.laid_out laid.functions c reads.2;
              };
              systems = read.systems;
              outputs_are = refl;
              interpolants = record {
                systems_are = read.systems_are;
                sequences = all_sequences laid.nodes c read.systems read.each;
                strength = by_strength laid.nodes c read.systems read.each;
                drawn = record {
                  steps = map (named_step names) part;
                  root = root;
                  refutes = named_refutation;
                  values = all_values laid.nodes c read.systems read.each;
                };
              };
            };
          },
          record { is_last = refl; part = part; needed = needed; named = refl },
        )

-- a reply that is put, once its text is known to be read back
pub refutation-appended : {T E : Type 0} (r : Result T E) (reads : Type 0) (P : List ℕ → Type 0) (text old new : List ℕ) → (reads → P text) → OnOk r reads → OnOk r (new ≡ old ++ text)
    → OnOk r ((t : List ℕ) × P t × (new ≡ old ++ t))
refutation-appended (Ok x) reads P text old new reply read put = (text, reply read, put)
refutation-appended (Err x) reads P text old new reply read put = tt
