use Rattle.std.proofs.Common.{◌≤◌, ◌≡◌, ◌∙◌, ◌++◌, ℕ, List, Some, OnOk, length, map, ap, arith, refl, subst, sym}
use Rattle.craig_spec.specs.Chain.{Told}
use Rattle.craig_spec.specs.FailedAssumptions.{NamesFailed}
use Rattle.craig_spec.specs.Literal.{Clause}
use Rattle.craig_base.specs.declared.script_part.Part.{Part}
use Rattle.craig_proof.specs.declared.chain_store.ChainStore.{ChainStore}
use Rattle.craig_search.specs.Verdict.{AreFirstPlaces, Assumptions, at_places, units}
use Rattle.craig_solver.specs.Answer.{IsAnswer, accepted_clauses, root_of_answer}
use Rattle.craig_solver.specs.Solver.{SolverView}
use Rattle.craig_solver.specs.Told.{IsRefutation}
use Rattle.craig_spec.specs.Cut.{with_units}
use Rattle.craig_top.specs.Named.{bare_clauses}
use Rattle.craig_top.specs.LastRefutation.{IsSolveReplyBy}
use Rattle.craig_spec.specs.DimacsText.{greatest_of_clauses}
use Rattle.craig_top.specs.Formats.{greatest_named}
use Rattle.craig_top.specs.GivenState.{State}
use Rattle.craig_top.proofs.FormatLemmas.{failed-within, named-top}
use Rattle.craig_top.specs.Naming.{named_assumptions, named_clause}
use Rattle.craig_top.specs.Reply.{assumptions_of}
use Rattle.craig_top.specs.RestsOn.{RestsOn}
use Rattle.std.proofs.lemmas.Result.{on_ok_weaker}
use Rattle.craig_top.specs.Sides.{AreSidesOf, parted, with_assumed}
use Rattle.craig_top.specs.Stored.{HaveNames, given_state, settings_of, stored_state}
use Rattle.craig_top.specs.Values.{IsOver}
use Rattle.craig_top.proofs.AssumptionLemmas.{NamesFailed-named, assuming-named, first_places-within, literals, over-at_places, parts-at_places, parts-within}
use Rattle.craig_top.proofs.NamedChainLemmas.{AreDifferent-from_IsDistinct}
use Rattle.craig_top.proofs.LemmaReplyLemmas.{AreOver-lemmas}
use Rattle.craig_top.proofs.ResultLemmas.{always}
use Rattle.craig_top.proofs.StoredLemmas.{AreStoredTogether-grown, HaveNames-grows, given_state-same, stored_state-grown}
use Rattle.craig_top.proofs.VerdictLemmas.{RestsOn-told, assumed-known, failed-places, failed-told, model-reply, model-stored, refuted-reply, unknown-reply}
use Rattle.craig_top.proofs.stored.Stored.solve.Goals as goal

pub dense_assumptions-requires-clause-parts : goal.dense_assumptions-requires-clause-parts
dense_assumptions-requires-clause-parts c = parts-within c.args.self.now.sides.parts 65535 c.args.pairs.now c.requires.parts (omega (arith, c.parts.type_inv, c.parts.ensures.value))

pub solve-requires-clause-known : goal.solve-requires-clause-known
solve-requires-clause-known c =
    let reached = ap (λ (v : SolverView _). v.vars) c.in_ok-reach.ensures.reached in
    assumed-known (length c.dense_assumptions.new.names) c.reach.new.self.vars c.in_ok-assumptions.assumptions.items c.deref.result.now c.deref.ensures.value c.in_ok-assumptions.ensures.over (omega (arith, reached, c.len.ensures.value))

pub append_values-requires-clause-assumed : goal.append_values-requires-clause-assumed
append_values-requires-clause-assumed c = subst (λ (xs : Assumptions). IsOver (length c.dense_assumptions.new.names) (literals xs)) (sym c.deref-in-Model.ensures.value) c.in_ok-assumptions.ensures.over

pub append_values-requires-clause-values : goal.append_values-requires-clause-values
append_values-requires-clause-values c =
    (model-stored c.args.self.now.choices.limit c.reach.new.self.accepted c.reach.new.self.accepted c.deref.result.now c.deref-in-Model.result.now c.reach.new.self.vars c.args.self.now.solver.vars c.len.result (length c.dense_assumptions.new.names) c.in_ok-answer.answer c.in-Model.values
    refl (c.deref.ensures.value ∙ sym c.deref-in-Model.ensures.value) (ap (λ (v : SolverView _). v.vars) c.in_ok-reach.ensures.reached) c.len.ensures.value
    (omega (arith, c.requires.kept.together.known, c.in_ok-assumptions.ensures.grows.longer)) c.in-Model.is c.in_ok-answer.ensures.solved.answer).0

pub assumptions_at-requires : goal.assumptions_at-requires
assumptions_at-requires c =
    first_places-within c.deref-in-Failed.result.now c.in-Failed.places
    (failed-places c.args.self.now.choices.limit _ _ c.deref.result.now c.deref-in-Failed.result.now c.in_ok-answer.answer c.in-Failed.root c.in-Failed.places (c.deref.ensures.value ∙ sym c.deref-in-Failed.ensures.value) c.in-Failed.is c.in_ok-answer.ensures.solved.answer)

pub refute-requires-clause-kept : goal.refute-requires-clause-kept
refute-requires-clause-kept c =
    let reached = ap (λ (v : SolverView _). v.vars) c.in_ok-reach.ensures.reached in
    record {
      together = AreStoredTogether-grown c.args.self.now.names c.dense_assumptions.new.names c.args.self.now.sides c.args.self.now.solver.accepted c.solve.new.self.accepted c.args.self.now.solver.vars c.solve.new.self.vars c.requires.kept.together c.in_ok-assumptions.ensures.grows
          (c.in_ok-answer.ensures.accepted ∙ c.in_ok-reach.ensures.accepted)
          (omega (arith, c.in_ok-answer.ensures.vars, reached, c.len.ensures.value, c.requires.kept.together.known, c.in_ok-assumptions.ensures.grows.longer));
      chosen = c.requires.kept.chosen;
      limited = c.requires.kept.limited;
      greatest = c.requires.kept.greatest ∙ ap (λ (s : State). greatest_of_clauses (bare_clauses s.accepted)) (sym (stored_state-grown (settings_of c.args.self.now.sides.parts c.args.self.now.choices) (settings_of c.args.self.now.sides.parts c.args.self.now.choices) c.args.self.now.names c.dense_assumptions.new.names c.args.self.now.solver.accepted c.solve.new.self.accepted refl c.in_ok-assumptions.ensures.grows c.requires.kept.together.stored (c.in_ok-answer.ensures.accepted ∙ c.in_ok-reach.ensures.accepted)));
    }

pub refute-requires-clause-over : goal.refute-requires-clause-over
refute-requires-clause-over c =
    let xs : Assumptions = c.deref-in-Failed.result.now in
    let first : AreFirstPlaces xs c.in-Failed.places =
    failed-places c.args.self.now.choices.limit _ _ c.deref.result.now xs c.in_ok-answer.answer c.in-Failed.root c.in-Failed.places (c.deref.ensures.value ∙ sym c.deref-in-Failed.ensures.value) c.in-Failed.is c.in_ok-answer.ensures.solved.answer in
    subst (λ (ys : Assumptions). IsOver (length c.dense_assumptions.new.names) (literals ys)) (sym (c.deref-in-Failed-2.ensures.value ∙ c.in_ok-failed-in-Failed.ensures))
    (over-at_places (length c.dense_assumptions.new.names) xs c.in-Failed.places (first_places-within xs c.in-Failed.places first)
    (subst (λ (ys : Assumptions). IsOver (length c.dense_assumptions.new.names) (literals ys)) (sym c.deref-in-Failed.ensures.value) c.in_ok-assumptions.ensures.over))

pub refute-requires-clause-parts : goal.refute-requires-clause-parts
refute-requires-clause-parts c =
    let xs : Assumptions = c.deref-in-Failed.result.now in
    let first : AreFirstPlaces xs c.in-Failed.places =
    failed-places c.args.self.now.choices.limit _ _ c.deref.result.now xs c.in_ok-answer.answer c.in-Failed.root c.in-Failed.places (c.deref.ensures.value ∙ sym c.deref-in-Failed.ensures.value) c.in-Failed.is c.in_ok-answer.ensures.solved.answer in
    parts-at_places c.dense_assumptions.new.names c.args.self.now.sides.parts xs c.deref-in-Failed-2.result.now c.args.pairs.now c.in-Failed.places (c.deref-in-Failed-2.ensures.value ∙ c.in_ok-failed-in-Failed.ensures) (first_places-within xs c.in-Failed.places first)
    (ap (named_assumptions c.dense_assumptions.new.names) c.deref-in-Failed.ensures.value ∙ c.in_ok-assumptions.ensures.assumptions) c.requires.parts

pub refute-requires-clause-root : goal.refute-requires-clause-root
refute-requires-clause-root c =
    (failed-told c.reach.new.self.accepted c.deref.result.now c.deref.result.now c.in_ok-answer.answer c.in-Failed.root c.in-Failed.places c.solve.new.self.tracer.told refl c.in-Failed.is (c.in_ok-answer.ensures.solved.tells _ refl)).unforgotten

pub refute-requires-clause-empty : goal.refute-requires-clause-empty
refute-requires-clause-empty c =
    let refutation = failed-told c.reach.new.self.accepted c.deref.result.now c.deref.result.now c.in_ok-answer.answer c.in-Failed.root c.in-Failed.places c.solve.new.self.tracer.told refl c.in-Failed.is (c.in_ok-answer.ensures.solved.tells _ refl) in
    (_, refutation.told, refl, refl)

pub refute-requires-clause-rests : goal.refute-requires-clause-rests
refute-requires-clause-rests c =
    let xs : Assumptions = c.deref-in-Failed.result.now in
    let t : Told = c.solve.new.self.tracer.told in
    let refutation : IsRefutation c.reach.new.self.accepted xs c.in-Failed.root.0 c.in-Failed.places t =
    failed-told c.reach.new.self.accepted c.deref.result.now xs c.in_ok-answer.answer c.in-Failed.root c.in-Failed.places t (c.deref.ensures.value ∙ sym c.deref-in-Failed.ensures.value) c.in-Failed.is (c.in_ok-answer.ensures.solved.tells _ refl) in
    subst (λ (ys : Assumptions). RestsOn (with_assumed c.solve.new.self.accepted ys) t c.in-Failed.root.0) (sym (c.deref-in-Failed-2.ensures.value ∙ c.in_ok-failed-in-Failed.ensures))
    (subst (λ (clauses : List (Part × Clause)). RestsOn (with_assumed clauses (at_places xs c.in-Failed.places)) t c.in-Failed.root.0) (sym c.in_ok-answer.ensures.accepted) (RestsOn-told c.reach.new.self.accepted xs c.in-Failed.root.0 c.in-Failed.places t refutation))

pub refute-requires-clause-top : goal.refute-requires-clause-top
refute-requires-clause-top c =
    let names = c.dense_assumptions.new.names in
    let settings = settings_of c.args.self.now.sides.parts c.args.self.now.choices in
    let xs : Assumptions = c.deref-in-Failed.result.now in
    let chosen : Assumptions = c.deref-in-Failed-2.result.now in
    let before = stored_state settings names c.solve.new.self.accepted in
    let state : before ≡ given_state c.args.self.now =
    stored_state-grown settings settings c.args.self.now.names names c.args.self.now.solver.accepted c.solve.new.self.accepted refl c.in_ok-assumptions.ensures.grows c.requires.kept.together.stored (c.in_ok-answer.ensures.accepted ∙ c.in_ok-reach.ensures.accepted) in
    let are : named_assumptions names xs ≡ assumptions_of c.args.pairs.now = ap (named_assumptions names) c.deref-in-Failed.ensures.value ∙ c.in_ok-assumptions.ensures.assumptions in
    let first : AreFirstPlaces xs c.in-Failed.places =
    failed-places c.args.self.now.choices.limit _ _ c.deref.result.now xs c.in_ok-answer.answer c.in-Failed.root c.in-Failed.places (c.deref.ensures.value ∙ sym c.deref-in-Failed.ensures.value) c.in-Failed.is c.in_ok-answer.ensures.solved.answer in
    let over : IsOver (length names) (literals xs) = subst (λ (ys : Assumptions). IsOver (length names) (literals ys)) (sym c.deref-in-Failed.ensures.value) c.in_ok-assumptions.ensures.over in
    let named : NamesFailed (named_assumptions names xs) (named_assumptions names chosen) =
    subst (λ (ys : Assumptions). NamesFailed (named_assumptions names xs) (named_assumptions names ys)) (sym (c.deref-in-Failed-2.ensures.value ∙ c.in_ok-failed-in-Failed.ensures))
    (NamesFailed-named names (AreDifferent-from_IsDistinct names c.len.ensures.are_names.distinct) xs over c.in-Failed.places first) in
    let top : greatest_named before (named_assumptions names xs) ≡ c.max-top.result =
    ap (λ (s : State). greatest_named s (named_assumptions names xs)) state ∙ ap (greatest_named (given_state c.args.self.now)) are
    ∙ named-top (given_state c.args.self.now) c.args.pairs.now c.args.self.now.greatest c.greatest_assumed.result c.max-top.result c.requires.kept.greatest c.greatest_assumed.ensures c.max-top.ensures in
    subst (λ (n : ℕ). greatest_named before (named_assumptions names chosen) ≤ n) top (failed-within before (named_assumptions names xs) (named_assumptions names chosen) named)

pub returns-in-Model-clause-kept : goal.returns-in-Model-clause-kept
returns-in-Model-clause-kept c =
    let reached = ap (λ (v : SolverView _). v.vars) c.in_ok-reach.ensures.reached in
    always c.append_values.result _ (record {
      together = AreStoredTogether-grown c.args.self.now.names c.dense_assumptions.new.names c.args.self.now.sides c.args.self.now.solver.accepted c.solve.new.self.accepted c.args.self.now.solver.vars c.solve.new.self.vars c.requires.kept.together c.in_ok-assumptions.ensures.grows
          (c.in_ok-answer.ensures.accepted ∙ c.in_ok-reach.ensures.accepted)
          (omega (arith, c.in_ok-answer.ensures.vars, reached, c.len.ensures.value, c.requires.kept.together.known, c.in_ok-assumptions.ensures.grows.longer));
      chosen = c.requires.kept.chosen;
      limited = c.requires.kept.limited;
      greatest = c.requires.kept.greatest ∙ ap (λ (s : State). greatest_of_clauses (bare_clauses s.accepted)) (sym (stored_state-grown (settings_of c.args.self.now.sides.parts c.args.self.now.choices) (settings_of c.args.self.now.sides.parts c.args.self.now.choices) c.args.self.now.names c.dense_assumptions.new.names c.args.self.now.solver.accepted c.solve.new.self.accepted refl c.in_ok-assumptions.ensures.grows c.requires.kept.together.stored (c.in_ok-answer.ensures.accepted ∙ c.in_ok-reach.ensures.accepted)));
    })

pub returns-in-Model-clause-reply : goal.returns-in-Model-clause-reply
returns-in-Model-clause-reply c =
    let names = c.dense_assumptions.new.names in
    let accepted = c.solve.new.self.accepted in
    let settings = settings_of c.args.self.now.sides.parts c.args.self.now.choices in
    let clauses = map (named_clause names) (map (λ (a : Part × Clause). a.1) accepted ++ units c.deref-in-Model.result.now) in
    let same = c.in_ok-answer.ensures.accepted ∙ c.in_ok-reach.ensures.accepted in
    let state : stored_state settings names accepted ≡ given_state c.args.self.now =
    stored_state-grown settings settings c.args.self.now.names names c.args.self.now.solver.accepted accepted refl c.in_ok-assumptions.ensures.grows c.requires.kept.together.stored same in
    let are : clauses ≡ bare_clauses (with_units (given_state c.args.self.now).accepted (assumptions_of c.args.pairs.now)) =
    assuming-named settings names accepted c.deref-in-Model.result.now c.args.pairs.now (ap (named_assumptions names) c.deref-in-Model.ensures.value ∙ c.in_ok-assumptions.ensures.assumptions) ∙ ap (λ s. bare_clauses (with_units s.accepted (assumptions_of c.args.pairs.now))) state in
    let over : HaveNames names accepted = subst (HaveNames names) (sym same) (HaveNames-grows c.args.self.now.names names c.args.self.now.solver.accepted c.in_ok-assumptions.ensures.grows c.requires.kept.together.stored) in
    let sides : AreSidesOf (parted accepted) c.args.self.now.sides = subst (λ (cs : List (Part × Clause)). AreSidesOf (parted cs) c.args.self.now.sides) (sym same) c.requires.kept.together.sides_are in
    let model =
    (model-stored c.args.self.now.choices.limit c.reach.new.self.accepted accepted c.deref.result.now c.deref-in-Model.result.now c.reach.new.self.vars c.args.self.now.solver.vars c.len.result (length names) c.in_ok-answer.answer c.in-Model.values
    c.in_ok-answer.ensures.accepted (c.deref.ensures.value ∙ sym c.deref-in-Model.ensures.value) (ap (λ (v : SolverView _). v.vars) c.in_ok-reach.ensures.reached) c.len.ensures.value
    (omega (arith, c.requires.kept.together.known, c.in_ok-assumptions.ensures.grows.longer)) c.in-Model.is c.in_ok-answer.ensures.solved.answer).1 in
    model-reply c.append_values.result (given_state c.args.self.now) names c.solve.new.self.tracer.told.steps c.solve.new.self.root clauses c.args.pairs.now _ _ are (on_ok_weaker c.append_values.result (λ appends. appends accepted sides over model) c.append_values.ensures.model)

pub returns-in-Failed-clause-reply : goal.returns-in-Failed-clause-reply
returns-in-Failed-clause-reply c =
    let names = c.dense_assumptions.new.names in
    let settings = settings_of c.args.self.now.sides.parts c.args.self.now.choices in
    let xs : Assumptions = c.deref-in-Failed.result.now in
    let chosen : Assumptions = c.deref-in-Failed-2.result.now in
    let before = stored_state settings names c.solve.new.self.accepted in
    let state : before ≡ given_state c.args.self.now =
    stored_state-grown settings settings c.args.self.now.names names c.args.self.now.solver.accepted c.solve.new.self.accepted refl c.in_ok-assumptions.ensures.grows c.requires.kept.together.stored (c.in_ok-answer.ensures.accepted ∙ c.in_ok-reach.ensures.accepted) in
    let root : c.solve.new.self.root ≡ Some c.in-Failed.root.0 = c.in_ok-answer.ensures.solved.root ∙ ap root_of_answer c.in-Failed.is in
    let are : named_assumptions names xs ≡ assumptions_of c.args.pairs.now = ap (named_assumptions names) c.deref-in-Failed.ensures.value ∙ c.in_ok-assumptions.ensures.assumptions in
    let first : AreFirstPlaces xs c.in-Failed.places =
    failed-places c.args.self.now.choices.limit _ _ c.deref.result.now xs c.in_ok-answer.answer c.in-Failed.root c.in-Failed.places (c.deref.ensures.value ∙ sym c.deref-in-Failed.ensures.value) c.in-Failed.is c.in_ok-answer.ensures.solved.answer in
    let over : IsOver (length names) (literals xs) = subst (λ (ys : Assumptions). IsOver (length names) (literals ys)) (sym c.deref-in-Failed.ensures.value) c.in_ok-assumptions.ensures.over in
    let named : NamesFailed (named_assumptions names xs) (named_assumptions names chosen) =
    subst (λ (ys : Assumptions). NamesFailed (named_assumptions names xs) (named_assumptions names ys)) (sym (c.deref-in-Failed-2.ensures.value ∙ c.in_ok-failed-in-Failed.ensures))
    (NamesFailed-named names (AreDifferent-from_IsDistinct names c.len.ensures.are_names.distinct) xs over c.in-Failed.places first) in
    let kept = c.solve.new.self.tracer.told.steps in
    let is_top : greatest_named before (named_assumptions names xs) ≡ c.max-top.result =
    ap (λ (s : State). greatest_named s (named_assumptions names xs)) state ∙ ap (greatest_named (given_state c.args.self.now)) are
    ∙ named-top (given_state c.args.self.now) c.args.pairs.now c.args.self.now.greatest c.greatest_assumed.result c.max-top.result c.requires.kept.greatest c.greatest_assumed.ensures c.max-top.ensures in
    let reply : OnOk c.refute.result ((text : List ℕ) × IsSolveReplyBy names kept c.solve.new.self.root (given_state c.args.self.now) c.args.pairs.now text × (c.refute.new.out.items ≡ c.args.out.now.items ++ text)) =
    refuted-reply c.refute.result (given_state c.args.self.now) before names kept c.solve.new.self.root c.in-Failed.root.0 (named_assumptions names chosen) (named_assumptions names xs) c.args.pairs.now c.args.out.now.items c.refute.new.out.items c.max-top.result state root are named is_top c.refute.ensures.reply in
    subst (λ (v : SolverView ChainStore). OnOk c.refute.result ((text : List ℕ) × IsSolveReplyBy c.refute.new.self.names v.tracer.told.steps v.root (given_state c.args.self.now) c.args.pairs.now text × (c.refute.new.out.items ≡ c.args.out.now.items ++ text))) (sym c.refute.ensures.same.solver)
    (subst (λ (ns : List ℕ). OnOk c.refute.result ((text : List ℕ) × IsSolveReplyBy ns kept c.solve.new.self.root (given_state c.args.self.now) c.args.pairs.now text × (c.refute.new.out.items ≡ c.args.out.now.items ++ text))) (sym c.refute.ensures.same.names) reply)

pub append_lemmas-requires : goal.append_lemmas-requires
append_lemmas-requires c =
    let names = c.dense_assumptions.new.names in
    let held = c.reach.new.self.accepted in
    let answer = subst (IsAnswer (accepted_clauses held) c.reach.new.self.vars c.deref.result.now c.args.self.now.choices.limit) c.in-Limit.is c.in_ok-answer.ensures.solved.answer in
    let over : HaveNames names held = subst (HaveNames names) (sym c.in_ok-reach.ensures.accepted) (HaveNames-grows c.args.self.now.names names c.args.self.now.solver.accepted c.in_ok-assumptions.ensures.grows c.requires.kept.together.stored) in
    AreOver-lemmas (length names) (accepted_clauses held) c.in-Limit.lemmas over answer.1

pub returns-clause-kept : goal.returns-clause-kept
returns-clause-kept c =
    let reached = ap (λ (v : SolverView _). v.vars) c.in_ok-reach.ensures.reached in
    always c.append_lemmas.result _ (record {
      together = AreStoredTogether-grown c.args.self.now.names c.dense_assumptions.new.names c.args.self.now.sides c.args.self.now.solver.accepted c.solve.new.self.accepted c.args.self.now.solver.vars c.solve.new.self.vars c.requires.kept.together c.in_ok-assumptions.ensures.grows
          (c.in_ok-answer.ensures.accepted ∙ c.in_ok-reach.ensures.accepted)
          (omega (arith, c.in_ok-answer.ensures.vars, reached, c.len.ensures.value, c.requires.kept.together.known, c.in_ok-assumptions.ensures.grows.longer));
      chosen = c.requires.kept.chosen;
      limited = c.requires.kept.limited;
      greatest = c.requires.kept.greatest ∙ ap (λ (s : State). greatest_of_clauses (bare_clauses s.accepted)) (sym (stored_state-grown (settings_of c.args.self.now.sides.parts c.args.self.now.choices) (settings_of c.args.self.now.sides.parts c.args.self.now.choices) c.args.self.now.names c.dense_assumptions.new.names c.args.self.now.solver.accepted c.solve.new.self.accepted refl c.in_ok-assumptions.ensures.grows c.requires.kept.together.stored (c.in_ok-answer.ensures.accepted ∙ c.in_ok-reach.ensures.accepted)));
    })

pub returns-clause-reply : goal.returns-clause-reply
returns-clause-reply c =
    let names = c.dense_assumptions.new.names in
    let accepted = c.solve.new.self.accepted in
    let settings = settings_of c.args.self.now.sides.parts c.args.self.now.choices in
    let same = c.in_ok-answer.ensures.accepted ∙ c.in_ok-reach.ensures.accepted in
    let state : stored_state settings names accepted ≡ given_state c.args.self.now =
    stored_state-grown settings settings c.args.self.now.names names c.args.self.now.solver.accepted accepted refl c.in_ok-assumptions.ensures.grows c.requires.kept.together.stored same in
    let over : HaveNames names accepted = subst (HaveNames names) (sym same) (HaveNames-grows c.args.self.now.names names c.args.self.now.solver.accepted c.in_ok-assumptions.ensures.grows c.requires.kept.together.stored) in
    unknown-reply c.append_lemmas.result (given_state c.args.self.now) names c.solve.new.self.tracer.told.steps c.solve.new.self.root c.reach.new.self.accepted accepted c.deref.result.now c.reach.new.self.vars c.in_ok-answer.answer c.in-Limit.lemmas c.args.pairs.now _ _
    c.len.ensures.are_names.distinct over (sym c.in_ok-answer.ensures.accepted) state c.in-Limit.is c.in_ok-answer.ensures.solved.answer c.append_lemmas.ensures.lemmas

pub returns-clause-state : goal.returns-clause-state
returns-clause-state c =
    stored_state-grown (settings_of c.args.self.now.sides.parts c.args.self.now.choices) (settings_of c.args.self.now.sides.parts c.args.self.now.choices) c.args.self.now.names c.dense_assumptions.new.names c.args.self.now.solver.accepted c.solve.new.self.accepted refl c.in_ok-assumptions.ensures.grows c.requires.kept.together.stored (c.in_ok-answer.ensures.accepted ∙ c.in_ok-reach.ensures.accepted)

pub returns-in_err-assumptions-clause-state : goal.returns-in_err-assumptions-clause-state
returns-in_err-assumptions-clause-state c =
    stored_state-grown (settings_of c.args.self.now.sides.parts c.args.self.now.choices) (settings_of c.args.self.now.sides.parts c.args.self.now.choices) c.args.self.now.names c.dense_assumptions.new.names c.args.self.now.solver.accepted c.args.self.now.solver.accepted refl c.dense_assumptions.ensures.grows c.requires.kept.together.stored refl

pub returns-in_err-reach-clause-state : goal.returns-in_err-reach-clause-state
returns-in_err-reach-clause-state c =
    stored_state-grown (settings_of c.args.self.now.sides.parts c.args.self.now.choices) (settings_of c.args.self.now.sides.parts c.args.self.now.choices) c.args.self.now.names c.dense_assumptions.new.names c.args.self.now.solver.accepted c.reach.new.self.accepted refl c.dense_assumptions.ensures.grows c.requires.kept.together.stored c.reach.ensures.accepted

pub returns-in_err-answer-clause-state : goal.returns-in_err-answer-clause-state
returns-in_err-answer-clause-state c =
    stored_state-grown (settings_of c.args.self.now.sides.parts c.args.self.now.choices) (settings_of c.args.self.now.sides.parts c.args.self.now.choices) c.args.self.now.names c.dense_assumptions.new.names c.args.self.now.solver.accepted c.solve.new.self.accepted refl c.dense_assumptions.ensures.grows c.requires.kept.together.stored (c.solve.ensures.accepted ∙ c.in_ok-reach.ensures.accepted)

pub returns-in-Model-clause-state : goal.returns-in-Model-clause-state
returns-in-Model-clause-state c =
    stored_state-grown (settings_of c.args.self.now.sides.parts c.args.self.now.choices) (settings_of c.args.self.now.sides.parts c.args.self.now.choices) c.args.self.now.names c.dense_assumptions.new.names c.args.self.now.solver.accepted c.solve.new.self.accepted refl c.dense_assumptions.ensures.grows c.requires.kept.together.stored (c.in_ok-answer.ensures.accepted ∙ c.in_ok-reach.ensures.accepted)

pub returns-in_err-failed-in-Failed-clause-state : goal.returns-in_err-failed-in-Failed-clause-state
returns-in_err-failed-in-Failed-clause-state c =
    stored_state-grown (settings_of c.args.self.now.sides.parts c.args.self.now.choices) (settings_of c.args.self.now.sides.parts c.args.self.now.choices) c.args.self.now.names c.dense_assumptions.new.names c.args.self.now.solver.accepted c.solve.new.self.accepted refl c.dense_assumptions.ensures.grows c.requires.kept.together.stored (c.in_ok-answer.ensures.accepted ∙ c.in_ok-reach.ensures.accepted)

pub returns-in-Failed-clause-state : goal.returns-in-Failed-clause-state
returns-in-Failed-clause-state c =
    given_state-same _ c.refute.new.self c.refute.ensures.same ∙ stored_state-grown (settings_of c.args.self.now.sides.parts c.args.self.now.choices) (settings_of c.args.self.now.sides.parts c.args.self.now.choices) c.args.self.now.names c.dense_assumptions.new.names c.args.self.now.solver.accepted c.solve.new.self.accepted refl c.dense_assumptions.ensures.grows c.requires.kept.together.stored (c.in_ok-answer.ensures.accepted ∙ c.in_ok-reach.ensures.accepted)
