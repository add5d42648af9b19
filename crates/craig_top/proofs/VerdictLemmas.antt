-- The verdict on a solve, by the root of its answer.
use Rattle.std.proofs.Common.{◌≡◌, ◌≢◌, ◌∙◌, ◌<◌, ◌≤◌, ◌&&◌, sym, ap, subst, refl, arith, max, map, nat_eq, nat_le, not, Bool, true, false, Some, ℕ, ℤ, List, [], ◌∷◌, ◌++◌, length, get_or, All, Contains, Option, Result, Ok, Err, OnOk, inl, inr, if◌then◌else◌}
use Rattle.craig_base.proofs.LiteralsLemmas.{negation-differs}
use Rattle.craig_spec.proofs.MemberLemmas.{Contains-image, Contains-one}
use Rattle.std.specs.Int.RustNames.{unsigned_abs}
use Rattle.std.specs.List.{list_all}
use Rattle.std.proofs.lemmas.List.Elements.{Contains-append_left, Contains-append_right, Contains-get_or}
use Rattle.craig_spec.specs.Literal.{Clause, Literal, negation}
use Rattle.craig_spec.specs.Chain.{IsTold, SameLiterals, Told, ToldStep, clause_told}
use Rattle.craig_spec.specs.Cut.{PartLiteral, with_units}
use Rattle.craig_spec.specs.Truth.{IsModel}
use Rattle.craig_base.specs.Values.{assignment_of_values}
use Rattle.craig_spec.specs.FailedAssumptions.{NamesFailed}
use Rattle.craig_base.specs.Clauses.{IsNormal}
use Rattle.craig_base.specs.declared.clause_id.ClauseId.{ClauseId}
use Rattle.craig_base.specs.declared.script_part.Part.{Part}
use Rattle.craig_script.specs.declared.command.Command.{Command}
use Rattle.craig_script.specs.declared.command.Command.TheVariants.{Nothing, Parts, Add, System, Mark, Cuts, Limit, Format, Solve}
use Rattle.craig_script.specs.declared.refusal.Refusal.{Refusal}
use Rattle.craig_search.specs.Tells.{IsUnitStep}
use Rattle.craig_search.specs.Verdict.{AreFirstPlaces, Assumptions, at_places, units}
use Rattle.craig_solver.specs.declared.answer.Answer.{Answer}
use Rattle.craig_solver.specs.declared.answer.Answer.TheVariants.{Failed, Model}
use Rattle.craig_solver.specs.declared.answer.Answer.TheVariants as answer
use Rattle.craig_solver.specs.Answer.{IsAnswer, accepted_clauses}
use Rattle.craig_solver.specs.Told.{IsAcceptedStep, IsRefutation, TellsAnswer}
use Rattle.craig_script.specs.declared.refusal.Refusal.TheVariants.{CutRange, LateParts, LimitRange, Range, Variable}
use Rattle.craig_script.specs.Reading.{admitted, is_within, variable_limit}
use Rattle.craig_top.specs.Formats.{greatest_named}
use Rattle.craig_top.specs.GivenState.{ScriptSettings, State}
use Rattle.craig_top.specs.LastRefutation.{SessionView, IsByLastRoot, IsRefutationBy, IsSolveReplyBy, ReadingIsByLastRoot}
use Rattle.craig_base.specs.LemmaRule.{MeetsLemmaRule}
use Rattle.std.specs.List.{IsDistinct}
use Rattle.craig_top.specs.LemmaReply.{AppendsLemmas}
use Rattle.craig_top.specs.Naming.{named_clause, written}
use Rattle.craig_top.proofs.LemmaReplyLemmas.{MeetsLemmaRule-named, all-rising}
use Rattle.craig_top.specs.ModelReply.{IsModelReply}
use Rattle.craig_top.specs.Named.{bare_clauses}
use Rattle.craig_top.specs.Reply.{IsSolveReply, RepliesTo, assumptions_of}
use Rattle.craig_top.specs.RestsOn.{IsEmptyAt, RestsOn}
use Rattle.craig_top.specs.Sides.{with_assumed}
use Rattle.craig_top.specs.ReplyTexts.{ok_text, satisfiable_text, unknown_text}
use Rattle.craig_top.specs.Stored.{HaveNames, stored_state}
use Rattle.craig_top.specs.Values.{IsOver}
use Rattle.craig_top.proofs.AssumptionLemmas.{literals}
use Rattle.craig_top.proofs.OverLemmas.{IsOver-contains}

-- a refutation under assumptions rests on the clauses and on the units of those that failed
IsAcceptedStep-assumed : (accepted : List (Part × Clause)) (failed : Assumptions) (s : ToldStep) → IsAcceptedStep accepted s → IsAcceptedStep (with_assumed accepted failed) s
IsAcceptedStep-assumed accepted failed s step = record {
  pair = step.pair;
  is_accepted = Contains-append_left accepted (with_assumed [] failed) step.pair step.is_accepted;
  part = step.part;
  literals = step.literals;
  normal = step.normal;
}

-- a clause of one literal is normal
unit_is_normal : (l : Literal) → IsNormal (l ∷ [])
unit_is_normal l = record {
  distinct = λ i j d before within. absurd (omega (arith, before, within));
  not_tautology = λ found. negation-other l (Contains-one l found.0 found.1) (Contains-one l (negation found.0) found.2);
}
  where
    negation-other : (l : Literal) {m : Literal} → l ≡ m → l ≡ negation m → ⊥
    negation-other l same other = negation-differs l (other ∙ ap negation (sym same))

IsUnitStep-assumed : (accepted : List (Part × Clause)) (assumptions : Assumptions) (places : List ℕ) (s : ToldStep) → IsUnitStep assumptions places s → IsAcceptedStep (with_assumed accepted (at_places assumptions places)) s
IsUnitStep-assumed accepted assumptions places s step =
    let unit : Part × Literal → Part × Clause = λ a. (a.0, a.1 ∷ []) in record {
      pair = unit step.assumed;
      is_accepted = Contains-append_right accepted (with_assumed [] (at_places assumptions places)) (unit step.assumed) (Contains-image unit (at_places assumptions places) step.assumed step.at_place);
      part = step.part;
      literals = subst (λ c. SameLiterals (step.assumed.1 ∷ []) c) (sym step.literals) (λ m. (λ h. h, λ h. h));
      normal = subst IsNormal (sym step.literals) (unit_is_normal step.assumed.1);
    }

pub RestsOn-told : (accepted : List (Part × Clause)) (assumptions : Assumptions) (root : ℕ) (places : List ℕ) (t : Told) → IsRefutation accepted assumptions root places t → RestsOn (with_assumed accepted (at_places assumptions places)) t root
RestsOn-told accepted assumptions root places t refutation s here is needed = elim (refutation.needs s here is needed) [
  | inl step ↦ IsAcceptedStep-assumed accepted (at_places assumptions places) s step
  | inr step ↦ IsUnitStep-assumed accepted assumptions places s step
]

-- a verdict by a root is a verdict
pub verdict_by : (names : List ℕ) (kept : List ToldStep) (last : Option ℕ) (state : State) (pairs : List (ℕ × ℤ)) (text : List ℕ) → IsSolveReplyBy names kept last state pairs text → IsSolveReply state pairs text
verdict_by names kept last state pairs text (inl model) = inl model
verdict_by names kept last state pairs text (inr (inl refutation)) = inr (inl refutation.0)
verdict_by names kept last state pairs text (inr (inr lemmas)) = inr (inr lemmas)

-- a reply to the command that was read is one to the line
pub refutation-read : {T E : Type 0} (r : Result T E) (view : SessionView) (state : State) (command : Command) (read : Result Command Refusal) (old new : List ℕ) → read ≡ Ok command
    → OnOk r ((text : List ℕ) × IsByLastRoot view state command text × (new ≡ old ++ text))
    → OnOk r ((text : List ℕ) × ReadingIsByLastRoot view state read text × (new ≡ old ++ text))
refutation-read r view state command read old new is found =
    subst (λ (x : Result Command Refusal). OnOk r ((text : List ℕ) × ReadingIsByLastRoot view state x text × (new ≡ old ++ text))) (sym is) found

-- a command that is carried out, and is neither a comment nor a solve, is answered by ok
pub ok_reply : (state : State) (command : Command) (text : List ℕ) → (command ≡ Nothing → ⊥) → ((pairs : List (ℕ × ℤ)) → command ≡ Solve pairs → ⊥) → text ≡ ok_text → RepliesTo state command text
ok_reply state Nothing text something other is = absurd (something refl)
ok_reply state (Parts n) text something other is = is
ok_reply state (Add part lits) text something other is = is
ok_reply state (System system) text something other is = is
ok_reply state (Mark name mark) text something other is = is
ok_reply state (Cuts cuts) text something other is = is
ok_reply state (Limit limit) text something other is = is
ok_reply state (Format format) text something other is = is
ok_reply state (Solve pairs) text something other is = absurd (other pairs refl)

-- and that reply is drawn from no refutation
pub no_refutation : (view : SessionView) (state : State) (command : Command) (text : List ℕ) → ((pairs : List (ℕ × ℤ)) → command ≡ Solve pairs → ⊥) → IsByLastRoot view state command text
no_refutation view state Nothing text other = tt
no_refutation view state (Parts n) text other = tt
no_refutation view state (Add part lits) text other = tt
no_refutation view state (System system) text other = tt
no_refutation view state (Mark name mark) text other = tt
no_refutation view state (Cuts cuts) text other = tt
no_refutation view state (Limit limit) text other = tt
no_refutation view state (Format format) text other = tt
no_refutation view state (Solve pairs) text other = absurd (other pairs refl)

-- ---- what is known of the lent clauses and assumptions

-- the assumptions are over known variables
pub assumed-known : (n vars : ℕ) (assumptions lent : Assumptions) → lent ≡ assumptions → IsOver n (literals assumptions) → n ≤ vars → All (λ (a : Part × Literal). a.1.var < vars) lent
assumed-known n vars assumptions lent same over low i d within =
    let inside : i < length assumptions = subst (λ (xs : Assumptions). i < length xs) same within in
    let below : (get_or assumptions i d).1.var < n = IsOver-contains n (literals assumptions) (get_or assumptions i d).1 over (Contains-image (λ (a : Part × Literal). a.1) assumptions (get_or assumptions i d) (Contains-get_or assumptions i d inside)) in
    subst (λ (xs : Assumptions). (get_or xs i d).1.var < vars) (sym same) (omega (arith, below, low))

-- a model of the held clauses and the assumptions is one of the lent ones
pub model-stored : (limit : Option ℕ) (held lent : List (Part × Clause)) (given assumptions : Assumptions) (known vars counted count : ℕ) (a : Answer) (values : List Bool) → lent ≡ held → given ≡ assumptions → known ≡ max vars counted → counted ≡ count → vars ≤ count → a ≡ Model values
    → IsAnswer (accepted_clauses held) known given limit a → (length values ≡ count) × IsModel (assignment_of_values values) (map (λ c. c.1) lent ++ units assumptions)
model-stored limit held lent given assumptions known vars counted count a values same as_given reached is_count low is answer =
    let model = subst (λ (b : Answer). IsAnswer (accepted_clauses held) known given limit b) is answer in (
      omega (arith, model.0, reached, is_count, low),
      subst (λ (cs : List (Part × Clause)). IsModel (assignment_of_values values) (map (λ c. c.1) cs ++ units assumptions)) (sym same)
          (subst (λ (xs : Assumptions). IsModel (assignment_of_values values) (map (λ c. c.1) held ++ units xs)) as_given model.1),
    )

-- the places of an answer that fails are first ones
pub failed-places : (limit : Option ℕ) (held : List Clause) (known : ℕ) (given assumptions : Assumptions) (a : Answer) (root : ClauseId) (places : List ℕ) → given ≡ assumptions → a ≡ Failed root places → IsAnswer held known given limit a → AreFirstPlaces assumptions places
failed-places limit held known given assumptions a root places as_given is answer =
    let failed = subst (λ (b : Answer). IsAnswer held known given limit b) is answer in
    subst (λ (xs : Assumptions). AreFirstPlaces xs places) as_given failed.0

-- what was told of them is a refutation
pub failed-told : (held : List (Part × Clause)) (given assumptions : Assumptions) (a : Answer) (root : ClauseId) (places : List ℕ) (t : Told) → given ≡ assumptions → a ≡ Failed root places → TellsAnswer held given a t → IsRefutation held assumptions root.0 places t
failed-told held given assumptions a root places t as_given is told =
    subst (λ (xs : Assumptions). IsRefutation held xs root.0 places t) as_given (subst (λ (b : Answer). TellsAnswer held given b t) is told)

-- its root is an empty clause
pub empty-told : ((t : Told) (s : ToldStep) → IsTold t → Contains t.steps s → clause_told t.steps s.id ≡ Some s.literals) → (t : Told) (root : ℕ) → IsTold t → IsEmptyAt t.steps root → clause_told t.steps root ≡ Some []
empty-told found t root told step = sym (ap (clause_told t.steps) step.2) ∙ found t step.0 told step.1 ∙ ap (λ (c : Clause). Some c) step.3

-- ---- replies

-- a model is a verdict, whichever root is the last
pub model-reply : {T E : Type 0} (r : Result T E) (state : State) (names : List ℕ) (kept : List ToldStep) (last : Option ℕ) (clauses : List Clause) (pairs : List (ℕ × ℤ)) (old new : List ℕ) → clauses ≡ bare_clauses (with_units state.accepted (assumptions_of pairs))
    → OnOk r ((literals : List Literal) × IsModelReply clauses literals × (new ≡ old ++ satisfiable_text literals))
    → OnOk r ((text : List ℕ) × IsSolveReplyBy names kept last state pairs text × (new ≡ old ++ text))
model-reply (Ok x) state names kept last clauses pairs old new same found =
    (satisfiable_text found.0, inl (found.0, subst (λ (cs : List Clause). IsModelReply cs found.0) same found.1, refl), found.2)
model-reply (Err x) state names kept last clauses pairs old new same found = tt

-- so is a refutation by the last root, under assumptions of which these failed
pub refuted-reply : {T E : Type 0} (r : Result T E) (state before : State) (names : List ℕ) (kept : List ToldStep) (last : Option ℕ) (root : ℕ) (failed assumptions : List PartLiteral) (pairs : List (ℕ × ℤ)) (old new : List ℕ)
    → (top : ℕ) → before ≡ state → last ≡ Some root → assumptions ≡ assumptions_of pairs → NamesFailed assumptions failed → greatest_named before assumptions ≡ top
    → OnOk r ((text : List ℕ) × ((given : List PartLiteral) → NamesFailed given failed → greatest_named before given ≡ top → IsRefutationBy names kept (Some root) before given text) × (new ≡ old ++ text))
    → OnOk r ((text : List ℕ) × IsSolveReplyBy names kept last state pairs text × (new ≡ old ++ text))
refuted-reply (Ok x) state before names kept last root failed assumptions pairs old new top same root_is are names_failed is_top found =
    let by_root : IsRefutationBy names kept (Some root) before assumptions found.0 = found.1 assumptions names_failed is_top in
    let by_last : IsRefutationBy names kept last before assumptions found.0 = subst (λ (l : Option ℕ). IsRefutationBy names kept l before assumptions found.0) (sym root_is) by_root in
    let by_pairs : IsRefutationBy names kept last before (assumptions_of pairs) found.0 = subst (λ (xs : List PartLiteral). IsRefutationBy names kept last before xs found.0) are by_last in
    (found.0, inr (inl (subst (λ (s : State). IsRefutationBy names kept last s (assumptions_of pairs) found.0) same by_pairs)), found.2)
refuted-reply (Err x) state before names kept last root failed assumptions pairs old new top same root_is are names_failed is_top found = tt

-- the accepted clauses by themselves, as they were written
bare-written : (names : List ℕ) (accepted : List (Part × Clause)) → map (named_clause names) (map (λ (b : Part × Clause). b.1) accepted) ≡ bare_clauses (written names accepted)
bare-written names [] = refl
bare-written names (b ∷ accepted) = ap (λ (cs : List Clause). named_clause names b.1 ∷ cs) (bare-written names accepted)

-- so are lemmas that are printed under their names
pub unknown-reply : {T E : Type 0} (r : Result T E) (state : State) (names : List ℕ) (kept : List ToldStep) (last : Option ℕ) (held accepted : List (Part × Clause)) (given : Assumptions) (known : ℕ) (a : Answer) (lemmas : List Clause) (pairs : List (ℕ × ℤ)) (old new : List ℕ)
    → IsDistinct nat_eq names → HaveNames names accepted → held ≡ accepted → stored_state state.settings names accepted ≡ state → a ≡ answer.Limit lemmas → IsAnswer (accepted_clauses held) known given state.settings.limit a
    → OnOk r (AppendsLemmas names lemmas old new) → OnOk r ((text : List ℕ) × IsSolveReplyBy names kept last state pairs text × (new ≡ old ++ text))
unknown-reply (Ok x) state names kept last held accepted given known a lemmas pairs old new distinct over same is_state is answer found =
    let limited = subst (IsAnswer (accepted_clauses held) known given state.settings.limit) is answer in
    let clauses = accepted_clauses accepted in
    let rule : MeetsLemmaRule clauses lemmas = subst (λ (cs : List (Part × Clause)). MeetsLemmaRule (accepted_clauses cs) lemmas) same limited.1 in
    let bare : map (named_clause names) clauses ≡ bare_clauses state.accepted = bare-written names accepted ∙ ap (λ (s : State). bare_clauses s.accepted) is_state in (
      unknown_text found.0,
      inr (inr (record {
        lemmas = found.0;
        many = limited.0 ∙ ap Some (sym found.1.many);
        rule = subst (λ (cs : List Clause). MeetsLemmaRule cs found.0) bare (MeetsLemmaRule-named names clauses lemmas found.0 distinct over rule found.1);
        rising = all-rising names clauses lemmas found.0 distinct over rule limited.2 found.1;
        text_is = refl;
      })),
      found.2,
    )
unknown-reply (Err x) state names kept last held accepted given known a lemmas pairs old new distinct over same is_state is answer found = tt

-- a refutation of the material is one of what was stored
pub refuted-stored : (state : State) (settings now_settings : ScriptSettings) (names : List ℕ) (before kept : List ToldStep) (root : ℕ) (failed : List PartLiteral) (accepted now : List (Part × Clause)) (old new : List ℕ) (top : ℕ) → stored_state settings names accepted ≡ state → now ≡ accepted → now_settings ≡ settings → before ≡ kept
    → (text : List ℕ) × ((given : List PartLiteral) → NamesFailed given failed → greatest_named (stored_state now_settings names now) given ≡ top → IsRefutationBy names before (Some root) (stored_state now_settings names now) given text) × (new ≡ old ++ text)
    → (text : List ℕ) × ((given : List PartLiteral) → NamesFailed given failed → greatest_named state given ≡ top → IsRefutationBy names kept (Some root) state given text) × (new ≡ old ++ text)
refuted-stored state settings now_settings names before kept root failed accepted now old new top e same many told found =
    let is : stored_state now_settings names now ≡ state = ap (λ n. stored_state n names now) many ∙ ap (stored_state settings names) same ∙ e in (
      found.0,
      λ given names_failed is_top. subst (λ (s : State). IsRefutationBy names kept (Some root) s given found.0) is
          (subst (λ steps. IsRefutationBy names steps (Some root) (stored_state now_settings names now) given found.0) told (found.1 given names_failed (ap (λ (s : State). greatest_named s given) is ∙ is_top))),
      found.2,
    )

-- a verdict by the last root is a verdict
pub solve-reply : {T E : Type 0} (r : Result T E) (names : List ℕ) (kept : List ToldStep) (last : Option ℕ) (state : State) (pairs : List (ℕ × ℤ)) (old new : List ℕ)
    → OnOk r ((text : List ℕ) × IsSolveReplyBy names kept last state pairs text × (new ≡ old ++ text)) → OnOk r ((text : List ℕ) × IsSolveReply state pairs text × (new ≡ old ++ text))
solve-reply (Ok x) names kept last state pairs old new found = (found.0, verdict_by names kept last state pairs found.0 found.1, found.2)
solve-reply (Err x) names kept last state pairs old new found = tt

-- ---- what is admitted

-- the parts and variables of an admitted solve are tested
pub solve-admitted : (parts : ℕ) (any : Bool) (pairs : List (ℕ × ℤ)) → admitted parts any (Solve pairs) ≡ Ok tt → (list_all (λ pair. nat_le pair.0 parts) pairs ≡ true) × (list_all (is_within variable_limit) (map (λ (pair : ℕ × ℤ). unsigned_abs pair.1) pairs) ≡ true)
solve-admitted parts any pairs e = after_late (any && false) (list_all (λ pair. nat_le pair.0 parts) pairs) (list_all (is_within variable_limit) (map (λ (pair : ℕ × ℤ). unsigned_abs pair.1) pairs)) e
  where
    after_late : (late in_parts in_variables : Bool) → ◌≡◌ {A = Result (Unit {0}) Refusal} (if late then Err LateParts else if not in_parts then Err Range else if not in_variables then Err Variable else if not true then Err LimitRange else if not true then Err CutRange else Ok tt) (Ok tt) → (in_parts ≡ true) × (in_variables ≡ true)
    after_late true in_parts in_variables e = absurd (cc)
    after_late false false in_variables e = absurd (cc)
    after_late false true false e = absurd (cc)
    after_late false true true e = (refl, refl)

-- an admitted limit isn't 0
limit-zero : (parts : ℕ) (any : Bool) → admitted parts any (Limit (Some 0)) ≡ Ok tt → ⊥
limit-zero parts true e = absurd (cc)
limit-zero parts false e = absurd (cc)

pub limit-admitted : (parts : ℕ) (any : Bool) (limit : Option ℕ) → admitted parts any (Limit limit) ≡ Ok tt → limit ≢ Some 0
limit-admitted parts any limit e is = limit-zero parts any (subst (λ (l : Option ℕ). admitted parts any (Limit l) ≡ Ok tt) is e)
