-- What a refuting reply has, what the reply to a line is, and what the line does to the given state.
use Rattle.std.proofs.Common.{◌≡◌, ◌∙◌, sym, ap, subst, refl, inl, inr, ℕ, List, [], ◌∷◌, ◌++◌, append_assoc, append-nil, length, map, codes, decimal, Contains, Option, slice_get, Result, Ok, Err, ℤ, arith}
use Rattle.std.proofs.lemmas.List.{length-map, map-append}
use Rattle.std.proofs.lemmas.List.Elements.{All-contains}
use Rattle.craig_spec.specs.Circuit.{Circuit, Output}
use Rattle.craig_spec.specs.Cut.{PartClause, PartLiteral, with_units}
use Rattle.craig_spec.specs.Literal.{Clause, Literal}
use Rattle.craig_spec.specs.PartialInterpolant.{Label}
use Rattle.craig_spec.specs.Sequence.{IsSequence}
use Rattle.craig_spec.proofs.MemberLemmas.{Contains-front, Contains-later, slice_get-from_map}
use Rattle.craig_aiger.specs.OutNames.{family_text}
use Rattle.craig_aiger.specs.declared.family.Family.{Family}
use Rattle.craig_aiger.specs.declared.out_name.OutName.{OutName}
use Rattle.craig_script.specs.declared.command.Command.{Command}
use Rattle.craig_script.specs.declared.command.Command.TheVariants.{Nothing, Parts, Add, System, Mark, Cuts, Limit, Format, Solve}
use Rattle.craig_script.specs.declared.line.Line.{Line}
use Rattle.craig_script.specs.declared.cut_word.CutWord.{CutWord}
use Rattle.craig_script.specs.declared.cut_word.CutWord.TheVariants as cut
use Rattle.craig_script.specs.declared.setting_words.FormatWord.{FormatWord}
use Rattle.craig_script.specs.declared.setting_words.MarkWord.{MarkWord}
use Rattle.craig_script.specs.declared.setting_words.MarkWord.TheVariants as mark
use Rattle.craig_script.specs.declared.setting_words.SystemWord.{SystemWord}
use Rattle.craig_script.specs.declared.refusal.Refusal.{Refusal}
use Rattle.craig_top.specs.Blocks.{Block, IsCircuitText, lined_bytes, printed_output}
use Rattle.craig_top.specs.Formats.{CircuitFormat}
use Rattle.craig_top.specs.GivenState.{ScriptSettings, State, next, obeyed_if_admitted, reading, script_literal}
use Rattle.craig_top.specs.ModelReply.{IsModelReply}
use Rattle.craig_top.specs.Named.{bare_clauses}
use Rattle.craig_top.specs.RefutationReply.{GivesInterpolants, IsRefutationReply, SystemLiterals, outputs_at, system_outputs}
use Rattle.craig_top.specs.Reply.{Reply, RepliesToReading, assumptions_of}
use Rattle.craig_top.specs.ReplyContents.{MayAnswer, with_format, with_limit, AreLiteralsOf, AreNamedBy, HasAccepted, HasCuts, HaveOutputs, IsDivided, IsMarkFor, IsTextOf, IsStrictText, PrintsRefutation, with_mark, with_system}
use Rattle.craig_top.specs.ReplyTexts.{failed_text, literals_text, refusal_text}
use Rattle.craig_top.specs.WrittenSystems.{written_systems}
use Rattle.craig_top.proofs.CircuitShapeLemmas.{all_are_used, gates_are_conjunctions, gates_stand_once, inputs_rise, operands_are_ordered, outputs_are_literals}

-- ---- texts of circuits

module _ (format : CircuitFormat) (outputs : List (OutName × ℕ)) (bytes : List ℕ) (c : Circuit) (text : IsCircuitText format outputs bytes c) where
  pub read_as : IsTextOf format bytes c
  read_as = (text.reads, gates_are_conjunctions c text.is_circuit, outputs_are_literals c text.is_circuit, text.used)

  pub strict_text : IsStrictText format bytes
  strict_text = (text.layout, text.written, inputs_rise _ text.strict, operands_are_ordered _ text.strict, gates_stand_once _ text.strict, all_are_used _ text.strict)

  pub have_outputs : HaveOutputs outputs c.outputs
  have_outputs = (
    ap length text.outputs_are ∙ length-map outputs printed_output,
    λ k o is. (let from = slice_get-from_map printed_output outputs k o (ap (λ os. slice_get os k) (sym text.outputs_are) ∙ is) in
        (from.0, from.1, ap (λ (p : Output). p.name) (sym from.2), ap (λ (p : Output). p.literal) (sym from.2))),
  )

-- ---- outputs of systems

-- the names of the outputs of one system
names_at : (family : Option Family) (cuts literals : List ℕ) → length literals ≡ length cuts → map (λ (o : Output). o.name) (map printed_output (outputs_at family cuts literals)) ≡ map (λ cut. family_text family ++ decimal cut) cuts
names_at family [] literals e = refl
names_at family (cut ∷ cuts) [] e = absurd (omega (arith, e))
names_at family (cut ∷ cuts) (l ∷ literals) e = ap (λ ns. (family_text family ++ decimal cut) ∷ ns) (names_at family cuts literals (omega (arith, e)))

-- their literals
literals_at : (family : Option Family) (cuts literals : List ℕ) → length literals ≡ length cuts → map (λ (o : Output). o.literal) (map printed_output (outputs_at family cuts literals)) ≡ literals
literals_at family [] [] e = refl
literals_at family [] (l ∷ literals) e = absurd (omega (arith, e))
literals_at family (cut ∷ cuts) [] e = absurd (omega (arith, e))
literals_at family (cut ∷ cuts) (l ∷ literals) e = ap (λ ls. l ∷ ls) (literals_at family cuts literals (omega (arith, e)))

-- those of all systems
module _ (cuts : List ℕ) where
  system_names : (systems : List SystemLiterals) → ((y : SystemLiterals) → Contains systems y → length y.literals ≡ length cuts) → AreNamedBy (map (λ (y : SystemLiterals). y.system) systems) cuts (map printed_output (system_outputs cuts systems))
  system_names [] counts = refl
  system_names (y ∷ systems) counts =
      ap (map (λ (o : Output). o.name)) (map-append printed_output (outputs_at y.system.family cuts y.literals) (system_outputs cuts systems))
      ∙ map-append (λ (o : Output). o.name) (map printed_output (outputs_at y.system.family cuts y.literals)) (map printed_output (system_outputs cuts systems))
      ∙ ap (λ ns. ns ++ map (λ (o : Output). o.name) (map printed_output (system_outputs cuts systems))) (names_at y.system.family cuts y.literals (counts y (Contains-front y systems)))
      ∙ ap (λ ns. map (λ cut. family_text y.system.family ++ decimal cut) cuts ++ ns) (system_names systems (λ z here. counts z (Contains-later y systems z here)))

  system_literals : (systems : List SystemLiterals) → ((y : SystemLiterals) → Contains systems y → length y.literals ≡ length cuts) → AreLiteralsOf systems (map printed_output (system_outputs cuts systems))
  system_literals [] counts = refl
  system_literals (y ∷ systems) counts =
      ap (map (λ (o : Output). o.literal)) (map-append printed_output (outputs_at y.system.family cuts y.literals) (system_outputs cuts systems))
      ∙ map-append (λ (o : Output). o.literal) (map printed_output (outputs_at y.system.family cuts y.literals)) (map printed_output (system_outputs cuts systems))
      ∙ ap (λ ns. ns ++ map (λ (o : Output). o.literal) (map printed_output (system_outputs cuts systems))) (literals_at y.system.family cuts y.literals (counts y (Contains-front y systems)))
      ∙ ap (λ ns. y.literals ++ ns) (system_literals systems (λ z here. counts z (Contains-later y systems z here)))

-- ---- blocks

module _ (clauses : List PartClause) (settings : ScriptSettings) (format : CircuitFormat) (block : Block) (gives : GivesInterpolants clauses settings format block) where
  block_text_of : IsCircuitText format block.outputs block.bytes gives.circuit
  block_text_of = subst (λ f. IsCircuitText f block.outputs block.bytes gives.circuit) gives.format gives.is_text

  pub block_reads : IsTextOf format block.bytes gives.circuit
  block_reads = read_as format block.outputs block.bytes gives.circuit block_text_of

  pub block_is_strict : IsStrictText format block.bytes
  block_is_strict = strict_text format block.outputs block.bytes gives.circuit block_text_of

  pub block_outputs : HaveOutputs block.outputs gives.circuit.outputs
  block_outputs = have_outputs format block.outputs block.bytes gives.circuit block_text_of

  -- the literals of each system are a sequence
  pub system_sequence : (y : SystemLiterals) → Contains gives.systems y → IsSequence clauses settings.parts settings.cuts gives.circuit y.literals
  system_sequence y here = All-contains (λ (z : SystemLiterals). IsSequence clauses settings.parts settings.cuts gives.circuit z.literals) gives.systems y gives.interpolants.sequences here

  counted : (y : SystemLiterals) → Contains gives.systems y → length y.literals ≡ length settings.cuts
  counted y here = (system_sequence y here).count

  outputs_printed : map printed_output (system_outputs settings.cuts gives.systems) ≡ gives.circuit.outputs
  outputs_printed = sym (gives.is_text.outputs_are ∙ ap (map printed_output) gives.outputs_are)

  pub block_names : AreNamedBy (written_systems settings) settings.cuts gives.circuit.outputs
  block_names =
      subst (λ ys. AreNamedBy ys settings.cuts gives.circuit.outputs) gives.interpolants.systems_are
      (subst (λ os. AreNamedBy (map (λ (y : SystemLiterals). y.system) gives.systems) settings.cuts os) outputs_printed (system_names settings.cuts gives.systems counted))

  pub block_literals : AreLiteralsOf gives.systems gives.circuit.outputs
  block_literals = subst (AreLiteralsOf gives.systems) outputs_printed (system_literals settings.cuts gives.systems counted)

-- the text of one block
as_printed : (failed : List Literal) (bytes : List ℕ) → failed_text failed ++ lined_bytes (codes "a") bytes ≡ codes "s UNSATISFIABLE\nf " ++ literals_text failed ++ codes "a " ++ decimal (length bytes) ++ codes "\n" ++ bytes
as_printed failed bytes = simp append_assoc

pub text_of_block : (state : State) (assumptions : List PartLiteral) (text : List ℕ) (reply : IsRefutationReply state assumptions text) → PrintsRefutation text reply.failed reply.block.bytes
text_of_block state assumptions text reply =
    let failed : List Literal = map (λ (f : PartLiteral). f.literal) reply.failed in
    reply.text_is ∙ ap (λ bytes. failed_text failed ++ bytes) (append-nil (lined_bytes reply.block.letter reply.block.bytes) ∙ ap (λ letter. lined_bytes letter reply.block.bytes) reply.gives.letter) ∙ as_printed failed reply.block.bytes

-- ---- replies to lines

-- the clauses and the units of the assumptions, without their parts
bare-assumed : (accepted : List PartClause) (pairs : List (ℕ × ℤ)) → bare_clauses (with_units accepted (assumptions_of pairs)) ≡ map (λ (a : PartClause). a.clause) accepted ++ map (λ (pair : ℕ × ℤ). script_literal pair.1 ∷ []) pairs
bare-assumed [] [] = refl
bare-assumed [] (pair ∷ pairs) = ap (λ cs. (script_literal pair.1 ∷ []) ∷ cs) (bare-assumed [] pairs)
bare-assumed (a ∷ accepted) pairs = ap (λ cs. a.clause ∷ cs) (bare-assumed accepted pairs)

module _ (state : State) (line : Line) (text : List ℕ) where
  -- the reply is one to what the line reads as
  reply_to_reading : Reply state line text → (read : Result Command Refusal) → reading state line ≡ read → RepliesToReading state read text
  unfolding Reply
  reply_to_reading reply read is = subst (λ r. RepliesToReading state r text) is reply

  pub reply_to_nothing : Reply state line text → reading state line ≡ Ok Nothing → text ≡ []
  reply_to_nothing reply is = reply_to_reading reply (Ok Nothing) is

  pub reply_to_parts : Reply state line text → (n : ℕ) → reading state line ≡ Ok (Parts n) → text ≡ codes "ok\n"
  reply_to_parts reply n is = reply_to_reading reply (Ok (Parts n)) is

  pub reply_to_system : Reply state line text → (s : SystemWord) → reading state line ≡ Ok (System s) → text ≡ codes "ok\n"
  reply_to_system reply s is = reply_to_reading reply (Ok (System s)) is

  pub reply_to_mark : Reply state line text → (name : ℕ) (m : MarkWord) → reading state line ≡ Ok (Mark name m) → text ≡ codes "ok\n"
  reply_to_mark reply name m is = reply_to_reading reply (Ok (Mark name m)) is

  pub reply_to_cuts : Reply state line text → (cuts : CutWord) → reading state line ≡ Ok (Cuts cuts) → text ≡ codes "ok\n"
  reply_to_cuts reply cuts is = reply_to_reading reply (Ok (Cuts cuts)) is

  pub reply_to_limit : Reply state line text → (limit : Option ℕ) → reading state line ≡ Ok (Limit limit) → text ≡ codes "ok\n"
  reply_to_limit reply limit is = reply_to_reading reply (Ok (Limit limit)) is

  pub reply_to_format : Reply state line text → (f : FormatWord) → reading state line ≡ Ok (Format f) → text ≡ codes "ok\n"
  reply_to_format reply f is = reply_to_reading reply (Ok (Format f)) is

  pub reply_to_add : Reply state line text → (part : ℕ) (lits : List ℤ) → reading state line ≡ Ok (Add part lits) → text ≡ codes "ok\n"
  reply_to_add reply part lits is = reply_to_reading reply (Ok (Add part lits)) is

  pub reply_to_solve : Reply state line text → (pairs : List (ℕ × ℤ)) → reading state line ≡ Ok (Solve pairs) → MayAnswer state pairs text
  reply_to_solve reply pairs is = elim (reply_to_reading reply (Ok (Solve pairs)) is) [
    | inl model ↦ inl (model.0, model.2, subst (λ (cs : List Clause). IsModelReply cs model.0) (bare-assumed state.accepted pairs) model.1)
    | inr other ↦ elim other [
      | inl refutation ↦ inr (inl refutation)
      | inr unknown ↦ inr (inr (unknown.lemmas, unknown.many, unknown.text_is, unknown.rule.implied))
    ]
  ]

  pub reply_to_refused : Reply state line text → (refusal : Refusal) → reading state line ≡ Err refusal → text ≡ refusal_text refusal
  reply_to_refused reply refusal is = reply_to_reading reply (Err refusal) is

-- ---- states

module _ (state : State) (line : Line) where
  next_by_reading : (read : Result Command Refusal) → reading state line ≡ read → next state line ≡ obeyed_if_admitted state read
  unfolding next
  next_by_reading read is = ap (obeyed_if_admitted state) is

  pub next_after_add : (part : ℕ) (lits : List ℤ) → reading state line ≡ Ok (Add part lits) → HasAccepted state part lits (next state line)
  next_after_add part lits is = subst (HasAccepted state part lits) (sym (next_by_reading (Ok (Add part lits)) is)) (refl, refl)

  pub next_after_parts : (n : ℕ) → reading state line ≡ Ok (Parts n) → IsDivided state n (next state line)
  next_after_parts n is = subst (IsDivided state n) (sym (next_by_reading (Ok (Parts n)) is)) (refl, refl, refl, refl, refl, refl, refl)

  pub next_after_system : (s : SystemWord) → reading state line ≡ Ok (System s) → next state line ≡ with_system state s
  next_after_system s is = next_by_reading (Ok (System s)) is

  pub next_after_mark : (name : ℕ) (m : MarkWord) (label : Label) → IsMarkFor m label → reading state line ≡ Ok (Mark name m) → next state line ≡ with_mark state name label
  next_after_mark name mark.A label stands is = next_by_reading (Ok (Mark name mark.A)) is ∙ ap (with_mark state name) (sym stands)
  next_after_mark name mark.Ab label stands is = next_by_reading (Ok (Mark name mark.Ab)) is ∙ ap (with_mark state name) (sym stands)
  next_after_mark name mark.B label stands is = next_by_reading (Ok (Mark name mark.B)) is ∙ ap (with_mark state name) (sym stands)

  pub next_after_limit : (limit : Option ℕ) → reading state line ≡ Ok (Limit limit) → next state line ≡ with_limit state limit
  next_after_limit limit is = next_by_reading (Ok (Limit limit)) is

  pub next_after_format : (f : FormatWord) → reading state line ≡ Ok (Format f) → next state line ≡ with_format state f
  next_after_format f is = next_by_reading (Ok (Format f)) is

  pub next_after_cuts : (w : CutWord) → reading state line ≡ Ok (Cuts w) → HasCuts state w (next state line)
  next_after_cuts cut.All is = next_by_reading (Ok (Cuts cut.All)) is
  next_after_cuts (cut.Chosen numbers) is = next_by_reading (Ok (Cuts (cut.Chosen numbers))) is

  pub next_after_nothing : reading state line ≡ Ok Nothing → next state line ≡ state
  next_after_nothing is = next_by_reading (Ok Nothing) is

  pub next_after_solve : (pairs : List (ℕ × ℤ)) → reading state line ≡ Ok (Solve pairs) → next state line ≡ state
  next_after_solve pairs is = next_by_reading (Ok (Solve pairs)) is

  pub next_after_refused : (refusal : Refusal) → reading state line ≡ Err refusal → next state line ≡ state
  next_after_refused refusal is = next_by_reading (Err refusal) is
