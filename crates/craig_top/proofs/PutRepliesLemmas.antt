-- The replies that a transcript is made of, and what a run has taken and put.
use Rattle.std.proofs.Common.{◌≡◌, ◌∙◌, sym, ap, subst, refl, ◌⊎◌, inl, inr, ℕ, zero, suc, ◌+◌, ◌<◌, ◌≤◌, List, [], ◌∷◌, ◌++◌, length, take, map, Option, Some, slice_get, arith, length-append}
use Rattle.std.proofs.Math.Seq.{take-append_seam}
use Rattle.std.proofs.lemmas.List.{append-nil}
use Rattle.craig_spec.proofs.MemberLemmas.{slice_get-front}
use Rattle.craig_script.specs.declared.line.Line.{Line}
use Rattle.craig_script.specs.Lines.{line_of, script_lines, whole_lines}
use Rattle.craig_top.specs.declared.settings.Settings.{Settings}
use Rattle.craig_top.specs.declared.status.Status.{Status}
use Rattle.craig_top.specs.declared.status.Status.TheVariants.{Done, Usage, ReadFault, WriteFault, TooLong, NoMemory}
use Rattle.craig_top.specs.Ending.{EndsDone, Promise}
use Rattle.craig_top.specs.GivenState.{State, next, after, start}
use Rattle.craig_top.specs.PutReplies.{AreFirstReplies, AreReplies, EachIsAnswered, StandsBehind, IsBrokenOff, IsDoneOrNoMemory, Takes}
use Rattle.craig_top.specs.Reply.{Reply}
use Rattle.craig_top.specs.Transcript.{BeginsTranscript, BreaksOff, Transcript}

-- one line more in front
answered-more : (state : State) (line : Line) (lines : List Line) (reply : List ℕ) (replies : List (List ℕ)) → Reply state line reply → EachIsAnswered (next state line) lines replies → EachIsAnswered state (line ∷ lines) (reply ∷ replies)
answered-more state line lines reply replies first others zero l is =
    let same : line ≡ l = cc in
    (reply, refl, subst (λ (m : Line). Reply state m reply) same first)
answered-more state line lines reply replies first others (suc i) l is = others i l is

pub transcript_replies : (state : State) (lines : List Line) (text : List ℕ) → Transcript state lines text → AreReplies state lines text
transcript_replies state [] text is = ([], refl, (λ i line no. absurd (cc)), is)
transcript_replies state (line ∷ lines) text (reply, rest, allowed, others, is) =
    let found = transcript_replies (next state line) lines rest others in (
      reply ∷ found.0,
      (let count : length found.0 ≡ length lines = found.1 in omega (arith, count)),
      answered-more state line lines reply found.0 allowed found.2,
      is ∙ ap (λ z. reply ++ z) found.3,
    )

-- the front of a list
take-front : {A : Type 0} (front back : List A) → take (length front) (front ++ back) ≡ front
take-front front back = take-append_seam front back

pub begun_replies : (state : State) (lines : List Line) (text : List ℕ) → BeginsTranscript state lines text → AreFirstReplies state lines text
begun_replies state lines text (answered, others, here, transcript) = (
  length answered,
  (let count : length lines ≡ length answered + length others = ap length here ∙ length-append answered others in omega (arith, count)),
  subst (λ ls. AreReplies state ls text) (sym (ap (take (length answered)) here ∙ take-front answered others)) (transcript_replies state answered text transcript),
)

pub broken_off : (state : State) (lines : List Line) (text : List ℕ) → BreaksOff state lines text → IsBrokenOff state lines text
broken_off state lines text (answered, line, others, here, whole, transcript, front, back, reply, is) =
    let first : answered ≡ take (length answered) lines = sym (ap (take (length answered)) here ∙ take-front answered (line ∷ others)) in (
      length answered,
      line,
      ap (λ ls. slice_get ls (length answered)) here ∙ slice_get-front answered line others,
      whole,
      subst (λ ls. AreReplies state ls whole) first (transcript_replies state answered whole transcript),
      front,
      back,
      subst (λ ls. Reply (after state ls) line (front ++ back)) first reply,
      is,
    )

module _ (settings : Settings) (bound : ℕ) (all : List ℕ) (left : Option (List ℕ)) where
  -- ---- which bytes were taken
  pub taken-done : (held later : Option (List ℕ)) → Promise settings bound Done (Some all) left held later → (left ≡ Some []) × (length all < bound)
  taken-done held later promise =
      let p = promise all refl in
      let same : all ≡ p.0 = p.2 ∙ ap (λ z. p.0 ++ z) p.4.0 ∙ append-nil p.0 in
      (p.3 ∙ ap Some p.4.0, subst (λ z. length z < bound) (sym same) p.4.1)

  pub taken-usage : (held later : Option (List ℕ)) → Promise settings bound Usage (Some all) left held later → left ≡ Some all
  taken-usage held later promise =
      let p = promise all refl in
      p.3 ∙ ap Some (sym (p.2 ∙ ap (λ z. z ++ p.1) p.4))

  pub taken-read_fault : (held later : Option (List ℕ)) → Promise settings bound ReadFault (Some all) left held later → Takes all left (λ taken. length taken < bound)
  taken-read_fault held later promise = let p = promise all refl in (p.0, (p.1, p.2, p.3), p.4)

  pub taken-write_fault : (held later : Option (List ℕ)) → Promise settings bound WriteFault (Some all) left held later → Takes all left (λ taken. length taken ≤ bound)
  taken-write_fault held later promise = let p = promise all refl in (p.0, (p.1, p.2, p.3), p.4)

  pub taken-too_long : (held later : Option (List ℕ)) → Promise settings bound TooLong (Some all) left held later → Takes all left (λ taken. length taken ≡ bound)
  taken-too_long held later promise = let p = promise all refl in (p.0, (p.1, p.2, p.3), p.4)

  pub taken-no_memory : (held later : Option (List ℕ)) → Promise settings bound NoMemory (Some all) left held later → Takes all left (λ taken. length taken ≤ bound)
  taken-no_memory held later promise = let p = promise all refl in (p.0, (p.1, p.2, p.3), p.4)

  -- ---- which replies were put
  module _ (held : List ℕ) (later : Option (List ℕ)) where
    pub put-done : Promise settings bound Done (Some all) left (Some held) later → StandsBehind held later (AreReplies (start settings) (script_lines all))
    put-done promise =
        let p = promise all refl in
        let same : p.0 ≡ all = sym (p.2 ∙ ap (λ z. p.0 ++ z) p.4.0 ∙ append-nil p.0) in
        let t = p.5 held refl in
        (t.0, t.1, subst (λ z. AreReplies (start settings) (script_lines z) t.0) same (transcript_replies (start settings) (script_lines p.0) t.0 t.2))

    pub put-usage : Promise settings bound Usage (Some all) left (Some held) later → later ≡ Some held
    put-usage promise =
        let p = promise all refl in
        let t = p.5 held refl in
        t.1 ∙ ap (λ z. Some (held ++ z)) t.2 ∙ ap Some (append-nil held)

    pub put-read_fault : Promise settings bound ReadFault (Some all) left (Some held) later → Takes all left (λ taken. StandsBehind held later (AreReplies (start settings) (map line_of (whole_lines taken))))
    put-read_fault promise =
        let p = promise all refl in
        let t = p.5 held refl in
        (p.0, (p.1, p.2, p.3), (t.0, t.1, transcript_replies (start settings) (map line_of (whole_lines p.0)) t.0 t.2))

    pub put-write_fault : Promise settings bound WriteFault (Some all) left (Some held) later → StandsBehind held later (IsBrokenOff (start settings) (script_lines all))
    put-write_fault promise =
        let p = promise all refl in
        let t = p.5 held refl in
        (t.0, t.1, subst (λ z. IsBrokenOff (start settings) (script_lines z) t.0) (sym p.2) (broken_off (start settings) (script_lines (p.0 ++ p.1)) t.0 t.2))

    pub put-too_long : Promise settings bound TooLong (Some all) left (Some held) later → Takes all left (λ taken. StandsBehind held later (AreReplies (start settings) (map line_of (whole_lines taken))))
    put-too_long promise =
        let p = promise all refl in
        let t = p.5 held refl in
        (p.0, (p.1, p.2, p.3), (t.0, t.1, transcript_replies (start settings) (map line_of (whole_lines p.0)) t.0 t.2))

    pub put-no_memory : Promise settings bound NoMemory (Some all) left (Some held) later → StandsBehind held later (AreFirstReplies (start settings) (script_lines all))
    put-no_memory promise =
        let p = promise all refl in
        let t = p.5 held refl in
        (t.0, t.1, subst (λ z. AreFirstReplies (start settings) (script_lines z) t.0) (sym p.2) (begun_replies (start settings) (script_lines (p.0 ++ p.1)) t.0 t.2))

-- ---- how a run ends that nothing stops

done_or_no_memory : (status : Status) → (status ≡ Done) ⊎ (status ≡ NoMemory) → IsDoneOrNoMemory status
done_or_no_memory status (inl is) = ((λ no. absurd (cc)), (λ no. absurd (cc)), (λ no. absurd (cc)), (λ no. absurd (cc)))
done_or_no_memory status (inr is) = ((λ no. absurd (cc)), (λ no. absurd (cc)), (λ no. absurd (cc)), (λ no. absurd (cc)))

pub ends_done : (bound : ℕ) (status : Status) (all : List ℕ) (read_failed write_failed : Type 0) → EndsDone bound status (Some all) read_failed write_failed → length all < bound → ¬ read_failed → ¬ write_failed → IsDoneOrNoMemory status
ends_done bound status all read_failed write_failed ends below reads writes = done_or_no_memory status (ends all refl below reads writes)
