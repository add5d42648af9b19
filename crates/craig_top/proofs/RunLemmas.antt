-- How far a run has come, read by read, and how it may end.
use Rattle.std.proofs.Common.{◌≡◌, ◌∙◌, ◌≤◌, ◌<◌, ◌+◌, length-append, sym, ap, subst, List, ℕ, zero, suc, [], ◌++◌, refl, length, take, drop, inl, inr, Option, Some, map, Ok, Err, arith}
use Rattle.std.proofs.lemmas.List.{append_assoc, append-nil, take-append-drop, map-append}
use Rattle.craig_io.specs.ToldBytes.{StaysTold}
use Rattle.craig_io.specs.Source.{TakesFirst}
use Rattle.craig_script.specs.declared.line.Line.{Line}
use Rattle.craig_script.specs.Lines as cut
use Rattle.craig_script.proofs.LinesLemmas.{fed-fed, fed-before_first_byte, script_lines-ended, whole_lines-append}
use Rattle.craig_top.specs.declared.settings.Settings.{Settings}
use Rattle.craig_top.specs.declared.status.Status.TheVariants as status
use Rattle.craig_top.specs.declared.run.Stop.{Stop}
use Rattle.craig_top.specs.declared.run.Stop.TheVariants as stop
use Rattle.craig_top.specs.GivenState.{State, start, after}
use Rattle.craig_top.specs.Transcript.{Transcript, BeginsTranscript, BreaksOff}
use Rattle.craig_top.specs.Emptied.{emptied}
use Rattle.craig_top.specs.Ending.{whole, Promise, EndsDone}
use Rattle.craig_top.specs.declared.status.Status.{Status}
use Rattle.craig_top.specs.Puts.{Puts, Stopped}
use Rattle.craig_top.specs.StopStatus.{status_of}
use Rattle.craig_top.specs.Progress.{Progress, StepLeaves}
use Rattle.craig_top.proofs.TranscriptLemmas.{after-append, BeginsTranscript-after, BreaksOff-after, Transcript-append}

-- ---- the lines of a stream that comes in pieces

-- the lines that a piece more makes whole
whole-append : (taken piece : List ℕ) (lines : cut.LinesView) → lines ≡ emptied (cut.fed cut.before_first_byte taken) → whole (taken ++ piece) ≡ whole taken ++ (cut.fed lines piece).ready
whole-append taken piece lines e =
    sym (ap (λ (c : cut.LinesView). c.ready) (fed-fed cut.before_first_byte taken piece)) ∙ ap (λ (c : cut.LinesView). whole taken ++ (cut.fed c piece).ready) (sym e)

lines-append : (taken piece : List ℕ) (lines : cut.LinesView) → lines ≡ emptied (cut.fed cut.before_first_byte taken) → emptied (cut.fed lines piece) ≡ emptied (cut.fed cut.before_first_byte (taken ++ piece))
lines-append taken piece lines e = ap (λ (c : cut.LinesView). emptied (cut.fed c piece)) e ∙ ap emptied (fed-fed cut.before_first_byte taken piece)

-- all lines of a stream that has ended
all_lines : (taken : List ℕ) (lines : cut.LinesView) → lines ≡ emptied (cut.fed cut.before_first_byte taken) → cut.script_lines taken ≡ whole taken ++ (cut.ended lines).ready
all_lines taken lines e = sym (script_lines-ended taken) ∙ ap (λ (c : cut.LinesView). whole taken ++ (cut.ended c).ready) (sym e)

-- the whole lines of what was taken are the first lines of the script
script_lines-begins : (taken rest : List ℕ) → (more : List Line) × (cut.script_lines (taken ++ rest) ≡ whole taken ++ more)
script_lines-begins taken rest = (
  map cut.line_of (cut.whole_lines (cut.last_part taken ++ rest) ++ cut.unless_empty (cut.last_part (taken ++ rest))),
  ap (λ ls. map cut.line_of (ls ++ cut.unless_empty (cut.last_part (taken ++ rest)))) (whole_lines-append taken rest)
      ∙ ap (map cut.line_of) (append_assoc (cut.whole_lines taken) (cut.whole_lines (cut.last_part taken ++ rest)) (cut.unless_empty (cut.last_part (taken ++ rest))))
      ∙ map-append cut.line_of (cut.whole_lines taken) (cut.whole_lines (cut.last_part taken ++ rest) ++ cut.unless_empty (cut.last_part (taken ++ rest))),
)

-- ---- progress

pub Progress-start : (settings : Settings) (left held : Option (List ℕ)) (session : State) (lines : cut.LinesView) → session ≡ start settings → lines ≡ cut.before_first_byte → Progress settings left held left held session lines []
Progress-start settings left held session lines e f = record {
  lines_are = f ∙ sym (ap emptied fed-before_first_byte);
  session_is = e;
  told = λ all h. (all, refl, h);
  put = λ text h. ([], refl, h ∙ ap Some (sym (append-nil text)));
}

-- what a read takes of the bytes that are left
abbrev pub Takes : (piece : List ℕ) → (before later : Option (List ℕ)) → Type 0
Takes piece before later = (bytes : List ℕ) → before ≡ Some bytes → (rest : List ℕ) × (bytes ≡ piece ++ rest) × (later ≡ Some rest)

pub Takes-read : (n : ℕ) (into : List ℕ) (before later : Option (List ℕ)) → TakesFirst n into before later → Takes (take n into) before later
Takes-read n into before later t = λ bytes e. (drop n bytes, sym (take-append-drop n bytes) ∙ ap (λ z. z ++ drop n bytes) (sym (t.stand bytes e)), t.gone bytes e)

-- a piece more was taken and answered
pub Progress-more : (settings : Settings) (lb hb l1 h1 l2 h2 : Option (List ℕ)) (session1 session2 : State) (lines1 lines2 : cut.LinesView) (taken piece : List ℕ)
    → Progress settings lb hb l1 h1 session1 lines1 taken → Takes piece l1 l2 → lines2 ≡ emptied (cut.fed lines1 piece) → session2 ≡ after session1 (cut.fed lines1 piece).ready
    → Puts h1 h2 (Transcript session1 (cut.fed lines1 piece).ready) → Progress settings lb hb l2 h2 session2 lines2 (taken ++ piece)
Progress-more settings lb hb l1 h1 l2 h2 session1 session2 lines1 lines2 taken piece p takes e f puts =
    let more : whole (taken ++ piece) ≡ whole taken ++ (cut.fed lines1 piece).ready = whole-append taken piece lines1 p.lines_are in
    record {
      lines_are = e ∙ lines-append taken piece lines1 p.lines_are;
      session_is = f ∙ ap (λ (st : State). after st (cut.fed lines1 piece).ready) p.session_is ∙ sym (after-append (start settings) (whole taken) (cut.fed lines1 piece).ready)
          ∙ ap (after (start settings)) (sym more);
      told = λ all h. let before = p.told all h in let now = takes before.0 before.2 in
          (now.0, before.1 ∙ ap (λ z. taken ++ z) now.1 ∙ sym (append_assoc taken piece now.0), now.2);
      put = λ held h. let before = p.put held h in let now = puts (held ++ before.0) before.2 in (
        before.0 ++ now.0,
        subst (λ ls. Transcript (start settings) ls (before.0 ++ now.0)) (sym more)
            (Transcript-append (start settings) (whole taken) (cut.fed lines1 piece).ready before.0 now.0 before.1 (subst (λ (st : State). Transcript st (cut.fed lines1 piece).ready now.0) p.session_is now.1)),
        now.2 ∙ ap Some (append_assoc held before.0 now.0),
      );
    }

-- ---- endings

-- the run was stopped while it answered the lines of ready, which follow those that are whole
pub Promise-stopped : (settings : Settings) (bound : ℕ) (lb hb l1 h1 l2 h2 : Option (List ℕ)) (session : State) (lines : cut.LinesView) (taken : List ℕ) (ready : List Line) (s : Stop)
    → Progress settings lb hb l1 h1 session lines taken
    → ((rest : List ℕ) → l1 ≡ Some rest → (piece : List ℕ) × (left : List ℕ) × (more : List Line) × (rest ≡ piece ++ left) × (l2 ≡ Some left) × (length (taken ++ piece) ≤ bound)
    × (cut.script_lines ((taken ++ piece) ++ left) ≡ (whole taken ++ ready) ++ more))
    → Stopped s session ready h1 h2 → Promise settings bound (status_of (Err s)) lb l2 hb h2
Promise-stopped settings bound lb hb l1 h1 l2 h2 session lines taken ready stop.NoMemory p next stopped = λ all h.
    let before = p.told all h in
    let now = next before.0 before.2 in (
      taken ++ now.0,
      now.1,
      before.1 ∙ ap (λ z. taken ++ z) now.3 ∙ sym (append_assoc taken now.0 now.1),
      now.4,
      now.5,
      λ held k.
          let first = p.put held k in
          let then = stopped (held ++ first.0) first.2 in (
            first.0 ++ then.0,
            then.2 ∙ ap Some (append_assoc held first.0 then.0),
            subst (λ ls. BeginsTranscript (start settings) ls (first.0 ++ then.0)) (sym now.6)
                (BeginsTranscript-after (start settings) (whole taken) ready now.2 first.0 then.0 first.1 (subst (λ (st : State). BeginsTranscript st ready then.0) p.session_is then.1)),
          ),
    )
Promise-stopped settings bound lb hb l1 h1 l2 h2 session lines taken ready stop.WriteFault p next stopped = λ all h.
    let before = p.told all h in
    let now = next before.0 before.2 in (
      taken ++ now.0,
      now.1,
      before.1 ∙ ap (λ z. taken ++ z) now.3 ∙ sym (append_assoc taken now.0 now.1),
      now.4,
      now.5,
      λ held k.
          let first = p.put held k in
          let then = stopped (held ++ first.0) first.2 in (
            first.0 ++ then.0,
            then.2 ∙ ap Some (append_assoc held first.0 then.0),
            subst (λ ls. BreaksOff (start settings) ls (first.0 ++ then.0)) (sym now.6)
                (BreaksOff-after (start settings) (whole taken) ready now.2 first.0 then.0 first.1 (subst (λ (st : State). BreaksOff st ready then.0) p.session_is then.1)),
          ),
    )

-- a piece more was taken, and answering its lines stopped
pub Promise-piece : (settings : Settings) (bound : ℕ) (lb hb l1 h1 l2 h2 : Option (List ℕ)) (session : State) (lines : cut.LinesView) (taken piece : List ℕ) (s : Stop)
    → Progress settings lb hb l1 h1 session lines taken → length taken + length piece ≤ bound → Takes piece l1 l2 → Stopped s session (cut.fed lines piece).ready h1 h2
    → Promise settings bound (status_of (Err s)) lb l2 hb h2
Promise-piece settings bound lb hb l1 h1 l2 h2 session lines taken piece s p within takes stopped =
    Promise-stopped settings bound lb hb l1 h1 l2 h2 session lines taken (cut.fed lines piece).ready s p
    (λ rest f.
    let now = takes rest f in
    let begins = script_lines-begins (taken ++ piece) now.0 in
    (piece, now.0, begins.0, now.1, now.2, omega (arith, length-append taken piece), begins.1 ∙ ap (λ ls. ls ++ begins.0) (whole-append taken piece lines p.lines_are)))
    stopped

-- the input has ended: nothing is left
abbrev pub IsAtEnd : (before later : Option (List ℕ)) → Type 0
IsAtEnd before later = (bytes : List ℕ) → before ≡ Some bytes → (bytes ≡ []) × (later ≡ Some [])

pub IsAtEnd-read : (n : ℕ) (into : List ℕ) (before later : Option (List ℕ)) → n ≡ 0 → TakesFirst n into before later → IsAtEnd before later
IsAtEnd-read n into before later z t = λ bytes e. let none = t.end bytes e z in (none, t.gone bytes e ∙ ap Some (rw (none, z) refl))

-- the input has ended, and answering the last line stopped
pub Promise-end : (settings : Settings) (bound : ℕ) (lb hb l1 h1 l2 h2 : Option (List ℕ)) (session : State) (lines : cut.LinesView) (taken : List ℕ) (s : Stop)
    → Progress settings lb hb l1 h1 session lines taken → length taken < bound → IsAtEnd l1 l2 → Stopped s session (cut.ended lines).ready h1 h2 → Promise settings bound (status_of (Err s)) lb l2 hb h2
Promise-end settings bound lb hb l1 h1 l2 h2 session lines taken s p below ended stopped =
    Promise-stopped settings bound lb hb l1 h1 l2 h2 session lines taken (cut.ended lines).ready s p
    (λ rest f.
    let now = ended rest f in
    let same : (taken ++ []) ++ [] ≡ taken = append-nil (taken ++ []) ∙ append-nil taken in (
      [],
      [],
      [],
      now.0,
      now.1,
      omega (arith, ap length (append-nil taken)),
      ap cut.script_lines same ∙ all_lines taken lines p.lines_are ∙ sym (append-nil (whole taken ++ (cut.ended lines).ready)),
    ))
    stopped

-- the input has ended, and all its lines are answered
pub Promise-done : (settings : Settings) (bound : ℕ) (lb hb l1 h1 l2 h2 : Option (List ℕ)) (session : State) (lines : cut.LinesView) (taken : List ℕ)
    → Progress settings lb hb l1 h1 session lines taken → length taken < bound → IsAtEnd l1 l2 → Puts h1 h2 (Transcript session (cut.ended lines).ready) → Promise settings bound status.Done lb l2 hb h2
Promise-done settings bound lb hb l1 h1 l2 h2 session lines taken p below ended puts = λ all h.
    let before = p.told all h in
    let now = ended before.0 before.2 in (
      taken,
      [],
      before.1 ∙ ap (λ z. taken ++ z) now.0,
      now.1,
      (refl, below),
      λ held k.
          let first = p.put held k in
          let then = puts (held ++ first.0) first.2 in (
            first.0 ++ then.0,
            then.2 ∙ ap Some (append_assoc held first.0 then.0),
            subst (λ ls. Transcript (start settings) ls (first.0 ++ then.0)) (sym (all_lines taken lines p.lines_are))
                (Transcript-append (start settings) (whole taken) (cut.ended lines).ready first.0 then.0 first.1 (subst (λ (st : State). Transcript st (cut.ended lines).ready then.0) p.session_is then.1)),
          ),
    )

-- a read failed
pub Promise-read_fault : (settings : Settings) (bound : ℕ) (lb hb l1 h1 l2 : Option (List ℕ)) (session : State) (lines : cut.LinesView) (taken : List ℕ)
    → Progress settings lb hb l1 h1 session lines taken → length taken < bound → StaysTold l1 l2 → Promise settings bound status.ReadFault lb l2 hb h1
Promise-read_fault settings bound lb hb l1 h1 l2 session lines taken p below stays = λ all h.
    let before = p.told all h in
    (taken, before.0, before.1, stays.same before.0 before.2, below, λ held k. let first = p.put held k in (first.0, first.2, first.1))

-- the bound is reached
pub Promise-too_long : (settings : Settings) (bound : ℕ) (lb hb l1 h1 : Option (List ℕ)) (session : State) (lines : cut.LinesView) (taken : List ℕ)
    → Progress settings lb hb l1 h1 session lines taken → length taken ≡ bound → Promise settings bound status.TooLong lb l1 hb h1
Promise-too_long settings bound lb hb l1 h1 session lines taken p reached = λ all h.
    let before = p.told all h in
    (taken, before.0, before.1, before.2, reached, λ held k. let first = p.put held k in (first.0, first.2, first.1))

-- memory ran out before the first read
pub Promise-unread : (settings : Settings) (bound : ℕ) (left held : Option (List ℕ)) → Promise settings bound status.NoMemory left left held held
Promise-unread settings bound left held = λ all h. ([], all, refl, h, omega arith, λ text k. ([], k ∙ ap Some (sym (append-nil text)), ([], cut.script_lines all, refl, refl)))

-- ---- what a step leaves, by the number of bytes that it took

pub StepLeaves-more : (settings : Settings) (bound : ℕ) (lb hb l h : Option (List ℕ)) (session : State) (lines : cut.LinesView) (taken piece : List ℕ) (n : ℕ) → (n ≡ 0 → ⊥)
    → Progress settings lb hb l h session lines (taken ++ take n piece) → StepLeaves settings bound lb hb l h session lines taken piece (Ok n)
StepLeaves-more settings bound lb hb l h session lines taken piece zero some p = absurd (some refl)
StepLeaves-more settings bound lb hb l h session lines taken piece (suc n) some p = p

pub StepLeaves-go : (settings : Settings) (bound : ℕ) (lb hb l h : Option (List ℕ)) (session : State) (lines : cut.LinesView) (taken piece : List ℕ) (n : ℕ) → (n ≡ 0 → ⊥)
    → StepLeaves settings bound lb hb l h session lines taken piece (Ok n) → Progress settings lb hb l h session lines (taken ++ take n piece)
StepLeaves-go settings bound lb hb l h session lines taken piece zero some leaves = absurd (some refl)
StepLeaves-go settings bound lb hb l h session lines taken piece (suc n) some leaves = leaves

pub StepLeaves-done : (settings : Settings) (bound : ℕ) (lb hb l h : Option (List ℕ)) (session : State) (lines : cut.LinesView) (taken piece : List ℕ) (n : ℕ) → n ≡ 0
    → StepLeaves settings bound lb hb l h session lines taken piece (Ok n) → Promise settings bound status.Done lb l hb h
StepLeaves-done settings bound lb hb l h session lines taken piece zero none leaves = leaves
StepLeaves-done settings bound lb hb l h session lines taken piece (suc n) none leaves = absurd (omega arith)

-- ---- completeness

pub EndsDone-from : (settings : Settings) (bound : ℕ) (s : Status) (lb la hb ha : Option (List ℕ)) (read_failed write_failed : Type 0) → Promise settings bound s lb la hb ha
    → (s ≡ status.ReadFault → read_failed) → (s ≡ status.WriteFault → write_failed) → (s ≡ status.Usage → ⊥) → EndsDone bound s lb read_failed write_failed
EndsDone-from settings bound status.Done lb la hb ha rf wf p r w u = λ all h short no_read no_write. inl refl
EndsDone-from settings bound status.Usage lb la hb ha rf wf p r w u = λ all h short no_read no_write. absurd (u refl)
EndsDone-from settings bound status.ReadFault lb la hb ha rf wf p r w u = λ all h short no_read no_write. absurd (no_read (r refl))
EndsDone-from settings bound status.WriteFault lb la hb ha rf wf p r w u = λ all h short no_read no_write. absurd (no_write (w refl))
EndsDone-from settings bound status.TooLong lb la hb ha rf wf p r w u = λ all h short no_read no_write.
    let kept = p all h in
    let same : length all ≡ length kept.0 + length kept.1 = ap length kept.2 ∙ length-append kept.0 kept.1 in
    let reached : length kept.0 ≡ bound = kept.4 in
    absurd (omega arith)
EndsDone-from settings bound status.NoMemory lb la hb ha rf wf p r w u = λ all h short no_read no_write. inr refl
