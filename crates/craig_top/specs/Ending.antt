-- What a run of a script has read and put when it ends.
use Rattle.std.specs.Prelude.{◌≡◌, ℕ, ◌<◌, ◌≤◌, List, [], ◌++◌, length, map, Option, Some, ◌⊎◌}
use Rattle.craig_io.specs.Faults.{Rose}
use Rattle.craig_script.specs.declared.line.Line.{Line}
use Rattle.craig_script.specs.Lines.{line_of, whole_lines, script_lines}
use Rattle.craig_top.specs.declared.settings.Settings.{Settings}
use Rattle.craig_top.specs.declared.status.Status.{Status}
use Rattle.craig_top.specs.declared.status.Status.TheVariants.{Done, Usage, ReadFault, WriteFault, TooLong, NoMemory}
use Rattle.craig_top.specs.GivenState.{start}
use Rattle.craig_top.specs.Transcript.{Transcript, BeginsTranscript, BreaksOff}

-- the lines whose newline is among the bytes
abbrev pub whole : List ℕ → List Line
whole taken = map line_of (whole_lines taken)

-- which bytes a run takes that ends with this status: the others are the rest
abbrev pub Taken : (bound : ℕ) → Status → (taken rest : List ℕ) → Type 0
Taken bound Done taken rest = (rest ≡ []) × (length taken < bound)
Taken bound Usage taken rest = taken ≡ []
Taken bound ReadFault taken rest = length taken < bound
Taken bound WriteFault taken rest = length taken ≤ bound
Taken bound TooLong taken rest = length taken ≡ bound
Taken bound NoMemory taken rest = length taken ≤ bound

-- which text it puts: all replies, those to the lines that were whole, those to some lines from the first on, or these
-- and the beginning of the next one
abbrev pub Answered : Settings → Status → (taken rest text : List ℕ) → Type 0
Answered settings Done taken rest text = Transcript (start settings) (script_lines taken) text
Answered settings Usage taken rest text = text ≡ []
Answered settings ReadFault taken rest text = Transcript (start settings) (whole taken) text
Answered settings WriteFault taken rest text = BreaksOff (start settings) (script_lines (taken ++ rest)) text
Answered settings TooLong taken rest text = Transcript (start settings) (whole taken) text
Answered settings NoMemory taken rest text = BeginsTranscript (start settings) (script_lines (taken ++ rest)) text

-- where the source told all of its bytes, some of them were taken and the rest is left; and where the sink told those
-- that it held, a text was put behind them
abbrev pub Promise : Settings → (bound : ℕ) → Status → (left_before left_after held_before held_after : Option (List ℕ)) → Type 0
Promise settings bound status left_before left_after held_before held_after =
    (all : List ℕ) → left_before ≡ Some all →
    (taken : List ℕ) × (rest : List ℕ) × (all ≡ taken ++ rest) × (left_after ≡ Some rest) × Taken bound status taken rest
    × ((held : List ℕ) → held_before ≡ Some held → (text : List ℕ) × (held_after ≡ Some (held ++ text)) × Answered settings status taken rest text)

-- a script that is told, and is shorter than the bound, is answered to its end where no read and no write failed, or
-- memory ran out
abbrev pub EndsDone : (bound : ℕ) → Status → (left_before : Option (List ℕ)) → (read_failed write_failed : Type 0) → Type 0
EndsDone bound status left_before read_failed write_failed =
    (all : List ℕ) → left_before ≡ Some all → length all < bound → ¬ read_failed → ¬ write_failed → (status ≡ Done) ⊎ (status ≡ NoMemory)

-- the same where the counts of failed reads and of failed writes tell whether one failed
abbrev pub EndsDoneIfQuiet : {R W : Type 0} → (bound : ℕ) → Status → (left_before : Option (List ℕ)) → (R → ℕ) → (source_before source_after : R) → (W → ℕ) → (sink_before sink_after : W) → Type 0
EndsDoneIfQuiet bound status left_before reads source_before source_after writes sink_before sink_after =
    EndsDone bound status left_before (Rose (reads source_before) (reads source_after)) (Rose (writes sink_before) (writes sink_after))
