-- How far a run has come, and what one read more leaves.
use Rattle.std.specs.Prelude.{◌≡◌, ◌≢◌, ℕ, zero, suc, List, ◌++◌, take, Option, Some, Result, Ok, Err}
use Rattle.craig_script.specs.Lines as cut
use Rattle.craig_top.specs.declared.settings.Settings.{Settings}
use Rattle.craig_top.specs.declared.status.Status.{Status}
use Rattle.craig_top.specs.declared.status.Status.TheVariants.{Done, Usage, TooLong}
use Rattle.craig_top.specs.GivenState.{State, start, after}
use Rattle.craig_top.specs.Transcript.{Transcript}
use Rattle.craig_top.specs.Emptied.{emptied}
use Rattle.craig_top.specs.Ending.{whole, Promise}
use Rattle.craig_top.specs.Puts.{Puts}

-- these bytes were taken of the source, the lines whose newline is among them are answered, and what comes after waits
pub record Progress (settings : Settings) (left_before held_before left_now held_now : Option (List ℕ)) (session : State) (lines : cut.LinesView) (taken : List ℕ) : Type 0 where
  -- what came after the last newline waits
  pub lines_are : lines ≡ emptied (cut.fed cut.before_first_byte taken)
  -- the session has answered the whole lines
  pub session_is : session ≡ after (start settings) (whole taken)
  -- the bytes taken are gone of the source
  pub told : (all : List ℕ) → left_before ≡ Some all → (rest : List ℕ) × (all ≡ taken ++ rest) × (left_now ≡ Some rest)
  -- the replies to the whole lines are put
  pub put : Puts held_before held_now (Transcript (start settings) (whole taken))

-- the status says that a fault or want of memory ended the run
abbrev pub IsStop : Status → Type 0
IsStop status = (status ≢ Done) × (status ≢ Usage) × (status ≢ TooLong)

-- after one read more, which had these bytes in its piece: the first of them were taken and answered, or the run is
-- done, or it stops
abbrev pub StepLeaves : Settings → (bound : ℕ) → (left_before held_before left_now held_now : Option (List ℕ)) → State → cut.LinesView → (taken piece : List ℕ) → Result ℕ Status → Type 0
StepLeaves settings bound left_before held_before left_now held_now session lines taken piece (Ok zero) = Promise settings bound Done left_before left_now held_before held_now
StepLeaves settings bound left_before held_before left_now held_now session lines taken piece (Ok (suc n)) =
    Progress settings left_before held_before left_now held_now session lines (taken ++ take (suc n) piece)
StepLeaves settings bound left_before held_before left_now held_now session lines taken piece (Err status) = Promise settings bound status left_before left_now held_before held_now
