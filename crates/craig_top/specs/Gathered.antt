-- Replies that are gathered, and replies that are put.
use Rattle.std.specs.Prelude.{◌≡◌, ℕ, List, ◌++◌, Option}
use Rattle.craig_script.specs.declared.line.Line.{Line}
use Rattle.craig_script.specs.Lines.{LinesView}
use Rattle.craig_top.specs.GivenState.{State, after}
use Rattle.craig_top.specs.Puts.{Puts}
use Rattle.craig_top.specs.Transcript.{Transcript}

-- the text is the replies to some of the lines that waited, from the first on, and the others wait still
pub record Gathers (first now : State) (waited wait : LinesView) (text : List ℕ) : Type 0 where
  -- the lines that are answered
  pub answered : List Line
  -- they stood in front of those that wait
  pub ready : waited.ready ≡ answered ++ wait.ready
  -- the stream is as it was but for them
  pub lines : wait ≡ record waited { ready = wait.ready }
  -- the session has answered them
  pub session : now ≡ after first answered
  -- the text is their replies
  pub replies : Transcript first answered text

-- some of the lines that waited are answered, from the first on, with their replies put, and the others wait still
pub record AnswersAndPuts (first now : State) (waited wait : LinesView) (before later : Option (List ℕ)) : Type 0 where
  -- the lines that are answered
  pub answered : List Line
  -- they stood in front of those that wait
  pub ready : waited.ready ≡ answered ++ wait.ready
  -- the stream is as it was but for them
  pub lines : wait ≡ record waited { ready = wait.ready }
  -- the session has answered them
  pub session : now ≡ after first answered
  -- their replies are put
  pub put : Puts before later (Transcript first answered)
