-- What was put to a sink, where it tells the bytes that it holds.
use Rattle.std.specs.Prelude.{◌≡◌, ℕ, List, ◌++◌, Option, Some}
use Rattle.craig_script.specs.declared.line.Line.{Line}
use Rattle.craig_script.specs.Lines.{LinesView}
use Rattle.craig_top.specs.declared.run.Stop.{Stop}
use Rattle.craig_top.specs.declared.run.Stop.TheVariants.{NoMemory, WriteFault}
use Rattle.craig_top.specs.GivenState.{State}
use Rattle.craig_top.specs.Transcript.{Transcript, BeginsTranscript, BreaksOff}

-- a text with the property was appended
abbrev pub Puts : (before after : Option (List ℕ)) → (List ℕ → Type 0) → Type 0
Puts before after P = (held : List ℕ) → before ≡ Some held → (text : List ℕ) × P text × (after ≡ Some (held ++ text))

-- what was put when answering the lines stopped
abbrev pub Stopped : Stop → State → List Line → (before after : Option (List ℕ)) → Type 0
Stopped NoMemory state lines before after = Puts before after (BeginsTranscript state lines)
Stopped WriteFault state lines before after = Puts before after (BreaksOff state lines)

-- the replies to all lines that wait were appended
abbrev pub PutsReplies : State → LinesView → (before after : Option (List ℕ)) → Type 0
PutsReplies state lines before after = Puts before after (Transcript state lines.ready)

-- what was put when answering the lines that wait stopped so
abbrev pub StopsIn : State → LinesView → (before after : Option (List ℕ)) → Stop → Type 0
StopsIn state lines before after = λ stop. Stopped stop state lines.ready before after
