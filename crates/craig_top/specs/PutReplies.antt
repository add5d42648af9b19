-- Which bytes were taken of a source, and which replies a text is made of.
use Rattle.std.specs.Prelude.{◌≡◌, ◌≢◌, ℕ, ◌≤◌, List, ◌++◌, length, map, take, Option, Some, slice_get, ◌<◌}
use Rattle.std.specs.List.{concat}
use Rattle.craig_script.specs.declared.line.Line.{Line}
use Rattle.craig_script.specs.Lines.{line_of, whole_lines}
use Rattle.craig_top.specs.declared.status.Status.{Status}
use Rattle.craig_top.specs.declared.status.Status.TheVariants.{Usage, ReadFault, WriteFault, TooLong}
use Rattle.craig_top.specs.GivenState.{State, after, start}
use Rattle.craig_top.specs.Reply.{Reply}
use Rattle.craig_io.specs.Faults.{Rose}
use Rattle.craig_top.specs.declared.settings.Settings.{Settings}
use Rattle.craig_top.specs.Ending.{EndsDone, Promise}

-- all bytes are those taken and then those that are left
abbrev pub AreTakenBytes : (all : List ℕ) → (left : Option (List ℕ)) → (taken : List ℕ) → Type 0
AreTakenBytes all left taken = (rest : List ℕ) × (all ≡ taken ++ rest) × (left ≡ Some rest)

-- these bytes were taken, and something holds of them
abbrev pub Takes : (all : List ℕ) → (left : Option (List ℕ)) → (List ℕ → Type 0) → Type 0
Takes all left P = (taken : List ℕ) × AreTakenBytes all left taken × P taken

-- behind the bytes held stands a text of which something holds
abbrev pub StandsBehind : (held : List ℕ) → (held_after : Option (List ℕ)) → (List ℕ → Type 0) → Type 0
StandsBehind held held_after P = (text : List ℕ) × (held_after ≡ Some (held ++ text)) × P text

-- for each line there is a reply at its place, which is allowed in the state that the lines before it left
abbrev pub EachIsAnswered : State → List Line → List (List ℕ) → Type 0
EachIsAnswered state lines replies = (i : ℕ) (line : Line) → slice_get lines i ≡ Some line → (reply : List ℕ) × (slice_get replies i ≡ Some reply) × Reply (after state (take i lines)) line reply

-- the text is one allowed reply for each line, one after the other
abbrev pub AreReplies : State → List Line → List ℕ → Type 0
AreReplies state lines text = (replies : List (List ℕ)) × (length replies ≡ length lines) × EachIsAnswered state lines replies × (text ≡ concat replies)

-- the text is the replies to so many lines, the first ones
abbrev pub AreFirstReplies : State → List Line → List ℕ → Type 0
AreFirstReplies state lines text = (n : ℕ) × (n ≤ length lines) × AreReplies state (take n lines) text

-- the text is the replies to the lines before one, and the front of an allowed reply to this one
abbrev pub IsBrokenOff : State → List Line → List ℕ → Type 0
IsBrokenOff state lines text =
    (n : ℕ) × (line : Line) × (slice_get lines n ≡ Some line) × (whole : List ℕ) × AreReplies state (take n lines) whole
    × (front : List ℕ) × (back : List ℕ) × Reply (after state (take n lines)) line (front ++ back) × (text ≡ whole ++ front)

-- the status says neither that words were refused, nor that a read or a write failed, nor that the script is too long
abbrev pub IsDoneOrNoMemory : Status → Type 0
IsDoneOrNoMemory status = (status ≢ Usage) × (status ≢ ReadFault) × (status ≢ WriteFault) × (status ≢ TooLong)

-- behind the bytes held stand the replies to the lines whose newlines were taken, those and no other
abbrev pub TakenAreAnswered : State → (all : List ℕ) → (left : Option (List ℕ)) → (held : List ℕ) → (held_after : Option (List ℕ)) → Type 0
TakenAreAnswered state all left held held_after = Takes all left (λ taken. StandsBehind held held_after (AreReplies state (map line_of (whole_lines taken))))

-- in each run that ends with the status what is said holds of the bound, all bytes of its source, and those left in it
abbrev pub RunsTake : Status → (ℕ → List ℕ → Option (List ℕ) → Type 0) → Type 0
RunsTake status Says = (settings : Settings) (bound : ℕ) (all : List ℕ) (left before later : Option (List ℕ)) → Promise settings bound status (Some all) left before later → Says bound all left

-- in each run that ends with the status what is said holds of the state before its first line, all bytes of its source, those left in it, and the bytes of its sink before and after the run
abbrev pub RunsPut : Status → (State → List ℕ → Option (List ℕ) → List ℕ → Option (List ℕ) → Type 0) → Type 0
RunsPut status Says = (settings : Settings) (bound : ℕ) (all held : List ℕ) (left later : Option (List ℕ)) → Promise settings bound status (Some all) left (Some held) later → Says (start settings) all left held later

-- what is said holds of the status of each run of a told script below the bound of which no read and no write failed
abbrev pub FaultlessRunsEnd : (Status → Type 0) → Type 0
FaultlessRunsEnd Says =
    (bound : ℕ) (status : Status) (all : List ℕ) (reads more_reads writes more_writes : ℕ) → EndsDone bound status (Some all) (Rose reads more_reads) (Rose writes more_writes)
    → length all < bound → ¬ Rose reads more_reads → ¬ Rose writes more_writes → Says status
