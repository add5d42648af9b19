-- What the accepted lines of a script have said so far.
use Rattle.std.specs.Prelude.{ℕ, ◌+◌, Bool, true, false, List, [], ◌∷◌, ◌++◌, map, Option, Result, Ok, Err, ℤ, pos, negsuc}
use Rattle.std.specs.Int.RustNames.{unsigned_abs}
use Rattle.craig_spec.specs.Literal.{Literal}
use Rattle.craig_spec.specs.Cut.{PartClause, all_cuts}
use Rattle.craig_spec.specs.PartialInterpolant.{Label, A, AB, B}
use Rattle.craig_script.specs.declared.cut_word.CutWord.{CutWord}
use Rattle.craig_script.specs.declared.cut_word.CutWord.TheVariants as cut
use Rattle.craig_script.specs.declared.setting_words.FormatWord.{FormatWord}
use Rattle.craig_script.specs.declared.setting_words.MarkWord.{MarkWord}
use Rattle.craig_script.specs.declared.setting_words.MarkWord.TheVariants as mark
use Rattle.craig_script.specs.declared.setting_words.SystemWord.{SystemWord}
use Rattle.craig_script.specs.declared.line.Line.{Line}
use Rattle.craig_script.specs.declared.command.Command.{Command}
use Rattle.craig_script.specs.declared.command.Command.TheVariants.{Nothing, Parts, Add, System, Mark, Cuts, Limit, Format, Solve}
use Rattle.craig_script.specs.declared.refusal.Refusal.{Refusal}
use Rattle.craig_script.specs.Reading.{read_line}
use Rattle.craig_top.specs.declared.settings.Settings.{Settings}

-- what the commands of a script set
pub record ScriptSettings : Type 0 where
  -- the number of parts
  pub parts : ℕ
  -- the system of the interpolants
  pub system : SystemWord
  -- the marks of script variables for the system by marks, first to last
  pub marks : List (ℕ × Label)
  -- the cuts whose interpolants are written, in order
  pub cuts : List ℕ
  -- the format in which circuits are written
  pub format : FormatWord
  -- how many conflicts a solve may meet, where there is a limit
  pub limit : Option ℕ

-- the given state
pub record State : Type 0 where
  -- what the commands have set
  pub settings : ScriptSettings
  -- the accepted clauses as they were written, over script variables, first to last
  pub accepted : List PartClause

-- so many parts and the settings of the start, where no variable has a mark and no cut was chosen
abbrev pub unmarked : ℕ → Settings → ScriptSettings
unmarked parts settings = record { parts = parts; system = settings.system; marks = []; cuts = all_cuts parts; format = settings.format; limit = settings.limit }

-- before the first line: two parts, the settings of the start and no clause
abbrev pub start : Settings → State
start settings = record { settings = unmarked 2 settings; accepted = [] }

-- the literal that a signed number of the script stands for
abbrev pub script_literal : ℤ → Literal
script_literal (pos n) = record { var = n; negated = false }
script_literal (negsuc n) = record { var = n + 1; negated = true }

-- whether a clause is accepted
abbrev pub any_clause : List PartClause → Bool
any_clause [] = false
any_clause (a ∷ others) = true

-- the label that a mark gives
abbrev pub label_named : MarkWord → Label
label_named mark.A = A
label_named mark.Ab = AB
label_named mark.B = B

-- the cuts that are chosen among those of so many parts
abbrev pub cuts_named : ℕ → CutWord → List ℕ
cuts_named parts cut.All = all_cuts parts
cuts_named parts (cut.Chosen numbers) = map unsigned_abs numbers

-- what an admitted command sets
abbrev pub set : ScriptSettings → Command → ScriptSettings
set settings Nothing = settings
set settings (Parts n) = record settings { parts = n; cuts = all_cuts n }
set settings (Add part lits) = settings
set settings (System system) = record settings { system = system }
set settings (Mark name word) = record settings { marks = settings.marks ++ (name, label_named word) ∷ [] }
set settings (Limit limit) = record settings { limit = limit }
set settings (Format format) = record settings { format = format }
set settings (Cuts word) = record settings { cuts = cuts_named settings.parts word }
set settings (Solve pairs) = settings

-- which clauses are accepted after it
abbrev pub accept : List PartClause → Command → List PartClause
accept accepted Nothing = accepted
accept accepted (Parts n) = accepted
accept accepted (Add part lits) = accepted ++ record { part = part; clause = map script_literal lits } ∷ []
accept accepted (System system) = accepted
accept accepted (Mark name word) = accepted
accept accepted (Cuts word) = accepted
accept accepted (Limit limit) = accepted
accept accepted (Format format) = accepted
accept accepted (Solve pairs) = accepted

-- what an admitted command changes
abbrev pub obeyed : State → Command → State
obeyed state command = record { settings = set state.settings command; accepted = accept state.accepted command }

-- a refused line changes nothing
abbrev pub obeyed_if_admitted : State → Result Command Refusal → State
obeyed_if_admitted state (Ok command) = obeyed state command
obeyed_if_admitted state (Err refusal) = state

-- how a line is read in the given state
abbrev pub reading : State → Line → Result Command Refusal
reading state line = read_line state.settings.parts (any_clause state.accepted) line

-- the state after a line
unfoldable pub next : State → Line → State
next state line = obeyed_if_admitted state (reading state line)

-- the state after lines, one after the other
abbrev pub after : State → List Line → State
after state [] = state
after state (line ∷ lines) = after (next state line) lines
