-- Which refutation the reply to a solve is drawn from: that of the last root.
use Rattle.std.specs.Prelude.{◌≡◌, ◌⊎◌, ℕ, Bool, false, List, [], map, Option, Some, None, Result, Ok, Err, ℤ}
use Rattle.craig_spec.specs.Chain.{ToldStep}
use Rattle.craig_spec.specs.Cut.{PartLiteral}
use Rattle.craig_spec.specs.Needed.{IsNeededPart}
use Rattle.craig_script.specs.declared.line.Line.{Line}
use Rattle.craig_script.specs.declared.command.Command.{Command}
use Rattle.craig_script.specs.declared.command.Command.TheVariants.{Nothing, Parts, Add, System, Mark, Cuts, Limit, Format, Solve}
use Rattle.craig_script.specs.declared.refusal.Refusal.{Refusal}
use Rattle.craig_top.specs.GivenState.{State, reading}
use Rattle.craig_top.specs.LemmaReply.{IsUnknownReply}
use Rattle.craig_top.specs.Named.{named_step}
use Rattle.craig_top.specs.RefutationReply.{IsRefutationReply}
use Rattle.craig_top.specs.Reply.{GivesModel, assumptions_of}

-- what a session is seen as
pub record SessionView : Type 0 where
  -- what the accepted lines have said so far
  pub state : State
  -- the names of the dense variables, by their numbers
  pub names : List ℕ
  -- the steps that are kept, over dense variables
  pub steps : List ToldStep
  -- the root of the last answer, if that was a refutation
  pub root : Option ℕ
  -- whether a line wanted memory in vain
  pub dead : Bool

-- what a session is seen as before its first line, with a state
abbrev pub view_before_lines : State → SessionView
view_before_lines state = record { state = state; names = []; steps = []; root = None; dead = false }

-- the root is the last one, and the steps are those that it needs, with the variables of the script
pub record IsOfLastRoot (names : List ℕ) (kept : List ToldStep) (last : Option ℕ) (steps : List ToldStep) (root : ℕ) : Type 0 where
  -- no answer came after it
  pub is_last : last ≡ Some root
  -- the steps that it needs, over dense variables
  pub part : List ToldStep
  -- they are those of all that are kept
  pub needed : IsNeededPart kept root part
  -- they are told of the script's variables
  pub named : steps ≡ map (named_step names) part

-- the reply refutes, and its interpolants are drawn from the steps that the last root needs
abbrev pub IsRefutationBy : (names : List ℕ) → (kept : List ToldStep) → (last : Option ℕ) → State → List PartLiteral → List ℕ → Type 0
IsRefutationBy names kept last state assumptions text = (reply : IsRefutationReply state assumptions text) × IsOfLastRoot names kept last reply.gives.interpolants.drawn.steps reply.gives.interpolants.drawn.root

-- the reply gives a model, so refutes, or lists lemmas
abbrev pub IsSolveReplyBy : (names : List ℕ) → (kept : List ToldStep) → (last : Option ℕ) → State → List (ℕ × ℤ) → List ℕ → Type 0
IsSolveReplyBy names kept last state pairs text = GivesModel state pairs text ⊎ (IsRefutationBy names kept last state (assumptions_of pairs) text ⊎ IsUnknownReply state text)

-- the reply to a solve is such a verdict
abbrev pub IsByLastRoot : SessionView → State → Command → List ℕ → Type 0
IsByLastRoot view state Nothing text = Unit {0}
IsByLastRoot view state (Parts n) text = Unit {0}
IsByLastRoot view state (Add part lits) text = Unit {0}
IsByLastRoot view state (System system) text = Unit {0}
IsByLastRoot view state (Mark name mark) text = Unit {0}
IsByLastRoot view state (Cuts cuts) text = Unit {0}
IsByLastRoot view state (Limit limit) text = Unit {0}
IsByLastRoot view state (Format format) text = Unit {0}
IsByLastRoot view state (Solve pairs) text = IsSolveReplyBy view.names view.steps view.root state pairs text

-- so is the reply to a line that is a solve
abbrev pub ReadingIsByLastRoot : SessionView → State → Result Command Refusal → List ℕ → Type 0
ReadingIsByLastRoot view state (Ok command) text = IsByLastRoot view state command text
ReadingIsByLastRoot view state (Err refusal) text = Unit {0}

-- so is the reply to a line as it is read in the given state
abbrev pub LineIsByLastRoot : SessionView → State → Line → List ℕ → Type 0
LineIsByLastRoot view state line = ReadingIsByLastRoot view state (reading state line)
