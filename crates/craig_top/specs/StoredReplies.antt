-- Which replies are drawn from what a session stores.
use Rattle.std.specs.Prelude.{◌≡◌, ℕ, ℤ, ◌++◌, List, map, Some, false}
use Rattle.craig_spec.specs.Cut.{PartLiteral}
use Rattle.craig_spec.specs.FailedAssumptions.{NamesFailed}
use Rattle.craig_spec.specs.Literal.{Literal, Clause}
use Rattle.craig_base.specs.declared.script_part.Part.{Part}
use Rattle.craig_script.specs.declared.line.Line.{Line}
use Rattle.craig_script.specs.declared.command.Command.{Command}
use Rattle.craig_search.specs.Verdict.{Assumptions, units}
use Rattle.craig_top.specs.declared.stored.Stored.{Stored}
use Rattle.craig_top.specs.Formats.{greatest_named}
use Rattle.craig_top.specs.GivenState.{reading}
use Rattle.craig_top.specs.LastRefutation.{IsRefutationBy, IsSolveReplyBy, IsByLastRoot, ReadingIsByLastRoot}
use Rattle.craig_top.specs.Material.{MaterialView, state_of}
use Rattle.craig_top.specs.ModelReply.{IsModelReply}
use Rattle.craig_top.specs.Naming.{named_assumptions, named_clause}
use Rattle.craig_top.specs.ReplyTexts.{satisfiable_text}
use Rattle.craig_top.specs.Stored.{given_state, seen}

-- where the line is a solve, the reply gives a model of what was stored before it, or refutes that by the last root that is stored after it
abbrev pub IsLineReplyStored : (before later : Stored) → Line → List ℕ → Type 0
IsLineReplyStored before later line = ReadingIsByLastRoot (seen later false) (given_state before) (reading (given_state before) line)

-- so does the reply to a command
abbrev pub IsCommandReplyStored : (before later : Stored) → Command → List ℕ → Type 0
IsCommandReplyStored before later command = IsByLastRoot (seen later false) (given_state before) command

-- so does the reply to a solve under assumptions
abbrev pub IsSolveReplyStored : (before later : Stored) → List (ℕ × ℤ) → List ℕ → Type 0
IsSolveReplyStored before later pairs = IsSolveReplyBy later.names later.solver.tracer.told.steps later.solver.root (given_state before) pairs

-- the reply refutes what was stored under any assumptions of which these failed, where the greatest variable that is named is the top, by the root
abbrev pub IsRefutedStored : (before : Stored) → Assumptions → (root top : ℕ) → List ℕ → Type 0
IsRefutedStored before failed root top text =
    (assumptions : List PartLiteral) → NamesFailed assumptions (named_assumptions before.names failed) → greatest_named (given_state before) assumptions ≡ top → IsRefutationBy before.names before.solver.tracer.told.steps (Some root) (given_state before) assumptions text

-- the reply refutes the clauses under any assumptions of which these failed, where the greatest variable that is named is the top, by the root
abbrev pub IsRootReply : MaterialView → (root : ℕ) → List ℕ → Type 0
IsRootReply m root text = (assumptions : List PartLiteral) → NamesFailed assumptions (named_assumptions m.names m.failed) → greatest_named (state_of m) assumptions ≡ m.top → IsRefutationBy m.names m.told.steps (Some root) (state_of m) assumptions text

-- the reply with a model of the clauses and the assumptions came behind what was there
abbrev pub AppendsModel : List ℕ → List (Part × Clause) → Assumptions → (old new : List ℕ) → Type 0
AppendsModel names clauses assumptions old new =
    (literals : List Literal) × IsModelReply (map (named_clause names) (map (λ c. c.1) clauses ++ units assumptions)) literals × (new ≡ old ++ satisfiable_text literals)
