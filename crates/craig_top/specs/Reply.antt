-- Which texts are allowed as the reply to a line.
use Rattle.std.specs.Prelude.{◌≡◌, ℕ, List, [], map, Result, Ok, Err, ℤ, ◌⊎◌}
use Rattle.craig_spec.specs.Literal.{Literal}
use Rattle.craig_spec.specs.Cut.{PartLiteral, with_units}
use Rattle.craig_script.specs.declared.line.Line.{Line}
use Rattle.craig_script.specs.declared.command.Command.{Command}
use Rattle.craig_script.specs.declared.command.Command.TheVariants.{Nothing, Parts, Add, System, Mark, Cuts, Limit, Format, Solve}
use Rattle.craig_script.specs.declared.refusal.Refusal.{Refusal}
use Rattle.craig_top.specs.GivenState.{State, script_literal, reading}
use Rattle.craig_top.specs.LemmaReply.{IsUnknownReply}
use Rattle.craig_top.specs.ModelReply.{IsModelReply}
use Rattle.craig_top.specs.Named.{bare_clauses}
use Rattle.craig_top.specs.RefutationReply.{IsRefutationReply}
use Rattle.craig_top.specs.ReplyTexts.{satisfiable_text, refusal_text, ok_text}

-- the assumptions that the pairs of a solve write
abbrev pub assumptions_of : List (ℕ × ℤ) → List PartLiteral
assumptions_of pairs = map (λ pair. record { part = pair.0; literal = script_literal pair.1 }) pairs

-- the text gives a model of the accepted clauses and of the units of the assumptions
abbrev pub GivesModel : State → List (ℕ × ℤ) → List ℕ → Type 0
GivesModel state pairs text = (literals : List Literal) × IsModelReply (bare_clauses (with_units state.accepted (assumptions_of pairs))) literals × (text ≡ satisfiable_text literals)

-- the text gives a model, refutes the clauses and the assumptions, or lists as many lemmas as the limit
abbrev pub IsSolveReply : State → List (ℕ × ℤ) → List ℕ → Type 0
IsSolveReply state pairs text = GivesModel state pairs text ⊎ (IsRefutationReply state (assumptions_of pairs) text ⊎ IsUnknownReply state text)

-- the text is allowed as the reply to a command
abbrev pub RepliesTo : State → Command → List ℕ → Type 0
RepliesTo state Nothing text = text ≡ []
RepliesTo state (Parts n) text = text ≡ ok_text
RepliesTo state (Add part lits) text = text ≡ ok_text
RepliesTo state (System system) text = text ≡ ok_text
RepliesTo state (Mark name mark) text = text ≡ ok_text
RepliesTo state (Cuts cuts) text = text ≡ ok_text
RepliesTo state (Limit limit) text = text ≡ ok_text
RepliesTo state (Format format) text = text ≡ ok_text
RepliesTo state (Solve pairs) text = IsSolveReply state pairs text

-- a refused line is answered by its number
abbrev pub RepliesToReading : State → Result Command Refusal → List ℕ → Type 0
RepliesToReading state (Ok command) text = RepliesTo state command text
RepliesToReading state (Err refusal) text = text ≡ refusal_text refusal

-- the text is allowed as the reply to the line in the given state
unfoldable pub Reply : State → Line → List ℕ → Type 0
Reply state line text = RepliesToReading state (reading state line) text
