-- What a run of the generator's script has put when it ends.
use Rattle.std.specs.Prelude.{◌≡◌, ℕ, ◌+◌, ◌*◌, List, [], ◌∷◌, ◌++◌, codes, count_by, map, Option, ◌⊎◌}
use Rattle.std.specs.Fmt.{decimal}
use Rattle.std.specs.List.{flat_map}
use Rattle.craig_spec.specs.Cut.{PartClause}
use Rattle.craig_script.specs.declared.command.Command.{Command}
use Rattle.craig_script.specs.declared.command.Command.TheVariants.{Nothing, Parts, Add, System, Mark, Cuts, Limit, Format, Solve}
use Rattle.craig_script.specs.declared.line.Line.{Line}
use Rattle.craig_script.specs.Generator.{adds_clause, generated}
use Rattle.craig_script.specs.Writing.{command_text}
use Rattle.craig_top.specs.declared.settings.Settings.{Settings}
use Rattle.craig_top.specs.declared.status.Status.{Status}
use Rattle.craig_top.specs.declared.status.Status.TheVariants.{Done, Usage, ReadFault, WriteFault, TooLong, NoMemory}
use Rattle.craig_top.specs.Ending.{whole}
use Rattle.craig_top.specs.GivenState.{State, after, script_literal, start, unmarked}
use Rattle.craig_top.specs.Puts.{Puts}
use Rattle.craig_top.specs.Reply.{Reply}

-- the bytes of the generator's script of so many steps: a line for each of its commands
unfoldable pub generated_text : ℕ → List ℕ
generated_text steps = flat_map command_text (generated steps)

-- a word and a number, as a line
abbrev pub summary_line : List ℕ → ℕ → List ℕ
summary_line word n = word ++ (codes " " ++ (decimal n ++ codes "\n"))

-- the five lines of the summary: how many steps, parts, clauses, variables and cuts there are
abbrev pub summary_text : ℕ → List ℕ
summary_text steps =
    summary_line (codes "gen") steps
    ++ (summary_line (codes "parts") (steps + 1)
    ++ (summary_line (codes "clauses") (count_by adds_clause (generated steps))
    ++ (summary_line (codes "variables") (14 * steps + 7)
    ++ summary_line (codes "cuts") (steps + 2))))

-- the text is allowed as the reply to the last of the lines, in the state that those before it leave
abbrev pub RepliesToLast : State → List Line → List ℕ → Type 0
RepliesToLast state lines text = (before : List Line) × (last : Line) × (lines ≡ before ++ last ∷ []) × Reply (after state before) last text

-- the text is allowed as the reply to the last line of the generator's script, where a session with the settings answers all of them
abbrev pub GeneratedReply : Settings → (steps : ℕ) → List ℕ → Type 0
GeneratedReply settings steps text = RepliesToLast (start settings) (whole (generated_text steps)) text

-- the summary and then such a reply
abbrev pub IsGeneratedText : Settings → (steps : ℕ) → List ℕ → Type 0
IsGeneratedText settings steps text = (reply : List ℕ) × GeneratedReply settings steps reply × (text ≡ summary_text steps ++ reply)

-- the text is a beginning of the summary, or the summary and a beginning of such a reply
abbrev pub BeginsGeneratedText : Settings → (steps : ℕ) → List ℕ → Type 0
BeginsGeneratedText settings steps text =
    ((back : List ℕ) × (summary_text steps ≡ text ++ back))
    ⊎ ((front : List ℕ) × (back : List ℕ) × GeneratedReply settings steps (front ++ back) × (text ≡ summary_text steps ++ front))

-- which text a run puts that ends with this status: the summary and the reply, a beginning of them, or, where memory ran
-- out, nothing or the summary
abbrev pub PutsGenerated : Settings → (steps : ℕ) → Status → List ℕ → Type 0
PutsGenerated settings steps Done text = IsGeneratedText settings steps text
PutsGenerated settings steps Usage text = ⊥
PutsGenerated settings steps ReadFault text = ⊥
PutsGenerated settings steps WriteFault text = BeginsGeneratedText settings steps text
PutsGenerated settings steps TooLong text = ⊥
PutsGenerated settings steps NoMemory text = (text ≡ []) ⊎ (text ≡ summary_text steps)

-- where the sink told the bytes that it held, such a text was put behind them
abbrev pub GeneratedPromise : Settings → (steps : ℕ) → Status → (held_before held_after : Option (List ℕ)) → Type 0
GeneratedPromise settings steps status held_before held_after = Puts held_before held_after (PutsGenerated settings steps status)

-- the status says that all was put, that a write failed, or that memory ran out
abbrev pub EndsGenerated : Status → Type 0
EndsGenerated status = (status ≡ Done) ⊎ ((status ≡ WriteFault) ⊎ (status ≡ NoMemory))

-- the clause that a command adds to its part, where it adds one
abbrev pub clause_added : Command → List PartClause
clause_added Nothing = []
clause_added (Parts n) = []
clause_added (Add part lits) = record { part = part; clause = map script_literal lits } ∷ []
clause_added (System system) = []
clause_added (Mark name word) = []
clause_added (Cuts word) = []
clause_added (Limit limit) = []
clause_added (Format format) = []
clause_added (Solve pairs) = []

-- the generator's clauses are accepted, there is one part more than steps, all cuts are chosen, and the other settings are those of the start
abbrev pub with_generated : Settings → (steps : ℕ) → State
with_generated settings steps = record { settings = unmarked (steps + 1) settings; accepted = flat_map clause_added (generated steps) }
