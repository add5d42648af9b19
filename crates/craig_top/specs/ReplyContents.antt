-- What the bytes of a refuting reply are, and what a line does to the given state.
use Rattle.std.specs.Prelude.{◌≡◌, ◌≢◌, ℕ, ◌+◌, Result, List, [], ◌∷◌, ◌++◌, length, map, codes, Option, Some, None, All, IsTrue, slice_get, ℤ, ◌⊎◌, decimal, Ok, Contains}
use Rattle.std.specs.Int.RustNames.{unsigned_abs}
use Rattle.std.specs.List.{flat_map, range_with_len}
use Rattle.craig_spec.specs.Circuit.{Circuit, Output}
use Rattle.craig_spec.specs.Cut.{PartClause, PartLiteral, with_units}
use Rattle.craig_spec.specs.Literal.{Literal, Clause}
use Rattle.craig_spec.specs.Truth.{Implies, clause_value}
use Rattle.craig_spec.specs.PartialInterpolant.{Label, A, AB, B}
use Rattle.craig_spec.specs.Strength.{IsOrderedByStrength}
use Rattle.craig_aiger.specs.Layouts.{Layout, circuit_of}
use Rattle.craig_aiger.specs.OutNames.{family_text}
use Rattle.craig_aiger.specs.declared.family.Family.{Family}
use Rattle.craig_aiger.specs.declared.family.Family.TheVariants.{McMillan, Pudlak, Inverse}
use Rattle.craig_aiger.specs.declared.out_name.OutName.{OutName}
use Rattle.craig_top.specs.Blocks.{IsCircuitText}
use Rattle.craig_top.specs.Formats.{CircuitFormat}
use Rattle.craig_top.specs.CircuitShape.{AllAreUsed, GatesAreConjunctions, GatesStandOnce, InputsAreInCones, NumbersRise, OperandsAreOrdered, OutputsAreLiterals}
use Rattle.craig_top.specs.GivenState.{ScriptSettings, State, script_literal, next, reading}
use Rattle.craig_top.specs.ModelReply.{IsModelReply}
use Rattle.craig_top.specs.ReplyTexts.{literals_text, refusal_text}
use Rattle.craig_spec.specs.Chain.{ToldStep}
use Rattle.craig_script.specs.declared.line.Line.{Line}
use Rattle.craig_script.specs.declared.command.Command.{Command}
use Rattle.craig_script.specs.declared.cut_word.CutWord.{CutWord}
use Rattle.craig_script.specs.declared.cut_word.CutWord.TheVariants as cut
use Rattle.craig_script.specs.declared.setting_words.MarkWord.{MarkWord}
use Rattle.craig_script.specs.declared.setting_words.MarkWord.TheVariants as mark
use Rattle.craig_script.specs.declared.refusal.Refusal.{Refusal}
use Rattle.craig_script.specs.declared.command.Command.TheVariants.{Add, Mark}
use Rattle.craig_script.specs.declared.setting_words.FormatWord.{FormatWord}
use Rattle.craig_script.specs.declared.setting_words.SystemWord.{SystemWord}
use Rattle.craig_script.specs.declared.setting_words.SystemWord.TheVariants as word
use Rattle.craig_script.specs.declared.refusal.Refusal.TheVariants.{Syntax, Overlong, Range, Variable, LateParts, LimitRange, CutRange}
use Rattle.craig_top.specs.RefutationReply.{IsRefutationReply, SystemLiterals}
use Rattle.craig_top.specs.WrittenSystems.{WrittenSystem, label_of_mark}
use Rattle.craig_top.specs.Reply.{Reply, assumptions_of}

-- the bytes read back in the format as the circuit, whose gates are conjunctions, whose outputs are its literals, and each of whose inputs is in the cone of an output
abbrev pub IsTextOf : CircuitFormat → List ℕ → Circuit → Type 0
IsTextOf format bytes c = (format.read bytes ≡ Some c) × GatesAreConjunctions c × OutputsAreLiterals c × InputsAreInCones c

-- the bytes are the text in the format of a layout whose inputs rise, whose gates have the greater operand first, below themselves, and stand once, and where nothing is unused
abbrev pub IsStrictText : CircuitFormat → List ℕ → Type 0
IsStrictText format bytes = (layout : Layout) × (bytes ≡ format.write layout) × NumbersRise layout.inputs × OperandsAreOrdered (circuit_of layout) × GatesStandOnce (circuit_of layout) × AllAreUsed (circuit_of layout)

-- there are as many outputs, and each has the name and the literal at its place
abbrev pub HaveOutputs : List (OutName × ℕ) → List Output → Type 0
HaveOutputs outputs read =
    (length read ≡ length outputs) × ((k : ℕ) (o : Output) → slice_get read k ≡ Some o → (p : OutName × ℕ) × (slice_get outputs k ≡ Some p) × (o.name ≡ family_text p.0.family ++ decimal p.0.cut) × (o.literal ≡ p.1))

-- the names of the outputs are those of the cuts for each of the systems, one system after the other
abbrev pub AreNamedBy : List WrittenSystem → List ℕ → List Output → Type 0
AreNamedBy systems cuts outputs = map (λ (o : Output). o.name) outputs ≡ flat_map (λ (y : WrittenSystem). map (λ cut. family_text y.family ++ decimal cut) cuts) systems

-- the literals of the outputs are those of the systems, one system after the other
abbrev pub AreLiteralsOf : List SystemLiterals → List Output → Type 0
AreLiteralsOf systems outputs = map (λ (o : Output). o.literal) outputs ≡ flat_map (λ (y : SystemLiterals). y.literals) systems

-- the text prints the literals of a model of the accepted clauses and of the assumed literals
abbrev pub PrintsModel : List PartClause → List (ℕ × ℤ) → List ℕ → Type 0
PrintsModel accepted pairs text = (literals : List Literal) × (text ≡ codes "s SATISFIABLE\nv " ++ literals_text literals)
    × IsModelReply (map (λ (a : PartClause). a.clause) accepted ++ map (λ (pair : ℕ × ℤ). script_literal pair.1 ∷ []) pairs) literals

-- two parts, the system, no mark, all cuts, the format, the limit and no clause
abbrev pub StartsWith : SystemWord → FormatWord → Option ℕ → State → Type 0
StartsWith system format limit state =
    (state.settings.parts ≡ 2) × (state.settings.system ≡ system) × (state.settings.marks ≡ []) × (state.settings.cuts ≡ 0 ∷ 1 ∷ 2 ∷ []) × (state.settings.format ≡ format) × (state.settings.limit ≡ limit) × (state.accepted ≡ [])

-- the clause of these numbers is accepted last, with its part, and nothing else changes
abbrev pub HasAccepted : State → ℕ → List ℤ → State → Type 0
HasAccepted before part lits after = (after.settings ≡ before.settings) × (after.accepted ≡ before.accepted ++ record { part = part; clause = map script_literal lits } ∷ [])

-- the text prints the failed assumptions, then the number of the bytes and the bytes
abbrev pub PrintsRefutation : List ℕ → List PartLiteral → List ℕ → Type 0
PrintsRefutation text failed bytes = text ≡ codes "s UNSATISFIABLE\nf " ++ literals_text (map (λ (f : PartLiteral). f.literal) failed) ++ codes "a " ++ decimal (length bytes) ++ codes "\n" ++ bytes

-- the text prints as many clauses as the limit, which the accepted clauses imply
abbrev pub PrintsLemmas : State → List ℕ → Type 0
PrintsLemmas state text = (lemmas : List Clause) × (state.settings.limit ≡ Some (length lemmas))
    × (text ≡ codes "s UNKNOWN " ++ decimal (length lemmas) ++ codes "\n" ++ flat_map (λ c. codes "l " ++ literals_text c) lemmas)
    × All (λ c. Implies (map (λ (a : PartClause). a.clause) state.accepted) (λ s. IsTrue (clause_value s c))) lemmas

-- the text prints a model of the accepted clauses and the assumed literals, refutes them, or prints lemmas
abbrev pub MayAnswer : State → List (ℕ × ℤ) → List ℕ → Type 0
MayAnswer state pairs text = PrintsModel state.accepted pairs text ⊎ (IsRefutationReply state (assumptions_of pairs) text ⊎ PrintsLemmas state text)

-- the literal in front of others is printed as these bytes and a space, in front of what the others are printed as
abbrev pub IsPrintedFirst : Literal → List ℕ → Type 0
IsPrintedFirst literal bytes = (literals : List Literal) → literals_text (literal ∷ literals) ≡ bytes ++ codes " " ++ literals_text literals

-- the refusals are printed as these lines
abbrev pub RefusalsAreNumbered : Type 0
RefusalsAreNumbered =
    (refusal_text Syntax ≡ codes "e 1\n") × (refusal_text Overlong ≡ codes "e 2\n") × (refusal_text Range ≡ codes "e 3\n") × (refusal_text Variable ≡ codes "e 4\n") × (refusal_text LateParts ≡ codes "e 5\n") × (refusal_text LimitRange ≡ codes "e 6\n") × (refusal_text CutRange ≡ codes "e 7\n")

-- what is said holds of each text of a circuit: of the format, the outputs, the bytes and the circuit
abbrev pub EachText : (CircuitFormat → List (OutName × ℕ) → List ℕ → Circuit → Type 0) → Type 0
EachText Says = (format : CircuitFormat) (outputs : List (OutName × ℕ)) (bytes : List ℕ) (c : Circuit) → IsCircuitText format outputs bytes c → Says format outputs bytes c

-- there is one system, which has no family, and gives these labels
abbrev pub IsAlone : List WrittenSystem → (ℕ → Label) → Type 0
IsAlone systems marks = (y : WrittenSystem) × (systems ≡ y ∷ []) × (y.family ≡ None) × ((x : ℕ) → y.marks x ≡ marks x)

-- the system at the place is of the family, and gives each variable the label
abbrev pub IsOfFamily : List WrittenSystem → ℕ → Family → Label → Type 0
IsOfFamily systems k family label = (y : WrittenSystem) × (slice_get systems k ≡ Some y) × (y.family ≡ Some family) × ((x : ℕ) → y.marks x ≡ label)

-- the mark is the last one of its variable, and changes that of no other
abbrev pub IsLastMark : List (ℕ × Label) → ℕ → Label → Type 0
IsLastMark marks x label =
    (label_of_mark (marks ++ (x, label) ∷ []) x ≡ label) × ((y : ℕ) → y ≢ x → label_of_mark (marks ++ (x, label) ∷ []) y ≡ label_of_mark marks y)

-- there are three systems, McMillan's, Pudlák's and the inverse one in this order
abbrev pub AreThree : List WrittenSystem → Type 0
AreThree systems = (length systems ≡ 3) × IsOfFamily systems 0 McMillan B × IsOfFamily systems 1 Pudlak AB × IsOfFamily systems 2 Inverse A

-- what is said holds of each refuting reply: of its state, its assumptions, its text and its contents
abbrev pub EachRefutingReply : ((state : State) (assumptions : List PartLiteral) (text : List ℕ) → IsRefutationReply state assumptions text → Type 0) → Type 0
EachRefutingReply Says = (state : State) (assumptions : List PartLiteral) (text : List ℕ) (reply : IsRefutationReply state assumptions text) → Says state assumptions text reply

-- there are the literals of three systems, McMillan's, Pudlák's and the inverse one in this order: sequences over the same cuts, by falling strength
abbrev pub AreThreeByStrength : List PartClause → ScriptSettings → Circuit → List SystemLiterals → Type 0
AreThreeByStrength clauses settings c systems =
    (m : SystemLiterals) × (p : SystemLiterals) × (i : SystemLiterals) × (systems ≡ m ∷ p ∷ i ∷ []) × IsOrderedByStrength clauses settings.parts settings.cuts c m.literals p.literals i.literals

-- what is said holds of each refuting reply where all systems are set: of the accepted clauses with the failed assumptions, the settings, the circuit and the literals of the systems
abbrev pub EachReplyOfAll : (List PartClause → ScriptSettings → Circuit → List SystemLiterals → Type 0) → Type 0
EachReplyOfAll Says = EachRefutingReply (λ state assumptions text reply. state.settings.system ≡ word.All → Says (with_units state.accepted reply.failed) state.settings reply.gives.circuit reply.gives.systems)

-- what is said holds of each system of each refuting reply: of the state, the failed assumptions, the circuit, the labels of the system and its literals
abbrev pub EachReplySystem : (State → List PartLiteral → Circuit → (ℕ → Label) → List ℕ → Type 0) → Type 0
EachReplySystem Says = EachRefutingReply (λ state assumptions text reply. (y : SystemLiterals) → Contains reply.gives.systems y → Says state reply.failed reply.gives.circuit y.system.marks y.literals)

-- what is said holds of each two systems of each refuting reply: of the circuit, and of the labels and the literals of the one and the other
abbrev pub EachTwoSystems : (Circuit → (ℕ → Label) → List ℕ → (ℕ → Label) → List ℕ → Type 0) → Type 0
EachTwoSystems Says = EachRefutingReply (λ state assumptions text reply. (y z : SystemLiterals) → Contains reply.gives.systems y → Contains reply.gives.systems z
    → Says reply.gives.circuit y.system.marks y.literals z.system.marks z.literals)

-- what is said holds of each system of each refuting reply: of the accepted clauses with the failed assumptions, the settings, the steps that the circuit is drawn from, their root, the circuit, the labels of the system and its literals
abbrev pub EachDrawnSystem : (List PartClause → ScriptSettings → List ToldStep → ℕ → Circuit → (ℕ → Label) → List ℕ → Type 0) → Type 0
EachDrawnSystem Says = EachRefutingReply (λ state assumptions text reply. (y : SystemLiterals) → Contains reply.gives.systems y
    → Says (with_units state.accepted reply.failed) state.settings reply.gives.interpolants.drawn.steps reply.gives.interpolants.drawn.root reply.gives.circuit y.system.marks y.literals)

-- there are so many parts and all cuts are chosen, and nothing else changes
abbrev pub IsDivided : State → ℕ → State → Type 0
IsDivided before n after =
    (after.settings.parts ≡ n) × (after.settings.cuts ≡ range_with_len 0 (n + 1)) × (after.settings.system ≡ before.settings.system) × (after.settings.marks ≡ before.settings.marks) × (after.settings.format ≡ before.settings.format) × (after.settings.limit ≡ before.settings.limit) × (after.accepted ≡ before.accepted)

-- the state with another system
abbrev pub with_system : State → SystemWord → State
with_system state s = record state { settings = record state.settings { system = s } }

-- the state with a mark more
abbrev pub with_mark : State → ℕ → Label → State
with_mark state name label = record state { settings = record state.settings { marks = state.settings.marks ++ (name, label) ∷ [] } }

-- the state with another limit
abbrev pub with_limit : State → Option ℕ → State
with_limit state limit = record state { settings = record state.settings { limit = limit } }

-- the state with another format
abbrev pub with_format : State → FormatWord → State
with_format state format = record state { settings = record state.settings { format = format } }

-- the cuts are all or those of these numbers, and nothing else changes
abbrev pub HasCuts : State → CutWord → State → Type 0
HasCuts before cut.All after = after ≡ record before { settings = record before.settings { cuts = range_with_len 0 (before.settings.parts + 1) } }
HasCuts before (cut.Chosen numbers) after = after ≡ record before { settings = record before.settings { cuts = map unsigned_abs numbers } }

-- what is said holds of the state before each line that is read so, what it says, and the state after it
abbrev pub EachReading : {X : Type 0} → (X → Result Command Refusal) → (State → X → State → Type 0) → Type 0
EachReading read Says = (state : State) (line : Line) (x : _) → reading state line ≡ read x → Says state x (next state line)

-- the word stands for the label
abbrev pub IsMarkFor : MarkWord → Label → Type 0
IsMarkFor mark.A label = label ≡ A
IsMarkFor mark.Ab label = label ≡ AB
IsMarkFor mark.B label = label ≡ B

-- what is said holds of the state before each line that marks a variable, the variable, the label, and the state after it
abbrev pub EachMark : (State → ℕ → Label → State → Type 0) → Type 0
EachMark Says = (state : State) (line : Line) (name : ℕ) (m : MarkWord) (label : Label) → IsMarkFor m label → reading state line ≡ Ok (Mark name m) → Says state name label (next state line)

-- what is said holds of each reply to a line in a state
abbrev pub EachReply : (State → Line → List ℕ → Type 0) → Type 0
EachReply Says = (state : State) (line : Line) (text : List ℕ) → Reply state line text → Says state line text

-- what is said holds of the state before each line that adds a clause, its part, its numbers, and the state after it
abbrev pub EachAddition : (State → ℕ → List ℤ → State → Type 0) → Type 0
EachAddition Says = (state : State) (line : Line) (part : ℕ) (lits : List ℤ) → reading state line ≡ Ok (Add part lits) → Says state part lits (next state line)
