-- How a session keeps the given state.
use Rattle.std.specs.Prelude.{◌≡◌, ◌≢◌, Ok, ℕ, ◌≤◌, Bool, List, length, map, Option, Some, None}
use Rattle.std.specs.Option.{option_map}
use Rattle.craig_spec.specs.Cut.{AreChosenCuts, all_cuts}
use Rattle.craig_spec.specs.DimacsText.{greatest_of_clauses}
use Rattle.craig_spec.specs.PartialInterpolant.{Label}
use Rattle.craig_spec.specs.Literal.{Clause}
use Rattle.craig_base.specs.declared.script_part.Part.{Part}
use Rattle.craig_label.specs.Sides.{SidesView}
use Rattle.craig_script.specs.declared.command.Command.{Command}
use Rattle.craig_script.specs.Reading.{admitted}
use Rattle.craig_label.specs.Marks.{label_of}
use Rattle.craig_label.specs.declared.mark.Mark.{Mark}
use Rattle.craig_top.specs.declared.choices.Choices.{Choices}
use Rattle.craig_top.specs.declared.stored.Stored.{Stored}
use Rattle.craig_top.specs.GivenState.{ScriptSettings, State, any_clause}
use Rattle.craig_top.specs.LastRefutation.{SessionView}
use Rattle.craig_top.specs.Named.{bare_clauses}
use Rattle.craig_top.specs.Naming.{written}
use Rattle.craig_top.specs.Sides.{AreSidesOf, parted}
use Rattle.craig_top.specs.Values.{AreOver}

-- the given state that the settings, the names and the dense clauses are
abbrev pub stored_state : ScriptSettings → List ℕ → List (Part × Clause) → State
stored_state settings names accepted = record { settings = settings; accepted = written names accepted }

-- the cuts that are written: all, where none is chosen
abbrev pub written_cuts : ℕ → Option (List ℕ) → List ℕ
written_cuts parts None = all_cuts parts
written_cuts parts (Some cuts) = cuts

-- the marks as labels
abbrev pub labels : List (ℕ × Mark) → List (ℕ × Label)
labels marks = map (λ (m : ℕ × Mark). (m.0, label_of m.1)) marks

-- the settings of so many parts and these choices
abbrev pub settings_of : ℕ → Choices → ScriptSettings
settings_of parts c = record { parts = parts; system = c.system; marks = labels c.marks.items; cuts = written_cuts parts (option_map (λ cuts. cuts.items) c.cuts); format = c.format; limit = c.limit }

-- the given state of what is stored
abbrev pub given_state : Stored → State
given_state s = stored_state (settings_of s.sides.parts s.choices) s.names s.solver.accepted

-- the command passes the tests on what it names
abbrev pub IsAdmitted : Stored → Command → Type 0
IsAdmitted s command = admitted s.sides.parts (any_clause (written s.names s.solver.accepted)) command ≡ Ok tt

-- what a session is seen as that stores this, and whether it is dead
abbrev pub seen : Stored → Bool → SessionView
seen s dead = record { state = given_state s; names = s.names; steps = s.solver.tracer.told.steps; root = s.solver.root; dead = dead }

-- every variable of the dense clauses has a name
abbrev pub HaveNames : List ℕ → List (Part × Clause) → Type 0
HaveNames names accepted = AreOver (length names) (map (λ a. a.1) accepted)

-- what holds of the names, the sides, the dense clauses and the number of known variables that are stored, unless a call wanted memory in vain
pub record AreStoredTogether (names : List ℕ) (sides : SidesView) (accepted : List (Part × Clause)) (vars : ℕ) : Type 0 where
  -- the clauses are over the names
  pub stored : HaveNames names accepted
  -- the sides are those of the clauses
  pub sides_are : AreSidesOf (parted accepted) sides
  -- each variable that the solver knows has a name
  pub known : vars ≤ length names

-- what is stored is as before, but that variables may be noted in more parts
pub record IsSameButForRanges (old new : Stored) : Type 0 where
  -- the names
  pub names : new.names ≡ old.names
  -- the number of parts
  pub parts : new.sides.parts ≡ old.sides.parts
  -- what the commands have set
  pub choices : new.choices ≡ old.choices
  -- the greatest variable
  pub greatest : new.greatest ≡ old.greatest
  -- and the solver
  pub solver : new.solver ≡ old.solver

-- what holds of what is stored, unless a call wanted memory in vain
pub record IsKept (s : Stored) : Type 0 where
  -- the clauses, names, sides and known variables belong together
  pub together : AreStoredTogether s.names s.sides s.solver.accepted s.solver.vars
  -- the cuts that are written rise, and are of the parts
  pub chosen : AreChosenCuts s.sides.parts (settings_of s.sides.parts s.choices).cuts
  -- a limit isn't 0
  pub limited : s.choices.limit ≢ Some 0
  -- the greatest variable of the accepted clauses is known
  pub greatest : s.greatest ≡ greatest_of_clauses (bare_clauses (given_state s).accepted)
