-- What the reply to a solve is made from.
use Rattle.std.specs.Prelude.{◌≡◌, ℕ, ◌≤◌, List}
use Rattle.craig_spec.specs.Chain.{Told}
use Rattle.craig_spec.specs.Cut.{AreChosenCuts}
use Rattle.craig_spec.specs.Literal.{Clause}
use Rattle.craig_base.specs.Names.{AreNames}
use Rattle.craig_base.specs.declared.script_part.Part.{Part}
use Rattle.craig_label.specs.Sides.{SidesView}
use Rattle.craig_search.specs.Verdict.{Assumptions}
use Rattle.craig_solver.specs.Told.{IsToldOf}
use Rattle.craig_top.specs.declared.material.Material.{Material}
use Rattle.craig_top.specs.Formats.{greatest_named}
use Rattle.craig_top.specs.GivenState.{ScriptSettings, State}
use Rattle.craig_top.specs.Naming.{named_assumptions}
use Rattle.craig_top.specs.Sides.{AreSidesOf, parted, with_assumed}
use Rattle.craig_top.specs.Stored.{HaveNames, settings_of, stored_state}

-- what the material is seen as
pub record MaterialView : Type 0 where
  -- the names of the dense variables, by their numbers
  pub names : List ℕ
  -- the accepted clauses, over dense variables
  pub accepted : List (Part × Clause)
  -- the assumptions that failed, over dense variables
  pub failed : Assumptions
  -- where the variables of both occur
  pub sides : SidesView
  -- what the solver has told
  pub told : Told
  -- what the commands have set
  pub settings : ScriptSettings
  -- the greatest variable that the solve names
  pub top : ℕ

-- what is lent
abbrev pub view_of : Material → MaterialView
view_of m = record { names = m.names.now; accepted = m.clauses.now; failed = m.failed.now; sides = m.sides.now; told = m.store.now.told; settings = settings_of m.sides.now.parts m.choices.now; top = m.top }

-- the given state that a reply from it is about
abbrev pub state_of : MaterialView → State
state_of m = stored_state m.settings m.names m.accepted

-- what belongs to one session
pub record IsMaterial (m : MaterialView) : Type 0 where
  -- no name stands twice
  pub names : AreNames m.names
  -- the clauses and the failed assumptions are over the names
  pub stored : HaveNames m.names (with_assumed m.accepted m.failed)
  -- the sides are those of the clauses and of the units of the failed assumptions
  pub sides_are : AreSidesOf (parted (with_assumed m.accepted m.failed)) m.sides
  -- what was told is of the clauses
  pub told : IsToldOf m.accepted m.told
  -- the settings have the number of parts of the sides
  pub parts : m.settings.parts ≡ m.sides.parts
  -- and cuts of these parts
  pub chosen : AreChosenCuts m.sides.parts m.settings.cuts
  -- no clause and no failed assumption has a variable above the top
  pub top : greatest_named (state_of m) (named_assumptions m.names m.failed) ≤ m.top
