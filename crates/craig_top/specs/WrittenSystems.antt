-- The systems whose interpolants a reply has.
use Rattle.std.specs.Prelude.{ℕ, nat_eq, List, [], ◌∷◌, Option, Some, None, if◌then◌else◌}
use Rattle.craig_spec.specs.PartialInterpolant.{Label, A, AB, B}
use Rattle.craig_aiger.specs.declared.family.Family.{Family}
use Rattle.craig_aiger.specs.declared.family.Family.TheVariants as family
use Rattle.craig_script.specs.declared.setting_words.SystemWord.{SystemWord}
use Rattle.craig_script.specs.declared.setting_words.SystemWord.TheVariants.{McMillan, Pudlak, Inverse, Dual, Marks, All}
use Rattle.craig_top.specs.GivenState.{ScriptSettings}

-- the label of a variable by the marks that come after this label: the last of them counts
abbrev pub label_after : Label → List (ℕ × Label) → ℕ → Label
label_after label [] x = label
label_after label (mark ∷ marks) x = label_after (if nat_eq x mark.0 then mark.1 else label) marks x

-- the label of a variable by its marks: AB where it has none
abbrev pub label_of_mark : List (ℕ × Label) → ℕ → Label
label_of_mark marks x = label_after AB marks x

-- one of the systems of a reply
pub record WrittenSystem : Type 0 where
  -- the family of its outputs, where several systems are written side by side
  pub family : Option Family
  -- the labels of the variables of both sides
  pub marks : ℕ → Label

-- the system alone, with these labels
abbrev pub alone : (ℕ → Label) → List WrittenSystem
alone marks = record { family = None; marks = marks } ∷ []

-- McMillan's, Pudlák's and the inverse system, which label each variable of both sides B, AB and A
abbrev pub by_strength : List WrittenSystem
by_strength =
    record { family = Some family.McMillan; marks = λ x. B } ∷ record { family = Some family.Pudlak; marks = λ x. AB } ∷ record { family = Some family.Inverse; marks = λ x. A } ∷ []

-- the systems of a word, where the variables have these marks
abbrev pub systems_of : SystemWord → (ℕ → Label) → List WrittenSystem
systems_of McMillan marks = alone (λ x. B)
systems_of Pudlak marks = alone (λ x. AB)
systems_of Inverse marks = alone (λ x. A)
systems_of Dual marks = alone (λ x. AB)
systems_of Marks marks = alone marks
systems_of All marks = by_strength

-- the systems of the reply to a solve
abbrev pub written_systems : ScriptSettings → List WrittenSystem
written_systems settings = systems_of settings.system (label_of_mark settings.marks)
