-- The names of outputs, as they are printed.
use Rattle.std.specs.Prelude.{ℕ, List, [], ◌++◌, Option, Some, None, codes, decimal}
use Rattle.craig_aiger.specs.declared.family.Family.{Family}
use Rattle.craig_aiger.specs.declared.family.Family.TheVariants.{McMillan, Pudlak, Inverse}
use Rattle.craig_aiger.specs.declared.out_name.OutName.{OutName}

-- the letter of a family
abbrev pub family_text : Option Family → List ℕ
family_text None = []
family_text (Some McMillan) = codes "m"
family_text (Some Pudlak) = codes "p"
family_text (Some Inverse) = codes "i"

-- an output name as it is printed: the cut, after the letter of the family where there is one
abbrev pub name_text : OutName → List ℕ
name_text name = family_text name.family ++ decimal name.cut
