-- What holds of each command that a line is read as.
use Rattle.std.specs.Prelude.{◌≢◌, []}
use Rattle.craig_script.specs.declared.command.Command.{Command}
use Rattle.craig_script.specs.declared.command.Command.TheVariants.{Nothing, Parts, Add, System, Mark, Cuts, Limit, Format, Solve}
use Rattle.craig_script.specs.declared.cut_word.CutWord.TheVariants as cut

-- where cuts are chosen there is one
abbrev pub IsAsRead : Command → Type 0
IsAsRead Nothing = Unit {0}
IsAsRead (Parts n) = Unit {0}
IsAsRead (Add part lits) = Unit {0}
IsAsRead (System system) = Unit {0}
IsAsRead (Mark name mark) = Unit {0}
IsAsRead (Cuts cut.All) = Unit {0}
IsAsRead (Cuts (cut.Chosen numbers)) = numbers ≢ []
IsAsRead (Limit limit) = Unit {0}
IsAsRead (Format format) = Unit {0}
IsAsRead (Solve pairs) = Unit {0}
