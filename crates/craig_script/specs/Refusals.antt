-- The numbers of the refusals in replies.
use Rattle.std.specs.Prelude.{ℕ}
use Rattle.craig_script.specs.declared.refusal.Refusal.{Refusal}
use Rattle.craig_script.specs.declared.refusal.Refusal.TheVariants.{Syntax, Overlong, Range, Variable, LateParts, LimitRange, CutRange}

-- the number by which a reply names the reason
abbrev pub number_of_refusal : Refusal → ℕ
number_of_refusal Syntax = 1
number_of_refusal Overlong = 2
number_of_refusal Range = 3
number_of_refusal Variable = 4
number_of_refusal LateParts = 5
number_of_refusal LimitRange = 6
number_of_refusal CutRange = 7
