use Rattle.std.proofs.Common.{◌≡◌, length}
use Rattle.craig_script.specs.Lines.{unended, before_first_byte, fed, IsPartial}
use Rattle.craig_script.proofs.lines.cut_lines.Given as goal

-- the lines and the part so far, fed with the rest, are as good as all of it
abbrev pub invariant-loop-front : goal.invariant-loop-front
invariant-loop-front l = IsPartial l.partial × (fed (unended l.lines.items l.partial) l.rest ≡ fed before_first_byte l.bytes)

abbrev pub decreases-loop-front : goal.decreases-loop-front
decreases-loop-front l = length l.rest
