use Rattle.std.proofs.Common.{◌≡◌, ◌++◌, map, take}
use Rattle.std.specs.Fmt.{signed_decimal}
use Rattle.craig_script.specs.Writing.{spaced}
use Rattle.craig_script.proofs.writing.append_literals.Given as goal

-- the literals so far are appended
abbrev pub invariant-loop-literal : goal.invariant-loop-literal
invariant-loop-literal l = l.out.items ≡ l.fn.out.items ++ spaced (map signed_decimal (take l.literal-index l.literals))
