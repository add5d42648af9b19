use Rattle.std.proofs.Common.{◌≡◌, take}
use Rattle.craig_top.specs.Naming.{named_clause}
use Rattle.craig_top.proofs.lemmas.named_literals.Given as goal

-- the literals so far are named
abbrev pub invariant-loop-literal : goal.invariant-loop-literal
invariant-loop-literal l = l.named.items ≡ named_clause l.names (take l.literal-index l.lits)
