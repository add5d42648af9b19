use Rattle.std.proofs.Common.{◌≡◌, map, take}
use Rattle.craig_spec.specs.Literal.{Literal}
use Rattle.craig_base.specs.declared.script_part.Part.{Part}
use Rattle.craig_top.specs.Naming.{named_clause}
use Rattle.craig_top.proofs.assumptions.named_literals.Given as goal

-- the literals so far are named
abbrev pub invariant-loop-assumption : goal.invariant-loop-assumption
invariant-loop-assumption l = l.literals.items ≡ named_clause l.names (map (λ (a : Part × Literal). a.1) (take l.assumption-index l.assumptions))
