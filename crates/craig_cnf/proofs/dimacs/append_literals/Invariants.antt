use Rattle.std.proofs.Common.{◌≡◌, ◌++◌, take}
use Rattle.std.specs.List.{flat_map}
use Rattle.std.specs.Prelude.{codes}
use Rattle.craig_spec.specs.DimacsText.{literal_text}
use Rattle.craig_cnf.proofs.dimacs.append_literals.Given as goal

-- the literals so far are appended
abbrev pub invariant-loop-literal : goal.invariant-loop-literal
invariant-loop-literal l = l.out.items ≡ l.fn.out.items ++ flat_map (λ x. literal_text x ++ codes " ") (take l.literal-index l.literals)
