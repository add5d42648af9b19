use Rattle.std.proofs.Common.{◌≡◌, map, take}
use Rattle.craig_spec.specs.CircuitCnf.{greatest_of_roots}
use Rattle.craig_cnf.specs.LayoutClauses.{named_root}
use Rattle.craig_cnf.proofs.tseitin.greatest_root.Given as goal

-- the greatest variable of the roots so far
abbrev pub invariant-loop-place : goal.invariant-loop-place
invariant-loop-place l = l.greatest ≡ greatest_of_roots (map (named_root l.top l.layout.inputs) (take l.place l.layout.outputs))
