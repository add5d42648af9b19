use Rattle.std.proofs.Common.{◌≡◌, ◌++◌, take}
use Rattle.craig_top.specs.CutLayout.{edge_outputs}
use Rattle.craig_top.proofs.refutation.push_named.Given as goal

-- the edges so far have their outputs
abbrev pub invariant-loop-place : goal.invariant-loop-place
invariant-loop-place l = l.outputs.items ≡ l.fn.outputs.items ++ edge_outputs l.family (take l.place l.cuts) (take l.place l.edges)
