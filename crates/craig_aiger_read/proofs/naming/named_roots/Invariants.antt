use Rattle.std.proofs.Common.{◌≡◌, ◌+◌, ◌++◌, drop, length, map}
use Rattle.craig_aiger_read.specs.ReadFiles.{file_root, roots_with}
use Rattle.craig_aiger_read.specs.ReadOrder.{moved_by}
use Rattle.craig_aiger_read.proofs.naming.named_roots.Given as goal

-- what is made, and what will be made of the rest, is what is made of all
abbrev pub invariant-loop-place : goal.invariant-loop-place
invariant-loop-place l =
    (map file_root l.roots.items ++ roots_with (moved_by l.first l.variables) (drop l.place-iterator.count l.literals) l.place-iterator.iter.rest.items ≡ roots_with (moved_by l.first l.variables) l.literals l.fn.names.items)
    × (l.place-iterator.count + length l.place-iterator.iter.rest.items ≡ length l.literals)
