use Rattle.std.proofs.Common.{◌≡◌, ◌+◌, ◌++◌, drop, length, map}
use Rattle.craig_aiger_read.specs.ReadFiles.{file_latch, latches_with}
use Rattle.craig_aiger_read.specs.ReadOrder.{moved_by}
use Rattle.craig_aiger_read.proofs.naming.named_latches.Given as goal

-- what is made, and what will be made of the rest, is what is made of all
abbrev pub invariant-loop-place : goal.invariant-loop-place
invariant-loop-place l =
    (map file_latch l.latches.items ++ latches_with (moved_by l.first l.variables) (drop l.place-iterator.count l.lines) (drop l.place-iterator.count l.nexts) l.place-iterator.iter.rest.items
    ≡ latches_with (moved_by l.first l.variables) l.lines l.nexts l.fn.names.items)
    × (l.place-iterator.count + length l.place-iterator.iter.rest.items ≡ length l.nexts)
