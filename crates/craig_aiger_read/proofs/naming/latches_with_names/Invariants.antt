use Rattle.std.proofs.Common.{◌≡◌, ◌+◌, ◌++◌, drop, length, map}
use Rattle.craig_aiger_read.specs.declared.latch_line.LatchLine.{LatchLine}
use Rattle.craig_aiger_read.specs.ReadFiles.{file_latch, latches_with}
use Rattle.craig_aiger_read.proofs.naming.latches_with_names.Given as goal

-- what is made, and what will be made of the rest, is what is made of all
abbrev pub invariant-loop-place : goal.invariant-loop-place
invariant-loop-place l =
    (map file_latch l.latches.items ++ latches_with (λ n. n) (drop l.place-iterator.count l.lines) (map (λ (x : LatchLine). x.next) (drop l.place-iterator.count l.lines)) l.place-iterator.iter.rest.items
    ≡ latches_with (λ n. n) l.lines (map (λ (x : LatchLine). x.next) l.lines) l.fn.names.items)
    × (l.place-iterator.count + length l.place-iterator.iter.rest.items ≡ length l.lines)
