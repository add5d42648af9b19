use Rattle.std.proofs.Common.{◌≡◌, ◌+◌, ◌++◌, drop, length, map}
use Rattle.craig_aiger_read.specs.declared.root_line.RootLine.{RootLine}
use Rattle.craig_aiger_read.specs.ReadFiles.{file_root, roots_with}
use Rattle.craig_aiger_read.proofs.naming.roots_with_names.Given as goal

-- what is made, and what will be made of the rest, is what is made of all
abbrev pub invariant-loop-place : goal.invariant-loop-place
invariant-loop-place l =
    (map file_root l.roots.items ++ roots_with (λ n. n) (drop l.place-iterator.count (map (λ (x : RootLine). x.literal) l.lines)) l.place-iterator.iter.rest.items
    ≡ roots_with (λ n. n) (map (λ (x : RootLine). x.literal) l.lines) l.fn.names.items)
    × (l.place-iterator.count + length l.place-iterator.iter.rest.items ≡ length l.lines)
