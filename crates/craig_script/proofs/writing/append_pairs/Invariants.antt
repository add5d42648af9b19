use Rattle.std.proofs.Common.{◌≡◌, ◌++◌, take}
use Rattle.std.specs.List.{flat_map}
use Rattle.craig_script.specs.Writing.{pair_words, spaced}
use Rattle.craig_script.proofs.writing.append_pairs.Given as goal

-- the pairs so far are appended
abbrev pub invariant-loop-pair : goal.invariant-loop-pair
invariant-loop-pair l = l.out.items ≡ l.fn.out.items ++ spaced (flat_map pair_words (take l.pair-index l.pairs))
