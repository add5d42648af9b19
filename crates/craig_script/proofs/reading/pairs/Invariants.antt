use Rattle.std.proofs.Common.{◌≡◌, ◌⊎◌, IsTrue, length}
use Rattle.craig_script.specs.Words.{words}
use Rattle.craig_script.specs.Reading.{pairs_to_end, begins_with_part_and_literal}
use Rattle.craig_script.proofs.ReadingLemmas.{with_front}
use Rattle.craig_script.proofs.reading.pairs.Given as goal

-- what is read of the rest, behind the pairs so far, is what is read of the line; and a line of which
-- something was read begins with a pair
abbrev pub invariant-loop-word : goal.invariant-loop-word
invariant-loop-word l =
    (with_front l.pairs (pairs_to_end (words l.rest)) ≡ pairs_to_end (words l.line))
    × ((l.rest ≡ l.line) ⊎ IsTrue (begins_with_part_and_literal (words l.line)))

abbrev pub decreases-loop-word : goal.decreases-loop-word
decreases-loop-word l = length l.rest
