use Rattle.std.proofs.Common.{◌≡◌, ◌⊎◌, IsTrue, length}
use Rattle.craig_script.specs.Words.{words}
use Rattle.craig_script.specs.Reading.{numbers_to_end, begins_with_number}
use Rattle.craig_script.proofs.ReadingLemmas.{with_front}
use Rattle.craig_script.proofs.reading.numbers.Given as goal

-- what is read of the rest, behind the numbers so far, is what is read of the line; and a line of which
-- something was read begins with a number
abbrev pub invariant-loop-word : goal.invariant-loop-word
invariant-loop-word l =
    (with_front l.numbers (numbers_to_end (words l.rest)) ≡ numbers_to_end (words l.line))
    × ((l.rest ≡ l.line) ⊎ IsTrue (begins_with_number (words l.line)))

abbrev pub decreases-loop-word : goal.decreases-loop-word
decreases-loop-word l = length l.rest
