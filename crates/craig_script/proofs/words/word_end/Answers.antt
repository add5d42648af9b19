use Rattle.std.proofs.Common.{not}
use Rattle.std.proofs.lemmas.List.Sums.{prefix_len-le-length}
use Rattle.craig_script.specs.Words.{is_separator}
use Rattle.craig_script.proofs.WordsLemmas.{position-or_length}
use Rattle.craig_script.proofs.words.word_end.Goals as goal

pub returns-clause-place : goal.returns-clause-place
returns-clause-place c = rw (c.unwrap_or.ensures, c.separator_position.ensures) (position-or_length is_separator c.args.line.now)

pub returns-clause-within : goal.returns-clause-within
returns-clause-within c = rw (returns-clause-place c) (prefix_len-le-length (λ x. not (is_separator x)) c.args.line.now)
