use Rattle.craig_script.proofs.WritingLemmas.{line_read, line_parsed, words-of_line, line-no_newline, given_is_writable}
use Rattle.craig_script.proofs.laws.written_commands.Goals as goal

pub returns-clause-given : goal.returns-clause-given
returns-clause-given c = given_is_writable

pub returns-clause-words : goal.returns-clause-words
returns-clause-words c = words-of_line

pub returns-clause-read_back : goal.returns-clause-read_back
returns-clause-read_back c = line_read

pub returns-clause-line : goal.returns-clause-line
returns-clause-line c = line_parsed

pub returns-clause-no_newline : goal.returns-clause-no_newline
returns-clause-no_newline c = line-no_newline
