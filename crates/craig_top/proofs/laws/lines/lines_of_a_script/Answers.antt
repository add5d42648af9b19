use Rattle.craig_top.proofs.ScriptLinesLemmas.{last_no_newline, lines_joined, no_newline, overlong_line, script_ended, script_unended, text_line}
use Rattle.craig_top.proofs.laws.lines.lines_of_a_script.Goals as goal

pub returns-clause-joined : goal.returns-clause-joined
returns-clause-joined c = lines_joined

pub returns-clause-no_newline : goal.returns-clause-no_newline
returns-clause-no_newline c = no_newline

pub returns-clause-last_no_newline : goal.returns-clause-last_no_newline
returns-clause-last_no_newline c = last_no_newline

pub returns-clause-ended : goal.returns-clause-ended
returns-clause-ended c = script_ended

pub returns-clause-unended : goal.returns-clause-unended
returns-clause-unended c = script_unended

pub returns-clause-text : goal.returns-clause-text
returns-clause-text c = text_line

pub returns-clause-overlong : goal.returns-clause-overlong
returns-clause-overlong c = overlong_line
