use Rattle.craig_top.proofs.ReplyContentsLemmas.{next_after_add, next_after_cuts, next_after_format, next_after_limit, next_after_mark, next_after_parts, next_after_system, next_after_nothing, next_after_refused, next_after_solve}
use Rattle.craig_top.proofs.laws.replies.states_after_lines.Goals as goal

pub returns-clause-parts : goal.returns-clause-parts
returns-clause-parts c = next_after_parts

pub returns-clause-system : goal.returns-clause-system
returns-clause-system c = next_after_system

pub returns-clause-mark : goal.returns-clause-mark
returns-clause-mark c = next_after_mark

pub returns-clause-cuts : goal.returns-clause-cuts
returns-clause-cuts c = next_after_cuts

pub returns-clause-add : goal.returns-clause-add
returns-clause-add c = next_after_add

pub returns-clause-nothing : goal.returns-clause-nothing
returns-clause-nothing c = next_after_nothing

pub returns-clause-solve : goal.returns-clause-solve
returns-clause-solve c = next_after_solve

pub returns-clause-refused : goal.returns-clause-refused
returns-clause-refused c = next_after_refused

pub returns-clause-limit : goal.returns-clause-limit
returns-clause-limit c = next_after_limit

pub returns-clause-format : goal.returns-clause-format
returns-clause-format c = next_after_format
