use Rattle.craig_top.proofs.ReplyContentsLemmas.{reply_to_add, reply_to_cuts, reply_to_format, reply_to_limit, reply_to_mark, reply_to_parts, reply_to_system, reply_to_nothing, reply_to_refused, reply_to_solve}
use Rattle.craig_top.proofs.laws.replies.replies_to_lines.Goals as goal

pub returns-clause-nothing : goal.returns-clause-nothing
returns-clause-nothing c = reply_to_nothing

pub returns-clause-parts : goal.returns-clause-parts
returns-clause-parts c = reply_to_parts

pub returns-clause-system : goal.returns-clause-system
returns-clause-system c = reply_to_system

pub returns-clause-mark : goal.returns-clause-mark
returns-clause-mark c = reply_to_mark

pub returns-clause-cuts : goal.returns-clause-cuts
returns-clause-cuts c = reply_to_cuts

pub returns-clause-add : goal.returns-clause-add
returns-clause-add c = reply_to_add

pub returns-clause-solve : goal.returns-clause-solve
returns-clause-solve c = reply_to_solve

pub returns-clause-refused : goal.returns-clause-refused
returns-clause-refused c = reply_to_refused

pub returns-clause-limit : goal.returns-clause-limit
returns-clause-limit c = reply_to_limit

pub returns-clause-format : goal.returns-clause-format
returns-clause-format c = reply_to_format
