use Rattle.craig_top.proofs.ReplyContentsLemmas.{have_outputs, read_as, strict_text}
use Rattle.craig_top.proofs.laws.replies.texts_of_circuits.Goals as goal

pub returns-clause-read : goal.returns-clause-read
returns-clause-read c = read_as

pub returns-clause-strict : goal.returns-clause-strict
returns-clause-strict c = strict_text

pub returns-clause-outputs : goal.returns-clause-outputs
returns-clause-outputs c = have_outputs
