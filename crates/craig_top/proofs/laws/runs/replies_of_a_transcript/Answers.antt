use Rattle.craig_top.proofs.PutRepliesLemmas.{begun_replies, broken_off, transcript_replies}
use Rattle.craig_top.proofs.laws.runs.replies_of_a_transcript.Goals as goal

pub returns-clause-whole : goal.returns-clause-whole
returns-clause-whole c = transcript_replies

pub returns-clause-begun : goal.returns-clause-begun
returns-clause-begun c = begun_replies

pub returns-clause-broken_off : goal.returns-clause-broken_off
returns-clause-broken_off c = broken_off
