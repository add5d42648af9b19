use Rattle.std.proofs.Common.{false}
use Rattle.craig_top.specs.Stored.{given_state, seen}
use Rattle.craig_top.proofs.VerdictLemmas.{refutation-read}
use Rattle.craig_top.proofs.stored.Stored.answer.Goals as goal

pub returns-in-Ok-clause-refutation : goal.returns-in-Ok-clause-refutation
returns-in-Ok-clause-refutation c = refutation-read c.obey.result (seen c.obey.new.self false) (given_state c.args.self.now) c.in-Ok.command _ _ _ c.in-Ok.ensures.reading c.obey.ensures.refutation
