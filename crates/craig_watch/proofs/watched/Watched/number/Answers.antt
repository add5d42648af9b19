use Rattle.craig_watch.proofs.KeepingLemmas.{numbered-sound}
use Rattle.craig_watch.proofs.watched.Watched.number.Goals as goal

pub returns-clause-sound : goal.returns-clause-sound
returns-clause-sound c = numbered-sound c.args.self.now c.number.new.self c.number.result c.requires.sound c.number.ensures.is_arena c.number.ensures.numbered c.number.ensures.unchanged
