use Rattle.std.proofs.Common.{ap, refl}
use Rattle.craig_base.specs.Arena.{ArenaView}
use Rattle.craig_watch.proofs.KeepingLemmas.{flagged-sound}
use Rattle.craig_watch.proofs.watched.Watched.set_flags.Goals as goal

pub returns-clause-sound : goal.returns-clause-sound
returns-clause-sound c = flagged-sound c.args.self.now c.set_flags.new.self c.args.id.0 _ c.requires.sound c.set_flags.ensures.is_arena (ap (λ (a : ArenaView). a.given) c.set_flags.ensures.changed) c.set_flags.ensures.only (λ f. refl)
