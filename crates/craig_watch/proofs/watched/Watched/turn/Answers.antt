use Rattle.std.proofs.Common.{ap}
use Rattle.craig_base.specs.Arena.{ArenaView}
use Rattle.craig_watch.proofs.StateLemmas.{turned}
use Rattle.craig_watch.proofs.watched.Watched.turn.Goals as goal

pub returns-clause-turned : goal.returns-clause-turned
returns-clause-turned c =
    turned c.args.self.now c.swap.new.self c.args.id c.requires.sound c.requires.live c.requires.long c.swap.ensures.is_arena (ap (λ (a : ArenaView). a.given) c.swap.ensures.changed) c.swap.ensures.only
