use Rattle.craig_watch.proofs.CameLemmas.{came-short, came-more}
use Rattle.craig_watch.proofs.watched.Watched.hold.Goals as goal

pub returns-then-lits-lt2-clause-sound : goal.returns-then-lits-lt2-clause-sound
returns-then-lits-lt2-clause-sound c = came-short c.args.self.now c.add.new.self (record { literals = c.args.lits.now; flags = c.args.flags }) c.add.result c.requires.sound c.add.ensures.is_arena c.add.ensures.next c.add.ensures.only (came-more c.args.self.now.arena c.add.new.self _ c.add.result c.add.ensures.added) c.add.ensures.unchanged c.requires.normal c.requires.known c.requires.fits c.if-lits-lt2.true
