use Rattle.std.proofs.Common.{ap, get_or, ◌∙◌}
use Rattle.craig_base.specs.Arena.{ArenaView, clause_at}
use Rattle.craig_watch.proofs.SweptLemmas.{gone-all, none_at, still_held}
use Rattle.craig_watch.proofs.watched.Watched.let_go_all.Goals as goal

pub returns-clause-sound : goal.returns-clause-sound
returns-clause-sound c = gone-all c.args.self.now c.kill_all.new.arena c.args.ids.now c.keep_live.new.self c.requires.sound c.kill_all.ensures.is_arena c.kill_all.ensures.without c.requires.no_reason c.keep_live.ensures.sized c.keep_live.ensures.swept

pub returns-clause-gone : goal.returns-clause-gone
returns-clause-gone c k d low = ap (λ (a : ArenaView). clause_at a (get_or c.args.ids.now k d).0) c.kill_all.ensures.without ∙ none_at c.args.self.now.arena c.args.ids.now k d low

pub returns-clause-others : goal.returns-clause-others
returns-clause-others c k none = ap (λ (a : ArenaView). clause_at a k) c.kill_all.ensures.without ∙ still_held c.args.self.now.arena c.args.ids.now k none
