use Rattle.std.proofs.Common.{◌≡◌, true, false, ◌∙◌}
use Rattle.craig_watch.proofs.SweptLemmas.{swept-taken}
use Rattle.craig_watch.proofs.watch_list.WatchList.keep_if_live.Goals as goal

pub returns-then-not-live-clause-swept : goal.returns-then-not-live-clause-swept
returns-then-not-live-clause-swept c start swept =
    swept-taken c.args.arena.now c.args.index start c.args.self.now c.remove.new.self c.id.result swept c.requires c.id.ensures (λ live. let no : false ≡ true = c.if-not-live.ensures.live ∙ live in cc) c.remove.ensures.ids c.remove.ensures.beside
