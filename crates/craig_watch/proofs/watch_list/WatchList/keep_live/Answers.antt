use Rattle.std.proofs.Common.{◌≡◌, ◌+◌, ◌-◌, ℕ, arith, sym, subst, ◌∙◌}
use Rattle.craig_watch.specs.Watches.{IsSwept}
use Rattle.craig_watch.proofs.SweptLemmas.{swept-none}
use Rattle.craig_watch.proofs.watch_list.WatchList.keep_live.Goals as goal

pub loop-index-init : goal.loop-index-init
loop-index-init c = record {
  within = omega (arith, c.len-index.ensures.ids);
  swept = swept-none c.args.arena.now c.args.self.now c.len-index.result (sym c.len-index.ensures.beside ∙ c.len-index.ensures.ids) c.len-index.ensures.ids;
}

pub loop-index-preserved : goal.loop-index-preserved
loop-index-preserved c = record {
  within = c.keep_if_live.ensures.within;
  swept =
      let back : c.loop-index.index ≡ c.loop-index.index - 1 + 1 = omega (arith, c.loop-index-test.true) in
      c.keep_if_live.ensures.swept c.args.self.now (subst (λ (n : ℕ). IsSwept c.args.arena.now n c.args.self.now c.loop-index.self) back c.loop-index.invariant.swept);
}
