use Rattle.std.proofs.Common.{◌≡◌, ◌+◌, ◌++◌, ◌∷◌, [], List, length, ap, arith, ◌∙◌}
use Rattle.std.proofs.lemmas.List.{length_push}
use Rattle.craig_base.specs.Literals.{literal_code}
use Rattle.craig_watch.specs.Watches.{WatchListView, list_of, no_watches}
use Rattle.craig_watch.proofs.WatchesLemmas.{get_or-empty}
use Rattle.craig_watch.proofs.watch_lists.WatchLists.grow.Goals as goal

pub loop-alloc-init : goal.loop-alloc-init
loop-alloc-init c = record {
  more = let is = ap (λ (w : List WatchListView). length w) c.self.view_is in omega arith;
  same = λ m. ap (λ (w : List WatchListView). list_of w m) c.self.view_is;
}

pub loop-alloc-preserved : goal.loop-alloc-preserved
loop-alloc-preserved c =
    let is : c.push.new.self.items ≡ c.loop-alloc.self-inside.lists.items ++ no_watches ∷ [] = c.in_ok-push.ensures.items ∙ ap (λ (w : WatchListView). c.loop-alloc.self-inside.lists.items ++ w ∷ []) c.new.ensures in
    let long : length (c.loop-alloc.self-inside.lists.items ++ no_watches ∷ []) ≡ length c.loop-alloc.self-inside.lists.items + 1 = length_push c.loop-alloc.self-inside.lists.items no_watches in
    let same_length = ap (λ (w : List WatchListView). length w) is in
    let more = c.loop-alloc.invariant.more in
    record {
      more = omega arith;
      same = λ m. ap (λ (w : List WatchListView). list_of w m) is ∙ get_or-empty c.loop-alloc.self-inside.lists.items (literal_code m) ∙ c.loop-alloc.invariant.same m;
    }

pub loop-alloc-smaller : goal.loop-alloc-smaller
loop-alloc-smaller c =
    let is : c.push.new.self.items ≡ c.loop-alloc.self-inside.lists.items ++ no_watches ∷ [] = c.in_ok-push.ensures.items ∙ ap (λ (w : WatchListView). c.loop-alloc.self-inside.lists.items ++ w ∷ []) c.new.ensures in
    let long : length (c.loop-alloc.self-inside.lists.items ++ no_watches ∷ []) ≡ length c.loop-alloc.self-inside.lists.items + 1 = length_push c.loop-alloc.self-inside.lists.items no_watches in
    let same_length = ap (λ (w : List WatchListView). length w) is in
    omega (arith, c.len.ensures, c.loop-alloc.self-inside.lists.ok.0, c.loop-alloc-test.true)

pub returns-clause-more : goal.returns-clause-more
returns-clause-more c = c.loop-alloc.invariant.more

pub returns-clause-same : goal.returns-clause-same
returns-clause-same c = c.loop-alloc.invariant.same

pub returns-in_err-push-clause-more : goal.returns-in_err-push-clause-more
returns-in_err-push-clause-more c =
    let same_length = ap (λ (w : List WatchListView). length w) (c.in_err-push.ensures.items) in
    let more = c.loop-alloc.invariant.more in
    omega arith

pub returns-in_err-push-clause-same : goal.returns-in_err-push-clause-same
returns-in_err-push-clause-same c = λ m. ap (λ (w : List WatchListView). list_of w m) (c.in_err-push.ensures.items) ∙ c.loop-alloc.invariant.same m
