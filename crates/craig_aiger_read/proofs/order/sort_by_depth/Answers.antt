use Rattle.std.proofs.Common.{rules}
use Rattle.std.proofs.lemmas.List.Sorted.{IsNonDecreasingBy-from_sort_by_key, answers_always}
use Rattle.craig_aiger_read.specs.declared.order.Ranked.{Ranked}
use Rattle.craig_aiger_read.proofs.OrderLemmas.{stable-depth}
use Rattle.craig_aiger_read.proofs.order.sort_by_depth.Goals as goal

pub returns-clause-sorted : goal.returns-clause-sorted
returns-clause-sorted c = IsNonDecreasingBy-from_sort_by_key (λ (r : Ranked). r.depth) _ c.in_ok-sort_by_key.ensures.sorted (λ a r q k. search rules)

pub returns-clause-stable : goal.returns-clause-stable
returns-clause-stable c = λ n. stable-depth n c.args.ranked.now.items c.sort_by_key.new.self.items
    (c.in_ok-sort_by_key.ensures.stable (λ (r : Ranked). r.depth) (answers_always _ _ _ (λ f a r q k. search rules)))
