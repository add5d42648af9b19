use Rattle.std.proofs.lemmas.Result.{on_ok_weaker}
use Rattle.std.proofs.Common.{◌≢◌, arith}
use Rattle.craig_rows_circuits.proofs.ExampleLemmas.{AreNoted-derived, ChainOk-refutation}
use Rattle.craig_rows_circuits.proofs.example.tell_refutation.Goals as goal

pub derived-requires-clause-chain : goal.derived-requires-clause-chain
derived-requires-clause-chain c =
    let other : c.new-x.result.var ≢ c.new-y.result.var = rw (c.new-x.ensures, c.new-y.ensures) (λ e. omega arith) in
    ChainOk-refutation c.args.store.now.told c.tell_original.new.store.told c.tell_original-2.new.store.told c.tell_original-3.new.store.told c.tell_original-4.new.store.told c.new-x.result c.new-y.result c.not.result c.not-2.result _ _ _ _ other c.not.ensures c.not-2.ensures c.requires.nothing c.in_ok-tell_original.ensures.told c.in_ok-tell_original-2.ensures.told c.in_ok-tell_original-3.ensures.told c.in_ok-tell_original-4.ensures.told

pub returns-clause-noted : goal.returns-clause-noted
returns-clause-noted c =
    on_ok_weaker c.derived.result (λ told. AreNoted-derived c.tell_original-4.new.sides c.tell_original-4.new.store.told c.derived.new.self.told _ _ _ _ c.in_ok-tell_original-4.ensures.noted told) c.derived.ensures.told
