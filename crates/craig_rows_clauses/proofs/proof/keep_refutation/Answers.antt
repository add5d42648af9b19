use Rattle.craig_rows_clauses.proofs.RefutationLemmas.{original_gone, reclaimed_root}
use Rattle.craig_rows_clauses.proofs.proof.keep_refutation.Goals as goal

pub returns-clause-unforgotten : goal.returns-clause-unforgotten
returns-clause-unforgotten c =
    reclaimed_root c.args.store.now.told c.forget.new.self.told c.forget-2.new.self.told c.forget-3.new.self.told c.reclaim.new.self.told c.requires c.forget.ensures.told c.forget-2.ensures.told c.forget-3.ensures.told c.reclaim.ensures.told

pub returns-clause-gone : goal.returns-clause-gone
returns-clause-gone c =
    original_gone c.args.store.now.told c.forget.new.self.told c.forget-2.new.self.told c.forget-3.new.self.told c.reclaim.new.self.told c.requires c.forget.ensures.told c.forget-2.ensures.told c.forget-3.ensures.told c.reclaim.ensures.in_use
