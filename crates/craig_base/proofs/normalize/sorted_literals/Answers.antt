use Rattle.std.proofs.lemmas.List.Filters.{dedup_is}
use Rattle.craig_base.proofs.ClausesLemmas.{code_eq, IsAscending-dedup, SameLiterals-dedup}
use Rattle.craig_base.proofs.normalize.sorted_literals.Goals as goal

pub returns-clause-members : goal.returns-clause-members
returns-clause-members c =
    let is = dedup_is code_eq _ _ c.dedup.ensures.filtered in
    rw (c.from_vec.ensures, is, ← c.in_ok-literals.ensures.items) (SameLiterals-dedup _ _ c.sort_unstable.ensures.permutation)

pub returns-clause-ascending : goal.returns-clause-ascending
returns-clause-ascending c =
    let is = dedup_is code_eq _ _ c.dedup.ensures.filtered in
    rw (c.from_vec.ensures, is) (IsAscending-dedup _ c.sort_unstable.ensures.sorted)
