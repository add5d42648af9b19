use Rattle.std.proofs.Common.{◌≡◌, length, arith}
use Rattle.craig_search.specs.StoredJournal.{clauses_at_ends}
use Rattle.craig_search.proofs.FlatLemmas.{length-clauses_at_ends}
use Rattle.craig_search.proofs.journal.Journal.len.Goals as goal

pub returns : goal.returns
returns c =
    let same : length (clauses_at_ends 0 c.self.inside.ends.items c.self.inside.literals.items) ≡ length c.self.inside.ends.items = length-clauses_at_ends 0 c.self.inside.ends.items c.self.inside.literals.items in
    rw (← c.self.view_is) (omega (arith, c.len.ensures, c.self.inside.ends.ok.0))
