use Rattle.craig_search.proofs.StoredJournalLemmas.{AreStored-more}
use Rattle.craig_search.proofs.journal.Journal.keep_fingerprint.Goals as goal

pub invariant_of-self : goal.invariant_of-self
invariant_of-self c = AreStored-more c.self.inside.literals.items c.self.inside.ends.items c.self.inside.fingerprints c.note.new.numbers c.self.invariant c.note.ensures.stay
