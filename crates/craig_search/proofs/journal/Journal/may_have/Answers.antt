use Rattle.std.proofs.Common.{◌≡◌, ℕ, ◌∙◌, ap, sym, subst}
use Rattle.std.specs.BTreeSet.{contains}
use Rattle.std.specs.Ordering.{nat_cmp}
use Rattle.craig_search.specs.Fingerprint.{fingerprint_of}
use Rattle.craig_search.specs.StoredJournal.{MarksRepeat}
use Rattle.craig_search.proofs.StoredJournalLemmas.{MarksRepeat-stored}
use Rattle.craig_search.proofs.journal.Journal.may_have.Goals as goal

pub returns : goal.returns
returns c =
    let found : c.contains.result ≡ contains nat_cmp c.self.inside.fingerprints (fingerprint_of c.args.lits.now) = c.contains.ensures ∙ ap (λ (n : ℕ). contains nat_cmp c.self.inside.fingerprints n) c.fingerprint.ensures in
    subst (MarksRepeat c.args.self.now c.args.lits.now) (sym found) (MarksRepeat-stored c.self.inside.literals.items c.self.inside.ends.items c.self.inside.fingerprints c.args.self.now c.args.lits.now c.self.invariant c.self.view_is)
