use Rattle.std.proofs.Common.{◌≡◌, ℕ, true, ◌++◌, length, ap, subst, arith}
use Rattle.std.specs.BTreeSet.{contains}
use Rattle.std.specs.Ordering.{nat_cmp}
use Rattle.craig_spec.specs.Literal.{Clause}
use Rattle.craig_search.proofs.FlatLemmas.{clauses_at_ends-push}
use Rattle.craig_search.proofs.StoredJournalLemmas.{AreStored-more, AreStored-push}
use Rattle.craig_search.proofs.journal.Journal.push.Goals as goal

pub invariant_of-self-2 : goal.invariant_of-self-2
invariant_of-self-2 c =
    let items : length c.extend_from_slice.new.self.items ≡ length (c.self.inside.literals.items ++ c.args.lits.now) = ap (λ (xs : Clause). length xs) c.in_ok-extend_from_slice.ensures.items in
    let stop : c.len.result ≡ length (c.self.inside.literals.items ++ c.args.lits.now) = omega (arith, c.len.ensures, c.extend_from_slice.new.self.ok.0) in
    let noted = subst (λ (n : ℕ). contains nat_cmp c.note.new.numbers n ≡ true) c.fingerprint.ensures c.in_ok-note.ensures.noted in
    rw (c.push_reserved.ensures.items, c.in_ok-reserve.ensures.items, c.in_ok-extend_from_slice.ensures.items) (AreStored-push c.self.inside.literals.items c.self.inside.ends.items c.args.lits.now c.self.inside.fingerprints c.note.new.numbers c.len.result c.self.invariant stop c.note.ensures.stay noted)

pub returns-clause-pushed : goal.returns-clause-pushed
returns-clause-pushed c =
    let items : length c.extend_from_slice.new.self.items ≡ length (c.self.inside.literals.items ++ c.args.lits.now) = ap (λ (xs : Clause). length xs) c.in_ok-extend_from_slice.ensures.items in
    let stop : c.len.result ≡ length (c.self.inside.literals.items ++ c.args.lits.now) = omega (arith, c.len.ensures, c.extend_from_slice.new.self.ok.0) in
    rw (← c.self.view_is, c.push_reserved.ensures.items, c.in_ok-reserve.ensures.items, c.in_ok-extend_from_slice.ensures.items) (clauses_at_ends-push 0 c.self.inside.ends.items c.self.inside.literals.items c.args.lits.now c.len.result c.self.invariant.cut stop)

pub invariant_of-self-in_err-note : goal.invariant_of-self-in_err-note
invariant_of-self-in_err-note c =
    rw (c.in_ok-reserve.ensures.items) (AreStored-more c.self.inside.literals.items c.self.inside.ends.items c.self.inside.fingerprints c.note.new.numbers c.self.invariant c.note.ensures.stay)

pub invariant_of-self-in_err-extend_from_slice : goal.invariant_of-self-in_err-extend_from_slice
invariant_of-self-in_err-extend_from_slice c =
    rw (c.in_err-extend_from_slice.ensures.items, c.in_ok-reserve.ensures.items) (AreStored-more c.self.inside.literals.items c.self.inside.ends.items c.self.inside.fingerprints c.note.new.numbers c.self.invariant c.note.ensures.stay)
