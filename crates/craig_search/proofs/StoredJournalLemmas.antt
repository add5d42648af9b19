-- Clauses whose literals lie in one list, with a fingerprint of each.
use Rattle.std.proofs.Common.{◌≡◌, ℕ, true, List, [], ◌∷◌, ◌++◌, length, get_or, All, sym, ap, subst, ◌∙◌}
use Rattle.std.specs.BTreeSet.{BTreeSet, contains}
use Rattle.std.specs.Ordering.{nat_cmp}
use Rattle.std.proofs.lemmas.List.Elements.{All-push}
use Rattle.craig_spec.specs.Literal.{Clause}
use Rattle.craig_search.specs.Fingerprint.{fingerprint_of}
use Rattle.craig_search.specs.StoredJournal.{AreStored, MarksRepeat, clauses_at_ends}
use Rattle.craig_search.proofs.FingerprintLemmas.{fingerprint-same}
use Rattle.craig_search.proofs.FlatLemmas.{AreEnds-push, clauses_at_ends-push}

-- no number was taken out
abbrev pub Stay : BTreeSet ℕ → BTreeSet ℕ → Type 0
Stay old new = (n : ℕ) → contains nat_cmp old n ≡ true → contains nat_cmp new n ≡ true

-- with more numbers
pub AreStored-more : (ls : Clause) (ends : List ℕ) (old new : BTreeSet ℕ) → AreStored ls ends old → Stay old new → AreStored ls ends new
AreStored-more ls ends old new are stay = record { cut = are.cut; found = λ k d within. stay (fingerprint_of (get_or (clauses_at_ends 0 ends ls) k d)) (are.found k d within) }

-- with one clause more
pub AreStored-push : (ls : Clause) (ends : List ℕ) (added : Clause) (old new : BTreeSet ℕ) (stop : ℕ) → AreStored ls ends old → stop ≡ length (ls ++ added) → Stay old new → contains nat_cmp new (fingerprint_of added) ≡ true → AreStored (ls ++ added) (ends ++ stop ∷ []) new
AreStored-push ls ends added old new stop are is stay noted = record {
  cut = AreEnds-push 0 ends ls added stop are.cut is;
  found =
      subst (All (λ c. contains nat_cmp new (fingerprint_of c) ≡ true)) (sym (clauses_at_ends-push 0 ends ls added stop are.cut is))
      (All-push (λ c. contains nat_cmp new (fingerprint_of c) ≡ true) (clauses_at_ends 0 ends ls) added (AreStored-more ls ends old new are stay).found noted);
}

-- where a clause has the same literals, the set has their fingerprint
pub MarksRepeat-stored : (ls : Clause) (ends : List ℕ) (numbers : BTreeSet ℕ) (view : List Clause) (c : Clause) → AreStored ls ends numbers → clauses_at_ends 0 ends ls ≡ view → MarksRepeat view c (contains nat_cmp numbers (fingerprint_of c))
MarksRepeat-stored ls ends numbers view c are is normal sound k d within same =
    let all = subst (All (λ e. contains nat_cmp numbers (fingerprint_of e) ≡ true)) is are.found in
    ap (contains nat_cmp numbers) (sym (fingerprint-same (get_or view k d) c (normal k d within) sound same)) ∙ all k d within
