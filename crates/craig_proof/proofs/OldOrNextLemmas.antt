-- The clauses of an arena before and after one more is held under the next id.
use Rattle.std.proofs.Common.{◌≡◌, inl, inr, ℕ, Some, None, sym, ap, subst, ◌∙◌}
use Rattle.std.specs.Option.{option_map}
use Rattle.craig_spec.specs.Literal.{Clause}
use Rattle.craig_spec.specs.Chain.{SameLiterals}
use Rattle.craig_base.specs.Arena.{FlaggedClause, ArenaView, ChangesOnly, clause_at, literals_of}
use Rattle.craig_proof.specs.Covers.{IsOldOrNext}
use Rattle.craig_spec.proofs.ClauseLemmas.{SameLiterals-refl}
use Rattle.craig_base.proofs.LookUpLemmas.{added-held}

-- the clause of each id is an old one or this one
pub old_or_added : (a b : ArenaView) (id : ℕ) (f : FlaggedClause) → clause_at a id ≡ None → ChangesOnly a b id (Some f) → IsOldOrNext (literals_of a) (literals_of b) id f.literals
old_or_added a b id f fresh only = record {
  at_next = λ c is. elim (added-held a b id f fresh only id c is) [
    | inl last ↦ subst (λ (d : Clause). SameLiterals d f.literals) last.1 (SameLiterals-refl f.literals)
    | inr was ↦ absurd (let no : None ≡ Some c = sym (ap (option_map (λ (g : FlaggedClause). g.literals)) fresh) ∙ was in cc)
  ];
  others = λ k other d is. elim (added-held a b id f fresh only k d is) [
    | inl last ↦ absurd (other last.0)
    | inr was ↦ (d, was, SameLiterals-refl d)
  ];
}
