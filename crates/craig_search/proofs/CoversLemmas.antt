-- A tracer goes on covering the clauses of a search.
use Rattle.std.proofs.Common.{◌≡◌, ℕ, ◌+◌, Option, Some, None, sym, subst, ◌∙◌, arith, List}
use Rattle.std.specs.Option.{option_map}
use Rattle.craig_spec.specs.Literal.{Clause}
use Rattle.craig_spec.specs.Chain.{ChainOk, Told}
use Rattle.craig_spec.proofs.ClauseLemmas.{SameLiterals-refl}
use Rattle.craig_base.specs.Arena.{ArenaView, FlaggedClause, LiveClause, OnlyReorders, clause_of, literals_of}
use Rattle.craig_base.proofs.ReorderLemmas.{GivesSame-before}
use Rattle.craig_proof.specs.Covers.{IsCovering, IsOldOrNext}
use Rattle.craig_proof.specs.Tracer.{Appends, chain_of, derived_step}
use Rattle.craig_proof.specs.declared.step.Step.{Step}
use Rattle.craig_proof.proofs.CoversLemmas.{IsCovering-derived, IsCovering-fewer}

pub covers-told : (before after : Option Told) (a b : ArenaView) (id : ℕ) (literals : Clause) (first : ℕ) (rest : List Step) → IsCovering before (literals_of a) a.given → Appends before after (derived_step id literals first rest) → id ≡ a.given → b.given ≡ a.given + 1 → ChainOk (literals_of a) literals first (chain_of rest) → IsOldOrNext (literals_of a) (literals_of b) id literals → IsCovering after (literals_of b) b.given
covers-told before after a b id literals first rest covers appends next given chain old_or_next =
    subst (IsCovering after (literals_of b)) (sym given) (IsCovering-derived before after (literals_of a) (literals_of b) a.given literals first rest covers (subst (λ (n : ℕ). Appends before after (derived_step n literals first rest)) next appends) chain (subst (λ (n : ℕ). IsOldOrNext (literals_of a) (literals_of b) n literals) next old_or_next))

pub covers-reordered : (told : Option Told) (a b : ArenaView) → IsCovering told (literals_of a) a.given → OnlyReorders a b → IsCovering told (literals_of b) b.given
covers-reordered told a b covers only =
    let same : b.given ≡ a.given = only.given in
    IsCovering-fewer told (literals_of a) (literals_of b) a.given b.given covers (omega arith) (GivesSame-before a b only)

-- where no clause is held under the next id, it may have any literals
pub old_or_none : (f : ℕ → Option Clause) (id : ℕ) (literals : Clause) → f id ≡ None → IsOldOrNext f f id literals
old_or_none f id literals fresh = record {
  at_next = λ c is. absurd (let no : None ≡ Some c = sym fresh ∙ is in cc);
  others = λ k other d is. (d, is, SameLiterals-refl d);
}

-- after the empty clause was told under an id under which nothing is held
pub covers-numbered : (before after : Option Told) (a b : ArenaView) (id : ℕ) (literals : Clause) (first : ℕ) (rest : List Step) → IsCovering before (literals_of a) a.given → Appends before after (derived_step id literals first rest) → id ≡ a.given → b.given ≡ a.given + 1 → b.clauses ≡ a.clauses → ChainOk (literals_of a) literals first (chain_of rest) → literals_of a id ≡ None → IsCovering after (literals_of b) b.given
covers-numbered before after a b id literals first rest covers appends next given same chain fresh =
    covers-told before after a b id literals first rest covers appends next given chain (
    subst (λ (cs : List LiveClause). IsOldOrNext (literals_of a) (λ k. option_map (λ (f : FlaggedClause). f.literals) (clause_of cs k)) id literals) (sym same) (old_or_none (literals_of a) id literals fresh)
    )
