-- What a row knows of a refutation that a solver found.
use Rattle.std.proofs.Common.{◌≡◌, ℕ, List, [], Option, Some, refl, ap, subst, sym, ◌∙◌}
use Rattle.std.specs.Option.{ForSome}
use Rattle.craig_spec.specs.Chain.{IsUnforgotten, clause_told}
use Rattle.craig_base.specs.declared.clause_id.ClauseId.{ClauseId}
use Rattle.craig_proof.specs.ChainStore.{ChainStoreView}
use Rattle.craig_solver.specs.declared.answer.Answer.{Answer}
use Rattle.craig_solver.specs.declared.answer.Answer.TheVariants as answer
use Rattle.craig_solver.specs.Answer.{root_of_answer}

-- the root of a refutation that a store was told may be replayed until the next search
pub replayable : (a : Answer) (root : ClauseId) (places : List ℕ) (after : Option ℕ) (kept shown : ChainStoreView) → a ≡ answer.Failed root places → after ≡ root_of_answer a → ((k : ℕ) → after ≡ Some k → ForSome (Some kept.told) (λ t. IsUnforgotten t.steps k × (clause_told t.steps k ≡ Some []))) → shown ≡ kept → IsUnforgotten shown.told.steps root.0
replayable a root places after kept shown is of told view =
    let root_is : after ≡ Some root.0 = of ∙ ap root_of_answer is in
    subst (λ (s : ChainStoreView). IsUnforgotten s.told.steps root.0) (sym view) (told root.0 root_is kept.told refl).0
