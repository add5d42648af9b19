-- The small refutation of the rows of kept proofs.
use Rattle.std.specs.Prelude.{◌≡◌, List, [], ◌∷◌}
use Rattle.craig_spec.specs.Literal.{Clause, Literal}
use Rattle.craig_spec.specs.Chain.{ToldStep}
use Rattle.craig_proof.specs.Tracer.{derived_step, original_step}

-- three originals, of parts 1, 2 and 1, and the empty clause of the first two
abbrev pub AreRefutationSteps : List ToldStep → Type 0
AreRefutationSteps steps =
    (first second other : Clause) × (pivot : Literal) × (steps ≡ original_step 0 1 first ∷ original_step 1 2 second ∷ original_step 2 1 other ∷ derived_step 3 [] 0 (record { pivot = pivot; antecedent = record { 0 = 1 } } ∷ []) ∷ [])
