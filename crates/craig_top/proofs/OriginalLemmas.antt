-- Originals among accepted clauses.
use Rattle.std.proofs.Common.{◌≡◌, ◌≢◌, ◌∙◌, List, Contains, AllPairs, ap, subst}
use Rattle.craig_spec.specs.Literal.{Literal, Clause, negation}
use Rattle.craig_spec.specs.Chain.{Original, ToldStep, SameLiterals}
use Rattle.craig_spec.specs.DrawnFromOneRefutation.{IsOriginalOf}
use Rattle.craig_base.specs.declared.script_part.Part.{Part}
use Rattle.craig_spec.specs.Cut.{PartClause}
use Rattle.craig_solver.specs.Told.{IsAcceptedStep}
use Rattle.craig_top.specs.Sides.{parted}
use Rattle.craig_spec.proofs.MemberLemmas.{Contains-from_image, Contains-image}

-- the literals of an accepted pair, told with its part
pub IsOriginalOf-pair : (accepted : List (Part × Clause)) (pair : Part × Clause) (s : ToldStep) → Contains accepted pair → s.origin ≡ Original pair.0.0 → SameLiterals pair.1 s.literals
    → AllPairs (λ l m. l ≢ m) s.literals → ((l : Literal) → Contains s.literals l → ¬ Contains s.literals (negation l)) → IsOriginalOf (parted accepted) s
IsOriginalOf-pair accepted pair s here origin same distinct none = record {
  source = record { part = pair.0.0; clause = pair.1 };
  is_one = Contains-image (λ a. record { part = a.0.0; clause = a.1 }) accepted pair here;
  part = origin;
  literals = same;
  distinct = distinct;
  not_tautology = none;
}

-- an accepted step is an original of the clauses
pub IsOriginalOf-accepted : (accepted : List (Part × Clause)) (s : ToldStep) → IsAcceptedStep accepted s → IsOriginalOf (parted accepted) s
IsOriginalOf-accepted accepted s step =
    IsOriginalOf-pair accepted step.pair s step.is_accepted step.part step.literals step.normal.distinct (λ l has other. step.normal.not_tautology (l, has, other))

-- and each original of them is one
pub IsAcceptedStep-original : (accepted : List (Part × Clause)) (s : ToldStep) → IsOriginalOf (parted accepted) s → IsAcceptedStep accepted s
IsAcceptedStep-original accepted s original =
    let found = Contains-from_image (λ (a : Part × Clause). record { part = a.0.0; clause = a.1 }) accepted original.source original.is_one in
    record {
      pair = found.0;
      is_accepted = found.1;
      part = original.part ∙ ap (λ (c : PartClause). Original c.part) found.2;
      literals = subst (λ (c : PartClause). SameLiterals c.clause s.literals) found.2 original.literals;
      normal = record { distinct = original.distinct; not_tautology = λ both. original.not_tautology both.0 both.1 both.2 };
    }
