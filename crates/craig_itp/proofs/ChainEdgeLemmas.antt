-- The edge of a chain, from that of its first antecedent and then step by step.
use Rattle.std.proofs.Common.{◌≡◌, ◌⊎◌, inl, inr, ℕ, ◌+◌, ◌<◌, Bool, List, [], ◌∷◌, ◌++◌, length, get_or, take, Contains, refl, sym, ap, ◌∙◌, subst}
use Rattle.std.proofs.lemmas.List.{map-append, take_more}
use Rattle.craig_spec.specs.Truth.{Assignment, literal_value}
use Rattle.craig_spec.specs.Chain.{ChainStep}
use Rattle.craig_spec.specs.PartialInterpolant.{Label, AB, join_value, chain_value}
use Rattle.craig_aig.specs.Cones.{cone}
use Rattle.craig_aig.specs.Edges.{Edge}
use Rattle.craig_aig.specs.Growth.{KeepsEdges}
use Rattle.craig_aig.specs.Values.{edge_value}
use Rattle.craig_aig.specs.declared.node.Node.{Node}
use Rattle.craig_proof.specs.Tracer.{chain_of}
use Rattle.craig_proof.specs.declared.step.Step.{Step}
use Rattle.craig_system.specs.Rules.{IsJoin}
use Rattle.craig_itp.specs.StepEdges.{IsEdgeReached, IsChainEdge}
use Rattle.craig_itp.specs.declared.step_edge.StepEdge.{StepEdge}

-- one step more
pub chain_value-push : (label : ℕ → Label) (s : Assignment) (value : ℕ → Bool) (left : Bool) (rest : List ChainStep) (step : ChainStep) → chain_value label s value left (rest ++ step ∷ []) ≡ join_value (label step.pivot.var) (literal_value s step.pivot) (chain_value label s value left rest) (value step.antecedent)
chain_value-push label s value left [] step = refl
chain_value-push label s value left (r ∷ rest) step =
    chain_value-push label s value (join_value (label r.pivot.var) (literal_value s r.pivot) left (value r.antecedent)) rest step

-- a chain begins with the edge of its first antecedent
pub IsChainEdge-start : (label : ℕ → Label) (edges : List StepEdge) (nodes : List Node) (e : StepEdge) → Contains edges e → IsChainEdge label edges nodes e.id.0 [] nodes e.edge
IsChainEdge-start label edges nodes e known = record {
  value = λ s value h. h e known;
  inputs = λ x reached. inr (record { step = e; known = known; reached = reached });
}

-- and goes on with a join
module _ (label : ℕ → Label) (edges : List StepEdge) (old : List Node) (first : ℕ) (rest : List ChainStep) (nodes : List Node) (left : Edge) (right : StepEdge) (step : ChainStep) (new : List Node) (e : Edge) (chain : IsChainEdge label edges old first rest nodes left) (kept : KeepsEdges old nodes) (known : Contains edges right) (antecedent : right.id.0 ≡ step.antecedent) (before : right.edge.place < length old) (after : right.edge.place < length nodes) (join : IsJoin label step.pivot nodes left right.edge new e) where
  joined_value : (s : Assignment) (value : ℕ → Bool) → ((step : StepEdge) → Contains edges step → edge_value s old step.edge ≡ value step.id.0) → edge_value s new e ≡ chain_value label s value (value first) (rest ++ step ∷ [])
  joined_value s value h =
      let by_left : edge_value s nodes left ≡ chain_value label s value (value first) rest = chain.value s value h in
      let by_right : edge_value s nodes right.edge ≡ value step.antecedent = (kept right.edge before after).value s ∙ h right known ∙ ap value antecedent in
      join.value s
      ∙ ap (λ b. join_value (label step.pivot.var) (literal_value s step.pivot) b (edge_value s nodes right.edge)) by_left
      ∙ ap (λ b. join_value (label step.pivot.var) (literal_value s step.pivot) (chain_value label s value (value first) rest) b) by_right
      ∙ sym (chain_value-push label s value (value first) rest step)

  joined_inputs : (x : ℕ) → Contains (cone new e) x → (label x ≡ AB) ⊎ IsEdgeReached edges old x
  joined_inputs x reached =
      elim (join.inputs x reached) [
        | inl by_left ↦ chain.inputs x by_left
        | inr (inl by_right) ↦ inr (record { step = right; known = known; reached = subst (λ l. Contains l x) (kept right.edge before after).cone_is by_right })
        | inr (inr pivot) ↦ inl pivot.1
      ]

  pub IsChainEdge-joined : IsChainEdge label edges old first (rest ++ step ∷ []) new e
  IsChainEdge-joined = record { value = joined_value; inputs = joined_inputs }

-- the steps of a chain that the loop has passed, with the next one
pub chain_of-more : (rest : List Step) (k : ℕ) (step : Step) → k < length rest → step ≡ get_or rest k step → chain_of (take (k + 1) rest) ≡ chain_of (take k rest) ++ record { pivot = step.pivot; antecedent = step.antecedent.0 } ∷ []
chain_of-more rest k step within is =
    ap chain_of (take_more rest k step within)
    ∙ map-append (λ (s : Step). record { pivot = s.pivot; antecedent = s.antecedent.0 }) (take k rest) (get_or rest k step ∷ [])
    ∙ ap (λ (s : Step). chain_of (take k rest) ++ record { pivot = s.pivot; antecedent = s.antecedent.0 } ∷ []) (sym is)
