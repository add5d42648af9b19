-- What a tracer keeps when its arena grows, when a step is told and when one is forgotten.
use Rattle.std.proofs.Common.{◌≡◌, ◌≢◌, ◌⊎◌, inl, inr, ℕ, ◌<◌, ◌≤◌, Bool, true, false, cond, eqb, List, [], ◌∷◌, ◌++◌, length, get_or, take, map, Contains, IsTrue, Some, refl, sym, ap, ◌∙◌, subst, arith}
use Rattle.std.specs.Option.{ForSome, option_map}
use Rattle.std.proofs.lemmas.List.{map-append, length-map}
use Rattle.std.proofs.lemmas.List.Elements.{Contains-push, Contains-push_cases, Contains-append_left}
use Rattle.std.proofs.Math.ListN.{get_or-map}
use Rattle.std.proofs.Math.Seq.{take-length}
use Rattle.craig_spec.specs.Literal.{Clause}
use Rattle.craig_spec.specs.Occurs.{occurs_in_clause}
use Rattle.craig_spec.specs.Truth.{Assignment}
use Rattle.craig_spec.specs.Chain.{ToldStep, Told, IsAbove, IsTold, forgotten_at, with_step, without_id}
use Rattle.craig_spec.specs.PartialInterpolant.{Label, Labelling, AB, origin_value, partial_values}
use Rattle.craig_base.specs.declared.clause_id.ClauseId.{ClauseId}
use Rattle.craig_proof.specs.Tracer.{Appends, chain_of, original_step, derived_step}
use Rattle.craig_proof.specs.declared.step.Step.{Step}
use Rattle.craig_aig.specs.Arenas.{IsAig}
use Rattle.craig_aig.specs.Cones.{cone}
use Rattle.craig_aig.specs.Edges.{Edge}
use Rattle.craig_aig.specs.Growth.{Extends, KeepsEdges}
use Rattle.craig_aig.specs.Values.{edge_value}
use Rattle.craig_aig.specs.declared.node.Node.{Node}
use Rattle.craig_label.specs.Sides.{SidesView}
use Rattle.craig_system.specs.Rules.{labelling}
use Rattle.craig_itp.specs.CutTracer.{IsCutTracer}
use Rattle.craig_itp.specs.StepEdges.{IsLeafEdge, IsEdgeReached, IsChainEdge, MayEnter, IsEdgeOf, AreEdges}
use Rattle.craig_itp.specs.declared.step_edge.StepEdge.{StepEdge}
use Rattle.craig_itp.proofs.PartialValuesLemmas.{partial_values-new, partial_values-old, partial_values-forgotten}
use Rattle.craig_aig.proofs.GrowthLemmas.{ArenaGrows-Extends, ArenaGrows-same, Extends-take, Extends-trans, length-Extends, take-Extends}
use Rattle.craig_itp.proofs.ToldEdgesLemmas.{step_ids, id_at, at_step}

-- nothing was told
pub AreEdges-nothing : (l : Labelling) (nodes : List Node) → IsAig nodes → AreEdges l [] (length nodes) nodes []
AreEdges-nothing l nodes arena = record {
  is_arena = arena;
  within = omega arith;
  kept = subst (λ (front : List Node). KeepsEdges front nodes) (sym (take-length nodes)) (ArenaGrows-same nodes arena).kept;
  ids = refl;
  each = λ e known. let no : known.0 < 0 = known.1 in absurd (omega arith);
}

-- an edge of an arena that grows
pub IsEdgeOf-grown : (l : Labelling) (steps : List ToldStep) (nodes new : List Node) (id : ℕ) (e : Edge) → Extends nodes new → KeepsEdges nodes new → IsEdgeOf l steps nodes id e → IsEdgeOf l steps new id e
IsEdgeOf-grown l steps nodes new id e grown kept h =
    let inside : e.place < length new = omega (arith, length-Extends nodes new grown, h.within) in
    let keeps = kept e h.within inside in
    record {
      within = inside;
      value = λ s. keeps.value s ∙ h.value s;
      inputs = λ x reached. h.inputs x (subst (λ k. Contains k x) keeps.cone_is reached);
    }

pub AreEdges-grown : (l : Labelling) (steps : List ToldStep) (older : ℕ) (nodes new : List Node) (edges : List StepEdge) → AreEdges l steps older nodes edges → Extends nodes new → KeepsEdges nodes new → IsAig new → AreEdges l steps older new edges
AreEdges-grown l steps older nodes new edges h grown kept arena = record {
  is_arena = arena;
  within = omega (arith, h.within, length-Extends nodes new grown);
  kept = subst (λ (front : List Node). KeepsEdges front new) (sym (take-Extends older nodes new h.within grown)) (ArenaGrows-Extends (take older nodes) new (Extends-trans (take older nodes) nodes new (Extends-take older nodes) grown) arena).kept;
  ids = h.ids;
  each = λ e known. IsEdgeOf-grown l steps nodes new e.id.0 e.edge grown kept (h.each e known);
}

-- what may enter goes on doing so
MayEnter-pushed : (l : Labelling) (steps : List ToldStep) (step : ToldStep) (x : ℕ) → MayEnter l steps x → MayEnter l (steps ++ step ∷ []) x
MayEnter-pushed l steps step x (inl both) = inl both
MayEnter-pushed l steps step x (inr c) = inr (record { step = c.step; part = c.part; told = Contains-append_left steps (step ∷ []) c.step c.told; original = c.original; occurs = c.occurs; label_is = c.label_is })

-- one more step with its edge
module _ (l : Labelling) (t : Told) (step : ToldStep) (older : ℕ) (nodes : List Node) (edges : List StepEdge) (new : StepEdge) (h : AreEdges l t.steps older nodes edges) (told : IsTold t) (above : IsAbove t step.id) (same : new.id.0 ≡ step.id) (within : new.edge.place < length nodes) (value : (s : Assignment) → edge_value s nodes new.edge ≡ origin_value l s (partial_values l s t.steps) step.literals step.origin) (inputs : (x : ℕ) → Contains (cone nodes new.edge) x → MayEnter l (t.steps ++ step ∷ []) x) where
  earlier : (e : StepEdge) → Contains edges e → e.id.0 ≢ step.id
  earlier e known equal =
      let p = id_at edges t.steps e h.ids known in
      let g = told.greatest p.0 step p.1 in
      let up : g.0 < step.id = above g.0 g.1 in
      let is : get_or (step_ids t.steps) p.0 0 ≡ e.id.0 = p.2 in
      let at : get_or (step_ids t.steps) p.0 0 ≡ (get_or t.steps p.0 step).id = at_step t.steps p.0 step p.1 in
      let le : (get_or t.steps p.0 step).id ≤ g.0 = g.2 in
      omega arith

  old_edge : (e : StepEdge) → Contains edges e → IsEdgeOf l (t.steps ++ step ∷ []) nodes e.id.0 e.edge
  old_edge e known =
      let before = h.each e known in
      record {
        within = before.within;
        value = λ s. before.value s ∙ sym (partial_values-old l s t step e.id.0 (earlier e known));
        inputs = λ x reached. MayEnter-pushed l t.steps step x (before.inputs x reached);
      }

  new_edge : IsEdgeOf l (t.steps ++ step ∷ []) nodes new.id.0 new.edge
  new_edge = record {
    within = within;
    value = λ s. value s ∙ sym (partial_values-new l s t step) ∙ ap (partial_values l s (t.steps ++ step ∷ [])) (sym same);
    inputs = inputs;
  }

  each_edge : (e : StepEdge) → Contains (edges ++ new ∷ []) e → IsEdgeOf l (t.steps ++ step ∷ []) nodes e.id.0 e.edge
  each_edge e known =
      elim (Contains-push_cases edges new e known) [
        | inl old ↦ old_edge e old
        | inr is ↦ subst (λ (e : StepEdge). IsEdgeOf l (t.steps ++ step ∷ []) nodes e.id.0 e.edge) is new_edge
      ]

  pub AreEdges-pushed : AreEdges l (t.steps ++ step ∷ []) older nodes (edges ++ new ∷ [])
  AreEdges-pushed = record {
    is_arena = h.is_arena;
    within = h.within;
    kept = h.kept;
    ids = map-append (λ (e : StepEdge). e.id.0) edges (new ∷ []) ∙ ap (λ (xs : List ℕ). xs ++ new.id.0 ∷ []) h.ids ∙ ap (λ (x : ℕ). step_ids t.steps ++ x ∷ []) same ∙ sym (map-append (λ (s : ToldStep). s.id) t.steps (step ∷ []));
    each = each_edge;
  }

-- the edge of an original is told
pub AreEdges-original : (l : Labelling) (t : Told) (older : ℕ) (nodes : List Node) (edges : List StepEdge) (new : StepEdge) (part : ℕ) (c : Clause) → AreEdges l t.steps older nodes edges → IsTold t → IsAbove t new.id.0 → new.edge.place < length nodes → IsLeafEdge l part c nodes new.edge → AreEdges l (t.steps ++ original_step new.id.0 part c ∷ []) older nodes (edges ++ new ∷ [])
AreEdges-original l t older nodes edges new part c h told above within leaf =
    AreEdges-pushed l t (original_step new.id.0 part c) older nodes edges new h told above refl within leaf.value
    (λ x reached. inr (record { step = original_step new.id.0 part c; part = part; told = Contains-push t.steps (original_step new.id.0 part c); original = refl; occurs = (leaf.inputs x reached).0; label_is = (leaf.inputs x reached).1 }))

-- what a chain's edge reaches may enter
chain_input : (l : Labelling) (steps : List ToldStep) (step : ToldStep) (older : ℕ) (nodes : List Node) (edges : List StepEdge) (x : ℕ) → AreEdges l steps older nodes edges → (l.label x ≡ AB) ⊎ IsEdgeReached edges nodes x → MayEnter l (steps ++ step ∷ []) x
chain_input l steps step older nodes edges x h (inl both) = inl both
chain_input l steps step older nodes edges x h (inr r) = MayEnter-pushed l steps step x ((h.each r.step r.known).inputs x r.reached)

-- the edge of a chain is told; the arena grew by it
pub AreEdges-derived : (l : Labelling) (t : Told) (older : ℕ) (nodes grown : List Node) (edges : List StepEdge) (new : StepEdge) (c : Clause) (first : ℕ) (rest : List Step) → AreEdges l t.steps older nodes edges → IsTold t → IsAbove t new.id.0 → Extends nodes grown → KeepsEdges nodes grown → IsAig grown → new.edge.place < length grown → IsChainEdge l.label edges nodes first (chain_of rest) grown new.edge → AreEdges l (t.steps ++ derived_step new.id.0 c first rest ∷ []) older grown (edges ++ new ∷ [])
AreEdges-derived l t older nodes grown edges new c first rest h told above extends kept arena within chain =
    AreEdges-pushed l t (derived_step new.id.0 c first rest) older grown edges new (AreEdges-grown l t.steps older nodes grown edges h extends kept arena) told above refl within
    (λ s. chain.value s (partial_values l s t.steps) (λ step known. (h.each step known).value s))
    (λ x reached. chain_input l t.steps (derived_step new.id.0 c first rest) older nodes edges x h (chain.inputs x reached))

-- an id forgotten changes no id
ids-forgotten : (id : ℕ) (steps : List ToldStep) → step_ids (map (forgotten_at id) steps) ≡ step_ids steps
ids-forgotten id [] = refl
ids-forgotten id (step ∷ steps) =
    elim (eqb step.id id) as (λ b. (cond b (record { id = step.id; literals = step.literals; origin = step.origin; forgotten = true }) step).id ∷ step_ids (map (forgotten_at id) steps) ≡ step.id ∷ step_ids steps) [
      | true ↦ ap (λ ids. step.id ∷ ids) (ids-forgotten id steps)
      | false ↦ ap (λ ids. step.id ∷ ids) (ids-forgotten id steps)
    ]

Contains-forgotten : (id : ℕ) (steps : List ToldStep) (step : ToldStep) → Contains steps step → Contains (map (forgotten_at id) steps) (forgotten_at id step)
Contains-forgotten id steps step (k, within, is) =
    (k, rw length-map within, get_or-map (forgotten_at id) steps k step ∙ ap (forgotten_at id) is)

same_but_mark : (id : ℕ) (s : ToldStep) → ((forgotten_at id s).literals ≡ s.literals) × ((forgotten_at id s).origin ≡ s.origin)
same_but_mark id s =
    elim (eqb s.id id) as (λ b. ((cond b (record { id = s.id; literals = s.literals; origin = s.origin; forgotten = true }) s).literals ≡ s.literals) × ((cond b (record { id = s.id; literals = s.literals; origin = s.origin; forgotten = true }) s).origin ≡ s.origin)) [
      | true ↦ (refl, refl)
      | false ↦ (refl, refl)
    ]

MayEnter-forgotten : (l : Labelling) (id : ℕ) (steps : List ToldStep) (x : ℕ) → MayEnter l steps x → MayEnter l (map (forgotten_at id) steps) x
MayEnter-forgotten l id steps x (inl both) = inl both
MayEnter-forgotten l id steps x (inr c) = inr (record {
  step = forgotten_at id c.step;
  part = c.part;
  told = Contains-forgotten id steps c.step c.told;
  original = (same_but_mark id c.step).1 ∙ c.original;
  occurs = subst (λ k. IsTrue (occurs_in_clause x k)) (sym (same_but_mark id c.step).0) c.occurs;
  label_is = c.label_is;
})

-- an id is forgotten
pub AreEdges-forgotten : (l : Labelling) (id : ℕ) (t : Told) (older : ℕ) (nodes : List Node) (edges : List StepEdge) → AreEdges l t.steps older nodes edges → AreEdges l (without_id id t).steps older nodes edges
AreEdges-forgotten l id t older nodes edges h = record {
  is_arena = h.is_arena;
  within = h.within;
  kept = h.kept;
  ids = h.ids ∙ sym (ids-forgotten id t.steps);
  each = λ e known.
      let before = h.each e known in
      record {
        within = before.within;
        value = λ s. before.value s ∙ ap (λ (value : ℕ → Bool). value e.id.0) (sym (partial_values-forgotten l s t id));
        inputs = λ x reached. MayEnter-forgotten l id t.steps x (before.inputs x reached);
      };
}

-- what a tracer keeps, when an id is forgotten
pub IsCutTracer-forgotten : (sides : SidesView) (cut : ℕ) (marks : ℕ → Label) (id : ℕ) (t u : Told) (older : ℕ) (nodes : List Node) (edges : List StepEdge) → IsCutTracer sides cut marks t older nodes edges → Some u ≡ option_map (without_id id) (Some t) → IsCutTracer sides cut marks u older nodes edges
IsCutTracer-forgotten sides cut marks id t u older nodes edges h told =
    let is : u ≡ without_id id t = cc in
    subst (λ (v : Told). IsCutTracer sides cut marks v older nodes edges) (sym is)
    (record { cut_within = h.cut_within; edges_are = AreEdges-forgotten (labelling sides cut marks) id t older nodes edges h.edges_are })

-- when a call wanted memory in vain: the arena perhaps grew
pub IsCutTracer-failed : (sides : SidesView) (cut : ℕ) (marks : ℕ → Label) (t u : Told) (older : ℕ) (nodes new : List Node) (edges same : List StepEdge) → IsCutTracer sides cut marks t older nodes edges → Extends nodes new → KeepsEdges nodes new → IsAig new → same ≡ edges → u ≡ t → IsCutTracer sides cut marks u older new same
IsCutTracer-failed sides cut marks t u older nodes new edges same h grown kept arena e told =
    subst (λ (v : Told). IsCutTracer sides cut marks v older new same) (sym told)
    (subst (IsCutTracer sides cut marks t older new) (sym e)
    (record { cut_within = h.cut_within; edges_are = AreEdges-grown (labelling sides cut marks) t.steps older nodes new edges h.edges_are grown kept arena }))

-- when a step was told and its edge put behind the others
module _ (sides : SidesView) (cut : ℕ) (marks : ℕ → Label) (t u : Told) (older : ℕ) (nodes grown : List Node) (edges more : List StepEdge) (id : ClauseId) (e : Edge) (h : IsCutTracer sides cut marks t older nodes edges) (told : IsTold t) (above : ForSome (Some t) (λ t. IsAbove t id.0)) (extends : Extends nodes grown) (kept : KeepsEdges nodes grown) (arena : IsAig grown) (within : e.place < length grown) (pushed : more ≡ edges ++ record { id = id; edge = e } ∷ []) where
  told_now : (step : ToldStep) → Appends (Some t) (Some u) step → u ≡ with_step t step
  told_now step appends = cc

  with_edge : (step : ToldStep) → Appends (Some t) (Some u) step → AreEdges (labelling sides cut marks) (t.steps ++ step ∷ []) older grown (edges ++ record { id = id; edge = e } ∷ []) → IsCutTracer sides cut marks u older grown more
  with_edge step appends now =
      subst (λ (v : Told). IsCutTracer sides cut marks v older grown more) (sym (told_now step appends))
      (subst (IsCutTracer sides cut marks (with_step t step) older grown) (sym pushed) (record { cut_within = h.cut_within; edges_are = now }))

  pub IsCutTracer-original : (part : ℕ) (c : Clause) → IsLeafEdge (labelling sides cut marks) part c grown e → Appends (Some t) (Some u) (original_step id.0 part c) → IsCutTracer sides cut marks u older grown more
  IsCutTracer-original part c leaf appends =
      with_edge (original_step id.0 part c) appends
      (AreEdges-original (labelling sides cut marks) t older grown edges (record { id = id; edge = e }) part c (AreEdges-grown (labelling sides cut marks) t.steps older nodes grown edges h.edges_are extends kept arena) told (above t refl) within leaf)

  pub IsCutTracer-derived : (c : Clause) (first : ℕ) (rest : List Step) → IsChainEdge (labelling sides cut marks).label edges nodes first (chain_of rest) grown e → Appends (Some t) (Some u) (derived_step id.0 c first rest) → IsCutTracer sides cut marks u older grown more
  IsCutTracer-derived c first rest chain appends =
      with_edge (derived_step id.0 c first rest) appends
      (AreEdges-derived (labelling sides cut marks) t older nodes grown edges (record { id = id; edge = e }) c first rest h.edges_are told (above t refl) extends kept arena within chain)
