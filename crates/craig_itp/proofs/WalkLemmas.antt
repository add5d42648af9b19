-- A walk over the steps that a root needs.
use Rattle.std.proofs.Common.{◌≡◌, inl, inr, ℕ, suc, ◌+◌, ◌-◌, ◌<◌, ◌≤◌, Bool, eqb, List, [], ◌∷◌, ◌++◌, length, get_or, map, slice_get, All, Contains, Some, None, Result, Ok, Err, IfOk, refl, sym, ap, ◌∙◌, subst, arith, eq-eqb, length-append, append-nil}
use Rattle.std.proofs.lemmas.Bool.{cases_lt}
use Rattle.std.proofs.lemmas.List.{get_or_default}
use Rattle.std.proofs.Math.Seq.{get_or-append_seam}
use Rattle.std.proofs.lemmas.Option.{get_or_from_slice_get, same_Some, slice_get-get_or}
use Rattle.craig_spec.specs.Literal.{Clause}
use Rattle.craig_spec.specs.Truth.{Assignment, literal_value}
use Rattle.craig_spec.specs.Chain.{ChainStep, Derived, Origin, Original, ToldStep, IsTold, antecedents}
use Rattle.craig_spec.specs.PartialInterpolant.{Label, Labelling, chain_value, join_value, origin_value, partial_values}
use Rattle.craig_spec.proofs.MemberLemmas.{Contains-front, Contains-from_slice_get, Contains-image, Contains-later, list_any-member, slice_get-below}
use Rattle.craig_proof.specs.NeededSteps.{last_id}
use Rattle.craig_aig.specs.Cones.{cone}
use Rattle.craig_aig.specs.Edges.{Edge}
use Rattle.craig_aig.specs.Growth.{ArenaGrows}
use Rattle.craig_aig.specs.Values.{edge_value}
use Rattle.craig_aig.specs.declared.node.Node.{Node}
use Rattle.craig_label.specs.Sides.{SidesView}
use Rattle.craig_system.specs.Rules.{IsJoin, labelling}
use Rattle.craig_itp.specs.Interpolants.{AreInterpolants, IsInterpolant}
use Rattle.craig_itp.specs.StepEdges.{IsEdgeOf, IsLeafEdge, MayEnter}
use Rattle.craig_itp.specs.Walk.{AreFirstEdges, EndInRoot, IsBefore, IsEdgeAt, IsEdgeOfChain}
use Rattle.craig_itp.proofs.ChainEdgeLemmas.{chain_value-push}
use Rattle.craig_itp.proofs.CutTracerLemmas.{IsEdgeOf-grown}
use Rattle.craig_itp.proofs.PartialValuesLemmas.{MeetsRules-partial_values}
use Rattle.craig_itp.proofs.SequenceLemmas.{at_pushed}
use Rattle.craig_itp.proofs.SharedLemmas.{inputs_are_shared}
use Rattle.craig_itp.proofs.StandingLemmas.{each_stands}

-- an edge that is read at the place of an id
pub edge_at_place : (l : Labelling) (part : List ToldStep) (nodes : List Node) (edges : List Edge) (id k : ℕ) (s : ToldStep) (e : Edge) → AreFirstEdges l part nodes edges → slice_get part k ≡ Some s → s.id ≡ id → k < length edges → e ≡ get_or edges k e → IsEdgeOf l part nodes id e
edge_at_place l part nodes edges id k s e h at same within read =
    subst (λ (i : ℕ). IsEdgeOf l part nodes i e) same (h.each k s e at (slice_get-get_or edges k e within ∙ ap Some (sym read)))

-- edges keep their functions when the arena grows
pub AreFirstEdges-grown : (l : Labelling) (part : List ToldStep) (nodes new : List Node) (edges : List Edge) → ArenaGrows nodes new → AreFirstEdges l part nodes edges → AreFirstEdges l part new edges
AreFirstEdges-grown l part nodes new edges grows h = record {
  count = h.count;
  each = λ k s e here at. IsEdgeOf-grown l part nodes new s.id e grows.extends grows.kept (h.each k s e here at);
}

-- one edge more
pub AreFirstEdges-pushed : (l : Labelling) (part : List ToldStep) (nodes new : List Node) (edges more : List Edge) (last : Edge) → length edges < length part → ArenaGrows nodes new → AreFirstEdges l part nodes edges → IsEdgeAt l part (length edges) new last → more ≡ edges ++ last ∷ [] → AreFirstEdges l part new more
AreFirstEdges-pushed l part nodes new edges more last room grows h now is = record {
  count = omega (arith, ap length is, length-append edges (last ∷ []), room);
  each = λ k s e here at.
      elim (at_pushed edges last k e (subst (λ (es : List Edge). slice_get es k ≡ Some e) is at)) [
        | inl before ↦ (AreFirstEdges-grown l part nodes new edges grows h).each k s e here before
        | inr one ↦ subst (IsEdgeOf l part new s.id) one.1 (now s (subst (λ (j : ℕ). slice_get part j ≡ Some s) one.0 here))
      ];
}

-- a chain begins with the edge of its first antecedent
pub IsEdgeOfChain-start : (l : Labelling) (part : List ToldStep) (nodes : List Node) (first : ℕ) (e : Edge) → IsEdgeOf l part nodes first e → IsEdgeOfChain l part first [] nodes e
IsEdgeOfChain-start l part nodes first e h = record { within = h.within; value = h.value; inputs = h.inputs }

-- and goes on with a join
module _ (l : Labelling) (part : List ToldStep) (first : ℕ) (rest : List ChainStep) (nodes : List Node) (left right : Edge) (step : ChainStep) (new : List Node) (e : Edge)
    (chain : IsEdgeOfChain l part first rest nodes left) (other : IsEdgeOf l part nodes step.antecedent right) (within : e.place < length new) (join : IsJoin l.label step.pivot nodes left right new e) where
  joined_value : (s : Assignment) → edge_value s new e ≡ chain_value l.label s (partial_values l s part) (partial_values l s part first) (rest ++ step ∷ [])
  joined_value s =
      let value : ℕ → Bool = partial_values l s part in
      join.value s
      ∙ ap (λ b. join_value (l.label step.pivot.var) (literal_value s step.pivot) b (edge_value s nodes right)) (chain.value s)
      ∙ ap (λ b. join_value (l.label step.pivot.var) (literal_value s step.pivot) (chain_value l.label s value (value first) rest) b) (other.value s)
      ∙ sym (chain_value-push l.label s value (value first) rest step)

  joined_inputs : (x : ℕ) → Contains (cone new e) x → MayEnter l part x
  joined_inputs x reached =
      elim (join.inputs x reached) [
        | inl by_left ↦ chain.inputs x by_left
        | inr (inl by_right) ↦ other.inputs x by_right
        | inr (inr pivot) ↦ inl pivot.1
      ]

  pub IsEdgeOfChain-joined : IsEdgeOfChain l part first (rest ++ step ∷ []) new e
  IsEdgeOfChain-joined = record { within = within; value = joined_value; inputs = joined_inputs }

-- the values of the steps are by the rules
module _ (l : Labelling) (part : List ToldStep) (root place : ℕ) (s : ToldStep) (told : IsTold (record { greatest = Some root; steps = part })) (at : slice_get part place ≡ Some s) (nodes : List Node) (e : Edge) where
  here : Contains part s
  here = Contains-from_slice_get part place s at

  by_rules : (o : Origin) → s.origin ≡ o → (a : Assignment) → partial_values l a part s.id ≡ origin_value l a (partial_values l a part) s.literals o
  by_rules o is a = MeetsRules-partial_values l a (record { greatest = Some root; steps = part }) told s here ∙ ap (origin_value l a (partial_values l a part) s.literals) is

  -- a leaf's edge is that of the step
  pub IsEdgeOf-leaf : (p : ℕ) (c : Clause) → s.origin ≡ Original p → s.literals ≡ c → e.place < length nodes → IsLeafEdge l p c nodes e → IsEdgeOf l part nodes s.id e
  IsEdgeOf-leaf p c is same within leaf =
      let same_leaf : IsLeafEdge l p s.literals nodes e = subst (λ (d : Clause). IsLeafEdge l p d nodes e) (sym same) leaf in
      record {
        within = within;
        value = λ a. same_leaf.value a ∙ sym (by_rules (Original p) is a);
        inputs = λ x reached. inr (record { step = s; part = p; told = here; original = is; occurs = (same_leaf.inputs x reached).0; label_is = (same_leaf.inputs x reached).1 });
      }

  -- so is a chain's
  pub IsEdgeOf-chain : (first : ℕ) (rest : List ChainStep) → s.origin ≡ Derived first rest → IsEdgeOfChain l part first rest nodes e → IsEdgeOf l part nodes s.id e
  IsEdgeOf-chain first rest is chain = record {
    within = chain.within;
    value = λ a. chain.value a ∙ sym (by_rules (Derived first rest) is a);
    inputs = chain.inputs;
  }

-- the antecedents of a step stand before it
module _ (part : List ToldStep) (root place : ℕ) (s : ToldStep) (told : IsTold (record { greatest = Some root; steps = part })) (at : slice_get part place ≡ Some s) where
  antecedent_before : (id : ℕ) → Contains (antecedents s.origin) id → IsBefore part place id
  antecedent_before id ante =
      let stands = each_stands (record { greatest = Some root; steps = part }) told s (Contains-from_slice_get part place s at) in
      let r = stands.given id ante in
      let below : id < s.id = stands.below id ante in
      record {
        has = list_any-member (λ (q : ToldStep). eqb q.id id) part r.0 r.1 (eq-eqb (r.0).id id r.2);
        before = λ k q found same.
            elim (cases_lt k place) [
              | inl lt ↦ lt
              | inr ge ↦ absurd (later k q found same ge below)
            ];
      }
    where
      later : (k : ℕ) (q : ToldStep) → slice_get part k ≡ Some q → q.id ≡ id → place ≤ k → id < s.id → ⊥
      later k q found same ge below =
          elim (cases_lt place k) [
            | inl lt ↦ (
                let up : (get_or part place s).id < (get_or part k s).id = told.rising place k s lt (slice_get-below part k q found) in
                let one = ap (λ (r : ToldStep). r.id) (get_or_from_slice_get part place s s at) in
                let two = ap (λ (r : ToldStep). r.id) (get_or_from_slice_get part k q s found) in
                omega arith)
            | inr le ↦ (
                let equal : k ≡ place = omega arith in
                let is : q ≡ s = same_Some q s (sym found ∙ ap (slice_get part) equal ∙ at) in
                let id_is = ap (λ (r : ToldStep). r.id) is in
                omega arith)
          ]

  pub first_before : (first : ℕ) (rest : List ChainStep) → s.origin ≡ Derived first rest → IsBefore part place first
  first_before first rest is = antecedent_before first (subst (λ (o : Origin). Contains (antecedents o) first) (sym is) (Contains-front first _))

  pub rest_before : (first : ℕ) (rest : List ChainStep) → s.origin ≡ Derived first rest → All (λ q. IsBefore part place q.antecedent) rest
  rest_before first rest is k d within =
      antecedent_before (get_or rest k d).antecedent (subst (λ (o : Origin). Contains (antecedents o) (get_or rest k d).antecedent) (sym is) (Contains-later first _ _ (Contains-image (λ (q : ChainStep). q.antecedent) rest (get_or rest k d) (k, within, get_or_default rest k (get_or rest k d) d within))))

-- what was read of a chain, and the edge so far
pub record IsWalked (l : Labelling) (part : List ToldStep) (first : ℕ) (whole left : List ChainStep) (nodes : List Node) (e : Edge) : Type 0 where
  pub done : List ChainStep
  pub split : done ++ left ≡ whole
  pub chain : IsEdgeOfChain l part first done nodes e

-- what holds of each resolution holds of the next one that is read
pub next_of_chain : (P : ChainStep → Type 0) (done left whole : List ChainStep) (s : ChainStep) (later : List ChainStep) → All P whole → done ++ left ≡ whole → left ≡ s ∷ later → P s
next_of_chain P done left whole s later all split is =
    let whole_is : done ++ s ∷ later ≡ whole = ap (λ xs. done ++ xs) (sym is) ∙ split in
    let within : length done < length whole = omega (arith, ap length whole_is, length-append done (s ∷ later)) in
    subst P (ap (λ xs. get_or xs (length done) s) (sym whole_is) ∙ get_or-append_seam done s later s) (all (length done) s within)

pub IsWalked-all : (l : Labelling) (part : List ToldStep) (first : ℕ) (whole : List ChainStep) (nodes : List Node) (e : Edge) → IsEdgeOfChain l part first [] nodes e → IsWalked l part first whole whole nodes e
IsWalked-all l part first whole nodes e start = record { done = []; split = refl; chain = start }

pub IsWalked-done : (l : Labelling) (part : List ToldStep) (first : ℕ) (whole left : List ChainStep) (nodes : List Node) (e : Edge) → left ≡ [] → IsWalked l part first whole left nodes e → IsEdgeOfChain l part first whole nodes e
IsWalked-done l part first whole left nodes e none walked =
    subst (λ xs. IsEdgeOfChain l part first xs nodes e) (sym (append-nil walked.done) ∙ ap (λ xs. walked.done ++ xs) (sym none) ∙ walked.split) walked.chain

-- the edge of the last step is the interpolant
module _ (sides : SidesView) (cut : ℕ) (marks : ℕ → Label) (part : List ToldStep) (root : ℕ) (nodes : List Node) (edges : List Edge) (ends : EndInRoot sides part root) (are : AreFirstEdges (labelling sides cut marks) part nodes edges) (all : length edges ≡ length part) where
  -- where the root is the last of some steps, there are some
  last_place : (steps : List ToldStep) → last_id steps ≡ Some root → (k : ℕ) × (s : ToldStep) × (length steps ≡ k + 1) × (slice_get steps k ≡ Some s) × (s.id ≡ root)
  last_place [] h = absurd (let no : None ≡ Some root = h in cc)
  last_place (s ∷ []) h = (0, s, refl, refl, (let same : s.id ≡ root = cc in same))
  last_place (s ∷ r ∷ steps) h =
      let later = last_place (r ∷ steps) h in
      let next : later.0 + 1 ≡ suc later.0 = omega arith in
      (later.0 + 1, later.1, omega (arith, later.2), ap (slice_get (s ∷ r ∷ steps)) next ∙ later.3, later.4)

  pub root_interpolant : (e : Edge) → e ≡ get_or edges (length edges - 1) e → IsInterpolant sides cut marks part root nodes e
  root_interpolant e read =
      let p = last_place part ends.last in
      let within : p.0 < length edges = omega (arith, all, p.2) in
      let place : length edges - 1 ≡ p.0 = omega (arith, all, p.2) in
      let h = edge_at_place (labelling sides cut marks) part nodes edges root p.0 p.1 e are p.3 p.4 within (read ∙ ap (λ k. get_or edges k e) place) in
      record { within = h.within; value = h.value; inputs = inputs_are_shared sides cut marks part nodes root e ends.noted h }

-- there is one step at a place
pub one_at : (l : Labelling) (part : List ToldStep) (place : ℕ) (nodes : List Node) (e : Edge) (found s : ToldStep) → slice_get part place ≡ Some found → slice_get part place ≡ Some s → IsEdgeOf l part nodes found.id e → IsEdgeOf l part nodes s.id e
one_at l part place nodes e found s one two h =
    subst (λ (q : ToldStep). IsEdgeOf l part nodes q.id e) (same_Some found s (sym one ∙ two)) h

-- the outputs by the part that a root needs are those by all steps
pub IsInterpolant-whole : (sides : SidesView) (cut : ℕ) (marks : ℕ → Label) (steps part : List ToldStep) (root : ℕ) (nodes : List Node) (e : Edge) → ((l : Labelling) (s : Assignment) → partial_values l s part root ≡ partial_values l s steps root) → IsInterpolant sides cut marks part root nodes e → IsInterpolant sides cut marks steps root nodes e
IsInterpolant-whole sides cut marks steps part root nodes e same h = record {
  within = h.within;
  value = λ s. h.value s ∙ same (labelling sides cut marks) s;
  inputs = h.inputs;
}

pub AreInterpolants-whole : (sides : SidesView) (marks : ℕ → Label) (steps part : List ToldStep) (root : ℕ) (nodes : List Node) (cuts : List ℕ) (edges : List Edge) → ((l : Labelling) (s : Assignment) → partial_values l s part root ≡ partial_values l s steps root) → AreInterpolants sides marks part root nodes cuts edges → AreInterpolants sides marks steps root nodes cuts edges
AreInterpolants-whole sides marks steps part root nodes cuts edges same h = record {
  count = h.count;
  each = λ place cut e at found.
      let one = h.each place cut e at found in
      record { first = one.first; last = one.last; inner = λ low high. IsInterpolant-whole sides cut marks steps part root nodes e same (one.inner low high) };
}
