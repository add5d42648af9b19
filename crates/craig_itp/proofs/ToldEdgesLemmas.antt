-- Edges that stand with the told steps, each at the place of its step.
use Rattle.std.proofs.Common.{◌≡◌, ◌≢◌, ℕ, zero, suc, ◌<◌, Bool, true, false, not, cond, ◌&&◌, ◌||◌, eqb, List, [], ◌∷◌, length, get_or, map, All, AllPairs, Contains, ◌↔◌, IfSome, Option, None, Some, refl, sym, ap, ◌∙◌, subst, arith, eqb-true, eq-eqb}
use Rattle.std.specs.List.{list_any}
use Rattle.std.proofs.lemmas.List.{get_or_default, length-map}
use Rattle.std.proofs.lemmas.List.Elements.{Contains-get_or}
use Rattle.std.proofs.Math.ListN.{get_or-map}
use Rattle.craig_spec.specs.Chain.{ToldStep, Derived, IsUnforgotten, antecedents, clause_told}
use Rattle.craig_proof.specs.declared.step.Step.{Step}
use Rattle.craig_proof.specs.Tracer.{chain_of}
use Rattle.craig_aig.specs.Edges.{Edge}
use Rattle.craig_aig.specs.declared.node.Node.{Node}
use Rattle.craig_base.specs.declared.clause_id.ClauseId.{ClauseId}
use Rattle.craig_spec.specs.PartialInterpolant.{Labelling}
use Rattle.craig_itp.specs.StepEdges.{HasEdge, IsEdgeOf, AreEdges}
use Rattle.craig_itp.specs.declared.step_edge.StepEdge.{StepEdge}

-- the ids of the steps, and those of the edges
abbrev pub step_ids : List ToldStep → List ℕ
step_ids steps = map (λ (s : ToldStep). s.id) steps

abbrev pub edge_ids : List StepEdge → List ℕ
edge_ids edges = map (λ (e : StepEdge). e.id.0) edges

pub at_step : (steps : List ToldStep) (k : ℕ) (d : ToldStep) → k < length steps → get_or (step_ids steps) k 0 ≡ (get_or steps k d).id
at_step steps k d within =
    let inside : k < length (step_ids steps) = rw length-map within in
    get_or_default (step_ids steps) k 0 d.id inside ∙ get_or-map (λ (s : ToldStep). s.id) steps k d

pub at_edge : (edges : List StepEdge) (k : ℕ) (d : StepEdge) → k < length edges → get_or (edge_ids edges) k 0 ≡ (get_or edges k d).id.0
at_edge edges k d within =
    let inside : k < length (edge_ids edges) = rw length-map within in
    get_or_default (edge_ids edges) k 0 d.id.0 inside ∙ get_or-map (λ (e : StepEdge). e.id.0) edges k d

pub as_many : (edges : List StepEdge) (steps : List ToldStep) → edge_ids edges ≡ step_ids steps → length edges ≡ length steps
as_many edges steps ids = simp length-map at (ap length ids)

-- the ids of the edges rise as those of the steps do
pub rising_edges : (edges : List StepEdge) (steps : List ToldStep) → edge_ids edges ≡ step_ids steps → AllPairs (λ r s. r.id < s.id) steps → AllPairs (λ r s. r.id.0 < s.id.0) edges
rising_edges edges [] ids rising i j d before within = absurd (omega (arith, as_many edges [] ids))
rising_edges edges (s ∷ steps) ids rising i j d before within =
    let many : length edges ≡ length (s ∷ steps) = as_many edges (s ∷ steps) ids in
    let up : (get_or (s ∷ steps) i s).id < (get_or (s ∷ steps) j s).id = rising i j s before (omega arith) in
    let left : (get_or edges i d).id.0 ≡ (get_or (s ∷ steps) i s).id = sym (at_edge edges i d (omega arith)) ∙ ap (λ l. get_or l i 0) ids ∙ at_step (s ∷ steps) i s (omega arith) in
    let right : (get_or edges j d).id.0 ≡ (get_or (s ∷ steps) j s).id = sym (at_edge edges j d within) ∙ ap (λ l. get_or l j 0) ids ∙ at_step (s ∷ steps) j s (omega arith) in
    omega arith

-- the id of an edge is that of a step
pub id_at : (edges : List StepEdge) (steps : List ToldStep) (e : StepEdge) → edge_ids edges ≡ step_ids steps → Contains edges e → (k : ℕ) × (k < length steps) × (get_or (step_ids steps) k 0 ≡ e.id.0)
id_at edges steps e ids (k, within, is) =
    (k, omega (arith, as_many edges steps ids), sym (ap (λ l. get_or l k 0) ids) ∙ at_edge edges k e within ∙ ap (λ (s : StepEdge). s.id.0) is)

-- the id of a step is that of an edge
pub edge_at : (edges : List StepEdge) (steps : List ToldStep) (id k : ℕ) → edge_ids edges ≡ step_ids steps → k < length steps → get_or (step_ids steps) k 0 ≡ id → HasEdge edges id
edge_at [] steps id k ids within at = absurd (omega (arith, as_many [] steps ids))
edge_at (e ∷ edges) steps id k ids within at =
    let inside : k < length (e ∷ edges) = omega (arith, as_many (e ∷ edges) steps ids) in
    (get_or (e ∷ edges) k e, Contains-get_or (e ∷ edges) k e inside, sym (at_edge (e ∷ edges) k e inside) ∙ ap (λ l. get_or l k 0) ids ∙ at)

place-cases : (s : ToldStep) (steps : List ToldStep) (id : ℕ) (b : Bool) → eqb s.id id ≡ b → (b && not s.forgotten || list_any (λ q. eqb q.id id && not q.forgotten) steps) ≡ true → (IsUnforgotten steps id → (k : ℕ) × (k < length steps) × (get_or (step_ids steps) k 0 ≡ id)) → (k : ℕ) × (k < length (s ∷ steps)) × (get_or (step_ids (s ∷ steps)) k 0 ≡ id)
place-cases s steps id true e h later = (0, omega arith, eqb-true s.id id e)
place-cases s steps id false e h later = let p = later h in (suc p.0, omega arith, p.2)

-- where an id stands that isn't forgotten
unforgotten_at : (steps : List ToldStep) (id : ℕ) → IsUnforgotten steps id → (k : ℕ) × (k < length steps) × (get_or (step_ids steps) k 0 ≡ id)
unforgotten_at [] id h = absurd (cc)
unforgotten_at (s ∷ steps) id h = place-cases s steps id (eqb s.id id) refl h (unforgotten_at steps id)

-- it has an edge
pub HasEdge-unforgotten : (edges : List StepEdge) (steps : List ToldStep) (id : ℕ) → edge_ids edges ≡ step_ids steps → IsUnforgotten steps id → HasEdge edges id
HasEdge-unforgotten edges steps id ids h = let p = unforgotten_at steps id h in edge_at edges steps id p.0 ids p.1 p.2

-- so have all antecedents of a chain
pub first_has_edge : (edges : List StepEdge) (steps : List ToldStep) (first : ℕ) (rest : List Step) → edge_ids edges ≡ step_ids steps → All (IsUnforgotten steps) (antecedents (Derived first (chain_of rest))) → HasEdge edges first
first_has_edge edges steps first rest ids h = HasEdge-unforgotten edges steps first ids (h 0 0 (omega arith))

pub antecedent_at : (rest : List Step) (k : ℕ) (d : Step) → k < length rest → get_or (map (λ s. s.antecedent) (chain_of rest)) k 0 ≡ (get_or rest k d).antecedent.0
antecedent_at [] k d within = absurd (omega arith)
antecedent_at (s ∷ rest) zero d within = refl
antecedent_at (s ∷ rest) (suc k) d within = antecedent_at rest k d (omega arith)

pub length-antecedents : (rest : List Step) → length (map (λ s. s.antecedent) (chain_of rest)) ≡ length rest
length-antecedents [] = refl
length-antecedents (s ∷ rest) = ap suc (length-antecedents rest)

pub rest_have_edges : (edges : List StepEdge) (steps : List ToldStep) (first : ℕ) (rest : List Step) → edge_ids edges ≡ step_ids steps → All (IsUnforgotten steps) (antecedents (Derived first (chain_of rest))) → All (λ s. HasEdge edges s.antecedent.0) rest
rest_have_edges edges steps first rest ids h k d within =
    let held : IsUnforgotten steps (get_or (map (λ s. s.antecedent) (chain_of rest)) k 0) = h (suc k) 0 (omega (arith, length-antecedents rest)) in
    HasEdge-unforgotten edges steps (get_or rest k d).antecedent.0 ids (subst (IsUnforgotten steps) (antecedent_at rest k d within) held)

-- an id that none has wasn't told
not_told-cases : (s : ToldStep) (steps : List ToldStep) (id : ℕ) (b : Bool) → eqb s.id id ≡ b → s.id ≢ id → clause_told steps id ≡ None → cond b (Some s.literals) (clause_told steps id) ≡ None
not_told-cases s steps id true e other later = absurd (other (eqb-true s.id id e))
not_told-cases s steps id false e other later = later

pub not_told : (steps : List ToldStep) (id : ℕ) → ((k : ℕ) → k < length steps → get_or (step_ids steps) k 0 ≢ id) → clause_told steps id ≡ None
not_told [] id none = refl
not_told (s ∷ steps) id none =
    not_told-cases s steps id (eqb s.id id) refl (none 0 (omega arith)) (not_told steps id (λ k within. none (suc k) (omega arith)))

-- and one that some step has was told
was_told-cases : (s : ToldStep) (steps : List ToldStep) (id : ℕ) (b : Bool) → eqb s.id id ≡ b → cond b (Some s.literals) (clause_told steps id) ≡ None → (eqb s.id id ≡ false) × (clause_told steps id ≡ None)
was_told-cases s steps id true e none = absurd (cc)
was_told-cases s steps id false e none = (e, none)

pub was_told : (steps : List ToldStep) (id k : ℕ) → k < length steps → get_or (step_ids steps) k 0 ≡ id → clause_told steps id ≡ None → ⊥
was_told [] id k within at none = omega arith
was_told (s ∷ steps) id zero within at none =
    let other = (was_told-cases s steps id (eqb s.id id) refl none).0 in
    let same : eqb s.id id ≡ true = eq-eqb s.id id at in
    cc
was_told (s ∷ steps) id (suc k) within at none = was_told steps id k (omega arith) at (was_told-cases s steps id (eqb s.id id) refl none).1

-- an edge is found exactly where the id was told
not_found : (edges : List StepEdge) (steps : List ToldStep) (id : ℕ) → edge_ids edges ≡ step_ids steps → ((e : StepEdge) → Contains edges e → e.id.0 ≢ id) → clause_told steps id ≡ None
not_found edges steps id ids none =
    not_told steps id (λ k within at. let p = edge_at edges steps id k ids within at in none p.0 p.1 p.2)

found-cases : (edges : List StepEdge) (steps : List ToldStep) (id : ClauseId) (found : Option Edge) → edge_ids edges ≡ step_ids steps → IfSome found (λ e. Contains edges (record { id = id; edge = e })) → clause_told steps id.0 ≡ None → found ≡ None
found-cases edges steps id None ids known none = refl
found-cases edges steps id (Some e) ids known none =
    let p = id_at edges steps (record { id = id; edge = e }) ids known in absurd (was_told steps id.0 p.0 p.1 p.2 none)

pub found_where_told : (edges : List StepEdge) (steps : List ToldStep) (id : ClauseId) (found : Option Edge) → edge_ids edges ≡ step_ids steps → IfSome found (λ e. Contains edges (record { id = id; edge = e })) → (found ≡ None → (e : StepEdge) → Contains edges e → e.id.0 ≢ id.0) → (found ≡ None) ↔ (clause_told steps id.0 ≡ None)
found_where_told edges steps id found ids known none =
    (λ is. not_found edges steps id.0 ids (none is), λ is. found-cases edges steps id found ids known is)

-- and is then that of the step
pub found_edge : (l : Labelling) (steps : List ToldStep) (older : ℕ) (nodes : List Node) (edges : List StepEdge) (id : ClauseId) (found : Option Edge) → AreEdges l steps older nodes edges → IfSome found (λ e. Contains edges (record { id = id; edge = e })) → IfSome found (IsEdgeOf l steps nodes id.0)
found_edge l steps older nodes edges id None h known = tt
found_edge l steps older nodes edges id (Some e) h known = h.each (record { id = id; edge = e }) known

-- the edges are of the arena
pub places_within : (l : Labelling) (steps : List ToldStep) (older : ℕ) (nodes : List Node) (edges : List StepEdge) → AreEdges l steps older nodes edges → All (λ s. s.edge.place < length nodes) edges
places_within l steps older nodes edges h k d within =
    (h.each (get_or edges k d) (Contains-get_or edges k d within)).within

-- what follows for each edge follows for the found one
pub for_found : (found : Option Edge) (P Q : Edge → Type 0) → ((e : Edge) → P e → Q e) → IfSome found P → IfSome found Q
for_found None P Q follows h = tt
for_found (Some e) P Q follows h = follows e h

-- an id that isn't forgotten was told
pub told_unforgotten : (steps : List ToldStep) (id : ℕ) → IsUnforgotten steps id → clause_told steps id ≡ None → ⊥
told_unforgotten steps id h none = let p = unforgotten_at steps id h in was_told steps id p.0 p.1 p.2 none
