-- The outputs of the written systems in an arena that grows from system to system.
use Rattle.std.proofs.Common.{◌≡◌, ◌∙◌, sym, ap, subst, refl, ℕ, ◌<◌, ◌≤◌, Bool, true, false, List, [], ◌∷◌, ◌++◌, append-nil, append_assoc, length, nat_eq, slice_index, All, Contains, Option, None, Result, Ok, Err, IfOk, arith, inl, inr}
use Rattle.std.proofs.lemmas.Bool.{cases_Bool, eqb-true, eqb-false}
use Rattle.std.proofs.lemmas.List.Elements.{All-append, All-cons, All-contains, All-head, All-nil, All-tail}
use Rattle.std.specs.declared.vec.Vec.{Vec}
use Rattle.craig_spec.specs.Chain.{ToldStep}
use Rattle.craig_spec.specs.Cut.{AreChosenCuts}
use Rattle.craig_spec.specs.PartialInterpolant.{Label}
use Rattle.craig_label.specs.Sides.{SidesView, side_at}
use Rattle.craig_label.specs.declared.side.Side.TheVariants.{Shared}
use Rattle.craig_aig.specs.Arenas.{IsAig}
use Rattle.craig_aig.specs.Cones.{cone}
use Rattle.craig_aig.specs.Conjunctions.{constant_edge}
use Rattle.craig_aig.specs.Edges.{Edge, plain_edge}
use Rattle.craig_aig.specs.Growth.{ArenaGrows}
use Rattle.craig_aig.specs.Operands.{ConesFromOperands}
use Rattle.craig_aig.specs.declared.node.Node.{Node}
use Rattle.craig_aig.proofs.GrowthLemmas.{ArenaGrows-trans, cone-ArenaGrows, value-ArenaGrows, within-ArenaGrows}
use Rattle.craig_aig.specs.declared.node.Node.TheVariants.{Constant}
use Rattle.craig_aiger.specs.Layouts.{HasFunctions, IsLayout, Layout}
use Rattle.craig_aiger.specs.declared.family.Family.{Family}
use Rattle.craig_aiger.specs.declared.out_name.OutName.{OutName}
use Rattle.craig_itp.specs.Interpolants.{AreInterpolants, IsInterpolant, IsOutput}
use Rattle.craig_top.specs.CutLayout.{AreSystemOutputs, SystemEdges, edge_outputs, systems_outputs}
use Rattle.craig_top.specs.Material.{MaterialView}
use Rattle.craig_top.specs.WrittenOutputs.{AreOutputsOf, AreWrittenOutputs, HasMarks, IsWrittenLayout}
use Rattle.craig_top.specs.WrittenSystems.{WrittenSystem, alone, label_of_mark, systems_of}
use Rattle.craig_top.proofs.OutputLemmas.{All-edge_outputs}
use Rattle.craig_spec.proofs.MemberLemmas.{All-alone, Contains-from_slice_get, slice_get-below}

-- ---- edges in an arena that grows

module _ (sides : SidesView) (marks : ℕ → Label) (steps : List ToldStep) (root : ℕ) (old new : List Node) (grows : ArenaGrows old new) where
  -- an interpolant stays one
  interpolant-grows : (cut : ℕ) (e : Edge) → IsInterpolant sides cut marks steps root old e → IsInterpolant sides cut marks steps root new e
  interpolant-grows cut e is = record {
    within = within-ArenaGrows old new e grows is.within;
    value = λ s. value-ArenaGrows s old new e grows is.within ∙ is.value s;
    inputs = λ x here. is.inputs x (subst (λ xs. Contains xs x) (cone-ArenaGrows old new e grows is.within) here);
  }

  output-grows : (cut : ℕ) (e : Edge) → IsOutput sides cut marks steps root old e → IsOutput sides cut marks steps root new e
  output-grows cut e is = record { first = is.first; last = is.last; inner = λ low high. interpolant-grows cut e (is.inner low high) }

  -- so do those of all cuts
  pub interpolants-grow : (cuts : List ℕ) (edges : List Edge) → AreInterpolants sides marks steps root old cuts edges → AreInterpolants sides marks steps root new cuts edges
  interpolants-grow cuts edges are = record { count = are.count; each = λ place cut e at is. output-grows cut e (are.each place cut e at is) }

-- ---- the systems of a word

-- the labels of the names by the marks
abbrev pub by_names : MaterialView → ℕ → Label
by_names m x = label_of_mark m.settings.marks (slice_index m.names x)

-- outputs of the systems of a word are those that are written
pub outputs_by : {E Z : Type 0} (r : Result (Vec (OutName × Edge) Z) E) (m : MaterialView) (root : ℕ) (nodes : List Node) (cuts : List ℕ) (systems : List WrittenSystem) (label : ℕ → Label) → HasMarks m.names m.settings.marks label
    → systems_of m.settings.system label ≡ systems → IfOk r (λ outputs. AreOutputsOf m root nodes cuts systems outputs.items) → IfOk r (λ outputs. AreWrittenOutputs m root nodes cuts outputs.items)
outputs_by (Ok outputs) m root nodes cuts systems label has is are = record { label = label; marks = has; outputs_are = subst (λ ss. AreSystemOutputs m.sides m.told.steps root nodes cuts ss outputs.items) (sym is) are }
outputs_by (Err e) m root nodes cuts systems label has is are = tt

-- the edges of one more system came behind the outputs, in an arena that only grew
pub record PushesSystem (m : MaterialView) (root : ℕ) (cuts : List ℕ) (family : Option Family) (label : ℕ → Label) (before now : List Node) (old new : List (OutName × Edge)) : Type 0 where
  -- the edges
  pub edges : List Edge
  -- they are interpolants by these labels
  pub interpolants : AreInterpolants m.sides label m.told.steps root now cuts edges
  -- they stand behind the outputs before them
  pub pushed : new ≡ old ++ edge_outputs family cuts edges
  -- the arena only grew
  pub grows : ArenaGrows before now

-- edges that are put behind the outputs, each under its cut and the family
pub pushed_by : (m : MaterialView) (root : ℕ) (cuts : List ℕ) (family : Option Family) (marks : ℕ → Label) (before now : List Node) (edges lent : List Edge) (old new : List (OutName × Edge)) → lent ≡ edges
    → AreInterpolants m.sides marks m.told.steps root now cuts edges → ArenaGrows before now → new ≡ old ++ edge_outputs family cuts lent → PushesSystem m root cuts family marks before now old new
pushed_by m root cuts family marks before now edges lent old new same interpolants grows put = record { edges = edges; interpolants = interpolants; pushed = put ∙ ap (λ es. old ++ edge_outputs family cuts es) same; grows = grows }

-- the edges of a system that is written alone
pub one_system : (m : MaterialView) (root : ℕ) (before now : List Node) (cuts : List ℕ) (marks : ℕ → Label) (none outputs : List (OutName × Edge)) → none ≡ [] → PushesSystem m root cuts None marks before now none outputs → AreOutputsOf m root now cuts (alone marks) outputs
one_system m root before now cuts marks none outputs empty pushes = record {
  groups = record { system = record { family = None; marks = marks }; edges = pushes.edges } ∷ [];
  systems_are = refl;
  interpolants = All-alone (λ (g : SystemEdges). AreInterpolants m.sides g.system.marks m.told.steps root now cuts g.edges) (record { system = record { family = None; marks = marks }; edges = pushes.edges }) pushes.interpolants;
  outputs_are = pushes.pushed ∙ ap (λ os. os ++ edge_outputs None cuts pushes.edges) empty ∙ sym (append-nil (edge_outputs None cuts pushes.edges));
}

-- the edges of three systems
module _ (m : MaterialView) (root : ℕ) (cuts : List ℕ) (f g h : Option Family) (a b c : ℕ → Label) (first second third now : List Node) (none one two outputs : List (OutName × Edge)) (empty : none ≡ [])
    (x : PushesSystem m root cuts f a first second none one) (y : PushesSystem m root cuts g b second third one two) (z : PushesSystem m root cuts h c third now two outputs) where
  abbrev three_groups : List SystemEdges
  three_groups =
      record { system = record { family = f; marks = a }; edges = x.edges } ∷ record { system = record { family = g; marks = b }; edges = y.edges } ∷ record { system = record { family = h; marks = c }; edges = z.edges } ∷ []

  three_pushed : outputs ≡ systems_outputs cuts three_groups
  three_pushed =
      z.pushed ∙ ap (λ os. os ++ edge_outputs h cuts z.edges) (y.pushed ∙ ap (λ os. os ++ edge_outputs g cuts y.edges) (x.pushed ∙ ap (λ os. os ++ edge_outputs f cuts x.edges) empty))
      ∙ regrouped (edge_outputs f cuts x.edges) (edge_outputs g cuts y.edges) (edge_outputs h cuts z.edges)
    where
      regrouped : (p q r : List (OutName × Edge)) → (([] ++ p) ++ q) ++ r ≡ p ++ (q ++ (r ++ []))
      regrouped p q r = simp (append_assoc, append-nil)

  three_interpolants : All (λ (k : SystemEdges). AreInterpolants m.sides k.system.marks m.told.steps root now cuts k.edges) three_groups
  three_interpolants =
      let Q : SystemEdges → Type 0 = λ (k : SystemEdges). AreInterpolants m.sides k.system.marks m.told.steps root now cuts k.edges in
      All-cons Q (record { system = record { family = f; marks = a }; edges = x.edges }) (record { system = record { family = g; marks = b }; edges = y.edges } ∷ record { system = record { family = h; marks = c }; edges = z.edges } ∷ [])
      (interpolants-grow m.sides a m.told.steps root second now (ArenaGrows-trans second third now y.grows z.grows) cuts x.edges x.interpolants)
      (All-cons Q (record { system = record { family = g; marks = b }; edges = y.edges }) (record { system = record { family = h; marks = c }; edges = z.edges } ∷ [])
      (interpolants-grow m.sides b m.told.steps root third now z.grows cuts y.edges y.interpolants)
      (All-alone Q (record { system = record { family = h; marks = c }; edges = z.edges }) z.interpolants))

  pub three_systems : AreOutputsOf m root now cuts (record { family = f; marks = a } ∷ record { family = g; marks = b } ∷ record { family = h; marks = c } ∷ []) outputs
  three_systems = record { groups = three_groups; systems_are = refl; interpolants = three_interpolants; outputs_are = three_pushed }

-- ---- what the layout asks

-- an edge of the arena that reaches shared variables alone
pub record IsSharedEdge (sides : SidesView) (nodes : List Node) (cut : ℕ) (e : Edge) : Type 0 where
  pub within : e.place < length nodes
  pub inputs : (x : ℕ) → Contains (cone nodes e) x → side_at sides cut x ≡ Shared

module _ (sides : SidesView) (steps : List ToldStep) (root : ℕ) (nodes : List Node) (by_operands : ConesFromOperands) (is_arena : IsAig nodes) (cuts : List ℕ) (within : All (λ cut. cut ≤ sides.parts) cuts) where
  constant_within : 0 < length nodes
  constant_within = slice_get-below nodes 0 _ is_arena.first

  constant_cone : cone nodes (plain_edge 0) ≡ []
  constant_cone = by_operands nodes 0 Constant is_arena is_arena.first

  constant_shared : (cut : ℕ) (b : Bool) (e : Edge) → e ≡ constant_edge b → IsSharedEdge sides nodes cut e
  constant_shared cut b e is = record {
    within = let place : e.place ≡ 0 = ap (λ (d : Edge). d.place) is in omega (arith, place, constant_within);
    inputs = λ x here. (let none : Contains [] x = subst (λ xs. Contains xs x) (ap (cone nodes) is ∙ constant_cone) here in absurd (omega (arith, none.1)));
  }

  -- each output is one
  output_shared : (marks : ℕ → Label) (cut : ℕ) (e : Edge) → cut ≤ sides.parts → IsOutput sides cut marks steps root nodes e → IsSharedEdge sides nodes cut e
  output_shared marks cut e inside is = elim (cases_Bool (nat_eq cut 0)) [
    | inl first ↦ constant_shared cut true e (is.first (eqb-true cut 0 first))
    | inr later ↦ elim (cases_Bool (nat_eq cut sides.parts)) [
      | inl last ↦ constant_shared cut false e (is.last (eqb-true cut sides.parts last))
      | inr inner ↦ (
          let some : cut ≡ 0 → ⊥ = eqb-false cut 0 later in
          let apart : cut ≡ sides.parts → ⊥ = eqb-false cut sides.parts inner in
          let one = is.inner (omega (arith, some)) (omega (arith, apart, inside)) in
          record { within = one.within; inputs = one.inputs })
    ]
  ]

  pub All-systems_outputs : (P : Edge → Type 0) (groups : List SystemEdges) → All (λ (g : SystemEdges). AreInterpolants sides g.system.marks steps root nodes cuts g.edges) groups
      → ((cut : ℕ) (e : Edge) → IsSharedEdge sides nodes cut e → P e) → All (λ (o : OutName × Edge). P o.1) (systems_outputs cuts groups)
  All-systems_outputs P [] each give = All-nil (λ (o : OutName × Edge). P o.1)
  All-systems_outputs P (g ∷ groups) each give =
      let Q : SystemEdges → Type 0 = λ (h : SystemEdges). AreInterpolants sides h.system.marks steps root nodes cuts h.edges in
      let own = All-head Q g groups each in
      All-append (λ (o : OutName × Edge). P o.1) (edge_outputs g.system.family cuts g.edges) (systems_outputs cuts groups)
      (All-edge_outputs P g.system.family cuts g.edges (λ k cut e at is. give cut e (output_shared g.system.marks cut e (All-contains (λ n. n ≤ sides.parts) cuts cut within (Contains-from_slice_get cuts k cut at)) (own.each k cut e at is))))
      (All-systems_outputs P groups (All-tail Q g groups each) give)

-- the outputs of a written layout, as they are read from a list
module _ (m : MaterialView) (root : ℕ) (nodes : List Node) (cuts : List ℕ) (outputs read : List (OutName × Edge)) (written : AreWrittenOutputs m root nodes cuts outputs) (read_is : read ≡ outputs) where
  outputs_read : read ≡ systems_outputs cuts written.outputs_are.groups
  outputs_read = read_is ∙ written.outputs_are.outputs_are

  module _ (by_operands : ConesFromOperands) (is_arena : IsAig nodes) (within : All (λ cut. cut ≤ m.sides.parts) cuts) where
    all_read : (P : Edge → Type 0) → ((cut : ℕ) (e : Edge) → IsSharedEdge m.sides nodes cut e → P e) → All (λ (o : OutName × Edge). P o.1) read
    all_read P give =
        subst (λ os. All (λ (o : OutName × Edge). P o.1) os) (sym outputs_read)
        (All-systems_outputs m.sides m.told.steps root nodes by_operands is_arena cuts within P written.outputs_are.groups written.outputs_are.interpolants give)

    pub edges_within : All (λ (o : OutName × Edge). o.1.place < length nodes) read
    edges_within = all_read (λ e. e.place < length nodes) (λ cut e is. is.within)

    pub inputs_named : ((cut x : ℕ) → side_at m.sides cut x ≡ Shared → x < length m.names) → All (λ (o : OutName × Edge). (x : ℕ) → Contains (cone nodes o.1) x → x < length m.names) read
    inputs_named named = all_read (λ e. (x : ℕ) → Contains (cone nodes e) x → x < length m.names) (λ cut e is x here. named cut x (is.inputs x here))

  -- the layout of these outputs
  pub written_layout : {E : Type 0} (r : Result Layout E) → cuts ≡ m.settings.cuts → IfOk r (IsLayout nodes m.names read) → IfOk r (HasFunctions nodes m.names read) → IfOk r (IsWrittenLayout m root)
  written_layout (Ok layout) same laid functions = record {
    label = written.label;
    marks = written.marks;
    laid = record {
      nodes = nodes;
      outputs = read;
      system_outputs = subst (λ ks. AreSystemOutputs m.sides m.told.steps root nodes ks (systems_of m.settings.system written.label) read) same
          (subst (λ os. AreSystemOutputs m.sides m.told.steps root nodes cuts (systems_of m.settings.system written.label) os) (sym read_is) written.outputs_are);
      laid_out = laid;
      functions = functions;
    };
  }
  written_layout (Err e) same laid functions = tt

-- the chosen cuts are within the parts
pub within_chosen : (parts : ℕ) (cuts chosen : List ℕ) → AreChosenCuts parts chosen → cuts ≡ chosen → All (λ cut. cut ≤ parts) cuts
within_chosen parts cuts chosen are same = subst (λ ks. All (λ cut. cut ≤ parts) ks) (sym same) are.within
