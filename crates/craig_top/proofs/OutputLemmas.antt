-- The outputs of the circuit of the written systems, from the edges to what the text is read back as.
use Rattle.std.proofs.Common.{◌≡◌, ◌∙◌, sym, ap, subst, refl, ℕ, zero, suc, ◌+◌, ◌<◌, ◌≤◌, Bool, true, false, cond, List, [], ◌∷◌, ◌++◌, length, map, get_or, take, All, Contains, Option, Some, slice_get, slice_index, arith, length-take-le, append_assoc, take_all}
use Rattle.std.proofs.lemmas.List.{length-map, take_more}
use Rattle.std.proofs.lemmas.Option.{same_Some}
use Rattle.craig_spec.specs.Truth.{Assignment}
use Rattle.craig_spec.specs.Circuit.{Circuit, Output, circuit_cone, circuit_value}
use Rattle.craig_aig.specs.Cones.{cone}
use Rattle.craig_aig.specs.Edges.{Edge}
use Rattle.craig_aig.specs.Values.{edge_value}
use Rattle.craig_aig.specs.declared.node.Node.{Node}
use Rattle.craig_aiger.specs.Layouts.{Layout, HasFunctions, IsLayout, circuit_of, dense_assignment, edge_literal}
use Rattle.craig_aiger.specs.OutNames.{name_text}
use Rattle.craig_aiger.specs.RoundTrip.{SameCircuit}
use Rattle.craig_aiger.specs.declared.family.Family.{Family}
use Rattle.craig_aiger.specs.declared.out_name.OutName.{OutName}
use Rattle.craig_top.specs.Blocks.{printed_output}
use Rattle.craig_top.specs.CutLayout.{edge_outputs}
use Rattle.craig_top.specs.RefutationReply.{outputs_at}
use Rattle.craig_spec.proofs.MemberLemmas.{Contains-from_slice_get, slice_get-from_map, slice_get-to_map, slice_get-within, slice_get-below}

-- ---- outputs of edges

-- the output of a cut
abbrev pub cut_output : Option Family → ℕ → Edge → (OutName × Edge)
cut_output family cut e = (record { family = family; cut = cut }, e)

-- one edge more
edge_outputs-push : (family : Option Family) (cuts : List ℕ) (edges : List Edge) (cut : ℕ) (e : Edge) → length edges ≡ length cuts
    → edge_outputs family (cuts ++ cut ∷ []) (edges ++ e ∷ []) ≡ edge_outputs family cuts edges ++ cut_output family cut e ∷ []
edge_outputs-push family [] [] cut e same = refl
edge_outputs-push family [] (d ∷ edges) cut e same = absurd (omega (arith, same))
edge_outputs-push family (k ∷ cuts) [] cut e same = absurd (omega (arith, same))
edge_outputs-push family (k ∷ cuts) (d ∷ edges) cut e same = ap (λ os. cut_output family k d ∷ os) (edge_outputs-push family cuts edges cut e (omega (arith, same)))

-- the edges up to one place more
pub edge_outputs-more : (family : Option Family) (cuts : List ℕ) (edges : List Edge) (i : ℕ) (e : Edge) → i < length cuts → i < length edges
    → edge_outputs family (take (i + 1) cuts) (take (i + 1) edges) ≡ edge_outputs family (take i cuts) (take i edges) ++ cut_output family (get_or cuts i 0) (get_or edges i e) ∷ []
edge_outputs-more family cuts edges i e within inside =
    ap (λ ks. edge_outputs family ks (take (i + 1) edges)) (take_more cuts i 0 within) ∙ ap (edge_outputs family (take i cuts ++ get_or cuts i 0 ∷ [])) (take_more edges i e inside)
    ∙ edge_outputs-push family (take i cuts) (take i edges) (get_or cuts i 0) (get_or edges i e) (length-take-le i edges (omega (arith, inside)) ∙ sym (length-take-le i cuts (omega (arith, within))))

-- a push of the output of the next edge
pub pushed_more : (family : Option Family) (cuts : List ℕ) (edges : List Edge) (i cut : ℕ) (e : Edge) (begun before later : List (OutName × Edge)) → i < length cuts → length edges ≡ length cuts → cut ≡ get_or cuts i 0 → e ≡ get_or edges i e
    → before ≡ begun ++ edge_outputs family (take i cuts) (take i edges) → later ≡ before ++ (record { family = family; cut = cut }, e) ∷ [] → later ≡ begun ++ edge_outputs family (take (i + 1) cuts) (take (i + 1) edges)
pushed_more family cuts edges i cut e begun before later within same cut_is edge_is had push =
    let output : (OutName × Edge) = cut_output family (get_or cuts i 0) (get_or edges i e) in
    push ∙ ap (λ (n : ℕ). before ++ cut_output family n e ∷ []) cut_is ∙ ap (λ (d : Edge). before ++ cut_output family (get_or cuts i 0) d ∷ []) edge_is
    ∙ ap (λ os. os ++ output ∷ []) had ∙ append_assoc begun (edge_outputs family (take i cuts) (take i edges)) (output ∷ [])
    ∙ ap (λ os. begun ++ os) (sym (edge_outputs-more family cuts edges i e within (omega (arith, within, same))))

-- all were pushed
pub pushed_all : (family : Option Family) (cuts : List ℕ) (edges : List Edge) (i : ℕ) (begun before : List (OutName × Edge)) → length cuts ≤ i → length edges ≡ length cuts → before ≡ begun ++ edge_outputs family (take i cuts) (take i edges)
    → before ≡ begun ++ edge_outputs family cuts edges
pushed_all family cuts edges i begun before done same had =
    had ∙ ap (λ ks. begun ++ edge_outputs family ks (take i edges)) (take_all i cuts done) ∙ ap (λ es. begun ++ edge_outputs family cuts es) (take_all i edges (omega (arith, done, same)))

-- what holds of each edge holds of each output's
pub All-edge_outputs : (P : Edge → Type 0) (family : Option Family) (cuts : List ℕ) (edges : List Edge) → ((k cut : ℕ) (e : Edge) → slice_get cuts k ≡ Some cut → slice_get edges k ≡ Some e → P e) → All (λ (o : OutName × Edge). P o.1) (edge_outputs family cuts edges)
All-edge_outputs P family [] edges each k d within = absurd (omega (arith, within))
All-edge_outputs P family (cut ∷ cuts) [] each k d within = absurd (omega (arith, within))
All-edge_outputs P family (cut ∷ cuts) (e ∷ edges) each zero d within = each 0 cut e refl refl
All-edge_outputs P family (cut ∷ cuts) (e ∷ edges) each (suc k) d within = All-edge_outputs P family cuts edges (λ j n f at is. each (suc j) n f at is) k d (omega (arith, within))

-- ---- what the text is read back as

-- the literal of a circuit has the values of the edge, reaches variables alone that it reaches, and is constant where it is
pub record IsOutputOf (names : List ℕ) (nodes : List Node) (e : Edge) (c : Circuit) (l : ℕ) : Type 0 where
  pub value : (s : Assignment) → circuit_value s c l ≡ edge_value (dense_assignment names s) nodes e
  pub cone_is : (x : ℕ) → Contains (circuit_cone c l) x → Contains (map (slice_index names) (cone nodes e)) x
  pub constant : e.place ≡ 0 → l ≡ cond e.negated 1 0

-- the output that was read is that of the edge
pub record IsReadOf (names : List ℕ) (nodes : List Node) (c : Circuit) (p : OutName × Edge) (o : Output) : Type 0 where
  pub name : o.name ≡ name_text p.0
  pub literal : IsOutputOf names nodes p.1 c o.literal

-- so is each of the outputs
abbrev pub AreReadOf : List ℕ → List Node → Circuit → List (OutName × Edge) → List Output → Type 0
AreReadOf names nodes c [] [] = Unit {0}
AreReadOf names nodes c [] (o ∷ os) = ⊥
AreReadOf names nodes c (p ∷ ps) [] = ⊥
AreReadOf names nodes c (p ∷ ps) (o ∷ os) = IsReadOf names nodes c p o × AreReadOf names nodes c ps os

-- two lists with the same images have them at each place
same_images : {A B C : Type 0} (f : A → C) (g : B → C) (xs : List A) (ys : List B) (k : ℕ) (x : A) (y : B) → map f xs ≡ map g ys → slice_get xs k ≡ Some x → slice_get ys k ≡ Some y → f x ≡ g y
same_images f g xs ys k x y e a b = same_Some (f x) (g y) (sym (slice_get-to_map f xs k x a) ∙ ap (λ zs. slice_get zs k) e ∙ slice_get-to_map g ys k y b)

module _ (names : List ℕ) (nodes : List Node) (c : Circuit) where
  -- outputs that are read at each place
  from_places : (ps : List (OutName × Edge)) (os : List Output) → length os ≡ length ps → ((k : ℕ) (p : OutName × Edge) (o : Output) → slice_get ps k ≡ Some p → slice_get os k ≡ Some o → IsReadOf names nodes c p o) → AreReadOf names nodes c ps os
  from_places [] [] same each = tt
  from_places [] (o ∷ os) same each = absurd (omega (arith, same))
  from_places (p ∷ ps) [] same each = absurd (omega (arith, same))
  from_places (p ∷ ps) (o ∷ os) same each = (each 0 p o refl refl, from_places ps os (omega (arith, same)) (λ k q r at is. each (suc k) q r at is))

  -- those of two lists, one after the other, are read apart
  pub reads-split : (ps qs : List (OutName × Edge)) (os : List Output) → AreReadOf names nodes c (ps ++ qs) os → (first : List Output) × (others : List Output) × (os ≡ first ++ others) × AreReadOf names nodes c ps first × AreReadOf names nodes c qs others
  reads-split [] qs os read = ([], os, refl, tt, read)
  reads-split (p ∷ ps) qs [] read = absurd read
  reads-split (p ∷ ps) qs (o ∷ os) read =
      let rest = reads-split ps qs os read.1 in
      (o ∷ rest.0, rest.1, ap (λ zs. o ∷ zs) rest.2, (read.0, rest.3), rest.4)

  -- no output is read of none
  pub reads-none : (os : List Output) → AreReadOf names nodes c [] os → os ≡ []
  reads-none [] read = refl
  reads-none (o ∷ os) read = absurd read

  -- the outputs of one system
  pub reads-printed : (family : Option Family) (cuts : List ℕ) (edges : List Edge) (os : List Output) → length edges ≡ length cuts → AreReadOf names nodes c (edge_outputs family cuts edges) os
      → os ≡ map printed_output (outputs_at family cuts (map (λ (o : Output). o.literal) os))
  reads-printed family [] edges [] same read = refl
  reads-printed family [] edges (o ∷ os) same read = absurd read
  reads-printed family (cut ∷ cuts) [] os same read = absurd (omega (arith, same))
  reads-printed family (cut ∷ cuts) (e ∷ edges) [] same read = absurd read
  reads-printed family (cut ∷ cuts) (e ∷ edges) (o ∷ os) same read =
      ap (λ (n : List ℕ). record { name = n; literal = o.literal } ∷ os) (read.0).name
      ∙ ap (λ (rs : List Output). record { name = name_text (record { family = family; cut = cut }); literal = o.literal } ∷ rs) (reads-printed family cuts edges os (omega (arith, same)) read.1)

  pub reads-count : (family : Option Family) (cuts : List ℕ) (edges : List Edge) (os : List Output) → length edges ≡ length cuts → AreReadOf names nodes c (edge_outputs family cuts edges) os → length (map (λ (o : Output). o.literal) os) ≡ length cuts
  reads-count family [] edges [] same read = refl
  reads-count family [] edges (o ∷ os) same read = absurd read
  reads-count family (cut ∷ cuts) [] os same read = absurd (omega (arith, same))
  reads-count family (cut ∷ cuts) (e ∷ edges) [] same read = absurd read
  reads-count family (cut ∷ cuts) (e ∷ edges) (o ∷ os) same read = ap suc (reads-count family cuts edges os (omega (arith, same)) read.1)

  -- the literal for a cut is that of an edge
  pub reads-at : (family : Option Family) (cuts : List ℕ) (edges : List Edge) (os : List Output) → AreReadOf names nodes c (edge_outputs family cuts edges) os
      → (k cut l : ℕ) → slice_get cuts k ≡ Some cut → slice_get (map (λ (o : Output). o.literal) os) k ≡ Some l → (e : Edge) × (slice_get edges k ≡ Some e) × IsOutputOf names nodes e c l
  reads-at family [] edges os read k cut l at is = absurd (cc)
  reads-at family (n ∷ cuts) [] [] read k cut l at is = absurd (cc)
  reads-at family (n ∷ cuts) [] (o ∷ os) read k cut l at is = absurd read
  reads-at family (n ∷ cuts) (e ∷ edges) [] read k cut l at is = absurd read
  reads-at family (n ∷ cuts) (e ∷ edges) (o ∷ os) read zero cut l at is = (e, refl, subst (IsOutputOf names nodes e c) (same_Some o.literal l is) (read.0).literal)
  reads-at family (n ∷ cuts) (e ∷ edges) (o ∷ os) read (suc k) cut l at is = reads-at family cuts edges os read.1 k cut l at is

-- ---- what the layout is read back as

module _ (names : List ℕ) (nodes : List Node) (outputs : List (OutName × Edge)) (layout : Layout) (laid : IsLayout nodes names outputs layout) (functions : HasFunctions nodes names outputs layout) (c : Circuit) (same : SameCircuit layout c) where
  layout_length : length layout.outputs ≡ length outputs
  layout_length = ap length laid.outputs_are ∙ length-map outputs (λ (o : OutName × Edge). (o.0, edge_literal laid.numbers o.1))

  circuit_length : length c.outputs ≡ length layout.outputs
  circuit_length = sym (length-map c.outputs (λ (o : Output). o.name)) ∙ ap length same.names_are ∙ length-map layout.outputs (λ (o : OutName × ℕ). name_text o.0)

  -- what stands at a place of the layout has the name of the output there
  layout_name : (k : ℕ) (p : OutName × Edge) (o : OutName × ℕ) → slice_get outputs k ≡ Some p → slice_get layout.outputs k ≡ Some o → o.0 ≡ p.0
  layout_name k p o at is =
      let from = slice_get-from_map (λ (q : OutName × Edge). (q.0, edge_literal laid.numbers q.1)) outputs k o (ap (λ os. slice_get os k) (sym laid.outputs_are) ∙ is) in
      ap (λ (q : OutName × ℕ). q.0) (sym from.2) ∙ ap (λ (q : OutName × Edge). q.0) (same_Some from.0 p (sym from.1 ∙ at))

  read_at : (k : ℕ) (p : OutName × Edge) (o : Output) → slice_get outputs k ≡ Some p → slice_get c.outputs k ≡ Some o → IsReadOf names nodes c p o
  read_at k p o at is =
      let within : k < length c.outputs = slice_get-below c.outputs k o is in
      let lo = slice_get-within layout.outputs k (omega (arith, within, circuit_length)) in
      record {
        name = same_images (λ (q : Output). q.name) (λ (q : OutName × ℕ). name_text q.0) c.outputs layout.outputs k o lo.0 same.names_are is lo.1 ∙ ap name_text (layout_name k p lo.0 at lo.1);
        literal = record {
          value = λ s. same_images (λ (q : Output). circuit_value s c q.literal) (λ (q : OutName × ℕ). circuit_value s (circuit_of layout) q.1) c.outputs layout.outputs k o lo.0 (same.values_are s) is lo.1 ∙ functions.values s k p lo.0 at lo.1;
          cone_is = λ x h. (functions.cones k p lo.0 x at lo.1).0
              (subst (λ xs. Contains xs x) (same_images (λ (q : Output). circuit_cone c q.literal) (λ (q : OutName × ℕ). circuit_cone (circuit_of layout) q.1) c.outputs layout.outputs k o lo.0 same.cones_are is lo.1) h);
          constant = λ zero_is.
              let small_literal : lo.0.1 ≡ cond (p.1).negated 1 0 = functions.constants k p lo.0 at lo.1 zero_is in
              let read = same.constants k lo.0 lo.1 (rw small_literal (small (p.1).negated)) in
              ap (λ (q : Output). q.literal) (same_Some o read.0 (sym is ∙ read.1)) ∙ read.2 ∙ small_literal;
        };
      }
    where
      small : (b : Bool) → cond b 1 0 < 2
      small true = omega arith
      small false = omega arith

  -- the outputs of the circuit are those of the edges
  pub outputs-read : AreReadOf names nodes c outputs c.outputs
  outputs-read = from_places names nodes c outputs c.outputs (circuit_length ∙ layout_length) read_at

  -- each input is in the cone of an output
  pub inputs-used : (x : ℕ) → Contains c.inputs x → (o : Output) × Contains c.outputs o × Contains (circuit_cone c o.literal) x
  inputs-used x h =
      let used = functions.used x (subst (λ xs. Contains xs x) same.inputs_are h) in
      let within : used.0 < length layout.outputs = slice_get-below layout.outputs used.0 used.1 used.2 in
      let o = slice_get-within c.outputs used.0 (omega (arith, within, circuit_length)) in (
        o.0,
        Contains-from_slice_get c.outputs used.0 o.0 o.1,
        subst (λ xs. Contains xs x) (sym (same_images (λ (p : Output). circuit_cone c p.literal) (λ (p : OutName × ℕ). circuit_cone (circuit_of layout) p.1) c.outputs layout.outputs used.0 o.0 used.1 same.cones_are o.1 used.2)) used.3,
      )
