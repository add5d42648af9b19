-- Which variables the rules let into an edge, where the sides have noted those of the originals.
use Rattle.std.proofs.Common.{◌≡◌, ◌⊎◌, inl, inr, ℕ, ◌<◌, ◌≤◌, Bool, true, false, List, eqb, ltb, refl, arith, eq-eqb, le-leb, lt-ltb}
use Rattle.std.proofs.lemmas.Bool.{or_left, or_right}
use Rattle.craig_spec.specs.Chain.{ToldStep}
use Rattle.craig_spec.specs.PartialInterpolant.{Label, A, AB, B, label_at}
use Rattle.craig_label.specs.Sides.{SidesView, occurs_in_a, occurs_in_b, side_of, side_at}
use Rattle.craig_label.specs.declared.side.Side.TheVariants.{Shared}
use Rattle.craig_aig.specs.Edges.{Edge}
use Rattle.craig_aig.specs.declared.node.Node.{Node}
use Rattle.craig_system.specs.Rules.{labelling}
use Rattle.craig_itp.specs.Interpolants.{AreNoted, Spans, HasSharedInputs}
use Rattle.craig_itp.specs.StepEdges.{MayEnter, IsEdgeOf, crossing_label}
use Rattle.craig_itp.proofs.TestLemmas.{is_leaf, is_leaf-true, is_leaf-false}

-- a variable labelled AB is on both sides
labelled_both : (in_a in_b : Bool) (mark : Label) → label_at in_a in_b mark ≡ AB → side_of in_a in_b ≡ Shared
labelled_both true true mark h = refl
labelled_both true false mark h = absurd (let no : A ≡ AB = h in cc)
labelled_both false in_b mark h = absurd (let no : B ≡ AB = h in cc)

-- so is one of side A that is labelled B
labelled_b : (in_a in_b : Bool) (mark : Label) → in_a ≡ true → label_at in_a in_b mark ≡ B → side_of in_a in_b ≡ Shared
labelled_b true true mark is h = refl
labelled_b true false mark is h = absurd (let no : A ≡ B = h in cc)
labelled_b false in_b mark is h = absurd (cc)

-- and one of side B that is labelled A
labelled_a : (in_a in_b : Bool) (mark : Label) → in_b ≡ true → label_at in_a in_b mark ≡ A → side_of in_a in_b ≡ Shared
labelled_a true true mark is h = refl
labelled_a false true mark is h = absurd (let no : B ≡ A = h in cc)
labelled_a in_a false mark is h = absurd (cc)

-- the variables of a leaf of side A are on side A, and those of a leaf of side B on side B
in_a_by : (sides : SidesView) (cut part x : ℕ) → part ≤ cut → Spans sides x part → occurs_in_a sides cut x ≡ true
in_a_by sides cut part x on (r, is, first, last) = rw is (le-leb r.first cut (omega arith))

in_b_by : (sides : SidesView) (cut part x : ℕ) → (part ≡ 0) ⊎ (cut < part) → Spans sides x part → occurs_in_b sides cut x ≡ true
in_b_by sides cut part x (inl common) (r, is, first, last) = rw is (or_left (eqb r.first 0) (ltb cut r.last) (eq-eqb r.first 0 (omega arith)))
in_b_by sides cut part x (inr after) (r, is, first, last) = rw is (or_right (eqb r.first 0) (ltb cut r.last) (lt-ltb cut r.last (omega arith)))

crosses-cases : (sides : SidesView) (cut part x : ℕ) (mark : Label) (leaf : Bool) → is_leaf cut part ≡ leaf → Spans sides x part → label_at (occurs_in_a sides cut x) (occurs_in_b sides cut x) mark ≡ crossing_label leaf → side_at sides cut x ≡ Shared
crosses-cases sides cut part x mark true on covers h = labelled_b (occurs_in_a sides cut x) (occurs_in_b sides cut x) mark (in_a_by sides cut part x (is_leaf-true cut part on).1 covers) h
crosses-cases sides cut part x mark false off covers h = labelled_a (occurs_in_a sides cut x) (occurs_in_b sides cut x) mark (in_b_by sides cut part x (is_leaf-false cut part off) covers) h

-- a variable that may enter is on both sides
entering_is_shared : (sides : SidesView) (cut : ℕ) (marks : ℕ → Label) (steps : List ToldStep) (x : ℕ) → AreNoted sides steps → MayEnter (labelling sides cut marks) steps x → side_at sides cut x ≡ Shared
entering_is_shared sides cut marks steps x noted (inl both) = labelled_both (occurs_in_a sides cut x) (occurs_in_b sides cut x) (marks x) both
entering_is_shared sides cut marks steps x noted (inr c) =
    crosses-cases sides cut c.part x (marks x) (is_leaf cut c.part) refl (noted c.step c.told c.part x c.original c.occurs) c.label_is

-- the inputs of an edge are on both sides
pub inputs_are_shared : (sides : SidesView) (cut : ℕ) (marks : ℕ → Label) (steps : List ToldStep) (nodes : List Node) (id : ℕ) (e : Edge) → AreNoted sides steps → IsEdgeOf (labelling sides cut marks) steps nodes id e → HasSharedInputs sides cut nodes e
inputs_are_shared sides cut marks steps nodes id e noted h = λ x reached.
    entering_is_shared sides cut marks steps x noted (h.inputs x reached)
