use Rattle.std.proofs.Common.{◌≡◌, inl, inr, ℕ, ◌<◌, List, [], ◌∷◌, length, Contains, Result, Ok, Err, IfOk, ◌∙◌, ap, length-append, arith, subst}
use Rattle.std.specs.declared.alloc.AllocError.{AllocError}
use Rattle.craig_aig.specs.Cones.{cone, ConeWithin}
use Rattle.craig_aig.specs.Edges.{Edge}
use Rattle.craig_aig.specs.Growth.{Extends, KeepsEdges}
use Rattle.craig_aig.specs.declared.node.Node.{Node}
use Rattle.craig_rows_circuits.proofs.aiger.both.Goals as goal

one_member : (xs : List ℕ) (v x n : ℕ) → xs ≡ v ∷ [] → v < n → Contains xs x → x < n
one_member xs v x n is below h =
    let m = subst (λ l. Contains l x) is h in
    let first : m.0 ≡ 0 = omega (arith, m.1) in
    let e : v ≡ x = rw first at m.2 in
    omega (arith, e)

cone_of_both : (first second third : List Node) (one two : Edge) (r : Result Edge AllocError) (left right n : ℕ) → cone first one ≡ left ∷ [] → KeepsEdges first second → one.place < length first → Extends first second → cone second two ≡ right ∷ [] → IfOk r (ConeWithin second one two third) → left < n → right < n → IfOk r (λ e. (x : ℕ) → Contains (cone third e) x → x < n)
cone_of_both first second third one two (Err e) left right n one_is kept within grown two_is h below_left below_right = h
cone_of_both first second third one two (Ok edge) left right n one_is kept within grown two_is h below_left below_right = λ x m.
    let later : one.place < length second = omega (arith, within, ap length grown.1, length-append first grown.0) in
    elim (h x m) [
      | inl p ↦ one_member (cone second one) left x n ((kept one within later).cone_is ∙ one_is) below_left p
      | inr p ↦ one_member (cone second two) right x n two_is below_right p
    ]

pub returns-clause-inputs : goal.returns-clause-inputs
returns-clause-inputs c =
    cone_of_both c.input.new.self c.input-2.new.self c.and.new.self c.in_ok-one.one c.in_ok-two.two c.and.result c.args.left.0 c.args.right.0 _ c.in_ok-one.ensures.cone c.in_ok-two.ensures.grows.kept c.in_ok-one.ensures.within c.in_ok-two.ensures.grows.extends c.in_ok-two.ensures.cone c.and.ensures.cone c.requires.left c.requires.right
