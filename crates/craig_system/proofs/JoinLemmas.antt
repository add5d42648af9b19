-- Edges of resolvents.
use Rattle.std.proofs.Common.{◌≡◌, ℕ, ◌<◌, Bool, true, false, not, cond, ◌||◌, ◌&&◌, List, length, Contains, inl, inr, refl, sym, ap, ◌∙◌, subst}
use Rattle.craig_spec.specs.Literal.{Literal, negation}
use Rattle.craig_spec.specs.Truth.{Assignment, literal_value}
use Rattle.craig_spec.specs.PartialInterpolant.{Label, A, AB, B, join_value}
use Rattle.craig_spec.proofs.LiteralLemmas.{literal_value-negation}
use Rattle.craig_spec.proofs.MemberLemmas.{Contains-one}
use Rattle.craig_aig.specs.Cones.{ChoiceConeWithin, ConeWithin}
use Rattle.craig_aig.specs.Growth.{ArenaGrows}
use Rattle.craig_aig.specs.Edges.{Edge}
use Rattle.craig_aig.specs.Values.{edge_value, ComputesChoice}
use Rattle.craig_aig.specs.declared.node.Node.{Node}
use Rattle.craig_system.specs.Building.{IsLiteral, IsMore}
use Rattle.craig_system.specs.Rules.{IsChoice, IsJoin}
use Rattle.craig_aig.proofs.GrowthLemmas.{value-ArenaGrows, cone-ArenaGrows}

choice_value : (pivot left right : Bool) → ((left || pivot) && (right || not pivot)) ≡ cond pivot right left
choice_value true true true = refl
choice_value true true false = refl
choice_value true false true = refl
choice_value true false false = refl
choice_value false true true = refl
choice_value false true false = refl
choice_value false false true = refl
choice_value false false false = refl

-- the conjunction of the two disjunctions
pub IsChoice-and : (pivot : Literal) (old a b new : List Node) (left right first second e : Edge) → ArenaGrows old a → ArenaGrows a b → left.place < length old → right.place < length old → first.place < length a →
    IsMore pivot old left a first → IsMore (negation pivot) a right b second → ((s : Assignment) → edge_value s new e ≡ (edge_value s b first && edge_value s b second)) → ConeWithin b first second new e →
    IsChoice pivot old left right new e
IsChoice-and pivot old a b new left right first second e one two left_in right_in first_in is_first is_second value inputs = record {
  value = λ s.
      let p : Bool = literal_value s pivot in
      let f : edge_value s b first ≡ (edge_value s old left || p) = value-ArenaGrows s a b first two first_in ∙ is_first.value s in
      let g : edge_value s b second ≡ (edge_value s old right || not p) =
      is_second.value s ∙ ap (λ v. v || literal_value s (negation pivot)) (value-ArenaGrows s old a right one right_in) ∙ ap (λ v. edge_value s old right || v) (literal_value-negation s pivot) in
      value s ∙ ap (λ v. v && edge_value s b second) f ∙ ap (λ v. (edge_value s old left || p) && v) g ∙ choice_value p (edge_value s old left) (edge_value s old right);
  inputs = λ x reached.
      elim (inputs x reached) [
        | inl h ↦ elim (is_first.inputs x (subst (λ (k : List ℕ). Contains k x) (cone-ArenaGrows a b first two first_in) h)) [ inl l ↦ inl l | inr v ↦ inr (inr v) ]
        | inr h ↦ elim (is_second.inputs x h) [ inl r ↦ inr (inl (subst (λ (k : List ℕ). Contains k x) (cone-ArenaGrows old a right one right_in) r)) | inr v ↦ inr (inr v) ]
      ];
}

-- the choice that the arena makes by the edge of the pivot
pub IsChoice-mux : (pivot : Literal) (old a new : List Node) (left right literal e : Edge) → ArenaGrows old a → left.place < length old → right.place < length old → IsLiteral pivot a literal →
    ComputesChoice a literal right left new e → ChoiceConeWithin a literal right left new e → IsChoice pivot old left right new e
IsChoice-mux pivot old a new left right literal e grows left_in right_in is_literal value inputs = record {
  value = λ s.
      value s ∙ ap (λ p. cond p (edge_value s a right) (edge_value s a left)) (is_literal.value s)
      ∙ ap (λ v. cond (literal_value s pivot) v (edge_value s a left)) (value-ArenaGrows s old a right grows right_in)
      ∙ ap (λ v. cond (literal_value s pivot) (edge_value s old right) v) (value-ArenaGrows s old a left grows left_in);
  inputs = λ x reached.
      elim (inputs x reached) [
        | inl p ↦ inr (inr (sym (Contains-one pivot.var x (subst (λ (k : List ℕ). Contains k x) is_literal.inputs p))))
        | inr m ↦ elim m [
          | inl r ↦ inr (inl (subst (λ (k : List ℕ). Contains k x) (cone-ArenaGrows old a right grows right_in) r))
          | inr l ↦ inl (subst (λ (k : List ℕ). Contains k x) (cone-ArenaGrows old a left grows left_in) l)
        ]
      ];
}

join_value-AB : (pivot left right : Bool) → cond pivot right left ≡ join_value AB pivot left right
join_value-AB true left true = refl
join_value-AB true left false = refl
join_value-AB false true right = refl
join_value-AB false false right = refl

-- what the label of the pivot says
pub IsJoin-or : (label : ℕ → Label) (pivot : Literal) (old new : List Node) (left right e : Edge) → A ≡ label pivot.var →
    ((s : Assignment) → edge_value s new e ≡ (edge_value s old left || edge_value s old right)) → ConeWithin old left right new e → IsJoin label pivot old left right new e
IsJoin-or label pivot old new left right e is value inputs = record {
  value = λ s. value s ∙ ap (λ k. join_value k (literal_value s pivot) (edge_value s old left) (edge_value s old right)) is;
  inputs = λ x reached. elim (inputs x reached) [ inl l ↦ inl l | inr r ↦ inr (inl r) ];
}

pub IsJoin-and : (label : ℕ → Label) (pivot : Literal) (old new : List Node) (left right e : Edge) → B ≡ label pivot.var →
    ((s : Assignment) → edge_value s new e ≡ (edge_value s old left && edge_value s old right)) → ConeWithin old left right new e → IsJoin label pivot old left right new e
IsJoin-and label pivot old new left right e is value inputs = record {
  value = λ s. value s ∙ ap (λ k. join_value k (literal_value s pivot) (edge_value s old left) (edge_value s old right)) is;
  inputs = λ x reached. elim (inputs x reached) [ inl l ↦ inl l | inr r ↦ inr (inl r) ];
}

pub IsJoin-choice : (label : ℕ → Label) (pivot : Literal) (old new : List Node) (left right e : Edge) → AB ≡ label pivot.var → IsChoice pivot old left right new e → IsJoin label pivot old left right new e
IsJoin-choice label pivot old new left right e is h = record {
  value = λ s.
      h.value s ∙ join_value-AB (literal_value s pivot) (edge_value s old left) (edge_value s old right)
      ∙ ap (λ k. join_value k (literal_value s pivot) (edge_value s old left) (edge_value s old right)) is;
  inputs = λ x reached.
      elim (h.inputs x reached) [
        | inl l ↦ inl l
        | inr m ↦ elim m [ inl r ↦ inr (inl r) | inr v ↦ inr (inr (v, ap label v ∙ sym is)) ]
      ];
}
