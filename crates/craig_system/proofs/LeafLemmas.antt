-- Disjunctions of the literals of a clause that have a label, literal by literal.
use Rattle.std.proofs.Common.{◌≡◌, ℕ, ◌+◌, ◌<◌, Bool, true, false, not, cond, eqb, ◌||◌, ◌&&◌, List, [], ◌∷◌, ◌++◌, length, get_or, take, Contains, inl, inr, refl, sym, ap, ◌∙◌, subst, append-nil, eq-eqb}
use denote.Enum.Bare.{sameb}
use Rattle.std.proofs.Math.Bool.{or-true, or-false}
use Rattle.std.specs.List.{filter, list_any, list_all}
use Rattle.std.proofs.lemmas.List.{take_more}
use Rattle.std.proofs.lemmas.List.Elements.{filter-append}
use Rattle.std.proofs.lemmas.List.Folds.{list_any-append}
use Rattle.craig_spec.specs.Literal.{Literal, Clause}
use Rattle.craig_spec.specs.Occurs.{occurs_in_clause}
use Rattle.craig_spec.specs.Truth.{Assignment, clause_value, literal_value}
use Rattle.craig_spec.specs.PartialInterpolant.{Label, A, AB, B, is_a}
use Rattle.craig_label.specs.Marks.{label_of}
use Rattle.craig_label.specs.contracts.mark.Mark.{the_type}
use Rattle.craig_label.specs.declared.mark.Mark.{Mark}
use Rattle.craig_label.specs.declared.mark.Mark.TheVariants as marks
use Rattle.craig_aig.specs.Cones.{cone}
use Rattle.craig_aig.specs.Edges.{Edge}
use Rattle.craig_aig.specs.Values.{edge_value}
use Rattle.craig_aig.specs.declared.node.Node.{Node}
use Rattle.craig_system.specs.Building.{is_label, IsMore, IsAny}
use Rattle.craig_system.specs.Rules.{IsLeafB}

is_label-equal : (wanted label : Label) → is_label wanted label ≡ true → label ≡ wanted
is_label-equal A A h = refl
is_label-equal A AB h = cc
is_label-equal A B h = cc
is_label-equal AB A h = cc
is_label-equal AB AB h = refl
is_label-equal AB B h = cc
is_label-equal B A h = cc
is_label-equal B AB h = cc
is_label-equal B B h = refl

filter-push : {X : Type 0} (p : X → Bool) (xs : List X) (y : X) (b : Bool) → p y ≡ b → filter p (xs ++ y ∷ []) ≡ filter p xs ++ cond b (y ∷ []) []
filter-push p xs y b h = filter-append p xs (y ∷ []) ∙ ap (λ (t : Bool). filter p xs ++ cond t (y ∷ []) []) h

occurs-before : (x : ℕ) (c : Clause) (l : Literal) → occurs_in_clause x c ≡ true → occurs_in_clause x (c ++ l ∷ []) ≡ true
occurs-before x c l h = list_any-append (λ (k : Literal). eqb x k.var) c (l ∷ []) ∙ ap (λ b. b || (eqb x l.var || false)) h

occurs-last : (x : ℕ) (c : Clause) (l : Literal) → x ≡ l.var → occurs_in_clause x (c ++ l ∷ []) ≡ true
occurs-last x c l h =
    list_any-append (λ (k : Literal). eqb x k.var) c (l ∷ []) ∙ ap (λ b. occurs_in_clause x c || (b || false)) (eq-eqb x l.var h) ∙ or-true (occurs_in_clause x c)

-- a literal with another label
IsAny-push_other : (label : ℕ → Label) (wanted : Label) (c : Clause) (l : Literal) (nodes : List Node) (e : Edge) → is_label wanted (label l.var) ≡ false →
    IsAny label wanted c nodes e → IsAny label wanted (c ++ l ∷ []) nodes e
IsAny-push_other label wanted c l nodes e other h = record {
  value = λ s. h.value s ∙ ap (clause_value s) (sym (filter-push (λ (k : Literal). is_label wanted (label k.var)) c l false other ∙ append-nil _));
  inputs = λ x reached. (occurs-before x c l (h.inputs x reached).0, (h.inputs x reached).1);
}

-- a literal with the label
IsAny-push : (label : ℕ → Label) (wanted : Label) (c : Clause) (l : Literal) (old : List Node) (before : Edge) (new : List Node) (e : Edge) → is_label wanted (label l.var) ≡ true →
    IsAny label wanted c old before → IsMore l old before new e → IsAny label wanted (c ++ l ∷ []) new e
IsAny-push label wanted c l old before new e here h more = record {
  value = λ s.
      let test : Literal → Bool = λ k. is_label wanted (label k.var) in
      let all : clause_value s (filter test (c ++ l ∷ [])) ≡ (clause_value s (filter test c) || literal_value s l) =
      ap (clause_value s) (filter-push test c l true here) ∙ list_any-append (literal_value s) (filter test c) (l ∷ []) ∙ ap (λ b. clause_value s (filter test c) || b) (or-false (literal_value s l)) in
      more.value s ∙ ap (λ v. v || literal_value s l) (h.value s) ∙ sym all;
  inputs = λ x reached.
      elim (more.inputs x reached) [
        | inl p ↦ (occurs-before x c l (h.inputs x p).0, (h.inputs x p).1)
        | inr q ↦ (occurs-last x c l q, ap label q ∙ is_label-equal wanted (label l.var) here)
      ];
}

-- the next literal of the clause
next : (c : Clause) (i : ℕ) (l : Literal) → i < length c → l ≡ get_or c i l → take (i + 1) c ≡ take i c ++ l ∷ []
next c i l within is = take_more c i l within ∙ ap (λ (k : Literal). take i c ++ k ∷ []) (sym is)

pub IsAny-more_other : (label : ℕ → Label) (wanted : Label) (c : Clause) (i : ℕ) (l : Literal) (nodes : List Node) (e : Edge) → i < length c → l ≡ get_or c i l →
    is_label wanted (label l.var) ≡ false → IsAny label wanted (take i c) nodes e → IsAny label wanted (take (i + 1) c) nodes e
IsAny-more_other label wanted c i l nodes e within is other h =
    subst (λ (d : Clause). IsAny label wanted d nodes e) (sym (next c i l within is)) (IsAny-push_other label wanted (take i c) l nodes e other h)

pub IsAny-more : (label : ℕ → Label) (wanted : Label) (c : Clause) (i : ℕ) (l : Literal) (old : List Node) (before : Edge) (new : List Node) (e : Edge) → i < length c → l ≡ get_or c i l →
    is_label wanted (label l.var) ≡ true → IsAny label wanted (take i c) old before → IsMore l old before new e → IsAny label wanted (take (i + 1) c) new e
IsAny-more label wanted c i l old before new e within is here h more =
    subst (λ (d : Clause). IsAny label wanted d new e) (sym (next c i l within is)) (IsAny-push label wanted (take i c) l old before new e here h more)

sameb-labels : (m wanted : Mark) → sameb the_type m wanted ≡ is_label (label_of wanted) (label_of m)
sameb-labels marks.A marks.A = refl
sameb-labels marks.A marks.Ab = refl
sameb-labels marks.A marks.B = refl
sameb-labels marks.Ab marks.A = refl
sameb-labels marks.Ab marks.Ab = refl
sameb-labels marks.Ab marks.B = refl
sameb-labels marks.B marks.A = refl
sameb-labels marks.B marks.Ab = refl
sameb-labels marks.B marks.B = refl

-- marks are compared as their labels are
pub is_label-marks : (m wanted : Mark) (label : Label) (same b : Bool) → label_of m ≡ label → same ≡ sameb the_type m wanted → same ≡ b → is_label (label_of wanted) label ≡ b
is_label-marks m wanted label same b is compared known = ap (is_label (label_of wanted)) (sym is) ∙ sym (sameb-labels m wanted) ∙ sym compared ∙ known

not_or : (a b : Bool) → not (a || b) ≡ (not a && not b)
not_or true b = refl
not_or false b = refl

not_any : {X : Type 0} (p : X → Bool) (xs : List X) → not (list_any p xs) ≡ list_all (λ x. not (p x)) xs
not_any p [] = refl
not_any p (x ∷ xs) = not_or (p x) (list_any p xs) ∙ ap (λ b. not (p x) && b) (not_any p xs)

-- the negation of the disjunction of the literals that are labelled A
pub IsLeafB-negation : (label : ℕ → Label) (c : Clause) (nodes : List Node) (some e : Edge) → IsAny label A c nodes some →
    ((s : Assignment) → edge_value s nodes e ≡ not (edge_value s nodes some)) → cone nodes e ≡ cone nodes some → IsLeafB label c nodes e
IsLeafB-negation label c nodes some e h value inputs = record {
  value = λ s. value s ∙ ap not (h.value s) ∙ not_any (literal_value s) (filter (λ (l : Literal). is_a (label l.var)) c);
  inputs = λ x reached. h.inputs x (subst (λ (k : List ℕ). Contains k x) inputs reached);
}
