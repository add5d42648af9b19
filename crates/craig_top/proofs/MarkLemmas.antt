-- The labels of variables by their marks.
use Rattle.std.proofs.Common.{◌≡◌, ◌≢◌, ◌∙◌, sym, ap, subst, refl, ℕ, ◌+◌, ◌<◌, ◌≤◌, cond, nat_eq, List, [], ◌∷◌, ◌++◌, length, take, get_or, slice_get, slice_index, Contains, Option, None, Some, eq-eqb, take_all, inl, inr}
use Rattle.std.specs.Option.{IsNone}
use Rattle.std.proofs.lemmas.Bool.{cases_eq, ne_eqb}
use Rattle.std.proofs.lemmas.List.{map-append, take_more}
use Rattle.std.proofs.lemmas.List.Elements.{Contains-get_or}
use Rattle.std.proofs.lemmas.Option.{get_or_from_slice_get}
use Rattle.craig_spec.specs.PartialInterpolant.{Label, AB}
use Rattle.craig_label.specs.Marks.{label_of}
use Rattle.craig_label.specs.declared.mark.Mark.{Mark}
use Rattle.craig_base.specs.declared.variable.Var.{Var}
use Rattle.craig_system.specs.Marking.{labels_in, with_label}
use Rattle.craig_top.specs.Named.{AreDifferent}
use Rattle.craig_top.specs.Stored.{labels}
use Rattle.craig_top.specs.WrittenOutputs.{HasMarks}
use Rattle.craig_top.specs.WrittenSystems.{label_after, label_of_mark}
use Rattle.craig_spec.proofs.MemberLemmas.{slice_get-below}

-- the last mark counts
pub own_label : (before : Label) (marks : List (ℕ × Label)) (x : ℕ) (label : Label) → label_after before (marks ++ (x, label) ∷ []) x ≡ label
own_label before [] x label = rw (eq-eqb x x refl) refl
own_label before (mark ∷ marks) x label = own_label (cond (nat_eq x mark.0) mark.1 before) marks x label

-- and changes the label of no other variable
pub other_label : (before : Label) (marks : List (ℕ × Label)) (x : ℕ) (label : Label) (y : ℕ) → y ≢ x → label_after before (marks ++ (x, label) ∷ []) y ≡ label_after before marks y
other_label before [] x label y other = rw (ne_eqb y x other) refl
other_label before (mark ∷ marks) x label y other = other_label (cond (nat_eq y mark.0) mark.1 before) marks x label y other

-- ---- the marks of dense variables

-- one mark more at the end
pub labels-more : (marks : List (ℕ × Mark)) (i : ℕ) (mark : ℕ × Mark) → i < length marks → labels (take (i + 1) marks) ≡ labels (take i marks) ++ ((get_or marks i mark).0, label_of (get_or marks i mark).1) ∷ []
labels-more marks i mark within =
    ap labels (take_more marks i mark within) ∙ map-append (λ (m : ℕ × Mark). (m.0, label_of m.1)) (take i marks) (get_or marks i mark ∷ [])

module _ (names : List ℕ) (marks : List (ℕ × Label)) (label : ℕ → Label) (has : HasMarks names marks label) (name : ℕ) (mark : Label) where
  -- a mark of a name
  found_label : AreDifferent names → (v x : ℕ) → slice_get names v ≡ Some name → x < length names → cond (nat_eq v x) mark (label x) ≡ label_of_mark (marks ++ (name, mark) ∷ []) (slice_index names x)
  found_label different v x at below =
      let name_is : slice_index names v ≡ name = get_or_from_slice_get names v name 0 at in
      let inside : v < length names = slice_get-below names v name at in
      elim (cases_eq x v) [
        | inl same ↦ rw (eq-eqb v x (sym same)) (sym (ap (λ n. label_of_mark (marks ++ (name, mark) ∷ []) n) (ap (slice_index names) same ∙ name_is) ∙ own_label AB marks name mark))
        | inr other ↦ (
            let apart : slice_index names x ≢ name = λ e. other (different x v below inside (e ∙ sym name_is)) in
            rw (ne_eqb v x (λ e. other (sym e))) (has x below ∙ sym (other_label AB marks name mark (slice_index names x) apart)))
      ]

  pub HasMarks-found : AreDifferent names → (v : ℕ) (later : ℕ → Label) → slice_get names v ≡ Some name → later ≡ with_label label v mark → HasMarks names (marks ++ (name, mark) ∷ []) later
  HasMarks-found different v later at set x below = ap (λ (f : ℕ → Label). f x) set ∙ found_label different v x at below

  -- a mark of a name that no variable has
  pub HasMarks-none : ¬ Contains names name → HasMarks names (marks ++ (name, mark) ∷ []) label
  HasMarks-none absent x below =
      has x below ∙ sym (other_label AB marks name mark (slice_index names x) (λ e. absent (subst (λ n. Contains names n) e (Contains-get_or names x 0 below))))

-- without a mark each label is AB
pub HasMarks-new : (names : List ℕ) (entries : List (Var × Mark)) → entries ≡ [] → HasMarks names [] (labels_in entries)
HasMarks-new names entries none x below = ap (λ es. labels_in es x) none

-- one more mark of a list
module _ (names : List ℕ) (marks : List (ℕ × Mark)) (i : ℕ) (d : ℕ × Mark) (label : ℕ → Label) (within : i < length marks) (has : HasMarks names (labels (take i marks)) label) where
  one_more : (later : ℕ → Label) → HasMarks names (labels (take i marks) ++ ((get_or marks i d).0, label_of (get_or marks i d).1) ∷ []) later → HasMarks names (labels (take (i + 1) marks)) later
  one_more later more = subst (λ ms. HasMarks names ms later) (sym (labels-more marks i d within)) more

  pub HasMarks-more : AreDifferent names → (v : ℕ) (later : ℕ → Label) → slice_get names v ≡ Some (get_or marks i d).0 → later ≡ with_label label v (label_of (get_or marks i d).1) → HasMarks names (labels (take (i + 1) marks)) later
  HasMarks-more different v later at set =
      one_more later (HasMarks-found names (labels (take i marks)) label has (get_or marks i d).0 (label_of (get_or marks i d).1) different v later at set)

  pub HasMarks-passed : (o : Option Var) → (IsNone o → ¬ Contains names (get_or marks i d).0) → o ≡ None → HasMarks names (labels (take (i + 1) marks)) label
  HasMarks-passed o absent none =
      one_more label (HasMarks-none names (labels (take i marks)) label has (get_or marks i d).0 (label_of (get_or marks i d).1) (absent (subst IsNone (sym none) refl)))

-- all marks of a list
pub HasMarks-all : (names : List ℕ) (marks : List (ℕ × Mark)) (i : ℕ) (label : ℕ → Label) → length marks ≤ i → HasMarks names (labels (take i marks)) label → HasMarks names (labels marks) label
HasMarks-all names marks i label done has = subst (λ ms. HasMarks names (labels ms) label) (take_all i marks done) has
