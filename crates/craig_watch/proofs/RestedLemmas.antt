-- The tables of the literals that are assigned, after a variable got another reason.
use Rattle.std.proofs.Common.{◌≡◌, inl, inr, ℕ, ◌<◌, ◌≤◌, Bool, cond, List, [], ◌∷◌, length, get_or, set, Some, refl, sym, ap, subst, ◌∙◌, arith, eq-eqb, ne_eqb}
use Rattle.std.proofs.lemmas.Bool.{cases_eq}
use Rattle.std.proofs.lemmas.List.{length-set, get_or-set_same, get_or-set_other}
use Rattle.craig_spec.specs.Literal.{Literal}
use Rattle.craig_base.specs.declared.clause_id.ClauseId.{ClauseId}
use Rattle.craig_watch.specs.declared.assignment.Assignment.{Assignment}
use Rattle.craig_watch.specs.declared.value.Value.{Value}
use Rattle.craig_watch.specs.Trail.{Trail, decisions, rested, value_under, with_reason}
use Rattle.craig_watch.specs.Assigned.{AreValues, AssignedView, IsTrail}
use Rattle.craig_watch.specs.HeldFields.{any_assignment, entry_in, entry_with, trail_of}
use Rattle.craig_watch.proofs.AssignedLemmas.{AreFields}
use Rattle.craig_watch.proofs.ReasonLemmas.{AreDistinct-rested, AreLevels-rested, each-rested, value_under-rested}

-- what is shown of the literals that are assigned
abbrev view_of : ℕ → Trail → AssignedView
view_of vars t = record { vars = vars; trail = t }

-- one assignment has another reason
abbrev pub with_reason_of : Assignment → ClauseId → Assignment
with_reason_of a id = record { place = a.place; level = a.level; reason = Some id }

module _ (assignments : List Assignment) (v : ℕ) (id : ClauseId) (r : Assignment) (is : r ≡ get_or assignments v any_assignment) (known : v < length assignments) where
  entry-at : (l : Literal) → entry_in (set assignments v (with_reason_of r id)) l ≡ rested v id (entry_in assignments l)
  entry-at l = elim (cases_eq l.var v) [
    | inl same ↦
        ap (λ (n : ℕ). entry_with l (get_or (set assignments v (with_reason_of r id)) n any_assignment)) same
        ∙ ap (entry_with l) (get_or-set_same assignments v (with_reason_of r id) any_assignment known)
        ∙ ap (λ (a : Assignment). entry_with l (with_reason_of a id)) (is ∙ ap (λ (n : ℕ). get_or assignments n any_assignment) (sym same))
        ∙ ap (λ (b : Bool). record { literal = l; level = (get_or assignments l.var any_assignment).level; reason = cond b (Some id) (get_or assignments l.var any_assignment).reason }) (sym (eq-eqb l.var v same))
    | inr other ↦
        ap (entry_with l) (get_or-set_other assignments v l.var (with_reason_of r id) any_assignment other)
        ∙ ap (λ (b : Bool). record { literal = l; level = (get_or assignments l.var any_assignment).level; reason = cond b (Some id) (get_or assignments l.var any_assignment).reason }) (sym (ne_eqb l.var v other))
  ]

  pub trail_of-rested : (lits : List Literal) → trail_of lits (set assignments v (with_reason_of r id)) ≡ with_reason v id (trail_of lits assignments)
  trail_of-rested [] = refl
  trail_of-rested (l ∷ lits) = λ i. entry-at l i ∷ trail_of-rested lits i

  place-at : (w : ℕ) → (get_or (set assignments v (with_reason_of r id)) w any_assignment).place ≡ (get_or assignments w any_assignment).place
  place-at w = elim (cases_eq w v) [
    | inl same ↦
        ap (λ (n : ℕ). (get_or (set assignments v (with_reason_of r id)) n any_assignment).place) same
        ∙ ap (λ (a : Assignment). a.place) (get_or-set_same assignments v (with_reason_of r id) any_assignment known)
        ∙ ap (λ (a : Assignment). a.place) is
        ∙ ap (λ (n : ℕ). (get_or assignments n any_assignment).place) (sym same)
    | inr other ↦ ap (λ (a : Assignment). a.place) (get_or-set_other assignments v w (with_reason_of r id) any_assignment other)
  ]

  pub Fields-rested : (lits : List Literal) (values : List Value) (room : ℕ) → AreFields lits assignments values room → decisions (trail_of lits assignments) ≡ 0 → AreFields lits (set assignments v (with_reason_of r id)) values room
  Fields-rested lits values room was none =
      let t : Trail = trail_of lits assignments in
      let u : Trail = trail_of lits (set assignments v (with_reason_of r id)) in
      let is_u : u ≡ with_reason v id t = trail_of-rested lits in
      let long : length (set assignments v (with_reason_of r id)) ≡ length assignments = length-set assignments v (with_reason_of r id) in
      let few : length assignments ≤ room = was.stored.fits in
      let trail : IsTrail (length assignments) (with_reason v id t) = record {
        few = was.trail.few;
        known = each-rested (λ w. w < length assignments) v id t was.trail.known;
        distinct = AreDistinct-rested v id t was.trail.distinct;
        levels = AreLevels-rested v id t none was.trail.levels;
      } in
      record {
        stored = record {
          placed = λ k d within. place-at (get_or lits k d).var ∙ was.stored.placed k d within;
          fits = omega arith;
        };
        values_right = subst (λ (n : ℕ). AreValues values n u) (sym long) (record {
          sized = was.values_right.sized;
          at = λ l d within. was.values_right.at l d within ∙ sym (ap (λ (w : Trail). value_under w l) is_u ∙ value_under-rested v id t l);
        });
        trail = subst (λ (n : ℕ). IsTrail n u) (sym long) (subst (IsTrail (length assignments)) (sym is_u) trail);
      }

  pub view-rested : (lits : List Literal) → view_of (length (set assignments v (with_reason_of r id))) (trail_of lits (set assignments v (with_reason_of r id))) ≡ view_of (length assignments) (with_reason v id (trail_of lits assignments))
  view-rested lits = λ i. record { vars = length-set assignments v (with_reason_of r id) i; trail = trail_of-rested lits i }
