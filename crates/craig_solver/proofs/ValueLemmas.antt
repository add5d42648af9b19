-- The values that are read from a trail.
use Rattle.std.proofs.Common.{◌≡◌, ℕ, ◌<◌, Bool, true, false, cond, not, List, length, get_or, Some, refl, ap, subst, ◌∙◌}
use Rattle.craig_spec.specs.Literal.{Literal}
use Rattle.craig_spec.specs.Truth.{variable_value}
use Rattle.craig_base.specs.Values.{assignment_of_values}
use Rattle.craig_watch.specs.declared.trail_entry.TrailEntry.{TrailEntry}
use Rattle.craig_watch.specs.declared.value.Value.{Value}
use Rattle.craig_watch.specs.declared.value.Value.TheVariants.{True, False, Free}
use Rattle.craig_watch.specs.Held.{HeldView, IsConsistent}
use Rattle.craig_watch.specs.Trail.{Trail, entry_of, value_under}
use Rattle.craig_solver.specs.Settling.{AreValuesOf}
use Rattle.craig_spec.proofs.LiteralLemmas.{signs}

-- whether the value is true
abbrev pub is_true : Value → Bool
is_true True = true
is_true False = false
is_true Free = false

beside-cases : (b : Bool) → is_true (cond b (cond false True False) (cond false False True)) ≡ not b
beside-cases true = refl
beside-cases false = refl

-- the value of a variable, where the literal is true
positive-value : (t : Trail) (l : Literal) (e : TrailEntry) → entry_of t l.var ≡ Some e → e.literal ≡ l → is_true (value_under t (record { var = l.var; negated = false })) ≡ not l.negated
positive-value t l e found same =
    rw found (beside-cases e.literal.negated ∙ ap (λ (m : Literal). not m.negated) same)

-- a list of values makes a variable true where its value is
abbrev pub ValuesAssign : Type 0
ValuesAssign = (values : List Bool) (x : ℕ) → variable_value (assignment_of_values values) x ≡ get_or values x false

-- a literal is true where it stands on the trail
abbrev pub TrueStands : Type 0
TrueStands = (t : Trail) (l : Literal) → value_under t l ≡ True → (e : TrailEntry) × (entry_of t l.var ≡ Some e) × (e.literal ≡ l)

-- the entry of a variable stands at a place
abbrev pub HasPlaces : Type 0
HasPlaces = (t : Trail) (v : ℕ) (e : TrailEntry) → entry_of t v ≡ Some e → (k : ℕ) × (k < length t) × (e.literal.var ≡ v) × ((d : TrailEntry) → get_or t k d ≡ e)

known-entry : HasPlaces → (h : HeldView) → IsConsistent h → (v : ℕ) (e : TrailEntry) → entry_of h.trail v ≡ Some e → v < h.vars
known-entry places h ok v e found =
    let p = places h.trail v e found in
    subst (λ (n : ℕ). n < h.vars) p.2 (subst (λ (f : TrailEntry). f.literal.var < h.vars) (p.3 e) (ok.known p.0 e p.1))

pub AreValuesOf-read : ValuesAssign → TrueStands → HasPlaces → (h : HeldView) (values : List Bool) → IsConsistent h → length values ≡ h.vars → ((v : ℕ) → v < h.vars → get_or values v false ≡ is_true (value_under h.trail (record { var = v; negated = false }))) → AreValuesOf h.vars h.trail values
AreValuesOf-read assign stands places h values ok many set = record {
  many = many;
  literals = λ l is.
      let e = stands h.trail l is in
      let low = known-entry places h ok l.var e.0 e.1 in
      signs l.negated (variable_value (assignment_of_values values) l.var) (assign values l.var ∙ set l.var low ∙ positive-value h.trail l e.0 e.1 e.2);
}
