-- The assignment that a trail is, once every variable of the clauses has a value.
use Rattle.std.proofs.Common.{◌≡◌, ◌≢◌, inl, inr, ℕ, suc, ◌<◌, Bool, true, false, cond, not, eqb, [], ◌∷◌, length, get_or, map, Contains, Some, None, refl, sym, ap, ◌∙◌, arith, eqb-true, eq-eqb, ne_eqb}
use Rattle.std.specs.List.{filter}
use Rattle.std.proofs.lemmas.Bool.{eqb-false}
use Rattle.craig_spec.specs.Literal.{Literal, Clause}
use Rattle.craig_spec.specs.Truth.{Assignment, IsModel, variable_value, literal_value, clause_value}
use Rattle.craig_spec.proofs.ClauseLemmas.{clause_value-member}
use Rattle.craig_base.specs.Arena.{ArenaView, IsArena, clauses_of, literals_of}
use Rattle.craig_watch.specs.declared.trail_entry.TrailEntry.{TrailEntry}
use Rattle.craig_watch.specs.declared.value.Value.TheVariants.{True, Free}
use Rattle.craig_watch.specs.Trail.{Trail, entry_of, value_under, AreDistinct, assignment_of}
use Rattle.craig_watch.specs.Held.{held_clause, IsSettled, IsComplete}
use Rattle.craig_watch.proofs.PlacesLemmas.{entry-true}
use Rattle.craig_spec.proofs.LiteralLemmas.{signs}

-- a variable of no entry is not in the assignment
absent-step : (b : Bool) (e : TrailEntry) (t : Trail) (v : ℕ) → eqb v e.literal.var ≡ false → variable_value (assignment_of t) v ≡ false → variable_value (map (λ f. f.literal.var) (cond b (e ∷ filter (λ f. not f.literal.negated) t) (filter (λ f. not f.literal.negated) t))) v ≡ false
absent-step true e t v ne rest = rw ne rest
absent-step false e t v ne rest = rest

variable_value-absent : (t : Trail) (v : ℕ) → ((k : ℕ) (d : TrailEntry) → k < length t → (get_or t k d).literal.var ≢ v) → variable_value (assignment_of t) v ≡ false
variable_value-absent [] v apart = refl
variable_value-absent (e ∷ t) v apart =
    absent-step (not e.literal.negated) e t v (ne_eqb v e.literal.var (λ same. apart 0 e (omega arith) (sym same))) (variable_value-absent t v (λ k d w. apart (suc k) d (omega arith)))

-- the variable of an entry is in it exactly where the literal is positive
first-step : (b : Bool) (e : TrailEntry) (t : Trail) (v : ℕ) → e.literal.negated ≡ b → e.literal.var ≡ v → variable_value (assignment_of t) v ≡ false → variable_value (map (λ f. f.literal.var) (cond (not b) (e ∷ filter (λ f. not f.literal.negated) t) (filter (λ f. not f.literal.negated) t))) v ≡ not b
first-step true e t v sign is rest = rest
first-step false e t v sign is rest = rw (eq-eqb v e.literal.var (sym is)) refl

later-step : (b : Bool) (e : TrailEntry) (t : Trail) (v : ℕ) (value : Bool) → eqb v e.literal.var ≡ false → variable_value (assignment_of t) v ≡ value → variable_value (map (λ f. f.literal.var) (cond b (e ∷ filter (λ f. not f.literal.negated) t) (filter (λ f. not f.literal.negated) t))) v ≡ value
later-step true e t v value ne rest = rw ne rest
later-step false e t v value ne rest = rest

found-step : (b : Bool) (f : TrailEntry) (t : Trail) (v : ℕ) (e : TrailEntry) → AreDistinct (f ∷ t) → eqb f.literal.var v ≡ b → cond b (Some f) (entry_of t v) ≡ Some e → (entry_of t v ≡ Some e → variable_value (assignment_of t) v ≡ not e.literal.negated) → variable_value (assignment_of (f ∷ t)) v ≡ not e.literal.negated
found-step true f t v e apart is found later =
    let same : f ≡ e = cc in
    let var : f.literal.var ≡ v = eqb-true f.literal.var v is in
    first-step f.literal.negated f t v refl var (variable_value-absent t v (λ k d w at. apart 0 (suc k) d (omega arith) (omega arith) (var ∙ sym at))) ∙ ap (λ (g : TrailEntry). not g.literal.negated) same
found-step false f t v e apart is found later =
    later-step (not f.literal.negated) f t v (not e.literal.negated) (ne_eqb v f.literal.var (λ same. eqb-false f.literal.var v is (sym same))) (later found)

variable_value-found : (t : Trail) (v : ℕ) (e : TrailEntry) → AreDistinct t → entry_of t v ≡ Some e → variable_value (assignment_of t) v ≡ not e.literal.negated
variable_value-found [] v e apart found = absurd (let no : None ≡ Some e = found in cc)
variable_value-found (f ∷ t) v e apart found =
    found-step (eqb f.literal.var v) f t v e apart refl found (variable_value-found t v e (λ i j d before within. apart (suc i) (suc j) d (omega arith) (omega arith)))

-- a literal that is true under the trail is true under the assignment
pub literal_value-true : (t : Trail) (l : Literal) → AreDistinct t → value_under t l ≡ True → literal_value (assignment_of t) l ≡ true
literal_value-true t l apart is =
    let e = entry-true t l is in
    signs l.negated (variable_value (assignment_of t) l.var) (variable_value-found t l.var e.0 apart e.1 ∙ ap (λ (m : Literal). not m.negated) e.2)

settled-true : (t : Trail) (c : Clause) → AreDistinct t → IsSettled t c → ((l : Literal) → Contains c l → value_under t l ≢ Free) → clause_value (assignment_of t) c ≡ true
settled-true t c apart (inl (l, has, is)) assigned = clause_value-member (assignment_of t) c l has (literal_value-true t l apart is)
settled-true t c apart (inr (l, m, has_l, has_m, differ, free_l, free_m)) assigned = absurd (assigned l has_l free_l)

-- so it is a model of the held clauses once propagation is complete and each of their variables has a value
pub IsModel-complete : ((a : ArenaView) (s : Assignment) → IsArena a → ((id : ℕ) (c : Clause) → literals_of a id ≡ Some c → clause_value s c ≡ true) → IsModel s (clauses_of a)) → (a : ArenaView) (t : Trail) → IsArena a → AreDistinct t → IsComplete a t → ((id : ℕ) (c : Clause) (l : Literal) → held_clause a id ≡ Some c → Contains c l → value_under t l ≢ Free) → IsModel (assignment_of t) (clauses_of a)
IsModel-complete model_from_found a t arena apart complete assigned =
    model_from_found a (assignment_of t) arena (λ id c held. settled-true t c apart (complete id c held) (λ l. assigned id c l held))
