-- The order after a model was read.
use Rattle.std.proofs.Common.{◌≡◌, ℕ, ◌<◌, true, List, length, get_or, map, All, Option, Some, None, refl, ap, sym, subst, ◌∙◌}
use Rattle.std.specs.Option.{is_some}
use Rattle.std.proofs.lemmas.List.{get_or-map, length-map}
use Rattle.std.proofs.lemmas.List.Elements.{All-map, All-same}
use Rattle.craig_spec.specs.Literal.{Literal}
use Rattle.craig_watch.specs.declared.trail_entry.TrailEntry.{TrailEntry}
use Rattle.craig_watch.specs.Held.{HeldView, IsConsistent}
use Rattle.craig_watch.specs.Trail.{Trail, IsAssigned, entry_of}
use Rattle.craig_order.specs.Order.{OrderView, is_given_back}
use Rattle.craig_search.specs.Leaves.{IsReady}
use Rattle.craig_solver.proofs.ValueLemmas.{HasPlaces}

-- the variables on the trail are known
pub known-literals : (h : HeldView) (xs : List Literal) (n : ℕ) → IsConsistent h → xs ≡ map (λ e. e.literal) h.trail → n ≡ h.vars → All (λ (l : Literal). l.var < n) xs
known-literals h xs n ok is same =
    All-same (λ (l : Literal). l.var < n) xs (map (λ (e : TrailEntry). e.literal) h.trail) is (All-map (λ (l : Literal). l.var < n) (λ (e : TrailEntry). e.literal) h.trail (subst (λ (m : ℕ). All (λ (e : TrailEntry). e.literal.var < m) h.trail) (sym same) ok.known))

entry-found : (o : Option TrailEntry) → is_some o ≡ true → (e : TrailEntry) × (o ≡ Some e)
entry-found None h = absurd (cc)
entry-found (Some e) h = (e, refl)

given-assigned : HasPlaces → (t : Trail) (xs : List Literal) (o : OrderView) → xs ≡ map (λ e. e.literal) t → All (λ (l : Literal). is_given_back o l.var ≡ true) xs → (v : ℕ) → IsAssigned t v → is_given_back o v ≡ true
given-assigned places t xs o is given v assigned =
    let e = entry-found (entry_of t v) assigned in
    let p = places t v e.0 e.1 in
    let size : length xs ≡ length t = ap (λ (ys : List Literal). length ys) is ∙ length-map t (λ (f : TrailEntry). f.literal) in
    let here = given p.0 e.0.literal (subst (λ (n : ℕ). p.0 < n) (sym size) p.1) in
    let at : get_or xs p.0 e.0.literal ≡ e.0.literal = ap (λ (ys : List Literal). get_or ys p.0 e.0.literal) is ∙ get_or-map (λ (f : TrailEntry). f.literal) t p.0 e.0 e.0.literal p.1 ∙ ap (λ (f : TrailEntry). f.literal) (p.3 e.0) in
    subst (λ (w : ℕ). is_given_back o w ≡ true) (ap (λ (l : Literal). l.var) at ∙ p.2) here

-- where all variables were on the trail and were given back, every free one is
pub IsReady-given : HasPlaces → (h n : HeldView) (xs : List Literal) (o p : OrderView) → n.vars ≡ h.vars → xs ≡ map (λ e. e.literal) h.trail → ((v : ℕ) → v < h.vars → IsAssigned h.trail v) → length o.given_back ≡ h.vars → length p.given_back ≡ length o.given_back → All (λ (l : Literal). is_given_back p l.var ≡ true) xs → IsReady n p
IsReady-given places h n xs o p vars is assigned known same given = record {
  known = same ∙ known ∙ sym vars;
  given_back = λ v free. given-assigned places h.trail xs p is given v (assigned v (subst (λ (m : ℕ). v < m) vars free.0));
}
