-- A solver that was told nothing and holds nothing.
use Rattle.std.proofs.Common.{◌≡◌, ℕ, ◌<◌, false, [], Contains, Option, Some, None, subst, arith}
use Rattle.std.specs.Option.{ForSome}
use Rattle.craig_spec.specs.Literal.{Clause}
use Rattle.craig_spec.specs.Chain.{Told, ToldStep, nothing_told}
use Rattle.craig_watch.specs.Held.{HeldView, held_clause, nothing_held}
use Rattle.craig_solver.specs.State.{AreOriginals, AreUnitsOf, RestOnAccepted}

no-step : (t : Told) (s : ToldStep) → t ≡ nothing_told → Contains t.steps s → ⊥
no-step t s nothing here =
    let none : Contains nothing_told.steps s = subst (λ (u : Told). Contains u.steps s) nothing here in
    let low : none.0 < 0 = none.1 in
    omega (arith, low)

pub originals-nothing : (told : Option Told) → ForSome told (λ t. t ≡ nothing_told) → ForSome told (AreOriginals [] None 0)
originals-nothing told nothing t at s here original = absurd (no-step t s (nothing t at) here)

none-held : (h : HeldView) (id : ℕ) (c : Clause) → h ≡ nothing_held → held_clause h.arena id ≡ Some c → ⊥
none-held h id c is found = let none : None ≡ Some c = subst (λ (k : HeldView). held_clause k.arena id ≡ Some c) is found in cc

pub rests-nothing : (h : HeldView) (told : Option Told) → h ≡ nothing_held → ForSome told (λ t. t ≡ nothing_told) → ForSome told (RestOnAccepted [] h.arena)
rests-nothing h told is nothing t at = record {
  set = λ id. false;
  closed = λ s x here on named. absurd (no-step t s (nothing t at) here);
  held = λ id c found. absurd (none-held h id c is found);
  accepted_alone = λ s here on original. absurd (no-step t s (nothing t at) here);
}

pub units-nothing : (told : Option Told) (h : HeldView) → AreUnitsOf told h.arena None 0
units-nothing told h = record {
  room = λ r none. absurd (let no : None ≡ Some r = none in cc);
  each = λ x unit. absurd (let no : None ≡ Some unit.0 = unit.1 in cc);
}
