-- Held clauses that are false, and reasons.
use Rattle.std.proofs.Common.{◌≡◌, inl, inr, ℕ, ◌<◌, [], length, take, All, Contains, Option, Some, None, IsSome, refl, sym, subst, arith}
use Rattle.std.specs.Option.{option_map, option_map_or}
use Rattle.std.proofs.lemmas.List.{take_all}
use Rattle.std.proofs.lemmas.List.Elements.{All-contains, All-weaker}
use Rattle.craig_spec.specs.Literal.{Clause}
use Rattle.craig_base.specs.Arena.{ArenaView, FlaggedClause, IsLive, clause_at, literals_at}
use Rattle.craig_watch.specs.Trail.{Trail, IsFalse, IsAssigned}
use Rattle.craig_watch.specs.Held.{HeldView, held_clause, IsFalsified}
use Rattle.craig_analyze.specs.declared.staying.Staying.{Staying}
use Rattle.craig_analyze.specs.declared.staying.Staying.TheVariants.{InnerLevels}
use Rattle.craig_analyze.specs.Resolvent.{ResolventView, IsUnresolved, Meets, HasBegun}
use Rattle.craig_analyze.proofs.PlaceLemmas.{false-assigned}

live-cases : (o : Option FlaggedClause) (c : Clause) → option_map (λ f. f.literals) o ≡ Some c → IsSome o × (option_map_or (λ f. f.literals) o [] ≡ c)
live-cases None c h = absurd (let no : None ≡ Some c = h in cc)
live-cases (Some f) c h = (refl, (let is : Some f.literals ≡ Some c = h in cc))

-- a clause that is found under an id is live, with these literals
pub held-live : (a : ArenaView) (id : ℕ) (c : Clause) → held_clause a id ≡ Some c → IsLive a id × (literals_at a id ≡ c)
held-live a id c h = live-cases (clause_at a id) c h

-- the variables of a false clause are assigned
pub falsified-assigned : (h : HeldView) (id : ℕ) → IsFalsified h id → All (λ l. IsAssigned h.trail l.var) (literals_at h.arena id)
falsified-assigned h id (c, held, falsified) =
    subst (λ (d : Clause). All (λ l. IsAssigned h.trail l.var) d) (sym (held-live h.arena id c held).1) (All-weaker (IsFalse h.trail) (λ l. IsAssigned h.trail l.var) (λ l. false-assigned h.trail l) c falsified)

abbrev pub nothing : ResolventView
nothing = record { marked = []; pending = []; lower = [] }

pub no_member : {X : Type 0} (x : X) → ¬ Contains [] x
no_member x (k, within, is) = let no : k < 0 = within in omega arith

-- without literals the clause is under way
pub IsUnresolved-nothing : {k : Staying} (h : HeldView) → IsUnresolved k h (length h.trail) nothing
IsUnresolved-nothing h = record {
  within = omega arith;
  below = λ k d w. absurd (omega arith);
  once = λ x. omega arith;
  ends = λ k d w. absurd (omega arith);
  pending_marked = λ k d w. absurd (omega arith);
  lower_false = λ k d w. absurd (omega arith);
  lower_inner = λ k d w. absurd (omega arith);
  lower_apart = λ i j d before w. absurd (omega arith);
  lower_marked = λ k d w. absurd (omega arith);
  apart = λ p l here. absurd (no_member p here);
  met = λ l _ marked. absurd (no_member l.var marked);
}

-- the literals of a false clause came in
pub HasBegun-met : (h : HeldView) (id : ℕ) (old new : ResolventView) → IsFalsified h id → old ≡ nothing → Meets InnerLevels h (literals_at h.arena id) old new → HasBegun h id new
HasBegun-met h id old new (c, held, falsified) empty met =
    let t : Trail = h.trail in
    let literals : literals_at h.arena id ≡ c = (held-live h.arena id c held).1 in
    let whole : take (length t) t ≡ t = take_all (length t) t (omega arith) in
    let from_nothing : Meets InnerLevels h c nothing new = subst (λ (d : Clause). Meets InnerLevels h d nothing new) literals (subst (λ (s : ResolventView). Meets InnerLevels h (literals_at h.arena id) s new) empty met) in
    let false_here : All (IsFalse (take (length t) t)) c = subst (λ (u : Trail). All (IsFalse u) c) (sym whole) falsified in
    let has = from_nothing (length t) (IsUnresolved-nothing h) (λ k d w. inl (false_here k d w)) in
    record {
      conflict = c;
      held = held;
      same = λ l. (
        λ here. (has.literals l).1 (inr (here, All-contains (IsFalse (take (length t) t)) c l false_here here)),
        λ here. elim ((has.literals l).0 here) [ inl before ↦ absurd (no_member l before) | inr in_c ↦ in_c.0 ],
      );
      unresolved = has.unresolved;
    }
