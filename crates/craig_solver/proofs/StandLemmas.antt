-- What the held clauses stand for.
use Rattle.std.proofs.Common.{◌≡◌, ℕ, ◌<◌, true, false, cond, Bool, List, [], Contains, Option, Some, length, get_or, refl, sym, ap, subst, ◌∙◌, arith}
use Rattle.std.specs.Option.{is_some, option_map, option_map_or}
use Rattle.std.proofs.lemmas.List.{length-map}
use Rattle.std.proofs.lemmas.List.Elements.{All-contains}
use Rattle.craig_spec.specs.Literal.{Clause}
use Rattle.craig_base.specs.Arena.{ArenaView, FlaggedClause, IsLive, clause_at, literals_at}
use Rattle.craig_base.specs.Clauses.{IsTautology}
use Rattle.craig_base.specs.declared.clause_id.ClauseId.{ClauseId}
use Rattle.craig_base.specs.declared.script_part.Part.{Part}
use Rattle.craig_spec.proofs.MemberLemmas.{Contains-from_image, Contains-image}
use Rattle.craig_solver.specs.Answer.{accepted_clauses}
use Rattle.craig_solver.specs.Solver.{StandFor}
use Rattle.craig_solver.specs.State.{AreHeldFor, AreHeldIds, clauses_under}

found-literals : (a : ArenaView) (id : ℕ) (c : FlaggedClause) → clause_at a id ≡ Some c → literals_at a id ≡ c.literals
found-literals a id c is = ap (λ (o : Option FlaggedClause). option_map_or (λ f. f.literals) o []) is

-- the held clauses that are not learnt stand for the accepted ones
pub StandFor-held : (accepted : List (Part × Clause)) (a : ArenaView) (vars : ℕ) (held_ids : List ClauseId) → AreHeldFor accepted a vars → AreHeldIds a held_ids → StandFor (accepted_clauses accepted) (clauses_under a held_ids)
StandFor-held accepted a vars held_ids are ids = record {
  contained = λ c here not_tautology.
      let p = Contains-from_image (λ (q : Part × Clause). q.1) accepted c here in
      let o = are.held p.0 p.1 (λ tautology. not_tautology (subst IsTautology (sym p.2) tautology)) in
      let x = ids.every o.id o.clause o.live o.not_learnt in
      let at : literals_at a x.0.0 ≡ o.clause.literals = ap (literals_at a) x.2 ∙ found-literals a o.id o.clause o.live in
      (o.clause.literals, subst (Contains (clauses_under a held_ids)) at (Contains-image (λ (y : ClauseId). literals_at a y.0) held_ids x.0 x.1), λ l has. subst (λ (d : Clause). Contains d l) (sym p.2) ((o.literals l).1 has));
  implied = λ d here.
      let x = Contains-from_image (λ (y : ClauseId). literals_at a y.0) held_ids d here in
      let c = All-contains (λ (y : ClauseId). (f : FlaggedClause) × (clause_at a y.0 ≡ Some f) × (f.flags.learnt ≡ false)) held_ids x.0 ids.held x.1 in
      let same : c.0.literals ≡ d = sym (found-literals a x.0.0 c.0 c.1) ∙ sym x.2 in
      are.implied x.0.0 d (ap (option_map (λ (f : FlaggedClause). f.literals)) c.1 ∙ ap (λ (e : Clause). Some e) same);
}

-- each id is live
pub held_ids-live : (a : ArenaView) (held_ids : List ClauseId) (k : ℕ) (x : ClauseId) → AreHeldIds a held_ids → k < length held_ids → x ≡ get_or held_ids k x → IsLive a x.0
held_ids-live a held_ids k x ids low at =
    let c = ids.held k x low in
    subst (λ (y : ClauseId). IsLive a y.0) (sym at) (ap (λ (o : Option FlaggedClause). is_some o) c.1)

-- a dead solver shows no clause
pub alive-where_shown : (dead : Bool) (a : ArenaView) (held_ids : List ClauseId) (k : ℕ) → k < length (cond dead [] (clauses_under a held_ids)) → (dead ≡ false) × (k < length held_ids)
alive-where_shown true a held_ids k low = absurd (omega (arith, low))
alive-where_shown false a held_ids k low =
    (refl, subst (λ (n : ℕ). k < n) (length-map held_ids (λ (y : ClauseId). literals_at a y.0)) low)
