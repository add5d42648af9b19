-- A solver that holds one clause more, and accepts it.
use Rattle.std.proofs.Common.{◌≡◌, ◌≢◌, inl, inr, ℕ, ◌+◌, ◌<◌, Bool, false, cond, List, [], ◌∷◌, ◌++◌, All, Contains, Option, Some, None, get_or, refl, sym, ap, subst, ◌∙◌, arith, ne_eqb, true}
use Rattle.std.specs.Option.{ForSome, option_map, option_map_or}
use Rattle.std.proofs.lemmas.List.{map-append}
use Rattle.std.proofs.lemmas.List.Elements.{All-contains, All-push, All-weaker, Contains-append_left, Contains-push, Contains-push_cases}
use Rattle.std.proofs.lemmas.List.Quantifiers.{all_pairs_push}
use Rattle.craig_spec.specs.Literal.{Clause, Literal}
use Rattle.craig_spec.specs.Chain.{SameLiterals, Told, IsUnforgotten, clause_told}
use Rattle.craig_spec.specs.Occurs.{occurs_in_clause}
use Rattle.craig_spec.specs.Truth.{clause_value}
use Rattle.craig_spec.proofs.ClauseLemmas.{SameLiterals-sym, clause_value-same, occurs_in_clause-same}
use Rattle.craig_spec.proofs.ToldLemmas.{IsUnforgotten-pushed, clause_told-pushed}
use Rattle.craig_base.specs.Arena.{ArenaView, FlaggedClause, ChangesOnly, IsArena, clause_at, literals_at, with_clause}
use Rattle.craig_base.specs.Clauses.{IsNormal, IsTautology}
use Rattle.craig_base.specs.declared.clause_id.ClauseId.{ClauseId}
use Rattle.craig_base.specs.declared.script_part.Part.{Part}
use Rattle.craig_proof.specs.Covers.{Covers, IsCovering, IsOldOrNext}
use Rattle.craig_proof.specs.Tracer.{Appends, original_step}
use Rattle.craig_watch.specs.Held.{HeldView, IsConsistent, held_clause}
use Rattle.craig_watch.specs.Trail.{IsAssigned}
use Rattle.craig_base.proofs.LookUpLemmas.{added-before, added-held, added-here, added-kept, live-below}
use Rattle.craig_proof.proofs.AppendsLemmas.{before_step}
use Rattle.craig_proof.proofs.CoversLemmas.{IsCovering-original}
use Rattle.craig_proof.proofs.OldOrNextLemmas.{old_or_added}
use Rattle.craig_solver.specs.State.{AreHeldFor, AreHeldIds, AreUnitsOf, RestOnAccepted, IsHeld, IsRootOf, IsState, StateView, accepting, clauses_under}
use Rattle.craig_solver.proofs.AcceptedLemmas.{IsModel-fewer, IsModel-last, Occurs-last, Occurs-more}
use Rattle.craig_solver.proofs.ListLemmas.{map-alike}
use Rattle.craig_solver.proofs.RestLemmas.{RestOnAccepted-more, RestOnAccepted-original}
use Rattle.craig_search.proofs.ForgottenLemmas.{unforgotten-below}
use Rattle.craig_solver.proofs.ToldLemmas.{AreOriginals-more, AreOriginals-original, AreAllTold-original, AreAllTold-tautology}

-- a tautology is accepted, and nothing else changes
pub IsState-tautology : (s : StateView) (part : Part) (c : Clause) → IsState s → IsTautology c → All (λ (l : Literal). l.var < s.held.vars) c → IsState (accepting part c s)
IsState-tautology s part c state tautology known = record {
  begins = state.begins;
  consistent = state.consistent;
  held_alive = state.held_alive;
  order_alive = state.order_alive;
  clauses = record {
    known = All-push (λ (a : Part × Clause). All (λ (l : Literal). l.var < s.held.vars) a.1) s.accepted (part, c) state.clauses.known known;
    held = λ a here not. elim (Contains-push_cases s.accepted (part, c) a here) [
      | inl old ↦ state.clauses.held a old not
      | inr last ↦ absurd (not (subst (λ (b : Part × Clause). IsTautology b.1) last tautology))
    ];
    implied = λ id d is a model. state.clauses.implied id d is a (IsModel-fewer s.accepted (part, c) a model);
    variables = λ id x d is occurs. Occurs-more s.accepted (part, c) x (state.clauses.variables id x d is occurs);
  };
  ids = state.ids;
  originals = AreOriginals-more s.accepted (part, c) s.root s.units s.told state.originals;
  rests = λ t at. RestOnAccepted-more s.accepted (part, c) s.held.arena t (state.rests t at);
  all_told = AreAllTold-tautology s.accepted (part, c) s.told tautology state.all_told;
  root_of = state.root_of;
  units_of = state.units_of;
}

module _ (a b : ArenaView) (id : ℕ) (f : FlaggedClause) (fresh : clause_at a id ≡ None) (only : ChangesOnly a b id (Some f)) where
  kept-added : (k : ClauseId) → (c : FlaggedClause) × (clause_at a k.0 ≡ Some c) × (c.flags.learnt ≡ false) → (c : FlaggedClause) × (clause_at b k.0 ≡ Some c) × (c.flags.learnt ≡ false)
  kept-added k was = (was.0, added-kept a b id f fresh only k.0 was.0 was.1, was.2)

  pub AreHeldIds-added : (kept : List ClauseId) (next : ClauseId) → next.0 ≡ id → f.flags.learnt ≡ false → AreHeldIds a kept → ((k : ClauseId) → (c : FlaggedClause) × (clause_at a k.0 ≡ Some c) × (c.flags.learnt ≡ false) → k.0 < id) → AreHeldIds b (kept ++ next ∷ [])
  AreHeldIds-added kept next is not_learnt are below = record {
    rising = all_pairs_push (λ (x y : ClauseId). x.0 < y.0) kept next are.rising (λ k d within. subst (λ (n : ℕ). (get_or kept k d).0 < n) (sym is) (below (get_or kept k d) (are.held k d within)));
    held = All-push (λ (x : ClauseId). (c : FlaggedClause) × (clause_at b x.0 ≡ Some c) × (c.flags.learnt ≡ false)) kept next (All-weaker (λ (x : ClauseId). (c : FlaggedClause) × (clause_at a x.0 ≡ Some c) × (c.flags.learnt ≡ false)) (λ (x : ClauseId). (c : FlaggedClause) × (clause_at b x.0 ≡ Some c) × (c.flags.learnt ≡ false)) kept-added kept are.held) (f, ap (clause_at b) is ∙ added-here a b id f fresh only, not_learnt);
    every = λ k c found no. elim (added-before a b id f fresh only k c found) [
      | inl last ↦ (next, Contains-push kept next, is ∙ sym last.0)
      | inr old ↦
          let x = are.every k c old no in
          (x.0, Contains-append_left kept (next ∷ []) x.0 x.1, x.2)
    ];
  }

  elsewhere : (k : ℕ) → k ≢ id → clause_at b k ≡ clause_at a k
  elsewhere k other = only k ∙ ap (λ (t : Bool). cond t (Some f) (clause_at a k)) (ne_eqb k id other)

  -- the clause is held for the accepted one
  pub AreHeldFor-added : (accepted : List (Part × Clause)) (p : Part × Clause) (vars : ℕ) → f.flags.learnt ≡ false → SameLiterals p.1 f.literals → All (λ (l : Literal). l.var < vars) p.1 → AreHeldFor accepted a vars → AreHeldFor (accepted ++ p ∷ []) b vars
  AreHeldFor-added accepted p vars not_learnt same known are = record {
    known = All-push (λ (q : Part × Clause). All (λ (l : Literal). l.var < vars) q.1) accepted p are.known known;
    held = λ q here not. elim (Contains-push_cases accepted p q here) [
      | inl old ↦
          let o = are.held q old not in
          record {
            id = o.id;
            clause = o.clause;
            live = added-kept a b id f fresh only o.id o.clause o.live;
            literals = o.literals;
            not_learnt = o.not_learnt;
          }
      | inr last ↦ subst (λ (r : Part × Clause). IsHeld b r.1) last (record {
        id = id;
        clause = f;
        live = added-here a b id f fresh only;
        literals = same;
        not_learnt = not_learnt;
      })
    ];
    implied = λ k c is s model. elim (added-held a b id f fresh only k c is) [
      | inl last ↦ subst (λ (d : Clause). clause_value s d ≡ true) last.1 (clause_value-same s p.1 f.literals same (IsModel-last accepted p s model))
      | inr old ↦ are.implied k c old s (IsModel-fewer accepted p s model)
    ];
    variables = λ k x c is occurs. elim (added-held a b id f fresh only k c is) [
      | inl last ↦ Occurs-last accepted p x (occurs_in_clause-same x f.literals p.1 (SameLiterals-sym p.1 f.literals same) (subst (λ (d : Clause). occurs_in_clause x d ≡ true) (sym last.1) occurs))
      | inr old ↦ Occurs-more accepted p x (are.variables k x c old occurs)
    ];
  }

-- the literals that are held under an older id stay
literals-added : (a b : ArenaView) (id : ℕ) (f : FlaggedClause) → clause_at a id ≡ None → ChangesOnly a b id (Some f) → (k : ℕ) → k ≢ id → literals_at b k ≡ literals_at a k
literals-added a b id f fresh only k other = ap (λ (o : Option FlaggedClause). option_map_or (λ g. g.literals) o []) (elsewhere a b id f fresh only k other)

-- so the clause is held behind the others
pub clauses_under-added : (a b : ArenaView) (ids longer : List ClauseId) (id : ClauseId) (f : FlaggedClause) → IsArena a → AreHeldIds a ids → id.0 ≡ a.given → clause_at a id.0 ≡ None → ChangesOnly a b id.0 (Some f) → longer ≡ ids ++ id ∷ [] → clauses_under b longer ≡ clauses_under a ids ++ f.literals ∷ []
clauses_under-added a b ids longer id f ok are next fresh only pushed =
    let below : (x : ClauseId) → Contains ids x → x.0 < a.given = λ x here. let c = All-contains (λ (y : ClauseId). (d : FlaggedClause) × (clause_at a y.0 ≡ Some d) × (d.flags.learnt ≡ false)) ids x are.held here in live-below a x.0 c.0 ok c.1 in
    let old : clauses_under b ids ≡ clauses_under a ids = map-alike (λ (x : ClauseId). literals_at b x.0) (λ (x : ClauseId). literals_at a x.0) ids (λ x here. literals-added a b id.0 f fresh only x.0 (λ same. let low : x.0 < a.given = below x here in omega (arith, low, same, next))) in
    let last : literals_at b id.0 ≡ f.literals = ap (λ (o : Option FlaggedClause). option_map_or (λ g. g.literals) o []) (added-here a b id.0 f fresh only) in
    ap (clauses_under b) pushed ∙ map-append (λ (x : ClauseId). literals_at b x.0) ids (id ∷ []) ∙ ap (λ (xs : List Clause). xs ++ literals_at b id.0 ∷ []) old ∙ ap (λ (c : Clause). clauses_under a ids ++ c ∷ []) last

module _ (s : StateView) (after : Option Told) (n : HeldView) (id : ClauseId) (part : Part) (written : Clause) (f : FlaggedClause) (state : IsState s) (is : n ≡ record s.held { arena = with_clause s.held.arena f }) (next : id.0 ≡ s.held.arena.given) (fresh : clause_at s.held.arena id.0 ≡ None) (only : ChangesOnly s.held.arena n.arena id.0 (Some f)) (longer : List ClauseId) (pushed : longer ≡ s.held_ids ++ id ∷ []) (appends : Appends s.told after (original_step id.0 part.0 f.literals)) where
  root-added : (state_of : IsState s) → IsRootOf after n.arena s.root
  root-added state_of r root_is u told =
      let was = before_step s.told after (original_step id.0 part.0 f.literals) u appends told in
      let old = state_of.root_of r root_is was.0 was.1 in
      let low : r.0 < s.held.arena.given = unforgotten-below was.0 (held_clause s.held.arena) s.held.arena.given r.0 (state_of.begins.covers was.0 was.1) old.0 in (
        subst (λ (t : Told). IsUnforgotten t.steps r.0) (sym was.2) (IsUnforgotten-pushed was.0.steps (original_step id.0 part.0 f.literals) r.0 old.0),
        subst (λ (t : Told). clause_told t.steps r.0 ≡ Some []) (sym was.2) (clause_told-pushed was.0.steps (original_step id.0 part.0 f.literals) r.0 [] old.1),
        ap (option_map (λ (g : FlaggedClause). g.literals)) (elsewhere s.held.arena n.arena id.0 f fresh only r.0 (λ same. omega (arith, low, same, next))) ∙ old.2,
      )

  units-added : AreUnitsOf after n.arena s.root s.units
  units-added = record {
    room = state.units_of.room;
    each = λ x unit u told.
        let was = before_step s.told after (original_step id.0 part.0 f.literals) u appends told in
        let old = state.units_of.each x unit was.0 was.1 in
        let low : x < s.held.arena.given = unforgotten-below was.0 (held_clause s.held.arena) s.held.arena.given x (state.begins.covers was.0 was.1) old.0 in (
          subst (λ (t : Told). IsUnforgotten t.steps x) (sym was.2) (IsUnforgotten-pushed was.0.steps (original_step id.0 part.0 f.literals) x old.0),
          ap (option_map (λ (g : FlaggedClause). g.literals)) (elsewhere s.held.arena n.arena id.0 f fresh only x (λ same. omega (arith, low, same, next))) ∙ old.1,
        );
  }

  rests-added : SameLiterals written f.literals → IsNormal f.literals → ForSome after (RestOnAccepted (s.accepted ++ (part, written) ∷ []) n.arena)
  rests-added same normal u told =
      let was = before_step s.told after (original_step id.0 part.0 f.literals) u appends told in
      RestOnAccepted-original s.accepted s.held.arena n.arena part written f id.0 was.0 u fresh only (subst (Covers was.0 (held_clause s.held.arena)) (sym next) (state.begins.covers was.0 was.1)) was.2 same normal (state.rests was.0 was.1)

  covers-added : IsCovering after (held_clause n.arena) n.arena.given
  covers-added =
      let given : n.arena.given ≡ s.held.arena.given + 1 = ap (λ (m : HeldView). m.arena.given) is in
      subst (IsCovering after (held_clause n.arena)) (sym given) (IsCovering-original s.told after (held_clause s.held.arena) (held_clause n.arena) s.held.arena.given part.0 f.literals state.begins.covers (subst (λ (k : ℕ). Appends s.told after (original_step k part.0 f.literals)) next appends) (subst (λ (k : ℕ). IsOldOrNext (held_clause s.held.arena) (held_clause n.arena) k f.literals) next (old_or_added s.held.arena n.arena id.0 f fresh only)))

  pub IsState-original : IsConsistent n → f.flags.learnt ≡ false → IsNormal f.literals → SameLiterals written f.literals → All (λ (l : Literal). l.var < s.held.vars) written → IsState (record { accepted = s.accepted ++ (part, written) ∷ []; held = n; order = s.order; told = after; held_ids = longer; root = s.root; units = s.units })
  IsState-original ok not_learnt normal same known = record {
    begins = record {
      level = ap (λ (m : HeldView). m.level) is ∙ state.begins.level;
      ready = record {
        known = state.begins.ready.known ∙ sym (ap (λ (m : HeldView). m.vars) is);
        given_back = λ v free. state.begins.ready.given_back v (subst (λ (m : HeldView). v < m.vars) is free.0, λ assigned. free.1 (subst (λ (m : HeldView). IsAssigned m.trail v) (sym is) assigned));
      };
      covers = covers-added;
    };
    consistent = ok;
    held_alive = ap (λ (m : HeldView). m.dead) is ∙ state.held_alive;
    order_alive = state.order_alive;
    clauses = subst (AreHeldFor (s.accepted ++ (part, written) ∷ []) n.arena) (sym (ap (λ (m : HeldView). m.vars) is)) (AreHeldFor-added s.held.arena n.arena id.0 f fresh only s.accepted (part, written) s.held.vars not_learnt same known state.clauses);
    ids = subst (AreHeldIds n.arena) (sym pushed) (AreHeldIds-added s.held.arena n.arena id.0 f fresh only s.held_ids id refl not_learnt state.ids (λ k was. subst (λ (m : ℕ). k.0 < m) (sym next) (live-below s.held.arena k.0 was.0 state.consistent.arena was.1)));
    originals = AreOriginals-original s.accepted part written f.literals id.0 s.root s.units s.told after state.originals appends same normal;
    rests = rests-added same normal;
    all_told = AreAllTold-original s.accepted part written f.literals id.0 s.told after state.all_told appends same;
    root_of = root-added state;
    units_of = units-added;
  }

-- the same with another name for the accepted clauses
pub IsState-same : (s : StateView) (part : Part) (c : Clause) (new : List (Part × Clause)) → new ≡ s.accepted ++ (part, c) ∷ [] → IsState (accepting part c s) → IsState (record s { accepted = new })
IsState-same s part c new is state =
    subst (λ (xs : List (Part × Clause)). IsState (record s { accepted = xs })) (sym is) state
