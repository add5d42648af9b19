-- A solver that lets learnt clauses of earlier searches go.
use Rattle.std.proofs.Common.{◌≡◌, ◌≢◌, ℕ, true, false, List, [], ◌∷◌, map, All, Option, Some, None, refl, sym, ap, subst, ◌∙◌}
use Rattle.std.specs.Option.{IfSome, IsSome, option_map, option_map_or}
use Rattle.std.proofs.lemmas.List.Elements.{All-head, All-tail, All-weaker}
use Rattle.craig_spec.specs.Literal.{Clause}
use Rattle.craig_spec.specs.Chain.{Told, IsUnforgotten, clause_told, without_id}
use Rattle.craig_base.specs.Arena.{ArenaView, ChangesOnly, FlaggedClause, IsLive, clause_at, literals_at, without}
use Rattle.craig_base.specs.declared.clause_id.ClauseId.{ClauseId}
use Rattle.craig_base.specs.declared.script_part.Part.{Part}
use Rattle.craig_proof.proofs.AppendsLemmas.{before_forgotten}
use Rattle.craig_proof.proofs.ToldLemmas.{clause_told-forgotten}
use Rattle.craig_watch.specs.Held.{HeldView, IsConsistent, held_clause}
use Rattle.craig_search.proofs.ForgottenLemmas.{IsUnforgotten-other}
use Rattle.craig_search.proofs.ReducingLemmas.{covers-gone, gone-before, gone-held, gone-kept}
use Rattle.craig_solver.specs.State.{AreHeldFor, AreHeldIds, AreOriginals, IsState, LetsLearntGo, RestOnAccepted, StateView, clauses_under}
use Rattle.craig_solver.proofs.RestLemmas.{RestOnAccepted-forgotten}
use Rattle.craig_solver.proofs.ToldLemmas.{AreAllTold-forgotten, AreOriginals-forgotten}

-- a learnt clause is held under the id
abbrev pub IsLearntAt : ArenaView → ℕ → Type 0
IsLearntAt a id = (c : FlaggedClause) × (clause_at a id ≡ Some c) × (c.flags.learnt ≡ true)

learnt-cases : (o : Option FlaggedClause) → IsSome o → IfSome o (λ c. c.flags.learnt ≡ true) → (c : FlaggedClause) × (o ≡ Some c) × (c.flags.learnt ≡ true)
learnt-cases None live learnt = absurd (let odd : false ≡ true = live in cc)
learnt-cases (Some c) live learnt = (c, refl, learnt)

pub learnt-at : (a : ArenaView) (id : ℕ) → IsLive a id → IfSome (clause_at a id) (λ c. c.flags.learnt ≡ true) → IsLearntAt a id
learnt-at a id live learnt = learnt-cases (clause_at a id) live learnt

map-same : (f g : ClauseId → Clause) (xs : List ClauseId) → All (λ x. f x ≡ g x) xs → map f xs ≡ map g xs
map-same f g [] same = refl
map-same f g (x ∷ xs) same =
    let first : f x ≡ g x = All-head (λ y. f y ≡ g y) x xs same in
    ap (λ (c : Clause). c ∷ map f xs) first ∙ ap (λ (cs : List Clause). g x ∷ cs) (map-same f g xs (All-tail (λ y. f y ≡ g y) x xs same))

module _ (a b : ArenaView) (id : ℕ) (only : ChangesOnly a b id None) (learnt : IsLearntAt a id) where
  not-learnt : (k : ℕ) (c : FlaggedClause) → clause_at a k ≡ Some c → c.flags.learnt ≡ false → k ≢ id
  not-learnt k c is isnt same =
      let both : Some c ≡ Some learnt.0 = sym is ∙ ap (clause_at a) same ∙ learnt.1 in
      let equal : c ≡ learnt.0 = cc in
      let odd : false ≡ true = sym isnt ∙ ap (λ (d : FlaggedClause). d.flags.learnt) equal ∙ learnt.2 in
      cc

  stays : (k : ℕ) (c : FlaggedClause) → clause_at a k ≡ Some c → c.flags.learnt ≡ false → clause_at b k ≡ Some c
  stays k c is isnt = gone-kept a b id only k (not-learnt k c is isnt) ∙ is

  AreHeldIds-gone : (ids : List ClauseId) → AreHeldIds a ids → AreHeldIds b ids
  AreHeldIds-gone ids are = record {
    rising = are.rising;
    held = All-weaker (λ (x : ClauseId). (c : FlaggedClause) × (clause_at a x.0 ≡ Some c) × (c.flags.learnt ≡ false)) (λ (x : ClauseId). (c : FlaggedClause) × (clause_at b x.0 ≡ Some c) × (c.flags.learnt ≡ false)) (λ x was. (was.0, stays x.0 was.0 was.1 was.2, was.2)) ids are.held;
    every = λ k c is no. are.every k c (gone-before a b id only k c is) no;
  }

  AreHeldFor-gone : (accepted : List (Part × Clause)) (vars : ℕ) → AreHeldFor accepted a vars → AreHeldFor accepted b vars
  AreHeldFor-gone accepted vars are = record {
    known = are.known;
    held = λ p here not.
        let o = are.held p here not in
        record {
          id = o.id;
          clause = o.clause;
          live = stays o.id o.clause o.live o.not_learnt;
          literals = o.literals;
          not_learnt = o.not_learnt;
        };
    implied = λ k c is. are.implied k c (gone-held a b id only k c is);
    variables = λ k x c is. are.variables k x c (gone-held a b id only k c is);
  }

  none-still : (k : ℕ) → held_clause a k ≡ None → held_clause b k ≡ None
  none-still k none = none-cases (clause_at b k) refl where
    none-cases : (o : Option FlaggedClause) → clause_at b k ≡ o → held_clause b k ≡ None
    none-cases None is = ap (option_map (λ f. f.literals)) is
    none-cases (Some c) is =
        absurd (let here : held_clause a k ≡ Some c.literals = ap (option_map (λ f. f.literals)) (gone-before a b id only k c is) in let odd : None ≡ Some c.literals = sym none ∙ here in cc)

  other-id : (k : ℕ) → held_clause a k ≡ None → k ≢ id
  other-id k none same =
      let here : held_clause a k ≡ Some learnt.0.literals = ap (held_clause a) same ∙ ap (option_map (λ f. f.literals)) learnt.1 in
      let odd : None ≡ Some learnt.0.literals = sym none ∙ here in
      cc

  pub clauses_under-gone : (ids : List ClauseId) → AreHeldIds a ids → clauses_under b ids ≡ clauses_under a ids
  clauses_under-gone ids are =
      map-same (λ x. literals_at b x.0) (λ x. literals_at a x.0) ids (All-weaker (λ (x : ClauseId). (c : FlaggedClause) × (clause_at a x.0 ≡ Some c) × (c.flags.learnt ≡ false)) (λ (x : ClauseId). literals_at b x.0 ≡ literals_at a x.0) (λ x was. ap (λ (o : Option FlaggedClause). option_map_or (λ f. f.literals) o []) (gone-kept a b id only x.0 (not-learnt x.0 was.0 was.1 was.2))) ids are.held)

  RestOnAccepted-gone : (accepted : List (Part × Clause)) (t : Told) → RestOnAccepted accepted a t → RestOnAccepted accepted b t
  RestOnAccepted-gone accepted t rest = record {
    set = rest.set;
    closed = rest.closed;
    held = λ k c is. rest.held k c (gone-held a b id only k c is);
    accepted_alone = rest.accepted_alone;
  }

-- one learnt clause is let go, and its id is forgotten
module _ (s : StateView) (n : HeldView) (id : ℕ) (after : Option Told) (state : IsState s) (is : n ≡ record s.held { arena = without s.held.arena id }) (only : ChangesOnly s.held.arena n.arena id None) (learnt : IsLearntAt s.held.arena id) (ok : IsConsistent n) (forgotten : after ≡ option_map (without_id id) s.told) where
  vars : n.vars ≡ s.held.vars
  vars = ap (λ (h : HeldView). h.vars) is

  pub IsState-let_go : IsState (record s { held = n; told = after })
  IsState-let_go = record {
    begins = record {
      level = ap (λ (h : HeldView). h.level) is ∙ state.begins.level;
      ready = record {
        known = state.begins.ready.known ∙ sym vars;
        given_back = subst (λ (h : HeldView). Rattle.craig_order.specs.Order.FreeAreGivenBack h s.order) (sym is) state.begins.ready.given_back;
      };
      covers = covers-gone id s.held.arena n.arena s.told after (ap (λ (h : HeldView). h.arena.given) is) only forgotten state.begins.covers;
    };
    consistent = ok;
    held_alive = ap (λ (h : HeldView). h.dead) is ∙ state.held_alive;
    order_alive = state.order_alive;
    clauses = subst (AreHeldFor s.accepted n.arena) (sym vars) (AreHeldFor-gone s.held.arena n.arena id only learnt s.accepted s.held.vars state.clauses);
    ids = AreHeldIds-gone s.held.arena n.arena id only learnt s.held_ids state.ids;
    originals = λ u at.
        let t = before_forgotten s.told after id u forgotten at in
        subst (AreOriginals s.accepted s.root s.units) (sym t.2) (AreOriginals-forgotten s.accepted id s.root s.root s.units s.units t.0 (λ x other unit. unit) (state.originals t.0 t.1));
    rests = λ u at.
        let t = before_forgotten s.told after id u forgotten at in
        subst (RestOnAccepted s.accepted n.arena) (sym t.2) (RestOnAccepted-gone s.held.arena n.arena id only learnt s.accepted (without_id id t.0) (RestOnAccepted-forgotten s.accepted s.held.arena id t.0 (state.rests t.0 t.1)));
    all_told = AreAllTold-forgotten s.accepted id s.told after state.all_told forgotten;
    root_of = λ q root_is u at.
        let t = before_forgotten s.told after id u forgotten at in
        let was = state.root_of q root_is t.0 t.1 in (
          subst (λ (v : Told). IsUnforgotten v.steps q.0) (sym t.2) (IsUnforgotten-other t.0 id q.0 (other-id s.held.arena n.arena id only learnt q.0 was.2) was.0),
          subst (λ (v : Told). clause_told v.steps q.0 ≡ Some []) (sym t.2) (clause_told-forgotten id q.0 t.0.steps ∙ was.1),
          none-still s.held.arena n.arena id only learnt q.0 was.2,
        );
    units_of = record {
      room = state.units_of.room;
      each = λ x unit u at.
          let t = before_forgotten s.told after id u forgotten at in
          let was = state.units_of.each x unit t.0 t.1 in
          (subst (λ (v : Told). IsUnforgotten v.steps x) (sym t.2) (IsUnforgotten-other t.0 id x (other-id s.held.arena n.arena id only learnt x was.1) was.0), none-still s.held.arena n.arena id only learnt x was.1);
    };
  }

  pub LetsLearntGo-one : LetsLearntGo s (record s { held = n; told = after })
  LetsLearntGo-one = record {
    rest = refl;
    vars = vars;
    held = clauses_under-gone s.held.arena n.arena id only learnt s.held_ids state.ids;
  }

pub LetsLearntGo-none : (s : StateView) → LetsLearntGo s s
LetsLearntGo-none s = record { rest = refl; vars = refl; held = refl }

pub LetsLearntGo-both : (a b c : StateView) → LetsLearntGo a b → LetsLearntGo b c → LetsLearntGo a c
LetsLearntGo-both a b c one two = record {
  rest = two.rest ∙ ap (λ (s : StateView). record s { held = c.held; told = c.told }) one.rest;
  vars = two.vars ∙ one.vars;
  held = ap (λ (ids : List ClauseId). clauses_under c.held.arena ids) (sym (ap (λ (s : StateView). s.held_ids) one.rest)) ∙ two.held ∙ ap (λ (ids : List ClauseId). clauses_under b.held.arena ids) (ap (λ (s : StateView). s.held_ids) one.rest) ∙ one.held;
}
