-- Clauses that a search learnt are let go.
use Rattle.std.proofs.Common.{◌≡◌, ◌≢◌, ℕ, ◌<◌, ◌≤◌, Bool, true, false, cond, eqb, Option, Some, None, Contains, inl, inr, refl, sym, ap, subst, ◌∙◌, arith, eq-eqb, ne_eqb}
use Rattle.std.specs.Option.{IfSome, option_map}
use Rattle.craig_spec.specs.Literal.{Clause}
use Rattle.craig_spec.specs.Chain.{IsUnforgotten, Origin, Told, ToldStep, antecedents, without_id}
use Rattle.craig_spec.specs.Needed.{IsOriginal}
use Rattle.craig_spec.proofs.ClauseLemmas.{SameLiterals-refl}
use Rattle.craig_base.specs.Arena.{ArenaView, ChangesOnly, FlaggedClause, clause_at, literals_of, without}
use Rattle.craig_base.proofs.LookUpLemmas.{flagged, held-below, live-below}
use Rattle.craig_base.proofs.ReorderLemmas.{IsReordered-refl}
use Rattle.craig_proof.specs.Covers.{IsCovering}
use Rattle.craig_proof.proofs.AppendsLemmas.{before_forgotten}
use Rattle.craig_proof.proofs.CoversLemmas.{IsCovering-fewer, IsCovering-forgotten}
use Rattle.craig_watch.specs.Held.{HeldView, held_clause}
use Rattle.craig_search.specs.Leaves.{Leaves}
use Rattle.craig_search.specs.Reducing.{IsUnkept, LetsGo}
use Rattle.craig_search.proofs.LimitLemmas.{StayKept-refl, StayKept-trans}
use Rattle.craig_search.specs.Searching.{TellsLearnt}
use Rattle.craig_search.specs.Tells.{IsOfSearch, Tells, WasTold}
use Rattle.craig_search.proofs.ForgottenLemmas.{IsUnforgotten-other, forgotten-step, forgotten-still, unforgotten-below}

-- nothing is let go
pub LetsGo-none : (first : ℕ) (h : HeldView) (told : Option Told) → LetsGo first h h told told
LetsGo-none first h told = record { goes_on = λ start before low search. search; others = refl; given = refl; kept = StayKept-refl h.arena }

-- one after the other
pub LetsGo-both : (first : ℕ) (a b c : HeldView) (told_a told_b told_c : Option Told) → LetsGo first a b told_a told_b → LetsGo first b c told_b told_c → LetsGo first a c told_a told_c
LetsGo-both first a b c told_a told_b told_c one two = record {
  goes_on = λ start before low search. two.goes_on start before low (one.goes_on start before low search);
  others = two.others ∙ ap (λ (h : HeldView). record h { arena = c.arena }) one.others;
  given = two.given ∙ one.given;
  kept = StayKept-trans a.arena b.arena c.arena one.kept two.kept;
}

-- of higher ids alone
pub LetsGo-later : (first more : ℕ) (old new : HeldView) (now after : Option Told) → first ≤ more → LetsGo more old new now after → LetsGo first old new now after
LetsGo-later first more old new now after le step = record {
  goes_on = λ start before low. step.goes_on start before (omega arith);
  others = step.others;
  given = step.given;
  kept = step.kept;
}

gone-cases : (b : Bool) (k id : ℕ) (c : FlaggedClause) (o : Option FlaggedClause) → eqb k id ≡ b → cond b None o ≡ Some c → (k ≢ id) × (o ≡ Some c)
gone-cases true k id c o e h = absurd (let no : None ≡ Some c = h in cc)
gone-cases false k id c o e h = (λ same. (let no : false ≡ true = sym e ∙ ap (λ (n : ℕ). eqb n id) same ∙ eq-eqb id id refl in cc), h)

module _ (a b : ArenaView) (id : ℕ) (only : ChangesOnly a b id None) where
  pub gone-before : (k : ℕ) (c : FlaggedClause) → clause_at b k ≡ Some c → clause_at a k ≡ Some c
  gone-before k c is = (gone-cases (eqb k id) k id c (clause_at a k) refl (sym (only k) ∙ is)).1

  pub gone-held : (k : ℕ) (c : Clause) → literals_of b k ≡ Some c → literals_of a k ≡ Some c
  gone-held k c is =
      let f = flagged (clause_at b k) c is in
      ap (option_map (λ (g : FlaggedClause). g.literals)) (gone-before k f.0 f.1) ∙ ap (λ (d : Clause). Some d) f.2

  pub gone-kept : (k : ℕ) → k ≢ id → clause_at b k ≡ clause_at a k
  gone-kept k other = only k ∙ ap (λ (t : Bool). cond t None (clause_at a k)) (ne_eqb k id other)

  gone-here : literals_of b id ≡ None
  gone-here = ap (option_map (λ (g : FlaggedClause). g.literals)) (only id ∙ ap (λ (t : Bool). cond t None (clause_at a id)) (eq-eqb id id refl))

-- what the search leaves
Leaves-gone : (start old new : HeldView) (id : ℕ) → Leaves start old → new.vars ≡ old.vars → new.dead ≡ old.dead → new.arena.given ≡ old.arena.given → ChangesOnly old.arena new.arena id None → ((k : ℕ) (c : FlaggedClause) → clause_at start.arena k ≡ Some c → k ≢ id) → Leaves start new
Leaves-gone start old new id left vars dead given only other = record {
  vars = vars ∙ left.vars;
  dead = dead ∙ left.dead;
  given = omega (arith, left.given, given);
  stay = λ k c is no. let p = left.stay k c is no in (p.0, gone-kept old.arena new.arena id only k (other k c is) ∙ p.1, p.2);
  older = λ k d low is. left.older k d low (gone-before old.arena new.arena id only k d is);
  learnt = λ k d high is. left.learnt k d high (gone-before old.arena new.arena id only k d is);
  implied = λ k c is. left.implied k c (gone-held old.arena new.arena id only k c is);
  variables = λ k x c is. left.variables k x c (gone-held old.arena new.arena id only k c is);
}

was-forgotten : (t : Told) (m s : ToldStep) → WasTold t m → s.id ≡ m.id → s.literals ≡ m.literals → s.origin ≡ m.origin → (m.forgotten ≡ true → s.forgotten ≡ true) → WasTold t s
was-forgotten t m s was id literals origin more = (was.0, was.1, was.2 ∙ sym id, was.3 ∙ sym literals, was.4 ∙ sym origin, λ is. more (was.5 is))

still-true : (b : Bool) (m : Bool) → b ≡ m → (m ≡ false → ⊥) → b ≡ true
still-true true m is never = refl
still-true false m is never = absurd (never (sym is))

of-search-same : (lent : ℕ → Option Clause) (first : ℕ) (IsUnit : ℕ → Type 0) (m s : ToldStep) → s.id ≡ m.id → s.origin ≡ m.origin → IsOfSearch lent first IsUnit m → IsOfSearch lent first IsUnit s
of-search-same lent first IsUnit m s id origin of = record {
  later = subst (λ (x : ℕ). first ≤ x) (sym id) of.later;
  originals = λ is. subst IsUnit (sym id) (of.originals (subst IsOriginal origin is));
  antecedents = λ a named. of.antecedents a (subst (λ (o : Origin). Contains (antecedents o) a) origin named);
}

-- what it told, of which an id of its own is forgotten
Tells-forgotten : (lent : ℕ → Option Clause) (first : ℕ) (IsUnit : ℕ → Type 0) (t u : Told) (id : ℕ) → Tells lent first IsUnit t u → ((x : ℕ) → IsUnforgotten t.steps x → x ≢ id) → Tells lent first IsUnit t (without_id id u)
Tells-forgotten lent first IsUnit t u id tells other = record {
  steps = λ s here.
      let m = forgotten-step u id s here in
      elim (tells.steps m.0 m.1) [
        | inl was ↦ inl (was-forgotten t m.0 s was m.2 m.3 m.4 (λ gone. still-true s.forgotten s.forgotten refl (λ kept. (let no : true ≡ false = sym gone ∙ (m.5 kept).0 in cc))))
        | inr of ↦ inr (of-search-same lent first IsUnit m.0 s m.2 m.4 of)
      ];
  stay = λ s here.
      let r = tells.stay s here in
      let m = forgotten-still u id r.0 r.1 in
      (m.0, m.1, m.2 ∙ r.2, m.3 ∙ r.3, m.4 ∙ r.4);
  unforgotten = λ x kept none. IsUnforgotten-other u id x (other x kept) (tells.unforgotten x kept none);
}

TellsLearnt-forgotten : (start : HeldView) (before now after : Option Told) (first id : ℕ) → IsCovering before (held_clause start.arena) start.arena.given → start.arena.given ≤ first → first ≤ id → TellsLearnt start before now → after ≡ option_map (without_id id) now → TellsLearnt start before after
TellsLearnt-forgotten start before now after first id covered low high learnt forgotten t u is also =
    let w = before_forgotten now after id u forgotten also in
    subst (Tells (held_clause start.arena) start.arena.given (λ x. ⊥) t) (sym w.2) (Tells-forgotten (held_clause start.arena) start.arena.given (λ x. ⊥) t w.0 id (learnt t w.0 is w.1) (λ x kept same. (let below : x < start.arena.given = unforgotten-below t (held_clause start.arena) start.arena.given x (covered t is) kept in omega arith)))

kept-unkept : (o : Option FlaggedClause) (c : FlaggedClause) → IfSome o (λ d. d.flags.kept ≡ false) → o ≡ Some c → c.flags.kept ≡ true → ⊥
kept-unkept o c unkept is kept =
    let no : c.flags.kept ≡ false = subst (λ (x : Option FlaggedClause). IfSome x (λ d. d.flags.kept ≡ false)) is unkept in
    let odd : true ≡ false = sym kept ∙ no in
    cc

-- one clause is let go that isn't kept, and its id is forgotten
pub LetsGo-one : (first id : ℕ) (old new : HeldView) (now after : Option Told) → first ≤ id → IsUnkept old.arena id → new ≡ record old { arena = without old.arena id } → ChangesOnly old.arena new.arena id None → after ≡ option_map (without_id id) now → LetsGo first old new now after
LetsGo-one first id old new now after high unkept is only forgotten = record {
  goes_on = λ start before low search. record {
    lent = search.lent;
    covered = search.covered;
    leaves = Leaves-gone start old new id search.leaves (ap (λ (h : HeldView). h.vars) is) (ap (λ (h : HeldView). h.dead) is) (ap (λ (h : HeldView). h.arena.given) is) only (λ k c here same. (let below : k < start.arena.given = live-below start.arena k c search.lent here in omega arith));
    kept = λ k d here.
        let below : k < start.arena.given = held-below start.arena k d search.lent here in
        let p = search.kept k d here in
        (p.0, ap (option_map (λ (g : FlaggedClause). g.literals)) (gone-kept old.arena new.arena id only k (λ same. omega arith)) ∙ p.1, p.2);
    tells = TellsLearnt-forgotten start before now after first id search.covered low high search.tells forgotten;
  };
  others = is ∙ ap (λ (a : ArenaView). record old { arena = a }) (sym (ap (λ (h : HeldView). h.arena) is));
  given = ap (λ (h : HeldView). h.arena.given) is;
  kept = λ k c here kept. (c, gone-kept old.arena new.arena id only k (λ same. kept-unkept (clause_at old.arena id) c unkept (ap (clause_at old.arena) (sym same) ∙ here) kept) ∙ here, IsReordered-refl c);
}

-- the tracer covers what is left
pub covers-gone : (id : ℕ) (a b : ArenaView) (now after : Option Told) → b.given ≡ a.given → ChangesOnly a b id None → after ≡ option_map (without_id id) now → IsCovering now (literals_of a) a.given → IsCovering after (literals_of b) b.given
covers-gone id a b now after given only forgotten covers =
    IsCovering-forgotten now after (literals_of b) b.given id (IsCovering-fewer now (literals_of a) (literals_of b) a.given b.given covers (omega arith) (λ k d is. (d, gone-held a b id only k d is, SameLiterals-refl d))) forgotten (gone-here a b id only)
