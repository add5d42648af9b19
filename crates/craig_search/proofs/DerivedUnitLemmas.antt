-- Unit clauses of literals that are true at level 0.
use Rattle.std.proofs.Common.{◌≡◌, ◌≢◌, inl, inr, ℕ, suc, ◌+◌, ◌<◌, ◌≤◌, AllPairs, List, [], ◌∷◌, length, get_or, drop, map, Contains, Option, Some, None, IsSome, refl, sym, ap, subst, ◌∙◌, arith}
use Rattle.std.specs.Option.{is_some, option_map}
use Rattle.std.proofs.lemmas.List.{drop_all, get_or-drop, get_or-map, length-drop}
use Rattle.std.proofs.Math.Seq.{drop-cons}
use Rattle.craig_spec.specs.Literal.{Literal, Clause, negation}
use Rattle.craig_spec.specs.Chain.{ChainOk, IsResolvent, SameLiterals, Told}
use Rattle.craig_spec.proofs.LiteralLemmas.{negation_twice}
use Rattle.craig_spec.proofs.MemberLemmas.{Contains-cases, Contains-front, Contains-later, Contains-one}
use Rattle.craig_base.specs.declared.clause_id.ClauseId.{ClauseId}
use Rattle.craig_base.specs.declared.flags.Flags.{Flags}
use Rattle.craig_base.specs.Arena.{ArenaView, ChangesOnly, FlaggedClause, IsLive, clause_at, literals_at}
use Rattle.craig_base.proofs.LookUpLemmas.{added-held, literals_at-found}
use Rattle.craig_proof.specs.Tracer.{chain_of}
use Rattle.craig_proof.specs.declared.step.Step.{Step}
use Rattle.craig_proof.proofs.ChainGrowthLemmas.{ChainOk-order, ChainOk-push, ChainOk-start}
use Rattle.craig_watch.specs.declared.trail_entry.TrailEntry.{TrailEntry}
use Rattle.craig_watch.specs.declared.value.Value.TheVariants.{True}
use Rattle.craig_watch.specs.Trail.{Trail, entry_of, rested, value_under, with_reason}
use Rattle.craig_watch.specs.Held.{HeldView, IsComplete, IsConsistent, IsSettled, held_clause, with_held}
use Rattle.craig_watch.proofs.PlacesLemmas.{entry-true, place-found, true-entry}
use Rattle.craig_watch.proofs.ReasonLemmas.{entry_of-rested, length-rested, value_under-rested}
use Rattle.craig_watch.proofs.TrailLemmas.{entry_of-at}
use Rattle.craig_order.specs.Order.{OrderView}
use Rattle.craig_search.specs.Assuming.{AreDecided, AreTrueBefore}
use Rattle.craig_search.specs.Journal.{StayKept}
use Rattle.craig_search.specs.Leaves.{IsReady}
use Rattle.craig_search.specs.Searching.{GoesOn, IsSearching}
use Rattle.craig_search.specs.Units.{DerivesUnits, HasLiteral, IsResolvedAway}
use Rattle.craig_search.specs.Verdict.{Assumptions}
use Rattle.craig_search.proofs.AssumingLemmas.{decided-root}
use Rattle.craig_search.proofs.LimitLemmas.{StayKept-trans}
use Rattle.craig_search.proofs.SearchingLemmas.{IsSearching-moved}

-- the literal at a place of the trail is true
pub true-at : (h : HeldView) (lits : Clause) (k : ℕ) (l : Literal) → IsConsistent h → lits ≡ map (λ e. e.literal) h.trail → k < length h.trail → l ≡ get_or lits k l → (value_under h.trail l ≡ True) × (l.var < h.vars)
true-at h lits k l ok is within at =
    let e : TrailEntry = get_or h.trail k (record { literal = l; level = 0; reason = None }) in
    let same : l ≡ e.literal = at ∙ ap (λ (xs : Clause). get_or xs k l) is ∙ get_or-map (λ (f : TrailEntry). f.literal) h.trail k _ l within in
    let found : entry_of h.trail l.var ≡ Some e = ap (λ (m : Literal). entry_of h.trail m.var) same ∙ entry_of-at h.trail k _ ok.distinct within in
    (true-entry h.trail l e found (sym same), subst (λ (m : Literal). m.var < h.vars) (sym same) (ok.known k _ within))

-- the reason of a true literal is held and has it
pub reason-has : (h : HeldView) (l : Literal) (v : ℕ) (id : ClauseId) → IsConsistent h → value_under h.trail l ≡ True → v ≡ l.var → option_map (λ (e : TrailEntry). e.reason) (entry_of h.trail v) ≡ Some (Some id) → HasLiteral h.arena id.0 l
reason-has h l v id ok is same told =
    let e = entry-true h.trail l is in
    let p = place-found h.trail l.var e.0 e.1 in
    let both : Some e.0.reason ≡ Some (Some id) = sym (ap (option_map (λ (f : TrailEntry). f.reason)) (ap (entry_of h.trail) same ∙ e.1)) ∙ told in
    let reason : (get_or h.trail p.0 e.0).reason ≡ Some id = ap (λ (f : TrailEntry). f.reason) (p.3 e.0) ∙ (let r : e.0.reason ≡ Some id = cc in r) in
    let j = ok.justified p.0 e.0 p.1 id reason in
    (j.0, j.1, subst (Contains j.0) (ap (λ (f : TrailEntry). f.literal) (p.3 e.0) ∙ e.2) j.2.has)

live-cases : (o : Option FlaggedClause) (c : Clause) → option_map (λ f. f.literals) o ≡ Some c → IsSome o
live-cases None c is = absurd (let no : None ≡ Some c = is in cc)
live-cases (Some f) c is = refl

-- a clause that is held is live
pub HasLiteral-live : (a : ArenaView) (id : ℕ) (l : Literal) → HasLiteral a id l → IsLive a id
HasLiteral-live a id l (c, held, has) = live-cases (clause_at a id) c held

-- the chain of a clause alone, with the literal that stays before the others
pub chain-begun : (a : ArenaView) (first : ℕ) (l : Literal) (lits : Clause) → lits ≡ literals_at a first → HasLiteral a first l → ChainOk (held_clause a) (l ∷ lits) first []
chain-begun a first l lits is (c, held, has) =
    let same : lits ≡ c = is ∙ literals_at-found a first c held in
    let begun : ChainOk (held_clause a) lits first [] = subst (λ (d : Clause). ChainOk (held_clause a) d first []) (sym same) (ChainOk-start (held_clause a) c first held) in
    ChainOk-order (held_clause a) lits (l ∷ lits) first [] begun (λ m. (
      λ here. Contains-later l lits m here,
      λ here. elim (Contains-cases l lits m here) [ inl itself ↦ subst (Contains lits) itself (subst (λ (d : Clause). Contains d l) (sym same) has) | inr rest ↦ rest ],
    ))

-- the literal that stays once more
same-twice : (l m : Literal) (rest : Clause) → m ≡ l → SameLiterals (l ∷ m ∷ rest) (l ∷ rest)
same-twice l m rest is x = (
  λ here. elim (Contains-cases l (m ∷ rest) x here) [
    | inl first ↦ subst (Contains (l ∷ rest)) first (Contains-front l rest)
    | inr more ↦ elim (Contains-cases m rest x more) [
      | inl second ↦ subst (Contains (l ∷ rest)) (sym is ∙ second) (Contains-front l rest)
      | inr later ↦ Contains-later l rest x later
    ]
  ],
  λ here. elim (Contains-cases l rest x here) [
    | inl first ↦ subst (Contains (l ∷ m ∷ rest)) first (Contains-front l (m ∷ rest))
    | inr later ↦ Contains-later l (m ∷ rest) x (Contains-later m rest x later)
  ],
)

-- a literal is resolved away with the unit clause of its negation
unit-resolvent : (l m : Literal) (rest : Clause) → m ≢ l → ¬ Contains rest m → IsResolvent m (l ∷ m ∷ rest) (negation m ∷ []) (l ∷ rest)
unit-resolvent l m rest other absent = record {
  first_has = Contains-later l (m ∷ rest) m (Contains-front m rest);
  second_has = Contains-front (negation m) [];
  no_other = λ x here there. sym (negation_twice x) ∙ ap negation (sym (Contains-one (negation m) (negation x) there)) ∙ negation_twice m;
  literals = λ x. (
    λ here. inl (elim (Contains-cases l rest x here) [
      | inl first ↦ (subst (Contains (l ∷ m ∷ rest)) first (Contains-front l (m ∷ rest)), λ same. other (sym same ∙ sym first))
      | inr later ↦ (Contains-later l (m ∷ rest) x (Contains-later m rest x later), λ same. absent (subst (Contains rest) same later))
    ]),
    λ either. elim either [
      | inl one ↦ elim (Contains-cases l (m ∷ rest) x one.0) [
        | inl first ↦ subst (Contains (l ∷ rest)) first (Contains-front l rest)
        | inr more ↦ elim (Contains-cases m rest x more) [ inl second ↦ absurd (one.1 (sym second)) | inr later ↦ Contains-later l rest x later ]
      ]
      | inr two ↦ absurd (two.1 (sym (Contains-one (negation m) x two.0)))
    ],
  );
}

resolved-cases : (a : ArenaView) (l m : Literal) (rest : Clause) (first : ℕ) (old new : List Step) → ¬ Contains rest m → ChainOk (held_clause a) (l ∷ m ∷ rest) first (chain_of old) → IsResolvedAway a l m old new → ChainOk (held_clause a) (l ∷ rest) first (chain_of new)
resolved-cases a l m rest first old new absent chain (inl (is, same)) =
    subst (λ (xs : List Step). ChainOk (held_clause a) (l ∷ rest) first (chain_of xs)) (sym same) (ChainOk-order (held_clause a) (l ∷ m ∷ rest) (l ∷ rest) first (chain_of old) chain (same-twice l m rest is))
resolved-cases a l m rest first old new absent chain (inr (other, (s, resolves, is))) =
    subst (λ (xs : List Step). ChainOk (held_clause a) (l ∷ rest) first (chain_of xs)) (sym is) (ChainOk-push (held_clause a) (l ∷ m ∷ rest) first old s (negation m ∷ []) (l ∷ rest) chain resolves.unit (subst (λ (p : Literal). IsResolvent p (l ∷ m ∷ rest) (negation m ∷ []) (l ∷ rest)) (sym resolves.pivot) (unit-resolvent l m rest other absent)))

-- one literal more is resolved away
pub chain-next : (a : ArenaView) (lits : Clause) (l m : Literal) (k first : ℕ) (old new : List Step) → AllPairs (λ x y. x ≢ y) lits → k < length lits → m ≡ get_or lits k m → ChainOk (held_clause a) (l ∷ drop k lits) first (chain_of old) → IsResolvedAway a l m old new → ChainOk (held_clause a) (l ∷ drop (k + 1) lits) first (chain_of new)
chain-next a lits l m k first old new apart within at chain resolved =
    let split : drop k lits ≡ m ∷ drop (suc k) lits = drop-cons lits k m within ∙ ap (λ (x : Literal). x ∷ drop (suc k) lits) (sym at) in
    let absent : ¬ Contains (drop (suc k) lits) m = λ has. (
    let there : get_or lits (suc k + has.0) m ≡ m = sym (get_or-drop (suc k) lits has.0 m) ∙ has.2 in
    let size = length-drop (suc k) lits in
    let low : has.0 < length (drop (suc k) lits) = has.1 in
    apart k (suc k + has.0) m (omega arith) (omega arith) (sym at ∙ sym there)
    ) in
    let next : suc k ≡ k + 1 = omega arith in
    subst (λ (n : ℕ). ChainOk (held_clause a) (l ∷ drop n lits) first (chain_of new)) next
    (resolved-cases a l m (drop (suc k) lits) first old new absent (subst (λ (d : Clause). ChainOk (held_clause a) (l ∷ d) first (chain_of old)) split chain) resolved)

-- and where all are, the one that stays is left
pub chain-ended : (a : ArenaView) (lits : Clause) (l : Literal) (k first : ℕ) (rest : List Step) → length lits ≤ k → ChainOk (held_clause a) (l ∷ drop k lits) first (chain_of rest) → ChainOk (held_clause a) (l ∷ []) first (chain_of rest)
chain-ended a lits l k first rest all chain = subst (λ (d : Clause). ChainOk (held_clause a) (l ∷ d) first (chain_of rest)) (drop_all k lits all) chain

-- units were derived twice
pub DerivesUnits-twice : (old mid new : HeldView) (told_old told_mid told_new : Option Told) → DerivesUnits old mid told_old told_mid → DerivesUnits mid new told_mid told_new → DerivesUnits old new told_old told_new
DerivesUnits-twice old mid new told_old told_mid told_new one two = record {
  root = elim two.root [
    | inl level ↦ inl level
    | inr same ↦ elim one.root [ inl level ↦ inl (two.level ∙ level) | inr first ↦ inr (same ∙ first) ]
  ];
  goes_on = λ start before search. two.goes_on start before (one.goes_on start before search);
  stay = StayKept-trans old.arena mid.arena new.arena one.stay two.stay;
  given = (let first = one.given in let second = two.given in omega arith);
  units = λ id c is. elim (two.units id c is) [
    | inl was ↦ one.units id c was
    | inr unit ↦ inr (unit.0, unit.1, sym (one.values unit.0) ∙ unit.2)
  ];
  vars = two.vars ∙ one.vars;
  level = two.level ∙ one.level;
  dead = two.dead ∙ one.dead;
  assigned = two.assigned ∙ one.assigned;
  variables = λ v. two.variables v ∙ one.variables v;
  values = λ l. two.values l ∙ one.values l;
}

some-rested : (v : ℕ) (id : ClauseId) (o : Option TrailEntry) → is_some (option_map (rested v id) o) ≡ is_some o
some-rested v id None = refl
some-rested v id (Some e) = refl

-- the unit clause of a true literal was told, held and made its reason
module _ (old mid new : HeldView) (l : Literal) (id : ClauseId) (flags : Flags) (told_old told_new : Option Told) (goes_on : GoesOn old mid told_old told_new) (stay : StayKept old.arena mid.arena) (held : mid ≡ with_held old (l ∷ []) flags) (fresh : clause_at old.arena id.0 ≡ None) (only : ChangesOnly old.arena mid.arena id.0 (Some (record { literals = l ∷ []; flags = flags }))) (rests : new ≡ record mid { trail = with_reason l.var id mid.trail }) (true_literal : value_under old.trail l ≡ True) (root : old.level ≡ 0) where
  trail : new.trail ≡ with_reason l.var id old.trail
  trail = ap (λ (h : HeldView). h.trail) rests ∙ ap (λ (h : HeldView). with_reason l.var id h.trail) held

  arena : new.arena ≡ mid.arena
  arena = ap (λ (h : HeldView). h.arena) rests

  pub DerivesUnits-one : DerivesUnits old new told_old told_new
  DerivesUnits-one = record {
    root = inl (ap (λ (h : HeldView). h.level) rests ∙ ap (λ (h : HeldView). h.level) held ∙ root);
    goes_on = λ start before search. subst (λ (h : HeldView). IsSearching start h before told_new) (sym rests) (IsSearching-moved start mid before told_new (with_reason l.var id mid.trail) mid.level (goes_on start before search));
    stay = subst (StayKept old.arena) (sym arena) stay;
    given = (let now : new.arena.given ≡ old.arena.given + 1 = ap (λ (a : ArenaView). a.given) arena ∙ ap (λ (h : HeldView). h.arena.given) held in omega arith);
    units = λ k c is. elim (added-held old.arena mid.arena id.0 (record { literals = l ∷ []; flags = flags }) fresh only k c (subst (λ (a : ArenaView). held_clause a k ≡ Some c) arena is)) [
      | inl last ↦ inr (l, sym last.1, true_literal)
      | inr was ↦ inl was
    ];
    vars = ap (λ (h : HeldView). h.vars) rests ∙ ap (λ (h : HeldView). h.vars) held;
    level = ap (λ (h : HeldView). h.level) rests ∙ ap (λ (h : HeldView). h.level) held;
    dead = ap (λ (h : HeldView). h.dead) rests ∙ ap (λ (h : HeldView). h.dead) held;
    assigned = ap (λ (t : Trail). length t) trail ∙ length-rested l.var id old.trail;
    variables = λ v. ap (λ (t : Trail). is_some (entry_of t v)) trail ∙ ap (λ (o : Option TrailEntry). is_some o) (entry_of-rested l.var id old.trail v) ∙ some-rested l.var id (entry_of old.trail v);
    values = λ m. ap (λ (t : Trail). value_under t m) trail ∙ value_under-rested l.var id old.trail m;
  }

-- clauses stay settled
settled-derived : (t u : Trail) (c : Clause) → ((l : Literal) → value_under u l ≡ value_under t l) → IsSettled t c → IsSettled u c
settled-derived t u c values (inl (l, has, is)) = inl (l, has, values l ∙ is)
settled-derived t u c values (inr (l, m, has_l, has_m, differ, free_l, free_m)) = inr (l, m, has_l, has_m, differ, values l ∙ free_l, values m ∙ free_m)

pub IsComplete-derived : (old new : HeldView) (told_old told_new : Option Told) → DerivesUnits old new told_old told_new → IsComplete old.arena old.trail → IsComplete new.arena new.trail
IsComplete-derived old new told_old told_new derived complete id c is = elim (derived.units id c is) [
  | inl was ↦ settled-derived old.trail new.trail c derived.values (complete id c was)
  | inr unit ↦ inl (unit.0, subst (λ (d : Clause). Contains d unit.0) (sym unit.1) (Contains-front unit.0 []), derived.values unit.0 ∙ unit.2)
]

-- the order stays ready
pub IsReady-derived : (old new : HeldView) (o : OrderView) (told_old told_new : Option Told) → DerivesUnits old new told_old told_new → IsReady old o → IsReady new o
IsReady-derived old new o told_old told_new derived ready = record {
  known = ready.known ∙ sym derived.vars;
  given_back = λ v free. ready.given_back v (
    let low : v < new.vars = free.0 in let vars : new.vars ≡ old.vars = derived.vars in omega arith,
    λ assigned. free.1 (derived.variables v ∙ assigned),
  );
}

-- assumptions stay true
pub before-derived : (old new : HeldView) (assumptions : Assumptions) (place : ℕ) (told_old told_new : Option Told) → DerivesUnits old new told_old told_new → AreTrueBefore old.trail assumptions place → AreTrueBefore new.trail assumptions place
before-derived old new assumptions place told_old told_new derived before p a low at = derived.values a.1 ∙ before p a low at

-- each decision is assumed still, or was made when all assumptions were true
pub decided-derived : (old new : HeldView) (assumptions : Assumptions) (told_old told_new : Option Told) → DerivesUnits old new told_old told_new → IsConsistent new → AreDecided assumptions old.trail → AreDecided assumptions new.trail
decided-derived old new assumptions told_old told_new derived ok decided = elim derived.root [
  | inl level ↦ decided-root assumptions new ok level
  | inr same ↦ subst (λ (h : HeldView). AreDecided assumptions h.trail) (sym same) decided
]
