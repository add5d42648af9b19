-- The lemmas of a search with a limit.
use Rattle.std.proofs.Common.{◌≡◌, ◌≢◌, inl, inr, ℕ, zero, suc, ◌+◌, ◌-◌, ◌<◌, Bool, true, false, List, [], ◌∷◌, ◌++◌, length, get_or, Contains, Option, Some, None, refl, sym, ap, subst, ◌∙◌, arith, eqb-true}
use Rattle.std.specs.Option.{option_map}
use Rattle.std.specs.Prelude.{IsTrue}
use Rattle.std.proofs.lemmas.Bool.{cases_lt, eqb-false}
use Rattle.std.proofs.lemmas.List.{get_or_append_left, get_or-append_right, length_push}
use Rattle.std.proofs.lemmas.List.Elements.{All-push}
use Rattle.craig_spec.specs.Literal.{Clause}
use Rattle.craig_spec.specs.Chain.{SameLiterals, Told}
use Rattle.craig_spec.specs.Occurs.{Occurs, occurs_in_clause}
use Rattle.craig_spec.specs.Truth.{Implies, clause_value}
use Rattle.craig_spec.proofs.ClauseLemmas.{SameLiterals-trans}
use Rattle.craig_base.specs.declared.flags.Flags.{Flags}
use Rattle.craig_base.specs.Arena.{ArenaView, ChangesOnly, FlaggedClause, OnlyReorders, clause_at, clauses_of}
use Rattle.craig_base.specs.Clauses.{IsNormal, IsTautology}
use Rattle.craig_base.specs.LemmaRule.{ContainsClause}
use Rattle.craig_base.proofs.FoundLemmas.{literals_of-Contains}
use Rattle.craig_base.proofs.LookUpLemmas.{added-here, added-kept}
use Rattle.craig_base.proofs.ReorderLemmas.{IsReordered-refl, IsReordered-trans}
use Rattle.craig_watch.specs.Held.{HeldView, held_clause}
use Rattle.craig_search.specs.Journal.{AreBelow, AreLemmas, IsKept, IsListed, StayKept}
use Rattle.craig_search.specs.StoredJournal.{MarksRepeat}
use Rattle.craig_search.specs.Searching.{IsNew, IsSearching}
use Rattle.craig_search.specs.Verdict.{IsLimited}

-- kept clauses stay: where nothing changes
pub StayKept-refl : (a : ArenaView) → StayKept a a
StayKept-refl a id c is kept = (c, is, IsReordered-refl c)

pub StayKept-trans : (a b c : ArenaView) → StayKept a b → StayKept b c → StayKept a c
StayKept-trans a b c one two id f is kept =
    let p = one id f is kept in
    let q = two id p.0 p.1 (ap (λ (g : Flags). g.kept) p.2.flags ∙ kept) in
    (q.0, q.1, IsReordered-trans f p.0 q.0 p.2 q.2)

-- where clauses change the order of their literals
pub StayKept-reordered : (a b : ArenaView) → OnlyReorders a b → StayKept a b
StayKept-reordered a b only id c is kept = only.stays id c is

-- and where one more is held
pub StayKept-added : (a b : ArenaView) (id : ℕ) (f : FlaggedClause) → clause_at a id ≡ None → ChangesOnly a b id (Some f) → StayKept a b
StayKept-added a b id f fresh only k c is kept = (c, added-kept a b id f fresh only k c is, IsReordered-refl c)

IsKept-stays : (a b : ArenaView) → StayKept a b → (c : Clause) → IsKept a c → IsKept b c
IsKept-stays a b stay c (id, d, is, kept, same) =
    let p = stay id d is kept in
    (id, p.0, p.1, ap (λ (g : Flags). g.kept) p.2.flags ∙ kept, SameLiterals-trans c d.literals p.0.literals same p.2.literals)

AreLemmas-start : (a : ArenaView) → AreLemmas a a []
AreLemmas-start a = record {
  rule = record {
    implied = λ k d within. absurd (omega (arith, within));
    known = λ k d within. absurd (omega (arith, within));
    not_tautology = λ k d within. absurd (omega (arith, within));
    new = λ k d within. absurd (omega (arith, within));
    few = λ i j k d before later within. absurd (omega (arith, within));
  };
  normal = λ k d within. absurd (omega (arith, within));
  twice = λ i j d before within. absurd (omega (arith, within));
}

AreLemmas-stays : (start a b : ArenaView) (lemmas : List Clause) → StayKept a b → AreLemmas start a lemmas → AreLemmas start b lemmas
AreLemmas-stays start a b lemmas stay are = record {
  rule = are.rule;
  normal = are.normal;
  twice = λ i j d before within same. IsKept-stays a b stay (get_or lemmas i d) (are.twice i j d before within same);
}

push-at : (lemmas : List Clause) (c : Clause) (k : ℕ) (d : Clause) → k < length lemmas → get_or (lemmas ++ c ∷ []) k d ≡ get_or lemmas k d
push-at lemmas c k d low = get_or_append_left lemmas (c ∷ []) d k low

push-last : (lemmas : List Clause) (c : Clause) (k : ℕ) (d : Clause) → k ≡ length lemmas → get_or (lemmas ++ c ∷ []) k d ≡ c
push-last lemmas c k d is =
    let none : k - length lemmas ≡ 0 = omega (arith, is) in
    get_or-append_right lemmas (c ∷ []) (length lemmas) k d refl (omega (arith, is)) ∙ ap (λ (n : ℕ). get_or (c ∷ []) n d) none

-- one clause more, which contains none that was held, and is marked as kept where its literals stand in the list
module _ (start old new : HeldView) (before told told_new : Option Told) (id : ℕ) (f : FlaggedClause) (lemmas : List Clause) (search : IsSearching start old before told) (after : IsSearching start new before told_new) (fresh : clause_at old.arena id ≡ None) (only : ChangesOnly old.arena new.arena id (Some f)) (sound : IsNormal f.literals) (none : IsNew old.arena f.literals) (marked : MarksRepeat lemmas f.literals f.flags.kept) (are : AreLemmas start.arena old.arena lemmas) where
  held-now : held_clause new.arena id ≡ Some f.literals
  held-now = ap (option_map (λ (g : FlaggedClause). g.literals)) (added-here old.arena new.arena id f fresh only)

  not-contained : (c : Clause) → Contains (clauses_of start.arena) c → ContainsClause f.literals c → ⊥
  not-contained c here contains =
      let p = literals_of-Contains start.arena c search.lent here in
      let q = search.kept p.0 c p.1 in
      none p.0 q.0 q.1 (λ l has. contains l ((q.2 l).1 has))

  not-third : (c : Clause) → IsKept old.arena c → SameLiterals c f.literals → ⊥
  not-third c (k, d, is, kept, same) also =
      none k d.literals (ap (option_map (λ (g : FlaggedClause). g.literals)) is) (λ l has. (also l).0 ((same l).1 has))

  stays : StayKept old.arena new.arena
  stays = StayKept-added old.arena new.arena id f fresh only

  few-more : (i j k : ℕ) (d : Clause) → i < j → j < k → k < length (lemmas ++ f.literals ∷ []) → SameLiterals (get_or (lemmas ++ f.literals ∷ []) i d) (get_or (lemmas ++ f.literals ∷ []) j d) → SameLiterals (get_or (lemmas ++ f.literals ∷ []) j d) (get_or (lemmas ++ f.literals ∷ []) k d) → ⊥
  few-more i j k d low high within same again =
      let size : length (lemmas ++ f.literals ∷ []) ≡ length lemmas + 1 = length_push lemmas f.literals in
      let one : get_or (lemmas ++ f.literals ∷ []) i d ≡ get_or lemmas i d = push-at lemmas f.literals i d (omega (arith, low, high, within, size)) in
      let other : get_or (lemmas ++ f.literals ∷ []) j d ≡ get_or lemmas j d = push-at lemmas f.literals j d (omega (arith, high, within, size)) in
      let both : SameLiterals (get_or lemmas i d) (get_or lemmas j d) = subst (λ (c : Clause). SameLiterals c (get_or lemmas j d)) one (subst (SameLiterals (get_or (lemmas ++ f.literals ∷ []) i d)) other same) in
      let more : SameLiterals (get_or lemmas j d) (get_or (lemmas ++ f.literals ∷ []) k d) = subst (λ (c : Clause). SameLiterals c (get_or (lemmas ++ f.literals ∷ []) k d)) other again in
      elim (cases_lt k (length lemmas)) [
        | inl inside ↦ are.rule.few i j k d low high inside both (subst (SameLiterals (get_or lemmas j d)) (push-at lemmas f.literals k d inside) more)
        | inr last ↦
            let third : SameLiterals (get_or lemmas j d) f.literals = subst (SameLiterals (get_or lemmas j d)) (push-last lemmas f.literals k d (omega (arith, last, within, size))) more in
            not-third (get_or lemmas i d) (are.twice i j d low (omega (arith, high, within, size)) both) (SameLiterals-trans (get_or lemmas i d) (get_or lemmas j d) f.literals both third)
      ]

  twice-more : (i j : ℕ) (d : Clause) → i < j → j < length (lemmas ++ f.literals ∷ []) → SameLiterals (get_or (lemmas ++ f.literals ∷ []) i d) (get_or (lemmas ++ f.literals ∷ []) j d) → IsKept new.arena (get_or (lemmas ++ f.literals ∷ []) i d)
  twice-more i j d low within same =
      let size : length (lemmas ++ f.literals ∷ []) ≡ length lemmas + 1 = length_push lemmas f.literals in
      let first : i < length lemmas = omega (arith, low, within, size) in
      let one : get_or (lemmas ++ f.literals ∷ []) i d ≡ get_or lemmas i d = push-at lemmas f.literals i d first in
      let more : SameLiterals (get_or lemmas i d) (get_or (lemmas ++ f.literals ∷ []) j d) = subst (λ (c : Clause). SameLiterals c (get_or (lemmas ++ f.literals ∷ []) j d)) one same in
      subst (IsKept new.arena) (sym one) (elim (cases_lt j (length lemmas)) [
        | inl inside ↦ IsKept-stays old.arena new.arena stays (get_or lemmas i d) (are.twice i j d low inside (subst (SameLiterals (get_or lemmas i d)) (push-at lemmas f.literals j d inside) more))
        | inr last ↦
            let also : SameLiterals (get_or lemmas i d) f.literals = subst (SameLiterals (get_or lemmas i d)) (push-last lemmas f.literals j d (omega (arith, last, within, size))) more in
            (id, f, added-here old.arena new.arena id f fresh only, marked are.normal sound i d first also, also)
      ])

  pub AreLemmas-learnt : AreLemmas start.arena new.arena (lemmas ++ f.literals ∷ [])
  AreLemmas-learnt = record {
    rule = record {
      implied = All-push (λ c. Implies (clauses_of start.arena) (λ s. IsTrue (clause_value s c))) lemmas f.literals are.rule.implied (after.leaves.implied id f.literals held-now);
      known = All-push (λ c. (x : ℕ) → IsTrue (occurs_in_clause x c) → Occurs x (clauses_of start.arena)) lemmas f.literals are.rule.known (λ x occurs. after.leaves.variables id x f.literals held-now occurs);
      not_tautology = All-push (λ c. ¬ IsTautology c) lemmas f.literals are.rule.not_tautology sound.not_tautology;
      new = All-push (λ c. (d : Clause) → Contains (clauses_of start.arena) d → ¬ ContainsClause c d) lemmas f.literals are.rule.new not-contained;
      few = few-more;
    };
    normal = All-push IsNormal lemmas f.literals are.normal sound;
    twice = twice-more;
  }

-- fewer than the limit: at the start
some-other : (n m : ℕ) → n ≡ m → Some n ≡ Some m
some-other n m is = ap (λ (k : ℕ). Some k) is

pub AreBelow-start : (limit : Option ℕ) (a : ArenaView) → limit ≢ Some 0 → AreBelow limit a a []
AreBelow-start None a not_zero = tt
AreBelow-start (Some zero) a not_zero = absurd (not_zero refl)
AreBelow-start (Some (suc n)) a not_zero = (AreLemmas-start a, omega arith)

-- as long as kept clauses stay
pub AreBelow-stays : (limit : Option ℕ) (start a b : ArenaView) (lemmas : List Clause) → StayKept a b → AreBelow limit start a lemmas → AreBelow limit start b lemmas
AreBelow-stays None start a b lemmas stay are = tt
AreBelow-stays (Some n) start a b lemmas stay are = (AreLemmas-stays start a b lemmas stay are.0, are.1)

-- after a lemma that doesn't meet the limit
pub AreBelow-listed : (limit : Option ℕ) (start a b : ArenaView) (c : Clause) (lemmas more : List Clause) (met : Bool) → AreBelow limit start a lemmas → (AreLemmas start a lemmas → AreLemmas start b (lemmas ++ c ∷ [])) → IsListed limit c lemmas more met → met ≡ false → AreBelow limit start b more
AreBelow-listed None start a b c lemmas more met are next listed other = tt
AreBelow-listed (Some n) start a b c lemmas more met are next listed other =
    let size : length (lemmas ++ c ∷ []) ≡ length lemmas + 1 = length_push lemmas c in
    let longer : length more ≡ length (lemmas ++ c ∷ []) = ap (λ (cs : List Clause). length cs) listed.0 in
    let differs : length more ≢ n = eqb-false (length more) n (sym listed.1 ∙ other) in
    let few : length lemmas < n = are.1 in
    (subst (AreLemmas start b) (sym listed.0) (next are.0), omega arith)

-- and after one that does
pub IsLimited-listed : (limit : Option ℕ) (start : HeldView) (a b : ArenaView) (c : Clause) (lemmas more : List Clause) (met : Bool) → AreBelow limit start.arena a lemmas → (AreLemmas start.arena a lemmas → AreLemmas start.arena b (lemmas ++ c ∷ [])) → IsListed limit c lemmas more met → met ≡ true → IsLimited start limit more
IsLimited-listed None start a b c lemmas more met are next listed is = absurd (let no : false ≡ true = sym listed.1 ∙ is in cc)
IsLimited-listed (Some n) start a b c lemmas more met are next listed is =
    let same : length more ≡ n = eqb-true (length more) n (sym listed.1 ∙ is) in
    let all = subst (AreLemmas start.arena b) (sym listed.0) (next are.0) in
    record { many = some-other n (length more) (sym same); rule = all.rule; normal = all.normal }
