-- The lists have the clauses that their literals watch, when a watch moves and when a clause comes or goes.
use Rattle.std.proofs.Common.{◌≡◌, ◌≢◌, ◌⊎◌, inl, inr, ℕ, suc, ◌+◌, ◌*◌, ◌<◌, ◌≤◌, List, [], ◌∷◌, ◌++◌, length, get_or, swap, AllPairs, Contains, Some, refl, sym, ap, subst, ◌∙◌, arith}
use Rattle.std.proofs.lemmas.Bool.Decides.{leb_tells}
use Rattle.std.proofs.lemmas.List.{length_push, get_or_append_left}
use Rattle.std.proofs.lemmas.List.Elements.{Contains-append_left, Contains-push, Contains-push_cases, Contains-get_or}
use Rattle.std.proofs.lemmas.List.Quantifiers.{all_pairs_push}
use Rattle.std.proofs.Math.Seq.{get_or-append_seam}
use Rattle.craig_spec.specs.Literal.{Literal, Clause}
use Rattle.craig_spec.specs.Chain.{SameLiterals}
use Rattle.craig_spec.proofs.LiteralLemmas.{same_or_not}
use Rattle.craig_base.specs.declared.clause_id.ClauseId.{ClauseId}
use Rattle.craig_base.specs.Arena.{ArenaView, ChangesClause}
use Rattle.craig_watch.specs.declared.beside.Beside.{Beside}
use Rattle.craig_watch.specs.declared.beside.Beside.TheVariants.{Other, Blocker}
use Rattle.craig_watch.specs.Held.{held_clause}
use Rattle.craig_watch.specs.Watches.{WatchListView, IsTakenOut, IsWatch, Watches, AreWatchers, IsBeside, IsBesideOf, AreListed, ChangesList, TakesWatch, list_of, with_watch}
use Rattle.craig_watch.proofs.SwapLemmas.{differ-at, IsWatch-new, IsWatch-kept, IsWatch-moved}
use Rattle.craig_watch.proofs.TakenLemmas.{taken-from, Contains-taken, Contains-left, distinct-taken}
use Rattle.craig_watch.proofs.ReorderedLemmas.{Reorders, swapped, swapped-here, swapped-there}

-- the list is right of the literal
pub record IsRightList (a : ArenaView) (l : Literal) (w : WatchListView) : Type 0 where
  pub watchers : AreWatchers a l w.ids
  pub in_step : length w.beside ≡ length w.ids
  pub beside : (k : ℕ) (d : ClauseId) (e : Beside) → k < length w.ids → IsBesideOf a l (get_or w.ids k d) (get_or w.beside k e)

pub right-list : (a : ArenaView) (vars : ℕ) (lists : List WatchListView) (l : Literal) → AreListed a vars lists → IsRightList a l (list_of lists l)
right-list a vars lists l h = record { watchers = h.watchers l; in_step = h.in_step l; beside = h.beside l }

pub listed-from : (a : ArenaView) (vars : ℕ) (lists : List WatchListView) → 2 * vars ≤ length lists → ((l : Literal) → IsRightList a l (list_of lists l)) → AreListed a vars lists
listed-from a vars lists sized h = record { sized = sized; watchers = λ l. (h l).watchers; in_step = λ l. (h l).in_step; beside = λ l. (h l).beside }

pub same-id : (i j : ClauseId) → i.0 ≡ j.0 → i ≡ j
same-id i j is = λ k. record { 0 = is k }

-- nothing changes in it
pub right-same : (a b : ArenaView) (l : Literal) (w : WatchListView) → IsRightList a l w → ((k : ℕ) → Watches a k l → Watches b k l) → ((k : ℕ) → Watches b k l → Watches a k l) → ((k : ClauseId) (e : Beside) → Contains w.ids k → IsBesideOf a l k e → IsBesideOf b l k e) → IsRightList b l w
right-same a b l w h forth back beside = record {
  watchers = record { distinct = h.watchers.distinct; exact = λ id. (λ has. forth id.0 ((h.watchers.exact id).0 has), λ is. (h.watchers.exact id).1 (back id.0 is)) };
  in_step = h.in_step;
  beside = λ k d e low. beside (get_or w.ids k d) (get_or w.beside k e) (Contains-get_or w.ids k d low) (h.beside k d e low);
}

-- one entry more
pub right-pushed : (a b : ArenaView) (l : Literal) (w : WatchListView) (id : ClauseId) (e : Beside) → IsRightList a l w → (Watches a id.0 l → ⊥) → Watches b id.0 l → ((k : ℕ) → Watches a k l → Watches b k l) → ((k : ℕ) → Watches b k l → (k ≡ id.0) ⊎ Watches a k l) → ((k : ClauseId) (e : Beside) → Contains w.ids k → IsBesideOf a l k e → IsBesideOf b l k e) → IsBesideOf b l id e → IsRightList b l (with_watch w id e)
right-pushed a b l w id e h fresh new forth back beside right =
    let long : length (w.ids ++ id ∷ []) ≡ length w.ids + 1 = length_push w.ids id in
    let long_too : length (w.beside ++ e ∷ []) ≡ length w.beside + 1 = length_push w.beside e in
    let step : length w.beside ≡ length w.ids = h.in_step in
    record {
      watchers = record {
        distinct = all_pairs_push (λ i j. i ≢ j) w.ids id h.watchers.distinct (λ k d low same. fresh ((h.watchers.exact id).0 (subst (Contains w.ids) same (Contains-get_or w.ids k d low))));
        exact = λ x. (
          λ has. elim (Contains-push_cases w.ids id x has) [ inl old ↦ forth x.0 ((h.watchers.exact x).0 old) | inr same ↦ subst (λ (y : ClauseId). Watches b y.0 l) same new ],
          λ is. elim (back x.0 is) [ inl same ↦ subst (Contains (w.ids ++ id ∷ [])) (sym (same-id x id same)) (Contains-push w.ids id) | inr old ↦ Contains-append_left w.ids (id ∷ []) x ((h.watchers.exact x).1 old) ],
        );
      };
      in_step = omega arith;
      beside = λ k d f low. elim (leb_tells (suc k) (length w.ids)) [
        | inl here ↦
            let within : k < length w.ids = here.1 in
            subst (λ (x : ClauseId). IsBesideOf b l x (get_or (w.beside ++ e ∷ []) k f)) (sym (get_or_append_left w.ids (id ∷ []) d k within))
            (subst (λ (y : Beside). IsBesideOf b l (get_or w.ids k d) y) (sym (get_or_append_left w.beside (e ∷ []) f k (omega arith)))
            (beside (get_or w.ids k d) (get_or w.beside k f) (Contains-get_or w.ids k d within) (h.beside k d f within)))
        | inr gone ↦
            let past : length w.ids < suc k = gone.1 in
            let is : k ≡ length w.ids = omega arith in
            let is_too : k ≡ length w.beside = omega arith in
            subst (λ (x : ClauseId). IsBesideOf b l x (get_or (w.beside ++ e ∷ []) k f)) (sym (ap (λ (n : ℕ). get_or (w.ids ++ id ∷ []) n d) is ∙ get_or-append_seam w.ids id [] d))
            (subst (λ (y : Beside). IsBesideOf b l id y) (sym (ap (λ (n : ℕ). get_or (w.beside ++ e ∷ []) n f) is_too ∙ get_or-append_seam w.beside e [] f)) right)
      ];
    }

one-place : (k index j i n m : ℕ) → n ≡ m → ((k ≢ index) × (j ≡ k)) ⊎ ((k ≡ index) × (j ≡ n)) → ((k ≢ index) × (i ≡ k)) ⊎ ((k ≡ index) × (i ≡ m)) → i ≡ j
one-place k index j i n m same (inl a) (inl b) = (let p = a.1 in let q = b.1 in omega arith)
one-place k index j i n m same (inl a) (inr b) = absurd (a.0 b.0)
one-place k index j i n m same (inr a) (inl b) = absurd (b.0 a.0)
one-place k index j i n m same (inr a) (inr b) = (let p = a.1 in let q = b.1 in omega arith)

-- one entry less
pub right-taken : (a b : ArenaView) (l : Literal) (w v : WatchListView) (id : ClauseId) (index : ℕ) → IsRightList a l w → IsTakenOut index w.ids v.ids → IsTakenOut index w.beside v.beside → index < length w.ids → ((d : ClauseId) → get_or w.ids index d ≡ id) → (Watches b id.0 l → ⊥) → ((k : ℕ) → k ≢ id.0 → Watches a k l → Watches b k l) → ((k : ℕ) → Watches b k l → Watches a k l) → ((k : ClauseId) (e : Beside) → Contains w.ids k → IsBesideOf a l k e → IsBesideOf b l k e) → IsRightList b l v
right-taken a b l w v id index h ids besides low entry gone forth back beside =
    let less = ids.less in
    let less_too = besides.less in
    let step : length w.beside ≡ length w.ids = h.in_step in
    record {
      watchers = record {
        distinct = distinct-taken index w.ids v.ids ids low h.watchers.distinct;
        exact = λ x. (
          λ has. let was = Contains-taken index w.ids v.ids x ids low h.watchers.distinct has in forth x.0 (λ same. was.1 (entry x ∙ sym (same-id x id same))) ((h.watchers.exact x).0 was.0),
          λ is. Contains-left index w.ids v.ids x ids low ((h.watchers.exact x).1 (back x.0 is)) (λ same. gone (subst (λ (y : ClauseId). Watches b y.0 l) (sym same ∙ entry x) is)),
        );
      };
      in_step = omega arith;
      beside = λ k d e within.
          let f = taken-from index w.ids v.ids k ids low within in
          let g = taken-from index w.beside v.beside k besides (omega arith) (omega arith) in
          let one : g.0 ≡ f.0 = one-place k index f.0 g.0 (length v.ids) (length v.beside) (omega arith) f.4 g.4 in
          let at : get_or v.beside k e ≡ get_or w.beside f.0 e = g.3 e ∙ ap (λ (n : ℕ). get_or w.beside n e) one in
          subst (λ (x : ClauseId). IsBesideOf b l x (get_or v.beside k e)) (sym (f.3 d))
          (subst (λ (y : Beside). IsBesideOf b l (get_or w.ids f.0 d) y) (sym at)
          (beside (get_or w.ids f.0 d) (get_or w.beside f.0 e) (Contains-get_or w.ids f.0 d f.1) (h.beside f.0 d e f.1)));
    }

-- what stands beside is right of the same literals in another order
IsBeside-same : (c d : Clause) (l : Literal) (e : Beside) → SameLiterals c d → IsBeside c l e → IsBeside d l e
IsBeside-same c d l (Other m) same p = record { one = (same l).0 p.one; other = (same m).0 p.other; only = λ x has. p.only x ((same x).1 has) }
IsBeside-same c d l (Blocker m) same has = (same m).0 has

pub IsBesideOf-reordered : (a b : ArenaView) (l : Literal) (id : ClauseId) (e : Beside) → Reorders a b → IsBesideOf a l id e → IsBesideOf b l id e
IsBesideOf-reordered a b l id e r h d now = let c = r.was id.0 d now in IsBeside-same c.0 d l e c.2 (h c.0 c.1)

-- the watches stay
pub AreListed-same : (a b : ArenaView) (vars : ℕ) (lists : List WatchListView) → AreListed a vars lists → Reorders a b → ((k : ℕ) (l : Literal) → Watches a k l → Watches b k l) → ((k : ℕ) (l : Literal) → Watches b k l → Watches a k l) → AreListed b vars lists
AreListed-same a b vars lists h r forth back =
    listed-from b vars lists h.sized (λ l. right-same a b l (list_of lists l) (right-list a vars lists l h) (λ k. forth k l) (λ k. back k l) (λ k e has. IsBesideOf-reordered a b l k e r))

-- a watch moves
module _ (a b : ArenaView) (id : ClauseId) (c : Clause) (i j : ℕ) (held : held_clause a id.0 ≡ Some c) (only : ChangesClause a b id.0 (swapped i j)) (r : Reorders a b) (first : i < 2) (later : 2 ≤ j) (within : j < length c) (apart : AllPairs (λ x y. x ≢ y) c) (old_one new_one : Literal) (is_old : (d : Literal) → get_or c i d ≡ old_one) (is_new : (d : Literal) → get_or c j d ≡ new_one) where
  pub differ : old_one ≢ new_one
  differ same = differ-at c i j old_one apart (omega arith) within (λ e. (let p : i ≡ j = e in omega arith)) (is_old old_one ∙ same ∙ sym (is_new old_one))

  pub watches-now : (k : ℕ) (l : Literal) → Watches b k l → ((k ≡ id.0) × (l ≡ new_one)) ⊎ (Watches a k l × (k ≡ id.0 → l ≢ old_one))
  watches-now k l w =
      elim (swapped-here a b id.0 c i j held only k w.clause w.held) [
        | inl other ↦ inr (record { clause = w.clause; held = other.1; watch = w.watch }, λ same. absurd (other.0 same))
        | inr this ↦ elim (IsWatch-moved c i j l first later within apart (subst (λ (d : Clause). IsWatch d l) (sym this.1) w.watch)) [
          | inl new ↦ inl (this.0, sym new ∙ is_new l)
          | inr old ↦ inr (record { clause = c; held = ap (held_clause a) this.0 ∙ held; watch = old.0 }, λ same e. old.1 (is_old l ∙ sym e))
        ]
      ]

  pub watches-kept : (k : ℕ) (l : Literal) → Watches a k l → (k ≡ id.0 → l ≢ old_one) → Watches b k l
  watches-kept k l w ne =
      elim (swapped-there a b id.0 c i j held only k w.clause w.held) [
        | inl other ↦ record { clause = w.clause; held = other.1; watch = w.watch }
        | inr this ↦ record { clause = swap c i j; held = this.2; watch = IsWatch-kept c i j l first later within (subst (λ (d : Clause). IsWatch d l) this.1 w.watch) (λ e. ne this.0 (sym e ∙ is_old l)) }
      ]

  watches-new : Watches b id.0 new_one
  watches-new =
      elim (swapped-there a b id.0 c i j held only id.0 c held) [
        | inl other ↦ absurd (other.0 refl)
        | inr this ↦ record { clause = swap c i j; held = this.2; watch = IsWatch-new c i j new_one first later within (is_new new_one) }
      ]

  new-fresh : Watches a id.0 new_one → ⊥
  new-fresh w =
      let both : Some w.clause ≡ Some c = sym w.held ∙ held in
      let same : w.clause ≡ c = cc in
      let f = w.watch.first in
      let at : get_or c w.watch.place new_one ≡ new_one = ap (λ (d : Clause). get_or d w.watch.place new_one) (sym same) ∙ w.watch.at in
      differ-at c w.watch.place j new_one apart (omega arith) within (λ e. (let p : w.watch.place ≡ j = e in omega arith)) (at ∙ sym (is_new new_one))

  old-gone : Watches b id.0 old_one → ⊥
  old-gone w = elim (watches-now id.0 old_one w) [ inl new ↦ differ new.1 | inr old ↦ old.1 refl refl ]

  pub AreListed-moved : (vars : ℕ) (lists mid new : List WatchListView) (index : ℕ) (e : Beside) → AreListed a vars lists → ChangesList lists mid new_one (with_watch (list_of lists new_one) id e) → TakesWatch mid new old_one index → index < length (list_of lists old_one).ids → ((d : ClauseId) → get_or (list_of lists old_one).ids index d ≡ id) → IsBesideOf a new_one id e → AreListed b vars new
  AreListed-moved vars lists mid new index e h pushed taken low entry right =
      let sized = h.sized in
      let one = pushed.sized in
      let two = taken.sized in
      let before : list_of mid old_one ≡ list_of lists old_one = pushed.others old_one differ in
      let after : list_of new new_one ≡ with_watch (list_of lists new_one) id e = taken.others new_one (λ same. differ (sym same)) ∙ pushed.here in
      listed-from b vars new (omega arith) (λ l. elim (same_or_not l new_one) [
        | inl same ↦ subst (λ (m : Literal). IsRightList b m (list_of new m)) (sym same)
            (subst (IsRightList b new_one) (sym after)
            (right-pushed a b new_one (list_of lists new_one) id e (right-list a vars lists new_one h) new-fresh watches-new
            (λ k w. watches-kept k new_one w (λ is same. differ (sym same)))
            (λ k w. elim (watches-now k new_one w) [ inl new ↦ inl new.0 | inr old ↦ inr old.0 ])
            (λ k f has. IsBesideOf-reordered a b new_one k f r)
            (IsBesideOf-reordered a b new_one id e r right)))
        | inr not_new ↦ elim (same_or_not l old_one) [
          | inl same ↦ subst (λ (m : Literal). IsRightList b m (list_of new m)) (sym same)
              (right-taken a b old_one (list_of lists old_one) (list_of new old_one) id index (right-list a vars lists old_one h)
              (subst (λ (w : WatchListView). IsTakenOut index w.ids (list_of new old_one).ids) before taken.ids)
              (subst (λ (w : WatchListView). IsTakenOut index w.beside (list_of new old_one).beside) before taken.beside)
              low entry old-gone
              (λ k ne w. watches-kept k old_one w (λ is. absurd (ne is)))
              (λ k w. elim (watches-now k old_one w) [ inl new ↦ absurd (differ new.1) | inr old ↦ old.0 ])
              (λ k f has. IsBesideOf-reordered a b old_one k f r))
          | inr not_old ↦
              let is : list_of new l ≡ list_of lists l = taken.others l not_old ∙ pushed.others l not_new in
              subst (IsRightList b l) (sym is)
              (right-same a b l (list_of lists l) (right-list a vars lists l h)
              (λ k w. watches-kept k l w (λ is. not_old))
              (λ k w. elim (watches-now k l w) [ inl new ↦ absurd (not_new new.1) | inr old ↦ old.0 ])
              (λ k f has. IsBesideOf-reordered a b l k f r))
        ]
      ])
