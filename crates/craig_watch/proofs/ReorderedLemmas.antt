-- A clause two of whose literals change their places: what is found in the arena, and that all stays consistent.
use Rattle.std.proofs.Common.{◌≡◌, ◌≢◌, ◌⊎◌, inl, inr, ℕ, ◌<◌, Bool, true, false, cond, eqb, length, swap, Some, refl, sym, ap, subst, ◌∙◌, arith, eqb-true}
use Rattle.std.specs.Option.{option_map}
use Rattle.std.proofs.lemmas.Bool.{eqb-false}
use Rattle.std.proofs.lemmas.List.Edits.{length-swap}
use Rattle.craig_spec.specs.Literal.{Literal, Clause}
use Rattle.craig_spec.specs.Chain.{SameLiterals}
use Rattle.craig_spec.proofs.ClauseLemmas.{SameLiterals-refl, SameLiterals-sym, All-same_literals}
use Rattle.craig_base.specs.Arena.{ArenaView, FlaggedClause, IsArena, IsReordered, OnlyReorders, ChangesClause, clause_at}
use Rattle.craig_base.specs.Clauses.{IsNormal}
use Rattle.craig_base.proofs.LookUpLemmas.{flagged}
use Rattle.craig_base.proofs.ReorderLemmas.{IsReordered-refl}
use Rattle.craig_watch.specs.Trail.{Trail, decisions}
use Rattle.craig_watch.specs.Held.{HeldView, held_clause, IsSettled, Forces, IsConsistent}
use Rattle.craig_watch.proofs.SwapLemmas.{SameLiterals-swap, IsNormal-swap}

-- clauses stay but for the order of their literals, and stay normal
pub record Reorders (a b : ArenaView) : Type 0 where
  pub only : OnlyReorders a b
  pub was : (id : ℕ) (d : Clause) → held_clause b id ≡ Some d → (c : Clause) × (held_clause a id ≡ Some c) × SameLiterals c d × (IsNormal c → IsNormal d) × (length d ≡ length c)
  pub kept : (id : ℕ) (c : Clause) → held_clause a id ≡ Some c → (d : Clause) × (held_clause b id ≡ Some d) × SameLiterals c d

abbrev pub swapped : ℕ → ℕ → FlaggedClause → FlaggedClause
swapped i j x = record { literals = swap x.literals i j; flags = x.flags }

here-cases : (a b : ArenaView) (k id : ℕ) (i j : ℕ) (c d : Clause) (t : Bool) → eqb k id ≡ t → clause_at b k ≡ cond t (option_map (swapped i j) (clause_at a id)) (clause_at a k) → held_clause a id ≡ Some c → held_clause b k ≡ Some d → ((k ≢ id) × (held_clause a k ≡ Some d)) ⊎ ((k ≡ id) × (swap c i j ≡ d))
here-cases a b k id i j c d true is at held now =
    let g = flagged (clause_at a id) c held in
    let new : held_clause b k ≡ Some (swap g.0.literals i j) = ap (option_map (λ (f : FlaggedClause). f.literals)) (at ∙ ap (option_map (swapped i j)) g.1) in
    let same : Some (swap g.0.literals i j) ≡ Some d = sym new ∙ now in
    let one : swap g.0.literals i j ≡ d = cc in
    inr (eqb-true k id is, ap (λ (x : Clause). swap x i j) (sym g.2) ∙ one)
here-cases a b k id i j c d false is at held now = inl (eqb-false k id is, sym (ap (option_map (λ (f : FlaggedClause). f.literals)) at) ∙ now)

there-cases : (a b : ArenaView) (k id : ℕ) (i j : ℕ) (c e : Clause) (t : Bool) → eqb k id ≡ t → clause_at b k ≡ cond t (option_map (swapped i j) (clause_at a id)) (clause_at a k) → held_clause a id ≡ Some c → held_clause a k ≡ Some e → ((k ≢ id) × (held_clause b k ≡ Some e)) ⊎ ((k ≡ id) × (e ≡ c) × (held_clause b k ≡ Some (swap c i j)))
there-cases a b k id i j c e true is at held was =
    let g = flagged (clause_at a id) c held in
    let new : held_clause b k ≡ Some (swap g.0.literals i j) = ap (option_map (λ (f : FlaggedClause). f.literals)) (at ∙ ap (option_map (swapped i j)) g.1) in
    let both : Some e ≡ Some c = sym was ∙ ap (held_clause a) (eqb-true k id is) ∙ held in
    inr (eqb-true k id is, (let same : e ≡ c = cc in same), new ∙ ap (λ (x : Clause). Some (swap x i j)) g.2)
there-cases a b k id i j c e false is at held was = inl (eqb-false k id is, ap (option_map (λ (f : FlaggedClause). f.literals)) at ∙ was)

stays-cases : (a b : ArenaView) (k id : ℕ) (i j : ℕ) (c : Clause) (x : FlaggedClause) (t : Bool) → eqb k id ≡ t → clause_at b k ≡ cond t (option_map (swapped i j) (clause_at a id)) (clause_at a k) → held_clause a id ≡ Some c → i < length c → j < length c → clause_at a k ≡ Some x → (y : FlaggedClause) × (clause_at b k ≡ Some y) × IsReordered x y
stays-cases a b k id i j c x true is at held low_i low_j was =
    let found : clause_at a id ≡ Some x = ap (clause_at a) (sym (eqb-true k id is)) ∙ was in
    let both : Some x.literals ≡ Some c = sym (ap (option_map (λ (f : FlaggedClause). f.literals)) found) ∙ held in
    let same : x.literals ≡ c = cc in
    let long : length x.literals ≡ length c = ap length same in
    (swapped i j x, at ∙ ap (option_map (swapped i j)) found, record { literals = SameLiterals-swap x.literals i j (omega arith) (omega arith); flags = refl })
stays-cases a b k id i j c x false is at held low_i low_j was = (x, at ∙ was, IsReordered-refl x)

stood-cases : (a b : ArenaView) (k id : ℕ) (i j : ℕ) (c : Clause) (y : FlaggedClause) (t : Bool) → eqb k id ≡ t → clause_at b k ≡ cond t (option_map (swapped i j) (clause_at a id)) (clause_at a k) → held_clause a id ≡ Some c → i < length c → j < length c → clause_at b k ≡ Some y → (x : FlaggedClause) × (clause_at a k ≡ Some x) × IsReordered x y
stood-cases a b k id i j c y true is at held low_i low_j now =
    let g = flagged (clause_at a id) c held in
    let new : clause_at b k ≡ Some (swapped i j g.0) = at ∙ ap (option_map (swapped i j)) g.1 in
    let both : Some (swapped i j g.0) ≡ Some y = sym new ∙ now in
    let same : swapped i j g.0 ≡ y = cc in
    let long : length g.0.literals ≡ length c = ap length g.2 in
    (g.0, ap (clause_at a) (eqb-true k id is) ∙ g.1, subst (IsReordered g.0) same (record { literals = SameLiterals-swap g.0.literals i j (omega arith) (omega arith); flags = refl }))
stood-cases a b k id i j c y false is at held low_i low_j now = (y, sym at ∙ now, IsReordered-refl y)

module _ (a b : ArenaView) (id : ℕ) (c : Clause) (i j : ℕ) (held : held_clause a id ≡ Some c) (only : ChangesClause a b id (swapped i j)) where
  -- what is found now
  pub swapped-here : (k : ℕ) (d : Clause) → held_clause b k ≡ Some d → ((k ≢ id) × (held_clause a k ≡ Some d)) ⊎ ((k ≡ id) × (swap c i j ≡ d))
  swapped-here k d now = here-cases a b k id i j c d (eqb k id) refl (only k) held now

  -- and what was found
  pub swapped-there : (k : ℕ) (e : Clause) → held_clause a k ≡ Some e → ((k ≢ id) × (held_clause b k ≡ Some e)) ⊎ ((k ≡ id) × (e ≡ c) × (held_clause b k ≡ Some (swap c i j)))
  swapped-there k e was = there-cases a b k id i j c e (eqb k id) refl (only k) held was

  pub Reorders-swapped : b.given ≡ a.given → i < length c → j < length c → Reorders a b
  Reorders-swapped given low_i low_j = record {
    only = record {
      given = given;
      stays = λ k x was. stays-cases a b k id i j c x (eqb k id) refl (only k) held low_i low_j was;
      stood = λ k y now. stood-cases a b k id i j c y (eqb k id) refl (only k) held low_i low_j now;
    };
    was = λ k d now. elim (swapped-here k d now) [
      | inl other ↦ (d, other.1, SameLiterals-refl d, (λ ok. ok), refl)
      | inr this ↦ (c, ap (held_clause a) this.0 ∙ held, subst (SameLiterals c) this.1 (SameLiterals-swap c i j low_i low_j), (λ ok. subst IsNormal this.1 (IsNormal-swap c i j low_i low_j ok)), ap length (sym this.1) ∙ length-swap c i j)
    ];
    kept = λ k e was. elim (swapped-there k e was) [
      | inl other ↦ (e, other.1, SameLiterals-refl e)
      | inr this ↦ (swap c i j, this.2, subst (λ (x : Clause). SameLiterals x (swap c i j)) (sym this.1) (SameLiterals-swap c i j low_i low_j))
    ];
  }

Forces-same : (t : Trail) (c d : Clause) (l : Literal) → SameLiterals c d → Forces t c l → Forces t d l
Forces-same t c d l same f = record { has = (same l).0 f.has; others = λ m has ne. f.others m ((same m).1 has) ne }

IsSettled-same : (t : Trail) (c d : Clause) → SameLiterals c d → IsSettled t c → IsSettled t d
IsSettled-same t c d same (inl (l, has, is)) = inl (l, (same l).0 has, is)
IsSettled-same t c d same (inr (l, m, has_l, has_m, differ, free_l, free_m)) = inr (l, m, (same l).0 has_l, (same m).0 has_m, differ, free_l, free_m)

-- all stays consistent
pub IsConsistent-reordered : (h : HeldView) (b : ArenaView) → IsConsistent h → IsArena b → Reorders h.arena b → IsConsistent (record { arena = b; vars = h.vars; trail = h.trail; level = decisions h.trail; dead = h.dead })
IsConsistent-reordered h b ok arena r = record {
  few = ok.few;
  arena = arena;
  clauses = λ id d is.
      let c = r.was id d is in
      let old = ok.clauses id c.0 c.1 in
      (c.3 old.0, All-same_literals (λ l. l.var < h.vars) d c.0 (SameLiterals-sym c.0 d c.2) old.1);
  known = ok.known;
  distinct = ok.distinct;
  levels = ok.levels;
  level = refl;
  justified = λ k d w id is.
      let j = ok.justified k d w id is in
      let e = r.kept id.0 j.0 j.1 in
      (e.0, e.1, Forces-same _ j.0 e.0 _ e.2 j.2);
  complete = λ l w id d is. let c = r.was id d is in IsSettled-same _ c.0 d c.2 (ok.complete l (rw ok.level w) id c.0 c.1);
}
