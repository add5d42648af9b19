-- Clauses that are no reason.
use Rattle.std.proofs.Common.{arith, ◌≤◌, ◌≡◌, ◌≢◌, ℕ, ◌<◌, length, get_or, All, Contains, Some, sym, subst, ◌∙◌}
use Rattle.craig_spec.specs.Literal.{Literal, Clause}
use Rattle.craig_base.specs.declared.clause_id.ClauseId.{ClauseId}
use Rattle.craig_base.specs.Arena.{ArenaView, IsLive, clause_at, literals_at}
use Rattle.craig_base.proofs.LookUpLemmas.{live-literals}
use Rattle.craig_watch.specs.declared.trail_entry.TrailEntry.{TrailEntry}
use Rattle.craig_watch.specs.Trail.{entry_of}
use Rattle.craig_watch.specs.Held.{HeldView, IsConsistent, held_clause}
use Rattle.craig_watch.proofs.TrailLemmas.{entry_of-at}
use Rattle.craig_search.specs.Reducing.{IsNotForcedBy}

-- the literals of the clause are found
pub live-found : (a : ArenaView) (id : ℕ) → IsLive a id → held_clause a id ≡ Some (literals_at a id)
live-found a id live = live-literals (clause_at a id) live

-- a literal of a held clause is of a known variable
pub known-literal : (h : HeldView) (id k : ℕ) (l : Literal) (c : Clause) → IsConsistent h → IsLive h.arena id → c ≡ literals_at h.arena id → k < length c → l ≡ get_or c k l → l.var < h.vars
known-literal h id k l c ok live is within at =
    let all = (ok.clauses id (literals_at h.arena id) (live-found h.arena id live)).1 in
    let here : All (λ (m : Literal). m.var < h.vars) c = subst (All (λ (m : Literal). m.var < h.vars)) (sym is) all in
    subst (λ (m : Literal). m.var < h.vars) (sym at) (here k l within)

-- a clause of which no literal was forced by it is no reason
pub not-reason : (h : HeldView) (id : ClauseId) (c : Clause) (bound : ℕ) → IsConsistent h → IsLive h.arena id.0 → c ≡ literals_at h.arena id.0 → length c ≤ bound → ((k : ℕ) (d : Literal) → k < bound → IsNotForcedBy h.trail id (get_or (literals_at h.arena id.0) k d)) → All (λ e. e.reason ≢ Some id) h.trail
not-reason h id c bound ok live is le none k d within reason =
    let e : TrailEntry = get_or h.trail k d in
    let p = ok.justified k d within id reason in
    let same : Some p.0 ≡ Some (literals_at h.arena id.0) = sym p.1 ∙ live-found h.arena id.0 live in
    let clause : p.0 ≡ literals_at h.arena id.0 = cc in
    let has = subst (λ (xs : Clause). Contains xs e.literal) clause p.2.has in
    let low : has.0 < length c = subst (λ (xs : Clause). has.0 < length xs) (sym is) has.1 in
    none has.0 e.literal (omega arith) e (subst (λ (l : Literal). entry_of h.trail l.var ≡ Some e) (sym has.2) (entry_of-at h.trail k d ok.distinct within)) (sym has.2) reason
