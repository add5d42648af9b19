-- What a search keeps, through each of its steps.
use Rattle.std.proofs.Common.{◌≡◌, ℕ, Option, Some, None, ap, ◌∙◌}
use Rattle.std.specs.Option.{option_map}
use Rattle.craig_spec.specs.Literal.{Clause}
use Rattle.craig_spec.specs.Chain.{GivesSame, Told}
use Rattle.craig_spec.proofs.ClauseLemmas.{SameLiterals-refl, SameLiterals-trans}
use Rattle.craig_base.specs.Arena.{ArenaView, ChangesOnly, FlaggedClause, OnlyReorders, clause_at}
use Rattle.craig_base.proofs.LookUpLemmas.{added-kept, flagged}
use Rattle.craig_base.proofs.ReorderLemmas.{GivesSame-reordered}
use Rattle.craig_watch.specs.Trail.{Trail}
use Rattle.craig_watch.specs.Held.{HeldView, IsConsistent, IsLengthened, held_clause}
use Rattle.craig_proof.specs.Covers.{IsCovering}
use Rattle.craig_search.specs.Searching.{IsSearching}
use Rattle.craig_search.proofs.LeavesLemmas.{Leaves-reordered, Leaves-start}
use Rattle.craig_search.proofs.TellsLemmas.{TellsLearnt-start}

-- what is held still after clauses changed the order of their literals
kept-reordered : (f : ℕ → Option Clause) (a b : ArenaView) (id : ℕ) → GivesSame f (held_clause a) id → OnlyReorders a b → GivesSame f (held_clause b) id
kept-reordered f a b id kept only d is =
    let p = kept d is in
    let q = GivesSame-reordered a b only id p.0 p.1 in
    (q.0, q.1, SameLiterals-trans d p.0 q.0 p.2 q.2)

-- and after one clause more is held
pub kept-learnt : (f : ℕ → Option Clause) (a b : ArenaView) (id k : ℕ) (c : FlaggedClause) → GivesSame f (held_clause a) k → clause_at a id ≡ None → ChangesOnly a b id (Some c) → GivesSame f (held_clause b) k
kept-learnt f a b id k c kept fresh only d is =
    let p = kept d is in
    let g = flagged (clause_at a k) p.0 p.1 in
    (p.0, ap (option_map (λ (h : FlaggedClause). h.literals)) (added-kept a b id c fresh only k g.0 g.1) ∙ ap (λ (e : Clause). Some e) g.2, p.2)

pub IsSearching-start : (h : HeldView) (told : Option Told) → IsConsistent h → IsCovering told (held_clause h.arena) h.arena.given → IsSearching h h told told
IsSearching-start h told ok covers = record {
  lent = ok.arena;
  covered = covers;
  leaves = Leaves-start h ok;
  kept = λ id c is. (c, is, SameLiterals-refl c);
  tells = TellsLearnt-start h told;
}

-- after propagation
pub IsSearching-lengthened : (start old new : HeldView) (before by_now : Option Told) → IsSearching start old before by_now → IsLengthened old new → IsSearching start new before by_now
IsSearching-lengthened start old new before by_now search longer = record {
  lent = search.lent;
  covered = search.covered;
  leaves = Leaves-reordered start old new search.leaves longer.clauses longer.vars longer.dead;
  kept = λ id. kept-reordered (held_clause start.arena) old.arena new.arena id (search.kept id) longer.clauses;
  tells = search.tells;
}

-- after a change of the trail alone
pub IsSearching-moved : (start old : HeldView) (before by_now : Option Told) (t : Trail) (level : ℕ) → IsSearching start old before by_now → IsSearching start (record old { trail = t; level = level }) before by_now
IsSearching-moved start old before by_now t level search = record {
  lent = search.lent;
  covered = search.covered;
  leaves = record {
    vars = search.leaves.vars;
    dead = search.leaves.dead;
    given = search.leaves.given;
    stay = search.leaves.stay;
    older = search.leaves.older;
    learnt = search.leaves.learnt;
    implied = search.leaves.implied;
    variables = search.leaves.variables;
  };
  kept = search.kept;
  tells = search.tells;
}
