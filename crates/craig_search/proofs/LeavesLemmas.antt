-- What each step of a search leaves of the clauses of its start.
use Rattle.std.proofs.Common.{◌≡◌, inl, inr, ℕ, ◌+◌, ◌<◌, ◌≤◌, true, List, Some, None, refl, sym, ap, subst, ◌∙◌, arith}
use Rattle.craig_spec.specs.Literal.{Clause}
use Rattle.craig_spec.specs.Chain.{ChainOk, ChainStep}
use Rattle.craig_spec.specs.Truth.{clause_value}
use Rattle.craig_spec.specs.Occurs.{occurs_in_clause}
use Rattle.craig_base.specs.declared.flags.Flags.{Flags}
use Rattle.craig_base.specs.Arena.{FlaggedClause, ChangesOnly, OnlyReorders, clause_at, clauses_of, with_id}
use Rattle.craig_watch.specs.Held.{HeldView, IsConsistent, held_clause}
use Rattle.craig_search.specs.Leaves.{Leaves}
use Rattle.craig_spec.proofs.ClauseLemmas.{SameLiterals-refl, SameLiterals-sym, SameLiterals-trans, clause_value-same, occurs_in_clause-same}
use Rattle.craig_spec.proofs.MemberLemmas.{list_any-member}
use Rattle.craig_base.proofs.FoundLemmas.{Contains-clauses_of, IsModel-found}
use Rattle.craig_base.proofs.LookUpLemmas.{added-before, added-held, added-kept, live-below}
use Rattle.craig_base.proofs.ReorderLemmas.{GivesSame-before, IsReordered-refl}
use Rattle.craig_proof.proofs.ChainGrowthLemmas.{ChainOk-variable}
use Rattle.craig_proof.proofs.FollowsLemmas.{ChainOk-true}

pub Leaves-start : (h : HeldView) → IsConsistent h → Leaves h h
Leaves-start h ok = record {
  vars = refl;
  dead = refl;
  given = omega arith;
  stay = λ id c is no. (c, is, IsReordered-refl c);
  older = λ id d low is. (d, is, record { literals = SameLiterals-refl d.literals; learnt = refl });
  learnt = λ id d high is. absurd (let low : id < h.arena.given = live-below h.arena id d ok.arena is in omega arith);
  implied = λ id c is s model. IsModel-found h.arena s model id c is;
  variables = λ id x c is occurs. list_any-member (occurs_in_clause x) (clauses_of h.arena) c (Contains-clauses_of h.arena id c is) occurs;
}

-- after clauses changed the order of their literals
pub Leaves-reordered : (start old new : HeldView) → Leaves start old → OnlyReorders old.arena new.arena → new.vars ≡ old.vars → new.dead ≡ old.dead → Leaves start new
Leaves-reordered start old new left only vars dead = record {
  vars = vars ∙ left.vars;
  dead = dead ∙ left.dead;
  given = (let same : new.arena.given ≡ old.arena.given = only.given in omega (arith, left.given));
  stay = λ id c is no.
      let p = left.stay id c is no in
      let q = only.stays id p.0 p.1 in
      (q.0, q.1, record { literals = SameLiterals-trans c.literals p.0.literals q.0.literals p.2.literals q.2.literals; flags = q.2.flags ∙ p.2.flags });
  older = λ id d low is.
      let q = only.stood id d is in
      let p = left.older id q.0 low q.1 in
      (p.0, p.1, record { literals = SameLiterals-trans p.0.literals q.0.literals d.literals p.2.literals q.2.literals; learnt = ap (λ (f : Flags). f.learnt) q.2.flags ∙ p.2.learnt });
  learnt = λ id d high is.
      let q = only.stood id d is in
      ap (λ (f : Flags). f.learnt) q.2.flags ∙ left.learnt id q.0 high q.1;
  implied = λ id c is s model.
      let q = GivesSame-before old.arena new.arena only id c is in
      clause_value-same s q.0 c (SameLiterals-sym c q.0 q.2) (left.implied id q.0 q.1 s model);
  variables = λ id x c is occurs.
      let q = GivesSame-before old.arena new.arena only id c is in
      left.variables id x q.0 q.1 (occurs_in_clause-same x c q.0 q.2 occurs);
}

-- after a clause was learnt from held ones
pub Leaves-learnt : (start old new : HeldView) (id first : ℕ) (rest : List ChainStep) (f : FlaggedClause) → Leaves start old → new.vars ≡ old.vars → new.dead ≡ old.dead → new.arena.given ≡ old.arena.given + 1 → id ≡ old.arena.given → clause_at old.arena id ≡ None → ChangesOnly old.arena new.arena id (Some f) → f.flags.learnt ≡ true → ChainOk (held_clause old.arena) f.literals first rest → Leaves start new
Leaves-learnt start old new id first rest f left vars dead given next fresh only learnt chain = record {
  vars = vars ∙ left.vars;
  dead = dead ∙ left.dead;
  given = omega (arith, left.given);
  stay = λ k c is no. let p = left.stay k c is no in (p.0, added-kept old.arena new.arena id f fresh only k p.0 p.1, p.2);
  older = λ k d low is. elim (added-before old.arena new.arena id f fresh only k d is) [
    | inl last ↦ absurd (let le : start.arena.given ≤ old.arena.given = left.given in let same : k ≡ id = last.0 in omega arith)
    | inr was ↦ left.older k d low was
  ];
  learnt = λ k d high is. elim (added-before old.arena new.arena id f fresh only k d is) [
    | inl last ↦ ap (λ (g : FlaggedClause). g.flags.learnt) (sym last.1) ∙ learnt
    | inr was ↦ left.learnt k d high was
  ];
  implied = λ k c is s model. elim (added-held old.arena new.arena id f fresh only k c is) [
    | inl last ↦ subst (λ (d : Clause). clause_value s d ≡ true) last.1 (ChainOk-true (held_clause old.arena) f.literals first rest chain s (λ j d named found. left.implied j d found s model))
    | inr was ↦ left.implied k c was s model
  ];
  variables = λ k x c is occurs. elim (added-held old.arena new.arena id f fresh only k c is) [
    | inl last ↦
        let g = ChainOk-variable (held_clause old.arena) f.literals first rest chain x (subst (λ (d : Clause). occurs_in_clause x d ≡ true) (sym last.1) occurs) in
        left.variables g.id x g.clause g.given g.holds
    | inr was ↦ left.variables k x c was occurs
  ];
}

-- after an id was numbered
pub Leaves-numbered : (start old : HeldView) → Leaves start old → Leaves start (record old { arena = with_id old.arena })
Leaves-numbered start old left = record {
  vars = left.vars;
  dead = left.dead;
  given = omega (arith, left.given);
  stay = left.stay;
  older = left.older;
  learnt = left.learnt;
  implied = left.implied;
  variables = left.variables;
}
