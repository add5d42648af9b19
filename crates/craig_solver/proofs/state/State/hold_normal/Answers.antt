use Rattle.std.proofs.Common.{◌<◌, All, refl, subst, sym}
use Rattle.std.proofs.lemmas.Result.{IfOk-from_err, on_ok_weaker}
use Rattle.craig_spec.specs.Literal.{Literal, Clause}
use Rattle.craig_spec.specs.Chain.{SameLiterals}
use Rattle.craig_spec.proofs.ClauseLemmas.{All-same_literals, SameLiterals-sym}
use Rattle.craig_base.specs.Clauses.{IsNormal}
use Rattle.craig_base.specs.NormalForms.{IsTautologyAnswer, OnClause}
use Rattle.craig_solver.proofs.HeldLemmas.{IsState-tautology}
use Rattle.craig_solver.proofs.state.State.hold_normal.Goals as goal

pub hold-requires-clause-known : goal.hold-requires-clause-known
hold-requires-clause-known g c =
    let lits : Clause = c.args.lits.now in
    let members = subst (OnClause (SameLiterals lits)) c.in-Clause.is c.in_ok-clause.ensures.members in
    subst (λ (xs : Clause). All (λ (l : Literal). l.var < c.args.self.now.held.vars) xs) (sym c.as_slice.ensures) (All-same_literals (λ (l : Literal). l.var < c.args.self.now.held.vars) c.in-Clause.clause lits (SameLiterals-sym lits c.in-Clause.clause members) c.requires.known)

pub returns-in-Clause-clause-state : goal.returns-in-Clause-clause-state
returns-in-Clause-clause-state g c =
    let lits : Clause = c.args.lits.now in
    let members = subst (OnClause (SameLiterals lits)) c.in-Clause.is c.in_ok-clause.ensures.members in
    let same = subst (SameLiterals lits) (sym c.as_slice.ensures) members in
    on_ok_weaker c.hold.result (λ h. h lits same) c.hold.ensures.state

pub returns-in-Clause-clause-held : goal.returns-in-Clause-clause-held
returns-in-Clause-clause-held g c =
    let lits : Clause = c.args.lits.now in
    let same = subst (SameLiterals lits) (sym c.as_slice.ensures) (subst (OnClause (SameLiterals lits)) c.in-Clause.is c.in_ok-clause.ensures.members) in
    let normal = subst IsNormal (sym c.as_slice.ensures) (subst (OnClause IsNormal) c.in-Clause.is c.in_ok-clause.ensures.is_normal) in
    on_ok_weaker c.hold.result (λ held. record {
      tautology = λ tautology. absurd (subst IsTautologyAnswer c.in-Clause.is (c.in_ok-clause.ensures.tautology.1 tautology));
      normal = λ not. (c.as_slice.result.now, same, normal, held);
    }) c.hold.ensures.held

pub returns-in-Clause-clause-told : goal.returns-in-Clause-clause-told
returns-in-Clause-clause-told g c =
    let lits : Clause = c.args.lits.now in
    let same = subst (SameLiterals lits) (sym c.as_slice.ensures) (subst (OnClause (SameLiterals lits)) c.in-Clause.is c.in_ok-clause.ensures.members) in
    let normal = subst IsNormal (sym c.as_slice.ensures) (subst (OnClause IsNormal) c.in-Clause.is c.in_ok-clause.ensures.is_normal) in
    on_ok_weaker c.hold.result (λ told. record {
      tautology = λ tautology. absurd (subst IsTautologyAnswer c.in-Clause.is (c.in_ok-clause.ensures.tautology.1 tautology));
      normal = λ not. (told.0, c.as_slice.result.now, same, normal, told.1);
    }) c.hold.ensures.told

pub returns-in-Tautology-clause-state : goal.returns-in-Tautology-clause-state
returns-in-Tautology-clause-state g c =
    IsState-tautology _ c.args.part c.args.lits.now c.requires.state (c.in_ok-clause.ensures.tautology.0 (subst IsTautologyAnswer (sym c.in-Tautology.is) tt)) c.requires.known

pub returns-in-Tautology-clause-held : goal.returns-in-Tautology-clause-held
returns-in-Tautology-clause-held g c = record {
  tautology = λ tautology. refl;
  normal = λ not. absurd (not (c.in_ok-clause.ensures.tautology.0 (subst IsTautologyAnswer (sym c.in-Tautology.is) tt)));
}

pub returns-in-Tautology-clause-told : goal.returns-in-Tautology-clause-told
returns-in-Tautology-clause-told g c = record {
  tautology = λ tautology. refl;
  normal = λ not. absurd (not (c.in_ok-clause.ensures.tautology.0 (subst IsTautologyAnswer (sym c.in-Tautology.is) tt)));
}

pub returns-in_err-clause-clause-state : goal.returns-in_err-clause-clause-state
returns-in_err-clause-clause-state g c = IfOk-from_err _ _ c.from_residual.ensures.0

pub returns-in_err-clause-clause-held : goal.returns-in_err-clause-clause-held
returns-in_err-clause-clause-held g c = IfOk-from_err _ _ c.from_residual.ensures.0

pub returns-in_err-clause-clause-told : goal.returns-in_err-clause-clause-told
returns-in_err-clause-clause-told g c = IfOk-from_err _ _ c.from_residual.ensures.0
