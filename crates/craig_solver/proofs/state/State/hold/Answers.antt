use Rattle.std.proofs.Common.{◌<◌, false, refl}
use Rattle.std.proofs.lemmas.Result.{IfOk-from_err}
use Rattle.craig_spec.specs.Literal.{Literal}
use Rattle.craig_spec.proofs.ClauseLemmas.{All-same_literals}
use Rattle.craig_solver.proofs.HeldLemmas.{IsState-original, clauses_under-added}
use Rattle.craig_solver.proofs.state.State.hold.Goals as goal

pub returns-clause-state : goal.returns-clause-state
returns-clause-state g c = λ written same.
    let h = c.args.self.now.held in
    let known = All-same_literals (λ (l : Literal). l.var < h.vars) written c.args.lits.now same c.requires.known in
    IsState-original _ _ _ c.in_ok-id.id c.args.part written (record { literals = c.args.lits.now; flags = record { learnt = false; kept = false; glue = 0 } }) c.requires.state c.in_ok-id.ensures.held c.in_ok-id.ensures.next c.in_ok-id.ensures.fresh c.in_ok-id.ensures.only _ c.in_ok-push.ensures.items c.in_ok-original.ensures.told c.hold.ensures.consistent refl c.requires.normal same known

pub returns-clause-held : goal.returns-clause-held
returns-clause-held g c =
    clauses_under-added c.args.self.now.held.arena c.hold.new.self.arena c.args.self.now.held_ids.items _ c.in_ok-id.id (record { literals = c.args.lits.now; flags = record { learnt = false; kept = false; glue = 0 } }) c.requires.state.consistent.arena c.requires.state.ids c.in_ok-id.ensures.next c.in_ok-id.ensures.fresh c.in_ok-id.ensures.only c.in_ok-push.ensures.items

pub returns-clause-told : goal.returns-clause-told
returns-clause-told g c = (c.in_ok-id.id.0, c.in_ok-original.ensures.told)

pub returns-in_err-id-clause-state : goal.returns-in_err-id-clause-state
returns-in_err-id-clause-state g c = IfOk-from_err _ _ c.from_residual.ensures.0

pub returns-in_err-id-clause-held : goal.returns-in_err-id-clause-held
returns-in_err-id-clause-held g c = IfOk-from_err _ _ c.from_residual.ensures.0

pub returns-in_err-id-clause-told : goal.returns-in_err-id-clause-told
returns-in_err-id-clause-told g c = IfOk-from_err _ _ c.from_residual.ensures.0

pub returns-in_err-original-clause-state : goal.returns-in_err-original-clause-state
returns-in_err-original-clause-state g c = IfOk-from_err _ _ c.from_residual-in_err-original.ensures.0

pub returns-in_err-original-clause-held : goal.returns-in_err-original-clause-held
returns-in_err-original-clause-held g c = IfOk-from_err _ _ c.from_residual-in_err-original.ensures.0

pub returns-in_err-original-clause-told : goal.returns-in_err-original-clause-told
returns-in_err-original-clause-told g c = IfOk-from_err _ _ c.from_residual-in_err-original.ensures.0

pub returns-in_err-push-clause-state : goal.returns-in_err-push-clause-state
returns-in_err-push-clause-state g c = IfOk-from_err _ _ c.from_residual-in_err-push.ensures.0

pub returns-in_err-push-clause-held : goal.returns-in_err-push-clause-held
returns-in_err-push-clause-held g c = IfOk-from_err _ _ c.from_residual-in_err-push.ensures.0

pub returns-in_err-push-clause-told : goal.returns-in_err-push-clause-told
returns-in_err-push-clause-told g c = IfOk-from_err _ _ c.from_residual-in_err-push.ensures.0
