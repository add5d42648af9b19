use Rattle.std.proofs.lemmas.Result.{IfOk-from_err}
use Rattle.craig_spec.specs.Chain.{IsAbove}
use Rattle.craig_proof.proofs.PairLemmas.{second_meets, Agree-appended}
use Rattle.craig_proof.proofs.pair.PairTracer.original.Goals as goal

pub original-requires-2-clause-above : goal.original-requires-2-clause-above
original-requires-2-clause-above g c =
    second_meets (λ t. IsAbove t c.args.id.0) _ _ c.self.inside.dead c.if-self.false (c.self.invariant c.if-self.false) (rw (← c.self.view_is) at c.requires.above)

pub invariant_of-self-2 : goal.invariant_of-self-2
invariant_of-self-2 g c = λ e.
    Agree-appended _ _ _ _ _ (c.self.invariant c.if-self.false) c.in_ok-original.ensures.told c.in_ok-original-2.ensures.told

pub returns-in_err-original-clause-told : goal.returns-in_err-original-clause-told
returns-in_err-original-clause-told g c = IfOk-from_err _ _ c.from_residual.ensures.0

pub returns-in_err-original-clause-first : goal.returns-in_err-original-clause-first
returns-in_err-original-clause-first g c = IfOk-from_err _ _ c.from_residual.ensures.0

pub returns-in_err-original-clause-second : goal.returns-in_err-original-clause-second
returns-in_err-original-clause-second g c = IfOk-from_err _ _ c.from_residual.ensures.0

pub returns-in_err-original-clause-alive : goal.returns-in_err-original-clause-alive
returns-in_err-original-clause-alive g c = IfOk-from_err _ _ c.from_residual.ensures.0

pub returns-in_err-original-clause-refused : goal.returns-in_err-original-clause-refused
returns-in_err-original-clause-refused g c = λ _. c.from_residual.ensures.0

pub returns-in_err-original-2-clause-told : goal.returns-in_err-original-2-clause-told
returns-in_err-original-2-clause-told g c = IfOk-from_err _ _ c.from_residual-in_err-original-2.ensures.0

pub returns-in_err-original-2-clause-first : goal.returns-in_err-original-2-clause-first
returns-in_err-original-2-clause-first g c = IfOk-from_err _ _ c.from_residual-in_err-original-2.ensures.0

pub returns-in_err-original-2-clause-second : goal.returns-in_err-original-2-clause-second
returns-in_err-original-2-clause-second g c = IfOk-from_err _ _ c.from_residual-in_err-original-2.ensures.0

pub returns-in_err-original-2-clause-alive : goal.returns-in_err-original-2-clause-alive
returns-in_err-original-2-clause-alive g c = IfOk-from_err _ _ c.from_residual-in_err-original-2.ensures.0

pub returns-in_err-original-2-clause-refused : goal.returns-in_err-original-2-clause-refused
returns-in_err-original-2-clause-refused g c = λ _. c.from_residual-in_err-original-2.ensures.0
