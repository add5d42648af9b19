use Rattle.std.proofs.Common.{All}
use Rattle.std.proofs.lemmas.Result.{IfOk-from_err}
use Rattle.craig_spec.specs.Chain.{Derived, IsAbove, IsUnforgotten, ChainOk, antecedents, clause_told}
use Rattle.craig_proof.specs.Tracer.{chain_of}
use Rattle.craig_proof.proofs.PairLemmas.{first_meets, second_meets, Agree-appended}
use Rattle.craig_proof.proofs.pair.PairTracer.derived.Goals as goal

pub derived-requires-clause-unforgotten : goal.derived-requires-clause-unforgotten
derived-requires-clause-unforgotten g c =
    first_meets (λ t. All (IsUnforgotten t.steps) (antecedents (Derived c.args.first.0 (chain_of c.args.rest.now)))) _ _ c.self.inside.dead c.if-self.false (rw (← c.self.view_is) at c.requires.unforgotten)

pub derived-requires-clause-chain : goal.derived-requires-clause-chain
derived-requires-clause-chain g c =
    first_meets (λ t. ChainOk (clause_told t.steps) c.args.lits.now c.args.first.0 (chain_of c.args.rest.now)) _ _ c.self.inside.dead c.if-self.false (rw (← c.self.view_is) at c.requires.chain)

pub derived-requires-2-clause-above : goal.derived-requires-2-clause-above
derived-requires-2-clause-above g c =
    second_meets (λ t. IsAbove t c.args.id.0) _ _ c.self.inside.dead c.if-self.false (c.self.invariant c.if-self.false) (rw (← c.self.view_is) at c.requires.above)

pub derived-requires-2-clause-unforgotten : goal.derived-requires-2-clause-unforgotten
derived-requires-2-clause-unforgotten g c =
    second_meets (λ t. All (IsUnforgotten t.steps) (antecedents (Derived c.args.first.0 (chain_of c.args.rest.now)))) _ _ c.self.inside.dead c.if-self.false (c.self.invariant c.if-self.false) (rw (← c.self.view_is) at c.requires.unforgotten)

pub derived-requires-2-clause-chain : goal.derived-requires-2-clause-chain
derived-requires-2-clause-chain g c =
    second_meets (λ t. ChainOk (clause_told t.steps) c.args.lits.now c.args.first.0 (chain_of c.args.rest.now)) _ _ c.self.inside.dead c.if-self.false (c.self.invariant c.if-self.false) (rw (← c.self.view_is) at c.requires.chain)

pub invariant_of-self-2 : goal.invariant_of-self-2
invariant_of-self-2 g c = λ e.
    Agree-appended _ _ _ _ _ (c.self.invariant c.if-self.false) c.in_ok-derived.ensures.told c.in_ok-derived-2.ensures.told

pub returns-in_err-derived-clause-told : goal.returns-in_err-derived-clause-told
returns-in_err-derived-clause-told g c = IfOk-from_err _ _ c.from_residual.ensures.0

pub returns-in_err-derived-clause-first : goal.returns-in_err-derived-clause-first
returns-in_err-derived-clause-first g c = IfOk-from_err _ _ c.from_residual.ensures.0

pub returns-in_err-derived-clause-second : goal.returns-in_err-derived-clause-second
returns-in_err-derived-clause-second g c = IfOk-from_err _ _ c.from_residual.ensures.0

pub returns-in_err-derived-clause-alive : goal.returns-in_err-derived-clause-alive
returns-in_err-derived-clause-alive g c = IfOk-from_err _ _ c.from_residual.ensures.0

pub returns-in_err-derived-clause-refused : goal.returns-in_err-derived-clause-refused
returns-in_err-derived-clause-refused g c = λ _. c.from_residual.ensures.0

pub returns-in_err-derived-2-clause-told : goal.returns-in_err-derived-2-clause-told
returns-in_err-derived-2-clause-told g c = IfOk-from_err _ _ c.from_residual-in_err-derived-2.ensures.0

pub returns-in_err-derived-2-clause-first : goal.returns-in_err-derived-2-clause-first
returns-in_err-derived-2-clause-first g c = IfOk-from_err _ _ c.from_residual-in_err-derived-2.ensures.0

pub returns-in_err-derived-2-clause-second : goal.returns-in_err-derived-2-clause-second
returns-in_err-derived-2-clause-second g c = IfOk-from_err _ _ c.from_residual-in_err-derived-2.ensures.0

pub returns-in_err-derived-2-clause-alive : goal.returns-in_err-derived-2-clause-alive
returns-in_err-derived-2-clause-alive g c = IfOk-from_err _ _ c.from_residual-in_err-derived-2.ensures.0

pub returns-in_err-derived-2-clause-refused : goal.returns-in_err-derived-2-clause-refused
returns-in_err-derived-2-clause-refused g c = λ _. c.from_residual-in_err-derived-2.ensures.0
