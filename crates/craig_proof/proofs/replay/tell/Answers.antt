use Rattle.std.proofs.Common.{◌≡◌, ◌∙◌, All, sym, subst, ap}
use Rattle.std.specs.Result.{OnOk}
use Rattle.craig_spec.specs.Chain.{ChainOk, Derived, IsUnforgotten, Origin, StandsOn, ToldStep, antecedents, clause_told}
use Rattle.craig_spec.specs.Literal.{Clause}
use Rattle.craig_proof.specs.Lent.{step_at}
use Rattle.craig_proof.specs.Tracer.{Appends, chain_of}
use Rattle.craig_proof.proofs.LentLemmas.{step_read}
use Rattle.craig_proof.proofs.ReplayLemmas.{told_derived, told_original}
use Rattle.craig_proof.proofs.replay.tell.Goals as goal

pub derived-requires-clause-unforgotten : goal.derived-requires-clause-unforgotten
derived-requires-clause-unforgotten g c = λ t is.
    let e = c.in-Derived.ensures in
    let origin : (step_at c.args.steps.now c.args.place).origin ≡ Derived c.in-Derived.first.0 (chain_of c.as_slice.result.now) =
    ap (λ (s : ToldStep). s.origin) (step_read c.args.steps.now c.args.place e.0 e.1) ∙ e.2 ∙ ap (Derived c.in-Derived.first.0) (sym (ap chain_of c.as_slice.ensures.value ∙ c.in_ok-unpack-in-Derived.ensures)) in
    subst (λ (o : Origin). All (IsUnforgotten t.steps) (antecedents o)) origin (c.requires.unforgotten t is)

pub derived-requires-clause-chain : goal.derived-requires-clause-chain
derived-requires-clause-chain g c = λ t is.
    let e = c.in-Derived.ensures in
    let l = c.literals-literals.ensures in
    let origin : (step_at c.args.steps.now c.args.place).origin ≡ Derived c.in-Derived.first.0 (chain_of c.as_slice.result.now) =
    ap (λ (s : ToldStep). s.origin) (step_read c.args.steps.now c.args.place e.0 e.1) ∙ e.2 ∙ ap (Derived c.in-Derived.first.0) (sym (ap chain_of c.as_slice.ensures.value ∙ c.in_ok-unpack-in-Derived.ensures)) in
    let literals : (step_at c.args.steps.now c.args.place).literals ≡ c.literals-literals.result.now = ap (λ (s : ToldStep). s.literals) (step_read c.args.steps.now c.args.place l.0 l.1) ∙ l.2 in
    subst (λ (ls : Clause). ChainOk (clause_told t.steps) ls c.in-Derived.first.0 (chain_of c.as_slice.result.now)) literals (subst (λ (o : Origin). StandsOn t.steps (step_at c.args.steps.now c.args.place).literals o) origin (c.requires.stands t is))

pub returns-in-Original-clause-told : goal.returns-in-Original-clause-told
returns-in-Original-clause-told g c =
    let i = c.id-id.ensures in
    let e = c.in-Original.ensures in
    let l = c.literals-literals.ensures in
    let id = ap (λ (s : ToldStep). s.id) (step_read c.args.steps.now c.args.place i.0 i.1) ∙ i.2 in
    let origin = ap (λ (s : ToldStep). s.origin) (step_read c.args.steps.now c.args.place e.0 e.1) ∙ e.2.0 in
    let literals = ap (λ (s : ToldStep). s.literals) (step_read c.args.steps.now c.args.place l.0 l.1) ∙ l.2 in
    subst (λ (s : ToldStep). OnOk c.original.result (Appends (g.T.Tracer.told c.args.into.now) (g.T.Tracer.told c.original.new.self) s)) (sym (told_original (step_at c.args.steps.now c.args.place) c.id-id.result.0 c.in-Original.part.0 c.literals-literals.result.now id literals origin)) c.original.ensures.told

pub returns-in_ok-unpack-in-Derived-clause-told : goal.returns-in_ok-unpack-in-Derived-clause-told
returns-in_ok-unpack-in-Derived-clause-told g c =
    let i = c.id-id.ensures in
    let e = c.in-Derived.ensures in
    let l = c.literals-literals.ensures in
    let id = ap (λ (s : ToldStep). s.id) (step_read c.args.steps.now c.args.place i.0 i.1) ∙ i.2 in
    let origin : (step_at c.args.steps.now c.args.place).origin ≡ Derived c.in-Derived.first.0 (chain_of c.as_slice.result.now) =
    ap (λ (s : ToldStep). s.origin) (step_read c.args.steps.now c.args.place e.0 e.1) ∙ e.2 ∙ ap (Derived c.in-Derived.first.0) (sym (ap chain_of c.as_slice.ensures.value ∙ c.in_ok-unpack-in-Derived.ensures)) in
    let literals = ap (λ (s : ToldStep). s.literals) (step_read c.args.steps.now c.args.place l.0 l.1) ∙ l.2 in
    subst (λ (s : ToldStep). OnOk c.derived.result (Appends (g.T.Tracer.told c.args.into.now) (g.T.Tracer.told c.derived.new.self) s)) (sym (told_derived (step_at c.args.steps.now c.args.place) c.id-id.result.0 c.in-Derived.first.0 c.literals-literals.result.now c.as_slice.result.now id literals origin)) c.derived.ensures.told
