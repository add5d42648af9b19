use Rattle.std.proofs.Common.{List, All, ap, sym, subst, ◌∙◌}
use Rattle.std.specs.Option.{ForSome, option_map}
use Rattle.std.proofs.lemmas.Result.{IfOk-from_err}
use Rattle.craig_spec.specs.Literal.{Clause}
use Rattle.craig_spec.specs.Chain.{ChainOk, Derived, IsUnforgotten, antecedents}
use Rattle.craig_proof.specs.Tracer.{Appends, chain_of, derived_step}
use Rattle.craig_proof.specs.declared.step.Step.{Step}
use Rattle.craig_base.specs.Arena.{FlaggedClause}
use Rattle.craig_watch.specs.Held.{HeldView, held_clause}
use Rattle.craig_search.proofs.CoversLemmas.{covers-numbered}
use Rattle.craig_search.proofs.refuting.refuted.Goals as goal

pub derived-requires-clause-unforgotten : goal.derived-requires-clause-unforgotten
derived-requires-clause-unforgotten g c =
    subst (λ (xs : List Step). ForSome (g.T.Tracer.told c.args.tracer.now) (λ t. All (IsUnforgotten t.steps) (antecedents (Derived c.in_ok-empty.empty.first.0 (chain_of xs))))) (sym c.as_slice-rest.ensures) (c.covered_chain_is_told.ensures.antecedents _ _ _ _ _ _ c.requires.covers c.in_ok-empty.ensures.derived.chain)

pub derived-requires-clause-chain : goal.derived-requires-clause-chain
derived-requires-clause-chain g c =
    rw (c.as_slice-lits.ensures, c.as_slice-rest.ensures) (c.covered_chain_is_told.ensures.chain _ _ _ _ _ _ c.requires.covers c.in_ok-empty.ensures.derived.chain)

pub returns-clause-covers : goal.returns-clause-covers
returns-clause-covers g c =
    let old = c.args.held.now in
    let given = ap (λ (h : HeldView). h.arena.given) c.in_ok-root.ensures.numbered in
    let same = ap (λ (h : HeldView). h.arena.clauses) c.in_ok-root.ensures.numbered in
    let chain = subst (λ (d : Clause). ChainOk (held_clause old.arena) d c.in_ok-empty.empty.first.0 (chain_of c.in_ok-empty.empty.rest)) (sym c.as_slice-lits.ensures) c.in_ok-empty.ensures.derived.chain in
    let chain_too = subst (λ (xs : List Step). ChainOk (held_clause old.arena) c.as_slice-lits.result.now c.in_ok-empty.empty.first.0 (chain_of xs)) (sym c.as_slice-rest.ensures) chain in
    let none = ap (option_map (λ (f : FlaggedClause). f.literals)) c.in_ok-root.ensures.fresh in
    covers-numbered _ _ old.arena c.number.new.self.arena _ _ _ _ c.requires.covers c.in_ok-derived.ensures.told c.in_ok-root.ensures.next given same chain_too none

pub returns-clause-refuted : goal.returns-clause-refuted
returns-clause-refuted g c =
    let old = c.args.held.now in
    let empty = c.as_slice-lits.ensures ∙ c.in_ok-empty.ensures.empty in
    record {
      numbered = c.in_ok-root.ensures.numbered;
      next = c.in_ok-root.ensures.next;
      fresh = ap (option_map (λ (f : FlaggedClause). f.literals)) c.in_ok-root.ensures.fresh;
      first = c.in_ok-empty.empty.first.0;
      rest = c.in_ok-empty.empty.rest;
      chain = subst (λ (d : Clause). ChainOk (held_clause old.arena) d c.in_ok-empty.empty.first.0 (chain_of c.in_ok-empty.empty.rest)) c.in_ok-empty.ensures.empty c.in_ok-empty.ensures.derived.chain;
      told = subst (λ (d : Clause). Appends (g.T.Tracer.told c.args.tracer.now) (g.T.Tracer.told c.derived.new.self) (derived_step c.in_ok-root.root.0 d c.in_ok-empty.empty.first.0 c.in_ok-empty.empty.rest)) empty (subst (λ (xs : List Step). Appends (g.T.Tracer.told c.args.tracer.now) (g.T.Tracer.told c.derived.new.self) (derived_step c.in_ok-root.root.0 c.as_slice-lits.result.now c.in_ok-empty.empty.first.0 xs)) c.as_slice-rest.ensures c.in_ok-derived.ensures.told);
    }

pub returns-in_err-empty-clause-refuted : goal.returns-in_err-empty-clause-refuted
returns-in_err-empty-clause-refuted g c = IfOk-from_err _ _ c.from_residual.ensures.0

pub returns-in_err-empty-clause-consistent : goal.returns-in_err-empty-clause-consistent
returns-in_err-empty-clause-consistent g c = IfOk-from_err _ _ c.from_residual.ensures.0

pub returns-in_err-empty-clause-covers : goal.returns-in_err-empty-clause-covers
returns-in_err-empty-clause-covers g c = IfOk-from_err _ _ c.from_residual.ensures.0

pub returns-in_err-root-clause-refuted : goal.returns-in_err-root-clause-refuted
returns-in_err-root-clause-refuted g c = IfOk-from_err _ _ c.from_residual-in_err-root.ensures.0

pub returns-in_err-root-clause-consistent : goal.returns-in_err-root-clause-consistent
returns-in_err-root-clause-consistent g c = IfOk-from_err _ _ c.from_residual-in_err-root.ensures.0

pub returns-in_err-root-clause-covers : goal.returns-in_err-root-clause-covers
returns-in_err-root-clause-covers g c = IfOk-from_err _ _ c.from_residual-in_err-root.ensures.0

pub returns-in_err-derived-clause-refuted : goal.returns-in_err-derived-clause-refuted
returns-in_err-derived-clause-refuted g c = IfOk-from_err _ _ c.from_residual-in_err-derived.ensures.0

pub returns-in_err-derived-clause-consistent : goal.returns-in_err-derived-clause-consistent
returns-in_err-derived-clause-consistent g c = IfOk-from_err _ _ c.from_residual-in_err-derived.ensures.0

pub returns-in_err-derived-clause-covers : goal.returns-in_err-derived-clause-covers
returns-in_err-derived-clause-covers g c = IfOk-from_err _ _ c.from_residual-in_err-derived.ensures.0
