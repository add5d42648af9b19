use Rattle.std.proofs.Common.{subst, ◌≡◌, ◌∙◌}
use Rattle.craig_spec.specs.Chain.{SameLiterals}
use Rattle.craig_spec.specs.Literal.{Clause}
use Rattle.craig_base.specs.Clauses.{IsTautology}
use Rattle.craig_cnf.specs.ScriptClauses.{named_clause}
use Rattle.craig_cnf.proofs.ScriptClauseLemmas.{named-no_tautology, sorted-by_variable}
use Rattle.craig_cnf.proofs.script_clause.script_clause.Goals as goal

pub unreachable-requires : goal.unreachable-requires
unreachable-requires c =
    let is : c.as_slice.result.now ≡ named_clause c.args.names.now c.args.literals.now = c.as_slice.ensures.value ∙ c.in_ok-over_script.ensures in
    named-no_tautology c.args.names.now c.args.literals.now c.len.ensures.are_names c.requires.named c.requires.normal
    (subst IsTautology is ((rw c.in-Tautology.is at c.in_ok-clause.ensures.tautology).0 tt))

pub returns : goal.returns
returns c =
    let is : c.as_slice.result.now ≡ named_clause c.args.names.now c.args.literals.now = c.as_slice.ensures.value ∙ c.in_ok-over_script.ensures in
    sorted-by_variable c.args.names.now c.args.literals.now c.in-Clause.clause c.len.ensures.are_names c.requires.named c.requires.normal
    (subst (λ (d : Clause). SameLiterals d c.in-Clause.clause) is (rw c.in-Clause.is at c.in_ok-clause.ensures.members))
    (rw c.in-Clause.is at c.in_ok-clause.ensures.ascending) (rw c.in-Clause.is at c.in_ok-clause.ensures.is_normal)
