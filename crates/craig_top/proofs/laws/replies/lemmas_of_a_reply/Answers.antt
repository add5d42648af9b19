use Rattle.std.proofs.Common.{◌∙◌, ◌≤◌, ◌*◌, ◌^◌, sym, subst, length, Contains, IsTrue, map, ℕ}
use Rattle.std.proofs.lemmas.Option.{same_Some}
use Rattle.std.proofs.lemmas.List.Elements.{All-contains}
use Rattle.std.specs.List.Sorted.{IsStrictlyIncreasing}
use Rattle.craig_base.specs.Clauses.{IsTautology}
use Rattle.craig_base.specs.LemmaRule.{ContainsClause}
use Rattle.craig_spec.specs.Literal.{Clause, Literal}
use Rattle.craig_spec.specs.Occurs.{Occurs, occurs_in_clause}
use Rattle.craig_spec.specs.Truth.{Implies, clause_value}
use Rattle.craig_top.specs.Named.{bare_clauses}
use Rattle.craig_top.proofs.laws.replies.lemmas_of_a_reply.Goals as goal

pub returns-clause-text : goal.returns-clause-text
returns-clause-text c = λ state text reply. reply.text_is

pub returns-clause-many : goal.returns-clause-many
returns-clause-many c = λ state text reply. reply.many

pub returns-clause-few : goal.returns-clause-few
returns-clause-few c = λ state text reply. reply.rule.few

pub returns-clause-implied : goal.returns-clause-implied
returns-clause-implied c = λ state text reply lemma here. All-contains (λ (d : Clause). Implies (bare_clauses state.accepted) (λ s. IsTrue (clause_value s d))) reply.lemmas lemma reply.rule.implied here

pub returns-clause-known : goal.returns-clause-known
returns-clause-known c = λ state text reply lemma here. All-contains (λ (d : Clause). (x : ℕ) → IsTrue (occurs_in_clause x d) → Occurs x (bare_clauses state.accepted)) reply.lemmas lemma reply.rule.known here

pub returns-clause-sound : goal.returns-clause-sound
returns-clause-sound c = λ state text reply lemma here l one other. All-contains (λ (d : Clause). ¬ IsTautology d) reply.lemmas lemma reply.rule.not_tautology here (l, one, other)

pub returns-clause-new : goal.returns-clause-new
returns-clause-new c = λ state text reply lemma here. All-contains (λ (d : Clause). (e : Clause) → Contains (bare_clauses state.accepted) e → ¬ ContainsClause d e) reply.lemmas lemma reply.rule.new here

pub returns-clause-rising : goal.returns-clause-rising
returns-clause-rising c = λ state text reply lemma here. All-contains (λ (d : Clause). IsStrictlyIncreasing (map (λ (l : Literal). l.var) d)) reply.lemmas lemma reply.rising here

pub returns-clause-low : goal.returns-clause-low
returns-clause-low c = λ state text reply vars only n is.
    let few : length reply.lemmas ≤ 2 * 3 ^ length vars = c.no_longer_list.ensures.lemmas vars (bare_clauses state.accepted) reply.lemmas only reply.rule in
    subst (λ m. m ≤ 2 * 3 ^ length vars) (same_Some (length reply.lemmas) n (sym reply.many ∙ is)) few
