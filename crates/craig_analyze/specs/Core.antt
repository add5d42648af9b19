-- Why a literal is false: the decisions that force its negation.
use Rattle.std.specs.Prelude.{◌≡◌, ◌≤◌, ◌∷◌, List, All, Some}
use Rattle.std.specs.Option.{option_map}
use Rattle.craig_spec.specs.Literal.{Literal, negation}
use Rattle.craig_watch.specs.Trail.{entry_of, level_at}
use Rattle.craig_watch.specs.Held.{HeldView}
use Rattle.craig_analyze.specs.declared.learnt.Learnt.{Learnt}
use Rattle.craig_analyze.specs.declared.cores.Core.{Core}
use Rattle.craig_analyze.specs.declared.cores.Core.TheVariants.{Clause, Clash}
use Rattle.craig_analyze.specs.Decision.{IsDecision}
use Rattle.craig_analyze.specs.Learnt.{IsDerived}

-- a clause by which decisions force the negation of a false literal
pub record IsCoreClause (h : HeldView) (failed : Literal) (l : Learnt) : Type 0 where
  -- a chain over held clauses derives it
  pub derived : IsDerived h.arena l
  -- the chain begins at the reason of the negation
  pub begins : option_map (λ e. e.reason) (entry_of h.trail failed.var) ≡ Some (Some l.first)
  -- the literals beside the negation
  pub rest : List Literal
  -- the negation stands first
  pub parts : l.lits ≡ negation failed ∷ rest
  -- the others are negations of decisions, of no higher level than the literal
  pub decisions : All (λ m. IsDecision h.trail (negation m) × (level_at h.trail m ≤ level_at h.trail failed)) rest
  -- there is no level to go back to
  pub back : l.back ≡ 0
  -- levels are not counted
  pub glue : l.glue ≡ 0

-- why the literal is false: by such a clause, or exactly where its negation is a decision, by that decision alone
abbrev pub IsCore : HeldView → Literal → Core → Type 0
IsCore h failed (Clause l) = IsCoreClause h failed l × (¬ IsDecision h.trail (negation failed))
IsCore h failed (Clash lit) = (lit ≡ failed) × IsDecision h.trail (negation failed)
