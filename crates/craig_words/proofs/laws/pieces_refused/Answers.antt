use Rattle.std.proofs.Common.{◌++◌, ◌∷◌, ap, cond, Some, None}
use Rattle.craig_words.specs.CommandLine.{set_by}
use Rattle.craig_words.proofs.PieceLemmas.{not_allowed, signed_refused, twice_refused, unknown_refused}
use Rattle.craig_words.proofs.laws.pieces_refused.Goals as goal

pub returns-clause-twice : goal.returns-clause-twice
returns-clause-twice c = λ before after piece e. ap (λ b. cond b (Some (set_by (before ++ piece ∷ after))) None) (twice_refused before piece after e)

pub returns-clause-one : goal.returns-clause-one
returns-clause-one c = λ before after piece e. ap (λ b. cond b (Some (set_by (before ++ piece ∷ after))) None) (not_allowed before piece after e)

pub returns-clause-unknown : goal.returns-clause-unknown
returns-clause-unknown c = unknown_refused

pub returns-clause-signed : goal.returns-clause-signed
returns-clause-signed c = signed_refused
