use Rattle.std.specs.Prelude.{None}
use Rattle.craig_words.proofs.RunLemmas.{read_is_run, run_is_read}
use Rattle.craig_words.proofs.laws.runs_of_pieces.Goals as goal

pub returns-clause-read : goal.returns-clause-read
returns-clause-read c = run_is_read

pub returns-clause-only : goal.returns-clause-only
returns-clause-only c = λ words pieces those. read_is_run words None pieces those
