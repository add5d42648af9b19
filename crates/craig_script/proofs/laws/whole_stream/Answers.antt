use Rattle.craig_script.proofs.LinesLemmas.{script_lines-ended}
use Rattle.craig_script.proofs.laws.whole_stream.Goals as goal

pub returns-clause-ended : goal.returns-clause-ended
returns-clause-ended c = script_lines-ended
