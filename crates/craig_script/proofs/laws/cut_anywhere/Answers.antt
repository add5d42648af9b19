use Rattle.craig_script.proofs.LinesLemmas.{fed-fed, fed-before_first_byte, all_fed-before_first_byte}
use Rattle.craig_script.proofs.laws.cut_anywhere.Goals as goal

pub returns-clause-pieces : goal.returns-clause-pieces
returns-clause-pieces c = fed-fed

pub returns-clause-nothing : goal.returns-clause-nothing
returns-clause-nothing c = fed-before_first_byte

pub returns-clause-all : goal.returns-clause-all
returns-clause-all c = all_fed-before_first_byte
