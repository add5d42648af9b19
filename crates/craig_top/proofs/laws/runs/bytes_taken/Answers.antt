use Rattle.craig_top.proofs.PutRepliesLemmas.{taken-done, taken-no_memory, taken-read_fault, taken-too_long, taken-usage, taken-write_fault}
use Rattle.craig_top.proofs.laws.runs.bytes_taken.Goals as goal

pub returns-clause-done : goal.returns-clause-done
returns-clause-done c = λ settings bound all left held later. taken-done settings bound all left held later

pub returns-clause-usage : goal.returns-clause-usage
returns-clause-usage c = λ settings bound all left held later. taken-usage settings bound all left held later

pub returns-clause-read_fault : goal.returns-clause-read_fault
returns-clause-read_fault c = λ settings bound all left held later. taken-read_fault settings bound all left held later

pub returns-clause-write_fault : goal.returns-clause-write_fault
returns-clause-write_fault c = λ settings bound all left held later. taken-write_fault settings bound all left held later

pub returns-clause-too_long : goal.returns-clause-too_long
returns-clause-too_long c = λ settings bound all left held later. taken-too_long settings bound all left held later

pub returns-clause-no_memory : goal.returns-clause-no_memory
returns-clause-no_memory c = λ settings bound all left held later. taken-no_memory settings bound all left held later
