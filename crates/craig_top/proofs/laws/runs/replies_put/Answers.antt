use Rattle.craig_top.proofs.PutRepliesLemmas.{put-done, put-no_memory, put-read_fault, put-too_long, put-usage, put-write_fault}
use Rattle.craig_top.proofs.laws.runs.replies_put.Goals as goal

pub returns-clause-done : goal.returns-clause-done
returns-clause-done c = λ settings bound all held left later. put-done settings bound all left held later

pub returns-clause-usage : goal.returns-clause-usage
returns-clause-usage c = λ settings bound all held left later. put-usage settings bound all left held later

pub returns-clause-read_fault : goal.returns-clause-read_fault
returns-clause-read_fault c = λ settings bound all held left later. put-read_fault settings bound all left held later

pub returns-clause-write_fault : goal.returns-clause-write_fault
returns-clause-write_fault c = λ settings bound all held left later. put-write_fault settings bound all left held later

pub returns-clause-too_long : goal.returns-clause-too_long
returns-clause-too_long c = λ settings bound all held left later. put-too_long settings bound all left held later

pub returns-clause-no_memory : goal.returns-clause-no_memory
returns-clause-no_memory c = λ settings bound all held left later. put-no_memory settings bound all left held later
