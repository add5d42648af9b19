use Rattle.craig_io.specs.Faults.{Rose}
use Rattle.craig_top.proofs.PutRepliesLemmas.{ends_done}
use Rattle.craig_top.proofs.laws.runs.runs_end_done.Goals as goal

pub returns : goal.returns
returns c = λ bound status all reads more_reads writes more_writes. ends_done bound status all (Rose reads more_reads) (Rose writes more_writes)
