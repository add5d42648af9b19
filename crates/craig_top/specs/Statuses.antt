-- The numbers of the statuses.
use Rattle.std.specs.Prelude.{ℕ}
use Rattle.craig_top.specs.declared.status.Status.{Status}
use Rattle.craig_top.specs.declared.status.Status.TheVariants.{Done, Usage, ReadFault, WriteFault, TooLong, NoMemory}

-- the exit status of the program
abbrev pub status_number : Status → ℕ
status_number Done = 0
status_number Usage = 1
status_number ReadFault = 2
status_number WriteFault = 3
status_number TooLong = 4
status_number NoMemory = 5
