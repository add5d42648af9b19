-- How a run ends whose last lines were answered, or where that stopped.
use Rattle.std.specs.Prelude.{Result, Ok, Err}
use Rattle.craig_top.specs.declared.run.Stop.{Stop}
use Rattle.craig_top.specs.declared.run.Stop.TheVariants as stop
use Rattle.craig_top.specs.declared.status.Status.{Status}
use Rattle.craig_top.specs.declared.status.Status.TheVariants as status

-- the status of a run that answered all its lines, or stopped
abbrev pub status_of : Result (Unit {0}) Stop → Status
status_of (Ok done) = status.Done
status_of (Err stop.NoMemory) = status.NoMemory
status_of (Err stop.WriteFault) = status.WriteFault
