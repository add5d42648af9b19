use Rattle.std.proofs.Common.{sym, subst}
use Rattle.craig_aiger_read.specs.ReadFaults.{IsReadAs}
use Rattle.craig_aiger_read.specs.ReadFiles.{as_file}
use Rattle.craig_aiger_read.proofs.ReadingLemmas.{defined-read, reading-ascii, reading-binary}
use Rattle.craig_aiger_read.proofs.reading.read.Goals as goal

pub returns-then-is_binary-clause-read : goal.returns-then-is_binary-clause-read
returns-then-is_binary-clause-read c = subst (IsReadAs as_file c.read_binary.result) (reading-binary c.args.bytes.now (sym c.if-is_binary.ensures)) c.read_binary.ensures

pub returns-then-is_binary-clause-defined : goal.returns-then-is_binary-clause-defined
returns-then-is_binary-clause-defined c = defined-read c.args.bytes.now _ c.files_are_defined.ensures (returns-then-is_binary-clause-read c)

pub returns-else-is_binary-clause-read : goal.returns-else-is_binary-clause-read
returns-else-is_binary-clause-read c = subst (IsReadAs as_file c.read_ascii.result) (reading-ascii c.args.bytes.now (sym c.if-is_binary.ensures)) c.read_ascii.ensures

pub returns-else-is_binary-clause-defined : goal.returns-else-is_binary-clause-defined
returns-else-is_binary-clause-defined c = defined-read c.args.bytes.now _ c.files_are_defined.ensures (returns-else-is_binary-clause-read c)
