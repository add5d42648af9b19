use Rattle.craig_aiger_read.specs.Cuts.{is_byte}
use Rattle.craig_aiger_read.proofs.CutLemmas.{position-or_length, position_or_len-le}
use Rattle.craig_aiger_read.proofs.cut.separator_place.Goals as goal

pub returns-clause-place : goal.returns-clause-place
returns-clause-place c = rw (c.unwrap_or.ensures, c.first_place.ensures) (position-or_length (is_byte c.args.separator) c.args.bytes.now)

pub returns-clause-within : goal.returns-clause-within
returns-clause-within c = rw (returns-clause-place c) (position_or_len-le (is_byte c.args.separator) c.args.bytes.now)
