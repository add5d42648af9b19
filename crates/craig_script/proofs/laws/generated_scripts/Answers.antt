use Rattle.craig_script.proofs.GeneratedLemmas.{generated_count, generated_is_read, generated_is_writable, greatest_of_generated, later_accepted, parts_accepted, variables_of_generated}
use Rattle.craig_script.proofs.laws.generated_scripts.Goals as goal

pub returns-clause-clauses : goal.returns-clause-clauses
returns-clause-clauses c = generated_count

pub returns-clause-variables : goal.returns-clause-variables
returns-clause-variables c = variables_of_generated

pub returns-clause-first : goal.returns-clause-first
returns-clause-first c = parts_accepted

pub returns-clause-later : goal.returns-clause-later
returns-clause-later c = later_accepted

pub returns-clause-writable : goal.returns-clause-writable
returns-clause-writable c = generated_is_writable

pub returns-clause-greatest : goal.returns-clause-greatest
returns-clause-greatest c = greatest_of_generated

pub returns-clause-read : goal.returns-clause-read
returns-clause-read c = generated_is_read
