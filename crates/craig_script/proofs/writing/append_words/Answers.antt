use Rattle.craig_script.proofs.WritingLemmas.{add_written, cuts_written, solve_written}
use Rattle.craig_script.proofs.writing.append_words.Goals as goal

pub returns-in-Add-clause-text : goal.returns-in-Add-clause-text
returns-in-Add-clause-text c = add_written c.append_add.result c.args.out.now.items c.append_add.new.out.items c.args.command.now c.in-Add.part c.in-Add.lits c.as_slice.result.now c.in-Add.is c.as_slice.ensures c.append_add.ensures.text

pub returns-in-Cuts-clause-text : goal.returns-in-Cuts-clause-text
returns-in-Cuts-clause-text c = cuts_written c.append_cuts.result c.args.out.now.items c.append_cuts.new.out.items c.args.command.now c.in-Cuts.cuts c.in-Cuts.is c.append_cuts.ensures.text

pub returns-in-Solve-clause-text : goal.returns-in-Solve-clause-text
returns-in-Solve-clause-text c =
    solve_written c.append_solve.result c.args.out.now.items c.append_solve.new.out.items c.args.command.now c.in-Solve.pairs c.as_slice-in-Solve.result.now c.in-Solve.is c.as_slice-in-Solve.ensures c.append_solve.ensures.text
