use Rattle.std.proofs.Common.{◌∙◌, ◌≤◌, ◌+◌, ◌++◌, length, take, arith, length-append, length-take}
use Rattle.craig_top.proofs.FaultsLemmas.{CountsFaults-last, CountsFaults-quiet}
use Rattle.craig_top.proofs.RunLemmas.{Promise-too_long, StepLeaves-go, StepLeaves-done}
use Rattle.craig_top.proofs.run.Run.read_to_end.Goals as goal

pub loop-left-preserved : goal.loop-left-preserved
loop-left-preserved g c =
    let within : length c.loop-left.invariant.taken + length (take c.min-size.result c.loop-left.buffer) ≤ c.args.bound =
    omega (arith, length-take c.min-size.result c.loop-left.buffer, c.min-size.ensures, c.loop-left.invariant.bound) in
    record {
      taken = c.loop-left.invariant.taken ++ take c.in-Ok.count c.step.new.piece;
      bound = omega (
        arith,
        c.loop-left.invariant.bound,
        length-append c.loop-left.invariant.taken (take c.in-Ok.count c.step.new.piece),
        c.in-Ok.ensures.bound,
        length-take c.in-Ok.count c.step.new.piece,
        length-take c.min-size.result c.loop-left.buffer,
        c.min-size.ensures,
        c.step.auto.piece,
      );
      open_ended = c.in-Ok.ensures.open (omega (arith, c.in-Ok.count-test.1));
      progress = λ settings left held p.
          StepLeaves-go settings c.args.bound left held _ _ _ _ c.loop-left.invariant.taken c.step.new.piece c.in-Ok.count c.in-Ok.count-test.1
          (c.in-Ok.ensures.leaves settings c.args.bound left held c.loop-left.invariant.taken (c.loop-left.invariant.progress settings left held p) within);
      read_quiet = c.in-Ok.ensures.read_fault.quiet (λ e. cc) ∙ c.loop-left.invariant.read_quiet;
      write_quiet = c.in-Ok.ensures.write_fault.quiet (λ e. cc) ∙ c.loop-left.invariant.write_quiet;
      size = omega (arith, c.loop-left.invariant.size);
    }

pub returns-in-Ok-eq0-clause-promise : goal.returns-in-Ok-eq0-clause-promise
returns-in-Ok-eq0-clause-promise g c = λ settings left held p.
    let within : length c.loop-left.invariant.taken + length (take c.min-size.result c.loop-left.buffer) ≤ c.args.bound =
    omega (arith, length-take c.min-size.result c.loop-left.buffer, c.min-size.ensures, c.loop-left.invariant.bound) in
    StepLeaves-done settings c.args.bound left held _ _ _ _ c.loop-left.invariant.taken c.step.new.piece c.in-Ok-eq0.field-0 (omega arith)
    (c.in-Ok-eq0.ensures.leaves settings c.args.bound left held c.loop-left.invariant.taken (c.loop-left.invariant.progress settings left held p) within)

pub returns-in-Err-clause-promise : goal.returns-in-Err-clause-promise
returns-in-Err-clause-promise g c = λ settings left held p.
    let within : length c.loop-left.invariant.taken + length (take c.min-size.result c.loop-left.buffer) ≤ c.args.bound =
    omega (arith, length-take c.min-size.result c.loop-left.buffer, c.min-size.ensures, c.loop-left.invariant.bound) in
    c.in-Err.ensures.leaves settings c.args.bound left held c.loop-left.invariant.taken (c.loop-left.invariant.progress settings left held p) within

pub returns-clause-promise : goal.returns-clause-promise
returns-clause-promise g c = λ settings left held p.
    Promise-too_long settings c.args.bound left held _ _ _ _ c.loop-left.invariant.taken (c.loop-left.invariant.progress settings left held p) (omega (arith, c.loop-left.invariant.bound))

pub returns-in-Ok-eq0-clause-read_fault : goal.returns-in-Ok-eq0-clause-read_fault
returns-in-Ok-eq0-clause-read_fault g c = CountsFaults-last _ _ _ _ _ c.loop-left.invariant.read_quiet (λ e. cc) (λ e. cc) c.in-Ok-eq0.ensures.read_fault

pub returns-in-Ok-eq0-clause-write_fault : goal.returns-in-Ok-eq0-clause-write_fault
returns-in-Ok-eq0-clause-write_fault g c = CountsFaults-last _ _ _ _ _ c.loop-left.invariant.write_quiet (λ e. cc) (λ e. cc) c.in-Ok-eq0.ensures.write_fault

pub returns-in-Err-clause-read_fault : goal.returns-in-Err-clause-read_fault
returns-in-Err-clause-read_fault g c = CountsFaults-last _ _ _ _ _ c.loop-left.invariant.read_quiet (λ e. cc) (λ e. cc) c.in-Err.ensures.read_fault

pub returns-in-Err-clause-write_fault : goal.returns-in-Err-clause-write_fault
returns-in-Err-clause-write_fault g c = CountsFaults-last _ _ _ _ _ c.loop-left.invariant.write_quiet (λ e. cc) (λ e. cc) c.in-Err.ensures.write_fault

pub returns-clause-read_fault : goal.returns-clause-read_fault
returns-clause-read_fault g c = CountsFaults-quiet _ _ _ (λ e. cc) c.loop-left.invariant.read_quiet

pub returns-clause-write_fault : goal.returns-clause-write_fault
returns-clause-write_fault g c = CountsFaults-quiet _ _ _ (λ e. cc) c.loop-left.invariant.write_quiet
