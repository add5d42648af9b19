use Rattle.std.proofs.Common.{take, arith, ◌≡◌}
use Rattle.std.proofs.lemmas.List.{length-take-le}
use Rattle.craig_top.proofs.RunLemmas.{Promise-read_fault, Promise-done, Promise-end, Promise-piece, IsAtEnd-read, Takes-read, Progress-more, StepLeaves-more}
use Rattle.craig_top.proofs.run.Run.step.Goals as goal

pub returns-in-Err-clause-leaves : goal.returns-in-Err-clause-leaves
returns-in-Err-clause-leaves g c = λ settings bound lb hb taken p within. Promise-read_fault settings bound lb hb _ _ _ _ _ taken p (omega (arith, within, c.requires.piece)) c.in-Err.ensures.kept

pub returns-in-Ok-end-clause-leaves : goal.returns-in-Ok-end-clause-leaves
returns-in-Ok-end-clause-leaves g c = λ settings bound lb hb taken p within.
    let none : c.in-Ok-eq0.field-0 ≡ 0 = omega arith in
    Promise-done settings bound lb hb _ _ _ _ _ _ taken p (omega (arith, within, c.requires.piece)) (IsAtEnd-read _ _ _ _ none c.in-Ok-eq0.ensures.taken) c.in-Ok-end.ensures.put

pub returns-in-Err-end-clause-leaves : goal.returns-in-Err-end-clause-leaves
returns-in-Err-end-clause-leaves g c = λ settings bound lb hb taken p within.
    let none : c.in-Ok-eq0.field-0 ≡ 0 = omega arith in
    rw c.status.ensures (Promise-end settings bound lb hb _ _ _ _ _ _ taken c.in-Err-end.stop p (omega (arith, within, c.requires.piece)) (IsAtEnd-read _ _ _ _ none c.in-Ok-eq0.ensures.taken) c.in-Err-end.ensures.stopped)

pub returns-in-Ok-take-clause-leaves : goal.returns-in-Ok-take-clause-leaves
returns-in-Ok-take-clause-leaves g c = λ settings bound lb hb taken p within.
    StepLeaves-more settings bound lb hb _ _ _ _ taken c.read.new.into c.in-Ok.count (λ none. omega arith)
    (Progress-more settings lb hb _ _ _ _ _ _ _ _ taken (take c.in-Ok.count c.read.new.into) p (Takes-read _ _ _ _ c.in-Ok.ensures.taken)
    c.in-Ok-take.ensures.lines c.in-Ok-take.ensures.session c.in-Ok-take.ensures.put)

pub returns-in-Err-take-clause-leaves : goal.returns-in-Err-take-clause-leaves
returns-in-Err-take-clause-leaves g c = λ settings bound lb hb taken p within.
    rw c.status-in-Err-take.ensures (Promise-piece settings bound lb hb _ _ _ _ _ _ taken (take c.in-Ok.count c.read.new.into) c.in-Err-take.stop p (omega (arith, within, c.in-Ok.ensures.bound, c.read.auto.into, length-take-le c.in-Ok.count c.read.new.into c.in-Ok.ensures.bound)) (Takes-read _ _ _ _ c.in-Ok.ensures.taken)
    c.in-Err-take.ensures.stopped)
