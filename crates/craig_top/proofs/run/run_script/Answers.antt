use Rattle.std.proofs.Common.{ap, inr, refl}
use Rattle.craig_top.specs.LastRefutation.{SessionView}
use Rattle.craig_top.proofs.RunLemmas.{Promise-unread, Progress-start, EndsDone-from}
use Rattle.craig_top.proofs.run.run_script.Goals as goal

pub returns-in_default-clause-promise : goal.returns-in_default-clause-promise
returns-in_default-clause-promise g c = Promise-unread c.args.settings c.args.bound _ _

pub returns-in_default-clause-complete : goal.returns-in_default-clause-complete
returns-in_default-clause-complete g c = λ all h short no_read no_write. inr refl

pub returns-clause-promise : goal.returns-clause-promise
returns-clause-promise g c = c.read_to_end.ensures.promise c.args.settings _ _ (Progress-start c.args.settings _ _ _ _ (ap (λ (v : SessionView). v.state) c.new.ensures) c.new-2.ensures)

pub returns-clause-complete : goal.returns-clause-complete
returns-clause-complete g c =
    EndsDone-from c.args.settings c.args.bound _ _ _ _ _ _ _ (c.read_to_end.ensures.promise c.args.settings _ _ (Progress-start c.args.settings _ _ _ _ (ap (λ (v : SessionView). v.state) c.new.ensures) c.new-2.ensures))
    c.read_to_end.ensures.read_fault.fault c.read_to_end.ensures.write_fault.fault c.read_to_end.ensures.no_usage
