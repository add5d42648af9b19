use Rattle.craig_itp.proofs.CutsLemmas.{cut-implied, cut-nothing_left, cut-refuted, cut-step}
use Rattle.craig_itp.proofs.laws.cuts_of_a_refutation.Goals as goal

pub returns : goal.returns
returns c = record {
  implied = cut-implied;
  refuted = cut-refuted;
  step = cut-step;
  nothing_left = cut-nothing_left;
}
