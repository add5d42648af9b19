use Rattle.craig_itp.proofs.OutputsLemmas.{output-implied, output-refuted, output-step}
use Rattle.craig_itp.proofs.laws.outputs_of_a_refutation.Goals as goal

pub returns : goal.returns
returns c = record {
  implied = λ marks sides t root r some parts cut within s hold. output-implied sides marks t root r some parts s cut within hold;
  refuted = λ marks sides t root r some parts cut within s hold. output-refuted sides marks t root r some parts s cut within hold;
  step = λ marks sides t root r some parts cut later below within s hold before. output-step sides marks t root r some parts s cut later below within hold before;
}
