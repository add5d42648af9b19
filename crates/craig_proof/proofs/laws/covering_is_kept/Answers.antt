use Rattle.craig_proof.proofs.CoversLemmas.{IsCovering-nothing, IsCovering-fewer, IsCovering-original, IsCovering-derived, IsCovering-forgotten, IsCovering-reclaimed}
use Rattle.craig_proof.proofs.laws.covering_is_kept.Goals as goal

pub returns-clause-nothing : goal.returns-clause-nothing
returns-clause-nothing c = IsCovering-nothing

pub returns-clause-fewer : goal.returns-clause-fewer
returns-clause-fewer c = IsCovering-fewer

pub returns-clause-original : goal.returns-clause-original
returns-clause-original c = IsCovering-original

pub returns-clause-derived : goal.returns-clause-derived
returns-clause-derived c = IsCovering-derived

pub returns-clause-forgotten : goal.returns-clause-forgotten
returns-clause-forgotten c = IsCovering-forgotten

pub returns-clause-reclaimed : goal.returns-clause-reclaimed
returns-clause-reclaimed c = IsCovering-reclaimed
