use Rattle.craig_spec.specs.Cut.{with_units}
use Rattle.craig_spec.proofs.MemberLemmas.{Contains-image}
use Rattle.craig_top.specs.Formats.{format_in}
use Rattle.craig_top.specs.RefutationReply.{marked}
use Rattle.craig_top.proofs.DrawnStepsLemmas.{by_the_rules}
use Rattle.craig_top.proofs.ReplyContentsLemmas.{system_sequence}
use Rattle.craig_top.proofs.TruePartsLemmas.{are_implied-units, are_refuted-units, imply_later-units, of_cuts, reach_shared-units}
use Rattle.craig_top.proofs.laws.replies.interpolants_of_a_refutation.Goals as goal

pub returns-clause-cuts : goal.returns-clause-cuts
returns-clause-cuts c = λ state assumptions text reply y here. of_cuts _ state.settings.parts state.settings.cuts reply.gives.circuit y.literals (system_sequence (with_units state.accepted reply.failed) state.settings (format_in state assumptions) reply.block reply.gives y here)

pub returns-clause-implied : goal.returns-clause-implied
returns-clause-implied c = λ state assumptions text reply y here. are_implied-units state.accepted reply.failed state.settings.parts state.settings.cuts reply.gives.circuit y.literals (system_sequence (with_units state.accepted reply.failed) state.settings (format_in state assumptions) reply.block reply.gives y here)

pub returns-clause-refuted : goal.returns-clause-refuted
returns-clause-refuted c = λ state assumptions text reply y here. are_refuted-units state.accepted reply.failed state.settings.parts state.settings.cuts reply.gives.circuit y.literals (system_sequence (with_units state.accepted reply.failed) state.settings (format_in state assumptions) reply.block reply.gives y here)

pub returns-clause-shared : goal.returns-clause-shared
returns-clause-shared c = λ state assumptions text reply y here. reach_shared-units state.accepted reply.failed state.settings.parts state.settings.cuts reply.gives.circuit y.literals (system_sequence (with_units state.accepted reply.failed) state.settings (format_in state assumptions) reply.block reply.gives y here)

pub returns-clause-onward : goal.returns-clause-onward
returns-clause-onward c = λ state assumptions text reply y here. imply_later-units state.accepted reply.failed state.settings.parts state.settings.cuts reply.gives.circuit y.literals (system_sequence (with_units state.accepted reply.failed) state.settings (format_in state assumptions) reply.block reply.gives y here)

pub returns-clause-strength : goal.returns-clause-strength
returns-clause-strength c = λ state assumptions text reply. reply.gives.interpolants.strength

pub returns-clause-refutation : goal.returns-clause-refutation
returns-clause-refutation c = λ state assumptions text reply y here. reply.gives.interpolants.drawn.refutes

pub returns-clause-values : goal.returns-clause-values
returns-clause-values c = λ state assumptions text reply y here.
    by_the_rules _ state.settings.parts state.settings.cuts reply.gives.circuit _ reply.gives.interpolants.drawn c.partial_values_by_steps.ensures.unique (marked y) (Contains-image marked reply.gives.systems y here)
