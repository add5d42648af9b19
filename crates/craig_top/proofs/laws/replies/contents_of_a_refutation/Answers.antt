use Rattle.craig_spec.specs.Cut.{with_units}
use Rattle.craig_top.specs.Formats.{format_in}
use Rattle.craig_top.proofs.ReplyContentsLemmas.{block_is_strict, block_literals, block_names, block_outputs, block_reads, text_of_block}
use Rattle.craig_top.proofs.TruePartsLemmas.{first_ones, first_places_rise}
use Rattle.craig_top.proofs.laws.replies.contents_of_a_refutation.Goals as goal

pub returns-clause-text : goal.returns-clause-text
returns-clause-text c = text_of_block

pub returns-clause-failed : goal.returns-clause-failed
returns-clause-failed c = λ state assumptions text reply. (first_ones assumptions reply.failed reply.names_failed, first_places_rise assumptions reply.failed reply.names_failed)

pub returns-clause-read : goal.returns-clause-read
returns-clause-read c = λ state assumptions text reply. block_reads (with_units state.accepted reply.failed) state.settings (format_in state assumptions) reply.block reply.gives

pub returns-clause-strict : goal.returns-clause-strict
returns-clause-strict c = λ state assumptions text reply. block_is_strict (with_units state.accepted reply.failed) state.settings (format_in state assumptions) reply.block reply.gives

pub returns-clause-outputs : goal.returns-clause-outputs
returns-clause-outputs c = λ state assumptions text reply. block_outputs (with_units state.accepted reply.failed) state.settings (format_in state assumptions) reply.block reply.gives

pub returns-clause-named : goal.returns-clause-named
returns-clause-named c = λ state assumptions text reply. block_names (with_units state.accepted reply.failed) state.settings (format_in state assumptions) reply.block reply.gives

pub returns-clause-literals : goal.returns-clause-literals
returns-clause-literals c = λ state assumptions text reply. block_literals (with_units state.accepted reply.failed) state.settings (format_in state assumptions) reply.block reply.gives

pub returns-clause-systems : goal.returns-clause-systems
returns-clause-systems c = λ state assumptions text reply. reply.gives.interpolants.systems_are
