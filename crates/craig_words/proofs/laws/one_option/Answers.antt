use Rattle.craig_script.specs.Reading.{format_named, system_named}
use Rattle.craig_words.specs.CommandLine.{limit_named, steps_named}
use Rattle.craig_words.specs.Runs.{nothing_set}
use Rattle.craig_words.proofs.SetLemmas.{alone}
use Rattle.craig_words.proofs.laws.one_option.Goals as goal

pub returns-clause-system : goal.returns-clause-system
returns-clause-system c = λ value. alone (λ o. record nothing_set { system = o }) (system_named value)

pub returns-clause-format : goal.returns-clause-format
returns-clause-format c = λ value. alone (λ o. record nothing_set { format = o }) (format_named value)

pub returns-clause-limit : goal.returns-clause-limit
returns-clause-limit c = λ value. alone (λ o. record nothing_set { limit = o }) (limit_named value)

pub returns-clause-steps : goal.returns-clause-steps
returns-clause-steps c = λ value. alone (λ o. record nothing_set { steps = o }) (steps_named value)
