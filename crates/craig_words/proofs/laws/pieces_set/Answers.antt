use Rattle.std.proofs.Common.{◌∙◌, ◌++◌, ◌∷◌, ap, codes, sym}
use Rattle.std.specs.Prelude.{option_and_then}
use Rattle.craig_script.specs.Reading.{format_named, system_named}
use Rattle.craig_words.specs.CommandLine.{limit_named, steps_named}
use Rattle.craig_words.specs.declared.words.Words.{Words}
use Rattle.craig_words.proofs.SetLemmas.{accepted_set, one_more_accepted, value_there}
use Rattle.craig_words.proofs.SettingsLemmas.{absent}
use Rattle.craig_words.proofs.laws.pieces_set.Goals as goal

pub returns-clause-more : goal.returns-clause-more
returns-clause-more c = one_more_accepted

pub returns-clause-system : goal.returns-clause-system
returns-clause-system c = λ before after value words e.
    ap (λ (w : Words). w.system) (sym (accepted_set (before ++ record { name = codes "system"; value = value } ∷ after) words e).1)
    ∙ ap (option_and_then system_named) (value_there before after (record { name = codes "system"; value = value }) words e)

pub returns-clause-format : goal.returns-clause-format
returns-clause-format c = λ before after value words e.
    ap (λ (w : Words). w.format) (sym (accepted_set (before ++ record { name = codes "format"; value = value } ∷ after) words e).1)
    ∙ ap (option_and_then format_named) (value_there before after (record { name = codes "format"; value = value }) words e)

pub returns-clause-limit : goal.returns-clause-limit
returns-clause-limit c = λ before after value words e.
    ap (λ (w : Words). w.limit) (sym (accepted_set (before ++ record { name = codes "limit"; value = value } ∷ after) words e).1)
    ∙ ap (option_and_then limit_named) (value_there before after (record { name = codes "limit"; value = value }) words e)

pub returns-clause-steps : goal.returns-clause-steps
returns-clause-steps c = λ before after value words e.
    ap (λ (w : Words). w.steps) (sym (accepted_set (before ++ record { name = codes "gen"; value = value } ∷ after) words e).1)
    ∙ ap (option_and_then steps_named) (value_there before after (record { name = codes "gen"; value = value }) words e)

pub returns-clause-no_system : goal.returns-clause-no_system
returns-clause-no_system c = λ pieces words e none.
    ap (λ (w : Words). w.system) (sym (accepted_set pieces words e).1) ∙ ap (option_and_then system_named) (absent (codes "system") pieces none)

pub returns-clause-no_format : goal.returns-clause-no_format
returns-clause-no_format c = λ pieces words e none.
    ap (λ (w : Words). w.format) (sym (accepted_set pieces words e).1) ∙ ap (option_and_then format_named) (absent (codes "format") pieces none)

pub returns-clause-no_limit : goal.returns-clause-no_limit
returns-clause-no_limit c = λ pieces words e none.
    ap (λ (w : Words). w.limit) (sym (accepted_set pieces words e).1) ∙ ap (option_and_then limit_named) (absent (codes "limit") pieces none)

pub returns-clause-no_steps : goal.returns-clause-no_steps
returns-clause-no_steps c = λ pieces words e none.
    ap (λ (w : Words). w.steps) (sym (accepted_set pieces words e).1) ∙ ap (option_and_then steps_named) (absent (codes "gen") pieces none)
