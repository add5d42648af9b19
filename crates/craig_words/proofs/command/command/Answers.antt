use Rattle.std.proofs.Common.{◌≡◌, ◌∙◌, ap, ap₂, true}
use Rattle.std.proofs.lemmas.Result.{IfOk-weaker}
use Rattle.clap.specs.Words.{App, app_of, with_rule}
use Rattle.clap.specs.Simple.{app_of_fields}
use Rattle.clap.specs.declared.builder.command.Command.{Command}
use Rattle.clap.specs.declared.builder.command.Command.TheOpen.{Command-F}
use Rattle.craig_words.specs.ClapCommand.{bare_app}
use Rattle.craig_words.proofs.command.command.Goals as goal

pub returns : goal.returns
returns c =
    let bare : app_of c.disable_help_flag.result ≡ bare_app =
    ap app_of_fields c.disable_help_flag.ensures
    ∙ ap (λ (fields : Command-F Command). app_of_fields (record fields { disable_help_flag = true })) c.no_binary_name.ensures
    ∙ ap (λ (app : App). record app { top = record app.top { no_binary_name = true; disable_help_flag = true } }) c.new.ensures.app in
    let system = c.in_ok-arg.ensures.shape c.option.ensures.local ∙ ap₂ with_rule bare c.option.ensures.rule in
    let format = c.in_ok-arg-2.ensures.shape c.option-2.ensures.local ∙ ap₂ with_rule system c.option-2.ensures.rule in
    let limit = c.in_ok-arg-3.ensures.shape c.option-3.ensures.local ∙ ap₂ with_rule format c.option-3.ensures.rule in
    IfOk-weaker c.arg-4.result _ _ (λ r h. h.shape c.option-4.ensures.local ∙ ap₂ with_rule limit c.option-4.ensures.rule) c.arg-4.ensures
