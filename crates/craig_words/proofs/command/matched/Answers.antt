use Rattle.std.proofs.Common.{◌≡◌, ◌∙◌, ap, subst, sym, map, string_bytes, List, ℕ, inl, inr}
use Rattle.clap.specs.Words.{App, app_of, fault_of, matches_of, is_simple_and_free, is_simple, kind_of, IsAmong}
use Rattle.craig_words.specs.ClapCommand.{words_app}
use Rattle.craig_words.proofs.ParseLemmas.{after_memory, taken, faulty}
use Rattle.craig_words.proofs.command.matched.Goals as goal

pub returns-in_err-command : goal.returns-in_err-command
returns-in_err-command c = after_memory _ c.from_residual.result c.in_err-command.field-0.0 c.from_residual.ensures.1

pub returns-in-Ok : goal.returns-in-Ok
returns-in-Ok c =
    let app : app_of c.in_ok-command.command ≡ words_app = c.in_ok-command.ensures in
    let texts : List (List ℕ) = map (λ word. string_bytes word) c.args.words.now in
    taken texts c.in-Ok.matches c.requires
    ((c.in-Ok.ensures.matches (ap is_simple app)).0 ∙ ap (λ (a : App). matches_of a texts) app)
    (ap (λ (a : App). fault_of a texts) (sym app) ∙ c.in-Ok.ensures.kinds (ap is_simple_and_free app))

pub returns : goal.returns
returns c =
    let app : app_of c.in_ok-command.command ≡ words_app = c.in_ok-command.ensures in
    let texts : List (List ℕ) = map (λ word. string_bytes word) c.args.words.now in
    elim (c.in-Err.ensures.kinds (ap is_simple_and_free app)) [
      | inl memory ↦ absurd (c.in_default.not-OutOfMemory (c.kind.ensures ∙ memory))
      | inr among ↦ faulty texts (kind_of c.in-Err.error) c.requires (subst (λ (a : App). IsAmong (kind_of c.in-Err.error) (fault_of a texts)) app among)
    ]
