use Rattle.std.proofs.Common.{◌∙◌, map, string_bytes, List, ℕ, sym, subst}
use Rattle.std.specs.Prelude.{Option}
use Rattle.std.proofs.lemmas.List.Folds.{list_all-map}
use Rattle.craig_words.specs.ClapCommand.{is_readable}
use Rattle.craig_words.specs.CommandLine.{IsReadAs}
use Rattle.craig_words.specs.declared.words.Words.{Words}
use Rattle.craig_words.proofs.SettingsLemmas.{settings_read}
use Rattle.craig_words.proofs.UnreadableLemmas.{unreadable_refused}
use Rattle.craig_words.proofs.reading.read_words.Goals as goal

pub returns-then-not-are_readable : goal.returns-then-not-are_readable
returns-then-not-are_readable c =
    unreadable_refused (map (λ word. string_bytes word) c.args.words.now)
    (list_all-map is_readable (λ word. string_bytes word) c.args.words.now ∙ sym c.are_readable.ensures ∙ c.if-not-are_readable.true)

pub matched-requires : goal.matched-requires
matched-requires c = list_all-map is_readable (λ word. string_bytes word) c.args.words.now ∙ sym c.are_readable.ensures ∙ c.if-not-are_readable.false

pub returns : goal.returns
returns c =
    let texts : List (List ℕ) = map (λ word. string_bytes word) c.args.words.now in
    subst (λ (answer : Option Words). IsReadAs answer c.settings.result) (settings_read texts c.in_ok-matches.matches c.in_ok-matches.ensures) c.settings.ensures
