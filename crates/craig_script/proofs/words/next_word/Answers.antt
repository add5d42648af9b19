use Rattle.std.proofs.Common.{◌∙◌, sym}
use Rattle.craig_script.proofs.WordsLemmas.{words-none, words-from, first_word, FirstWord-shorter}
use Rattle.craig_script.proofs.words.next_word.Goals as goal

pub returns-in_err-start-clause-none : goal.returns-in_err-start-clause-none
returns-in_err-start-clause-none c = rw c.from_residual.ensures (words-none c.args.line.now (sym c.word_start.ensures ∙ c.in_err-start.was))

pub returns-clause-some : goal.returns-clause-some
returns-clause-some c =
    let starts = sym c.word_start.ensures ∙ c.in_ok-start.was in
    rw (c.split_at-2.ensures.front, c.split_at-2.ensures.back, c.word_end.ensures.place, c.split_at.ensures.back)
    (words-from c.args.line.now c.in_ok-start.start starts ∙ (first_word c.args.line.now c.in_ok-start.start starts).word)

pub returns-clause-shorter : goal.returns-clause-shorter
returns-clause-shorter c =
    let starts = sym c.word_start.ensures ∙ c.in_ok-start.was in
    rw (c.split_at-2.ensures.back, c.word_end.ensures.place, c.split_at.ensures.back)
    (FirstWord-shorter c.args.line.now c.in_ok-start.start starts)
