use Rattle.std.proofs.Common.{◌∙◌, sym, ap}
use Rattle.std.specs.Option.{option_copied, option_map}
use Rattle.craig_spec.specs.AigerReading.{number_in}
use Rattle.craig_aiger_read.proofs.SymbolLemmas.{symbol_of-spaced, symbol_of-unspaced}
use Rattle.craig_aiger_read.proofs.symbols.symbol_in_line.Goals as goal

pub returns-in_err-behind : goal.returns-in_err-behind
returns-in_err-behind c =
    ap (option_map _) c.from_residual-in_err-behind.ensures
    ∙ sym (symbol_of-unspaced c.args.line.now c.in_ok-letter.rest.now c.in_ok-letter.letter.now c.in_ok-letter.ensures.cases.0 (sym c.cut_at.ensures.behind ∙ ap option_copied c.in_err-behind.was))

pub returns : goal.returns
returns c =
    symbol_of-spaced c.args.line.now c.in_ok-letter.rest.now c.in_ok-behind.field-0.now c.in_ok-letter.letter.now c.in_ok-number_of.field-0 c.in_ok-letter.ensures.cases.0
    (sym c.cut_at.ensures.behind ∙ ap option_copied c.in_ok-behind.was)
    (ap number_in (sym c.cut_at.ensures.front) ∙ sym c.number_of.ensures.value ∙ c.in_ok-number_of.was)
