use Rattle.std.proofs.Common.{ℕ, ◌+◌, ◌<◌, ◌∷◌, ◌++◌, [], List, arith}
use Rattle.std.proofs.lemmas.Result.{err_from_is_err_and}
use Rattle.craig_spec.specs.AigerReading.{Symbol, symbol_in}
use Rattle.craig_aiger_read.specs.ReadFaults.{IsFaultOf, fault_of}
use Rattle.craig_aiger_read.specs.ReadLines.{lines_at}
use Rattle.craig_aiger_read.specs.ReadNames.{symbol_count, symbols_read}
use Rattle.craig_aiger_read.specs.ReadViews.{as_counts}
use Rattle.craig_aiger_read.proofs.FaultLemmas.{FailsBy-through, IfErr-passed}
use Rattle.craig_aiger_read.proofs.ReadLinesLemmas.{read-fault, read-more}
use Rattle.craig_aiger_read.proofs.SymbolLemmas.{symbol_count-line}
use Rattle.craig_aiger_read.proofs.symbols.read_symbols.Goals as goal

pub returns-in_err-add_symbol-clause-fault : goal.returns-in_err-add_symbol-clause-fault
returns-in_err-add_symbol-clause-fault c =
    let p = err_from_is_err_and c.from_residual-in_err-add_symbol.result c.from_residual-in_err-add_symbol.ensures.1 in
    let counts = as_counts c.args.counts.now in
    let text = lines_at c.args.end c.args.text.now in
    let symbols : List Symbol = c.loop-line.invariant.0 in
    let i : ℕ = c.loop-line.invariant.1 in
    let first = c.in-Some.ensures.some in
    let short = c.loop-line.invariant.2.shorter in
    let more = symbol_count-line c.args.end c.loop-line.rest.now c.in-Some.line.now c.in-Some.behind.now first (omega (arith, short, c.requires)) c.in-Some.ensures.symbol in
    let inside : i < symbol_count text = omega (arith, more, c.loop-line.invariant.4) in
    IfErr-passed (λ e. IsFaultOf e (symbols_read counts c.args.end text)) _ p.0 c.in_err-add_symbol.field-0.0 p.1 p.2
    (FailsBy-through (fault_of c.in_err-add_symbol.field-0.0) _ _
    (λ f e. read-fault (symbol_in counts) c.args.end (symbol_count text) i symbols c.args.text.now c.loop-line.rest.now c.in-Some.line.now c.in-Some.behind.now f
    c.loop-line.invariant.2 inside c.requires first e)
    (c.in_err-add_symbol.ensures.fault counts symbols c.loop-line.invariant.3))

pub loop-line-preserved : goal.loop-line-preserved
loop-line-preserved c =
    let counts = as_counts c.args.counts.now in
    let text = lines_at c.args.end c.args.text.now in
    let symbols : List Symbol = c.loop-line.invariant.0 in
    let i : ℕ = c.loop-line.invariant.1 in
    let first = c.in-Some.ensures.some in
    let short = c.loop-line.invariant.2.shorter in
    let more = symbol_count-line c.args.end c.loop-line.rest.now c.in-Some.line.now c.in-Some.behind.now first (omega (arith, short, c.requires)) c.in-Some.ensures.symbol in
    let inside : i < symbol_count text = omega (arith, more, c.loop-line.invariant.4) in
    let added = c.in_ok-add_symbol.ensures.named counts symbols c.loop-line.invariant.3 in (
      symbols ++ added.0 ∷ [],
      i + 1,
      read-more (symbol_in counts) c.args.end (symbol_count text) i symbols c.args.text.now c.loop-line.rest.now c.in-Some.line.now c.in-Some.behind.now added.0
          c.loop-line.invariant.2 inside c.requires first added.1,
      added.2,
      omega (arith, more, c.loop-line.invariant.4),
    )
