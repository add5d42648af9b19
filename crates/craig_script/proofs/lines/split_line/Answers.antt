use Rattle.std.proofs.Common.{◌≡◌, ◌∙◌, ◌+◌, ◌-◌, take, drop, length, sym, arith}
use Rattle.std.proofs.lemmas.List.{take_all, length-drop}
use Rattle.craig_script.proofs.LinesLemmas.{has_newline-by_position, first_newline}
use Rattle.craig_script.proofs.lines.split_line.Goals as goal

pub returns-in_err-end-clause-none : goal.returns-in_err-end-clause-none
returns-in_err-end-clause-none c = rw c.from_residual.ensures (has_newline-by_position c.args.bytes.now (sym c.newline_position.ensures ∙ c.in_err-end.was))

pub returns-clause-some : goal.returns-clause-some
returns-clause-some c =
    let behind = drop (c.in_ok-end.end + 1) c.args.bytes.now in
    let all : take (length c.args.bytes.now - (c.in_ok-end.end + 1)) behind ≡ behind =
    take_all _ behind (omega (arith, length-drop (c.in_ok-end.end + 1) c.args.bytes.now)) in
    rw all (first_newline c.args.bytes.now c.in_ok-end.end (sym c.newline_position.ensures ∙ c.in_ok-end.was))
