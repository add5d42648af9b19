use Rattle.std.proofs.Common.{◌≡◌, ◌∙◌, ◌++◌, ◌-◌, List, ℕ, take, sym, subst, arith}
use Rattle.std.proofs.lemmas.Result.{on_ok_weaker, on_err_weaker}
use Rattle.craig_script.specs.Lines.{cut_back, IsPartial}
use Rattle.craig_script.proofs.Outcomes.{either_way}
use Rattle.craig_script.proofs.LinesLemmas.{cut_back-append, cut_back-IsPartial, has_newline-append}
use Rattle.craig_script.proofs.lines.keep.Goals as goal

as_cut_back : (c : goal.After-extend_from_slice) → c.args.partial.now ++ take c.min-fitting.result c.args.bytes.now ≡ cut_back (c.args.partial.now ++ c.args.bytes.now)
as_cut_back c = rw c.min-fitting.ensures (cut_back-append c.args.partial.now c.args.bytes.now (1048577 - c.len.result) (omega arith))

pub returns-clause-partial : goal.returns-clause-partial
returns-clause-partial c =
    let P : List ℕ → Type 0 = λ x. IsPartial x in
    either_way c.extend_from_slice.result
    (on_ok_weaker c.extend_from_slice.result
    (λ h. subst P (sym (h ∙ as_cut_back c)) (cut_back-IsPartial (c.args.partial.now ++ c.args.bytes.now) (has_newline-append c.args.partial.now c.args.bytes.now c.requires.partial.open_ended c.requires.open_ended)))
    c.extend_from_slice.ensures.appended)
    (on_err_weaker c.extend_from_slice.result (λ h. subst P (sym h) c.requires.partial) c.extend_from_slice.ensures.unchanged)

pub returns-clause-ok : goal.returns-clause-ok
returns-clause-ok c = on_ok_weaker c.extend_from_slice.result (λ h. h ∙ as_cut_back c) c.extend_from_slice.ensures.appended
