use Rattle.std.proofs.Common.{refl, ◌≡◌, ℕ, ◌+◌, ◌∙◌, ap, sym, List, ◌∷◌, [], ◌++◌, arith}
use Rattle.std.specs.List.{range_with_len}
use Rattle.craig_itp.proofs.SequenceLemmas.{all_cuts-more}
use Rattle.craig_itp.proofs.interpolation.cuts_up_to.Goals.{else-loop-cut-test, then-loop-cut-test+in_ok-push+else-cut-parts}
use Rattle.craig_itp.proofs.interpolation.cuts_up_to.Goals as goal

pub loop-cut-preserved : goal.loop-cut-preserved
loop-cut-preserved c = c.in_ok-push.ensures.items ∙ ap (λ (cuts : List ℕ). cuts ++ c.loop-cut.cut ∷ []) c.loop-cut.invariant ∙ sym (all_cuts-more c.loop-cut.cut c.loop-cut.cut refl)

pub returns : goal.returns
returns c =
    elim c.loop-cut-test.branch [
      | else-loop-cut-test w ↦ absurd (omega arith)
      | then-loop-cut-test+in_ok-push+else-cut-parts w ↦
          let end : c.loop-cut.cut ≡ c.args.parts = omega arith in
          ap (λ cuts. cuts.items) w.cuts-is ∙ w.in_ok-push.ensures.items ∙ ap (λ (cuts : List ℕ). cuts ++ c.loop-cut.cut ∷ []) c.loop-cut.invariant
          ∙ sym (all_cuts-more c.loop-cut.cut c.loop-cut.cut refl) ∙ ap (λ (n : ℕ). range_with_len 0 (n + 1)) end
    ]
