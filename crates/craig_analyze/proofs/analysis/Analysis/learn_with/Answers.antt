use Rattle.std.proofs.Common.{◌≡◌, ◌∷◌, ap, sym, subst, refl, ◌∙◌, length, map, All, Contains}
use Rattle.std.proofs.lemmas.Option.{same_Some}
use Rattle.std.proofs.lemmas.Result.{IfOk-from_err}
use Rattle.craig_spec.specs.Literal.{Literal, Clause}
use Rattle.craig_proof.specs.Tracer.{chain_of}
use Rattle.craig_watch.specs.Trail.{IsAssigned, level_at}
use Rattle.craig_analyze.specs.Learnt.{IsGreatestOf, IsNumberOfDifferent}
use Rattle.craig_analyze.specs.Resolvent.{view_of}
use Rattle.craig_analyze.proofs.LearntLemmas.{begun-present, learnt-derived, learnt-asserting, learnt-assigned, lower-assigned, lower-levels, learnt-false}
use Rattle.craig_analyze.proofs.analysis.Analysis.learn_with.Goals as goal

pub find_asserting-requires : goal.find_asserting-requires
find_asserting-requires c =
    let h = c.args.held.now in
    let ok = c.begin.ensures.consistent in
    let begun = c.in_ok-begin.ensures.begun in
    let two = c.conflicts_above_the_root.ensures.two h c.args.conflict.0 c.requires.conflict.0 ok c.requires.level c.requires.conflict.1 c.requires.conflict.2 in
    let same : c.requires.conflict.0 ≡ begun.conflict = same_Some _ _ (sym c.requires.conflict.1 ∙ begun.held) in
    record {
      consistent = ok;
      level = c.requires.level;
      unresolved = (length h.trail, begun.unresolved);
      present = begun-present h c.args.conflict.0 (view_of c.begin.new.self) two.0 ok begun (subst (λ (d : Clause). Contains d two.0) same two.2) two.5;
    }

pub minimize-requires : goal.minimize-requires
minimize-requires c = record {
  consistent = c.begin.ensures.consistent;
  level = c.requires.level;
  found = (_, view_of c.begin.new.self, c.in_ok-first.ensures);
}

pub greatest_level-back-requires : goal.greatest_level-back-requires
greatest_level-back-requires c =
    let h = c.args.held.now in
    let ended = c.in_ok-minimize.ensures in
    subst (All (λ (l : Literal). IsAssigned h.trail l.var)) (sym c.as_slice-2.ensures.value) (lower-assigned h ended.bound (view_of c.minimize.new.self) ended.unresolved)

pub count_levels-requires : goal.count_levels-requires
count_levels-requires c =
    let h = c.args.held.now in
    let lits = c.as_slice-3.ensures ∙ c.in_ok-lits.ensures ∙ ap (λ (lower : Clause). c.in_ok-first.first ∷ lower) c.as_slice.ensures.value in
    record {
      assigned = subst (All (λ (l : Literal). IsAssigned h.trail l.var)) (sym lits) (learnt-assigned h c.args.conflict.0 c.in_ok-first.first _ _ _ (view_of c.begin.new.self) (view_of c.find_asserting.new.self) (view_of c.minimize.new.self) c.begin.ensures.consistent c.requires.level c.in_ok-begin.ensures.begun c.in_ok-first.ensures c.in_ok-minimize.ensures);
      consistent = c.begin.ensures.consistent;
    }

pub returns-clause-derived : goal.returns-clause-derived
returns-clause-derived c =
    let lits = c.in_ok-lits.ensures ∙ ap (λ (lower : Clause). c.in_ok-first.first ∷ lower) c.as_slice.ensures.value in
    learnt-derived c.args.held.now c.args.conflict.0 c.in_ok-first.first _ _ _ (view_of c.begin.new.self) (view_of c.find_asserting.new.self) (view_of c.minimize.new.self) c.begin.ensures.consistent c.requires.level c.in_ok-begin.ensures.begun c.in_ok-first.ensures c.in_ok-minimize.ensures _ lits refl refl (ap chain_of c.new-rest.ensures)

pub returns-clause-asserting : goal.returns-clause-asserting
returns-clause-asserting c =
    let h = c.args.held.now in
    let ok = c.begin.ensures.consistent in
    let lits = c.in_ok-lits.ensures ∙ ap (λ (lower : Clause). c.in_ok-first.first ∷ lower) c.as_slice.ensures.value in
    let back = subst (λ (lower : Clause). IsGreatestOf (map (level_at h.trail) lower) c.greatest_level-back.result) c.as_slice-2.ensures.value c.greatest_level-back.ensures in
    let glue = subst (λ (d : Clause). IsNumberOfDifferent (map (level_at h.trail) d) c.in_ok-glue.glue) c.as_slice-3.ensures c.in_ok-glue.ensures in
    let falsified = learnt-false h c.args.conflict.0 c.in_ok-first.first _ _ _ (view_of c.begin.new.self) (view_of c.find_asserting.new.self) (view_of c.minimize.new.self) ok c.requires.level c.in_ok-begin.ensures.begun c.in_ok-first.ensures c.in_ok-minimize.ensures in
    let lower = lower-levels h c.args.conflict.0 c.in_ok-first.first _ _ _ (view_of c.begin.new.self) (view_of c.find_asserting.new.self) (view_of c.minimize.new.self) ok c.requires.level c.in_ok-begin.ensures.begun c.in_ok-first.ensures c.in_ok-minimize.ensures in
    learnt-asserting h c.args.conflict.0 c.in_ok-first.first _ _ _ (view_of c.begin.new.self) (view_of c.find_asserting.new.self) (view_of c.minimize.new.self) ok c.requires.level c.in_ok-begin.ensures.begun c.in_ok-first.ensures c.in_ok-minimize.ensures _ lits back glue (c.conflicts_above_the_root.ensures.new h c.in_ok-first.first _ ok c.requires.level falsified lower)

pub returns-in_err-begin-clause-derived : goal.returns-in_err-begin-clause-derived
returns-in_err-begin-clause-derived c = IfOk-from_err _ _ c.from_residual.ensures.0

pub returns-in_err-begin-clause-begins : goal.returns-in_err-begin-clause-begins
returns-in_err-begin-clause-begins c = IfOk-from_err _ _ c.from_residual.ensures.0

pub returns-in_err-begin-clause-asserting : goal.returns-in_err-begin-clause-asserting
returns-in_err-begin-clause-asserting c = IfOk-from_err _ _ c.from_residual.ensures.0

pub returns-in_err-first-clause-derived : goal.returns-in_err-first-clause-derived
returns-in_err-first-clause-derived c = IfOk-from_err _ _ c.from_residual-in_err-first.ensures.0

pub returns-in_err-first-clause-begins : goal.returns-in_err-first-clause-begins
returns-in_err-first-clause-begins c = IfOk-from_err _ _ c.from_residual-in_err-first.ensures.0

pub returns-in_err-first-clause-asserting : goal.returns-in_err-first-clause-asserting
returns-in_err-first-clause-asserting c = IfOk-from_err _ _ c.from_residual-in_err-first.ensures.0

pub returns-in_err-minimize-clause-derived : goal.returns-in_err-minimize-clause-derived
returns-in_err-minimize-clause-derived c = IfOk-from_err _ _ c.from_residual-in_err-minimize.ensures.0

pub returns-in_err-minimize-clause-begins : goal.returns-in_err-minimize-clause-begins
returns-in_err-minimize-clause-begins c = IfOk-from_err _ _ c.from_residual-in_err-minimize.ensures.0

pub returns-in_err-minimize-clause-asserting : goal.returns-in_err-minimize-clause-asserting
returns-in_err-minimize-clause-asserting c = IfOk-from_err _ _ c.from_residual-in_err-minimize.ensures.0

pub returns-in_err-lits-clause-derived : goal.returns-in_err-lits-clause-derived
returns-in_err-lits-clause-derived c = IfOk-from_err _ _ c.from_residual-in_err-lits.ensures.0

pub returns-in_err-lits-clause-begins : goal.returns-in_err-lits-clause-begins
returns-in_err-lits-clause-begins c = IfOk-from_err _ _ c.from_residual-in_err-lits.ensures.0

pub returns-in_err-lits-clause-asserting : goal.returns-in_err-lits-clause-asserting
returns-in_err-lits-clause-asserting c = IfOk-from_err _ _ c.from_residual-in_err-lits.ensures.0

pub returns-in_err-glue-clause-derived : goal.returns-in_err-glue-clause-derived
returns-in_err-glue-clause-derived c = IfOk-from_err _ _ c.from_residual-in_err-glue.ensures.0

pub returns-in_err-glue-clause-begins : goal.returns-in_err-glue-clause-begins
returns-in_err-glue-clause-begins c = IfOk-from_err _ _ c.from_residual-in_err-glue.ensures.0

pub returns-in_err-glue-clause-asserting : goal.returns-in_err-glue-clause-asserting
returns-in_err-glue-clause-asserting c = IfOk-from_err _ _ c.from_residual-in_err-glue.ensures.0
