use Rattle.std.proofs.Common.{◌≡◌, ◌-◌, sym, ◌∙◌, arith}
use Rattle.craig_aiger.specs.Layouts.{edges_of}
use Rattle.craig_aiger.proofs.NeededLemmas.{Back-gate, Back-skip, AreNeeded-done, gate_read, operands_within}
use Rattle.craig_aiger.proofs.needed.keep_back.Goals as goal

pub keep-requires-clause-within : goal.keep-requires-clause-within
keep-requires-clause-within c =
    (operands_within c.args.aig.now (edges_of c.args.outputs.now) c.loop-place.table (c.loop-place.place - 1) c.loop-place.place _ _ c.requires.is_arena c.loop-place.invariant.back
    (gate_read c.loop-place.table (c.loop-place.place - 1) c.index-table-place.result _ _ (omega (arith, c.loop-place.invariant.within)) (sym c.gate_operands.ensures ∙ c.in-Some.is))).0

pub keep-requires-in-Some-clause-within : goal.keep-requires-in-Some-clause-within
keep-requires-in-Some-clause-within c =
    (operands_within c.args.aig.now (edges_of c.args.outputs.now) c.loop-place.table (c.loop-place.place - 1) c.loop-place.place _ _ c.requires.is_arena c.loop-place.invariant.back
    (gate_read c.loop-place.table (c.loop-place.place - 1) c.index-table-place.result _ _ (omega (arith, c.loop-place.invariant.within)) (sym c.gate_operands.ensures ∙ c.in-Some.is))).1

pub loop-place-preserved-in-Some : goal.loop-place-preserved-in-Some
loop-place-preserved-in-Some c = record {
  within = omega (arith, c.loop-place.invariant.within, c.keep.ensures.lengths, c.keep-in-Some.ensures.lengths);
  back = Back-gate c.args.aig.now (edges_of c.args.outputs.now) c.loop-place.table c.keep.new.table c.keep-in-Some.new.table _ _ (c.loop-place.place - 1) c.loop-place.place c.requires.is_arena (omega (arith, c.loop-place-test.true))
      (gate_read c.loop-place.table (c.loop-place.place - 1) c.index-table-place.result _ _ (omega (arith, c.loop-place.invariant.within)) (sym c.gate_operands.ensures ∙ c.in-Some.is))
      c.keep.ensures.kept c.keep.ensures.lengths c.keep-in-Some.ensures.kept c.keep-in-Some.ensures.lengths c.loop-place.invariant.back;
}

pub loop-place-preserved : goal.loop-place-preserved
loop-place-preserved c = record {
  within = omega (arith, c.loop-place.invariant.within);
  back = Back-skip c.args.aig.now (edges_of c.args.outputs.now) c.loop-place.table (c.loop-place.place - 1) c.loop-place.place c.index-table-place.result (omega (arith, c.loop-place-test.true)) (omega (arith, c.loop-place.invariant.within)) (sym c.gate_operands.ensures ∙ c.in_default.is) c.loop-place.invariant.back;
}

pub returns : goal.returns
returns c =
    let first : c.loop-place.place ≡ 0 = omega (arith, c.loop-place-test.false) in
    AreNeeded-done c.args.aig.now (edges_of c.args.outputs.now) c.loop-place.table (rw first at c.loop-place.invariant.back)
