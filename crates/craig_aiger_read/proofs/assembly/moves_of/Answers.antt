use Rattle.std.proofs.Common.{◌≡◌, ℕ, ◌<◌, List, length, map, get_or, sym, ◌∙◌, ap, subst, arith}
use Rattle.std.proofs.lemmas.List.{length-map}
use Rattle.std.proofs.lemmas.List.FromFn.{length-map-range_with_len}
use Rattle.craig_spec.specs.AigerReading.{gate_depth}
use Rattle.craig_aiger_read.specs.ReadOrder.{AreDeep, AreNewVariables}
use Rattle.craig_aiger_read.specs.ReadViews.{as_gate, as_operands}
use Rattle.craig_aiger_read.proofs.CircleLemmas.{depths-all}
use Rattle.craig_aiger_read.proofs.MovingLemmas.{places-small}
use Rattle.craig_aiger_read.proofs.OrderLemmas.{order-by-function}
use Rattle.craig_aiger_read.proofs.assembly.moves_of.Goals as goal

pub by_depth-requires : goal.by_depth-requires
by_depth-requires c =
    let gates = map as_operands c.args.gates.now in
    let lines = map as_gate c.args.lines.now in
    let all = depths-all c.args.first gates lines c.in_ok-depths.depths.items (omega (arith, c.requires.beside, length-map c.args.gates.now as_operands, length-map c.args.lines.now as_gate)) c.in_ok-depths.ensures in
    subst AreDeep (sym c.as_slice.ensures.value) all.deep

pub new_variables-requires-clause-small : goal.new_variables-requires-clause-small
new_variables-requires-clause-small c =
    let gates = map as_operands c.args.gates.now in
    let lines = map as_gate c.args.lines.now in
    let all = depths-all c.args.first gates lines c.in_ok-depths.depths.items (omega (arith, c.requires.beside, length-map c.args.gates.now as_operands, length-map c.args.lines.now as_gate)) c.in_ok-depths.ensures in
    let size : length c.in_ok-order.order.items ≡ length c.args.gates.now =
    c.in_ok-order.ensures.long ∙ ap length c.as_slice.ensures.value ∙ ap length all.are ∙ length-map-range_with_len (gate_depth c.args.first gates) 0 (length gates) ∙ length-map c.args.gates.now as_operands in
    omega (arith, size, ap length c.as_slice-2.ensures.value, c.requires.small)

pub new_variables-requires-clause-inside : goal.new_variables-requires-clause-inside
new_variables-requires-clause-inside c =
    let P : List ℕ → Type 0 = λ z. (j : ℕ) → j < length z → get_or z j 0 < length z in
    subst P (sym c.as_slice-2.ensures.value) (λ j low. omega (arith, c.in_ok-order.ensures.inside j 0 low, c.in_ok-order.ensures.long))

pub returns-clause-ok : goal.returns-clause-ok
returns-clause-ok c =
    let gates = map as_operands c.args.gates.now in
    let lines = map as_gate c.args.lines.now in
    let all = depths-all c.args.first gates lines c.in_ok-depths.depths.items (omega (arith, c.requires.beside, length-map c.args.gates.now as_operands, length-map c.args.lines.now as_gate)) c.in_ok-depths.ensures in
    let size : length c.in_ok-order.order.items ≡ length c.args.gates.now =
    c.in_ok-order.ensures.long ∙ ap length c.as_slice.ensures.value ∙ ap length all.are ∙ length-map-range_with_len (gate_depth c.args.first gates) 0 (length gates) ∙ length-map c.args.gates.now as_operands in
    let P : List ℕ → Type 0 = λ z. AreNewVariables c.args.first z c.in_ok-variables.variables.items in
    let places = subst P c.as_slice-2.ensures.value c.in_ok-variables.ensures.places in
    record {
      acyclic = all.acyclic;
      order = c.in_ok-order.ensures.order ∙ order-by-function (gate_depth c.args.first gates) (length gates) _ (c.as_slice.ensures.value ∙ all.are);
      places = places;
      long = c.in_ok-variables.ensures.long ∙ ap length c.as_slice-2.ensures.value ∙ size;
      inside = λ j low. omega (arith, c.in_ok-order.ensures.inside j 0 low, c.in_ok-order.ensures.long, size);
      small = places-small c.args.first c.in_ok-order.order.items c.in_ok-variables.variables.items places (omega (arith, size, c.requires.small));
    }
