use Rattle.std.proofs.Common.{◌≤◌, length, ap, ◌∙◌, arith}
use Rattle.craig_aig.specs.Values.{true_variables, edge_value_in}
use Rattle.craig_aig.proofs.ValuesLemmas.{length-values, IsAig-front, edge_value-front}
use Rattle.craig_aig.proofs.arena.Aig.value.Goals as goal

pub values_of-requires : goal.values_of-requires
values_of-requires c =
    rw (c.place.ensures.value, c.as_slice.ensures.keys) (IsAig-front c.args.self.now c.self.inside.nodes.keys c.args.edge.place c.self.view_is c.self.invariant c.requires)

pub value_in-requires : goal.value_in-requires
value_in-requires c =
    let inside : c.args.edge.place ≤ length c.self.inside.nodes.keys = omega (arith, ap length c.self.view_is, c.requires) in
    let is = c.as_slice-2.ensures.value ∙ (rw (c.place.ensures.value, c.as_slice.ensures.keys) at c.in_ok-values.ensures) in
    let count = ap length is ∙ length-values (true_variables c.args.assignment.now) c.self.inside.nodes.keys c.args.edge.place inside in
    omega (arith, count)

pub returns : goal.returns
returns c =
    let s = true_variables c.args.assignment.now in
    let is = c.as_slice-2.ensures.value ∙ (rw (c.place.ensures.value, c.as_slice.ensures.keys) at c.in_ok-values.ensures) in
    c.value_in.ensures ∙ ap (λ v. edge_value_in v c.args.edge) is ∙ edge_value-front s c.args.self.now c.self.inside.nodes.keys c.args.edge c.self.view_is c.requires
