use Rattle.std.proofs.Common.{None, ap, ◌∙◌}
use Rattle.craig_solver.specs.State.{StateView}
use Rattle.craig_solver.proofs.ForgottenLemmas.{IsState-root_forgotten, root-unforgotten}
use Rattle.craig_solver.proofs.RootLemmas.{root-gone}
use Rattle.craig_solver.proofs.state.State.forget_root.Goals as goal

pub forget-requires : goal.forget-requires
forget-requires g c =
    root-unforgotten _ c.in-Some.root c.forget_units.ensures.state (ap (λ (s : StateView). s.root) c.forget_units.ensures.forgets ∙ c.in-Some.is)

pub returns-in-Some-clause-state : goal.returns-in-Some-clause-state
returns-in-Some-clause-state g c =
    IsState-root_forgotten _ (g.T.Tracer.told c.forget.new.self) c.in-Some.root c.forget_units.ensures.state (ap (λ (s : StateView). s.root) c.forget_units.ensures.forgets ∙ c.in-Some.is) c.forget_units.ensures.units c.forget.ensures.told

pub returns-in-Some-clause-forgets : goal.returns-in-Some-clause-forgets
returns-in-Some-clause-forgets g c = record {
  rest = ap (λ (s : StateView). record s { told = g.T.Tracer.told c.forget.new.self; root = None }) c.forget_units.ensures.forgets;
  gone = root-gone _ _ _ c.in-Some.root c.in-Some.is c.forget.ensures.told;
}
