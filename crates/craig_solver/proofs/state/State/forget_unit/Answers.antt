use Rattle.std.proofs.Common.{◌-◌, arith}
use Rattle.craig_solver.proofs.ForgottenLemmas.{IsState-unit_forgotten, unit-unforgotten}
use Rattle.craig_solver.proofs.state.State.forget_unit.Goals as goal

pub forget-requires : goal.forget-requires
forget-requires g c = unit-unforgotten _ c.args.root c.requires.state c.requires.root c.requires.some

pub returns-clause-state : goal.returns-clause-state
returns-clause-state g c =
    IsState-unit_forgotten _ c.args.root (c.args.self.now.units - 1) (g.T.Tracer.told c.forget.new.self) c.requires.state c.requires.root c.requires.some (omega (arith, c.requires.some)) c.forget.ensures.told
