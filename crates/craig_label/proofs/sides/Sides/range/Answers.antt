use Rattle.std.proofs.Common.{rules, ◌≡◌, subst}
use Rattle.craig_label.specs.Sides.{IsSides, range_of}
use Rattle.craig_label.proofs.RangeLemmas.{is_range-of}
use Rattle.craig_label.proofs.sides.Sides.range.Goals as goal

pub returns-clause-is_range : goal.returns-clause-is_range
returns-clause-is_range c =
    let value : c.flatten.result ≡ range_of c.args.self.now c.args.var.0 = search rules in
    is_range-of c.args.self.now c.args.var.0 c.flatten.result (subst IsSides c.self.view_is c.self.invariant) value
