use Rattle.std.proofs.Common.{◌≡◌, ◌∙◌, [], ◌∷◌, ◌++◌, IfSome, List, Option, Some, None, refl, rules, subst, sym}
use Rattle.craig_base.specs.declared.variable.Var.{Var}
use Rattle.craig_label.specs.Sides.{IsRange, Range}
use Rattle.craig_top.specs.Sides.{AreRanges, PutsBack}
use Rattle.craig_top.proofs.PutBackLemmas.{AreRanges-front, AreRanges-last, PutsBack-last}
use Rattle.craig_top.proofs.sides.put_back.Goals as goal

pub set_range-requires : goal.set_range-requires
set_range-requires c =
    let b : Var × Option Range = (c.in-Some.var, c.in-Some.range) in
    let popped : c.loop-var.before.items ≡ c.pop.new.self.items ++ b ∷ [] = c.in-Some.ensures.items in
    some c.in-Some.range (λ r is. AreRanges-last c.loop-var.sides.parts c.pop.new.self.items c.loop-var.before.items b popped c.loop-var.invariant.ranges r is)
  where
    some : (o : Option Range) → ((r : Range) → o ≡ Some r → IsRange c.loop-var.sides.parts r) → IfSome o (λ r. IsRange c.loop-var.sides.parts r)
    some None each = tt
    some (Some r) each = each r refl

pub loop-var-preserved : goal.loop-var-preserved
loop-var-preserved c =
    let b : Var × Option Range = (c.in-Some.var, c.in-Some.range) in
    let popped : c.loop-var.before.items ≡ c.pop.new.self.items ++ b ∷ [] = c.in-Some.ensures.items in
    let set = c.in_ok-set_range.ensures.set in
    record {
      back = λ past back. PutsBack-last c.pop.new.self.items c.loop-var.before.items c.in-Some.var c.in-Some.range c.loop-var.sides c.set_range.new.self past popped set (c.loop-var.invariant.back past back);
      ranges = subst (λ n. AreRanges n c.pop.new.self.items) (sym set.parts) (AreRanges-front c.loop-var.sides.parts c.pop.new.self.items c.loop-var.before.items b popped c.loop-var.invariant.ranges);
      is_sides = c.set_range.ensures.is_sides;
      parts = set.parts ∙ c.loop-var.invariant.parts;
    }

pub returns-clause-back : goal.returns-clause-back
returns-clause-back c =
    let empty : c.loop-var.before.items ≡ [] = search rules in
    λ past back. subst (λ (bs : List (Var × Option Range)). PutsBack bs c.loop-var.sides past) empty (c.loop-var.invariant.back past back)
