use Rattle.std.proofs.Common.{◌∙◌, ◌<◌, ap, length, subst, sym}
use Rattle.std.proofs.lemmas.List.Elements.{Contains-get_or}
use Rattle.craig_spec.specs.Literal.{Literal}
use Rattle.craig_top.proofs.NamingLemmas.{named_clause-next, named_literal-from}
use Rattle.craig_top.proofs.OverLemmas.{IsOver-contains}
use Rattle.craig_top.proofs.lemmas.named_literals.Goals as goal

pub name-requires : goal.name-requires
name-requires c =
    subst (λ v. v < length c.args.names.now) (ap (λ (l : Literal). l.var) (sym c.literal-item.is) ∙ sym c.var.ensures.value)
    (IsOver-contains (length c.args.names.now) c.args.lits.now _ c.requires (Contains-get_or c.args.lits.now c.loop-literal.literal-index c.literal-item.result c.loop-literal-test.true))

pub loop-literal-preserved : goal.loop-literal-preserved
loop-literal-preserved c =
    named_clause-next c.args.names.now c.args.lits.now c.loop-literal.literal-index c.literal-item.result c.loop-literal.named.items c.push.new.self.items c.new.result c.loop-literal.invariant
    c.loop-literal-test.true c.literal-item.is
    (c.new.ensures ∙ ap (λ b. record { var = c.name.result; negated = b }) c.negated.ensures ∙ named_literal-from c.args.names.now c.literal-item.result c.var.result.0 c.name.result c.var.ensures.value c.name.ensures.value)
    c.in_ok-push.ensures.items
