use Rattle.std.proofs.Common.{◌∙◌, ◌<◌, ap, length, subst, sym}
use Rattle.std.proofs.lemmas.List.Elements.{Contains-get_or}
use Rattle.craig_spec.specs.Literal.{Literal}
use Rattle.craig_base.specs.declared.script_part.Part.{Part}
use Rattle.craig_spec.proofs.MemberLemmas.{Contains-image}
use Rattle.craig_top.proofs.NamingLemmas.{named_clause-more, named_literal-from}
use Rattle.craig_top.proofs.OverLemmas.{IsOver-contains}
use Rattle.craig_top.proofs.assumptions.named_literals.Goals as goal

pub name-requires : goal.name-requires
name-requires c =
    let first : Part × Literal → Literal = λ a. a.1 in
    let is = sym (ap first c.assumption-item.is) in
    subst (λ v. v < length c.args.names.now) (ap (λ (l : Literal). l.var) is ∙ sym c.var.ensures.value)
    (IsOver-contains (length c.args.names.now) _ _ c.requires (Contains-image first c.args.assumptions.now _ (Contains-get_or c.args.assumptions.now c.loop-assumption.assumption-index c.assumption-item.result c.loop-assumption-test.true)))

pub loop-assumption-preserved : goal.loop-assumption-preserved
loop-assumption-preserved c =
    named_clause-more c.args.names.now c.args.assumptions.now c.loop-assumption.assumption-index c.assumption-item.result c.loop-assumption.literals.items c.push.new.self.items c.new.result c.loop-assumption.invariant
    c.loop-assumption-test.true c.assumption-item.is
    (c.new.ensures ∙ ap (λ b. record { var = c.name.result; negated = b }) c.negated.ensures ∙ named_literal-from c.args.names.now c.assumption-item.result.1 c.var.result.0 c.name.result c.var.ensures.value c.name.ensures.value)
    c.in_ok-push.ensures.items
