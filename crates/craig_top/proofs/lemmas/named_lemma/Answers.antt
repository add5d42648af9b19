use Rattle.std.proofs.Common.{◌≡◌, ◌∙◌, List, arith, length, subst}
use Rattle.std.proofs.Math.Seq.{take-append_seam}
use Rattle.std.specs.List.Sorted.{IsPermutation}
use Rattle.craig_spec.specs.Literal.{Literal}
use Rattle.craig_top.specs.LemmaReply.{IsNamedLemma}
use Rattle.craig_top.proofs.lemmas.named_lemma.Goals as goal

pub returns : goal.returns
returns c =
    let len : c.in_ok-named.named.len ≡ length c.sort_by_variable.new.literals = omega (arith, c.deref_mut.ensures.len, c.sort_by_variable.auto.literals) in
    let sorted : IsNamedLemma c.args.names.now c.args.lits.now c.sort_by_variable.new.literals = record {
      permuted = subst (λ (ls : List Literal). IsPermutation ls c.sort_by_variable.new.literals) (c.deref_mut.ensures.value ∙ c.in_ok-named.ensures) c.sort_by_variable.ensures.permutation;
      sorted = c.sort_by_variable.ensures.sorted;
    } in
    rw (len, take-append_seam _ _) sorted
