use Rattle.std.proofs.Common.{◌≡◌, ◌<◌, ◌∙◌, ◌++◌, [], ◌∷◌, ap, arith, get_or, length, nat_lt, sym}
use Rattle.std.proofs.lemmas.List.{append-nil}
use Rattle.std.proofs.lemmas.List.Elements.{Contains-get_or}
use Rattle.std.specs.List.{flat_map, list_all}
use Rattle.craig_spec.specs.Literal.{Clause, Literal}
use Rattle.craig_spec.proofs.MemberLemmas.{list_all-member}
use Rattle.craig_top.specs.ReplyTexts.{lemma_text, unknown_line}
use Rattle.craig_top.proofs.LemmaReplyLemmas.{AreNamedLemmas-all, AreNamedLemmas-none, AreNamedLemmas-push}
use Rattle.craig_top.proofs.ReplyLemmas.{lemma-listed}
use Rattle.craig_top.proofs.lemmas.append_lemmas.Goals as goal

pub loop-place-init : goal.loop-place-init
loop-place-init c = (
  [],
  AreNamedLemmas-none c.args.names.now,
  c.in_ok-append_unknown.ensures.text ∙ ap (λ n. c.args.out.now.items ++ unknown_line n) c.len.ensures ∙ ap (λ bs. c.args.out.now.items ++ bs) (sym (append-nil (unknown_line (length c.args.lemmas.now)))),
)

pub named_lemma-requires : goal.named_lemma-requires
named_lemma-requires c =
    let within : c.loop-place.place < length c.args.lemmas.now = omega (arith, c.loop-place-test.true, c.len-place-end.ensures) in
    rw c.lemma.ensures (list_all-member (λ (d : Clause). list_all (λ (l : Literal). nat_lt l.var (length c.args.names.now)) d) c.args.lemmas.now (get_or c.args.lemmas.now c.loop-place.place []) (Contains-get_or c.args.lemmas.now c.loop-place.place [] within) c.requires)

pub loop-place-preserved : goal.loop-place-preserved
loop-place-preserved c =
    let within : c.loop-place.place < length c.args.lemmas.now = omega (arith, c.loop-place-test.true, c.len-place-end.ensures) in
    let so = c.loop-place.invariant in
    let named = c.in_ok-lemma.lemma.items in (
      so.0 ++ named ∷ [],
      AreNamedLemmas-push c.args.names.now c.loop-place.place c.args.lemmas.now so.0 named [] so.1 within (rw c.lemma.ensures at c.in_ok-lemma.ensures),
      lemma-listed c.args.out.now.items (unknown_line (length c.args.lemmas.now)) so.0 named c.loop-place.out.items c.append_lemma.new.out.items so.2 (c.in_ok-append_lemma.ensures.text ∙ ap (λ ls. c.loop-place.out.items ++ lemma_text ls) c.deref.ensures.value),
    )

pub returns-clause-lemmas : goal.returns-clause-lemmas
returns-clause-lemmas c =
    let so = c.loop-place.invariant in
    let end : c.loop-place.place ≡ length c.args.lemmas.now = omega (arith, c.loop-place-test.false, c.loop-place.auto.place-end, c.len-place-end.ensures) in
    let all = AreNamedLemmas-all c.args.names.now c.loop-place.place c.args.lemmas.now so.0 so.1 end in
    (so.0, all, so.2 ∙ ap (λ n. c.args.out.now.items ++ (unknown_line n ++ flat_map lemma_text so.0)) (sym all.many))
