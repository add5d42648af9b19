use Rattle.std.proofs.Common.{◌≡◌, ℕ, false, List, [], ◌∷◌, ◌++◌, refl, ap, sym, ◌∙◌, arith, rules, subst}
use Rattle.craig_script.specs.Lines.{unended, cut_back, IsPartial, has_newline, fed, line_of}
use Rattle.craig_script.proofs.LinesLemmas.{fed-line, fed-part}
use Rattle.craig_script.proofs.lines.cut_lines.Goals as goal

pub loop-front-preserved : goal.loop-front-preserved
loop-front-preserved c =
    let cut : c.loop-front.rest.now ≡ c.in-Some.front.now ++ 10 ∷ c.in-Some.behind.now = search rules in
    let none : has_newline c.in-Some.front.now ≡ false = search rules in
    let step = fed-line c.loop-front.lines.items c.loop-front.partial c.in-Some.front.now c.in-Some.behind.now c.loop-front.invariant.0.open_ended none in
    let held : c.keep.new.partial ≡ cut_back (c.loop-front.partial ++ c.in-Some.front.now) = c.in_ok-keep.ensures.ok in
    let made : c.line_in.result ≡ line_of (cut_back (c.loop-front.partial ++ c.in-Some.front.now)) =
    rw (c.line_in.ensures, c.replace-whole.ensures.value, held) refl in
    let pushed : c.push_back.new.self.items ≡ c.loop-front.lines.items ++ line_of (cut_back (c.loop-front.partial ++ c.in-Some.front.now)) ∷ [] =
    rw (c.in_ok-push_back.ensures.items, made) refl in
    let emptied : c.replace-whole.new.dest ≡ [] = c.replace-whole.ensures.after ∙ c.new.ensures in
    let P : List ℕ → Type 0 = λ x. IsPartial x in (
      subst P (sym emptied) (record { bounded = omega arith; open_ended = refl }),
      rw (pushed, emptied) (sym step ∙ ap (λ z. fed (unended c.loop-front.lines.items c.loop-front.partial) z) (sym cut) ∙ c.loop-front.invariant.1),
    )

pub returns : goal.returns
returns c =
    let none : has_newline c.loop-front.rest.now ≡ false = search rules in
    let held : c.keep-2.new.partial ≡ cut_back (c.loop-front.partial ++ c.loop-front.rest.now) = c.in_ok-keep-2.ensures.ok in (
      c.in_ok-keep-2.ensures.partial,
      ap (unended c.loop-front.lines.items) held
          ∙ sym (fed-part c.loop-front.lines.items c.loop-front.partial c.loop-front.rest.now c.loop-front.invariant.0.open_ended none)
          ∙ c.loop-front.invariant.1,
    )
