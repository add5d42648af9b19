use Rattle.std.proofs.Common.{◌≡◌, false, List, [], ◌∷◌, ◌++◌, ap, sym, ◌∙◌, rules}
use Rattle.std.proofs.lemmas.Result.{on_ok_weaker}
use Rattle.craig_script.specs.declared.line.Line.{Line}
use Rattle.craig_script.specs.Lines.{LinesView, unended, before_first_byte, cut_back, has_newline, fed, line_of}
use Rattle.craig_script.proofs.Outcomes.{where_ok}
use Rattle.craig_script.proofs.LinesLemmas.{fed-first_line, fed-part}
use Rattle.craig_script.proofs.lines.take_in.Goals as goal

pub returns-in_default-clause-ok : goal.returns-in_default-clause-ok
returns-in_default-clause-ok c =
    let none : has_newline c.args.bytes.now ≡ false = search rules in
    on_ok_weaker c.keep.result
    (λ h. ap (unended c.args.ready.now.items) h ∙ sym (fed-part c.args.ready.now.items c.args.partial.now c.args.bytes.now c.requires.open_ended none))
    c.keep.ensures.ok

pub returns-clause-ok : goal.returns-clause-ok
returns-clause-ok c =
    let cut : c.args.bytes.now ≡ c.in-Some.front.now ++ 10 ∷ c.in-Some.behind.now = search rules in
    let none : has_newline c.in-Some.front.now ≡ false = search rules in
    let step = fed-first_line c.args.ready.now.items c.args.partial.now c.in-Some.front.now c.in-Some.behind.now c.requires.open_ended none in
    let behind : unended c.in_ok-lines.lines.items c.in_ok-lines.last ≡ fed before_first_byte c.in-Some.behind.now = c.in_ok-lines.ensures.1 in
    let held : c.keep-2.new.partial ≡ cut_back (c.args.partial.now ++ c.in-Some.front.now) = c.in_ok-keep.ensures.ok in
    let made : c.line_in.result ≡ line_of (cut_back (c.args.partial.now ++ c.in-Some.front.now)) =
    c.line_in.ensures ∙ ap line_of (c.replace.ensures.value ∙ held) in
    let pushed : c.push_back_reserved.new.self.items ≡ c.args.ready.now.items ++ line_of (cut_back (c.args.partial.now ++ c.in-Some.front.now)) ∷ [] =
    c.push_back_reserved.ensures.items ∙ ap (λ z. z ++ c.line_in.result ∷ []) c.reserve.ensures.items ∙ ap (λ z. c.args.ready.now.items ++ z ∷ []) made in
    let front : List Line = c.args.ready.now.items ++ line_of (cut_back (c.args.partial.now ++ c.in-Some.front.now)) ∷ [] in
    on_ok_weaker c.append.result
    (λ h.
    let lines : c.append.new.self.items ≡ front ++ (fed before_first_byte c.in-Some.behind.now).ready =
    h ∙ ap (λ z. z ++ c.in_ok-lines.lines.items) pushed ∙ ap (λ (z : LinesView). front ++ z.ready) behind in
    let last : c.replace.new.dest ≡ (fed before_first_byte c.in-Some.behind.now).partial = c.replace.ensures.after ∙ ap (λ (z : LinesView). z.partial) behind in
    rw (lines, last) (sym step ∙ ap (λ z. fed (unended c.args.ready.now.items c.args.partial.now) z) (sym cut)))
    (where_ok c.append.result c.append.new.self.items (c.push_back_reserved.new.self.items ++ c.in_ok-lines.lines.items) c.push_back_reserved.new.self.items c.append.ensures.items)
