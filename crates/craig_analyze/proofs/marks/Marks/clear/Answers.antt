use Rattle.std.proofs.Common.{◌<◌, ◌++◌, ◌∷◌, [], length, arith, subst}
use Rattle.std.proofs.lemmas.List.Elements.{Contains-push}
use Rattle.craig_analyze.specs.Marks.{AreMarks}
use Rattle.craig_analyze.proofs.CountLemmas.{AreMarks-remove, marked-flagged}
use Rattle.craig_analyze.proofs.marks.Marks.clear.Goals as goal

pub index_mut-requires : goal.index_mut-requires
index_mut-requires c =
    let h = c.loop-number.self-inside in
    let marks : AreMarks h.flags.items (c.pop.new.self.items ++ c.in-Some.number ∷ []) = subst (λ xs. AreMarks h.flags.items xs) c.in-Some.ensures.items c.loop-number.invariant in
    let w : c.in-Some.number < length h.flags.items = marked-flagged h.flags.items _ c.in-Some.number marks (Contains-push c.pop.new.self.items c.in-Some.number) in
    omega (arith, h.flags.ok.0)

pub loop-number-preserved : goal.loop-number-preserved
loop-number-preserved c =
    let h = c.loop-number.self-inside in
    let marks : AreMarks h.flags.items (c.pop.new.self.items ++ c.in-Some.number ∷ []) = subst (λ xs. AreMarks h.flags.items xs) c.in-Some.ensures.items c.loop-number.invariant in
    let w : c.in-Some.number < length h.flags.items = marked-flagged h.flags.items _ c.in-Some.number marks (Contains-push c.pop.new.self.items c.in-Some.number) in
    AreMarks-remove h.flags.items c.pop.new.self.items c.in-Some.number marks w
