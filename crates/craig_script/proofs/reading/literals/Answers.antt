use Rattle.std.proofs.Common.{◌≡◌, ℕ, inl, inr, IsTrue, List, [], ◌∷◌, ◌++◌, Some, false, sym, ◌∙◌, ap, subst, rules}
use Rattle.craig_script.specs.Words.{words}
use Rattle.craig_script.specs.NumberWords.{literal_of}
use Rattle.craig_script.specs.Reading.{literals_to_end, is_end, begins_with_literal}
use Rattle.craig_script.proofs.ReadingLemmas.{with_front, literals_to_end-literal, begins-literal}
use Rattle.craig_script.proofs.reading.literals.Goals as goal

pub loop-word-preserved : goal.loop-word-preserved
loop-word-preserved c =
    let cut : words c.loop-word.rest.now ≡ c.in-Some.word.now ∷ words c.in-Some.behind.now = search rules in
    let other : is_end c.in-Some.word.now ≡ false = search rules in
    let found : literal_of c.in-Some.word.now ≡ Some c.in-Some-literal_in.lit = search rules in
    let pushed : c.push.new.self ≡ c.loop-word.lits ++ c.in-Some-literal_in.lit ∷ [] = search rules in
    let P : List (List ℕ) → Type 0 = λ ws. IsTrue (begins_with_literal ws) in (
      rw pushed (literals_to_end-literal c.loop-word.lits c.in-Some.word.now (words c.in-Some.behind.now) c.in-Some-literal_in.lit other found
          ∙ ap (λ z. with_front c.loop-word.lits (literals_to_end z)) (sym cut)
          ∙ c.loop-word.invariant.0),
      inr (elim c.loop-word.invariant.1 [
        | inl same ↦ subst P (sym cut ∙ ap words same) (begins-literal c.in-Some.word.now (words c.in-Some.behind.now) c.in-Some-literal_in.lit found)
        | inr begun ↦ begun
      ]),
    )
