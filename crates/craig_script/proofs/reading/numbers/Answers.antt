use Rattle.std.proofs.Common.{◌≡◌, inl, inr, IsTrue, ℕ, List, ◌∷◌, [], ◌++◌, pos, Some, sym, ◌∙◌, ap, subst, rules}
use Rattle.craig_script.specs.Words.{words}
use Rattle.craig_script.specs.NumberWords.{number_of}
use Rattle.craig_script.specs.Reading.{numbers_to_end, begins_with_number}
use Rattle.craig_script.proofs.ReadingLemmas.{with_front, numbers_to_end-number, begins-number}
use Rattle.craig_script.proofs.reading.numbers.Goals as goal

pub loop-word-preserved : goal.loop-word-preserved
loop-word-preserved c =
    let cut : words c.loop-word.rest.now ≡ c.in-Some.word.now ∷ words c.in-Some.behind.now = search rules in
    let found : number_of c.in-Some.word.now ≡ Some c.in-Some-number_in.number = search rules in
    let pushed : c.push.new.self ≡ c.loop-word.numbers ++ pos c.in-Some-number_in.number ∷ [] = search rules in
    let P : List (List ℕ) → Type 0 = λ ws. IsTrue (begins_with_number ws) in (
      rw pushed (numbers_to_end-number c.loop-word.numbers c.in-Some.word.now (words c.in-Some.behind.now) c.in-Some-number_in.number found
          ∙ ap (λ z. with_front c.loop-word.numbers (numbers_to_end z)) (sym cut)
          ∙ c.loop-word.invariant.0),
      inr (elim c.loop-word.invariant.1 [
        | inl same ↦ subst P (sym cut ∙ ap words same) (begins-number c.in-Some.word.now (words c.in-Some.behind.now) c.in-Some-number_in.number found)
        | inr begun ↦ begun
      ]),
    )
