use Rattle.std.proofs.Common.{◌≡◌, ℕ, inl, inr, IsTrue, List, [], ◌∷◌, ◌++◌, Some, sym, ◌∙◌, ap, subst, rules}
use Rattle.craig_script.specs.Words.{words}
use Rattle.craig_script.specs.NumberWords.{literal_of, number_of}
use Rattle.craig_script.specs.Reading.{pairs_to_end, begins_with_part_and_literal}
use Rattle.craig_script.proofs.ReadingLemmas.{with_front, pairs_to_end-pair, begins-pair}
use Rattle.craig_script.proofs.reading.pairs.Goals as goal

pub loop-word-preserved : goal.loop-word-preserved
loop-word-preserved c =
    let w = c.in-Some.word.now in
    let v = c.in-Some-next_word.second.now in
    let ws = words c.in-Some-next_word.after.now in
    let cut : words c.loop-word.rest.now ≡ w ∷ (v ∷ ws) = search rules in
    let part : number_of w ≡ Some c.in-Some-number_in.part = search rules in
    let lit : literal_of v ≡ Some c.in-Some-literal_in.lit = search rules in
    let pushed : c.push.new.self ≡ c.loop-word.pairs ++ (c.in-Some-number_in.part, c.in-Some-literal_in.lit) ∷ [] = search rules in
    let P : List (List ℕ) → Type 0 = λ us. IsTrue (begins_with_part_and_literal us) in (
      rw pushed (pairs_to_end-pair c.loop-word.pairs w v ws c.in-Some-number_in.part c.in-Some-literal_in.lit part lit
          ∙ ap (λ z. with_front c.loop-word.pairs (pairs_to_end z)) (sym cut)
          ∙ c.loop-word.invariant.0),
      inr (elim c.loop-word.invariant.1 [
        | inl same ↦ subst P (sym cut ∙ ap words same) (begins-pair w v ws c.in-Some-number_in.part c.in-Some-literal_in.lit part lit)
        | inr begun ↦ begun
      ]),
    )
