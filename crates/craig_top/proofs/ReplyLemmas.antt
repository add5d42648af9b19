-- The texts of replies, appended piece by piece.
use Rattle.std.proofs.Common.{◌≡◌, ◌∙◌, ap, sym, ℕ, List, [], ◌∷◌, ◌++◌, append_assoc, length, codes, decimal, Result, Ok, Err, OnOk}
use Rattle.std.specs.List.{flat_map}
use Rattle.std.proofs.lemmas.Grind.{flat_map-append}
use Rattle.std.proofs.lemmas.List.{append-nil}
use Rattle.craig_spec.specs.Literal.{Literal, Clause}
use Rattle.craig_top.specs.Blocks.{lined_bytes}
use Rattle.craig_top.specs.ModelReply.{IsModelReply}
use Rattle.craig_top.specs.ReplyTexts.{lemma_text, satisfiable_text}

-- a text in two pieces
pub appended-two : {T E : Type 0} (r : Result T E) (one two begun first last : List ℕ) → first ≡ begun ++ one → OnOk r (last ≡ first ++ two) → OnOk r (last ≡ begun ++ (one ++ two))
appended-two (Ok x) one two begun first last a b = b ∙ ap (λ z. z ++ two) a ∙ append_assoc begun one two
appended-two (Err x) one two begun first last a b = tt

-- bytes behind their number
pub bytes-appended : {T E : Type 0} (r : Result T E) (bytes begun first last : List ℕ) (n : ℕ) → n ≡ length bytes → first ≡ begun ++ (codes "a " ++ decimal n ++ codes "\n") → OnOk r (last ≡ first ++ bytes) → OnOk r (last ≡ begun ++ lined_bytes (codes "a") bytes)
bytes-appended (Ok x) bytes begun first last n count a b =
    b ∙ ap (λ z. z ++ bytes) a ∙ regrouped begun (codes "a ") (decimal n) (codes "\n") bytes ∙ ap (λ m. begun ++ (codes "a " ++ decimal m ++ codes "\n" ++ bytes)) count
  where
    regrouped : (p t u v w : List ℕ) → ((p ++ (t ++ u ++ v)) ++ w) ≡ p ++ (t ++ u ++ v ++ w)
    regrouped p t u v w = simp append_assoc
bytes-appended (Err x) bytes begun first last n count a b = tt

-- literals that are a model reply are put
pub model-appended : {T E : Type 0} (r : Result T E) (clauses : List Clause) (literals : List Literal) (old new : List ℕ) → IsModelReply clauses literals → OnOk r (new ≡ old ++ satisfiable_text literals)
    → OnOk r ((ls : List Literal) × IsModelReply clauses ls × (new ≡ old ++ satisfiable_text ls))
model-appended (Ok x) clauses literals old new reply put = (literals, reply, put)
model-appended (Err x) clauses literals old new reply put = tt

-- ---- lemmas

-- one lemma more is printed
pub lemma-listed : (old line : List ℕ) (named : List Clause) (n : Clause) (mid new : List ℕ) → mid ≡ old ++ (line ++ flat_map lemma_text named) → new ≡ mid ++ lemma_text n → new ≡ old ++ (line ++ flat_map lemma_text (named ++ n ∷ []))
lemma-listed old line named n mid new so put =
    put ∙ ap (λ bs. bs ++ lemma_text n) so ∙ append_assoc old (line ++ flat_map lemma_text named) (lemma_text n)
    ∙ ap (λ bs. old ++ bs) (append_assoc line (flat_map lemma_text named) (lemma_text n) ∙ ap (λ bs. line ++ bs) (ap (λ bs. flat_map lemma_text named ++ bs) (sym (append-nil (lemma_text n))) ∙ sym (flat_map-append lemma_text named (n ∷ []))))
