-- Laws of the grammar, for readers that go over a line from its front.
use Rattle.std.proofs.Common.{◌≡◌, IsTrue, false, List, [], ◌∷◌, ◌++◌, Result, Ok, Err, ℤ, pos, ℕ, Some, refl, sym, ◌∙◌, ap, append_assoc}
use Rattle.craig_script.specs.declared.refusal.Refusal.{Refusal}
use Rattle.craig_script.specs.NumberWords.{literal_of, number_of}
use Rattle.craig_script.specs.Reading.{◌>>=◌, is_end, literals_to_end, numbers_to_end, pairs_to_end, begins_with_literal, begins_with_number, begins_with_part_and_literal}

-- what is read, behind literals that were read before
abbrev pub with_front : {X : Type 0} → List X → Result (List X) Refusal → Result (List X) Refusal
with_front front read = read >>= λ ls. Ok (front ++ ls)

pub with_front-none : {X : Type 0} (read : Result (List X) Refusal) → with_front [] read ≡ read
with_front-none (Ok ls) = refl
with_front-none (Err e) = refl

with_front-cons : {X : Type 0} (front : List X) (l : X) (read : Result (List X) Refusal) → with_front (front ++ l ∷ []) read ≡ with_front front (read >>= λ ls. Ok (l ∷ ls))
with_front-cons front l (Ok ls) = ap (λ z. Ok z) (append_assoc front (l ∷ []) ls)
with_front-cons front l (Err e) = refl

literals_to_end-cons : (w : List ℕ) (ws : List (List ℕ)) (l : ℤ) → is_end w ≡ false → literal_of w ≡ Some l →
    literals_to_end (w ∷ ws) ≡ (literals_to_end ws >>= λ ls. Ok (l ∷ ls))
literals_to_end-cons w ws l other e = rw (other, e) refl

-- a literal is read, and what is behind it is to come
pub literals_to_end-literal : (front : List ℤ) (w : List ℕ) (ws : List (List ℕ)) (l : ℤ) → is_end w ≡ false → literal_of w ≡ Some l →
    with_front (front ++ l ∷ []) (literals_to_end ws) ≡ with_front front (literals_to_end (w ∷ ws))
literals_to_end-literal front w ws l other e = with_front-cons front l (literals_to_end ws) ∙ sym (ap (with_front front) (literals_to_end-cons w ws l other e))

-- a line of which a literal is read begins with one
pub begins-literal : (w : List ℕ) (ws : List (List ℕ)) (l : ℤ) → literal_of w ≡ Some l → IsTrue (begins_with_literal (w ∷ ws))
begins-literal w ws l e = rw e refl

numbers_to_end-cons : (w : List ℕ) (ws : List (List ℕ)) (n : ℕ) → number_of w ≡ Some n → numbers_to_end (w ∷ ws) ≡ (numbers_to_end ws >>= λ ns. Ok (pos n ∷ ns))
numbers_to_end-cons w ws n e = rw e refl

-- a number is read, and what is behind it is to come
pub numbers_to_end-number : (front : List ℤ) (w : List ℕ) (ws : List (List ℕ)) (n : ℕ) → number_of w ≡ Some n → with_front (front ++ pos n ∷ []) (numbers_to_end ws) ≡ with_front front (numbers_to_end (w ∷ ws))
numbers_to_end-number front w ws n e = with_front-cons front (pos n) (numbers_to_end ws) ∙ sym (ap (with_front front) (numbers_to_end-cons w ws n e))

-- a line of which a number is read begins with one
pub begins-number : (w : List ℕ) (ws : List (List ℕ)) (n : ℕ) → number_of w ≡ Some n → IsTrue (begins_with_number (w ∷ ws))
begins-number w ws n e = rw e refl

pairs_to_end-cons : (w v : List ℕ) (ws : List (List ℕ)) (part : ℕ) (lit : ℤ) → number_of w ≡ Some part → literal_of v ≡ Some lit →
    pairs_to_end (w ∷ v ∷ ws) ≡ (pairs_to_end ws >>= λ pairs. Ok ((part, lit) ∷ pairs))
pairs_to_end-cons w v ws part lit is at = rw (is, at) refl

-- a pair is read, and what is behind it is to come
pub pairs_to_end-pair : (front : List (ℕ × ℤ)) (w v : List ℕ) (ws : List (List ℕ)) (part : ℕ) (lit : ℤ) → number_of w ≡ Some part → literal_of v ≡ Some lit →
    with_front (front ++ (part, lit) ∷ []) (pairs_to_end ws) ≡ with_front front (pairs_to_end (w ∷ v ∷ ws))
pairs_to_end-pair front w v ws part lit is at = with_front-cons front (part, lit) (pairs_to_end ws) ∙ sym (ap (with_front front) (pairs_to_end-cons w v ws part lit is at))

-- a line of which a pair is read begins with one
pub begins-pair : (w v : List ℕ) (ws : List (List ℕ)) (part : ℕ) (lit : ℤ) → number_of w ≡ Some part → literal_of v ≡ Some lit → IsTrue (begins_with_part_and_literal (w ∷ v ∷ ws))
begins-pair w v ws part lit is at = rw (is, at) refl
