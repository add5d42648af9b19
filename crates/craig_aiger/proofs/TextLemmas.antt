-- The lines of a text, one after another.
use Rattle.std.proofs.Common.{◌≡◌, length-append, ℕ, zero, suc, ◌+◌, ◌*◌, ◌<◌, ◌≤◌, List, [], ◌∷◌, ◌++◌, length, get_or, take, sym, ap, ◌∙◌, append_assoc, arith}
use Rattle.std.proofs.lemmas.List.{append-nil}
use Rattle.std.proofs.lemmas.List.{take_more, length-take-le}
use Rattle.craig_aiger.specs.AsciiText.{numbered_lines}

numbered_push : {X : Type 0} (line : ℕ → X → List ℕ) (n : ℕ) (xs : List X) (x : X) → numbered_lines line n (xs ++ x ∷ []) ≡ numbered_lines line n xs ++ line (n + length xs) x
numbered_push line n [] x = append-nil (line n x) ∙ ap (λ k. line k x) (let e : n ≡ n + 0 = omega arith in e)
numbered_push line n (y ∷ xs) x =
    let e : (n + 1) + length xs ≡ n + suc (length xs) = omega arith in
    ap (λ l. line n y ++ l) (numbered_push line (n + 1) xs x ∙ ap (λ k. numbered_lines line (n + 1) xs ++ line k x) e)
    ∙ sym (append_assoc (line n y) (numbered_lines line (n + 1) xs) (line (n + suc (length xs)) x))

lines_next : {X : Type 0} (line : ℕ → X → List ℕ) (n : ℕ) (xs : List X) (i : ℕ) (x : X) → i < length xs → numbered_lines line n (take (i + 1) xs) ≡ numbered_lines line n (take i xs) ++ line (n + i) (get_or xs i x)
lines_next line n xs i x within =
    let l : length (take i xs) ≡ i = length-take-le i xs (omega arith) in
    ap (numbered_lines line n) (take_more xs i x within) ∙ numbered_push line n (take i xs) (get_or xs i x) ∙ ap (λ k. numbered_lines line n (take i xs) ++ line (n + k) (get_or xs i x)) l

-- the size of one line more
pub length-lines_more : {X : Type 0} (line : ℕ → X → List ℕ) (n : ℕ) (xs : List X) (i : ℕ) (x : X) → i < length xs → length (numbered_lines line n (take (i + 1) xs)) ≡ length (numbered_lines line n (take i xs)) + length (line (n + i) (get_or xs i x))
length-lines_more line n xs i x within = ap length (lines_next line n xs i x within) ∙ length-append (numbered_lines line n (take i xs)) (line (n + i) (get_or xs i x))

-- the size of the first lines, each of which is at most 63 bytes
pub record Counted {X : Type 0} (line : ℕ → X → List ℕ) (n : ℕ) (xs : List X) (i size : ℕ) : Type 0 where
  pub counted : size ≡ length (numbered_lines line n (take i xs))
  pub bound : size ≤ 63 * i

pub Counted-more : {X : Type 0} (line : ℕ → X → List ℕ) (n : ℕ) (xs : List X) (i m size one : ℕ) (x : X) → i < length xs → n + i ≡ m → Counted line n xs i size → one ≡ length (line m (get_or xs i x)) → one ≤ 63 → Counted line n xs (i + 1) (size + one)
Counted-more line n xs i m size one x within number before is small = record {
  counted = omega (arith, before.counted, is, length-lines_more line n xs i x within, ap (λ k. length (line k (get_or xs i x))) number);
  bound = omega (arith, before.bound, small);
}

-- the lines before one, and the line, are no more than all
pub lines_within : {X : Type 0} (line : ℕ → X → List ℕ) (n : ℕ) (xs : List X) (i : ℕ) (x : X) → i < length xs → length (numbered_lines line n (take i xs)) + length (line (n + i) (get_or xs i x)) ≤ length (numbered_lines line n xs)
lines_within line n [] i x within = absurd (omega arith)
lines_within line n (y ∷ xs) zero x within =
    let e : n + 0 ≡ n = omega arith in
    rw e (omega (arith, length-append (line n y) (numbered_lines line (n + 1) xs)))
lines_within line n (y ∷ xs) (suc i) x within =
    let e : n + suc i ≡ (n + 1) + i = omega arith in
    let rest : length (numbered_lines line (n + 1) (take i xs)) + length (line ((n + 1) + i) (get_or xs i x)) ≤ length (numbered_lines line (n + 1) xs) = lines_within line (n + 1) xs i x (omega arith) in
    rw e (omega (arith, rest, length-append (line n y) (numbered_lines line (n + 1) xs), length-append (line n y) (numbered_lines line (n + 1) (take i xs))))

-- one line more
pub lines_more : {X : Type 0} (line : ℕ → X → List ℕ) (n : ℕ) (xs : List X) (i : ℕ) (x : X) (start old new : List ℕ) → i < length xs → old ≡ start ++ numbered_lines line n (take i xs) → new ≡ old ++ line (n + i) (get_or xs i x) →
    new ≡ start ++ numbered_lines line n (take (i + 1) xs)
lines_more line n xs i x start old new within was more =
    let one : numbered_lines line n (take (i + 1) xs) ≡ numbered_lines line n (take i xs) ++ line (n + i) (get_or xs i x) = lines_next line n xs i x within in
    more ∙ ap (λ z. z ++ line (n + i) (get_or xs i x)) was ∙ append_assoc start (numbered_lines line n (take i xs)) (line (n + i) (get_or xs i x)) ∙ ap (λ z. start ++ z) (sym one)
