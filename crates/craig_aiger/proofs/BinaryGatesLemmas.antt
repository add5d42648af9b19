-- The gates of a binary text are read as they were written.
use Rattle.std.proofs.Common.{◌≡◌, ℕ, suc, ◌+◌, ◌-◌, ◌*◌, ◌^◌, ◌<◌, ◌≤◌, true, nat_le, List, [], ◌∷◌, ◌++◌, length, map, Ok, refl, sym, ap, ◌∙◌, append_assoc, arith}
use Rattle.std.proofs.lemmas.Bool.Decides.{nat_tests}
use Rattle.std.proofs.lemmas.List.{append-nil}
use Rattle.craig_spec.specs.AigerReading.{◌>>=◌}
use Rattle.craig_spec.specs.Circuit.{Gate}
use Rattle.craig_aiger.specs.AsciiText.{numbered_lines}
use Rattle.craig_aiger.specs.BinaryText.{AreOrdered, gate_groups}
use Rattle.craig_spec.specs.AigerBinary.{binary_gate_in, binary_gates, delta_in, delta_of}
use Rattle.craig_spec.specs.SevenBits.{groups_of}
use Rattle.craig_spec.proofs.SevenBitsLemmas.{first_number-groups}
use Rattle.craig_aiger.proofs.TextFileLemmas.{to_gate}

-- a difference between two numbers
delta_read : (end least most n : ℕ) (rest : List ℕ) → least ≤ n → n ≤ most → n < 2 ^ 63 → delta_in end least most (groups_of n ++ rest) ≡ Ok (n, rest)
delta_read end least most n rest low high small =
    let l : nat_le least n ≡ true = grind (arith, nat_tests, low) in
    let h : nat_le n most ≡ true = grind (arith, nat_tests, high) in
    ap (delta_of end (end - length (groups_of n ++ rest)) least most) (first_number-groups n rest small) ∙ (rw (l, h) refl)

-- a gate
gate_read : (end n : ℕ) (g : ℕ × ℕ) (rest : List ℕ) → g.1 ≤ g.0 → g.0 < 2 * n → 2 * n < 2 ^ 63 → binary_gate_in end (2 * n) (gate_groups n g ++ rest) ≡ Ok (to_gate g, rest)
unfolding binary_gate_in
gate_read end n g rest second first small =
    let a : ℕ = 2 * n - g.0 in
    let b : ℕ = g.0 - g.1 in
    let left : 2 * n - (2 * n - g.0) ≡ g.0 = omega arith in
    let right : g.0 - (g.0 - g.1) ≡ g.1 = omega arith in
    let one : delta_in end 1 (2 * n) (groups_of (2 * n - g.0) ++ (groups_of (g.0 - g.1) ++ rest)) ≡ Ok (2 * n - g.0, groups_of (g.0 - g.1) ++ rest) = delta_read end 1 (2 * n) (2 * n - g.0) (groups_of (g.0 - g.1) ++ rest) (omega arith) (omega arith) (omega arith) in
    let two : delta_in end 0 g.0 (groups_of (g.0 - g.1) ++ rest) ≡ Ok (g.0 - g.1, rest) = delta_read end 0 g.0 (g.0 - g.1) rest (omega arith) (omega arith) (omega arith) in
    ap (binary_gate_in end (2 * n)) (append_assoc (groups_of (2 * n - g.0)) (groups_of (g.0 - g.1)) rest)
    ∙ ap (λ r. r >>= λ first. (delta_in end 0 (2 * n - first.0) first.1 >>= λ second. Ok (record { left = 2 * n - first.0; right = 2 * n - first.0 - second.0 }, second.1))) one
    ∙ ap (λ x. delta_in end 0 x (groups_of (g.0 - g.1) ++ rest) >>= λ second. Ok (record { left = x; right = x - second.0 }, second.1)) left
    ∙ ap (λ r. r >>= λ second. Ok (record { left = g.0; right = g.0 - second.0 }, second.1)) two
    ∙ ap (λ x. Ok (record { left = g.0; right = x }, rest)) right

-- all gates, and the bytes behind them
pub gates_read : (end n : ℕ) (xs : List (ℕ × ℕ)) (before : List Gate) (rest : List ℕ) → AreOrdered n xs → 2 * (n + length xs) < 2 ^ 63 → binary_gates end (length xs) (2 * n) before (numbered_lines gate_groups n xs ++ rest) ≡ Ok (before ++ map to_gate xs, rest)
gates_read end n [] before rest h small = ap (λ l. Ok (l, rest)) (sym (append-nil before))
gates_read end n (g ∷ xs) before rest h small =
    let here = h 0 g refl in
    let own : 2 * n + 2 ≡ 2 * (n + 1) = omega arith in
    let later : List ℕ = numbered_lines gate_groups (n + 1) xs ++ rest in
    ap (binary_gates end (suc (length xs)) (2 * n) before) (append_assoc (gate_groups n g) (numbered_lines gate_groups (n + 1) xs) rest)
    ∙ ap (λ r. r >>= λ g. binary_gates end (length xs) (2 * n + 2) (before ++ g.0 ∷ []) g.1) (gate_read end n g later here.0 (omega (arith, here.1)) (omega arith))
    ∙ ap (λ m. binary_gates end (length xs) m (before ++ to_gate g ∷ []) later) own
    ∙ gates_read end (n + 1) xs (before ++ to_gate g ∷ []) rest (λ j x e. let o = h (suc j) x e in (o.0, omega (arith, o.1))) (omega arith)
    ∙ ap (λ l. Ok (l, rest)) (append_assoc before (to_gate g ∷ []) (map to_gate xs))
