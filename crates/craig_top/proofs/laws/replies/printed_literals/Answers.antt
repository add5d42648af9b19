use Rattle.std.proofs.Common.{◌≡◌, ℕ, ◌+◌, ◌<◌, ◌∷◌, ◌++◌, ap, arith, codes, decimal}
use Rattle.std.proofs.lemmas.Fmt.{decimal_digit}
use Rattle.craig_top.proofs.laws.replies.printed_literals.Goals as goal

-- the line of a number of one digit
line : (n : ℕ) → n < 10 → codes "e " ++ decimal n ++ codes "\n" ≡ codes "e " ++ (48 + n) ∷ codes "\n"
line n small = ap (λ ds. codes "e " ++ ds ++ codes "\n") (decimal_digit n small)

pub returns-clause-refusals : goal.returns-clause-refusals
returns-clause-refusals c = (line 1 (omega arith), line 2 (omega arith), line 3 (omega arith), line 4 (omega arith), line 5 (omega arith), line 6 (omega arith), line 7 (omega arith))
