-- How many clauses there are over v variables: each is a number in base 3, whose digit for a variable is 0 where it is absent, 1 where it is positive and 2 where it is negated.
use Rattle.std.proofs.Common.{◌≡◌, ◌≢◌, inl, inr, ℕ, suc, zero, ◌+◌, ◌*◌, ◌^◌, ◌<◌, ◌≤◌, Bool, true, false, cond, eqb, List, [], ◌∷◌, length, get_or, map, All, AllPairs, Contains, refl, sym, ap, subst, ◌∙◌, arith, eqb-true, zero-add}
use Rattle.std.specs.List.{range_with_len}
use Rattle.std.proofs.Math.Nat.{pow-suc}
use Rattle.std.proofs.lemmas.Bool.{eqb-false}
use Rattle.std.proofs.lemmas.Bool.Decides.{Decides-eqb}
use Rattle.std.proofs.lemmas.List.{get_or-map, length-map}
use Rattle.std.proofs.lemmas.List.Elements.{All-contains, Contains-get_or}
use Rattle.std.proofs.lemmas.List.FromFn.{get_or-range_with_len, length-range_with_len}
use Rattle.std.proofs.lemmas.Map.Made.{IsDistinct-from_AllPairs}
use Rattle.craig_spec.specs.Literal.{Literal, Clause, negation}
use Rattle.craig_spec.specs.Chain.{SameLiterals}
use Rattle.craig_spec.specs.Occurs.{Occurs}
use Rattle.craig_spec.proofs.ClauseLemmas.{occurs_in_clause-member}
use Rattle.craig_spec.proofs.LiteralLemmas.{same_or_not}
use Rattle.craig_spec.proofs.MemberLemmas.{Contains-cases, Contains-front, Contains-later}
use Rattle.craig_base.specs.Clauses.{IsTautology}
use Rattle.craig_base.specs.Counting.{NoneMoreThan}
use Rattle.craig_base.specs.LawsOfClauses.{AreClausesOver}
use Rattle.craig_base.specs.LemmaRule.{MeetsLemmaRule, NoneMoreThanTwice}
use Rattle.craig_base.proofs.CountingLemmas.{count_of-twice, length-le_from_counts, NoneMoreThan-IsDistinct}
use Rattle.craig_base.proofs.LiteralsLemmas.{negation-from_differs}

abbrev sign : Bool → ℕ
sign negated = cond negated 2 1

-- the digit of a variable
abbrev digit : ℕ → Clause → ℕ
digit x [] = 0
digit x (l ∷ c) = cond (eqb l.var x) (sign l.negated) (digit x c)

-- the number of a clause over a list of variables
abbrev code : List ℕ → Clause → ℕ
code [] c = 0
code (x ∷ vars) c = digit x c * 3 ^ length vars + code vars c

sign-le : (b : Bool) → sign b ≤ 2
sign-le true = omega arith
sign-le false = omega arith

cond-le : (b : Bool) (m n : ℕ) → m ≤ 2 → n ≤ 2 → cond b m n ≤ 2
cond-le true m n one two = one
cond-le false m n one two = two

digit-le : (x : ℕ) (c : Clause) → digit x c ≤ 2
digit-le x [] = omega arith
digit-le x (l ∷ c) = cond-le (eqb l.var x) (sign l.negated) (digit x c) (sign-le l.negated) (digit-le x c)

below-next : (a b r : ℕ) → a ≤ 2 → r < b → a * b + r < b * 3
below-next zero b r le low = omega arith
below-next (suc zero) b r le low = omega arith
below-next (suc (suc zero)) b r le low = omega arith
below-next (suc (suc (suc a))) b r le low = absurd (omega arith)

code-below : (vars : List ℕ) (c : Clause) → code vars c < 3 ^ length vars
code-below [] c = omega arith
code-below (x ∷ vars) c = rw (pow-suc 3 (length vars)) (below-next (digit x c) (3 ^ length vars) (code vars c) (digit-le x c) (code-below vars c))

-- a number in base b has one highest digit and one rest
same-digit : (a c b r s : ℕ) → a ≤ 2 → c ≤ 2 → r < b → s < b → a * b + r ≡ c * b + s → (a ≡ c) × (r ≡ s)
same-digit zero zero b r s la lc lr ls is = (refl, omega arith)
same-digit zero (suc zero) b r s la lc lr ls is = absurd (omega arith)
same-digit zero (suc (suc zero)) b r s la lc lr ls is = absurd (omega arith)
same-digit (suc zero) zero b r s la lc lr ls is = absurd (omega arith)
same-digit (suc zero) (suc zero) b r s la lc lr ls is = (refl, omega arith)
same-digit (suc zero) (suc (suc zero)) b r s la lc lr ls is = absurd (omega arith)
same-digit (suc (suc zero)) zero b r s la lc lr ls is = absurd (omega arith)
same-digit (suc (suc zero)) (suc zero) b r s la lc lr ls is = absurd (omega arith)
same-digit (suc (suc zero)) (suc (suc zero)) b r s la lc lr ls is = (refl, omega arith)
same-digit (suc (suc (suc a))) c b r s la lc lr ls is = absurd (omega arith)
same-digit zero (suc (suc (suc c))) b r s la lc lr ls is = absurd (omega arith)
same-digit (suc zero) (suc (suc (suc c))) b r s la lc lr ls is = absurd (omega arith)
same-digit (suc (suc zero)) (suc (suc (suc c))) b r s la lc lr ls is = absurd (omega arith)

same-digits : (vars : List ℕ) (c d : Clause) → code vars c ≡ code vars d → (x : ℕ) → Contains vars x → digit x c ≡ digit x d
same-digits [] c d is x (k, within, at) = absurd (omega (arith, within))
same-digits (y ∷ vars) c d is x here =
    let both = same-digit (digit y c) (digit y d) (3 ^ length vars) (code vars c) (code vars d) (digit-le y c) (digit-le y d) (code-below vars c) (code-below vars d) is in
    elim (Contains-cases y vars x here) [
      | inl same ↦ subst (λ (z : ℕ). digit z c ≡ digit z d) same both.0
      | inr later ↦ same-digits vars c d both.1 x later
    ]

-- the digit of a clause is the sign of a literal of the variable that it has
sign-same : (b n : Bool) → sign b ≡ sign n → b ≡ n
sign-same true true is = refl
sign-same false false is = refl
sign-same true false is = absurd (omega arith)
sign-same false true is = absurd (omega arith)

sign-not_zero : (b : Bool) → 0 ≡ sign b → ⊥
sign-not_zero true is = omega arith
sign-not_zero false is = omega arith

found-cases : (b : Bool) (m : Literal) (c : Clause) (l : Literal) → eqb m.var l.var ≡ b → cond b (sign m.negated) (digit l.var c) ≡ sign l.negated → (digit l.var c ≡ sign l.negated → Contains c l) → Contains (m ∷ c) l
found-cases true m c l here is later = (0, omega arith, λ i. record { var = eqb-true m.var l.var here i; negated = sign-same m.negated l.negated is i })
found-cases false m c l here is later = Contains-later m c l (later is)

Contains-digit : (c : Clause) (l : Literal) → digit l.var c ≡ sign l.negated → Contains c l
Contains-digit [] l is = absurd (sign-not_zero l.negated is)
Contains-digit (m ∷ c) l is = found-cases (eqb m.var l.var) m c l refl is (Contains-digit c l)

-- two literals of one variable in a clause that is no tautology are the same
same-sign : (c : Clause) (m l : Literal) → ¬ IsTautology c → Contains c m → Contains c l → m.var ≡ l.var → m.negated ≡ l.negated
same-sign c m l sound here there same = elim (same_or_not m l) [
  | inl is ↦ ap (λ (n : Literal). n.negated) is
  | inr differs ↦ absurd (sound (m, here, subst (Contains c) (sym (negation-from_differs m l same differs)) there))
]

-- so the digit is the sign of each of its literals
later-cases : (b : Bool) (m : Literal) (c : Clause) (l : Literal) → eqb m.var l.var ≡ b → (m.var ≡ l.var → m.negated ≡ l.negated) → (m.var ≢ l.var → digit l.var c ≡ sign l.negated) → cond b (sign m.negated) (digit l.var c) ≡ sign l.negated
later-cases true m c l is same later = ap sign (same (eqb-true m.var l.var is))
later-cases false m c l is same later = later (eqb-false m.var l.var is)

digit-member : (c : Clause) (l : Literal) → ¬ IsTautology c → Contains c l → digit l.var c ≡ sign l.negated
digit-member [] l sound (k, within, at) = absurd (omega (arith, within))
digit-member (m ∷ c) l sound here =
    later-cases (eqb m.var l.var) m c l refl (same-sign (m ∷ c) m l sound (Contains-front m c) here) (λ other. elim (Contains-cases m c l here) [
      | inl is ↦ absurd (other (ap (λ (n : Literal). n.var) is))
      | inr later ↦ digit-member c l (λ (n, has, has_not). sound (n, Contains-later m c n has, Contains-later m c (negation n) has_not)) later
    ])

-- a clause over the variables that is no tautology
abbrev IsOver : List ℕ → Clause → Type 0
IsOver vars c = ¬ IsTautology c × All (λ l. Contains vars l.var) c

-- such clauses with the same number have the same literals
has-literals : (vars : List ℕ) (c d : Clause) → IsOver vars c → code vars c ≡ code vars d → (l : Literal) → Contains c l → Contains d l
has-literals vars c d over is l here =
    let known : Contains vars l.var = All-contains (λ (m : Literal). Contains vars m.var) c l over.1 here in
    Contains-digit d l (sym (same-digits vars c d is l.var known) ∙ digit-member c l over.0 here)

SameLiterals-code : (vars : List ℕ) (c d : Clause) → IsOver vars c → IsOver vars d → code vars c ≡ code vars d → SameLiterals c d
SameLiterals-code vars c d of_c of_d is l = (has-literals vars c d of_c is l, has-literals vars d c of_d (sym is) l)

code-at : (vars : List ℕ) (cs : List Clause) (k d : ℕ) → k < length cs → get_or (map (code vars) cs) k d ≡ code vars (get_or cs k [])
code-at vars cs k d within = get_or-map (code vars) cs k [] d within

same-at : (vars : List ℕ) (cs : List Clause) (i j d : ℕ) → All (IsOver vars) cs → i < length cs → j < length cs → get_or (map (code vars) cs) i d ≡ get_or (map (code vars) cs) j d → SameLiterals (get_or cs i []) (get_or cs j [])
same-at vars cs i j d over in_i in_j is =
    SameLiterals-code vars (get_or cs i []) (get_or cs j []) (over i [] in_i) (over j [] in_j) (sym (code-at vars cs i d in_i) ∙ is ∙ code-at vars cs j d in_j)

codes-below : (vars : List ℕ) (cs : List Clause) → All (λ n. n < 3 ^ length vars) (map (code vars) cs)
codes-below vars cs k d within =
    let inside : k < length cs = rw (← length-map cs (code vars)) within in
    rw (code-at vars cs k d inside) (code-below vars (get_or cs k []))

codes-apart : (vars : List ℕ) (cs : List Clause) → All (IsOver vars) cs → AllPairs (λ c d. ¬ SameLiterals c d) cs → AllPairs (λ m n. m ≢ n) (map (code vars) cs)
codes-apart vars cs over apart i j d before within is =
    let inside : j < length cs = rw (← length-map cs (code vars)) within in
    apart i j [] before inside (same-at vars cs i j d over (omega arith) inside is)

codes-twice : (vars : List ℕ) (cs : List Clause) → All (IsOver vars) cs → NoneMoreThanTwice cs → NoneMoreThan 2 (map (code vars) cs)
codes-twice vars cs over few x = count_of-twice x (map (code vars) cs) (λ i j k before later within at_i at_j at_k.
    let inside : k < length cs = rw (← length-map cs (code vars)) within in
    few i j k [] before later inside (same-at vars cs i j 0 over (omega (arith, before, later, inside)) (omega (arith, later, inside)) (at_i ∙ sym at_j)) (same-at vars cs j k 0 over (omega (arith, later, inside)) inside (at_j ∙ sym at_k)))

-- there are no more clauses over the variables than numbers below the power
length-le_from_apart : (vars : List ℕ) (cs : List Clause) → All (IsOver vars) cs → AllPairs (λ c d. ¬ SameLiterals c d) cs → length cs ≤ 3 ^ length vars
length-le_from_apart vars cs over apart =
    let few : length (map (code vars) cs) ≤ 1 * 3 ^ length vars = length-le_from_counts (3 ^ length vars) 1 (map (code vars) cs) (codes-below vars cs) (NoneMoreThan-IsDistinct (map (code vars) cs) (IsDistinct-from_AllPairs Decides-eqb (map (code vars) cs) (codes-apart vars cs over apart))) in
    let same : length (map (code vars) cs) ≡ length cs = length-map cs (code vars) in
    omega arith

-- and no more than twice as many where none stands more than twice
length-le_from_twice : (vars : List ℕ) (cs : List Clause) → All (IsOver vars) cs → NoneMoreThanTwice cs → length cs ≤ 2 * 3 ^ length vars
length-le_from_twice vars cs over few =
    let le : length (map (code vars) cs) ≤ 2 * 3 ^ length vars = length-le_from_counts (3 ^ length vars) 2 (map (code vars) cs) (codes-below vars cs) (codes-twice vars cs over few) in
    let same : length (map (code vars) cs) ≡ length cs = length-map cs (code vars) in
    omega arith

-- the variables below a number
below : ℕ → List ℕ
below v = range_with_len 0 v

length-below : (v : ℕ) → length (below v) ≡ v
unfolding below
length-below v = length-range_with_len 0 v

Contains-below : (v x : ℕ) → x < v → Contains (below v) x
unfolding below
Contains-below v x low =
    let size : length (range_with_len 0 v) ≡ v = length-range_with_len 0 v in
    (x, omega arith, get_or-range_with_len 0 v x x low ∙ zero-add x)

over-below : (v : ℕ) (cs : List Clause) → AreClausesOver v cs → All (IsOver (below v)) cs
over-below v cs over k d within =
    let is = over k d within in
    (is.0, λ j e inside. Contains-below v (get_or (get_or cs k d) j e).var (is.1 j e inside))

pub clauses-few : (v : ℕ) (cs : List Clause) → AreClausesOver v cs → AllPairs (λ c d. ¬ SameLiterals c d) cs → length cs ≤ 3 ^ v
clauses-few v cs over apart = subst (λ (n : ℕ). length cs ≤ 3 ^ n) (length-below v) (length-le_from_apart (below v) cs (over-below v cs over) apart)

pub repeated-few : (v : ℕ) (cs : List Clause) → AreClausesOver v cs → NoneMoreThanTwice cs → length cs ≤ 2 * 3 ^ v
repeated-few v cs over few = subst (λ (n : ℕ). length cs ≤ 2 * 3 ^ n) (length-below v) (length-le_from_twice (below v) cs (over-below v cs over) few)

-- lemmas have no variables but those of their clauses
pub lemmas-few : (vars : List ℕ) (clauses lemmas : List Clause) → ((x : ℕ) → Occurs x clauses → Contains vars x) → MeetsLemmaRule clauses lemmas → length lemmas ≤ 2 * 3 ^ length vars
lemmas-few vars clauses lemmas known rule =
    length-le_from_twice vars lemmas (λ k d within. (
      rule.not_tautology k d within,
      λ j e inside.
          let c : Clause = get_or lemmas k d in
          let l : Literal = get_or c j e in
          known l.var (rule.known k d within l.var (occurs_in_clause-member l.var c l (Contains-get_or c j e inside) refl)),
    )) rule.few
