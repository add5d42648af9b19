-- Packed chains that are written and read.
use Rattle.std.proofs.Common.{◌≡◌, ℕ, suc, ◌+◌, ◌-◌, ◌*◌, ◌/◌, ◌%◌, ◌<◌, ◌≤◌, ◌^◌, Bool, true, false, cond, eqb, get_or, List, [], ◌∷◌, ◌++◌, length, append_assoc, append-nil, take, refl, sym, ◌∙◌, ap, subst, arith}
use native.Mathlib.Decide.{dec_lt}
use Rattle.std.proofs.lemmas.List.{map_more}
use Rattle.std.proofs.lemmas.List.Elements.{All-push}
use Rattle.craig_spec.specs.Literal.{Literal}
use Rattle.craig_spec.specs.Chain.{ChainStep}
use Rattle.craig_spec.specs.PackedChain.{literal_number, number_bytes, numbered_literal, numbers_of, rest_bytes, step_bytes, steps_of_numbers}
use Rattle.craig_spec.proofs.PackedChainLemmas.{number_bytes-large, number_bytes-small, numbered_literal-number, steps_of-rest}
use Rattle.craig_proof.specs.PackedSteps.{ArePivotsSmall, AreUnread, BeginsWith, BeginsWithNumber, IsPackable, IsPackedChain}
use Rattle.craig_proof.specs.Tracer.{chain_of, chain_step}
use Rattle.craig_proof.specs.declared.step.Step.{Step}

-- what begins with a list, with more
pub BeginsWith-more : (before mid after more : List ℕ) → BeginsWith before mid → after ≡ mid ++ more → BeginsWith before after
BeginsWith-more before mid after more begun is = (begun.0 ++ more, is ∙ ap (λ xs. xs ++ more) begun.1 ∙ append_assoc before begun.0 more)

pub BeginsWith-same : (xs : List ℕ) → BeginsWith xs xs
BeginsWith-same xs = ([], sym (append-nil xs))

pub BeginsWith-trans : (before mid after : List ℕ) → BeginsWith before mid → BeginsWith mid after → BeginsWith before after
BeginsWith-trans before mid after one two = BeginsWith-more before mid after two.0 one two.1

-- what is left of a number that is written
pub record NumberLeft (start out : List ℕ) (number rest : ℕ) : Type 0 where
  pub written : out ++ number_bytes rest ≡ start ++ number_bytes number
  pub begun : BeginsWith start out

pub NumberLeft-all : (start : List ℕ) (number : ℕ) → NumberLeft start start number number
NumberLeft-all start number = record { written = refl; begun = BeginsWith-same start }

pub NumberLeft-more : (start out new : List ℕ) (number rest byte : ℕ) → NumberLeft start out number rest → 128 ≤ rest → byte ≡ 128 + rest % 128 → new ≡ out ++ byte ∷ [] → NumberLeft start new number (rest / 128)
NumberLeft-more start out new number rest byte left long is items = record {
  written = ap (λ xs. xs ++ number_bytes (rest / 128)) items ∙ append_assoc out (byte ∷ []) (number_bytes (rest / 128)) ∙ ap (λ b. out ++ b ∷ number_bytes (rest / 128)) is ∙ ap (λ xs. out ++ xs) (sym (number_bytes-large rest long)) ∙ left.written;
  begun = BeginsWith-more start out new (byte ∷ []) left.begun items;
}

pub NumberLeft-done : (start out new : List ℕ) (number rest : ℕ) → NumberLeft start out number rest → rest < 128 → new ≡ out ++ rest ∷ [] → new ≡ start ++ number_bytes number
NumberLeft-done start out new number rest left short items = items ∙ ap (λ xs. out ++ xs) (sym (number_bytes-small rest short)) ∙ left.written

-- a number has a first byte, by which it is known how it goes on
pub record FirstByte (bytes : List ℕ) (byte : ℕ) (behind : List ℕ) (n : ℕ) (rest : List ℕ) : Type 0 where
  pub short : byte < 128 → (byte ≡ n) × (behind ≡ rest)
  pub long : 128 ≤ byte → (n ≡ byte - 128 + 128 * (n / 128)) × (behind ≡ number_bytes (n / 128) ++ rest) × (128 ≤ n)

pub first_byte : (bytes : List ℕ) (byte : ℕ) (behind : List ℕ) (n : ℕ) (rest : List ℕ) → bytes ≡ byte ∷ behind → bytes ≡ number_bytes n ++ rest → FirstByte bytes byte behind n rest
first_byte bytes byte behind n rest cut is =
    elim (dec_lt n 128) [
      | Prim.yes small ↦ (
          let one : byte ∷ behind ≡ n ∷ rest = sym cut ∙ is ∙ ap (λ xs. xs ++ rest) (number_bytes-small n small) in
          let b : byte ≡ n = cc in
          let r : behind ≡ rest = cc in
          record { short = λ _. (b, r); long = λ no. absurd (omega arith) })
      | Prim.no past ↦ (
          let large : 128 ≤ n = omega (arith, past) in
          let one : byte ∷ behind ≡ (128 + n % 128) ∷ (number_bytes (n / 128) ++ rest) = sym cut ∙ is ∙ ap (λ xs. xs ++ rest) (number_bytes-large n large) in
          let b : byte ≡ 128 + n % 128 = cc in
          let r : behind ≡ number_bytes (n / 128) ++ rest = cc in
          record { short = λ no. absurd (omega arith); long = λ _. (omega arith, r, large) })
    ]

-- no number is without a byte
pub number_some : (n : ℕ) (rest : List ℕ) → [] ≡ number_bytes n ++ rest → ⊥
number_some n rest is =
    elim (dec_lt n 128) [
      | Prim.yes small ↦ (let one : [] ≡ n ∷ rest = is ∙ ap (λ xs. xs ++ rest) (number_bytes-small n small) in cc)
      | Prim.no past ↦ (
          let large : 128 ≤ n = omega (arith, past) in
          let one : [] ≡ (128 + n % 128) ∷ (number_bytes (n / 128) ++ rest) = is ∙ ap (λ xs. xs ++ rest) (number_bytes-large n large) in cc)
    ]

-- one resolution more
pub rest_bytes-append : (id : ℕ) (xs ys : List ChainStep) → rest_bytes id (xs ++ ys) ≡ rest_bytes id xs ++ rest_bytes id ys
rest_bytes-append id [] ys = refl
rest_bytes-append id (x ∷ xs) ys = ap (λ bytes. step_bytes id x ++ bytes) (rest_bytes-append id xs ys) ∙ sym (append_assoc (step_bytes id x) (rest_bytes id xs) (rest_bytes id ys))

pub rest_bytes-one : (id : ℕ) (x : ChainStep) → rest_bytes id (x ∷ []) ≡ step_bytes id x
rest_bytes-one id x = append-nil (step_bytes id x)

-- the view of what is unread is what it says
pub unread-view : (id : ℕ) (bytes : List ℕ) (rest : List ChainStep) → AreUnread id bytes rest → steps_of_numbers id (numbers_of bytes) ≡ rest
unread-view id bytes rest left = ap (λ bs. steps_of_numbers id (numbers_of bs)) left.bytes_are ∙ steps_of-rest id rest left.before

pub unread-same : (id : ℕ) (bytes : List ℕ) (rest : List ChainStep) → AreUnread id bytes rest → AreUnread id bytes (steps_of_numbers id (numbers_of bytes))
unread-same id bytes rest left = rw (unread-view id bytes rest left) left

-- the first resolution of what is unread
pub record FirstUnread (id : ℕ) (bytes : List ℕ) (rest : List ChainStep) : Type 0 where
  pub step : ChainStep
  pub later : List ChainStep
  pub is : rest ≡ step ∷ later
  pub bytes_are : bytes ≡ number_bytes (literal_number step.pivot) ++ (number_bytes (id - step.antecedent) ++ rest_bytes id later)
  pub before : step.antecedent < id
  pub small : step.pivot.var < 2147483648
  pub left : AreUnread id (rest_bytes id later) later

pub first_unread : (id : ℕ) (bytes : List ℕ) (rest : List ChainStep) → AreUnread id bytes rest → (bytes ≡ [] → ⊥) → FirstUnread id bytes rest
first_unread id bytes [] left some = absurd (some left.bytes_are)
first_unread id bytes (s ∷ rest) left some = record {
  step = s;
  later = rest;
  is = refl;
  bytes_are = left.bytes_are ∙ append_assoc (number_bytes (literal_number s.pivot)) (number_bytes (id - s.antecedent)) (rest_bytes id rest);
  before = left.before 0 s (omega arith);
  small = left.small 0 s (omega arith);
  left = record {
    bytes_are = refl;
    before = λ k d within. left.before (suc k) d (omega arith);
    small = λ k d within. left.small (suc k) d (omega arith);
  };
}

-- where bytes begin with a number, there is a byte
pub number_none : (bytes : List ℕ) → length bytes ≡ 0 → BeginsWithNumber bytes → ⊥
number_none [] none begins = number_some begins.0 begins.1 begins.2
number_none (b ∷ bytes) none begins = absurd (omega arith)

-- the first antecedent and the resolutions of a packed chain
pub chain_begins : (id : ℕ) (bytes : List ℕ) → id < 2 ^ 64 → IsPackedChain id bytes → BeginsWithNumber bytes
chain_begins id bytes fits chain = (id - chain.first, rest_bytes id chain.rest, chain.bytes_are, omega arith)

pub rest_unread : (id first : ℕ) (rest : List ChainStep) → IsPackable id first rest → AreUnread id (rest_bytes id rest) rest
rest_unread id first rest packable = record { bytes_are = refl; before = packable.before; small = packable.small }

-- the number of a literal fits
pub literal_number-fits : (l : Literal) → l.var < 2147483648 → literal_number l < 2 ^ 64
literal_number-fits l small = by_sign l.var l.negated small where
  by_sign : (v : ℕ) (b : Bool) → v < 2147483648 → 2 * v + cond b 1 0 < 2 ^ 64
  by_sign v true h = omega arith
  by_sign v false h = omega arith

pub literal_number-half : (l : Literal) → literal_number l / 2 ≡ l.var
literal_number-half l = by_sign l.var l.negated where
  by_sign : (v : ℕ) (b : Bool) → (2 * v + cond b 1 0) / 2 ≡ v
  by_sign v true = omega arith
  by_sign v false = omega arith

-- what is read of the next resolution
module _ (id : ℕ) (bytes : List ℕ) (rest : List ChainStep) (pivot difference : ℕ) (behind left : List ℕ) (unread : AreUnread id bytes rest) (some : bytes ≡ [] → ⊥)
    (one : (n : ℕ) (more : List ℕ) → bytes ≡ number_bytes n ++ more → (pivot ≡ n) × (behind ≡ more))
    (two : (n : ℕ) (more : List ℕ) → behind ≡ number_bytes n ++ more → (difference ≡ n) × (left ≡ more)) where
  at_first : FirstUnread id bytes rest
  at_first = first_unread id bytes rest unread some

  pub next-pivot : pivot / 2 < 2147483648
  next-pivot =
      let p = (one _ _ at_first.bytes_are).0 in
      subst (λ n. n < 2147483648) (sym (ap (λ n. n / 2) p ∙ literal_number-half at_first.step.pivot)) at_first.small

  second : (difference ≡ id - at_first.step.antecedent) × (left ≡ rest_bytes id at_first.later)
  second = two _ _ (one _ _ at_first.bytes_are).1

  pub next-left : AreUnread id left (steps_of_numbers id (numbers_of left))
  next-left = unread-same id left at_first.later (subst (λ bs. AreUnread id bs at_first.later) (sym second.1) at_first.left)

  pub next-step : (lit : Literal) → lit ≡ numbered_literal pivot → rest ≡ record { pivot = lit; antecedent = id - difference } ∷ steps_of_numbers id (numbers_of left)
  next-step lit is =
      let same : lit ≡ at_first.step.pivot = is ∙ ap numbered_literal (one _ _ at_first.bytes_are).0 ∙ numbered_literal-number at_first.step.pivot in
      let before = at_first.before in
      let d = second.0 in
      let ante : id - difference ≡ at_first.step.antecedent = omega arith in
      let later : steps_of_numbers id (numbers_of left) ≡ at_first.later = unread-view id left at_first.later (subst (λ bs. AreUnread id bs at_first.later) (sym second.1) at_first.left) in
      at_first.is ∙ sym (ap (λ xs. record { pivot = lit; antecedent = id - difference } ∷ xs) later ∙ (λ i. record { pivot = same i; antecedent = ante i } ∷ at_first.later))

pub first-begins : (id : ℕ) (bytes : List ℕ) (rest : List ChainStep) → AreUnread id bytes rest → (bytes ≡ [] → ⊥) → BeginsWithNumber bytes
first-begins id bytes rest unread some =
    let f = first_unread id bytes rest unread some in
    (literal_number f.step.pivot, number_bytes (id - f.step.antecedent) ++ rest_bytes id f.later, f.bytes_are, literal_number-fits f.step.pivot f.small)

pub not_empty : (bytes : List ℕ) (b : Bool) → b ≡ eqb (length bytes) 0 → b ≡ false → bytes ≡ [] → ⊥
not_empty bytes b is false_is none = let e : eqb (length bytes) 0 ≡ true = ap (λ (xs : List ℕ). eqb (length xs) 0) none in cc

-- one resolution more is written
module _ (id : ℕ) (xs : List Step) (k : ℕ) (x : Step) (within : k < length xs) (is : x ≡ get_or xs k x) where
  one_more : chain_of (take (k + 1) xs) ≡ chain_of (take k xs) ++ chain_step x ∷ []
  one_more = map_more chain_step xs k x within ∙ ap (λ y. chain_of (take k xs) ++ chain_step y ∷ []) (sym is)

  pub steps_more : (start out new : List ℕ) → out ≡ start ++ rest_bytes id (chain_of (take k xs)) → new ≡ out ++ step_bytes id (chain_step x) → new ≡ start ++ rest_bytes id (chain_of (take (k + 1) xs))
  steps_more start out new before now =
      let bytes : rest_bytes id (chain_of (take (k + 1) xs)) ≡ rest_bytes id (chain_of (take k xs)) ++ step_bytes id (chain_step x) = ap (rest_bytes id) one_more ∙ rest_bytes-append id (chain_of (take k xs)) (chain_step x ∷ []) ∙ ap (λ bs. rest_bytes id (chain_of (take k xs)) ++ bs) (rest_bytes-one id (chain_step x)) in
      now ∙ ap (λ bs. bs ++ step_bytes id (chain_step x)) before ∙ append_assoc start (rest_bytes id (chain_of (take k xs))) (step_bytes id (chain_step x)) ∙ ap (λ bs. start ++ bs) (sym bytes)

  pub small_more : ArePivotsSmall (chain_of (take k xs)) → x.pivot.var < 2147483648 → ArePivotsSmall (chain_of (take (k + 1) xs))
  small_more before now = rw one_more (All-push (λ (s : ChainStep). s.pivot.var < 2147483648) (chain_of (take k xs)) (chain_step x) before now)
