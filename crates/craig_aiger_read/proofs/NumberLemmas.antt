-- Laws of the numbers that words write.
use Rattle.std.proofs.Common.{◌≡◌, ℕ, ◌+◌, ◌^◌, ◌<◌, ◌≤◌, Bool, true, false, leb, List, [], ◌∷◌, ◌++◌, length, map, get_or, Option, Some, None, Result, Ok, refl, sym, ◌∙◌, ap, arith}
use Rattle.std.proofs.Math.Nat.{pow-le-pow_right}
use Rattle.std.proofs.lemmas.List.{append_assoc, append-nil, length-append}
use Rattle.std.proofs.lemmas.Bool.Decides.{nat_tests}
use Rattle.std.specs.Option.{option_map}
use Rattle.craig_spec.specs.AigerFault.{Fault, FaultKind}
use Rattle.craig_spec.specs.AigerReading.{Counts, all_read, checked, fault, is_literal, number_in, numbers_in, root_of, words_of}

-- few digits make a small number
pub pow-small : (i n : ℕ) → i ≤ n → 10 ^ i ≤ 10 ^ n
pow-small i n h = pow-le-pow_right (omega arith) h

-- the numbers of a line are these, with those that are read of what is left behind them
pub record NumbersSoFar (line ns : List ℕ) (left : List (List ℕ)) : Type 0 where
  pub size : length ns + length left ≡ length (words_of line)
  pub read : option_map (λ read. ns ++ read) (all_read (map number_in left)) ≡ all_read (map number_in (words_of line))

option_map-id : (o : Option (List ℕ)) → option_map (λ read. [] ++ read) o ≡ o
option_map-id None = refl
option_map-id (Some x) = refl

-- before the first word
pub so_far-none : (line : List ℕ) → NumbersSoFar line [] (words_of line)
so_far-none line = record { size = omega arith; read = option_map-id (all_read (map number_in (words_of line))) }

option_map-more : (ns : List ℕ) (v : ℕ) (o : Option (List ℕ)) →
    option_map (λ read. (ns ++ v ∷ []) ++ read) o ≡ option_map (λ read. ns ++ read) (option_map (λ read. v ∷ read) o)
option_map-more ns v None = refl
option_map-more ns v (Some x) = ap Some (append_assoc ns (v ∷ []) x)

all_read-some : (v : ℕ) (o : Option ℕ) (os : List (Option ℕ)) → o ≡ Some v → all_read (o ∷ os) ≡ option_map (λ read. v ∷ read) (all_read os)
all_read-some v o os e = rw e refl

all_read-none : (o : Option ℕ) (os : List (Option ℕ)) → o ≡ None → all_read (o ∷ os) ≡ None
all_read-none o os e = rw e refl

-- one word more
pub so_far-more : (line ns word : List ℕ) (left : List (List ℕ)) (v : ℕ) → NumbersSoFar line ns (word ∷ left) → number_in word ≡ Some v → NumbersSoFar line (ns ++ v ∷ []) left
so_far-more line ns word left v h e = record {
  size = omega (arith, h.size, length-append ns (v ∷ []));
  read = option_map-more ns v (all_read (map number_in left)) ∙ ap (option_map (λ read. ns ++ read)) (sym (all_read-some v (number_in word) (map number_in left) e)) ∙ h.read;
}

few-le : (line : List ℕ) → length (words_of line) ≤ 9 → numbers_in line ≡ all_read (map number_in (words_of line))
few-le line h = let t : leb (length (words_of line)) 9 ≡ true = grind (arith, nat_tests, h) in rw t refl

many-none : (line : List ℕ) → 9 < length (words_of line) → numbers_in line ≡ None
many-none line h = let t : leb (length (words_of line)) 9 ≡ false = grind (arith, nat_tests, h) in rw t refl

-- after the last word
pub so_far-end : (line ns : List ℕ) → NumbersSoFar line ns [] → length ns ≤ 9 → Some ns ≡ numbers_in line
so_far-end line ns h few = ap Some (sym (append-nil ns)) ∙ h.read ∙ sym (few-le line (omega (arith, h.size)))

-- a tenth word
pub so_far-many : (line ns word : List ℕ) (left : List (List ℕ)) → NumbersSoFar line ns (word ∷ left) → length ns ≡ 9 → None ≡ numbers_in line
so_far-many line ns word left h nine = sym (many-none line (omega (arith, h.size)))

wrong-by : (line : List ℕ) (test : Bool) → leb (length (words_of line)) 9 ≡ test → all_read (map number_in (words_of line)) ≡ None → numbers_in line ≡ None
wrong-by line true e none = rw e none
wrong-by line false e none = rw e refl

-- a word that is no number
pub so_far-wrong : (line ns word : List ℕ) (left : List (List ℕ)) → NumbersSoFar line ns (word ∷ left) → number_in word ≡ None → None ≡ numbers_in line
so_far-wrong line ns word left h e =
    let none : all_read (map number_in (words_of line)) ≡ None = sym h.read ∙ ap (option_map (λ read. ns ++ read)) (all_read-none (number_in word) (map number_in left) e) in
    sym (wrong-by line (leb (length (words_of line)) 9) refl none)

-- an output or bad literal has one number
pub root_of-one : (c : Counts) (offset : ℕ) (o : Option (List ℕ)) (ns : List ℕ) → o ≡ Some ns → 1 ≤ length ns → length ns < 2 →
    root_of c offset o ≡ checked (is_literal c (get_or ns 0 0)) FaultKind.Literal offset (Ok (record { offset = offset; literal = get_or ns 0 0 }))
root_of-one c offset o [] is some few = absurd (omega arith)
root_of-one c offset o (n ∷ []) is some few = rw is refl
root_of-one c offset o (n ∷ (m ∷ ns)) is some few = absurd (omega arith)

pub root_of-none : (c : Counts) (offset : ℕ) (o : Option (List ℕ)) (ns : List ℕ) → o ≡ Some ns → length ns < 1 → root_of c offset o ≡ fault FaultKind.Line offset
root_of-none c offset o [] is few = rw is refl
root_of-none c offset o (n ∷ ns) is few = absurd (omega arith)

-- what is tested
pub checked-fails : {A : Type 0} (t : Bool) (kind : FaultKind) (offset : ℕ) (read : Result A Fault) → t ≡ false → checked t kind offset read ≡ fault kind offset
checked-fails t kind offset read e = rw e refl

pub checked-holds : {A : Type 0} (t : Bool) (kind : FaultKind) (offset : ℕ) (read : Result A Fault) → t ≡ true → checked t kind offset read ≡ read
checked-holds t kind offset read e = rw e refl
