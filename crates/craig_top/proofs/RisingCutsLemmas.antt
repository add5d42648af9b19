-- Chosen cuts that were admitted.
use Rattle.std.proofs.Common.{◌≡◌, ◌≢◌, ◌∙◌, ap, refl, ℕ, zero, suc, ◌+◌, ◌<◌, ◌≤◌, Bool, true, false, ◌&&◌, nat_le, cond, subst, slice_index, List, [], ◌∷◌, ◌++◌, sym, take, length, map, get_or, All, Contains, Option, Some, None, Result, Ok, Err, not, ℤ, pos, negsuc, leb-true, arith, inl, inr}
use Rattle.std.proofs.lemmas.Bool.{le-leb}
use Rattle.std.proofs.lemmas.List.{map-append, take_more}
use Rattle.std.proofs.lemmas.List.Elements.{Contains-get_or}
use Rattle.std.specs.Int.RustNames.{unsigned_abs}
use Rattle.std.specs.List.{range_with_len}
use Rattle.std.proofs.lemmas.List.FromFn.{length-range_with_len}
use Rattle.std.specs.List.Sorted.{IsStrictlyIncreasing}
use Rattle.craig_script.specs.Reading.{admitted, are_rising_within, goes_on, natural, next_least}
use Rattle.craig_script.specs.declared.command.Command.{Command}
use Rattle.craig_script.specs.declared.command.Command.TheVariants.{Cuts}
use Rattle.craig_script.specs.declared.cut_word.CutWord.{CutWord}
use Rattle.craig_script.specs.declared.cut_word.CutWord.TheVariants as cut
use Rattle.craig_script.specs.declared.refusal.Refusal.{Refusal}
use Rattle.craig_script.specs.declared.refusal.Refusal.TheVariants.{CutRange}
use Rattle.craig_spec.specs.Cut.{AreChosenCuts, all_cuts}
use Rattle.craig_spec.proofs.MemberLemmas.{Contains-cases, Contains-front, Contains-later}
use Rattle.craig_top.specs.AsRead.{IsAsRead}

-- what passes is there, and within
passed : (least greatest : ℕ) (o : Option ℕ) (after : ℕ → Bool) → goes_on (next_least least greatest o) after ≡ true → (n : ℕ) × (o ≡ Some n) × (least ≤ n) × (n ≤ greatest) × (after (n + 1) ≡ true)
passed least greatest None after e = absurd (let no : false ≡ true = e in cc)
passed least greatest (Some n) after e = here (nat_le least n) (nat_le n greatest) refl refl e
  where
    here : (low high : Bool) → nat_le least n ≡ low → nat_le n greatest ≡ high → goes_on (cond (low && high) (Some (n + 1)) None) after ≡ true → (m : ℕ) × (Some n ≡ Some m) × (least ≤ m) × (m ≤ greatest) × (after (m + 1) ≡ true)
    here true true a b f = (n, refl, leb-true least n a, leb-true n greatest b, f)
    here true false a b f = absurd (let no : false ≡ true = f in cc)
    here false high a b f = absurd (let no : false ≡ true = f in cc)

-- what is there, and within, passes
passes : (least greatest n : ℕ) (o : Option ℕ) (after : ℕ → Bool) → o ≡ Some n → least ≤ n → n ≤ greatest → after (n + 1) ≡ true → goes_on (next_least least greatest o) after ≡ true
passes least greatest n o after e low high f = rw (e, le-leb least n low, le-leb n greatest high) f

-- numbers that rise up to a bound rise up to each greater one
pub rising-wider : (least greatest more : ℕ) (zs : List ℤ) → greatest ≤ more → are_rising_within least greatest zs ≡ true → are_rising_within least more zs ≡ true
rising-wider least greatest more [] le e = refl
rising-wider least greatest more (z ∷ zs) le e =
    let first = passed least greatest (natural z) (λ next. are_rising_within next greatest zs) e in
    let high : first.0 ≤ more = (let at_most = first.3 in omega arith) in
    passes least more first.0 (natural z) (λ next. are_rising_within next more zs) first.1 first.2 high (rising-wider (first.0 + 1) greatest more zs le first.4)

-- what a command is answered whose cuts are refused, and one that is admitted
abbrev refused : Result (Unit {0}) Refusal
refused = Err CutRange

abbrev passed_all : Result (Unit {0}) Refusal
passed_all = Ok tt

by_cuts : (cuts : Bool) → cond (not cuts) refused passed_all ≡ passed_all → cuts ≡ true
by_cuts true is = refl
by_cuts false is = absurd (cc)

-- where chosen cuts are admitted, they rise up to the number of parts
pub admitted-cuts : (parts : ℕ) (any : Bool) (zs : List ℤ) → admitted parts any (Cuts (cut.Chosen zs)) ≡ Ok tt → are_rising_within 0 parts zs ≡ true
admitted-cuts parts true zs e = by_cuts (are_rising_within 0 parts zs) e
admitted-cuts parts false zs e = by_cuts (are_rising_within 0 parts zs) e

natural-form : (z : ℤ) (n : ℕ) → natural z ≡ Some n → z ≡ pos n
natural-form (pos m) n e = ap pos (let same : m ≡ n = cc in same)
natural-form (negsuc m) n e = absurd (cc)

-- each number is within
members : (least greatest : ℕ) (zs : List ℤ) → are_rising_within least greatest zs ≡ true → (z : ℤ) → Contains zs z → (n : ℕ) × (z ≡ pos n) × (least ≤ n) × (n ≤ greatest)
members least greatest [] e z here = absurd (omega (arith, here.1))
members least greatest (y ∷ zs) e z here =
    let first = passed least greatest (natural y) (λ next. are_rising_within next greatest zs) e in
    elim (Contains-cases y zs z here) [
      | inl same ↦ (first.0, sym_path y z same ∙ natural-form y first.0 first.1, first.2, first.3)
      | inr later ↦ (let found = members (first.0 + 1) greatest zs first.4 z later in (found.0, found.1, (let a = first.2 in let b = found.2 in omega arith), found.3))
    ]
  where
    sym_path : (a b : ℤ) → a ≡ b → b ≡ a
    sym_path a b p = cc

pub within-cuts : (parts : ℕ) (zs : List ℤ) → are_rising_within 0 parts zs ≡ true → (z : ℤ) → Contains zs z → (n : ℕ) × (z ≡ pos n) × (n ≤ parts)
within-cuts parts zs e z here = let found = members 0 parts zs e z here in (found.0, found.1, found.3)

-- the least of the numbers is the first
first_above : (least greatest : ℕ) (zs : List ℤ) → are_rising_within least greatest zs ≡ true → 0 < length (map unsigned_abs zs) → least ≤ slice_index (map unsigned_abs zs) 0
first_above least greatest [] e some = absurd (omega (arith, some))
first_above least greatest (z ∷ zs) e some =
    let first = passed least greatest (natural z) (λ next. are_rising_within next greatest zs) e in
    subst (λ n. least ≤ n) (ap unsigned_abs (same_path (natural-form z first.0 first.1))) first.2
  where
    same_path : {a b : ℤ} → a ≡ b → b ≡ a
    same_path p = cc

-- and each is below the next
rising-from : (least greatest : ℕ) (zs : List ℤ) → are_rising_within least greatest zs ≡ true → IsStrictlyIncreasing (map unsigned_abs zs)
rising-from least greatest [] e k within = absurd (omega (arith, within))
rising-from least greatest (z ∷ zs) e zero within =
    let first = passed least greatest (natural z) (λ next. are_rising_within next greatest zs) e in
    let next : first.0 + 1 ≤ slice_index (map unsigned_abs zs) 0 = first_above (first.0 + 1) greatest zs first.4 (omega (arith, within)) in
    let same : unsigned_abs z ≡ first.0 = ap unsigned_abs (natural-form z first.0 first.1) in
    omega (arith, next, same)
rising-from least greatest (z ∷ zs) e (suc k) within =
    let first = passed least greatest (natural z) (λ next. are_rising_within next greatest zs) e in
    let next : suc k + 1 ≡ suc (k + 1) = omega arith in
    rw next (rising-from (first.0 + 1) greatest zs first.4 k (omega (arith, within)))

pub rising-cuts : (parts : ℕ) (zs : List ℤ) → are_rising_within 0 parts zs ≡ true → IsStrictlyIncreasing (map unsigned_abs zs)
rising-cuts parts zs e = rising-from 0 parts zs e

-- no cut is none
none_of_none : (zs : List ℤ) → zs ≢ [] → map unsigned_abs zs ≢ []
none_of_none [] some e = some refl
none_of_none (z ∷ zs) some e = absurd (cc)

-- admitted cuts are chosen ones
pub chosen-numbers : (parts : ℕ) (zs : List ℤ) → zs ≢ [] → are_rising_within 0 parts zs ≡ true → AreChosenCuts parts (map unsigned_abs zs)
chosen-numbers parts zs some e = record {
  some = none_of_none zs some;
  rising = rising-cuts parts zs e;
  within = all_within zs (within-cuts parts zs e);
}
  where
    all_within : (ys : List ℤ) → ((y : ℤ) → Contains ys y → (n : ℕ) × (y ≡ pos n) × (n ≤ parts)) → All (λ cut. cut ≤ parts) (map unsigned_abs ys)
    all_within [] each k d within = absurd (omega (arith, within))
    all_within (y ∷ ys) each zero d within = let found = each y (Contains-front y ys) in let same : unsigned_abs y ≡ found.0 = ap unsigned_abs found.1 in omega (arith, same, found.2)
    all_within (y ∷ ys) each (suc k) d within = all_within ys (λ z here. each z (Contains-later y ys z here)) k d (omega (arith, within))

range-at : (first n k : ℕ) → k < n → slice_index (range_with_len first n) k ≡ first + k
range-at first zero k within = absurd (omega (arith, within))
range-at first (suc n) zero within = omega arith
range-at first (suc n) (suc k) within = range-at (first + 1) n k (omega (arith, within)) ∙ (let e : first + 1 + k ≡ first + suc k = omega arith in e)

-- all cuts are chosen ones
pub chosen-all : (parts : ℕ) → AreChosenCuts parts (all_cuts parts)
chosen-all parts = record {
  some = none parts;
  rising = λ k within. (let count = length-range_with_len 0 (parts + 1) in let a = range-at 0 (parts + 1) k (omega (arith, within, count)) in let b = range-at 0 (parts + 1) (k + 1) (omega (arith, within, count)) in omega (arith, a, b));
  within = range_within 0 (parts + 1) parts (omega arith);
}
  where
    none : (n : ℕ) → range_with_len 0 (n + 1) ≢ []
    none n e = absurd (let count = length-range_with_len 0 (n + 1) in let no : length (range_with_len 0 (n + 1)) ≡ 0 = ap length e in omega (arith, count, no))

    range_within : (first n greatest : ℕ) → first + n ≤ greatest + 1 → All (λ cut. cut ≤ greatest) (range_with_len first n)
    range_within first zero greatest le k d within = absurd (omega (arith, within))
    range_within first (suc n) greatest le zero d within = omega arith
    range_within first (suc n) greatest le (suc k) d within = range_within (first + 1) n greatest (omega arith) k d (omega (arith, within))

-- each of the numbers is at most the greatest
pub cut-at : (zs : List ℤ) (i : ℕ) → are_rising_within 0 65535 zs ≡ true → i < length zs → unsigned_abs (get_or zs i (pos 0)) ≤ 65535
cut-at zs i e within =
    let found = within-cuts 65535 zs e (get_or zs i (pos 0)) (Contains-get_or zs i (pos 0) within) in
    let same : unsigned_abs (get_or zs i (pos 0)) ≡ found.0 = ap unsigned_abs found.1 in
    omega (arith, same, found.2)

-- one more of them
pub map-take_more : (zs : List ℤ) (i : ℕ) → i < length zs → map unsigned_abs (take i zs) ++ unsigned_abs (get_or zs i (pos 0)) ∷ [] ≡ map unsigned_abs (take (i + 1) zs)
map-take_more zs i within =
    sym (ap (map unsigned_abs) (take_more zs i (pos 0) within) ∙ map-append unsigned_abs (take i zs) (get_or zs i (pos 0) ∷ []))

-- chosen cuts that are admitted as a command rise, up to the most parts that a number of 16 bits is
pub rising-admitted : (parts : ℕ) (any : Bool) (command : Command) (word : CutWord) (numbers lent : List ℤ) → command ≡ Cuts word → word ≡ cut.Chosen numbers → lent ≡ numbers → admitted parts any command ≡ Ok tt → parts ≤ 65535
    → are_rising_within 0 65535 lent ≡ true
rising-admitted parts any command word numbers lent is chosen same e low =
    let by_word : admitted parts any (Cuts word) ≡ Ok tt = subst (λ (c : Command). admitted parts any c ≡ Ok tt) is e in
    let by_numbers : admitted parts any (Cuts (cut.Chosen numbers)) ≡ Ok tt = subst (λ (w : CutWord). admitted parts any (Cuts w) ≡ Ok tt) chosen by_word in
    subst (λ zs. are_rising_within 0 65535 zs ≡ true) (sym same) (rising-wider 0 parts 65535 numbers low (admitted-cuts parts any numbers by_numbers))

-- and they are chosen cuts of the parts
pub chosen-admitted : (parts : ℕ) (any : Bool) (command : Command) (word : CutWord) (numbers lent : List ℤ) (cuts : List ℕ) → command ≡ Cuts word → word ≡ cut.Chosen numbers → lent ≡ numbers → admitted parts any command ≡ Ok tt → IsAsRead command
    → cuts ≡ map unsigned_abs lent → AreChosenCuts parts cuts
chosen-admitted parts any command word numbers lent cuts is chosen same e read are =
    let by_word : admitted parts any (Cuts word) ≡ Ok tt = subst (λ (c : Command). admitted parts any c ≡ Ok tt) is e in
    let by_numbers : admitted parts any (Cuts (cut.Chosen numbers)) ≡ Ok tt = subst (λ (w : CutWord). admitted parts any (Cuts w) ≡ Ok tt) chosen by_word in
    let read_word : IsAsRead (Cuts word) = subst IsAsRead is read in
    let some : numbers ≢ [] = subst (λ (w : CutWord). IsAsRead (Cuts w)) chosen read_word in
    subst (AreChosenCuts parts) (sym (are ∙ ap (map unsigned_abs) same)) (chosen-numbers parts numbers some (admitted-cuts parts any numbers by_numbers))
