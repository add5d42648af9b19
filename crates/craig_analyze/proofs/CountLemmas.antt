-- How often a number stands in a list, and lists of marks.
use Rattle.std.proofs.Common.{◌≡◌, ◌≢◌, ℕ, suc, zero, ◌+◌, ◌<◌, ◌≤◌, Bool, true, false, cond, eqb, List, [], ◌∷◌, ◌++◌, length, get_or, set, Contains, refl, sym, ap, subst, ◌∙◌, arith, eqb-true, eq-eqb, get_or-set_same, get_or-set_other}
use Rattle.std.specs.List.Sorted.{IsPermutation}
use Rattle.std.proofs.lemmas.Grind.{common_steps}
use Rattle.std.proofs.lemmas.Bool.{eqb-false}
use Rattle.std.proofs.lemmas.List.Sums.{sum_by-append}
use Rattle.std.proofs.lemmas.List.Sorted.{sum_by-IsPermutation}
use Rattle.craig_spec.proofs.MemberLemmas.{Contains-front, Contains-later}
use Rattle.craig_base.specs.Counting.{count_of, NoneMoreThan}
use Rattle.craig_watch.proofs.TrailLemmas.{at_most_one}
use Rattle.craig_analyze.specs.Marks.{AreMarks, IsMarked}
use Rattle.craig_base.proofs.CountingLemmas.{count_of-cons}

count_of-one : (n x : ℕ) → count_of n (x ∷ []) ≡ cond (eqb n x) 1 0
count_of-one n x = grind (arith, common_steps)

pub count_of-push : (n x : ℕ) (xs : List ℕ) → count_of n (xs ++ x ∷ []) ≡ count_of n xs + cond (eqb n x) 1 0
count_of-push n x xs = sum_by-append (λ z. cond (eqb n z) 1 0) xs (x ∷ []) ∙ ap (λ k. count_of n xs + k) (count_of-one n x)

pub count_of-permutation : (n : ℕ) (xs ys : List ℕ) → IsPermutation xs ys → count_of n ys ≡ count_of n xs
count_of-permutation n xs ys h = sum_by-IsPermutation (λ z. cond (eqb n z) 1 0) xs ys h

cases-none : (b : Bool) (n x : ℕ) (xs : List ℕ) → eqb n x ≡ b → ¬ Contains (x ∷ xs) n → count_of n xs ≡ 0 → cond b 1 0 + count_of n xs ≡ 0
cases-none true n x xs is h rest = absurd (h (subst (Contains (x ∷ xs)) (sym (eqb-true n x is)) (Contains-front x xs)))
cases-none false n x xs is h rest = omega arith

-- what doesn't stand in the list is counted 0 times
pub count_of-none : (n : ℕ) (xs : List ℕ) → ¬ Contains xs n → count_of n xs ≡ 0
count_of-none n [] h = refl
count_of-none n (x ∷ xs) h =
    count_of-cons n x xs ∙ cases-none (eqb n x) n x xs refl h (count_of-none n xs (λ there. h (Contains-later x xs n there)))

cases-has : (b : Bool) (n x : ℕ) (xs : List ℕ) → eqb n x ≡ b → 1 ≤ cond b 1 0 + count_of n xs → (1 ≤ count_of n xs → Contains xs n) → Contains (x ∷ xs) n
cases-has true n x xs is h rest = subst (Contains (x ∷ xs)) (sym (eqb-true n x is)) (Contains-front x xs)
cases-has false n x xs is h rest = Contains-later x xs n (rest (omega arith))

-- what is counted stands in the list
pub count_of-has : (n : ℕ) (xs : List ℕ) → 1 ≤ count_of n xs → Contains xs n
count_of-has n [] h = absurd (let no : 1 ≤ 0 = h in omega arith)
count_of-has n (x ∷ xs) h = cases-has (eqb n x) n x xs refl (rw (← count_of-cons n x xs) h) (count_of-has n xs)

-- and the way back
pub Contains-counted : (n : ℕ) (xs : List ℕ) → Contains xs n → 1 ≤ count_of n xs
Contains-counted n [] (k, within, is) = absurd (let no : k < 0 = within in omega arith)
Contains-counted n (x ∷ xs) (zero, within, is) =
    let same : eqb n x ≡ true = eq-eqb n x (sym is) in
    rw (count_of-cons n x xs, same) (omega arith)
Contains-counted n (x ∷ xs) (suc k, within, is) =
    let rest : 1 ≤ count_of n xs = Contains-counted n xs (k, omega arith, is) in
    rw (count_of-cons n x xs) (omega arith)

-- no number is marked twice
pub AreMarks-once : (flags : List Bool) (marked : List ℕ) → AreMarks flags marked → NoneMoreThan 1 marked
AreMarks-once flags marked h n =
    let is : count_of n marked ≡ cond (get_or flags n false) 1 0 = h n in
    let one : cond (get_or flags n false) 1 0 ≤ 1 = at_most_one (get_or flags n false) in
    omega arith

pub flagged-marked : (flags : List Bool) (marked : List ℕ) (n : ℕ) → AreMarks flags marked → get_or flags n false ≡ true → Contains marked n
flagged-marked flags marked n h on =
    let is : count_of n marked ≡ 1 = h n ∙ ap (λ (b : Bool). cond b 1 0) on in
    count_of-has n marked (omega arith)

pub unflagged-unmarked : (flags : List Bool) (marked : List ℕ) (n : ℕ) → AreMarks flags marked → get_or flags n false ≡ false → ¬ Contains marked n
unflagged-unmarked flags marked n h off there =
    let is : count_of n marked ≡ 0 = h n ∙ ap (λ (b : Bool). cond b 1 0) off in
    let some : 1 ≤ count_of n marked = Contains-counted n marked there in
    omega arith

-- one number more
insert-cases : (b : Bool) (flags room : List Bool) (marked : List ℕ) (n m : ℕ) → eqb m n ≡ b → AreMarks flags marked → ((k : ℕ) → get_or room k false ≡ get_or flags k false) → n < length room → get_or flags n false ≡ false → count_of m marked + cond b 1 0 ≡ cond (get_or (set room n true) m false) 1 0
insert-cases true flags room marked n m is h same within off =
    let e : m ≡ n = eqb-true m n is in
    let none : count_of m marked ≡ 0 = h m ∙ ap (λ (b : Bool). cond b 1 0) (ap (λ k. get_or flags k false) e ∙ off) in
    let on : get_or (set room n true) m false ≡ true = ap (λ k. get_or (set room n true) k false) e ∙ get_or-set_same room n true false within in
    rw (on, none) refl
insert-cases false flags room marked n m is h same within off =
    let ne : m ≢ n = eqb-false m n is in
    let lower : get_or (set room n true) m false ≡ get_or flags m false = get_or-set_other room n m true false ne ∙ same m in
    rw lower (let counted : count_of m marked ≡ cond (get_or flags m false) 1 0 = h m in omega arith)

pub AreMarks-insert : (flags room : List Bool) (marked : List ℕ) (n : ℕ) → AreMarks flags marked → ((k : ℕ) → get_or room k false ≡ get_or flags k false) → n < length room → get_or flags n false ≡ false → AreMarks (set room n true) (marked ++ n ∷ [])
AreMarks-insert flags room marked n h same within off m = count_of-push m n marked ∙ insert-cases (eqb m n) flags room marked n m refl h same within off

-- the last one less
remove-cases : (b : Bool) (flags : List Bool) (marked : List ℕ) (n m : ℕ) → eqb m n ≡ b → count_of m marked + cond b 1 0 ≡ cond (get_or flags m false) 1 0 → n < length flags → count_of m marked ≡ cond (get_or (set flags n false) m false) 1 0
remove-cases true flags marked n m is h within =
    let e : m ≡ n = eqb-true m n is in
    let off : get_or (set flags n false) m false ≡ false = ap (λ k. get_or (set flags n false) k false) e ∙ get_or-set_same flags n false false within in
    let one : cond (get_or flags m false) 1 0 ≤ 1 = at_most_one (get_or flags m false) in
    rw off (omega arith)
remove-cases false flags marked n m is h within =
    let ne : m ≢ n = eqb-false m n is in
    rw (get_or-set_other flags n m false false ne) (omega arith)

pub AreMarks-remove : (flags : List Bool) (marked : List ℕ) (n : ℕ) → AreMarks flags (marked ++ n ∷ []) → n < length flags → AreMarks (set flags n false) marked
AreMarks-remove flags marked n h within m = remove-cases (eqb m n) flags marked n m refl (sym (count_of-push m n marked) ∙ h m) within

get_or-past : (flags : List Bool) (n : ℕ) → get_or flags n false ≡ true → n < length flags
get_or-past [] n h = absurd (let no : false ≡ true = h in cc)
get_or-past (f ∷ flags) zero h = omega arith
get_or-past (f ∷ flags) (suc n) h = let w : n < length flags = get_or-past flags n h in omega arith

flag-true : (b : Bool) → 1 ≤ cond b 1 0 → b ≡ true
flag-true true h = refl
flag-true false h = absurd (omega arith)

-- a marked number has a flag
pub marked-flagged : (flags : List Bool) (marked : List ℕ) (n : ℕ) → AreMarks flags marked → Contains marked n → n < length flags
marked-flagged flags marked n h there =
    let some : 1 ≤ count_of n marked = Contains-counted n marked there in
    let is : count_of n marked ≡ cond (get_or flags n false) 1 0 = h n in
    get_or-past flags n (flag-true (get_or flags n false) (omega arith))

-- nothing is marked where no flag is set
pub AreMarks-nil : AreMarks [] []
AreMarks-nil n = refl

-- what the mark of a new number says, at another name of the number
pub marked-new : (b : Bool) (v w : ℕ) (old new : List ℕ) → v ≡ w → b ≡ true → IsMarked v old new b → (¬ Contains old w) × (new ≡ old ++ w ∷ [])
marked-new b v w old new same is h = subst (λ (n : ℕ). IsMarked n old new true) same (subst (IsMarked v old new) is h)
