-- Laws of symbols and of the names that they give.
use Rattle.std.proofs.Common.{◌≡◌, ◌≢◌, ℕ, zero, suc, ◌+◌, ◌-◌, ◌<◌, ◌≤◌, Bool, true, false, cond, not, ◌&&◌, ◌||◌, eqb, ltb, get_or, List, [], ◌∷◌, ◌++◌, length, map, set, replicate, slice_get, Option, Some, None, Result, Ok, Err, refl, sym, ◌∙◌, ap, arith, ne_eqb}
use Rattle.std.proofs.lemmas.Bool.{and_parts}
use Rattle.std.proofs.lemmas.Bool.Decides.{nat_tests}
use Rattle.std.proofs.lemmas.Option.{cond_some, slice_get-map}
use Rattle.std.specs.Prelude.{find, is_none, IfErr, OnOk}
use Rattle.std.specs.List.{after_first, before_first, list_any, position_or_len, prefix_len, range_with_len}
use Rattle.std.specs.Option.{option_map, unwrap_or}
use Rattle.craig_spec.specs.AigerFault.{Fault, FaultKind}
use Rattle.craig_spec.specs.AigerReading.{Counts, Symbol, TextLine, checked, count_named, is_before_comments, is_space, is_symbol_of, name_of, names_of, number_in, symbol_checked, symbol_in, symbol_of}
use Rattle.craig_aiger_read.specs.declared.aiger_error.AigerError.{AigerError}
use Rattle.craig_aiger_read.specs.ReadFaults.{IsFaultOf, IsReadAs, fault_of}
use Rattle.craig_aiger_read.specs.ReadLines.{lines_at, IsFirstLine}
use Rattle.craig_aiger_read.specs.ReadNames.{is_free, symbol_count}
use Rattle.craig_aiger_read.specs.Cuts.{behind_first}
use Rattle.craig_aiger_read.proofs.CutLemmas.{list_any-inside}
use Rattle.craig_aiger_read.proofs.FaultLemmas.{FailsBy-through}
use Rattle.std.proofs.lemmas.Bool.{not-true}

-- nothing is found exactly where no element passes
none-by : {X : Type 0} (p : X → Bool) (x : X) (xs : List X) (t : Bool) → p x ≡ t → is_none (find p xs) ≡ not (list_any p xs) → is_none (cond t (Some x) (find p xs)) ≡ not (t || list_any p xs)
none-by p x xs true e h = refl
none-by p x xs false e h = h

find-none : {X : Type 0} (p : X → Bool) (xs : List X) → is_none (find p xs) ≡ not (list_any p xs)
find-none p [] = refl
find-none p (x ∷ xs) = none-by p x xs (p x) refl (find-none p xs)

none-map : {X Y : Type 0} (f : X → Y) (o : Option X) → is_none (option_map f o) ≡ is_none o
none-map f None = refl
none-map f (Some x) = refl

-- an element at the end that doesn't pass changes nothing
other-by : {X : Type 0} (t : Bool) (x : X) (a b : Option X) → a ≡ b → cond t (Some x) a ≡ cond t (Some x) b
other-by t x a b e = ap (cond t (Some x)) e

find-other : {X : Type 0} (p : X → Bool) (xs : List X) (s : X) → p s ≡ false → find p (xs ++ s ∷ []) ≡ find p xs
find-other p [] s e = rw e refl
find-other p (x ∷ xs) s e = other-by (p x) x (find p (xs ++ s ∷ [])) (find p xs) (find-other p xs s e)

-- one that passes is found where no other does
last-by : {X : Type 0} (p : X → Bool) (x : X) (xs : List X) (s : X) (t : Bool) → (t || list_any p xs) ≡ false → (list_any p xs ≡ false → find p (xs ++ s ∷ []) ≡ Some s) →
    cond t (Some x) (find p (xs ++ s ∷ [])) ≡ Some s
last-by p x xs s true e h = cc
last-by p x xs s false e h = h e

find-last : {X : Type 0} (p : X → Bool) (xs : List X) (s : X) → list_any p xs ≡ false → p s ≡ true → find p (xs ++ s ∷ []) ≡ Some s
find-last p [] s none e = rw e refl
find-last p (x ∷ xs) s none e = last-by p x xs s (p x) none (λ h. find-last p xs s h e)

-- a function over numbers in a row
range-same : {Y : Type 0} (f g : ℕ → Y) (a n : ℕ) → ((i : ℕ) → a ≤ i → f i ≡ g i) → map f (range_with_len a n) ≡ map g (range_with_len a n)
range-same f g a zero h = refl
range-same f g a (suc n) h =
    let first : f a ≡ g a = h a (omega arith) in
    rw (first, range-same f g (a + 1) n (λ i low. h i (omega arith))) refl

-- a function that is another at one of them
range-set : {Y : Type 0} (f g : ℕ → Y) (a n j : ℕ) → ((i : ℕ) → i ≢ a + j → g i ≡ f i) → j < n → map g (range_with_len a n) ≡ set (map f (range_with_len a n)) j (g (a + j))
range-set f g a zero j h inside = absurd (omega arith)
range-set f g a (suc n) zero h inside =
    let place : a + 0 ≡ a = omega arith in
    let rest : map g (range_with_len (a + 1) n) ≡ map f (range_with_len (a + 1) n) = range-same g f (a + 1) n (λ i low. h i (λ e. omega arith)) in
    rw (place, rest) refl
range-set f g a (suc n) (suc j) h inside =
    let place : a + suc j ≡ a + 1 + j = omega arith in
    let first : g a ≡ f a = h a (λ e. omega arith) in
    let rest : map g (range_with_len (a + 1) n) ≡ set (map f (range_with_len (a + 1) n)) j (g (a + 1 + j)) = range-set f g (a + 1) n j (λ i other. h i (λ e. other (omega arith))) (omega arith) in
    rw (place, first, rest) refl

range-get : (a n k : ℕ) → slice_get (range_with_len a n) k ≡ cond (ltb k n) (Some (a + k)) None
range-get a zero k = let t : ltb k 0 ≡ false = grind (arith, nat_tests) in rw t refl
range-get a (suc n) zero = let t : ltb 0 (suc n) ≡ true = grind (arith, nat_tests) in let e : a + 0 ≡ a = omega arith in rw (t, e) refl
range-get a (suc n) (suc k) =
    let t : ltb (suc k) (suc n) ≡ ltb k n = grind (arith, nat_tests) in
    let e : a + 1 + k ≡ a + suc k = omega arith in
    range-get (a + 1) n k ∙ rw (t, e) refl

-- a thing is free exactly where no symbol is its name
free-by : (symbols : List Symbol) (letter position : ℕ) (t : Bool) →
    unwrap_or (option_map is_none (option_map (name_of symbols letter) (cond t (Some position) None))) false ≡ (t && not (list_any (is_symbol_of letter position) symbols))
free-by symbols letter position true = none-map (λ (s : Symbol). s.name) (find (is_symbol_of letter position) symbols) ∙ find-none (is_symbol_of letter position) symbols
free-by symbols letter position false = refl

pub is_free-names : (symbols : List Symbol) (letter count position : ℕ) → is_free (names_of symbols letter count) position ≡ (ltb position count && not (list_any (is_symbol_of letter position) symbols))
is_free-names symbols letter count position =
    let e : 0 + position ≡ position = omega arith in
    ap (λ z. unwrap_or (option_map is_none z) false)
    (slice_get-map (name_of symbols letter) (range_with_len 0 count) position ∙ ap (option_map (name_of symbols letter)) (range-get 0 count position ∙ ap (λ z. cond (ltb position count) (Some z) None) e))
    ∙ free-by symbols letter position (ltb position count)

-- what a symbol is, by the names so far
pub symbol_in-free : (c : Counts) (symbols : List Symbol) (line : TextLine) (s : Symbol) (names : List (Option (List ℕ))) → symbol_of line.bytes ≡ Some s →
    names ≡ names_of symbols s.letter (count_named c s.letter) → symbol_in c symbols line ≡ checked (is_free names s.position) FaultKind.Symbol line.offset (Ok s)
unfolding symbol_in
symbol_in-free c symbols line s names found is =
    ap (symbol_checked c symbols line.offset) found
    ∙ ap (λ z. checked z FaultKind.Symbol line.offset (Ok s)) (sym (ap (λ z. is_free z s.position) is ∙ is_free-names symbols s.letter (count_named c s.letter) s.position))

-- the names of another kind stay
pub names_of-other : (symbols : List Symbol) (s : Symbol) (letter count : ℕ) → ((i : ℕ) → is_symbol_of letter i s ≡ false) → names_of (symbols ++ s ∷ []) letter count ≡ names_of symbols letter count
names_of-other symbols s letter count other =
    range-same (name_of (symbols ++ s ∷ []) letter) (name_of symbols letter) 0 count (λ i low. ap (option_map (λ (x : Symbol). x.name)) (find-other (is_symbol_of letter i) symbols s (other i)))

-- and the thing has the name
pub names_of-set : (symbols : List Symbol) (s : Symbol) (count : ℕ) (names : List (Option (List ℕ))) → names ≡ names_of symbols s.letter count → is_free names s.position ≡ true →
    names_of (symbols ++ s ∷ []) s.letter count ≡ set names s.position (Some s.name)
names_of-set symbols s count names is free =
    let tests = and_parts (ltb s.position count) (not (list_any (is_symbol_of s.letter s.position) symbols)) (sym (ap (λ z. is_free z s.position) is ∙ is_free-names symbols s.letter count s.position) ∙ free) in
    let inside : s.position < count = grind (arith, nat_tests, tests.0) in
    let own : is_symbol_of s.letter s.position s ≡ true = grind (arith, nat_tests) in
    let f = name_of symbols s.letter in
    let g = name_of (symbols ++ s ∷ []) s.letter in
    let named : g (0 + s.position) ≡ Some s.name =
    ap g (omega arith) ∙ ap (option_map (λ (x : Symbol). x.name)) (find-last (is_symbol_of s.letter s.position) symbols s (not-true _ tests.1) own) in
    let apart = λ (i : ℕ) (h : i ≢ 0 + s.position). ap (option_map (λ (x : Symbol). x.name)) (find-other (is_symbol_of s.letter i) symbols s (grind (arith, nat_tests, h))) in
    range-set f g 0 count s.position apart inside ∙ ap (set (names_of symbols s.letter count) s.position) named ∙ ap (λ z. set z s.position (Some s.name)) (sym is)

range-none : (letter a n : ℕ) → replicate n None ≡ map (name_of [] letter) (range_with_len a n)
range-none letter a zero = refl
range-none letter a (suc n) = ap (λ z. None ∷ z) (range-none letter (a + 1) n)

-- before the first symbol
pub names_of-none : (letter count : ℕ) → replicate count None ≡ names_of [] letter count
names_of-none letter count = range-none letter 0 count

-- the one fault of a test, whatever is read after it
checked-fault : {X Y : Type 0} (b : Bool) (place : ℕ) (x : X) (y : Y) (f : Fault) → checked b FaultKind.Symbol place (Ok x) ≡ Err f → checked b FaultKind.Symbol place (Ok y) ≡ Err f
checked-fault true place x y f e = cc
checked-fault false place x y f e = cc

checked-ok : {X : Type 0} (b : Bool) (place : ℕ) (x y : X) → checked b FaultKind.Symbol place (Ok x) ≡ Ok y → b ≡ true
checked-ok true place x y e = refl
checked-ok false place x y e = cc

-- an error of a call that tests b, where the symbol stands or falls with b
pub symbol-fault : (H : Counts → List Symbol → Type 0) (line : TextLine) (s : Symbol) (b : Bool) (r : Result (Unit {0}) AigerError) →
    IsReadAs (λ x. x) r (checked b FaultKind.Symbol line.offset (Ok tt)) → ((c : Counts) (symbols : List Symbol) → H c symbols → symbol_in c symbols line ≡ checked b FaultKind.Symbol line.offset (Ok s)) →
    IfErr r (λ e. (c : Counts) (symbols : List Symbol) → H c symbols → IsFaultOf e (symbol_in c symbols line))
symbol-fault H line s b (Ok x) given is = tt
symbol-fault H line s b (Err e) given is = λ c symbols h.
    FailsBy-through (fault_of e) (checked b FaultKind.Symbol line.offset (Ok tt)) (symbol_in c symbols line) (λ f w. is c symbols h ∙ checked-fault b line.offset tt s f w) given

-- and what such a call leaves
pub symbol-named : (H N : Counts → List Symbol → Type 0) (line : TextLine) (s : Symbol) (b : Bool) (P : Type 0) (r : Result (Unit {0}) AigerError) →
    IsReadAs (λ x. x) r (checked b FaultKind.Symbol line.offset (Ok tt)) → OnOk r P →
    ((c : Counts) (symbols : List Symbol) → H c symbols → symbol_in c symbols line ≡ checked b FaultKind.Symbol line.offset (Ok s)) →
    ((c : Counts) (symbols : List Symbol) → H c symbols → b ≡ true → P → N c (symbols ++ s ∷ [])) →
    OnOk r ((c : Counts) (symbols : List Symbol) → H c symbols → (s : Symbol) × (symbol_in c symbols line ≡ Ok s) × N c (symbols ++ s ∷ []))
symbol-named H N line s b P (Ok x) given left is then = λ c symbols h.
    let free : b ≡ true = checked-ok b line.offset tt x given in
    (s, is c symbols h ∙ ap (λ z. checked z FaultKind.Symbol line.offset (Ok s)) free, then c symbols h free left)
symbol-named H N line s b P (Err e) given left is then = tt

-- a symbol of no kind, and a line that is no symbol
no-kind-by : (c : Counts) (letter : ℕ) → eqb letter 105 ≡ false → eqb letter 108 ≡ false → eqb letter 111 ≡ false → eqb letter 98 ≡ false → count_named c letter ≡ 0
no-kind-by c letter i l o b = rw (i, l, o, b) refl

pub symbol_in-kindless : (c : Counts) (symbols : List Symbol) (line : TextLine) (s : Symbol) → symbol_of line.bytes ≡ Some s →
    s.letter ≢ 105 → s.letter ≢ 108 → s.letter ≢ 111 → s.letter ≢ 98 → symbol_in c symbols line ≡ Err (record { kind = FaultKind.Symbol; offset = line.offset })
unfolding symbol_in
symbol_in-kindless c symbols line s found i l o b =
    let none : count_named c s.letter ≡ 0 = no-kind-by c s.letter (ne_eqb s.letter 105 i) (ne_eqb s.letter 108 l) (ne_eqb s.letter 111 o) (ne_eqb s.letter 98 b) in
    let test : ltb s.position 0 ≡ false = grind (arith, nat_tests) in
    ap (symbol_checked c symbols line.offset) found ∙ rw (none, test) refl

pub symbol_in-none : (c : Counts) (symbols : List Symbol) (line : TextLine) → symbol_of line.bytes ≡ None → symbol_in c symbols line ≡ Err (record { kind = FaultKind.Symbol; offset = line.offset })
unfolding symbol_in
symbol_in-none c symbols line e = ap (symbol_checked c symbols line.offset) e

separator-none : (b : Bool) (x : List ℕ) (k : Option Symbol) → cond b (Some x) None ≡ None → cond b k None ≡ None
separator-none true x k e = cc
separator-none false x k e = refl

separator-some : (b : Bool) (x behind : List ℕ) (k : Option Symbol) → cond b (Some x) None ≡ Some behind → cond b k None ≡ k
separator-some true x behind k e = refl
separator-some false x behind k e = cc

-- a line without a space is no symbol
pub symbol_of-unspaced : (line bytes : List ℕ) (letter : ℕ) → line ≡ letter ∷ bytes → behind_first 32 bytes ≡ None → symbol_of line ≡ None
symbol_of-unspaced line bytes letter e none =
    let k : Option Symbol = option_map (λ position. record { letter = letter; position = position; name = after_first is_space bytes }) (number_in (before_first is_space bytes)) in
    ap symbol_of e
    ∙ ap (λ z. cond z k None) (list_any-inside 32 bytes)
    ∙ separator-none (ltb (position_or_len is_space bytes) (length bytes)) (after_first is_space bytes) k none

-- and one with a space is, where a number stands before the space
pub symbol_of-spaced : (line bytes behind : List ℕ) (letter position : ℕ) → line ≡ letter ∷ bytes → behind_first 32 bytes ≡ Some behind → number_in (before_first is_space bytes) ≡ Some position →
    Some (record { letter = letter; position = position; name = behind }) ≡ symbol_of line
symbol_of-spaced line bytes behind letter position e some number =
    let k : Option Symbol = option_map (λ position. record { letter = letter; position = position; name = after_first is_space bytes }) (number_in (before_first is_space bytes)) in
    let name : after_first is_space bytes ≡ behind = (cond_some (ltb (position_or_len is_space bytes) (length bytes)) (after_first is_space bytes) behind some).1 in
    sym (ap symbol_of e
    ∙ ap (λ z. cond z k None) (list_any-inside 32 bytes)
    ∙ separator-some (ltb (position_or_len is_space bytes) (length bytes)) (after_first is_space bytes) behind k some
    ∙ ap (option_map (λ position. record { letter = letter; position = position; name = after_first is_space bytes })) number
    ∙ ap (λ z. Some (record { letter = letter; position = position; name = z })) name)

-- one symbol more, and no more
symbol_count-more : (line : TextLine) (lines : List TextLine) → is_before_comments line ≡ true → symbol_count (line ∷ lines) ≡ suc (symbol_count lines)
symbol_count-more line lines e =
    let n : ℕ = prefix_len is_before_comments lines in
    let more : 1 + n ≡ suc n = omega arith in
    rw (e, more) refl

pub symbol_count-line : (end : ℕ) (bytes line behind : List ℕ) → IsFirstLine bytes line behind → length bytes ≤ end → eqb (get_or line 0 0) 99 ≡ false →
    symbol_count (lines_at end bytes) ≡ suc (symbol_count (lines_at end behind))
symbol_count-line end bytes line behind first within e =
    ap symbol_count (first.lines end within) ∙ symbol_count-more (record { offset = end - length bytes; bytes = line }) (lines_at end behind) (ap not e)
