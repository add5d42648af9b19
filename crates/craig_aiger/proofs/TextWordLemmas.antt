-- Lines of numbers, and lines of a text, that are read as they were written.
use Rattle.std.proofs.Common.{◌≡◌, ℕ, ◌+◌, ◌^◌, ◌<◌, ◌≤◌, true, false, eqb, List, [], ◌∷◌, ◌++◌, length, get_or, drop, map, Some, nat_le, refl, sym, ap, ◌∙◌, append_assoc, arith}
use Rattle.std.specs.Fmt.{decimal}
use Rattle.std.specs.List.{list_any, slice_split, position_or_len, before_first, after_first}
use Rattle.std.proofs.lemmas.Bool.Decides.{nat_tests}
use Rattle.std.proofs.lemmas.Fmt.{first_decimal}
use Rattle.std.proofs.lemmas.List.{length_push, take_at, drop_at}
use Rattle.craig_spec.proofs.TextWordLemmas.{Lacks, ended, head_false, lacks-decimal, number_in-decimal, split_first, split_last, tail_false}
use Rattle.craig_spec.specs.AigerReading.{TextLine, numbers_in, words_of, without_empty_end, placed, lines_of, variable_in}

-- what stands before the first byte of a kind, and after it
place_of : (b : ℕ) (xs ys : List ℕ) → Lacks b xs → eqb b b ≡ true → position_or_len (λ c. eqb c b) (xs ++ b ∷ ys) ≡ length xs
place_of b [] ys e same = rw same refl
place_of b (x ∷ xs) ys e same =
    let here : eqb x b ≡ false = head_false (eqb x b) (list_any (λ c. eqb c b) xs) e in
    rw here (omega (arith, place_of b xs ys (tail_false (eqb x b) (list_any (λ c. eqb c b) xs) e) same))

pub before_byte : (b : ℕ) (xs ys : List ℕ) → Lacks b xs → eqb b b ≡ true → before_first (λ c. eqb c b) (xs ++ b ∷ ys) ≡ xs
before_byte b xs ys e same = rw (place_of b xs ys e same) (take_at xs (b ∷ ys) (length xs) refl)

pub after_byte : (b : ℕ) (xs ys : List ℕ) → Lacks b xs → eqb b b ≡ true → after_first (λ c. eqb c b) (xs ++ b ∷ ys) ≡ ys
after_byte b xs ys e same =
    let whole : xs ++ b ∷ ys ≡ (xs ++ b ∷ []) ++ ys = sym (append_assoc xs (b ∷ []) ys) in
    rw (place_of b xs ys e same) (ap (drop (length xs + 1)) whole ∙ drop_at (xs ++ b ∷ []) ys (length xs + 1) (length_push xs b))

-- the line of one number
pub one_number : (n : ℕ) → n < 10 ^ 18 → numbers_in (decimal n) ≡ Some (n ∷ [])
one_number n h =
    let w : words_of (decimal n) ≡ decimal n ∷ [] = split_last 32 (decimal n) (lacks-decimal 32 n refl (omega arith)) in
    rw (w, number_in-decimal n h) refl

-- the line of three numbers
pub three_numbers : (a b c : ℕ) → a < 10 ^ 18 → b < 10 ^ 18 → c < 10 ^ 18 → numbers_in (decimal a ++ 32 ∷ (decimal b ++ 32 ∷ decimal c)) ≡ Some (a ∷ (b ∷ (c ∷ [])))
three_numbers a b c ha hb hc =
    let w : words_of (decimal a ++ 32 ∷ (decimal b ++ 32 ∷ decimal c)) ≡ decimal a ∷ (decimal b ∷ (decimal c ∷ [])) =
    split_first 32 (decimal a) (decimal b ++ 32 ∷ decimal c) (lacks-decimal 32 a refl (omega arith)) refl
    ∙ ap (λ ws. decimal a ∷ ws) (split_first 32 (decimal b) (decimal c) (lacks-decimal 32 b refl (omega arith)) refl
    ∙ ap (λ ws. decimal b ∷ ws) (split_last 32 (decimal c) (lacks-decimal 32 c refl (omega arith)))) in
    rw (w, number_in-decimal a ha, number_in-decimal b hb, number_in-decimal c hc) refl

-- the five numbers of a header without latches
pub five_numbers : (m i o a : ℕ) → m < 10 ^ 18 → i < 10 ^ 18 → o < 10 ^ 18 → a < 10 ^ 18 → numbers_in (decimal m ++ 32 ∷ (decimal i ++ 32 ∷ (48 ∷ (32 ∷ (decimal o ++ 32 ∷ decimal a))))) ≡ Some (m ∷ (i ∷ (0 ∷ (o ∷ (a ∷ [])))))
five_numbers m i o a hm hi ho ha =
    let last : words_of (decimal o ++ 32 ∷ decimal a) ≡ decimal o ∷ (decimal a ∷ []) =
    split_first 32 (decimal o) (decimal a) (lacks-decimal 32 o refl (omega arith)) refl ∙ ap (λ ws. decimal o ∷ ws) (split_last 32 (decimal a) (lacks-decimal 32 a refl (omega arith))) in
    let w : words_of (decimal m ++ 32 ∷ (decimal i ++ 32 ∷ (48 ∷ (32 ∷ (decimal o ++ 32 ∷ decimal a))))) ≡ decimal m ∷ (decimal i ∷ ((48 ∷ []) ∷ (decimal o ∷ (decimal a ∷ [])))) =
    split_first 32 (decimal m) (decimal i ++ 32 ∷ (48 ∷ (32 ∷ (decimal o ++ 32 ∷ decimal a)))) (lacks-decimal 32 m refl (omega arith)) refl
    ∙ ap (λ ws. decimal m ∷ ws) (split_first 32 (decimal i) (48 ∷ (32 ∷ (decimal o ++ 32 ∷ decimal a))) (lacks-decimal 32 i refl (omega arith)) refl
    ∙ ap (λ ws. decimal i ∷ ws) (split_first 32 (48 ∷ []) (decimal o ++ 32 ∷ decimal a) refl refl ∙ ap (λ ws. (48 ∷ []) ∷ ws) last)) in
    rw (w, number_in-decimal m hm, number_in-decimal i hi, number_in-decimal o ho, number_in-decimal a ha) refl

-- a script variable is read back from its name
pub variable_in-decimal : (x : ℕ) → 1 ≤ x → x ≤ 2147483647 → variable_in (decimal x) ≡ Some x
variable_in-decimal x low high =
    let first : 48 < get_or (decimal x) 0 0 = first_decimal x (omega arith) (omega arith) in
    let l : nat_le 1 x ≡ true = grind (arith, nat_tests, low) in
    let h : nat_le x 2147483647 ≡ true = grind (arith, nat_tests, high) in
    let f : eqb (get_or (decimal x) 0 0) 48 ≡ false = grind (arith, nat_tests, first) in
    rw (number_in-decimal x (omega arith), l, h, f) refl

-- a line has a byte, and no end within
pub record IsLine (bytes : List ℕ) : Type 0 where
  pub some : 1 ≤ length bytes
  pub one : Lacks 10 bytes

-- each is a line
abbrev pub AreLines : List (List ℕ) → Type 0
AreLines [] = Unit {0}
AreLines (b ∷ bs) = IsLine b × AreLines bs

pub AreLines-append : (ls bs : List (List ℕ)) → AreLines ls → AreLines bs → AreLines (ls ++ bs)
AreLines-append [] bs p q = q
AreLines-append (a ∷ ls) bs p q = (p.0, AreLines-append ls bs p.1 q)

pub without_end-cons : (b : List ℕ) (ps : List (List ℕ)) → 1 ≤ length b → without_empty_end (b ∷ ps) ≡ b ∷ without_empty_end ps
without_end-cons [] ps h = absurd (omega arith)
without_end-cons (c ∷ b) ps h = refl

pub pieces-ended : (bs : List (List ℕ)) → AreLines bs → without_empty_end (slice_split (λ c. eqb c 10) (ended bs)) ≡ bs
pieces-ended [] h = refl
pieces-ended (b ∷ bs) h = ap without_empty_end (split_first 10 b (ended bs) h.0.one refl) ∙ without_end-cons b (slice_split (λ c. eqb c 10) (ended bs)) h.0.some ∙ ap (λ l. b ∷ l) (pieces-ended bs h.1)

pub bytes-placed : (place : ℕ) (bs : List (List ℕ)) → map (λ (l : TextLine). l.bytes) (placed place bs) ≡ bs
bytes-placed place [] = refl
bytes-placed place (b ∷ bs) = ap (λ l. b ∷ l) (bytes-placed (place + length b + 1) bs)

-- the lines of a text of lines
pub bytes-lines_of : (bs : List (List ℕ)) → AreLines bs → map (λ (l : TextLine). l.bytes) (lines_of (ended bs)) ≡ bs
bytes-lines_of bs h = ap (λ ps. map (λ (l : TextLine). l.bytes) (placed 0 ps)) (pieces-ended bs h) ∙ bytes-placed 0 bs
