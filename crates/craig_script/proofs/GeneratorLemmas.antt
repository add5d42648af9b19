-- The rows of the generator's script, appended one after the other.
use Rattle.std.proofs.Common.{◌≡◌, ◌∙◌, sym, ap, refl, ℕ, zero, suc, ◌+◌, ◌-◌, ◌<◌, ◌≤◌, Bool, true, List, [], ◌∷◌, ◌++◌, map, take, OnOk, Result, Ok, Err, ◌^◌, ℤ, pos, append_assoc, append-nil, arith}
use mir.Syntax.{w64}
use mir.Val.{SFits, of_z, to_z}
use Rattle.std.proofs.lemmas.Int.{ints, to_z-of_z}
use Rattle.std.proofs.lemmas.Grind.{flat_map-append}
use Rattle.std.proofs.lemmas.List.{map-append, map_push}
use Rattle.std.proofs.lemmas.List.Elements.{filter-append}
use Rattle.std.specs.Bool.{if◌then◌else◌}
use Rattle.std.specs.List.{filter, flat_map, range_with_len}
use Rattle.craig_script.specs.declared.command.Command.{Command}
use Rattle.craig_script.specs.declared.command.Command.TheVariants.{Add}
use Rattle.craig_script.specs.Generator.{end_bound, end_clause, falling_bits, has_bit, in_part, inner_bit, start_clause, step_commands}

-- ---- rows for the numbers of a range

pub range_more : (a n j : ℕ) → a + n ≡ j → range_with_len a (suc n) ≡ range_with_len a n ++ j ∷ []
range_more a zero j e = ap (λ x. x ∷ []) (let same : a ≡ j = omega (arith, e) in same)
range_more a (suc n) j e = ap (λ xs. a ∷ xs) (range_more (a + 1) n j (omega (arith, e)))

-- the row of one number more
rows_more : {X : Type 0} (rows : List ℕ → List X) (row : ℕ → List X) → ((xs : List ℕ) (j : ℕ) → rows (xs ++ j ∷ []) ≡ rows xs ++ row j)
    → (begun old new : List X) (a n j m : ℕ) → a + n ≡ j → m ≡ n + 1 → old ≡ begun ++ rows (range_with_len a n) → new ≡ old ++ row j → new ≡ begun ++ rows (range_with_len a m)
rows_more rows row one begun old new a n j m at next was more =
    let next : m ≡ suc n = omega (arith, next) in
    more ∙ ap (λ z. z ++ row j) was ∙ append_assoc begun (rows (range_with_len a n)) (row j)
    ∙ ap (λ z. begun ++ z) (sym (one (range_with_len a n) j) ∙ ap rows (sym (range_more a n j at)) ∙ ap (λ k. rows (range_with_len a k)) (sym next))

pub flat_map_push : {X : Type 0} (f : ℕ → List X) (xs : List ℕ) (j : ℕ) → flat_map f (xs ++ j ∷ []) ≡ flat_map f xs ++ f j
flat_map_push f xs j = flat_map-append f xs (j ∷ []) ∙ ap (λ z. flat_map f xs ++ z) (append-nil (f j))

-- the clause of a bit more at the start
pub start_more : (begun old new : List Command) (j : ℕ) → old ≡ begun ++ in_part 1 (map start_clause (range_with_len 0 j)) → new ≡ old ++ Add 1 (start_clause j) ∷ [] → new ≡ begun ++ in_part 1 (map start_clause (range_with_len 0 (j + 1)))
start_more begun old new j was more =
    rows_more (λ xs. in_part 1 (map start_clause xs)) (λ k. Add 1 (start_clause k) ∷ [])
    (λ xs k. ap (in_part 1) (map_push start_clause xs k) ∙ map_push (λ lits. Add 1 lits) (map start_clause xs) (start_clause k)) begun old new 0 j j (j + 1) (omega arith) refl was more

-- the clauses of a step more
pub steps_more : (begun old new : List Command) (j : ℕ) → old ≡ begun ++ flat_map step_commands (range_with_len 0 j) → new ≡ old ++ step_commands j → new ≡ begun ++ flat_map step_commands (range_with_len 0 (j + 1))
steps_more begun old new j was more = rows_more (flat_map step_commands) step_commands (flat_map_push step_commands) begun old new 0 j j (j + 1) (omega arith) refl was more

in_part-append : (part : ℕ) (xs ys : List (List ℤ)) → in_part part (xs ++ ys) ≡ in_part part xs ++ in_part part ys
in_part-append part xs ys = map-append (λ lits. Add part lits) xs ys

-- two rows of clauses of a part
pub two_rows : (part : ℕ) (xs ys : List (List ℤ)) (begun first last : List Command) → first ≡ begun ++ in_part part xs → last ≡ first ++ in_part part ys → last ≡ begun ++ in_part part (xs ++ ys)
two_rows part xs ys begun first last a b =
    b ∙ ap (λ z. z ++ in_part part ys) a ∙ append_assoc begun (in_part part xs) (in_part part ys) ∙ ap (λ z. begun ++ z) (sym (in_part-append part xs ys))

pub four_rows : {T E : Type 0} (r : Result T E) (part : ℕ) (ws xs ys zs : List (List ℤ)) (begun first second third last : List Command) → first ≡ begun ++ in_part part ws → second ≡ first ++ in_part part xs → third ≡ second ++ in_part part ys → OnOk r (last ≡ third ++ in_part part zs)
    → OnOk r (last ≡ begun ++ in_part part (ws ++ (xs ++ (ys ++ zs))))
four_rows (Err e) part ws xs ys zs begun first second third last a b d f = tt
four_rows (Ok x) part ws xs ys zs begun first second third last a b d f =
    two_rows part ws (xs ++ (ys ++ zs)) begun first last a (two_rows part xs (ys ++ zs) first second last b (two_rows part ys zs second third last d f))

-- the clauses of an inner bit more
pub inner_more : (part before : ℕ) (begun old new : List Command) (j : ℕ) → 1 ≤ j → old ≡ begun ++ in_part part (flat_map (inner_bit before) (range_with_len 1 (j - 1))) → new ≡ old ++ in_part part (inner_bit before j) → new ≡ begun ++ in_part part (flat_map (inner_bit before) (range_with_len 1 (j + 1 - 1)))
inner_more part before begun old new j some was more =
    rows_more (λ xs. in_part part (flat_map (inner_bit before) xs)) (λ k. in_part part (inner_bit before k))
    (λ xs k. ap (in_part part) (flat_map_push (inner_bit before) xs k) ∙ in_part-append part (flat_map (inner_bit before) xs) (inner_bit before k)) begun old new 1 (j - 1) j (j + 1 - 1) (omega arith) (omega arith) was more

pub inner_all : (part before : ℕ) (begun script : List Command) (j : ℕ) → j ≡ 6 → script ≡ begun ++ in_part part (flat_map (inner_bit before) (range_with_len 1 (j - 1))) → script ≡ begun ++ in_part part (flat_map (inner_bit before) (range_with_len 1 5))
inner_all part before begun script j last e = e ∙ ap (λ k. begun ++ in_part part (flat_map (inner_bit before) (range_with_len 1 (k - 1)))) last

-- ---- the end

filter_push : (p : ℕ → Bool) (xs : List ℕ) (j : ℕ) (b : Bool) → p j ≡ b → filter p (xs ++ j ∷ []) ≡ filter p xs ++ (if b then j ∷ [] else [])
filter_push p xs j b e = filter-append p xs (j ∷ []) ∙ ap (λ (t : Bool). filter p xs ++ (if t then j ∷ [] else [])) e

-- a bit more, or none, among the bits above another
pub above_more : (f : ℕ → ℤ) (p : ℕ → Bool) (bit above : ℕ) (b : Bool) (old new : List ℤ) → bit + 1 ≤ above → p above ≡ b → old ≡ map f (bit ∷ filter p (range_with_len (bit + 1) (above - (bit + 1)))) → new ≡ old ++ map f (if b then above ∷ [] else [])
    → new ≡ map f (bit ∷ filter p (range_with_len (bit + 1) (above + 1 - (bit + 1))))
above_more f p bit above b old new higher is was more =
    let n = above - (bit + 1) in
    let next : above + 1 - (bit + 1) ≡ suc n = omega (arith, higher) in
    let all : filter p (range_with_len (bit + 1) (above + 1 - (bit + 1))) ≡ filter p (range_with_len (bit + 1) n) ++ (if b then above ∷ [] else []) =
    ap (λ k. filter p (range_with_len (bit + 1) k)) next ∙ ap (filter p) (range_more (bit + 1) n above (omega (arith, higher))) ∙ filter_push p (range_with_len (bit + 1) n) above b is in
    more ∙ ap (λ z. z ++ map f (if b then above ∷ [] else [])) was ∙ sym (map-append f (bit ∷ filter p (range_with_len (bit + 1) n)) (if b then above ∷ [] else []))
    ∙ ap (λ z. map f (bit ∷ z)) (sym all)

-- a number that is stored in 64 bits with its sign
pub stored : (z : ℤ) (n : ℕ) → z ≡ pos n → n < 2 ^ 63 → to_z w64 (of_z w64 z) ≡ pos n
stored z n e h = let fits : SFits w64 (pos n) = omega (arith, ints) in ap (λ y. to_z w64 (of_z w64 y)) e ∙ to_z-of_z w64 (pos n) fits

falling_more : (bit : ℕ) → bit ≤ 6 → take (7 - bit) falling_bits ≡ take (7 - (bit + 1)) falling_bits ++ bit ∷ []
falling_more zero h = refl
falling_more (suc zero) h = refl
falling_more (suc (suc zero)) h = refl
falling_more (suc (suc (suc zero))) h = refl
falling_more (suc (suc (suc (suc zero)))) h = refl
falling_more (suc (suc (suc (suc (suc zero))))) h = refl
falling_more (suc (suc (suc (suc (suc (suc zero)))))) h = refl
falling_more (suc (suc (suc (suc (suc (suc (suc n))))))) h = absurd (omega (arith, h))

-- the clauses of the bits from the highest on to this one
abbrev pub end_from : ℕ → ℕ → List Command
end_from steps bit = in_part (steps + 1) (map (end_clause steps) (filter (has_bit (end_bound steps)) (take (7 - bit) falling_bits)))

-- the clause of a bit more, or none, at the end
pub end_more : (steps bit above : ℕ) (begun old new : List Command) → bit ≤ 6 → above ≡ bit + 1 → old ≡ begun ++ end_from steps above → new ≡ old ++ in_part (steps + 1) (map (end_clause steps) (filter (has_bit (end_bound steps)) (bit ∷ [])))
    → new ≡ begun ++ end_from steps bit
end_more steps bit above begun old new within next was more =
    let before = filter (has_bit (end_bound steps)) (take (7 - above) falling_bits) in
    let one = filter (has_bit (end_bound steps)) (bit ∷ []) in
    let all : filter (has_bit (end_bound steps)) (take (7 - bit) falling_bits) ≡ before ++ one =
    ap (filter (has_bit (end_bound steps))) (falling_more bit within ∙ ap (λ k. take (7 - k) falling_bits ++ bit ∷ []) (sym next)) ∙ filter-append (has_bit (end_bound steps)) (take (7 - above) falling_bits) (bit ∷ []) in
    two_rows (steps + 1) (map (end_clause steps) before) (map (end_clause steps) one) begun old new was more
    ∙ ap (λ z. begun ++ in_part (steps + 1) z) (sym (map-append (end_clause steps) before one) ∙ ap (map (end_clause steps)) (sym all))

-- a bit that the bound has has a clause
pub some_end_bit : {T E : Type 0} (r : Result T E) (steps bit : ℕ) (old new : List Command) (lits : List ℤ) → has_bit (end_bound steps) bit ≡ true → lits ≡ end_clause steps bit → OnOk r (new ≡ old ++ Add (steps + 1) lits ∷ [])
    → OnOk r (new ≡ old ++ in_part (steps + 1) (map (end_clause steps) (filter (has_bit (end_bound steps)) (bit ∷ []))))
some_end_bit (Err x) steps bit old new lits has is e = tt
some_end_bit (Ok x) steps bit old new lits has is e =
    e ∙ ap (λ (zs : List ℤ). old ++ Add (steps + 1) zs ∷ []) is ∙ ap (λ (t : Bool). old ++ in_part (steps + 1) (map (end_clause steps) (if t then bit ∷ [] else []))) (sym has)
