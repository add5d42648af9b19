-- Laws of the list of the variables, which begins with the constant's.
use Rattle.std.proofs.Common.{◌≡◌, ℕ, ◌+◌, false, cond, eqb, List, [], ◌∷◌, ◌++◌, drop, length, map, refl, sym, ◌∙◌, ap}
use Rattle.std.proofs.lemmas.List.{append_assoc, map_push}
use Rattle.std.specs.List.{list_any}
use Rattle.craig_spec.specs.AigerBinary.{binary_latch_in, binary_latch_of}
use Rattle.craig_spec.specs.AigerReading.{Counts, GateLine, LatchLine, RootLine, gate_in, gate_of, input_in, input_of, latch_in, latch_of, numbers_in, root_in, root_of}

-- a new variable goes last
pub insert-new : (keys : List ℕ) (v : ℕ) → list_any (eqb v) keys ≡ false → cond (list_any (eqb v) keys) keys (keys ++ v ∷ []) ≡ keys ++ v ∷ []
insert-new keys v e = rw e refl

-- so that the constant's stays in front
pub constant-first : (old new : List ℕ) (v : ℕ) → old ≡ 0 ∷ drop 1 old → new ≡ old ++ v ∷ [] → (new ≡ 0 ∷ drop 1 new) × (drop 1 new ≡ drop 1 old ++ v ∷ [])
constant-first old new v front more =
    let e : new ≡ 0 ∷ (drop 1 old ++ v ∷ []) = more ∙ ap (λ z. z ++ v ∷ []) front in
    let d : drop 1 new ≡ drop 1 old ++ v ∷ [] = ap (drop 1) e in
    (e ∙ ap (λ z. 0 ∷ z) (sym d), d)

-- what an input line is depends on the whole list
pub input_in-variables : (c : Counts) (variables bytes : List ℕ) (offset : ℕ) → variables ≡ 0 ∷ drop 1 variables →
    input_in c (drop 1 variables) (record { offset = offset; bytes = bytes }) ≡ input_of c variables offset (numbers_in bytes)
unfolding input_in
input_in-variables c variables bytes offset e = ap (λ z. input_of c z offset (numbers_in bytes)) (sym e)

-- the variables that lines define go behind those that were known
pub known-more : {L : Type 0} (variable : L → ℕ) (known keys new : List ℕ) (before : List L) (a : L) → keys ≡ known ++ map variable before → new ≡ keys ++ variable a ∷ [] →
    new ≡ known ++ map variable (before ++ a ∷ [])
known-more variable known keys new before a is more =
    more ∙ ap (λ z. z ++ variable a ∷ []) is ∙ append_assoc known (map variable before) (variable a ∷ []) ∙ ap (λ z. known ++ z) (sym (map_push variable before a))

pub latch_in-variables : (c : Counts) (known variables bytes : List ℕ) (before : List LatchLine) (offset : ℕ) → variables ≡ known ++ map (λ (l : LatchLine). l.variable) before →
    latch_in c known before (record { offset = offset; bytes = bytes }) ≡ latch_of c variables offset (numbers_in bytes)
unfolding latch_in
latch_in-variables c known variables bytes before offset e = ap (λ z. latch_of c z offset (numbers_in bytes)) (sym e)

pub gate_in-variables : (c : Counts) (known variables bytes : List ℕ) (before : List GateLine) (offset : ℕ) → variables ≡ known ++ map (λ (g : GateLine). g.variable) before →
    gate_in c known before (record { offset = offset; bytes = bytes }) ≡ gate_of c variables offset (numbers_in bytes)
unfolding gate_in
gate_in-variables c known variables bytes before offset e = ap (λ z. gate_of c z offset (numbers_in bytes)) (sym e)

pub root_in-is : (c : Counts) (before : List RootLine) (bytes : List ℕ) (offset : ℕ) → root_in c before (record { offset = offset; bytes = bytes }) ≡ root_of c offset (numbers_in bytes)
unfolding root_in
root_in-is c before bytes offset = refl

-- the latch that a line of a binary text is
pub binary_latch_in-variable : (c : Counts) (before : List LatchLine) (offset variable : ℕ) (bytes : List ℕ) → variable ≡ 1 + c.inputs + length before →
    binary_latch_in c before (record { offset = offset; bytes = bytes }) ≡ binary_latch_of c variable offset (numbers_in bytes)
unfolding binary_latch_in
binary_latch_in-variable c before offset variable bytes is = ap (λ z. binary_latch_of c z offset (numbers_in bytes)) (sym is)
