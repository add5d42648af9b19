-- What the variables of a circuit have, one after another.
use Rattle.std.proofs.Common.{◌≡◌, ℕ, ◌+◌, ◌<◌, Bool, false, ◌*◌, ◌/◌, ◌%◌, suc, List, [], ◌∷◌, ◌++◌, length, get_or, take, drop, slice_get, Some, sym, ap, refl, ◌∙◌, arith, length-append}
use Rattle.std.specs.List.{fold}
use Rattle.std.proofs.Math.Seq.{drop-cons}
use Rattle.std.proofs.lemmas.List.{get_or_append_left, get_or_at, take-append-drop}
use Rattle.std.proofs.lemmas.List.Sums.{fold-append}
use Rattle.std.proofs.lemmas.Option.{get_or_from_slice_get, slice_get_within}
use Rattle.craig_spec.specs.Circuit.{Gate, each_variable, literal_value_in}

-- one gate more
abbrev step : {T : Type 0} → (List T → Gate → T) → List T → Gate → List T
step f before g = before ++ f before g ∷ []

length-steps : {T : Type 0} (f : List T → Gate → T) (before : List T) (gates : List Gate) → length (fold (step f) before gates) ≡ length before + length gates
length-steps f before [] = omega arith
length-steps f before (g ∷ gates) =
    let rest : length (fold (step f) (step f before g) gates) ≡ length (step f before g) + length gates = length-steps f (step f before g) gates in
    let one : length (step f before g) ≡ length before + length (f before g ∷ []) = length-append before (f before g ∷ []) in
    omega (arith, rest, one)

get_or-steps : {T : Type 0} (f : List T → Gate → T) (before : List T) (gates : List Gate) (i : ℕ) (d : T) → i < length before → get_or (fold (step f) before gates) i d ≡ get_or before i d
get_or-steps f before [] i d h = refl
get_or-steps f before (g ∷ gates) i d h =
    let one : length (step f before g) ≡ length before + length (f before g ∷ []) = length-append before (f before g ∷ []) in
    get_or-steps f (step f before g) gates i d (omega arith) ∙ get_or_append_left before (f before g ∷ []) d i h

-- what the constant and the inputs have
pub get_or-first : {T : Type 0} (f : List T → Gate → T) (first : List T) (gates : List Gate) (i : ℕ) (d : T) → i < length first → get_or (each_variable f first gates) i d ≡ get_or first i d
unfolding each_variable
get_or-first f first gates i d h = get_or-steps f first gates i d h

-- what the variables before a gate have
pub get_or-before : {T : Type 0} (f : List T → Gate → T) (first : List T) (front : List Gate) (g : Gate) (back : List Gate) (i : ℕ) (d : T) → i < length first + length front → get_or (each_variable f first (front ++ g ∷ back)) i d ≡ get_or (each_variable f first front) i d
unfolding each_variable
get_or-before f first front g back i d h =
    let within : i < length (fold (step f) first front) = omega (arith, length-steps f first front) in
    rw (fold-append (step f) first front (g ∷ back)) (get_or-steps f (fold (step f) first front) (g ∷ back) i d within)

-- what a gate has
pub get_or-gate : {T : Type 0} (f : List T → Gate → T) (first : List T) (front : List Gate) (g : Gate) (back : List Gate) (i : ℕ) (d : T) → i ≡ length first + length front → get_or (each_variable f first (front ++ g ∷ back)) i d ≡ f (each_variable f first front) g
unfolding each_variable
get_or-gate f first front g back i d is =
    let l : length (fold (step f) first front) ≡ i = length-steps f first front ∙ sym is in
    let one : length (step f (fold (step f) first front) g) ≡ length (fold (step f) first front) + length (f (fold (step f) first front) g ∷ []) = length-append (fold (step f) first front) (f (fold (step f) first front) g ∷ []) in
    rw (fold-append (step f) first front (g ∷ back)) (get_or-steps f (step f (fold (step f) first front) g) back i d (omega (arith, l, one)) ∙ get_or_at (fold (step f) first front) (f (fold (step f) first front) g) [] d i l)

-- the gates before the one at a place and behind it
pub gates-around : (gates : List Gate) (j : ℕ) (g : Gate) → slice_get gates j ≡ Some g → gates ≡ take j gates ++ g ∷ drop (suc j) gates
gates-around gates j g is =
    sym (take-append-drop j gates) ∙ ap (λ z. take j gates ++ z) (drop-cons gates j g (slice_get_within gates j g is)) ∙ ap (λ h. take j gates ++ h ∷ drop (suc j) gates) (get_or_from_slice_get gates j g g is)

-- a literal that is of an even number has its variable's value
pub even_value : (values : List Bool) (v : ℕ) → literal_value_in values (2 * v) ≡ get_or values v false
even_value values v =
    let even : (2 * v) % 2 ≡ 0 = omega arith in
    let half : (2 * v) / 2 ≡ v = omega arith in
    rw (even, half) refl
