-- What is computed from the front stays when nodes are added behind.
use Rattle.std.proofs.Common.{◌≡◌, ℕ, ◌+◌, ◌<◌, ◌≤◌, List, refl, [], ◌∷◌, ◌++◌, length, get_or, take, drop, sym, ap, ◌∙◌, arith, length-append}
use Rattle.std.specs.List.{fold}
use Rattle.std.proofs.lemmas.List.{get_or_append_left, get_or_at, take-append-drop, take_more, length-take-le}
use Rattle.std.proofs.lemmas.List.Sums.{fold-append, fold_push}
use Rattle.craig_aig.specs.FromFront.{from_front}
use Rattle.craig_aig.specs.declared.node.Node.{Node}

-- one node more
abbrev step : {T : Type 0} → (List T → Node → T) → List T → Node → List T
step f before node = before ++ f before node ∷ []

length-steps : {T : Type 0} (f : List T → Node → T) (before : List T) (nodes : List Node) → length (fold (step f) before nodes) ≡ length before + length nodes
length-steps f before [] = omega arith
length-steps {T} f before (n ∷ nodes) =
    let rest : length (fold (step f) (step f before n) nodes) ≡ length (step f before n) + length nodes = length-steps f (step f before n) nodes in
    let one : length (step f before n) ≡ length before + length (f before n ∷ []) = length-append before (f before n ∷ []) in
    omega (arith, rest, one)

get_or-steps : {T : Type 0} (f : List T → Node → T) (before : List T) (nodes : List Node) (i : ℕ) (d : T) → i < length before → get_or (fold (step f) before nodes) i d ≡ get_or before i d
get_or-steps f before [] i d h = refl
get_or-steps f before (n ∷ nodes) i d h =
    let one : length (step f before n) ≡ length before + length (f before n ∷ []) = length-append before (f before n ∷ []) in
    get_or-steps f (step f before n) nodes i d (omega arith) ∙ get_or_append_left before (f before n ∷ []) d i h

-- each node has something
pub length-from_front : {T : Type 0} (f : List T → Node → T) (nodes : List Node) → length (from_front f nodes) ≡ length nodes
unfolding from_front
length-from_front f nodes = omega (arith, length-steps f [] nodes)

-- what the nodes in front have doesn't depend on those behind
pub get_or-from_front_append : {T : Type 0} (f : List T → Node → T) (nodes added : List Node) (i : ℕ) (d : T) → i < length nodes → get_or (from_front f (nodes ++ added)) i d ≡ get_or (from_front f nodes) i d
unfolding from_front
get_or-from_front_append f nodes added i d h =
    let within : i < length (fold (step f) [] nodes) = omega (arith, length-steps f [] nodes) in
    rw (fold-append (step f) [] nodes added) (get_or-steps f (fold (step f) [] nodes) added i d within)

-- one node more
pub from_front-push : {T : Type 0} (f : List T → Node → T) (nodes : List Node) (n : Node) → from_front f (nodes ++ n ∷ []) ≡ from_front f nodes ++ f (from_front f nodes) n ∷ []
unfolding from_front
from_front-push f nodes n = fold_push (step f) [] nodes n

-- what the front part of a list has
pub get_or-from_front_take : {T : Type 0} (f : List T → Node → T) (nodes : List Node) (n i : ℕ) (d : T) → i < n → n ≤ length nodes → get_or (from_front f (take n nodes)) i d ≡ get_or (from_front f nodes) i d
get_or-from_front_take f nodes n i d h within =
    let front : i < length (take n nodes) = omega (arith, length-take-le n nodes within) in
    sym (get_or-from_front_append f (take n nodes) (drop n nodes) i d front) ∙ ap (λ l. get_or (from_front f l) i d) (take-append-drop n nodes)

-- what a node has, from the nodes before it
pub get_or-from_front : {T : Type 0} (f : List T → Node → T) (nodes : List Node) (i : ℕ) (d : T) (n : Node) → i < length nodes → get_or (from_front f nodes) i d ≡ f (from_front f (take i nodes)) (get_or nodes i n)
get_or-from_front f nodes i d n h =
    let front : List Node = take i nodes in
    let here : Node = get_or nodes i n in
    let e : get_or (from_front f (take (i + 1) nodes)) i d ≡ get_or (from_front f nodes) i d = get_or-from_front_take f nodes (i + 1) i d (omega arith) (omega arith) in
    let p : from_front f (take (i + 1) nodes) ≡ from_front f front ++ f (from_front f front) here ∷ [] = ap (from_front f) (take_more nodes i n h) ∙ from_front-push f front here in
    let l : length (from_front f front) ≡ i = length-from_front f front ∙ length-take-le i nodes (omega arith) in
    sym e ∙ ap (λ l. get_or l i d) p ∙ get_or_at (from_front f front) (f (from_front f front) here) [] d i l
