-- Room for one literal more on a trail.
use Rattle.std.proofs.Common.{◌≡◌, ℕ, ◌+◌, ◌<◌, ◌≤◌, Bool, true, false, cond, List, [], ◌∷◌, ◌++◌, length, All, arith}
use Rattle.std.proofs.lemmas.List.{length_push}
use Rattle.craig_watch.specs.declared.trail_entry.TrailEntry.{TrailEntry}
use Rattle.craig_watch.specs.Trail.{Trail, AreDistinct}
use Rattle.craig_watch.proofs.TrailLemmas.{length-le_from_known}

-- there is room for one literal more
pub room-push : (t : Trail) (e : TrailEntry) (vars : ℕ) → All (λ f. f.literal.var < vars) (t ++ e ∷ []) → AreDistinct (t ++ e ∷ []) → length t < vars
room-push t e vars known apart =
    let long : length (t ++ e ∷ []) ≡ length t + 1 = length_push t e in
    let few : length (t ++ e ∷ []) ≤ vars = length-le_from_known (t ++ e ∷ []) vars known apart in
    omega arith

-- a push that succeeded
pub pushed_items : {X : Type 0} (b : Bool) (xs ys zs : List X) → b ≡ true → zs ≡ cond b xs ys → zs ≡ xs
pushed_items true xs ys zs is h = h
pushed_items false xs ys zs is h = absurd (let no : false ≡ true = is in cc)
