-- Tests of all members of a list, and lists that are mapped alike.
use Rattle.std.proofs.Common.{◌≡◌, List, [], ◌∷◌, map, Contains, refl, ap, ◌∙◌}
use Rattle.craig_spec.proofs.MemberLemmas.{Contains-front, Contains-later}

-- two maps that agree on the members give the same list
pub map-alike : {A B : Type 0} (f g : A → B) (xs : List A) → ((x : A) → Contains xs x → f x ≡ g x) → map f xs ≡ map g xs
map-alike f g [] h = refl
map-alike f g (x ∷ xs) h =
    ap (λ y. y ∷ map f xs) (h x (Contains-front x xs)) ∙ ap (λ ys. g x ∷ ys) (map-alike f g xs (λ y here. h y (Contains-later x xs y here)))
