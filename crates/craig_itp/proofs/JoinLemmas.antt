-- What the value of a resolvent gives under a higher label of the pivot.
use Rattle.std.proofs.Common.{◌≡◌, Bool, true, false, not, ◌&&◌, ◌||◌, leb, refl}
use Rattle.std.proofs.lemmas.Bool.{or_left, or_right, and_from, and_parts}
use Rattle.craig_spec.specs.PartialInterpolant.{Label, A, AB, B, is_a, is_b, rank, join_value}

either_by : (a b c d : Bool) → (a ≡ true → c ≡ true) → (b ≡ true → d ≡ true) → (a || b) ≡ true → (c || d) ≡ true
either_by true b c d first second h = or_left c d (first refl)
either_by false b c d first second h = or_right c d (second h)

both_by : (a b c d : Bool) → (a ≡ true → c ≡ true) → (b ≡ true → d ≡ true) → (a && b) ≡ true → (c && d) ≡ true
both_by a b c d first second h = let p = and_parts a b h in and_from c d (first p.0) (second p.1)

and_true : (a : Bool) → (a && true) ≡ true → a ≡ true
and_true a h = (and_parts a true h).0

-- the two values of a parent are of the lower and of the higher labelling; where no label crosses nothing is asked of the pivot
pub join-implied : (low high : Label) (pivot left right left_high right_high : Bool) → leb (rank low) (rank high) ≡ true → (((not (is_a low) && not (is_b high)) ≡ true → pivot ≡ false) → left ≡ true → left_high ≡ true) → (((not (is_a low) && not (is_b high)) ≡ true → not pivot ≡ false) → right ≡ true → right_high ≡ true) → join_value low pivot left right ≡ true → join_value high pivot left_high right_high ≡ true
join-implied B B pivot left right p q up first second h = both_by left right p q (first (λ e. absurd (cc))) (second (λ e. absurd (cc))) h
join-implied B AB true left right p q up first second h = second (λ e. refl) (and_parts left right h).1
join-implied B AB false left right p q up first second h = and_from p true (first (λ e. refl) (and_parts left right h).0) refl
join-implied B A true left right p q up first second h = or_right p q (second (λ e. refl) (and_parts left right h).1)
join-implied B A false left right p q up first second h = or_left p q (first (λ e. refl) (and_parts left right h).0)
join-implied AB B pivot left right p q up first second h = absurd (let no : false ≡ true = up in cc)
join-implied AB AB true left right p q up first second h = second (λ e. refl) h
join-implied AB AB false left right p q up first second h = and_from p true (first (λ e. refl) (and_true left h)) refl
join-implied AB A true left right p q up first second h = or_right p q (second (λ e. refl) h)
join-implied AB A false left right p q up first second h = or_left p q (first (λ e. refl) (and_true left h))
join-implied A B pivot left right p q up first second h = absurd (let no : false ≡ true = up in cc)
join-implied A AB pivot left right p q up first second h = absurd (let no : false ≡ true = up in cc)
join-implied A A pivot left right p q up first second h = either_by left right p q (first (λ e. absurd (cc))) (second (λ e. absurd (cc))) h
