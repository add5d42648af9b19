-- Groups of seven bits that are written or counted one after another.
use Rattle.std.proofs.Common.{◌≡◌, ℕ, zero, suc, ◌+◌, ◌*◌, ◌/◌, ◌%◌, ◌^◌, ◌<◌, ◌≤◌, Bool, true, false, nat_lt, [], ◌∷◌, ◌++◌, length, append_assoc, vec_len, vec_capacity, refl, sym, ap, ◌∙◌, arith}
use Rattle.std.proofs.lemmas.Bool.Decides.{nat_tests}
use Rattle.std.specs.declared.vec.Vec.{Vec}
use Rattle.craig_aiger.specs.Appending.{HasRoom, IsAppended}
use Rattle.craig_spec.specs.SevenBits.{groups_in, groups_of}

-- what is below it fits in so many groups more than one
abbrev pub bound : ℕ → ℕ
bound zero = 128
bound (suc more) = 128 * bound more

-- a number of one group
pub one_group : (more n : ℕ) → n < 128 → n < bound more → groups_in more n ≡ n ∷ []
one_group zero n h fits = let e : n % 128 ≡ n = omega arith in rw e refl
one_group (suc more) n h fits = let e : nat_lt n 128 ≡ true = grind (arith, nat_tests, h) in rw e refl

-- the first group of a longer number, and the rest of it
pub record FirstGroup (more n : ℕ) : Type 0 where
  pub fewer : ℕ
  pub less : more ≡ suc fewer
  pub fits : n / 128 < bound fewer
  pub groups : groups_in more n ≡ (128 + n % 128) ∷ groups_in fewer (n / 128)

-- a number of more groups has a first one
pub first_group : (more n : ℕ) → 128 ≤ n → n < bound more → FirstGroup more n
first_group zero n h fits = absurd (omega arith)
first_group (suc more) n h fits = record {
  fewer = more;
  less = refl;
  fits = omega arith;
  groups = let e : nat_lt n 128 ≡ false = grind (arith, nat_tests, h) in rw e refl;
}

-- there is a group
pub some_group : (more n : ℕ) → 1 ≤ length (groups_in more n)
some_group zero n = omega arith
some_group (suc more) n = by_test (nat_lt n 128) refl where
  by_test : (t : Bool) → nat_lt n 128 ≡ t → 1 ≤ length (groups_in (suc more) n)
  by_test true e = rw e (omega arith)
  by_test false e = rw e (omega arith)

-- the groups of a number but for those of a rest are written
pub record GroupsLeft {Z : Type 0} (start out : Vec ℕ Z) (number rest : ℕ) : Type 0 where
  pub more : ℕ
  pub fits : rest < bound more
  pub written : out.items ++ groups_in more rest ≡ start.items ++ groups_of number
  pub longer : vec_len out + length (groups_in more rest) ≡ vec_len start + length (groups_of number)
  pub capacity : vec_capacity start ≤ vec_capacity out

-- at first all are left
pub GroupsLeft-all : {Z : Type 0} (start : Vec ℕ Z) (number : ℕ) → number < 2 ^ 63 → GroupsLeft start start number number
unfolding groups_of
GroupsLeft-all start number small = record {
  more = 8;
  fits = omega arith;
  written = refl;
  longer = refl;
  capacity = omega arith;
}

module _ {Z : Type 0} (start out new : Vec ℕ Z) (number rest byte : ℕ) (before : GroupsLeft start out number rest) (items : new.items ≡ out.items ++ byte ∷ []) (len : vec_len new ≡ vec_len out + 1) (capacity : vec_capacity new ≡ vec_capacity out) where
  -- one group more
  pub GroupsLeft-more : 128 ≤ rest → byte ≡ 128 + rest % 128 → GroupsLeft start new number (rest / 128)
  GroupsLeft-more long is =
      let f = first_group before.more rest long before.fits in record {
        more = f.fewer;
        fits = f.fits;
        written = ap (λ l. l ++ groups_in f.fewer (rest / 128)) items ∙ append_assoc out.items (byte ∷ []) (groups_in f.fewer (rest / 128))
            ∙ ap (λ b. out.items ++ b ∷ groups_in f.fewer (rest / 128)) is ∙ ap (λ l. out.items ++ l) (sym f.groups) ∙ before.written;
        longer = omega (arith, len, before.longer, ap length f.groups);
        capacity = omega (arith, capacity, before.capacity);
      }

  -- the last group
  pub IsAppended-groups : rest < 128 → byte ≡ rest → IsAppended start (groups_of number) new
  IsAppended-groups short is =
      let g : groups_in before.more rest ≡ rest ∷ [] = one_group before.more rest short before.fits in record {
        items_are = items ∙ ap (λ b. out.items ++ b ∷ []) is ∙ ap (λ l. out.items ++ l) (sym g) ∙ before.written;
        longer = omega (arith, len, before.longer, ap length g);
        capacity = omega (arith, capacity, before.capacity);
      }

-- there is room for one group more
pub GroupsLeft-room : {Z : Type 0} (start out : Vec ℕ Z) (number rest : ℕ) → GroupsLeft start out number rest → HasRoom start (length (groups_of number)) → vec_len out < vec_capacity out
GroupsLeft-room start out number rest before room = omega (arith, room, before.longer, before.capacity, some_group before.more rest)

-- the groups of a number but for those of a rest are counted, and one of the rest
pub record GroupsCounted (number rest size : ℕ) : Type 0 where
  pub more : ℕ
  pub fits : rest < bound more
  pub counted : size + length (groups_in more rest) ≡ 1 + length (groups_of number)
  pub few : size + more ≡ 9

-- at first none is counted
pub GroupsCounted-none : (number : ℕ) → number < 2 ^ 63 → GroupsCounted number number 1
unfolding groups_of
GroupsCounted-none number small = record {
  more = 8;
  fits = omega arith;
  counted = refl;
  few = refl;
}

-- one group more
pub GroupsCounted-more : (number rest size : ℕ) → GroupsCounted number rest size → 128 ≤ rest → GroupsCounted number (rest / 128) (size + 1)
GroupsCounted-more number rest size before long =
    let f = first_group before.more rest long before.fits in record {
      more = f.fewer;
      fits = f.fits;
      counted = omega (arith, before.counted, ap length f.groups);
      few = omega (arith, before.few, f.less);
    }

-- the last group
pub GroupsCounted-all : (number rest size : ℕ) → GroupsCounted number rest size → rest < 128 → size ≡ length (groups_of number)
GroupsCounted-all number rest size before short = omega (arith, before.counted, ap length (one_group before.more rest short before.fits))
