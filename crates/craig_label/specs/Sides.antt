-- In which parts variables occur, and on which side of a cut. Part 0 is common: a variable that it has is on both sides of
-- every cut.
use Rattle.std.specs.Prelude.{◌≡◌, ℕ, ◌≤◌, Bool, false, ◌||◌, List, nat_eq, nat_le, nat_lt, min, max, Option, Some, None, slice_index_or, if◌then◌else◌}
use Rattle.craig_label.specs.declared.side.Side.{Side}
use Rattle.craig_label.specs.declared.side.Side.TheVariants.{ALocal, Shared, BLocal, Absent}

-- the first and the last part that a variable was noted in
pub record Range : Type 0 where
  -- the first part, which is 0 where the variable is common
  pub first : ℕ
  -- the last part
  pub last : ℕ

-- the parts that variables were noted in
pub record SidesView : Type 0 where
  -- the number of parts
  pub parts : ℕ
  -- the range of each variable, if it has one; variables past the end have none
  pub ranges : List (Option Range)

-- the range of a variable
abbrev pub range_of : SidesView → ℕ → Option Range
range_of sides x = slice_index_or sides.ranges x None

-- a range is of parts from 0 to the last one
pub record IsRange (parts : ℕ) (r : Range) : Type 0 where
  -- the first part isn't after the last one
  pub ordered : r.first ≤ r.last
  -- and that is one of the parts
  pub last : r.last ≤ parts

-- what holds of all that was noted
pub record IsSides (sides : SidesView) : Type 0 where
  -- there is a part
  pub parts : 1 ≤ sides.parts
  -- each range is one of the parts
  pub ranges : (x : ℕ) (r : Range) → range_of sides x ≡ Some r → IsRange sides.parts r

-- the range with one part more
abbrev pub widened : Option Range → ℕ → Range
widened None part = record { first = part; last = part }
widened (Some r) part = record { first = min r.first part; last = max r.last part }

-- the variable was noted in the part, and all else is as it was
pub record IsNoted (old : SidesView) (x part : ℕ) (new : SidesView) : Type 0 where
  -- the number of parts stays
  pub parts : new.parts ≡ old.parts
  -- the range of the variable is widened, and the others stay
  pub ranges : (y : ℕ) → range_of new y ≡ (if nat_eq y x then Some (widened (range_of old x) part) else range_of old y)

-- the variable has this range, or none, and all else is as it was
pub record HasRange (old : SidesView) (x : ℕ) (range : Option Range) (new : SidesView) : Type 0 where
  -- the number of parts stays
  pub parts : new.parts ≡ old.parts
  -- the range of the variable is this one, and the others stay
  pub ranges : (y : ℕ) → range_of new y ≡ (if nat_eq y x then range else range_of old y)

-- part 0 or one up to the cut has a variable of the range
abbrev pub is_in_a : ℕ → Option Range → Bool
is_in_a cut None = false
is_in_a cut (Some r) = nat_le r.first cut

-- part 0 or one after the cut has a variable of the range
abbrev pub is_in_b : ℕ → Option Range → Bool
is_in_b cut None = false
is_in_b cut (Some r) = nat_eq r.first 0 || nat_lt cut r.last

-- the variable occurs on side A of the cut
abbrev pub occurs_in_a : SidesView → ℕ → ℕ → Bool
occurs_in_a sides cut x = is_in_a cut (range_of sides x)

-- the variable occurs on side B of the cut
abbrev pub occurs_in_b : SidesView → ℕ → ℕ → Bool
occurs_in_b sides cut x = is_in_b cut (range_of sides x)

-- where a variable occurs
abbrev pub side_of : Bool → Bool → Side
side_of in_a in_b = if in_a then (if in_b then Shared else ALocal) else (if in_b then BLocal else Absent)

-- where a variable occurs at a cut
abbrev pub side_at : SidesView → ℕ → ℕ → Side
side_at sides cut x = side_of (occurs_in_a sides cut x) (occurs_in_b sides cut x)
