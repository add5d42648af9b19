-- The sides of clauses with their parts.
use Rattle.std.specs.Prelude.{◌≡◌, ℕ, ◌≤◌, ◌&&◌, ◌||◌, true, List, [], ◌∷◌, ◌++◌, Contains, map, nat_eq, Option, Some, if◌then◌else◌}
use Rattle.craig_spec.specs.Literal.{Clause}
use Rattle.craig_spec.specs.Cut.{PartClause, PartLiteral, is_on_side_a, is_on_side_b, side_a, side_b}
use Rattle.craig_spec.specs.Occurs.{occurs, occurs_in_clause}
use Rattle.craig_base.specs.declared.script_part.Part.{Part}
use Rattle.craig_itp.specs.Interpolants.{Spans}
use Rattle.craig_search.specs.Verdict.{Assumptions}
use Rattle.craig_base.specs.declared.variable.Var.{Var}
use Rattle.craig_label.specs.Sides.{IsRange, IsSides, Range, SidesView, occurs_in_a, occurs_in_b, range_of}

-- the dense clauses, each with the number of its part
abbrev pub parted : List (Part × Clause) → List PartClause
parted accepted = map (λ a. record { part = a.0.0; clause = a.1 }) accepted

-- the dense assumptions, each with the number of its part
abbrev pub parted_literals : Assumptions → List PartLiteral
parted_literals assumptions = map (λ a. record { part = a.0.0; literal = a.1 }) assumptions

-- the clauses, and then the unit clause of each assumption with its part
abbrev pub with_assumed : List (Part × Clause) → Assumptions → List (Part × Clause)
with_assumed accepted assumptions = accepted ++ map (λ a. (a.0, a.1 ∷ [])) assumptions

-- the clauses are of the parts, and at each cut a variable is on the sides whose clauses have it
pub record AreSidesOf (clauses : List PartClause) (sides : SidesView) : Type 0 where
  -- the ranges are within the parts
  pub is_sides : IsSides sides
  -- each clause is of part 0 or of a later part
  pub parts : (c : PartClause) → Contains clauses c → c.part ≤ sides.parts
  -- each variable of a clause was noted in its part, or in parts before and after it
  pub spanned : (c : PartClause) (x : ℕ) → Contains clauses c → occurs_in_clause x c.clause ≡ true → Spans sides x c.part
  -- side A, as far as clauses of part 0 and of parts up to the cut go
  pub in_a : (cut x : ℕ) → occurs_in_a sides cut x ≡ occurs x (side_a clauses cut)
  -- side B, as far as clauses of part 0 and of later parts go
  pub in_b : (cut x : ℕ) → occurs_in_b sides cut x ≡ occurs x (side_b clauses cut)

-- the variables of the clause were noted in the part, and all else is as it was
pub record NotesClause (old : SidesView) (c : Clause) (part : ℕ) (new : SidesView) : Type 0 where
  -- the number of parts is as before
  pub parts : new.parts ≡ old.parts
  -- the variables of the clause are noted in its part
  pub spanned : (x : ℕ) → occurs_in_clause x c ≡ true → Spans new x part
  -- and what was noted stays
  pub kept : (x other : ℕ) → Spans old x other → Spans new x other
  -- on side A come the variables of the clause, where its part is 0 or up to the cut
  pub in_a : (cut x : ℕ) → occurs_in_a new cut x ≡ (occurs_in_a old cut x || is_on_side_a cut part && occurs_in_clause x c)
  -- on side B come the variables of the clause, where its part is 0 or after the cut
  pub in_b : (cut x : ℕ) → occurs_in_b new cut x ≡ (occurs_in_b old cut x || is_on_side_b cut part && occurs_in_clause x c)

-- sides of any clauses are now those of the clauses and of the units of the assumptions
abbrev pub NotesAssumptions : Assumptions → (old new : SidesView) → Type 0
NotesAssumptions assumptions old new = (clauses : List (Part × Clause)) → AreSidesOf (parted clauses) old → AreSidesOf (parted (with_assumed clauses assumptions)) new

-- the range that the variable has when ranges are put back, the last one first: the first one of the variable, or else the one that it has
abbrev pub range_put_back : List (Var × Option Range) → SidesView → ℕ → Option Range
range_put_back [] sides x = range_of sides x
range_put_back (b ∷ before) sides x = if nat_eq x b.0.0 then b.1 else range_put_back before sides x

-- when the ranges are put back, the sides are as they were before
pub record PutsBack (before : List (Var × Option Range)) (now past : SidesView) : Type 0 where
  -- the number of parts is as it was
  pub parts : now.parts ≡ past.parts
  -- each variable has the range that it had
  pub ranges : (x : ℕ) → range_put_back before now x ≡ range_of past x

-- the ranges are of parts up to this one
abbrev pub AreRanges : ℕ → List (Var × Option Range) → Type 0
AreRanges parts before = (b : Var × Option Range) (r : Range) → Contains before b → b.1 ≡ Some r → IsRange parts r
