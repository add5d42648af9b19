-- Trails: the literals that are assigned, in the order in which they were assigned.
use Rattle.std.specs.Prelude.{◌≡◌, ◌≢◌, ℕ, suc, ◌<◌, false, not, map, filter, AllPairs, List, [], ◌∷◌, Option, Some, None, IsSome, is_none, nat_eq, nat_le, length, take, count_by, slice_index_or, if◌then◌else◌}
use Rattle.std.specs.Option.{option_map_or}
use Rattle.craig_spec.specs.Literal.{Literal}
use Rattle.craig_spec.specs.Truth.{Assignment}
use Rattle.craig_base.specs.declared.clause_id.ClauseId.{ClauseId}
use Rattle.craig_watch.specs.declared.trail_entry.TrailEntry.{TrailEntry}
use Rattle.craig_watch.specs.declared.value.Value.{Value}
use Rattle.craig_watch.specs.declared.value.Value.TheVariants.{True, False, Free}

-- the literals that are true, each with its decision level and the clause that forced it, if any
abbrev pub Trail : Type 0
Trail = List TrailEntry

-- an entry to name where a place has none
abbrev pub any_entry : TrailEntry
any_entry = record { literal = record { var = 0; negated = false }; level = 0; reason = None }

-- the entry that assigns the variable
abbrev pub entry_of : Trail → ℕ → Option TrailEntry
entry_of [] v = None
entry_of (e ∷ t) v = if nat_eq e.literal.var v then Some e else entry_of t v

-- the variable is assigned
abbrev pub IsAssigned : Trail → ℕ → Type 0
IsAssigned t v = IsSome (entry_of t v)

-- the value of a literal of the same variable as the one that is true
abbrev pub value_beside : Literal → Literal → Value
value_beside assigned l =
    if assigned.negated then (if l.negated then True else False) else (if l.negated then False else True)

-- the value of a literal under the trail
abbrev pub value_under : Trail → Literal → Value
value_under t l = option_map_or (λ e. value_beside e.literal l) (entry_of t l.var) Free

-- the literal is false under the trail
abbrev pub IsFalse : Trail → Literal → Type 0
IsFalse t l = value_under t l ≡ False

-- the part of the trail before the first literal of a level above this one
abbrev pub part_up_to : ℕ → Trail → Trail
part_up_to level [] = []
part_up_to level (e ∷ t) = if nat_le e.level level then e ∷ part_up_to level t else []

-- how many decisions stand on the trail
abbrev pub decisions : Trail → ℕ
decisions t = count_by (λ e. is_none e.reason) t

-- the level of each literal is the number of decisions up to it
abbrev pub AreLevels : Trail → Type 0
AreLevels t = (k : ℕ) (d : TrailEntry) → k < length t → (slice_index_or t k d).level ≡ decisions (take (suc k) t)

-- no variable is assigned twice
abbrev pub AreDistinct : Trail → Type 0
AreDistinct t = AllPairs (λ e f. e.literal.var ≢ f.literal.var) t

-- the level at which the literal's variable was assigned, 0 where it is free
abbrev pub level_at : Trail → Literal → ℕ
level_at t l = option_map_or (λ e. e.level) (entry_of t l.var) 0

-- the variables that the trail makes true
abbrev pub assignment_of : Trail → Assignment
assignment_of t = map (λ e. e.literal.var) (filter (λ e. not e.literal.negated) t)

-- the entry, with the clause of the id as its reason where it is that of the variable
abbrev pub rested : ℕ → ClauseId → TrailEntry → TrailEntry
rested v id e = record e { reason = if nat_eq e.literal.var v then Some id else e.reason }

-- the trail, with the clause of the id as the reason of the variable
abbrev pub with_reason : ℕ → ClauseId → Trail → Trail
with_reason v id t = map (rested v id) t
