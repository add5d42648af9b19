-- Gates with their depths.
use Rattle.std.specs.Prelude.{ℕ, Bool, ◌==◌, List, slice_index_or, Option, None}
use Rattle.std.specs.Option.{unwrap_or}
use Rattle.craig_aiger_read.specs.declared.order.Ranked.{Ranked}

-- the gate at the place, with its depth
abbrev pub ranks : List (Option ℕ) → ℕ → Ranked
ranks depths j = record { depth = unwrap_or (slice_index_or depths j None) 0; gate = j }

-- whether the gate has the depth
abbrev pub has_depth : ℕ → Ranked → Bool
has_depth n r = r.depth == n
