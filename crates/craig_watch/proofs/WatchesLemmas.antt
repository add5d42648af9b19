-- Lists of watches that change.
use Rattle.std.proofs.Common.{◌≡◌, List, [], ◌∷◌, ◌++◌, ℕ, suc, zero, get_or, refl}
use Rattle.craig_watch.specs.Watches.{WatchListView, no_watches}

-- an empty list more is as none
pub get_or-empty : (lists : List WatchListView) (k : ℕ) → get_or (lists ++ no_watches ∷ []) k no_watches ≡ get_or lists k no_watches
get_or-empty [] zero = refl
get_or-empty [] (suc k) = refl
get_or-empty (w ∷ lists) zero = refl
get_or-empty (w ∷ lists) (suc k) = get_or-empty lists k
