-- What is shown of clauses under a trail, whether or not memory was refused.
use Rattle.std.proofs.Common.{Bool, true, refl}
use Rattle.craig_watch.specs.declared.watched.Watched.{Watched}
use Rattle.craig_watch.specs.Trail.{decisions}
use Rattle.craig_watch.specs.Held.{HeldView, IsConsistent, IsLengthened, IsRefused}
use Rattle.craig_watch.specs.WatchedState.{IsSound, shown}
use Rattle.craig_watch.proofs.HeldLemmas.{IsConsistent-same}

-- what is shown
abbrev pub held_view : Watched → Bool → HeldView
held_view s dead = record { arena = s.arena; vars = s.assigned.vars; trail = s.assigned.trail; level = decisions s.assigned.trail; dead = dead }

pub consistent-shown : (s : Watched) (dead : Bool) → IsSound s → IsConsistent (held_view s dead)
consistent-shown s dead ok = IsConsistent-same (shown s) s.arena dead ok.consistent ok.consistent.arena (λ k. refl)

pub lengthened-shown : (s new : Watched) (dead : Bool) → IsLengthened (shown s) (shown new) → IsLengthened (held_view s dead) (held_view new dead)
lengthened-shown s new dead h = record { clauses = h.clauses; vars = h.vars; present = h.present; dead = refl; added = h.added; trail = h.trail; level = h.level; reason = h.reason }

pub refused-shown : (s new : Watched) (dead : Bool) → IsLengthened (shown s) (shown new) → IsRefused (held_view s dead) (held_view new true)
refused-shown s new dead h = record { clauses = h.clauses; vars = h.vars; dead = refl }
