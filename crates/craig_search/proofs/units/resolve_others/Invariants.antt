use Rattle.std.proofs.Common.{◌∷◌, drop}
use Rattle.craig_spec.specs.Chain.{ChainOk}
use Rattle.craig_base.specs.Arena.{literals_at}
use Rattle.craig_proof.specs.Tracer.{chain_of}
use Rattle.craig_watch.specs.Held.{held_clause}
use Rattle.craig_search.proofs.units.resolve_others.Given as goal

-- the literals so far are resolved away
abbrev pub invariant-loop-other : goal.invariant-loop-other
invariant-loop-other l = ChainOk (held_clause l.held.arena) (l.lit ∷ drop l.other-index (literals_at l.held.arena l.fn.first.0)) l.fn.first.0 (chain_of l.rest)
