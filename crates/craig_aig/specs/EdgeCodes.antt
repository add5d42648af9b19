-- Packing an edge again after unpacking it gives the same code.
use Rattle.std.specs.Prelude.{◌≡◌, ℕ}
use Rattle.std.proofs.Common.{arith}
use Rattle.std.proofs.lemmas.Grind.{common_steps}
use Rattle.craig_aig.specs.Edges.{edge_code, edge_of_code}

-- a code is that of its edge
pub edge_code-edge_of_code : (n : ℕ) → edge_code (edge_of_code n) ≡ n
edge_code-edge_of_code n = grind (arith, common_steps)
