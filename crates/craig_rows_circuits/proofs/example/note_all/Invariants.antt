use Rattle.std.proofs.Common.{◌≡◌, ℕ, IsTrue, take}
use Rattle.craig_spec.specs.Occurs.{occurs_in_clause}
use Rattle.craig_itp.specs.Interpolants.{Spans}
use Rattle.craig_rows_circuits.proofs.example.note_all.Given as goal

abbrev pub invariant-loop-lit : goal.invariant-loop-lit
invariant-loop-lit l = record {
  noted : (x : ℕ) → IsTrue (occurs_in_clause x (take l.lit-index l.lits)) → Spans l.sides x l.part.0;
  kept : (x other : ℕ) → Spans l.fn.sides x other → Spans l.sides x other;
  parts : l.sides.parts ≡ l.fn.sides.parts;
}
