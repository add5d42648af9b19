-- What a circuit is seen as.
use Rattle.std.specs.Prelude.{ℕ, List, [], ◌∷◌, map, Option}
use Rattle.craig_spec.specs.AigerReading.{AigerFile, FileLatch, FileRoot}
use Rattle.craig_aiger_read.specs.declared.circuit.Circuit.{Circuit}
use Rattle.craig_aiger_read.specs.declared.latch.Latch.{Latch}
use Rattle.craig_aiger_read.specs.declared.latch_line.LatchLine.{LatchLine}
use Rattle.craig_aiger_read.specs.declared.root.Root.{Root}
use Rattle.craig_aiger_read.specs.ReadViews.{as_operands, as_reset}

-- a latch with its name
abbrev pub file_latch : Latch → FileLatch
file_latch l = record { next = l.next; reset = as_reset l.reset; name = l.name }

-- an output or a bad literal with its name
abbrev pub file_root : Root → FileRoot
file_root r = record { literal = r.literal; name = r.name }

-- the circuit as a file has it
abbrev pub as_file : Circuit → AigerFile
as_file c = record {
  inputs = c.inputs;
  latches = map file_latch c.latches;
  outputs = map file_root c.outputs;
  bads = map file_root c.bads;
  gates = map as_operands c.gates;
}

-- literals with names beside them
abbrev pub roots_with : (ℕ → ℕ) → List ℕ → List (Option (List ℕ)) → List FileRoot
roots_with f [] names = []
roots_with f (l ∷ ls) [] = []
roots_with f (l ∷ ls) (name ∷ names) = record { literal = f l; name = name } ∷ roots_with f ls names

-- lines of latches with next literals and names beside them
abbrev pub latches_with : (ℕ → ℕ) → List LatchLine → List ℕ → List (Option (List ℕ)) → List FileLatch
latches_with f [] nexts names = []
latches_with f (l ∷ ls) [] names = []
latches_with f (l ∷ ls) (n ∷ ns) [] = []
latches_with f (l ∷ ls) (n ∷ ns) (name ∷ names) = record { next = f n; reset = as_reset l.reset; name = name } ∷ latches_with f ls ns names
