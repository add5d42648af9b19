-- Laws of the file that is written so.
use Rattle.std.proofs.Common.{◌≡◌, ℕ, ◌+◌, ◌-◌, ◌/◌, ◌<◌, ◌≤◌, List, [], ◌∷◌, ◌++◌, suc, length, map, get_or, All, Option, Some, None, Result, Ok, Err, refl, sym, ◌∙◌, ap, subst, arith}
use Rattle.std.proofs.lemmas.List.{get_or-map, length-append, length-map}
use Rattle.std.proofs.lemmas.List.FromFn.{length-map-range_with_len}
use Rattle.std.specs.Prelude.{find}
use Rattle.std.specs.List.{range_with_len}
use Rattle.std.specs.Option.{option_map}
use Rattle.craig_spec.specs.Circuit as circuit
use Rattle.craig_spec.specs.AigerFault.{Fault, FaultKind}
use Rattle.craig_spec.specs.AigerReading.{AigerFile, FileLatch, FileRoot, GateLine, Symbol, Use, Written, by_depth, fault, file_by, file_written, first_cyclic, first_gate, first_undefined, gate_use, latch_use, leaves_of, moved, moved_gate, moved_gates, name_of, named_latches, named_roots, numbered, numbered_gates, root_use, unless_found, uses_of, uses_other, variables_of}
use Rattle.craig_spec.specs.AigerReading as read
use Rattle.craig_aiger_read.specs.declared.gate.Gate.{Gate}
use Rattle.craig_aiger_read.specs.declared.gate_line.GateLine as kept_gate
use Rattle.craig_aiger_read.specs.declared.latch_line.LatchLine.{LatchLine}
use Rattle.craig_aiger_read.specs.declared.root_line.RootLine.{RootLine}
use Rattle.craig_aiger_read.specs.declared.assembly.Moves.{Moves}
use Rattle.craig_aiger_read.specs.declared.assembly.Numbered.{Numbered}
use Rattle.craig_aiger_read.specs.declared.written.Written as kept_written
use Rattle.craig_aiger_read.specs.Assembled.{FitsNames, IsMoved, IsNumbered, file_of, undefined_in}
use Rattle.craig_aiger_read.specs.ReadDepths.{AreWithin, depths_of}
use Rattle.craig_aiger_read.specs.ReadFiles.{latches_with, roots_with}
use Rattle.craig_aiger_read.specs.ReadNumbers.{numbered_gate}
use Rattle.craig_aiger_read.specs.ReadOrder.{AreNewVariables, gate_moved_by, moved_by}
use Rattle.craig_aiger_read.specs.ReadViews.{as_gate, as_latch, as_operands, as_root}
use Rattle.craig_aiger_read.specs.ReadWritten.{KeepsWritten}
use Rattle.craig_spec.proofs.MemberLemmas.{map-map}
use Rattle.craig_aiger_read.proofs.AssemblyLemmas.{latches-named, lines-ok, moved_by-is, none-four, roots-named, undefined-four}

written-undefined : (w : Written) (offset : ℕ) → first_undefined w ≡ Some offset → file_written w ≡ fault FaultKind.Undefined offset
unfolding file_written
written-undefined w offset e = rw e refl

written-cyclic : (w : Written) (offset : ℕ) → first_undefined w ≡ None → first_cyclic (first_gate w) (numbered_gates (variables_of w) w.gates) w.gates ≡ Some offset → file_written w ≡ fault FaultKind.Cycle offset
unfolding file_written
written-cyclic w offset e h = rw (e, h) refl

written-file : (w : Written) → first_undefined w ≡ None → first_cyclic (first_gate w) (numbered_gates (variables_of w) w.gates) w.gates ≡ None →
    file_written w ≡ Ok (file_by w (first_gate w) (numbered_gates (variables_of w) w.gates) (by_depth (first_gate w) (numbered_gates (variables_of w) w.gates)))
unfolding file_written
written-file w e h = rw (e, h) refl

-- the lines that use literals, as they are kept
uses-kept : (w : Written) (kept : kept_written.Written) → KeepsWritten w kept →
    uses_of w ≡ map (λ (l : LatchLine). latch_use (as_latch l)) kept.latches.items
    ++ (map (λ (r : RootLine). root_use (as_root r)) kept.outputs.items ++ (map (λ (r : RootLine). root_use (as_root r)) kept.bads.items ++ map (λ (g : kept_gate.GateLine). gate_use (as_gate g)) kept.gates.items))
uses-kept w kept h =
    let a = ap (map latch_use) (sym h.latches) ∙ map-map latch_use as_latch kept.latches.items in
    let b = ap (map root_use) (sym h.outputs) ∙ map-map root_use as_root kept.outputs.items in
    let c = ap (map root_use) (sym h.bads) ∙ map-map root_use as_root kept.bads.items in
    let d = ap (map gate_use) (sym h.gates) ∙ map-map gate_use as_gate kept.gates.items in
    rw (a, b, c, d) refl

-- what is undefined is the fault of the whole
pub file-undefined : (w : Written) (kept : kept_written.Written) (f : Fault) → KeepsWritten w kept → undefined_in kept ≡ Err f → file_written w ≡ Err f
file-undefined w kept f h e =
    let u = undefined-four kept.variables.keys (λ (l : LatchLine). latch_use (as_latch l)) (λ (r : RootLine). root_use (as_root r)) (λ (r : RootLine). root_use (as_root r)) (λ (g : kept_gate.GateLine). gate_use (as_gate g))
    (λ (l : LatchLine). numbered kept.variables.keys l.next) (λ (r : RootLine). numbered kept.variables.keys r.literal) (λ (r : RootLine). numbered kept.variables.keys r.literal) (numbered_gate kept.variables.keys)
    kept.latches.items kept.outputs.items kept.bads.items kept.gates.items f e in
    let found : find (uses_other (variables_of w)) (uses_of w) ≡ Some u.0 =
    ap (λ z. find (uses_other z) (uses_of w)) (sym h.variables) ∙ ap (find (uses_other kept.variables.keys)) (uses-kept w kept h) ∙ u.1 in
    written-undefined w u.0.offset (ap (option_map (λ (x : Use). x.offset)) found) ∙ ap (λ (z : Fault). Err z) (sym u.2)

-- nothing is undefined where all has numbers
none-undefined : (w : Written) (kept : kept_written.Written) (n : Numbered) → KeepsWritten w kept → IsNumbered kept n → first_undefined w ≡ None
none-undefined w kept n h is =
    let p = uses_other kept.variables.keys in
    let a = (lines-ok kept.variables.keys (λ (l : LatchLine). latch_use (as_latch l)) (λ (l : LatchLine). numbered kept.variables.keys l.next) kept.latches.items n.nexts.items is.nexts).0 in
    let b = (lines-ok kept.variables.keys (λ (r : RootLine). root_use (as_root r)) (λ (r : RootLine). numbered kept.variables.keys r.literal) kept.outputs.items n.outputs.items is.outputs).0 in
    let c = (lines-ok kept.variables.keys (λ (r : RootLine). root_use (as_root r)) (λ (r : RootLine). numbered kept.variables.keys r.literal) kept.bads.items n.bads.items is.bads).0 in
    let d = (lines-ok kept.variables.keys (λ (g : kept_gate.GateLine). gate_use (as_gate g)) (numbered_gate kept.variables.keys) kept.gates.items (map as_operands n.gates.items) is.gates).0 in
    ap (option_map (λ (x : Use). x.offset))
    (ap (λ z. find (uses_other z) (uses_of w)) (sym h.variables) ∙ ap (find p) (uses-kept w kept h)
    ∙ none-four p (map (λ (l : LatchLine). latch_use (as_latch l)) kept.latches.items) (map (λ (r : RootLine). root_use (as_root r)) kept.outputs.items)
    (map (λ (r : RootLine). root_use (as_root r)) kept.bads.items) (map (λ (g : kept_gate.GateLine). gate_use (as_gate g)) kept.gates.items) a b c d)

-- the gates with numbers, and their first variable
numbered-are : (w : Written) (kept : kept_written.Written) (n : Numbered) → KeepsWritten w kept → IsNumbered kept n → map as_operands n.gates.items ≡ numbered_gates (variables_of w) w.gates
numbered-are w kept n h is =
    (lines-ok kept.variables.keys (λ (g : kept_gate.GateLine). gate_use (as_gate g)) (numbered_gate kept.variables.keys) kept.gates.items (map as_operands n.gates.items) is.gates).1
    ∙ sym (ap (numbered_gates (variables_of w)) (sym h.gates) ∙ ap (λ z. numbered_gates z (map as_gate kept.gates.items)) (sym h.variables)
    ∙ map-map (λ (g : GateLine). record { left = numbered kept.variables.keys g.left; right = numbered kept.variables.keys g.right }) as_gate kept.gates.items)

pub first-is : (w : Written) (kept : kept_written.Written) → KeepsWritten w kept → length kept.variables.keys - length kept.gates.items ≡ first_gate w
first-is w kept h =
    omega (
      arith,
      ap length h.variables,
      length-append (leaves_of w.inputs w.latches) (map (λ (g : GateLine). g.variable) w.gates),
      length-map w.gates (λ (g : GateLine). g.variable),
      ap length h.gates,
      length-map kept.gates.items as_gate,
    )

circle-by : {X : Type 0} (o : Option ℕ) (all : X) (f : Fault) → unless_found FaultKind.Cycle o (Ok all) ≡ Err f → (offset : ℕ) × (o ≡ Some offset) × (◌≡◌ {A = Result AigerFile Fault} (fault FaultKind.Cycle offset) (Err f))
circle-by None all f e = cc
circle-by (Some offset) all f e = let same : record { kind = FaultKind.Cycle; offset = offset } ≡ f = cc in (offset, refl, ap (λ (z : Fault). Err z) same)

-- a circle is the fault of the whole where nothing is undefined
pub file-cyclic : (w : Written) (kept : kept_written.Written) (n : Numbered) (first : ℕ) (f : Fault) → KeepsWritten w kept → IsNumbered kept n → first ≡ first_gate w →
    depths_of first (map as_operands n.gates.items) (map as_gate kept.gates.items) ≡ Err f → file_written w ≡ Err f
file-cyclic w kept n first f h is at e =
    let p = circle-by (first_cyclic first (map as_operands n.gates.items) (map as_gate kept.gates.items)) _ f e in
    let found : first_cyclic (first_gate w) (numbered_gates (variables_of w) w.gates) w.gates ≡ Some p.0 =
    ap (λ z. first_cyclic z (numbered_gates (variables_of w) w.gates) w.gates) (sym at) ∙ ap (λ z. first_cyclic first z w.gates) (sym (numbered-are w kept n h is))
    ∙ ap (first_cyclic first (map as_operands n.gates.items)) (sym h.gates) ∙ p.1 in
    written-cyclic w p.0 (none-undefined w kept n h is) found ∙ p.2

-- literals that are moved by the variables as by the order
all-moved : (first : ℕ) (order variables ls : List ℕ) → AreNewVariables first order variables → All (λ l. l / 2 < first + length variables) ls → All (λ l. moved_by first variables l ≡ moved first order l) ls
all-moved first order variables ls h within = λ k d low. moved_by-is first order variables (get_or ls k d) h (within k d low)

latches-part : (first : ℕ) (order variables keys wkeys : List ℕ) (symbols : List Symbol) (ls : List LatchLine) (nexts : List ℕ) (names : List (Option (List ℕ))) (wl : List read.LatchLine) →
    map as_latch ls ≡ wl → keys ≡ wkeys → nexts ≡ map (λ (l : LatchLine). numbered keys l.next) ls → names ≡ map (name_of symbols 108) (range_with_len 0 (length wl)) →
    AreNewVariables first order variables → All (λ l. l / 2 < first + length variables) nexts →
    latches_with (moved_by first variables) ls nexts names ≡ named_latches (λ l. moved first order (numbered wkeys l)) symbols 0 wl
latches-part first order variables keys wkeys symbols ls nexts names wl lines same numbers named places within =
    let P : List ℕ → Type 0 = λ z. All (λ l. moved_by first variables l ≡ moved first order l) z in
    let all = subst P numbers (all-moved first order variables nexts places within) in
    ap (λ z. latches_with (moved_by first variables) ls z names) numbers
    ∙ ap (latches_with (moved_by first variables) ls (map (λ (l : LatchLine). numbered keys l.next) ls)) (named ∙ ap (λ z. map (name_of symbols 108) (range_with_len 0 (length z))) (sym lines))
    ∙ latches-named (moved_by first variables) (moved first order) (numbered keys) symbols 0 ls all
    ∙ ap (named_latches (λ l. moved first order (numbered keys l)) symbols 0) lines
    ∙ ap (λ z. named_latches (λ l. moved first order (numbered z l)) symbols 0 wl) same

roots-part : (first : ℕ) (order variables keys wkeys : List ℕ) (symbols : List Symbol) (letter : ℕ) (rs : List RootLine) (literals : List ℕ) (names : List (Option (List ℕ))) (wr : List read.RootLine) →
    map as_root rs ≡ wr → keys ≡ wkeys → literals ≡ map (λ (r : RootLine). numbered keys r.literal) rs → names ≡ map (name_of symbols letter) (range_with_len 0 (length wr)) →
    AreNewVariables first order variables → All (λ l. l / 2 < first + length variables) literals →
    roots_with (moved_by first variables) literals names ≡ named_roots (λ l. moved first order (numbered wkeys l)) symbols letter 0 wr
roots-part first order variables keys wkeys symbols letter rs literals names wr lines same numbers named places within =
    let P : List ℕ → Type 0 = λ z. All (λ l. moved_by first variables l ≡ moved first order l) z in
    let all = subst P numbers (all-moved first order variables literals places within) in
    ap (λ z. roots_with (moved_by first variables) z names) numbers
    ∙ ap (roots_with (moved_by first variables) (map (λ (r : RootLine). numbered keys r.literal) rs)) (named ∙ ap (λ z. map (name_of symbols letter) (range_with_len 0 (length z))) (sym lines))
    ∙ roots-named (moved_by first variables) (moved first order) (numbered keys) symbols letter 0 rs all
    ∙ ap (named_roots (λ l. moved first order (numbered keys l)) symbols letter 0) lines
    ∙ ap (λ z. named_roots (λ l. moved first order (numbered z l)) symbols letter 0 wr) same

-- the gates of places
gates-by : (first : ℕ) (order variables js : List ℕ) (gates : List circuit.Gate) → AreNewVariables first order variables →
    ((j : ℕ) → j < length js → let g = get_or gates (get_or js j 0) (record { left = 0; right = 0 }) in (g.left / 2 < first + length variables) × (g.right / 2 < first + length variables)) →
    map (gate_moved_by first variables gates) js ≡ map (λ j. moved_gate first order (get_or gates j (record { left = 0; right = 0 }))) js
gates-by first order variables [] gates places within = refl
gates-by first order variables (j ∷ js) gates places within =
    let g : circuit.Gate = get_or gates j (record { left = 0; right = 0 }) in
    let w = within 0 (omega arith) in
    rw (moved_by-is first order variables g.left places w.0, moved_by-is first order variables g.right places w.1, gates-by first order variables js gates places (λ k low. within (suc k) (omega arith))) refl

pub file-same : (i i2 : List (Option (List ℕ))) (l l2 : List FileLatch) (o o2 b b2 : List FileRoot) (g g2 : List circuit.Gate) → i ≡ i2 → l ≡ l2 → o ≡ o2 → b ≡ b2 → g ≡ g2 →
    ◌≡◌ {A = AigerFile} (record { inputs = i; latches = l; outputs = o; bads = b; gates = g }) (record { inputs = i2; latches = l2; outputs = o2; bads = b2; gates = g2 })
file-same i i2 l l2 o o2 b b2 g g2 ei el eo eb eg = rw (ei, el, eo, eb, eg) refl

-- the parts make the file
pub file-parts : (w : Written) (kept : kept_written.Written) (n : Numbered) (m : Moves) (first : ℕ) → KeepsWritten w kept → IsNumbered kept n → first ≡ first_gate w → IsMoved first n.gates.items kept.gates.items m →
    file_written w ≡ Ok (file_of first kept.latches.items n m kept.names)
file-parts w kept n m first h is at moves =
    let keys = kept.variables.keys in
    let gates = map as_operands n.gates.items in
    let same : gates ≡ numbered_gates (variables_of w) w.gates = numbered-are w kept n h is in
    let acyclic : first_cyclic (first_gate w) (numbered_gates (variables_of w) w.gates) w.gates ≡ None =
    ap (λ z. first_cyclic z (numbered_gates (variables_of w) w.gates) w.gates) (sym at) ∙ ap (λ z. first_cyclic first z w.gates) (sym same)
    ∙ ap (first_cyclic first gates) (sym h.gates) ∙ moves.acyclic in
    let size : length (numbered_gates (variables_of w) w.gates) ≡ length w.gates = length-map {A = GateLine} {B = circuit.Gate} w.gates (λ (g : GateLine). record { left = numbered (variables_of w) g.left; right = numbered (variables_of w) g.right }) in
    let count : length n.gates.items ≡ length w.gates = omega (arith, ap length same, length-map n.gates.items as_operands, size) in
    let all : length keys ≡ first + length m.variables.items =
    omega (arith, at, ap length h.variables, length-append (leaves_of w.inputs w.latches) (map (λ (g : GateLine). g.variable) w.gates), length-map w.gates (λ (g : GateLine). g.variable), count, moves.long) in
    let order : m.order.items ≡ by_depth (first_gate w) (numbered_gates (variables_of w) w.gates) = moves.order ∙ ap (λ z. by_depth z gates) at ∙ ap (by_depth (first_gate w)) same in
    let wide : (ls : List ℕ) → All (λ l. l / 2 < length keys) ls → All (λ l. l / 2 < first + length m.variables.items) ls = λ ls inside k d low. omega (arith, inside k d low, all) in
    let zero_gate : Gate = record { left = 0; right = 0 } in
    let within : (j : ℕ) → j < length m.order.items → let g = get_or gates (get_or m.order.items j 0) (record { left = 0; right = 0 }) in (g.left / 2 < first + length m.variables.items) × (g.right / 2 < first + length m.variables.items) =
    λ j low.
    let there = moves.inside j low in
    let own = get_or-map as_operands n.gates.items (get_or m.order.items j 0) zero_gate (record { left = 0; right = 0 }) there in
    let bound = is.gate_within (get_or m.order.items j 0) zero_gate there in
    rw own (omega (arith, bound.0, all), omega (arith, bound.1, all)) in
    let made : file_of first kept.latches.items n m kept.names ≡ file_by w first gates m.order.items = file-same _ _ _ _ _ _ _ _ _ _ h.input_names
    (latches-part first m.order.items m.variables.items keys (variables_of w) w.symbols kept.latches.items n.nexts.items kept.names.latches.items w.latches h.latches h.variables
    (lines-ok keys (λ (l : LatchLine). latch_use (as_latch l)) (λ (l : LatchLine). numbered keys l.next) kept.latches.items n.nexts.items is.nexts).1 h.latch_names moves.places (wide n.nexts.items is.next_within))
    (roots-part first m.order.items m.variables.items keys (variables_of w) w.symbols 111 kept.outputs.items n.outputs.items kept.names.outputs.items w.outputs h.outputs h.variables
    (lines-ok keys (λ (r : RootLine). root_use (as_root r)) (λ (r : RootLine). numbered keys r.literal) kept.outputs.items n.outputs.items is.outputs).1 h.output_names moves.places (wide n.outputs.items is.output_within))
    (roots-part first m.order.items m.variables.items keys (variables_of w) w.symbols 98 kept.bads.items n.bads.items kept.names.bads.items w.bads h.bads h.variables
    (lines-ok keys (λ (r : RootLine). root_use (as_root r)) (λ (r : RootLine). numbered keys r.literal) kept.bads.items n.bads.items is.bads).1 h.bad_names moves.places (wide n.bads.items is.bad_within))
    (gates-by first m.order.items m.variables.items m.order.items gates moves.places within) in
    written-file w (none-undefined w kept n h is) acyclic
    ∙ ap (λ (z : AigerFile). Ok z) (sym (made ∙ ap (λ z. file_by w z gates m.order.items) at ∙ ap (λ z. file_by w (first_gate w) z m.order.items) same ∙ ap (file_by w (first_gate w) (numbered_gates (variables_of w) w.gates)) order))

length-of-names : (symbols : List Symbol) (letter n : ℕ) (names : List (Option (List ℕ))) → names ≡ map (name_of symbols letter) (range_with_len 0 n) → length names ≡ n
length-of-names symbols letter n names is = ap length is ∙ length-map-range_with_len (name_of symbols letter) 0 n

-- the variables are those of the leaves and the gates
pub variable-count : (w : Written) (kept : kept_written.Written) → KeepsWritten w kept → length kept.variables.keys ≡ first_gate w + length kept.gates.items
variable-count w kept h =
    omega (
      arith,
      ap length h.variables,
      length-append (leaves_of w.inputs w.latches) (map (λ (g : GateLine). g.variable) w.gates),
      length-map w.gates (λ (g : GateLine). g.variable),
      ap length h.gates,
      length-map kept.gates.items as_gate,
    )

pub gate-count : (w : Written) (kept : kept_written.Written) (n : Numbered) → KeepsWritten w kept → IsNumbered kept n → length n.gates.items ≡ length kept.gates.items
gate-count w kept n h is =
    let made = (lines-ok kept.variables.keys (λ (g : kept_gate.GateLine). gate_use (as_gate g)) (numbered_gate kept.variables.keys) kept.gates.items (map as_operands n.gates.items) is.gates).1 in
    omega (arith, ap length made, length-map n.gates.items as_operands, length-map kept.gates.items (numbered_gate kept.variables.keys))

-- as they are counted and borrowed
pub lines-fewer : (n : ℕ) (lines : List kept_gate.GateLine) (w : Written) (kept : kept_written.Written) → n ≡ length kept.variables.keys → lines ≡ kept.gates.items → KeepsWritten w kept → length lines ≤ n
lines-fewer n lines w kept long same h = omega (arith, long, ap length same, variable-count w kept h)

pub first_gate-counted : (n : ℕ) (lines : List kept_gate.GateLine) (w : Written) (kept : kept_written.Written) → n ≡ length kept.variables.keys → lines ≡ kept.gates.items → KeepsWritten w kept →
    n - length lines ≡ first_gate w
first_gate-counted n lines w kept long same h = omega (arith, long, ap length same, variable-count w kept h)

pub gates-few : (first most : ℕ) (gates : List Gate) (w : Written) (kept : kept_written.Written) (m : Numbered) → first ≡ first_gate w → length kept.variables.keys ≤ most → gates ≡ m.gates.items →
    KeepsWritten w kept → IsNumbered kept m → first + length gates ≤ most
gates-few first most gates w kept m at few same h is = omega (arith, at, few, ap length same, variable-count w kept h, gate-count w kept m h is)

pub gates-within : (w : Written) (kept : kept_written.Written) (n : Numbered) (first : ℕ) → KeepsWritten w kept → IsNumbered kept n → first ≡ first_gate w → AreWithin first n.gates.items
gates-within w kept n first h is at = λ j d low.
    let bound = is.gate_within j d low in
    (omega (arith, bound.0, at, variable-count w kept h, gate-count w kept n h is), omega (arith, bound.1, at, variable-count w kept h, gate-count w kept n h is))

pub fits-names : (w : Written) (kept : kept_written.Written) (n : Numbered) (m : Moves) (first : ℕ) → KeepsWritten w kept → IsNumbered kept n → first ≡ first_gate w → IsMoved first n.gates.items kept.gates.items m →
    FitsNames first kept.latches.items n m kept.names
fits-names w kept n m first h is at moves =
    let keys = kept.variables.keys in
    let all : length keys ≡ first + length m.variables.items = omega (arith, at, variable-count w kept h, gate-count w kept n h is, moves.long) in
    let wide : (ls : List ℕ) → All (λ l. l / 2 < length keys) ls → All (λ l. l / 2 < first + length m.variables.items) ls = λ ls inside k d low. omega (arith, inside k d low, all) in
    let nexts = (lines-ok keys (λ (l : LatchLine). latch_use (as_latch l)) (λ (l : LatchLine). numbered keys l.next) kept.latches.items n.nexts.items is.nexts).1 in
    let outputs = (lines-ok keys (λ (r : RootLine). root_use (as_root r)) (λ (r : RootLine). numbered keys r.literal) kept.outputs.items n.outputs.items is.outputs).1 in
    let bads = (lines-ok keys (λ (r : RootLine). root_use (as_root r)) (λ (r : RootLine). numbered keys r.literal) kept.bads.items n.bads.items is.bads).1 in
    record {
      gates = gates-within w kept n first h is at;
      long = sym moves.long;
      inside = moves.inside;
      small = moves.small;
      nexts = wide n.nexts.items is.next_within;
      outputs = wide n.outputs.items is.output_within;
      bads = wide n.bads.items is.bad_within;
      latch_lines = sym (length-of-names w.symbols 108 (length w.latches) kept.names.latches.items h.latch_names ∙ ap length (sym h.latches) ∙ length-map kept.latches.items as_latch);
      latch_names = ap length nexts ∙ length-map kept.latches.items (λ (l : LatchLine). numbered keys l.next) ∙ sym (length-of-names w.symbols 108 (length w.latches) kept.names.latches.items h.latch_names ∙ ap length (sym h.latches) ∙ length-map kept.latches.items as_latch);
      output_names = ap length outputs ∙ length-map kept.outputs.items (λ (r : RootLine). numbered keys r.literal) ∙ sym (length-of-names w.symbols 111 (length w.outputs) kept.names.outputs.items h.output_names ∙ ap length (sym h.outputs) ∙ length-map kept.outputs.items as_root);
      bad_names = ap length bads ∙ length-map kept.bads.items (λ (r : RootLine). numbered keys r.literal) ∙ sym (length-of-names w.symbols 98 (length w.bads) kept.names.bads.items h.bad_names ∙ ap length (sym h.bads) ∙ length-map kept.bads.items as_root);
    }
