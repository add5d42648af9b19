-- The file that a binary text writes: no gate stands before one that it uses, and whatever is used is there.
use Rattle.std.proofs.Common.{◌≡◌, ℕ, zero, suc, ◌+◌, ◌-◌, ◌*◌, ◌/◌, ◌<◌, ◌≤◌, Bool, true, false, ◌&&◌, leb, eqb, cond, List, [], ◌∷◌, ◌++◌, length, All, Option, Some, None, Result, Ok, Err, ◌⊎◌, inl, inr, slice_get, refl, ap, subst, length-append, arith}
use Rattle.std.proofs.lemmas.Bool.{and_parts, eqb-true, leb-true}
use Rattle.std.proofs.lemmas.List.Elements.{All-cons, All-nil, All-push}
use Rattle.std.proofs.lemmas.List.FromFn.{length-map-range_with_len}
use Rattle.std.specs.List.{list_all}
use Rattle.std.specs.Prelude.{drop}
use Rattle.craig_spec.specs.Circuit.{Gate}
use Rattle.craig_spec.specs.AigerFault.{Fault, FaultKind}
use Rattle.craig_spec.specs.AigerReading.{AigerFile, Counts, FileLatch, FileRoot, IsDefinedFile, LatchLine, Reset, RootLine, Symbol, TextLine, aag_reading, checked, counts_checked, counts_of, fault, file_variables, header_of, is_literal, lines_of, name_of, named_latches, named_roots, numbers_in, read_lines, reset_of, root_in, root_of, ◌>>=◌}
use Rattle.craig_spec.specs.AigerBinary.{aig_reading, aiger_reading, begins_binary, binary_end, binary_file, binary_from, binary_gate_in, binary_gates, binary_header_in, binary_header_of, binary_in, binary_latch_in, binary_latch_of, delta_of, is_exact, lines_from, lines_place, symbols_in}
use Rattle.craig_spec.specs.SevenBits.{FirstNumber, first_number}
use Rattle.craig_spec.proofs.AigerFileLemmas.{IsDefinedFile-aag}

pub ok-is : {A : Type 0} (x y : A) → ◌≡◌ {A = Result A Fault} (Ok x) (Ok y) → x ≡ y
ok-is x y e = cc

-- what is read after something was
pub bind-is : {A B : Type 0} (r : Result A Fault) (f : A → Result B Fault) (y : B) → (r >>= f) ≡ Ok y → (x : A) × (r ≡ Ok x) × (f x ≡ Ok y)
bind-is (Ok x) f y e = (x, refl, e)
bind-is (Err g) f y e = cc

-- what is read if a test holds
pub checked-is : {A : Type 0} (test : Bool) (kind : FaultKind) (offset : ℕ) (read : Result A Fault) (a : A) → checked test kind offset read ≡ Ok a → (test ≡ true) × (read ≡ Ok a)
checked-is true kind offset read a e = (refl, e)
checked-is false kind offset read a e = cc

-- each thing that is read has what each line gives, and there are as many as were asked for
pub record AreRead {A : Type 0} (P : A → Type 0) (size : ℕ) (things : List A) : Type 0 where
  pub each : All P things
  pub long : length things ≡ size

pub read_lines-all : {A : Type 0} (each : List A → TextLine → Result A Fault) (P : A → Type 0) (end count size : ℕ) (before : List A) (lines : List TextLine) (things : List A) (rest : List TextLine) →
    ((b : List A) (line : TextLine) (a : A) → each b line ≡ Ok a → P a) → length before + count ≡ size → All P before → read_lines each end count before lines ≡ Ok (things, rest) → AreRead P size things
read_lines-all {A = A} each P end zero size before lines things rest gives many all e =
    let same : before ≡ things = ap (λ (z : List A × List TextLine). z.0) (ok-is (before, lines) (things, rest) e) in
    record { each = subst (All P) same all; long = omega (arith, ap length same, many) }
read_lines-all each P end (suc count) size before [] things rest gives many all e = cc
read_lines-all each P end (suc count) size before (line ∷ lines) things rest gives many all e =
    let p = bind-is (each before line) (λ a. read_lines each end count (before ++ a ∷ []) lines) (things, rest) e in
    read_lines-all each P end count size (before ++ p.0 ∷ []) lines things rest gives (omega (arith, many, length-append before (p.0 ∷ []))) (All-push P before p.0 all (gives before line p.0 p.1)) p.2

-- an output or bad literal that is read is one
root_of-literal : (c : Counts) (offset : ℕ) (ns : Option (List ℕ)) (r : RootLine) → root_of c offset ns ≡ Ok r → r.literal ≤ 2 * c.greatest + 1
root_of-literal c offset None r e = cc
root_of-literal c offset (Some []) r e = cc
root_of-literal c offset (Some (l ∷ [])) r e =
    let p = checked-is (is_literal c l) FaultKind.Literal offset (Ok (record { offset = offset; literal = l })) r e in
    let same : l ≡ r.literal = ap (λ (z : RootLine). z.literal) (ok-is (record { offset = offset; literal = l }) r p.1) in
    omega (arith, same, leb-true l (2 * c.greatest + 1) p.0)
root_of-literal c offset (Some (l ∷ (m ∷ ns))) r e = cc

root_in-literal : (c : Counts) (before : List RootLine) (line : TextLine) (r : RootLine) → root_in c before line ≡ Ok r → r.literal ≤ 2 * c.greatest + 1
unfolding root_in
root_in-literal c before line r e = root_of-literal c line.offset (numbers_in line.bytes) r e

-- the next literal of a latch that is read is one
latch_with-next : (c : Counts) (variable offset next n : ℕ) (l : LatchLine) →
    checked (is_literal c next) FaultKind.Literal offset (reset_of offset (2 * variable) n >>= λ reset. Ok (record { offset = offset; variable = variable; next = next; reset = reset })) ≡ Ok l →
    l.next ≤ 2 * c.greatest + 1
latch_with-next c variable offset next n l e =
    let made : Reset → LatchLine = λ reset. record { offset = offset; variable = variable; next = next; reset = reset } in
    let p = checked-is (is_literal c next) FaultKind.Literal offset (reset_of offset (2 * variable) n >>= λ reset. Ok (made reset)) l e in
    let q = bind-is (reset_of offset (2 * variable) n) (λ reset. Ok (made reset)) l p.1 in
    let same : next ≡ l.next = ap (λ (z : LatchLine). z.next) (ok-is (made q.0) l q.2) in
    omega (arith, same, leb-true next (2 * c.greatest + 1) p.0)

latch_of-next : (c : Counts) (variable offset : ℕ) (ns : Option (List ℕ)) (l : LatchLine) → binary_latch_of c variable offset ns ≡ Ok l → l.next ≤ 2 * c.greatest + 1
latch_of-next c variable offset None l e = cc
latch_of-next c variable offset (Some []) l e = cc
latch_of-next c variable offset (Some (next ∷ [])) l e = latch_with-next c variable offset next 0 l e
latch_of-next c variable offset (Some (next ∷ (n ∷ []))) l e = latch_with-next c variable offset next n l e
latch_of-next c variable offset (Some (next ∷ (n ∷ (m ∷ ns)))) l e = cc

latch_in-next : (c : Counts) (before : List LatchLine) (line : TextLine) (l : LatchLine) → binary_latch_in c before line ≡ Ok l → l.next ≤ 2 * c.greatest + 1
unfolding binary_latch_in
latch_in-next c before line l e = latch_of-next c (1 + c.inputs + length before) line.offset (numbers_in line.bytes) l e

-- a difference lies between its bounds
delta_of-within : (end offset least most : ℕ) (found : FirstNumber) (d : ℕ × List ℕ) → delta_of end offset least most found ≡ Ok d → (least ≤ d.0) × (d.0 ≤ most)
delta_of-within end offset least most (FirstNumber.Number n rest) d e =
    let p = checked-is (leb least n && leb n most) FaultKind.Delta offset (Ok (n, rest)) d e in
    let same : n ≡ d.0 = ap (λ (z : ℕ × List ℕ). z.0) (ok-is (n, rest) d p.1) in
    let q = and_parts (leb least n) (leb n most) p.0 in
    (omega (arith, same, leb-true least n q.0), omega (arith, same, leb-true n most q.1))
delta_of-within end offset least most FirstNumber.Ends d e = cc
delta_of-within end offset least most FirstNumber.TooLong d e = cc

operands-are : (left right : ℕ) (rest : List ℕ) (g : Gate × List ℕ) → ◌≡◌ {A = Result (Gate × List ℕ) Fault} (Ok (record { left = left; right = right }, rest)) (Ok g) → (left ≡ g.0.left) × (right ≡ g.0.right)
operands-are left right rest g e =
    let same = ok-is (record { left = left; right = right }, rest) g e in
    (ap (λ (z : Gate × List ℕ). z.0.left) same, ap (λ (z : Gate × List ℕ). z.0.right) same)

-- a gate has operands below its own literal
pub binary_gate_in-below : (end own : ℕ) (bytes : List ℕ) (g : Gate × List ℕ) → binary_gate_in end own bytes ≡ Ok g → (g.0.left < own) × (g.0.right < own)
unfolding binary_gate_in
binary_gate_in-below end own bytes g e =
    let second : ℕ × List ℕ → Result (Gate × List ℕ) Fault = λ first. (delta_of end (end - length first.1) 0 (own - first.0) (first_number first.1) >>= λ second. Ok (record { left = own - first.0; right = own - first.0 - second.0 }, second.1)) in
    let p = bind-is (delta_of end (end - length bytes) 1 own (first_number bytes)) second g e in
    let q = bind-is (delta_of end (end - length p.0.1) 0 (own - p.0.0) (first_number p.0.1)) (λ second. Ok (record { left = own - p.0.0; right = own - p.0.0 - second.0 }, second.1)) g p.2 in
    let within = delta_of-within end (end - length bytes) 1 own (first_number bytes) p.0 p.1 in
    let operands = operands-are (own - p.0.0) (own - p.0.0 - q.0.0) q.0.1 g q.2 in
    (omega (arith, within, operands), omega (arith, within, operands))

-- gates each of which has operands below its own literal, where the first has this one
abbrev AreBelow : ℕ → List Gate → Type 0
AreBelow first gates = (j : ℕ) (g : Gate) → slice_get gates j ≡ Some g → (g.left < first + 2 * j) × (g.right < first + 2 * j)

-- what stands in a list with one thing more
slice_get-push : {A : Type 0} (xs : List A) (y : A) (j : ℕ) (x : A) → slice_get (xs ++ y ∷ []) j ≡ Some x → (slice_get xs j ≡ Some x) ⊎ ((j ≡ length xs) × (y ≡ x))
slice_get-push [] y zero x e = inr (refl, cc)
slice_get-push [] y (suc j) x e = cc
slice_get-push (z ∷ xs) y zero x e = inl e
slice_get-push (z ∷ xs) y (suc j) x e =
    elim (slice_get-push xs y j x e) as (λ _. (slice_get (z ∷ xs) (suc j) ≡ Some x) ⊎ ((suc j ≡ length (z ∷ xs)) × (y ≡ x))) [ inl h ↦ inl h | inr h ↦ inr (ap suc h.0, h.1) ]

below-push : (first : ℕ) (before : List Gate) (h : Gate) → AreBelow first before → (h.left < first + 2 * length before) × (h.right < first + 2 * length before) → AreBelow first (before ++ h ∷ [])
below-push first before h all own j g e =
    elim (slice_get-push before h j g e) as (λ _. (g.left < first + 2 * j) × (g.right < first + 2 * j)) [
      | inl there ↦ all j g there
      | inr last ↦ (
          let left : h.left ≡ g.left = ap (λ (z : Gate). z.left) last.1 in
          let right : h.right ≡ g.right = ap (λ (z : Gate). z.right) last.1 in
          (omega (arith, own, left, last.0), omega (arith, own, right, last.0)))
    ]

-- each of the gates that are read has operands below its own literal, and there are as many as were asked for
record AreRightGates (first size : ℕ) (gates : List Gate) : Type 0 where
  below : AreBelow first gates
  long : length gates ≡ size

binary_gates-right : (end count size first own : ℕ) (before : List Gate) (bytes : List ℕ) (gates : List Gate) (rest : List ℕ) →
    own ≡ first + 2 * length before → length before + count ≡ size → AreBelow first before → binary_gates end count own before bytes ≡ Ok (gates, rest) → AreRightGates first size gates
binary_gates-right end zero size first own before bytes gates rest at many all e =
    let same : before ≡ gates = ap (λ (z : List Gate × List ℕ). z.0) (ok-is (before, bytes) (gates, rest) e) in
    record { below = subst (AreBelow first) same all; long = omega (arith, ap length same, many) }
binary_gates-right end (suc count) size first own before bytes gates rest at many all e =
    let p = bind-is (binary_gate_in end own bytes) (λ g. binary_gates end count (own + 2) (before ++ g.0 ∷ []) g.1) (gates, rest) e in
    let below = binary_gate_in-below end own bytes p.0 p.1 in
    let long : length (before ++ p.0.0 ∷ []) ≡ length before + 1 = length-append before (p.0.0 ∷ []) in
    binary_gates-right end count size first (own + 2) (before ++ p.0.0 ∷ []) p.0.1 gates rest (omega (arith, at, long)) (omega (arith, many, long)) (below-push first before p.0.0 all (omega (arith, below, at), omega (arith, below, at))) p.2

-- things with names have the literals that they had
nexts-named : (n : ℕ) (symbols : List Symbol) (i : ℕ) (ls : List LatchLine) → All (λ (l : LatchLine). l.next / 2 < n) ls → All (λ (l : FileLatch). l.next / 2 < n) (named_latches (λ l. l) symbols i ls)
nexts-named n symbols i [] all = All-nil (λ (l : FileLatch). l.next / 2 < n)
nexts-named n symbols i (l ∷ ls) all =
    All-cons (λ (l : FileLatch). l.next / 2 < n) (record { next = l.next; reset = l.reset; name = name_of symbols 108 i }) (named_latches (λ l. l) symbols (i + 1) ls)
    (all 0 l (omega arith)) (nexts-named n symbols (i + 1) ls (λ k d low. all (suc k) d (omega arith)))

roots-named : (n : ℕ) (symbols : List Symbol) (letter i : ℕ) (rs : List RootLine) → All (λ (r : RootLine). r.literal / 2 < n) rs → All (λ (r : FileRoot). r.literal / 2 < n) (named_roots (λ l. l) symbols letter i rs)
roots-named n symbols letter i [] all = All-nil (λ (r : FileRoot). r.literal / 2 < n)
roots-named n symbols letter i (r ∷ rs) all =
    All-cons (λ (r : FileRoot). r.literal / 2 < n) (record { literal = r.literal; name = name_of symbols letter i }) (named_roots (λ l. l) symbols letter (i + 1) rs)
    (all 0 r (omega arith)) (roots-named n symbols letter (i + 1) rs (λ k d low. all (suc k) d (omega arith)))

latches-long : (symbols : List Symbol) (i : ℕ) (ls : List LatchLine) → length (named_latches (λ l. l) symbols i ls) ≡ length ls
latches-long symbols i [] = refl
latches-long symbols i (l ∷ ls) = ap suc (latches-long symbols (i + 1) ls)

-- the file of what was read, where no variable is left over
binary_file-defined : (c : Counts) (latches : List LatchLine) (outputs bads : List RootLine) (gates : List Gate) (symbols : List Symbol) →
    c.greatest ≡ c.inputs + c.latches + c.gates → AreRead (λ (l : LatchLine). l.next ≤ 2 * c.greatest + 1) c.latches latches →
    AreRead (λ (r : RootLine). r.literal ≤ 2 * c.greatest + 1) c.outputs outputs → AreRead (λ (r : RootLine). r.literal ≤ 2 * c.greatest + 1) c.bads bads →
    AreRightGates (2 * (1 + c.inputs + c.latches)) c.gates gates → IsDefinedFile (binary_file c latches outputs bads gates symbols)
binary_file-defined c latches outputs bads gates symbols exact are_latches are_outputs are_bads are_gates =
    let inputs_long = length-map-range_with_len (name_of symbols 105) 0 c.inputs in
    let latches_long = latches-long symbols 0 latches in
    let n : ℕ = file_variables (binary_file c latches outputs bads gates symbols) in
    let many : n ≡ 1 + c.greatest = omega (arith, inputs_long, latches_long, are_latches.long, are_gates.long, exact) in
    record {
      operands = λ j g is. let p = are_gates.below j g is in (omega (arith, p, inputs_long, latches_long, are_latches.long), omega (arith, p, inputs_long, latches_long, are_latches.long));
      nexts = nexts-named n symbols 0 latches (λ k d low. let h = are_latches.each k d low in omega (arith, h, many));
      outputs = roots-named n symbols 111 0 outputs (λ k d low. let h = are_outputs.each k d low in omega (arith, h, many));
      bads = roots-named n symbols 98 0 bads (λ k d low. let h = are_bads.each k d low in omega (arith, h, many));
    }

-- the counts of a header leave no variable over
header_of-is : (offset : ℕ) (ns : List ℕ) (c : Counts) → header_of offset (Some ns) ≡ Ok c → counts_of ns ≡ c
header_of-is offset ns c e =
    let counts = counts_of ns in
    let p = checked-is (leb 5 (length ns)) FaultKind.Header offset (counts_checked offset ns) c e in
    let q = checked-is (leb (counts.inputs + counts.latches + counts.gates) counts.greatest) FaultKind.Count offset (checked (list_all (λ n. eqb n 0) (drop 6 ns)) FaultKind.Unsupported offset (Ok counts)) c p.1 in
    let r = checked-is (list_all (λ n. eqb n 0) (drop 6 ns)) FaultKind.Unsupported offset (Ok counts) c q.1 in
    ok-is counts c r.1

header-exact-by : (offset : ℕ) (ns : Option (List ℕ)) (c : Counts) → binary_header_of offset ns ≡ Ok c → c.greatest ≡ c.inputs + c.latches + c.gates
header-exact-by offset None c e = cc
header-exact-by offset (Some ns) c e =
    let p = checked-is (leb 5 (length ns)) FaultKind.Header offset (checked (is_exact (counts_of ns)) FaultKind.Count offset (header_of offset (Some ns))) c e in
    let q = checked-is (is_exact (counts_of ns)) FaultKind.Count offset (header_of offset (Some ns)) c p.1 in
    subst (λ (z : Counts). z.greatest ≡ z.inputs + z.latches + z.gates) (header_of-is offset ns c q.1) (eqb-true (counts_of ns).greatest ((counts_of ns).inputs + (counts_of ns).latches + (counts_of ns).gates) q.0)

header-exact-test : (test : Bool) (offset : ℕ) (ns : Option (List ℕ)) (c : Counts) → cond test (binary_header_of offset ns) (fault FaultKind.Header offset) ≡ Ok c → c.greatest ≡ c.inputs + c.latches + c.gates
header-exact-test true offset ns c e = header-exact-by offset ns c e
header-exact-test false offset ns c e = cc

pub binary_header_in-exact : (line : TextLine) (c : Counts) → binary_header_in line ≡ Ok c → c.greatest ≡ c.inputs + c.latches + c.gates
unfolding binary_header_in
binary_header_in-exact line c e = header-exact-test (begins_binary line.bytes) line.offset (numbers_in (drop 4 line.bytes)) c e

-- the file of lines behind a header is defined
binary_end-defined : (c : Counts) (end : ℕ) (latches : List LatchLine) (outputs bads : List RootLine) (bytes : List ℕ) (f : AigerFile) →
    c.greatest ≡ c.inputs + c.latches + c.gates → AreRead (λ (l : LatchLine). l.next ≤ 2 * c.greatest + 1) c.latches latches →
    AreRead (λ (r : RootLine). r.literal ≤ 2 * c.greatest + 1) c.outputs outputs → AreRead (λ (r : RootLine). r.literal ≤ 2 * c.greatest + 1) c.bads bads →
    binary_end c end latches outputs bads bytes ≡ Ok f → IsDefinedFile f
unfolding binary_end
binary_end-defined c end latches outputs bads bytes f exact are_latches are_outputs are_bads e =
    let first : ℕ = 2 * (1 + c.inputs + c.latches) in
    let named : List Gate × List ℕ → Result AigerFile Fault = λ gates. (symbols_in c end (lines_from (end - length gates.1) gates.1) >>= λ symbols. Ok (binary_file c latches outputs bads gates.0 symbols)) in
    let p = bind-is (binary_gates end c.gates first [] bytes) named f e in
    let q = bind-is (symbols_in c end (lines_from (end - length p.0.1) p.0.1)) (λ symbols. Ok (binary_file c latches outputs bads p.0.0 symbols)) f p.2 in
    let gates = binary_gates-right end c.gates c.gates first first [] bytes p.0.0 p.0.1 (omega arith) (omega arith) (λ j g is. absurd (none-there j g is)) p.1 in
    subst IsDefinedFile (ok-is (binary_file c latches outputs bads p.0.0 q.0) f q.2)
    (binary_file-defined c latches outputs bads p.0.0 q.0 exact are_latches are_outputs are_bads gates)
  where
    none-there : (j : ℕ) (g : Gate) → slice_get [] j ≡ Some g → ⊥
    none-there j g is = cc

binary_in-defined : (c : Counts) (bytes : List ℕ) (lines : List TextLine) (f : AigerFile) → c.greatest ≡ c.inputs + c.latches + c.gates → binary_in c bytes lines ≡ Ok f → IsDefinedFile f
unfolding binary_in
binary_in-defined c bytes lines f exact e =
    let end : ℕ = length bytes in
    let P : LatchLine → Type 0 = λ l. l.next ≤ 2 * c.greatest + 1 in
    let Q : RootLine → Type 0 = λ r. r.literal ≤ 2 * c.greatest + 1 in
    let p = bind-is (read_lines (binary_latch_in c) end c.latches [] lines) _ f e in
    let q = bind-is (read_lines (root_in c) end c.outputs [] p.0.1) _ f p.2 in
    let r = bind-is (read_lines (root_in c) end c.bads [] q.0.1) _ f q.2 in
    binary_end-defined c end p.0.0 q.0.0 r.0.0 (drop (lines_place end r.0.1) bytes) f exact
    (read_lines-all (binary_latch_in c) P end c.latches c.latches [] lines p.0.0 p.0.1 (latch_in-next c) (omega arith) (All-nil P) p.1)
    (read_lines-all (root_in c) Q end c.outputs c.outputs [] p.0.1 q.0.0 q.0.1 (root_in-literal c) (omega arith) (All-nil Q) q.1)
    (read_lines-all (root_in c) Q end c.bads c.bads [] q.0.1 r.0.0 r.0.1 (root_in-literal c) (omega arith) (All-nil Q) r.1)
    r.2

binary_from-defined : (bytes : List ℕ) (lines : List TextLine) (f : AigerFile) → binary_from bytes lines ≡ Ok f → IsDefinedFile f
binary_from-defined bytes [] f e = cc
binary_from-defined bytes (line ∷ lines) f e =
    let p = bind-is (binary_header_in line) (λ c. binary_in c bytes lines) f e in
    binary_in-defined p.0 bytes lines f (binary_header_in-exact line p.0 p.1) p.2

pub IsDefinedFile-aig : (bytes : List ℕ) (f : AigerFile) → aig_reading bytes ≡ Ok f → IsDefinedFile f
unfolding aig_reading
IsDefinedFile-aig bytes f e = binary_from-defined bytes (lines_of bytes) f e

reading-by : (test : Bool) (bytes : List ℕ) (f : AigerFile) → cond test (aig_reading bytes) (aag_reading bytes) ≡ Ok f → IsDefinedFile f
reading-by true bytes f e = IsDefinedFile-aig bytes f e
reading-by false bytes f e = IsDefinedFile-aag bytes f e

-- the file that bytes write is defined
pub IsDefinedFile-reading : (bytes : List ℕ) (f : AigerFile) → aiger_reading bytes ≡ Ok f → IsDefinedFile f
unfolding aiger_reading
IsDefinedFile-reading bytes f e = reading-by (begins_binary bytes) bytes f e
