-- Laws of the definitions of a text, section by section.
use Rattle.std.proofs.Common.{◌≡◌, ℕ, zero, suc, ◌+◌, ◌<◌, ◌≤◌, List, [], ◌∷◌, ◌++◌, length, map, Result, Ok, Err, refl, sym, ap, arith}
use Rattle.craig_spec.proofs.AigerBinaryLemmas.{bind-is, ok-is}
use Rattle.std.proofs.lemmas.List.{length-append, length-map}
use Rattle.craig_spec.specs.AigerFault.{Fault}
use Rattle.craig_spec.specs.AigerReading.{Counts, GateLine, LatchLine, RootLine, Symbol, TextLine, gate_in, input_in, latch_in, leaves_of, read_lines, root_in, written_in}
use Rattle.craig_aiger_read.specs.ReadNames.{symbols_read}
use Rattle.craig_aiger_read.specs.ReadViews.{behind_constant}

-- what is read behind the constant's variable
pub behind_constant-ok : (found : Result (List ℕ × List TextLine) Fault) (keys : List ℕ) (lines : List TextLine) → behind_constant found ≡ Ok (keys, lines) →
    (inputs : List ℕ) × (found ≡ Ok (inputs, lines)) × (keys ≡ 0 ∷ inputs)
behind_constant-ok (Ok x) keys lines e =
    let same = ok-is (0 ∷ x.0, x.1) (keys, lines) e in
    (x.0, ap (λ z. Ok (x.0, z)) (ap (λ (z : List ℕ × List TextLine). z.1) same), sym (ap (λ (z : List ℕ × List TextLine). z.0) same))
behind_constant-ok (Err f) keys lines e = cc

pub behind_constant-err : (found : Result (List ℕ × List TextLine) Fault) (f : Fault) → behind_constant found ≡ Err f → found ≡ Err f
behind_constant-err (Ok x) f e = cc
behind_constant-err (Err g) f e = cc

-- as many things are read as were asked for
pub length-read_lines : {A : Type 0} (each : List A → TextLine → Result A Fault) (end count : ℕ) (before : List A) (lines : List TextLine) (read : List A) (rest : List TextLine) →
    read_lines each end count before lines ≡ Ok (read, rest) → length read ≡ length before + count
length-read_lines {A = A} each end zero before lines read rest e = let same : before ≡ read = ap (λ (z : List A × List TextLine). z.0) (ok-is (before, lines) (read, rest) e) in omega (arith, ap length same)
length-read_lines each end (suc count) before [] read rest e = cc
length-read_lines each end (suc count) before (line ∷ lines) read rest e =
    let parts = bind-is (each before line) (λ a. read_lines each end count (before ++ a ∷ []) lines) (read, rest) e in
    omega (arith, length-read_lines each end count (before ++ parts.0 ∷ []) lines read rest parts.2, length-append before (parts.0 ∷ []))

pub written-inputs : (c : Counts) (end : ℕ) (lines : List TextLine) (f : Fault) → read_lines (input_in c) end c.inputs [] lines ≡ Err f → written_in c end lines ≡ Err f
unfolding written_in
written-inputs c end lines f e = rw e refl

pub written-latches : (c : Counts) (end : ℕ) (lines : List TextLine) (inputs : List ℕ) (l1 : List TextLine) (f : Fault) →
    read_lines (input_in c) end c.inputs [] lines ≡ Ok (inputs, l1) → read_lines (latch_in c (0 ∷ inputs)) end c.latches [] l1 ≡ Err f → written_in c end lines ≡ Err f
unfolding written_in
written-latches c end lines inputs l1 f e1 e = rw (e1, e) refl

pub written-outputs : (c : Counts) (end : ℕ) (lines : List TextLine) (inputs : List ℕ) (latches : List LatchLine) (l1 l2 : List TextLine) (f : Fault) →
    read_lines (input_in c) end c.inputs [] lines ≡ Ok (inputs, l1) → read_lines (latch_in c (0 ∷ inputs)) end c.latches [] l1 ≡ Ok (latches, l2) →
    read_lines (root_in c) end c.outputs [] l2 ≡ Err f → written_in c end lines ≡ Err f
unfolding written_in
written-outputs c end lines inputs latches l1 l2 f e1 e2 e = rw (e1, e2, e) refl

pub written-bads : (c : Counts) (end : ℕ) (lines : List TextLine) (inputs : List ℕ) (latches : List LatchLine) (outputs : List RootLine) (l1 l2 l3 : List TextLine) (f : Fault) →
    read_lines (input_in c) end c.inputs [] lines ≡ Ok (inputs, l1) → read_lines (latch_in c (0 ∷ inputs)) end c.latches [] l1 ≡ Ok (latches, l2) →
    read_lines (root_in c) end c.outputs [] l2 ≡ Ok (outputs, l3) → read_lines (root_in c) end c.bads [] l3 ≡ Err f → written_in c end lines ≡ Err f
unfolding written_in
written-bads c end lines inputs latches outputs l1 l2 l3 f e1 e2 e3 e = rw (e1, e2, e3, e) refl

pub written-gates : (c : Counts) (end : ℕ) (lines : List TextLine) (inputs : List ℕ) (latches : List LatchLine) (outputs bads : List RootLine) (l1 l2 l3 l4 : List TextLine) (f : Fault) →
    read_lines (input_in c) end c.inputs [] lines ≡ Ok (inputs, l1) → read_lines (latch_in c (0 ∷ inputs)) end c.latches [] l1 ≡ Ok (latches, l2) →
    read_lines (root_in c) end c.outputs [] l2 ≡ Ok (outputs, l3) → read_lines (root_in c) end c.bads [] l3 ≡ Ok (bads, l4) →
    read_lines (gate_in c (leaves_of inputs latches)) end c.gates [] l4 ≡ Err f → written_in c end lines ≡ Err f
unfolding written_in
written-gates c end lines inputs latches outputs bads l1 l2 l3 l4 f e1 e2 e3 e4 e = rw (e1, e2, e3, e4, e) refl

pub written-symbols : (c : Counts) (end : ℕ) (lines : List TextLine) (inputs : List ℕ) (latches : List LatchLine) (outputs bads : List RootLine) (gates : List GateLine)
    (l1 l2 l3 l4 l5 : List TextLine) (f : Fault) →
    read_lines (input_in c) end c.inputs [] lines ≡ Ok (inputs, l1) → read_lines (latch_in c (0 ∷ inputs)) end c.latches [] l1 ≡ Ok (latches, l2) →
    read_lines (root_in c) end c.outputs [] l2 ≡ Ok (outputs, l3) → read_lines (root_in c) end c.bads [] l3 ≡ Ok (bads, l4) →
    read_lines (gate_in c (leaves_of inputs latches)) end c.gates [] l4 ≡ Ok (gates, l5) → symbols_read c end l5 ≡ Err f → written_in c end lines ≡ Err f
unfolding written_in
written-symbols c end lines inputs latches outputs bads gates l1 l2 l3 l4 l5 f e1 e2 e3 e4 e5 e = rw (e1, e2, e3, e4, e5, e) refl

pub written-all : (c : Counts) (end : ℕ) (lines : List TextLine) (inputs : List ℕ) (latches : List LatchLine) (outputs bads : List RootLine) (gates : List GateLine) (symbols : List Symbol)
    (l1 l2 l3 l4 l5 l6 : List TextLine) →
    read_lines (input_in c) end c.inputs [] lines ≡ Ok (inputs, l1) → read_lines (latch_in c (0 ∷ inputs)) end c.latches [] l1 ≡ Ok (latches, l2) →
    read_lines (root_in c) end c.outputs [] l2 ≡ Ok (outputs, l3) → read_lines (root_in c) end c.bads [] l3 ≡ Ok (bads, l4) →
    read_lines (gate_in c (leaves_of inputs latches)) end c.gates [] l4 ≡ Ok (gates, l5) → symbols_read c end l5 ≡ Ok (symbols, l6) →
    written_in c end lines ≡ Ok (record { inputs = inputs; latches = latches; outputs = outputs; bads = bads; gates = gates; symbols = symbols })
unfolding written_in
written-all c end lines inputs latches outputs bads gates symbols l1 l2 l3 l4 l5 l6 e1 e2 e3 e4 e5 e6 = rw (e1, e2, e3, e4, e5, e6) refl

-- the variables are as few as the header says
pub few-variables : (keys : List ℕ) (inputs : List ℕ) (latches : List LatchLine) (gates : List GateLine) (ci cl cg m : ℕ) → keys ≡ leaves_of inputs latches ++ map (λ (g : GateLine). g.variable) gates →
    ci ≡ length inputs → cl ≡ length latches → cg ≡ length gates → ci + cl + cg ≤ m → m < 1000000000000000000 → length keys ≤ 1000000000000000001
few-variables keys inputs latches gates ci cl cg m is i l g enough small =
    omega (
      arith,
      ap length is,
      length-append (leaves_of inputs latches) (map (λ (g : GateLine). g.variable) gates),
      length-append (0 ∷ inputs) (map (λ (l : LatchLine). l.variable) latches),
      length-map latches (λ (l : LatchLine). l.variable),
      length-map gates (λ (g : GateLine). g.variable),
      i,
      l,
      g,
      enough,
      small,
    )
