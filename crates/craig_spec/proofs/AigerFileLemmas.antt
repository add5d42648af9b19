-- The file that a text writes: no gate stands before one that it uses, and whatever is used is there.
use Rattle.std.proofs.Common.{◌≡◌, ℕ, zero, suc, ◌+◌, ◌/◌, ◌<◌, Bool, true, false, not, ◌||◌, cond, List, [], ◌∷◌, ◌++◌, length, map, All, Option, Some, None, Result, Ok, Err, slice_get, refl, sym, ap, ◌∙◌, subst, length-append, arith}
use Rattle.std.specs.Option.{option_map}
use Rattle.std.specs.List.{enumerate_from, find, list_any}
use Rattle.std.proofs.lemmas.Bool.{or_parts}
use Rattle.std.proofs.lemmas.List.{length-map}
use Rattle.std.proofs.lemmas.List.Elements.{All-cons, All-nil}
use Rattle.std.proofs.lemmas.List.Folds.{list_any-append}
use Rattle.std.proofs.lemmas.List.FromFn.{length-map-range_with_len}
use Rattle.craig_spec.specs.Circuit.{Gate}
use Rattle.craig_spec.specs.AigerFault.{Fault, FaultKind}
use Rattle.craig_spec.specs.AigerReading.{AigerFile, Counts, FileLatch, FileRoot, GateLine, IsDefinedFile, LatchLine, RootLine, Symbol, TextLine, Use, Written, by_depth, aag_reading, file_by, file_variables, file_written, first_cyclic, first_gate, first_undefined, gate_use, header_in, is_new, latch_use, leaves_of, lines_of, moved, moved_gates, name_of, named_latches, named_roots, numbered, numbered_gates, read_from, root_use, unless_found, uses_of, uses_other, variables_of, written_in, ◌>>=◌}
use Rattle.craig_spec.proofs.AigerDepthLemmas.{HaveDepths, HaveDepths-found, is_deepless}
use Rattle.craig_spec.proofs.AigerOrderLemmas.{has, in_first}
use Rattle.craig_spec.proofs.AigerMovedLemmas.{AreInside, InOrder-moved, IsOrder, IsOrder-by_depth, moved_within}
use Rattle.craig_spec.proofs.MemberLemmas.{slice_get-from_map}

-- where nothing is found, nothing passes the test
none-found-by : {X : Type 0} (test : X → Bool) (x : X) (xs : List X) (t : Bool) → test x ≡ t → cond t (Some x) (find test xs) ≡ None → (find test xs ≡ None → list_any test xs ≡ false) → (t || list_any test xs) ≡ false
none-found-by test x xs true e h rest = absurd (some-none x h)
  where
    some-none : {A : Type 0} (y : A) → ◌≡◌ {A = Option A} (Some y) None → ⊥
    some-none y e = cc
none-found-by test x xs false e h rest = rest h

none-found : {X : Type 0} (test : X → Bool) (xs : List X) → find test xs ≡ None → list_any test xs ≡ false
none-found test [] h = refl
none-found test (x ∷ xs) h = none-found-by test x xs (test x) refl h (none-found test xs)

no-place : {X : Type 0} (f : X → ℕ) (o : Option X) → option_map f o ≡ None → o ≡ None
no-place f None e = refl
no-place f (Some x) e = cc

not-false : (b : Bool) → not b ≡ false → b ≡ true
not-false true e = refl
not-false false e = cc

-- a literal whose variable is among these has a number below theirs
numbered-inside : (variables : List ℕ) (l : ℕ) → is_new variables l ≡ false → numbered variables l / 2 < length variables
numbered-inside variables l known =
    let there : has variables (l / 2) ≡ true = not-false (has variables (l / 2)) known in
    omega (arith, (in_first variables [] (l / 2) there).within)

-- the literals of latches, and of outputs or bad literals
nexts-inside : (variables : List ℕ) (renumbered : ℕ → ℕ) (n : ℕ) (symbols : List Symbol) (i : ℕ) (ls : List LatchLine) → ((l : ℕ) → is_new variables l ≡ false → renumbered l / 2 < n) → list_any (uses_other variables) (map latch_use ls) ≡ false →
    All (λ (l : FileLatch). l.next / 2 < n) (named_latches renumbered symbols i ls)
nexts-inside variables renumbered n symbols i [] inside none = All-nil (λ (l : FileLatch). l.next / 2 < n)
nexts-inside variables renumbered n symbols i (l ∷ ls) inside none =
    let p = or_parts (uses_other variables (latch_use l)) (list_any (uses_other variables) (map latch_use ls)) none in
    let one = or_parts (is_new variables l.next) false p.0 in
    All-cons (λ (l : FileLatch). l.next / 2 < n) (record { next = renumbered l.next; reset = l.reset; name = name_of symbols 108 i }) (named_latches renumbered symbols (i + 1) ls) (inside l.next one.0) (nexts-inside variables renumbered n symbols (i + 1) ls inside p.1)

roots-inside : (variables : List ℕ) (renumbered : ℕ → ℕ) (n : ℕ) (symbols : List Symbol) (letter i : ℕ) (rs : List RootLine) → ((l : ℕ) → is_new variables l ≡ false → renumbered l / 2 < n) → list_any (uses_other variables) (map root_use rs) ≡ false →
    All (λ (r : FileRoot). r.literal / 2 < n) (named_roots renumbered symbols letter i rs)
roots-inside variables renumbered n symbols letter i [] inside none = All-nil (λ (r : FileRoot). r.literal / 2 < n)
roots-inside variables renumbered n symbols letter i (r ∷ rs) inside none =
    let p = or_parts (uses_other variables (root_use r)) (list_any (uses_other variables) (map root_use rs)) none in
    let one = or_parts (is_new variables r.literal) false p.0 in
    All-cons (λ (r : FileRoot). r.literal / 2 < n) (record { literal = renumbered r.literal; name = name_of symbols letter i }) (named_roots renumbered symbols letter (i + 1) rs) (inside r.literal one.0) (roots-inside variables renumbered n symbols letter (i + 1) rs inside p.1)

length-named_latches : (renumbered : ℕ → ℕ) (symbols : List Symbol) (i : ℕ) (ls : List LatchLine) → length (named_latches renumbered symbols i ls) ≡ length ls
length-named_latches renumbered symbols i [] = refl
length-named_latches renumbered symbols i (l ∷ ls) = ap suc (length-named_latches renumbered symbols (i + 1) ls)

-- the operands of a gate line
gate-inside : (variables : List ℕ) (gs : List GateLine) (j : ℕ) (g : GateLine) → list_any (uses_other variables) (map gate_use gs) ≡ false → slice_get gs j ≡ Some g → (is_new variables g.left ≡ false) × (is_new variables g.right ≡ false)
gate-inside variables [] j g none e = absurd cc
gate-inside variables (h ∷ gs) zero g none e =
    let same : h ≡ g = cc in
    let p = or_parts (uses_other variables (gate_use h)) (list_any (uses_other variables) (map gate_use gs)) none in
    let one = or_parts (is_new variables h.left) (is_new variables h.right || false) p.0 in
    let two = or_parts (is_new variables h.right) false one.1 in
    (ap (λ (x : GateLine). is_new variables x.left) (sym same) ∙ one.0, ap (λ (x : GateLine). is_new variables x.right) (sym same) ∙ two.0)
gate-inside variables (h ∷ gs) (suc j) g none e =
    let p = or_parts (uses_other variables (gate_use h)) (list_any (uses_other variables) (map gate_use gs)) none in
    gate-inside variables gs j g p.1 e

-- what was written without a fault
record IsWritten (w : Written) (f : AigerFile) : Type 0 where
  defined : first_undefined w ≡ None
  acyclic : first_cyclic (first_gate w) (numbered_gates (variables_of w) w.gates) w.gates ≡ None
  is : f ≡ file_by w (first_gate w) (numbered_gates (variables_of w) w.gates) (by_depth (first_gate w) (numbered_gates (variables_of w) w.gates))

written-by : (w : Written) (f g : AigerFile) (a b : Option ℕ) → first_undefined w ≡ a → first_cyclic (first_gate w) (numbered_gates (variables_of w) w.gates) w.gates ≡ b →
    g ≡ file_by w (first_gate w) (numbered_gates (variables_of w) w.gates) (by_depth (first_gate w) (numbered_gates (variables_of w) w.gates)) →
    unless_found FaultKind.Undefined a (unless_found FaultKind.Cycle b (Ok g)) ≡ Ok f → IsWritten w f
written-by w f g None None d c made e = record { defined = d; acyclic = c; is = (let same : g ≡ f = cc in sym same ∙ made) }
written-by w f g None (Some m) d c made e = absurd cc
written-by w f g (Some m) b d c made e = absurd cc

written : (w : Written) (f : AigerFile) → file_written w ≡ Ok f → IsWritten w f
unfolding file_written
written w f e = written-by w f _ (first_undefined w) (first_cyclic (first_gate w) (numbered_gates (variables_of w) w.gates) w.gates) refl refl refl e

module _ (w : Written) (f : AigerFile) (h : IsWritten w f) where
  abbrev variables : List ℕ
  variables = variables_of w

  abbrev first : ℕ
  first = first_gate w

  abbrev gates : List Gate
  gates = numbered_gates variables w.gates

  abbrev order : List ℕ
  order = by_depth first gates

  none : list_any (uses_other variables) (uses_of w) ≡ false
  none = none-found (uses_other variables) (uses_of w) (no-place (λ (u : Use). u.offset) (find (uses_other variables) (uses_of w)) h.defined)

  latch_parts : (list_any (uses_other variables) (map latch_use w.latches) ≡ false) × (list_any (uses_other variables) (map root_use w.outputs ++ (map root_use w.bads ++ map gate_use w.gates)) ≡ false)
  latch_parts = or_parts (list_any (uses_other variables) (map latch_use w.latches)) (list_any (uses_other variables) (map root_use w.outputs ++ (map root_use w.bads ++ map gate_use w.gates)))
      (sym (list_any-append (uses_other variables) (map latch_use w.latches) (map root_use w.outputs ++ (map root_use w.bads ++ map gate_use w.gates))) ∙ none)

  output_parts : (list_any (uses_other variables) (map root_use w.outputs) ≡ false) × (list_any (uses_other variables) (map root_use w.bads ++ map gate_use w.gates) ≡ false)
  output_parts = or_parts (list_any (uses_other variables) (map root_use w.outputs)) (list_any (uses_other variables) (map root_use w.bads ++ map gate_use w.gates))
      (sym (list_any-append (uses_other variables) (map root_use w.outputs) (map root_use w.bads ++ map gate_use w.gates)) ∙ latch_parts.1)

  bad_parts : (list_any (uses_other variables) (map root_use w.bads) ≡ false) × (list_any (uses_other variables) (map gate_use w.gates) ≡ false)
  bad_parts = or_parts (list_any (uses_other variables) (map root_use w.bads)) (list_any (uses_other variables) (map gate_use w.gates))
      (sym (list_any-append (uses_other variables) (map root_use w.bads) (map gate_use w.gates)) ∙ output_parts.1)

  gate_count : length gates ≡ length w.gates
  gate_count = length-map w.gates (λ (g : GateLine). record { left = numbered variables g.left; right = numbered variables g.right })

  variable_count : length variables ≡ first + length gates
  variable_count =
      let all : length variables ≡ first + length (map (λ (g : GateLine). g.variable) w.gates) = length-append (leaves_of w.inputs w.latches) (map (λ (g : GateLine). g.variable) w.gates) in
      omega (arith, all, length-map w.gates (λ (g : GateLine). g.variable), gate_count)

  first_is : first ≡ 1 + length w.inputs + length w.latches
  first_is = omega (arith, length-append (0 ∷ w.inputs) (map (λ (l : LatchLine). l.variable) w.latches), length-map w.latches (λ (l : LatchLine). l.variable))

  gates_inside : AreInside first gates
  gates_inside j g is =
      let p = slice_get-from_map (λ (g : GateLine). record { left = numbered variables g.left; right = numbered variables g.right }) w.gates j g is in
      let q = gate-inside variables w.gates j p.0 bad_parts.1 p.1 in
      let left : g.left ≡ numbered variables p.0.left = sym (ap (λ (x : Gate). x.left) p.2) in
      let right : g.right ≡ numbered variables p.0.right = sym (ap (λ (x : Gate). x.right) p.2) in
      (omega (arith, left, variable_count, numbered-inside variables p.0.left q.0), omega (arith, right, variable_count, numbered-inside variables p.0.right q.1))

  have_depths : HaveDepths first gates
  have_depths = HaveDepths-found first gates w.gates gate_count (no-place (λ (p : ℕ × GateLine). p.1.offset) (find (is_deepless first gates) (enumerate_from 0 w.gates)) h.acyclic)

  is_order : IsOrder first gates order
  is_order = IsOrder-by_depth first gates gates_inside have_depths

  literal_inside : (l : ℕ) → is_new variables l ≡ false → moved first order (numbered variables l) / 2 < first + length (moved_gates first gates order)
  literal_inside l known = moved_within first gates order is_order (numbered variables l) (omega (arith, variable_count, numbered-inside variables l known))

  inputs_count : length (file_by w first gates order).inputs ≡ length w.inputs
  inputs_count = length-map-range_with_len (name_of w.symbols 105) 0 (length w.inputs)

  latches_count : length (file_by w first gates order).latches ≡ length w.latches
  latches_count = length-named_latches (λ l. moved first order (numbered variables l)) w.symbols 0 w.latches

  below_is : 1 + length (file_by w first gates order).inputs + length (file_by w first gates order).latches ≡ first
  below_is = omega (arith, inputs_count, latches_count, first_is)

  many_is : first + length (moved_gates first gates order) ≡ file_variables (file_by w first gates order)
  many_is = omega (arith, below_is)

  each_inside : (l : ℕ) → is_new variables l ≡ false → moved first order (numbered variables l) / 2 < file_variables (file_by w first gates order)
  each_inside l known = omega (arith, literal_inside l known, many_is)

  made : IsDefinedFile (file_by w first gates order)
  made = record {
    operands = λ j g is. let o = InOrder-moved first gates order is_order j g is in (omega (arith, o.0, below_is), omega (arith, o.1, below_is));
    nexts = nexts-inside variables (λ l. moved first order (numbered variables l)) (file_variables (file_by w first gates order)) w.symbols 0 w.latches each_inside latch_parts.0;
    outputs = roots-inside variables (λ l. moved first order (numbered variables l)) (file_variables (file_by w first gates order)) w.symbols 111 0 w.outputs each_inside output_parts.0;
    bads = roots-inside variables (λ l. moved first order (numbered variables l)) (file_variables (file_by w first gates order)) w.symbols 98 0 w.bads each_inside bad_parts.0;
  }

  defined : IsDefinedFile f
  defined = subst IsDefinedFile (sym h.is) made

-- what is read in the end was written
from_written-by : (c : Result Written Fault) (f : AigerFile) → (c >>= file_written) ≡ Ok f → (w : Written) × (file_written w ≡ Ok f)
from_written-by (Ok w) f e = (w, e)
from_written-by (Err x) f e = absurd cc

from_counts-by : (c : Result Counts Fault) (rest : Counts → Result Written Fault) (f : AigerFile) → (c >>= λ k. (rest k >>= file_written)) ≡ Ok f → (w : Written) × (file_written w ≡ Ok f)
from_counts-by (Ok k) rest f e = from_written-by (rest k) f e
from_counts-by (Err x) rest f e = absurd cc

from_lines : (end : ℕ) (lines : List TextLine) (f : AigerFile) → read_from end lines ≡ Ok f → (w : Written) × (file_written w ≡ Ok f)
from_lines end [] f e = absurd cc
from_lines end (line ∷ lines) f e = from_counts-by (header_in line) (λ c. written_in c end lines) f e

-- the file of a text is defined
pub IsDefinedFile-aag : (bytes : List ℕ) (f : AigerFile) → aag_reading bytes ≡ Ok f → IsDefinedFile f
unfolding aag_reading
IsDefinedFile-aag bytes f e =
    let w = from_lines (length bytes) (lines_of bytes) f e in
    defined w.0 f (written w.0 f w.1)
