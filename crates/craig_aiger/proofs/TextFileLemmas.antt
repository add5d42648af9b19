-- The file that is written so, and the circuit that it is.
use Rattle.std.proofs.Common.{◌≡◌, ℕ, ◌+◌, ◌<◌, ◌/◌, false, eqb, eq-eqb, List, [], ◌∷◌, ◌++◌, length, get_or, map, None, Ok, refl, ap, ◌∙◌, arith}
use Rattle.std.specs.List.{find, range_with_len}
use Rattle.std.specs.Option.{option_map}
use Rattle.std.proofs.lemmas.Bool.Decides.{nat_tests}
use Rattle.std.proofs.lemmas.List.{append-nil, length-map}
use Rattle.std.proofs.lemmas.List.FromFn.{get_or-range_with_len, length-range_with_len}
use Rattle.std.proofs.lemmas.List.Sums.{position_or_len_is}
use Rattle.craig_spec.specs.Circuit.{Gate}
use Rattle.craig_spec.specs.AigerReading.{GateLine, RootLine, Symbol, Use, Written, by_depth, file_by, file_written, first_cyclic, first_gate, first_undefined, gate_use, is_new, numbered, numbered_gates, place_in, root_use, uses_of, uses_other, variables_of}
use Rattle.craig_spec.proofs.AigerDepthLemmas.{HaveDepths-none, HaveDepths-ordered, InOrder}
use Rattle.craig_spec.proofs.AigerOrderLemmas.{has-range}
use Rattle.craig_spec.proofs.EachLemmas.{Each}
use Rattle.craig_aiger.proofs.TextSectionLemmas.{operands_of, range-split, variables_of_gates}
use Rattle.craig_aiger.proofs.TextWrittenLemmas.{range-one, written_of}

pub each_mapped : {X Y : Type 0} (P : Y → Type 0) (f : X → Y) (xs : List X) → Each P (map f xs) → Each (λ x. P (f x)) xs
each_mapped P f [] h = tt
each_mapped P f (x ∷ xs) h = (h.0, each_mapped P f xs h.1)

pub to_map : {X Y : Type 0} (P : Y → Type 0) (f : X → Y) (xs : List X) → Each (λ x. P (f x)) xs → Each P (map f xs)
to_map P f [] h = tt
to_map P f (x ∷ xs) h = (h.0, to_map P f xs h.1)

-- the place of a number among the first ones
place_in-range : (n v : ℕ) → v < n → place_in (range_with_len 0 n) v ≡ v
place_in-range n v within =
    position_or_len_is (eqb v) (range_with_len 0 n) v 0 (omega (arith, within, length-range_with_len 0 n))
    (λ k below. let e : get_or (range_with_len 0 n) k 0 ≡ 0 + k = get_or-range_with_len 0 n k 0 (omega (arith, below, within)) in rw e (let f : eqb v (0 + k) ≡ false = grind (arith, nat_tests, below) in f))
    (λ inside. let e : get_or (range_with_len 0 n) v 0 ≡ 0 + v = get_or-range_with_len 0 n v 0 within in rw e (eq-eqb v (0 + v) (omega arith)))

-- variables that are numbered in order keep their numbers
numbered-range : (n l : ℕ) → l / 2 < n → numbered (range_with_len 0 n) l ≡ l
numbered-range n l within = rw (place_in-range n (l / 2) within) (omega arith)

known-range : (n l : ℕ) → l / 2 < n → is_new (range_with_len 0 n) l ≡ false
known-range n l within = rw (has-range 0 n (l / 2) (omega arith) (omega (arith, within))) refl

-- the gate of two operand literals
abbrev pub to_gate : (ℕ × ℕ) → Gate
to_gate g = record { left = g.0; right = g.1 }

abbrev pub Within : ℕ → (ℕ × ℕ) → Type 0
Within n p = (p.0 / 2 < n) × (p.1 / 2 < n)

gates_numbered : (n : ℕ) (lines : List GateLine) → Each (λ (g : GateLine). Within n (g.left, g.right)) lines → numbered_gates (range_with_len 0 n) lines ≡ map to_gate (operands_of lines)
gates_numbered n [] h = refl
gates_numbered n (g ∷ lines) h =
    let l : numbered (range_with_len 0 n) g.left ≡ g.left = numbered-range n g.left h.0.0 in
    let r : numbered (range_with_len 0 n) g.right ≡ g.right = numbered-range n g.right h.0.1 in
    ap (λ (x : ℕ). record { left = x; right = numbered (range_with_len 0 n) g.right } ∷ numbered_gates (range_with_len 0 n) lines) l
    ∙ ap (λ (x : ℕ). record { left = g.left; right = x } ∷ numbered_gates (range_with_len 0 n) lines) r ∙ ap (λ gs. record { left = g.left; right = g.right } ∷ gs) (gates_numbered n lines h.1)

-- every literal that is used has a variable that is defined
no_root : (n : ℕ) (roots : List RootLine) (rest : List Use) → Each (λ (r : RootLine). r.literal / 2 < n) roots → find (uses_other (range_with_len 0 n)) (map root_use roots ++ rest) ≡ find (uses_other (range_with_len 0 n)) rest
no_root n [] rest h = refl
no_root n (r ∷ roots) rest h = rw (known-range n r.literal h.0) (no_root n roots rest h.1)

no_gate : (n : ℕ) (gates : List GateLine) → Each (λ (g : GateLine). Within n (g.left, g.right)) gates → find (uses_other (range_with_len 0 n)) (map gate_use gates) ≡ None
no_gate n [] h = refl
no_gate n (g ∷ gates) h = rw (known-range n g.left h.0.0, known-range n g.right h.0.1) (no_gate n gates h.1)

module _ (inputs : List ℕ) (outputs : List RootLine) (lines : List GateLine) (symbols : List Symbol) (many count : ℕ) (inputs_are : inputs ≡ range_with_len 1 many) (variables_are : variables_of_gates lines ≡ range_with_len (1 + many) count)
    (roots_within : Each (λ (r : RootLine). r.literal / 2 < 1 + many + count) outputs) (gates_within : Each (λ (g : GateLine). Within (1 + many + count) (g.left, g.right)) lines) where
  abbrev w : Written
  w = written_of inputs outputs lines symbols

  variables : variables_of w ≡ range_with_len 0 (1 + many + count)
  variables =
      ap (λ l. l ++ variables_of_gates lines) (append-nil (0 ∷ inputs) ∙ ap (λ xs. 0 ∷ xs) inputs_are ∙ range-one many) ∙ ap (λ l. range_with_len 0 (1 + many) ++ l) variables_are
      ∙ ap (λ n. range_with_len 0 (1 + many) ++ range_with_len n count) (let e : 1 + many ≡ 0 + (1 + many) = omega arith in e) ∙ range-split 0 (1 + many) count

  first_is : first_gate w ≡ 1 + many
  first_is = ap length (append-nil (0 ∷ inputs) ∙ ap (λ xs. 0 ∷ xs) inputs_are ∙ range-one many) ∙ length-range_with_len 0 (1 + many)

  undefined_none : first_undefined w ≡ None
  undefined_none =
      ap (λ r. option_map (λ (u : Use). u.offset) (find (uses_other r) (uses_of w))) variables
      ∙ ap (option_map (λ (u : Use). u.offset)) (no_root (1 + many + count) outputs (map gate_use lines) roots_within ∙ no_gate (1 + many + count) lines gates_within)

  gates_are : numbered_gates (variables_of w) lines ≡ map to_gate (operands_of lines)
  gates_are = ap (λ r. numbered_gates r lines) variables ∙ gates_numbered (1 + many + count) lines gates_within

  gate_count : length (map to_gate (operands_of lines)) ≡ length lines
  gate_count = length-map (operands_of lines) to_gate ∙ length-map lines (λ (g : GateLine). (g.left, g.right))

  -- nothing is wrong with the file
  pub file_is : InOrder (1 + many) (map to_gate (operands_of lines)) → file_written w ≡ Ok (file_by w (1 + many) (map to_gate (operands_of lines)) (by_depth (1 + many) (map to_gate (operands_of lines))))
  unfolding file_written
  file_is order =
      let cyclic_none : first_cyclic (1 + many) (map to_gate (operands_of lines)) lines ≡ None = ap (option_map (λ (p : ℕ × GateLine). p.1.offset)) (HaveDepths-none (1 + many) 0 (map to_gate (operands_of lines)) lines (HaveDepths-ordered (1 + many) (map to_gate (operands_of lines)) order) (omega (arith, gate_count))) in
      rw (undefined_none, gates_are, first_is, cyclic_none) refl

  -- a literal keeps its number before the gates are put in order
  pub numbered_same : (l : ℕ) → l / 2 < 1 + many + count → numbered (variables_of w) l ≡ l
  numbered_same l within = ap (λ r. numbered r l) variables ∙ numbered-range (1 + many + count) l within
