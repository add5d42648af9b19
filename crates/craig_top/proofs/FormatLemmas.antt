-- The greatest variable that a solve names, and layouts that are written in a format.
use Rattle.std.proofs.Common.{◌≡◌, ◌≢◌, ◌∙◌, sym, ap, subst, refl, inl, inr, ◌⊎◌, ℕ, zero, suc, ◌+◌, ◌*◌, ◌/◌, ◌<◌, ◌≤◌, Bool, List, [], ◌∷◌, ◌++◌, length, get_or, take, map, max, Some, IsTrue, Contains, slice_get, arith, nat_le, leb-true, eq-eqb, nat_eq, ℤ, pos, negsuc, unsigned_abs}
use Rattle.std.proofs.lemmas.Bool.{cases_Bool, eqb-true, or_cases, or_left, or_right}
use Rattle.std.proofs.lemmas.Bool.Decides.{nat_tests}
use Rattle.std.proofs.lemmas.Int.{ints}
use Rattle.std.proofs.lemmas.List.{length-map, map-append, map_push, take_more}
use Rattle.std.proofs.lemmas.List.Elements.{All-contains, Contains-get_or}
use Rattle.std.proofs.lemmas.List.Recursion.{max_push}
use Rattle.std.proofs.lemmas.Option.{get_or_from_slice_get}
use Rattle.craig_spec.specs.Circuit.{Gate, IsCircuit, Output, circuit_cone, circuit_value, variable_count}
use Rattle.craig_spec.specs.Cut.{PartClause, PartLiteral, clauses_within, with_units}
use Rattle.craig_spec.specs.DimacsText.{greatest_of_clause, greatest_of_clauses}
use Rattle.craig_spec.specs.FailedAssumptions.{NamesFailed}
use Rattle.craig_spec.specs.Literal.{Clause, Literal}
use Rattle.craig_spec.specs.Occurs.{Occurs, occurs, occurs_in_clause}
use Rattle.craig_aiger.specs.Layouts.{IsWritable, Layout, circuit_of}
use Rattle.craig_aiger.specs.OutNames.{name_text}
use Rattle.craig_aiger.specs.RoundTrip.{SameCircuit}
use Rattle.craig_aiger.specs.declared.out_name.OutName.{OutName}
use Rattle.craig_top.specs.Formats.{greatest_named}
use Rattle.craig_top.specs.GivenState.{State, script_literal}
use Rattle.craig_top.specs.Named.{bare_clauses}
use Rattle.craig_top.specs.Reply.{assumptions_of}
use Rattle.craig_spec.proofs.MemberLemmas.{Contains-from_image, Contains-from_slice_get, slice_get-from_map, slice_get-to_map, slice_get-within}

-- ---- the greatest variable

-- of two lists
pub greatest-append : (cs ds : List Clause) → greatest_of_clauses (cs ++ ds) ≡ max (greatest_of_clauses cs) (greatest_of_clauses ds)
greatest-append [] ds = omega arith
greatest-append (c ∷ cs) ds = omega (arith, greatest-append cs ds)

-- of one clause more
pub greatest-push : (cs : List Clause) (c : Clause) → greatest_of_clauses (cs ++ c ∷ []) ≡ max (greatest_of_clauses cs) (greatest_of_clause c)
greatest-push cs c = max_push greatest_of_clauses greatest_of_clause refl (λ x xs. refl) cs c

-- a variable that occurs is not above it
above-literals : (x : ℕ) (c : Clause) → IsTrue (occurs_in_clause x c) → x ≤ greatest_of_clause c
above-literals x [] e = cc
above-literals x (l ∷ c) e = elim (or_cases (nat_eq x l.var) (occurs_in_clause x c) e) [
  | inl here ↦ (let same : x ≡ l.var = eqb-true x l.var here in omega (arith, same))
  | inr later ↦ omega (arith, above-literals x c later)
]

pub above-clauses : (x : ℕ) (cs : List Clause) → Occurs x cs → x ≤ greatest_of_clauses cs
above-clauses x [] e = cc
above-clauses x (c ∷ cs) e = elim (or_cases (occurs_in_clause x c) (occurs x cs) e) [
  | inl here ↦ omega (arith, above-literals x c here)
  | inr later ↦ omega (arith, above-clauses x cs later)
]

-- the clauses of some parts have no greater one
pub within-parts : (test : ℕ → Bool) (clauses : List PartClause) → greatest_of_clauses (clauses_within test clauses) ≤ greatest_of_clauses (bare_clauses clauses)
within-parts test [] = omega arith
within-parts test (c ∷ clauses) = elim (cases_Bool (test c.part)) [
  | inl e ↦ rw e omega (arith, within-parts test clauses)
  | inr e ↦ rw e omega (arith, within-parts test clauses)
]

-- the units of literals have the greatest one of these
units-greatest : (xs : List PartLiteral) → greatest_of_clauses (bare_clauses (map (λ (l : PartLiteral). record { part = l.part; clause = l.literal ∷ [] }) xs)) ≡ greatest_of_clause (map (λ (a : PartLiteral). a.literal) xs)
units-greatest [] = refl
units-greatest (x ∷ xs) = omega (arith, units-greatest xs)

-- so the clauses with the units have that which is named
pub greatest-with_units : (state : State) (assumptions : List PartLiteral) → greatest_of_clauses (bare_clauses (with_units state.accepted assumptions)) ≡ greatest_named state assumptions
greatest-with_units state assumptions =
    let units : List PartClause = map (λ (l : PartLiteral). record { part = l.part; clause = l.literal ∷ [] }) assumptions in
    ap greatest_of_clauses (map-append (λ (c : PartClause). c.clause) state.accepted units) ∙ greatest-append (bare_clauses state.accepted) (bare_clauses units)
    ∙ ap (max (greatest_of_clauses (bare_clauses state.accepted))) (units-greatest assumptions)

-- a variable that occurs in the clauses or the assumptions is not above it
pub named-above : (state : State) (assumptions : List PartLiteral) (x : ℕ) → Occurs x (bare_clauses (with_units state.accepted assumptions)) → x ≤ greatest_named state assumptions
named-above state assumptions x e = subst (λ n. x ≤ n) (greatest-with_units state assumptions) (above-clauses x (bare_clauses (with_units state.accepted assumptions)) e)

-- one of two numbers is not above the other
le_cases : (m n : ℕ) → (m ≤ n) ⊎ (n ≤ m)
le_cases m n = elim (cases_Bool (nat_le m n)) [
  | inl e ↦ inl (leb-true m n e)
  | inr e ↦ inr (let below : n < m = grind (arith, nat_tests, e) in omega (arith, below))
]

-- and unless it is 0, it occurs
of-literals : (c : Clause) → greatest_of_clause c ≢ 0 → IsTrue (occurs_in_clause (greatest_of_clause c) c)
of-literals [] e = absurd (e refl)
of-literals (l ∷ c) e = elim (le_cases (greatest_of_clause c) l.var) [
  | inl below ↦ (
      let is : max l.var (greatest_of_clause c) ≡ l.var = omega (arith, below) in
      or_left _ _ (eq-eqb (max l.var (greatest_of_clause c)) l.var is))
  | inr above ↦ (
      let is : max l.var (greatest_of_clause c) ≡ greatest_of_clause c = omega (arith, above) in
      or_right _ _ (subst (λ n. IsTrue (occurs_in_clause n c)) (sym is) (of-literals c (λ none. e (omega (arith, above, none))))))
]

of-clauses : (cs : List Clause) → greatest_of_clauses cs ≢ 0 → Occurs (greatest_of_clauses cs) cs
of-clauses [] e = absurd (e refl)
of-clauses (c ∷ cs) e = elim (le_cases (greatest_of_clauses cs) (greatest_of_clause c)) [
  | inl below ↦ (
      let is : max (greatest_of_clause c) (greatest_of_clauses cs) ≡ greatest_of_clause c = omega (arith, below) in
      or_left _ _ (subst (λ n. IsTrue (occurs_in_clause n c)) (sym is) (of-literals c (λ none. e (omega (arith, below, none))))))
  | inr above ↦ (
      let is : max (greatest_of_clause c) (greatest_of_clauses cs) ≡ greatest_of_clauses cs = omega (arith, above) in
      or_right _ _ (subst (λ n. Occurs n cs) (sym is) (of-clauses cs (λ none. e (omega (arith, above, none))))))
]

pub named-reached : (state : State) (assumptions : List PartLiteral) → greatest_named state assumptions ≢ 0 → Occurs (greatest_named state assumptions) (bare_clauses (with_units state.accepted assumptions))
named-reached state assumptions some =
    let same = greatest-with_units state assumptions in
    subst (λ n. Occurs n (bare_clauses (with_units state.accepted assumptions))) same (of-clauses (bare_clauses (with_units state.accepted assumptions)) (λ none. some (sym same ∙ none)))

-- a member is not above the greatest one
member-above : (xs : List PartLiteral) (x : PartLiteral) → Contains xs x → x.literal.var ≤ greatest_of_clause (map (λ (a : PartLiteral). a.literal) xs)
member-above [] x (k, within, at) = absurd (omega (arith, within))
member-above (y ∷ xs) x (zero, within, at) = let same : y.literal.var ≡ x.literal.var = ap (λ (a : PartLiteral). a.literal.var) at in omega (arith, same)
member-above (y ∷ xs) x (suc k, within, at) = omega (arith, member-above xs x (k, omega (arith, within), at))

-- where each member is below a number, so is the greatest one
each-below : (xs : List PartLiteral) (n : ℕ) → ((x : PartLiteral) → Contains xs x → x.literal.var ≤ n) → greatest_of_clause (map (λ (a : PartLiteral). a.literal) xs) ≤ n
each-below [] n each = omega arith
each-below (x ∷ xs) n each = omega (arith, each x (0, omega arith, refl), each-below xs n (λ y here. each y (suc here.0, omega (arith, here.1), here.2)))

-- a member stands at a place
place_of : {A : Type 0} (xs : List A) (x : A) → Contains xs x → (k : ℕ) × (slice_get xs k ≡ Some x)
place_of xs x (k, within, at) =
    let found = slice_get-within xs k within in
    (k, found.1 ∙ ap Some (sym (get_or_from_slice_get xs k found.0 x found.1) ∙ at))

-- the failed assumptions are among the assumptions
failed-given : (assumptions failed : List PartLiteral) → NamesFailed assumptions failed → (x : PartLiteral) → Contains failed x → Contains assumptions x
failed-given assumptions failed names x here =
    let at = place_of failed x here in
    let image : slice_get (map Some failed) at.0 ≡ Some (Some x) = slice_get-to_map Some failed at.0 x at.1 in
    let place = slice_get-from_map (slice_get assumptions) names.places at.0 (Some x) (ap (λ ys. slice_get ys at.0) names.failed_are ∙ image) in
    Contains-from_slice_get assumptions place.0 x place.2

-- so they have no greater variable
pub failed-within : (state : State) (assumptions failed : List PartLiteral) → NamesFailed assumptions failed → greatest_named state failed ≤ greatest_named state assumptions
failed-within state assumptions failed names =
    let below = each-below failed (greatest_of_clause (map (λ (a : PartLiteral). a.literal) assumptions)) (λ x here. member-above assumptions x (failed-given assumptions failed names x here)) in
    omega (arith, below)

-- the greatest variable that a solve names, from that of the clauses and that of the pairs
pairs-literals : (pairs : List (ℕ × ℤ)) → map (λ (a : PartLiteral). a.literal) (assumptions_of pairs) ≡ map (λ (pair : ℕ × ℤ). script_literal pair.1) pairs
pairs-literals [] = refl
pairs-literals (pair ∷ pairs) = ap (λ (ls : List Literal). script_literal pair.1 ∷ ls) (pairs-literals pairs)

pub named-top : (state : State) (pairs : List (ℕ × ℤ)) (greatest assumed top : ℕ) → greatest ≡ greatest_of_clauses (bare_clauses state.accepted) → assumed ≡ greatest_of_clause (map (λ (pair : ℕ × ℤ). script_literal pair.1) pairs) → top ≡ max greatest assumed
    → greatest_named state (assumptions_of pairs) ≡ top
named-top state pairs greatest assumed top accepted given is = let same : greatest_of_clause (map (λ (a : PartLiteral). a.literal) (assumptions_of pairs)) ≡ greatest_of_clause (map (λ (pair : ℕ × ℤ). script_literal pair.1) pairs) = ap greatest_of_clause (pairs-literals pairs) in omega (arith, same, accepted, given, is)

-- ---- the greatest variable of numbers, one by one

-- the variable of the literal that a number stands for
pub variable_of : (z : ℤ) → unsigned_abs z ≡ (script_literal z).var
variable_of (pos n) = refl
variable_of (negsuc n) = omega (arith, ints)

pub literals-more : (zs : List ℤ) (i : ℕ) (d : ℤ) (v greatest next : ℕ) → i < length zs → v ≡ (script_literal (get_or zs i d)).var → greatest ≡ greatest_of_clause (map script_literal (take i zs)) → next ≡ max v greatest
    → next ≡ greatest_of_clause (map script_literal (take (i + 1) zs))
literals-more zs i d v greatest next within var was now =
    let z = get_or zs i d in
    let all : greatest_of_clause (map script_literal (take (i + 1) zs)) ≡ max (greatest_of_clause (map script_literal (take i zs))) (script_literal z).var =
    ap (λ ys. greatest_of_clause (map script_literal ys)) (take_more zs i d within)
    ∙ ap greatest_of_clause (map_push script_literal (take i zs) z) ∙ max_push greatest_of_clause (λ (l : Literal). l.var) refl (λ x xs. refl) (map script_literal (take i zs)) (script_literal z) in
    omega (arith, all, var, was, now)

pub pairs-more : (pairs : List (ℕ × ℤ)) (i : ℕ) (d : ℕ × ℤ) (v greatest next : ℕ) → i < length pairs → v ≡ (script_literal (get_or pairs i d).1).var → greatest ≡ greatest_of_clause (map (λ (q : ℕ × ℤ). script_literal q.1) (take i pairs)) → next ≡ max v greatest
    → next ≡ greatest_of_clause (map (λ (q : ℕ × ℤ). script_literal q.1) (take (i + 1) pairs))
pairs-more pairs i d v greatest next within var was now =
    let literal : ℕ × ℤ → Literal = λ (q : ℕ × ℤ). script_literal q.1 in
    let p = get_or pairs i d in
    let all : greatest_of_clause (map literal (take (i + 1) pairs)) ≡ max (greatest_of_clause (map literal (take i pairs))) (script_literal p.1).var =
    ap (λ ys. greatest_of_clause (map literal ys)) (take_more pairs i d within)
    ∙ ap greatest_of_clause (map_push literal (take i pairs) p) ∙ max_push greatest_of_clause (λ (l : Literal). l.var) refl (λ x xs. refl) (map literal (take i pairs)) (literal p) in
    omega (arith, all, var, was, now)

-- ---- a layout as a circuit

-- a gate of the layout's circuit
abbrev as_gate : (ℕ × ℕ) → Gate
as_gate g = record { left = g.0; right = g.1 }

-- an output of the layout's circuit
abbrev as_output : (OutName × ℕ) → Output
as_output o = record { name = name_text o.0; literal = o.1 }

images : {A : Type 0} (f : Output → A) (os : List (OutName × ℕ)) → map f (map as_output os) ≡ map (λ (o : OutName × ℕ). f (as_output o)) os
images f [] = refl
images f (o ∷ os) = ap (λ ys. f (as_output o) ∷ ys) (images f os)

-- it is a circuit
pub layout_is_circuit : (l : Layout) → IsWritable l → IsCircuit (circuit_of l)
layout_is_circuit l is = record {
  operands = λ j g at. let s = is.strict.operands j g at in (s.2, omega (arith, s.1, s.2));
  literals = λ k d within.
      let m = Contains-from_image as_output l.outputs (get_or (map as_output l.outputs) k d) (Contains-get_or (map as_output l.outputs) k d within) in
      let small : m.0.1 < 2 * (1 + length l.inputs + length l.gates) = All-contains (λ (o : OutName × ℕ). o.1 < 2 * (1 + length l.inputs + length l.gates)) l.outputs m.0 is.literals m.1 in
      let below : m.0.1 / 2 < variable_count (circuit_of l) = (let count : length (circuit_of l).gates ≡ length l.gates = length-map l.gates as_gate in omega (arith, small, count)) in
      subst (λ (p : Output). p.literal / 2 < variable_count (circuit_of l)) (sym m.2) below;
}

-- it is the circuit that it is
pub same_as_itself : (l : Layout) → IsCircuit (circuit_of l) → SameCircuit l (circuit_of l)
same_as_itself l is = record {
  is_circuit = is;
  inputs_are = refl;
  names_are = images (λ (o : Output). o.name) l.outputs;
  values_are = λ s. images (λ (o : Output). circuit_value s (circuit_of l) o.literal) l.outputs;
  cones_are = images (λ (o : Output). circuit_cone (circuit_of l) o.literal) l.outputs;
  constants = λ j o at below. (as_output o, slice_get-to_map as_output l.outputs j o at, refl);
}
