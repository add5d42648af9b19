-- The clauses of a text give each gate's variable the value of the gate.
use Rattle.std.proofs.Common.{◌≡◌, ◌∙◌, sym, ap, subst, refl, ℕ, zero, suc, ◌+◌, ◌-◌, ◌*◌, ◌/◌, ◌%◌, ◌<◌, ◌≤◌, Bool, true, false, not, ◌&&◌, ◌||◌, eqb, eqb-true, eq-eqb, nat_le, List, [], ◌∷◌, ◌++◌, length, get_or, map, filter, take, drop, Option, Some, None, slice_get, arith, length-take-le}
use Rattle.std.specs.Bool.{if◌then◌else◌}
use Rattle.std.specs.List.{list_all, list_any, range_with_len}
use Rattle.std.proofs.lemmas.Bool.{or_left, or_right}
use Rattle.std.proofs.lemmas.Bool.Decides.{nat_tests}
use Rattle.std.proofs.lemmas.List.{get_or-map, length-map}
use Rattle.std.proofs.lemmas.List.Folds.{list_any-append}
use Rattle.std.proofs.lemmas.Map.Views.{any-filter_same}
use Rattle.std.proofs.lemmas.Option.{slice_get_within}
use Rattle.craig_spec.specs.Circuit.{Circuit, Gate, each_variable, gate_value, literal_value_in}
use Rattle.craig_spec.specs.CircuitCnf.{CircuitClauses, NamedRoot, Operands, circuit_clauses, circuit_defined, circuit_literal, circuit_variable, circuit_with, clauses_of_cnf, gates_defined, is_root_before, occurs_in_text, read_cnf, script_variables, variable_of_root}
use Rattle.craig_spec.specs.CircuitCnfText.{gates_clauses}
use Rattle.craig_spec.specs.AigerReading.{place_in}
use Rattle.craig_spec.specs.Literal.{Literal, Clause}
use Rattle.craig_spec.specs.Occurs.{occurs}
use Rattle.craig_spec.specs.Truth.{Assignment, literal_value, variable_value}
use Rattle.craig_spec.proofs.AigerOrderLemmas.{at_place, has-range, in_first}
use Rattle.craig_spec.proofs.MemberLemmas.{Contains-from_slice_get, list_any-member, slice_get-to_map, slice_get-within}
use Rattle.craig_spec.proofs.VariableLemmas.{even_value, gates-around, get_or-before, get_or-first, get_or-gate}
use Rattle.craig_cnf.specs.Extension.{AgreeUpTo, HasOneExtension, TextsHaveOneExtension}
use Rattle.craig_cnf.proofs.ConjunctionLemmas.{AreConjunctions, conjunctions-model, model-conjunctions, operands_value}
use Rattle.craig_cnf.proofs.GateClausesLemmas.{AreBefore, AreDefined, IsBefore, gates_are}
use Rattle.craig_cnf.proofs.LayoutReadingLemmas.{range-outside}
use Rattle.craig_cnf.proofs.OccurrenceLemmas.{occurs-operand, uses}

-- a literal has the value that its variable has in a list
literal_same_by : (s : Assignment) (x : ℕ) (negated : Bool) (values : List Bool) (v : ℕ) → variable_value s x ≡ get_or values v false → literal_value s (record { var = x; negated = negated }) ≡ literal_value_in values (2 * v + (if negated then 1 else 0))
literal_same_by s x true values v same =
    let odd : (2 * v + 1) % 2 ≡ 1 = omega arith in
    let half : (2 * v + 1) / 2 ≡ v = omega arith in
    rw (odd, half) (ap not same)
literal_same_by s x false values v same =
    let even : (2 * v + 0) % 2 ≡ 0 = omega arith in
    let half : (2 * v + 0) / 2 ≡ v = omega arith in
    rw (even, half) same

literal_same : (s : Assignment) (l : Literal) (values : List Bool) (v : ℕ) → variable_value s l.var ≡ get_or values v false → literal_value s l ≡ literal_value_in values (2 * v + (if l.negated then 1 else 0))
literal_same s l values v same = literal_same_by s l.var l.negated values v same

-- the operands of the gates stand before them
before_at : (gate : ℕ) (gates : List Operands) (j : ℕ) (g : Operands) → AreBefore gate gates → slice_get gates j ≡ Some g → IsBefore (gate + j) g.left × IsBefore (gate + j) g.right
before_at gate [] j g h is = absurd cc
before_at gate (f ∷ gates) zero g h is =
    let same : f ≡ g = cc in
    let n : gate + zero ≡ gate = omega arith in
    rw n (subst (IsBefore gate) (ap (λ (o : Operands). o.left) same) h.0.0, subst (IsBefore gate) (ap (λ (o : Operands). o.right) same) h.0.1)
before_at gate (f ∷ gates) (suc j) g h is =
    let n : gate + suc j ≡ (gate + 1) + j = omega arith in
    rw n (before_at (gate + 1) gates j g h.1 is)

abbrev signed : ℕ → Bool → Bool
signed r v = if eqb r 1 then not v else v

-- a gate has the conjunction of its operands, which stand before it
gate_conjunction : (first : List Bool) (gates : List Gate) (j : ℕ) (g : Gate) → slice_get gates j ≡ Some g → g.left / 2 < length first + j → g.right / 2 < length first + j →
    get_or (each_variable gate_value first gates) (length first + j) false ≡ (literal_value_in (each_variable gate_value first gates) g.left && literal_value_in (each_variable gate_value first gates) g.right)
gate_conjunction first gates j g is left right =
    let within : j < length gates = slice_get_within gates j g is in
    let front : length (take j gates) ≡ j = length-take-le j gates (omega (arith, within)) in
    let around : gates ≡ take j gates ++ g ∷ drop (suc j) gates = gates-around gates j g is in
    let own : get_or (each_variable gate_value first gates) (length first + j) false ≡ gate_value (each_variable gate_value first (take j gates)) g =
    ap (λ gs. get_or (each_variable gate_value first gs) (length first + j) false) around ∙ get_or-gate gate_value first (take j gates) g (drop (suc j) gates) (length first + j) false (omega (arith, front)) in
    let same_left : get_or (each_variable gate_value first gates) (g.left / 2) false ≡ get_or (each_variable gate_value first (take j gates)) (g.left / 2) false =
    ap (λ gs. get_or (each_variable gate_value first gs) (g.left / 2) false) around ∙ get_or-before gate_value first (take j gates) g (drop (suc j) gates) (g.left / 2) false (omega (arith, front, left)) in
    let same_right : get_or (each_variable gate_value first gates) (g.right / 2) false ≡ get_or (each_variable gate_value first (take j gates)) (g.right / 2) false =
    ap (λ gs. get_or (each_variable gate_value first gs) (g.right / 2) false) around ∙ get_or-before gate_value first (take j gates) g (drop (suc j) gates) (g.right / 2) false (omega (arith, front, right)) in
    own ∙ sym (ap (λ v. signed (g.left % 2) v && literal_value_in (each_variable gate_value first gates) g.right) same_left ∙ ap (λ v. literal_value_in (each_variable gate_value first (take j gates)) g.left && signed (g.right % 2) v) same_right)

sign_half : (v : ℕ) (negated : Bool) → (2 * v + (if negated then 1 else 0)) / 2 ≡ v
sign_half v true = omega arith
sign_half v false = omega arith

below_more : (n k : ℕ) → k < suc n → (k ≡ n → ⊥) → k < n
below_more n k h apart = omega (arith, h, apart)

-- the gates of a text, over inputs that have each script variable of an operand
module _ (top : ℕ) (inputs : List ℕ) (gates : List Operands) (before : AreBefore (top + 1) gates) (known : (x : ℕ) → list_any (uses x) gates ≡ true → 0 < x → x ≤ top → list_any (eqb x) inputs ≡ true) (s : Assignment) where
  abbrev I : ℕ
  I = length inputs

  abbrev A : ℕ
  A = length gates

  abbrev to_gate : Operands → Gate
  to_gate g = record { left = circuit_literal top inputs g.left; right = circuit_literal top inputs g.right }

  abbrev first : List Bool
  first = false ∷ map (variable_value s) inputs

  abbrev values : List Bool
  values = each_variable gate_value first (map to_gate gates)

  first_length : length first ≡ 1 + I
  first_length = omega (arith, length-map inputs (variable_value s))

  -- the variables of the first gates have their values
  abbrev Holds : Assignment → ℕ → Type 0
  Holds e n = (k : ℕ) → k < n → variable_value e (top + 1 + k) ≡ get_or values (1 + I + k) false

  input_value : (x : ℕ) → list_any (eqb x) inputs ≡ true → get_or values (1 + place_in inputs x) false ≡ variable_value s x
  input_value x there =
      let within : place_in inputs x < I = (in_first inputs [] x there).within in
      let e : 1 + place_in inputs x ≡ suc (place_in inputs x) = omega arith in
      get_or-first gate_value first (map to_gate gates) (1 + place_in inputs x) false (omega (arith, within, first_length))
      ∙ ap (λ n. get_or first n false) e ∙ get_or-map (variable_value s) inputs (place_in inputs x) 0 false within ∙ ap (variable_value s) (at_place inputs x within)

  variable_by : (e : Assignment) (j x : ℕ) (t : Bool) → nat_le x top ≡ t → AgreeUpTo top s e → Holds e j → x < top + 1 + j → (x ≤ top → list_any (eqb x) inputs ≡ true) → variable_value e x ≡ get_or values (circuit_variable top inputs x) false
  variable_by e j x true is agree holds below there =
      let le : x ≤ top = grind (arith, nat_tests, is) in
      rw is (agree x le ∙ sym (input_value x (there le)))
  variable_by e j x false is agree holds below there =
      let above : top < x = grind (arith, nat_tests, is) in
      let k : top + 1 + (x - (top + 1)) ≡ x = omega (arith, above) in
      let n : 1 + I + (x - (top + 1)) ≡ I + (x - top) = omega (arith, above) in
      rw is (ap (variable_value e) (sym k) ∙ holds (x - (top + 1)) (omega (arith, above, below)) ∙ ap (λ m. get_or values m false) n)

  bound_by : (j x : ℕ) (t : Bool) → nat_le x top ≡ t → x < top + 1 + j → (x ≤ top → list_any (eqb x) inputs ≡ true) → circuit_variable top inputs x < 1 + I + j
  bound_by j x true is below there =
      let le : x ≤ top = grind (arith, nat_tests, is) in
      let within : place_in inputs x < I = (in_first inputs [] x (there le)).within in
      rw is (omega (arith, within))
  bound_by j x false is below there =
      let above : top < x = grind (arith, nat_tests, is) in
      rw is (omega (arith, above, below))

  -- an operand has the value of its literal in the circuit, and stands before its gate
  operand_value : (e : Assignment) (j : ℕ) (l : Literal) → AgreeUpTo top s e → Holds e j → IsBefore (top + 1 + j) l → list_any (uses l.var) gates ≡ true → literal_value e l ≡ literal_value_in values (circuit_literal top inputs l)
  operand_value e j l agree holds here used = literal_same e l values (circuit_variable top inputs l.var) (variable_by e j l.var (nat_le l.var top) refl agree holds here.below (λ le. known l.var used here.some le))

  operand_bound : (j : ℕ) (l : Literal) → IsBefore (top + 1 + j) l → list_any (uses l.var) gates ≡ true → circuit_literal top inputs l / 2 < 1 + I + j
  operand_bound j l here used =
      let v : circuit_variable top inputs l.var < 1 + I + j = bound_by j l.var (nat_le l.var top) refl here.below (λ le. known l.var used here.some le) in
      omega (arith, v, sign_half (circuit_variable top inputs l.var) l.negated)

  left_used : (j : ℕ) (g : Operands) → slice_get gates j ≡ Some g → list_any (uses g.left.var) gates ≡ true
  left_used j g is = list_any-member (uses g.left.var) gates g (Contains-from_slice_get gates j g is) (or_left (eqb g.left.var g.left.var) (eqb g.left.var g.right.var) (eq-eqb g.left.var g.left.var refl))

  right_used : (j : ℕ) (g : Operands) → slice_get gates j ≡ Some g → list_any (uses g.right.var) gates ≡ true
  right_used j g is = list_any-member (uses g.right.var) gates g (Contains-from_slice_get gates j g is) (or_right (eqb g.right.var g.left.var) (eqb g.right.var g.right.var) (eq-eqb g.right.var g.right.var refl))

  -- a gate's operands give it its value
  gate_has : (e : Assignment) (j : ℕ) (g : Operands) → AgreeUpTo top s e → Holds e j → slice_get gates j ≡ Some g → operands_value e g ≡ get_or values (1 + I + j) false
  gate_has e j g agree holds is =
      let b = before_at (top + 1) gates j g before is in
      let left : literal_value e g.left ≡ literal_value_in values (circuit_literal top inputs g.left) = operand_value e j g.left agree holds b.0 (left_used j g is) in
      let right : literal_value e g.right ≡ literal_value_in values (circuit_literal top inputs g.right) = operand_value e j g.right agree holds b.1 (right_used j g is) in
      let own : get_or values (length first + j) false ≡ (literal_value_in values (circuit_literal top inputs g.left) && literal_value_in values (circuit_literal top inputs g.right)) =
      gate_conjunction first (map to_gate gates) j (to_gate g) (slice_get-to_map to_gate gates j g is) (omega (arith, first_length, operand_bound j g.left b.0 (left_used j g is))) (omega (arith, first_length, operand_bound j g.right b.1 (right_used j g is))) in
      ap (λ v. v && literal_value e g.right) left ∙ ap (λ v. literal_value_in values (circuit_literal top inputs g.left) && v) right ∙ sym own ∙ ap (λ n. get_or values (n + j) false) first_length

  -- so conjunctions have the values of the gates
  only_at : (e : Assignment) (n k : ℕ) → AgreeUpTo top s e → AreConjunctions e (top + 1) gates → n < A → Holds e n → k < suc n → (t : Bool) → eqb k n ≡ t → variable_value e (top + 1 + k) ≡ get_or values (1 + I + k) false
  only_at e n k agree all within holds below true is =
      let same : k ≡ n = eqb-true k n is in
      let g = slice_get-within gates n within in
      rw same (all n g.0 g.1 ∙ gate_has e n g.0 agree holds g.1)
  only_at e n k agree all within holds below false is = holds k (below_more n k below (λ same. let yes : eqb k n ≡ true = eq-eqb k n same in let bad : false ≡ true = sym is ∙ yes in cc))

  only : (e : Assignment) → AgreeUpTo top s e → AreConjunctions e (top + 1) gates → (n : ℕ) → n ≤ A → Holds e n
  only e agree all zero within k below = absurd (omega (arith, below))
  only e agree all (suc n) within k below = only_at e n k agree all (omega (arith, within)) (only e agree all n (omega (arith, within))) below (eqb k n) refl

  -- and the values of the gates are conjunctions
  each : (e : Assignment) → AgreeUpTo top s e → Holds e A → AreConjunctions e (top + 1) gates
  each e agree holds j g is =
      let within : j < A = slice_get_within gates j g is in
      holds j within ∙ sym (gate_has e j g agree (λ k below. holds k (omega (arith, below, within))) is)

  -- the script variables as they are, and the gates that are true
  abbrev is_true_gate : ℕ → Bool
  is_true_gate x = get_or values (I + (x - top)) false

  abbrev extension : Assignment
  extension = filter (λ x. nat_le x top) s ++ filter is_true_gate (range_with_len (top + 1) A)

  extension_value : (x : ℕ) → variable_value extension x ≡ ((nat_le x top && variable_value s x) || (is_true_gate x && list_any (eqb x) (range_with_len (top + 1) A)))
  extension_value x =
      list_any-append (eqb x) (filter (λ y. nat_le y top) s) (filter is_true_gate (range_with_len (top + 1) A))
      ∙ ap (λ b. b || list_any (eqb x) (filter is_true_gate (range_with_len (top + 1) A))) (any-filter_same (eqb x) (λ y. nat_le y top) (nat_le x top) (λ k e. ap (λ y. nat_le y top) (sym (eqb-true x k e))) s)
      ∙ ap (λ b. (nat_le x top && variable_value s x) || b) (any-filter_same (eqb x) is_true_gate (is_true_gate x) (λ k e. ap is_true_gate (sym (eqb-true x k e))) (range_with_len (top + 1) A))

  extension_agrees : AgreeUpTo top s extension
  extension_agrees x le =
      let t : nat_le x top ≡ true = grind (arith, nat_tests, le) in
      let out : list_any (eqb x) (range_with_len (top + 1) A) ≡ false = range-outside (top + 1) A x (omega (arith, le)) in
      extension_value x ∙ ap (λ b. (b && variable_value s x) || (is_true_gate x && list_any (eqb x) (range_with_len (top + 1) A))) t ∙ ap (λ b. variable_value s x || (is_true_gate x && b)) out ∙ no_more (variable_value s x) (is_true_gate x)
    where
      no_more : (a b : Bool) → (a || (b && false)) ≡ a
      no_more true b = refl
      no_more false true = refl
      no_more false false = refl

  extension_holds : Holds extension A
  extension_holds k below =
      let f : nat_le (top + 1 + k) top ≡ false = grind (arith, nat_tests) in
      let t : list_any (eqb (top + 1 + k)) (range_with_len (top + 1) A) ≡ true = has-range (top + 1) A (top + 1 + k) (omega arith) (omega (arith, below)) in
      let n : I + ((top + 1 + k) - top) ≡ 1 + I + k = omega arith in
      extension_value (top + 1 + k) ∙ ap (λ b. (b && variable_value s (top + 1 + k)) || (is_true_gate (top + 1 + k) && list_any (eqb (top + 1 + k)) (range_with_len (top + 1) A))) f
      ∙ ap (λ b. is_true_gate (top + 1 + k) && b) t ∙ whole (is_true_gate (top + 1 + k)) ∙ ap (λ m. get_or values m false) n
    where
      whole : (b : Bool) → (b && true) ≡ b
      whole true = refl
      whole false = refl

  pub one_extension : (roots : List NamedRoot) → HasOneExtension top (circuit_with top inputs gates roots) (gates_clauses (top + 1) gates) s
  one_extension roots = record {
    extension = extension;
    agrees = extension_agrees;
    model = model-conjunctions extension (top + 1) gates (each extension extension_agrees extension_holds);
    only = λ e agree model j within. only e agree (conjunctions-model e (top + 1) gates model) A (omega arith) j (omega (arith, within, length-map gates to_gate)) ∙ sym (even_value values (1 + I + j));
    each = λ e agree have. model-conjunctions e (top + 1) gates (each e agree (λ k below. have k (omega (arith, below, length-map gates to_gate)) ∙ even_value values (1 + I + k)));
  }

-- a script variable of an operand is an input
operand_known : (top : ℕ) (said : CircuitClauses) (gates : List Operands) → said.clauses ≡ gates_clauses (top + 1) gates → (x : ℕ) → list_any (uses x) gates ≡ true → 0 < x → x ≤ top → list_any (eqb x) (script_variables top said) ≡ true
operand_known top said gates is x used some le =
    let in_clauses : occurs x said.clauses ≡ true = ap (occurs x) is ∙ occurs-operand x (top + 1) gates used in
    let in_text : occurs_in_text said x ≡ true = or_right (list_any (λ (r : NamedRoot). eqb x (variable_of_root r.root)) said.roots) (occurs x said.clauses) in_clauses in
    any-filter_same (eqb x) (occurs_in_text said) (occurs_in_text said x) (λ k e. ap (occurs_in_text said) (sym (eqb-true x k e))) (range_with_len 1 top)
    ∙ ap (λ b. b && list_any (eqb x) (range_with_len 1 top)) in_text ∙ has-range 1 top x (omega (arith, some)) (omega (arith, le))

rooted_by : (top : ℕ) (said : CircuitClauses) (c : Circuit) (s : Assignment) (gates : List Operands) (t : Bool) → gates_defined (top + 1) said.clauses ≡ Some gates → list_all (λ (r : NamedRoot). is_root_before (top + 1 + length gates) r.root) said.roots ≡ t → circuit_defined top said ≡ Some c → HasOneExtension top c said.clauses s
unfolding circuit_defined
rooted_by top said c s gates true e f is =
    let some : Some (circuit_with top (script_variables top said) gates said.roots) ≡ Some c = sym (rw (e, f) refl) ∙ is in
    let it : circuit_with top (script_variables top said) gates said.roots ≡ c = cc in
    let d : AreDefined (top + 1) said.clauses gates = gates_are (top + 1) said.clauses gates e in
    subst (λ (k : Circuit). HasOneExtension top k said.clauses s) it
    (subst (λ (cs : List Clause). HasOneExtension top (circuit_with top (script_variables top said) gates said.roots) cs s) (sym d.clauses_are)
    (one_extension top (script_variables top said) gates d.before (operand_known top said gates d.clauses_are) s said.roots))
rooted_by top said c s gates false e f is = absurd (let no : None ≡ Some c = sym (rw (e, f) refl) ∙ is in cc)

defined_by : (top : ℕ) (said : CircuitClauses) (c : Circuit) (s : Assignment) (o : Option (List Operands)) → gates_defined (top + 1) said.clauses ≡ o → circuit_defined top said ≡ Some c → HasOneExtension top c said.clauses s
unfolding circuit_defined
defined_by top said c s None e is = absurd (let no : None ≡ Some c = sym (rw e refl) ∙ is in cc)
defined_by top said c s (Some gates) e is = rooted_by top said c s gates (list_all (λ (r : NamedRoot). is_root_before (top + 1 + length gates) r.root) said.roots) e refl is

text_by : (top : ℕ) (bytes : List ℕ) (c : Circuit) (clauses : List Clause) (s : Assignment) (o : Option CircuitClauses) → circuit_clauses bytes ≡ o → read_cnf top bytes ≡ Some c → clauses_of_cnf bytes ≡ Some clauses → HasOneExtension top c clauses s
unfolding read_cnf
text_by top bytes c clauses s None e is has = absurd (let no : None ≡ Some c = sym (rw e refl) ∙ is in cc)
text_by top bytes c clauses s (Some said) e is has =
    let d : circuit_defined top said ≡ Some c = sym (rw e refl) ∙ is in
    let some : Some said.clauses ≡ Some clauses = sym (rw e refl) ∙ has in
    let same : said.clauses ≡ clauses = cc in
    subst (λ (cs : List Clause). HasOneExtension top c cs s) same (defined_by top said c s (gates_defined (top + 1) said.clauses) refl d)

-- the law
pub texts_have_one_extension : TextsHaveOneExtension
texts_have_one_extension greatest bytes c clauses s is has = text_by greatest bytes c clauses s (circuit_clauses bytes) refl is has
