-- Texts that are appended piece by piece, and the greatest variable of the clauses so far.
use Rattle.std.proofs.Common.{◌≡◌, ◌∙◌, sym, ap, refl, ℕ, suc, ◌+◌, ◌<◌, List, [], ◌∷◌, ◌++◌, length, get_or, take, map, max, Some, slice_get, codes, append_assoc, append-nil, length-take-le, Result, Ok, Err, OnOk, arith}
use Rattle.std.specs.List.{flat_map}
use Rattle.std.proofs.lemmas.Grind.{flat_map-append}
use Rattle.std.proofs.lemmas.List.{length-map, map_push, take_more}
use Rattle.std.proofs.lemmas.List.Recursion.{max_push}
use Rattle.std.proofs.lemmas.Option.{get_or_from_slice_get, slice_get_within}
use Rattle.craig_spec.specs.CircuitCnf.{CircuitClauses, NamedRoot, Operands, greatest_of_roots, greatest_said, negative, positive, variable_of_root}
use Rattle.craig_spec.specs.CircuitCnfText.{cnf_text, gate_clauses, gates_clauses, root_line}
use Rattle.craig_spec.specs.DimacsText.{clause_line, dimacs_text, greatest_of_clause, greatest_of_clauses, header_bytes}
use Rattle.craig_spec.specs.Literal.{Literal, Clause, negation}
use Rattle.craig_aiger.specs.declared.out_name.OutName.{OutName}
use Rattle.craig_cnf.specs.LayoutClauses.{named_root, text_literal, text_operands, text_root}
use Rattle.craig_cnf.specs.ScriptClauses.{named_clause, named_literal}

-- a header and the lines of clauses
pub dimacs_appended : {T E : Type 0} (r : Result T E) (greatest count : ℕ) (cs : List Clause) (begun first last : List ℕ) → greatest ≡ greatest_of_clauses cs → count ≡ length cs → first ≡ begun ++ (header_bytes greatest count ++ codes "\n") → OnOk r (last ≡ first ++ flat_map clause_line cs) → OnOk r (last ≡ begun ++ dimacs_text cs)
dimacs_appended (Ok x) greatest count cs begun first last g n a b =
    b ∙ ap (λ z. z ++ flat_map clause_line cs) (a ∙ ap (λ k. begun ++ (header_bytes k count ++ codes "\n")) g ∙ ap (λ k. begun ++ (header_bytes (greatest_of_clauses cs) k ++ codes "\n")) n)
    ∙ append_assoc begun (header_bytes (greatest_of_clauses cs) (length cs) ++ codes "\n") (flat_map clause_line cs)
dimacs_appended (Err x) greatest count cs begun first last g n a b = tt

regrouped : (begun roots header clauses : List ℕ) → ((begun ++ roots) ++ (header ++ codes "\n")) ++ clauses ≡ begun ++ (((roots ++ header) ++ codes "\n") ++ clauses)
regrouped begun roots header clauses = simp append_assoc

-- the lines of roots, a header and the lines of clauses
pub cnf_appended : {T E : Type 0} (r : Result T E) (greatest count : ℕ) (said : CircuitClauses) (begun first second last : List ℕ) → greatest ≡ greatest_said said → count ≡ length said.clauses →
    first ≡ begun ++ flat_map root_line said.roots → second ≡ first ++ (header_bytes greatest count ++ codes "\n") → OnOk r (last ≡ second ++ flat_map clause_line said.clauses) → OnOk r (last ≡ begun ++ cnf_text said)
cnf_appended (Ok x) greatest count said begun first second last g n a b c =
    c ∙ ap (λ z. z ++ flat_map clause_line said.clauses) (b ∙ ap (λ k. first ++ (header_bytes k count ++ codes "\n")) g ∙ ap (λ k. first ++ (header_bytes (greatest_said said) k ++ codes "\n")) n ∙ ap (λ z. z ++ (header_bytes (greatest_said said) (length said.clauses) ++ codes "\n")) a)
    ∙ regrouped begun (flat_map root_line said.roots) (header_bytes (greatest_said said) (length said.clauses)) (flat_map clause_line said.clauses)
cnf_appended (Err x) greatest count said begun first second last g n a b c = tt

-- the three clauses of a gate
three_lines : (begun a b c : List ℕ) → ((begun ++ a) ++ b) ++ c ≡ begun ++ (a ++ (b ++ (c ++ [])))
three_lines begun a b c = append_assoc (begun ++ a) b c ∙ append_assoc begun a (b ++ c) ∙ ap (λ z. begun ++ (a ++ (b ++ z))) (sym (append-nil c))

pub gate_appended : {T E : Type 0} (r : Result T E) (gate : ℕ) (g : Operands) (one two three : Clause) (begun first second last : List ℕ) → one ≡ negative gate ∷ (g.left ∷ []) → two ≡ negative gate ∷ (g.right ∷ []) → three ≡ positive gate ∷ (negation g.left ∷ (negation g.right ∷ [])) →
    first ≡ begun ++ clause_line one → second ≡ first ++ clause_line two → OnOk r (last ≡ second ++ clause_line three) → OnOk r (last ≡ begun ++ flat_map clause_line (gate_clauses gate g))
gate_appended (Ok x) gate g one two three begun first second last e f h a b c =
    c ∙ ap (λ z. second ++ clause_line z) h
    ∙ ap (λ z. z ++ clause_line (positive gate ∷ (negation g.left ∷ (negation g.right ∷ [])))) (b ∙ ap (λ z. first ++ clause_line z) f ∙ ap (λ z. z ++ clause_line (negative gate ∷ (g.right ∷ []))) (a ∙ ap (λ z. begun ++ clause_line z) e))
    ∙ three_lines begun (clause_line (negative gate ∷ (g.left ∷ []))) (clause_line (negative gate ∷ (g.right ∷ []))) (clause_line (positive gate ∷ (negation g.left ∷ (negation g.right ∷ []))))
gate_appended (Err x) gate g one two three begun first second last e f h a b c = tt

-- the clauses of one gate more
gates_clauses-push : (gate : ℕ) (gates : List Operands) (g : Operands) → gates_clauses gate (gates ++ g ∷ []) ≡ gates_clauses gate gates ++ gate_clauses (gate + length gates) g
gates_clauses-push gate [] g = ap (λ n. gate_clauses n g) (let e : gate ≡ gate + 0 = omega arith in e)
gates_clauses-push gate (f ∷ gates) g =
    let e : (gate + 1) + length gates ≡ gate + suc (length gates) = omega arith in
    ap (λ cs. gate_clauses gate f ++ cs) (gates_clauses-push (gate + 1) gates g ∙ ap (λ n. gates_clauses (gate + 1) gates ++ gate_clauses n g) e)

pub gates_more : (top gate : ℕ) (inputs : List ℕ) (gates : List (ℕ × ℕ)) (i : ℕ) (d : ℕ × ℕ) (left right : Literal) (begun old new : List ℕ) → i < length gates → gate ≡ top + 1 + i → left ≡ text_literal top inputs (get_or gates i d).0 → right ≡ text_literal top inputs (get_or gates i d).1 →
    old ≡ begun ++ flat_map clause_line (gates_clauses (top + 1) (map (text_operands top inputs) (take i gates))) → new ≡ old ++ flat_map clause_line (gate_clauses gate (record { left = left; right = right })) →
    new ≡ begun ++ flat_map clause_line (gates_clauses (top + 1) (map (text_operands top inputs) (take (i + 1) gates)))
gates_more top gate inputs gates i d left right begun old new within own l r was more =
    let before : List Operands = map (text_operands top inputs) (take i gates) in
    let g : Operands = text_operands top inputs (get_or gates i d) in
    let count : length before ≡ i = length-map (take i gates) (text_operands top inputs) ∙ length-take-le i gates (omega (arith, within)) in
    let named : record { left = left; right = right } ≡ g = λ j. record { left = l j; right = r j } in
    let number : gate ≡ (top + 1) + length before = omega (arith, own, count) in
    let all : gates_clauses (top + 1) (map (text_operands top inputs) (take (i + 1) gates)) ≡ gates_clauses (top + 1) before ++ gate_clauses ((top + 1) + length before) g =
    ap (λ gs. gates_clauses (top + 1) (map (text_operands top inputs) gs)) (take_more gates i d within) ∙ ap (gates_clauses (top + 1)) (map_push (text_operands top inputs) (take i gates) (get_or gates i d)) ∙ gates_clauses-push (top + 1) before g in
    more ∙ ap (λ o. old ++ flat_map clause_line (gate_clauses gate o)) named ∙ ap (λ n. old ++ flat_map clause_line (gate_clauses n g)) number
    ∙ ap (λ z. z ++ flat_map clause_line (gate_clauses ((top + 1) + length before) g)) was
    ∙ append_assoc begun (flat_map clause_line (gates_clauses (top + 1) before)) (flat_map clause_line (gate_clauses ((top + 1) + length before) g))
    ∙ ap (λ z. begun ++ z) (sym (flat_map-append clause_line (gates_clauses (top + 1) before) (gate_clauses ((top + 1) + length before) g)))
    ∙ ap (λ cs. begun ++ flat_map clause_line cs) (sym all)

-- the line of one root more
pub roots_more : (top : ℕ) (inputs : List ℕ) (outputs : List (OutName × ℕ)) (i : ℕ) (o : OutName × ℕ) (begun old new : List ℕ) → slice_get outputs i ≡ Some o → old ≡ begun ++ flat_map root_line (map (named_root top inputs) (take i outputs)) → new ≡ old ++ root_line (named_root top inputs o) →
    new ≡ begun ++ flat_map root_line (map (named_root top inputs) (take (i + 1) outputs))
roots_more top inputs outputs i o begun old new there was more =
    let before : List NamedRoot = map (named_root top inputs) (take i outputs) in
    let all : map (named_root top inputs) (take (i + 1) outputs) ≡ before ++ named_root top inputs o ∷ [] =
    ap (map (named_root top inputs)) (take_more outputs i o (slice_get_within outputs i o there) ∙ ap (λ p. take i outputs ++ p ∷ []) (get_or_from_slice_get outputs i o o there)) ∙ map_push (named_root top inputs) (take i outputs) o in
    more ∙ ap (λ z. z ++ root_line (named_root top inputs o)) was
    ∙ append_assoc begun (flat_map root_line before) (root_line (named_root top inputs o))
    ∙ ap (λ z. begun ++ (flat_map root_line before ++ z)) (sym (append-nil (root_line (named_root top inputs o))))
    ∙ ap (λ z. begun ++ z) (sym (flat_map-append root_line before (named_root top inputs o ∷ [])))
    ∙ ap (λ rs. begun ++ flat_map root_line rs) (sym all)

-- the greatest variable with one thing more
more_greatest : (before one greatest next all : ℕ) → greatest ≡ before → next ≡ max one greatest → all ≡ max before one → next ≡ all
more_greatest before one greatest next all a b c = omega (arith, a, b, c)

pub greatest_literal_more : (names : List ℕ) (c : Clause) (i : ℕ) (l : Literal) (name greatest next v : ℕ) → i < length c → l ≡ get_or c i l → v ≡ l.var → slice_get names v ≡ Some name → greatest ≡ greatest_of_clause (named_clause names (take i c)) → next ≡ max name greatest →
    next ≡ greatest_of_clause (named_clause names (take (i + 1) c))
greatest_literal_more names c i l name greatest next v within is var named was now =
    let n : name ≡ get_or names l.var 0 = sym (get_or_from_slice_get names v name 0 named) ∙ ap (λ x. get_or names x 0) var in
    let all : greatest_of_clause (named_clause names (take (i + 1) c)) ≡ max (greatest_of_clause (named_clause names (take i c))) (get_or names l.var 0) =
    ap (λ ls. greatest_of_clause (named_clause names ls)) (take_more c i l within ∙ ap (λ m. take i c ++ m ∷ []) (sym is))
    ∙ ap greatest_of_clause (map_push (named_literal names) (take i c) l) ∙ max_push greatest_of_clause (λ (m : Literal). m.var) refl (λ x xs. refl) (named_clause names (take i c)) (named_literal names l) in
    more_greatest (greatest_of_clause (named_clause names (take i c))) (get_or names l.var 0) greatest next (greatest_of_clause (named_clause names (take (i + 1) c))) was (now ∙ ap (λ m. max m greatest) n) all

pub greatest_clause_more : (names : List ℕ) (cs : List Clause) (i : ℕ) (c s : Clause) (one greatest next : ℕ) → i < length cs → c ≡ get_or cs i c → s ≡ c → one ≡ greatest_of_clause (named_clause names s) → greatest ≡ greatest_of_clauses (map (named_clause names) (take i cs)) → next ≡ max one greatest →
    next ≡ greatest_of_clauses (map (named_clause names) (take (i + 1) cs))
greatest_clause_more names cs i c s one greatest next within is same here was now =
    let n : one ≡ greatest_of_clause (named_clause names c) = here ∙ ap (λ d. greatest_of_clause (named_clause names d)) same in
    let all : greatest_of_clauses (map (named_clause names) (take (i + 1) cs)) ≡ max (greatest_of_clauses (map (named_clause names) (take i cs))) (greatest_of_clause (named_clause names c)) =
    ap (λ ds. greatest_of_clauses (map (named_clause names) ds)) (take_more cs i c within ∙ ap (λ d. take i cs ++ d ∷ []) (sym is))
    ∙ ap greatest_of_clauses (map_push (named_clause names) (take i cs) c) ∙ max_push greatest_of_clauses greatest_of_clause refl (λ x xs. refl) (map (named_clause names) (take i cs)) (named_clause names c) in
    more_greatest (greatest_of_clauses (map (named_clause names) (take i cs))) (greatest_of_clause (named_clause names c)) greatest next (greatest_of_clauses (map (named_clause names) (take (i + 1) cs))) was (now ∙ ap (λ m. max m greatest) n) all

pub greatest_root_more : (top : ℕ) (inputs : List ℕ) (outputs : List (OutName × ℕ)) (i : ℕ) (o : OutName × ℕ) (one greatest next : ℕ) → slice_get outputs i ≡ Some o → one ≡ variable_of_root (text_root top inputs o.1) → greatest ≡ greatest_of_roots (map (named_root top inputs) (take i outputs)) → next ≡ max one greatest →
    next ≡ greatest_of_roots (map (named_root top inputs) (take (i + 1) outputs))
greatest_root_more top inputs outputs i o one greatest next there here was now =
    let all : greatest_of_roots (map (named_root top inputs) (take (i + 1) outputs)) ≡ max (greatest_of_roots (map (named_root top inputs) (take i outputs))) (variable_of_root (text_root top inputs o.1)) =
    ap (λ os. greatest_of_roots (map (named_root top inputs) os)) (take_more outputs i o (slice_get_within outputs i o there) ∙ ap (λ p. take i outputs ++ p ∷ []) (get_or_from_slice_get outputs i o o there))
    ∙ ap greatest_of_roots (map_push (named_root top inputs) (take i outputs) o) ∙ max_push greatest_of_roots (λ (r : NamedRoot). variable_of_root r.root) refl (λ x xs. refl) (map (named_root top inputs) (take i outputs)) (named_root top inputs o) in
    more_greatest (greatest_of_roots (map (named_root top inputs) (take i outputs))) (variable_of_root (text_root top inputs o.1)) greatest next (greatest_of_roots (map (named_root top inputs) (take (i + 1) outputs))) was (now ∙ ap (λ m. max m greatest) here) all
