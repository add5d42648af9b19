-- The text of clauses is read as these clauses under their names.
use Rattle.std.proofs.Common.{◌≡◌, ◌∙◌, sym, ap, subst, refl, ℕ, suc, ◌^◌, ◌<◌, true, List, [], ◌∷◌, length, get_or, map, max, All, Contains, Some, arith}
use Rattle.std.specs.List.{list_all}
use Rattle.std.proofs.lemmas.Bool.{and_from}
use Rattle.std.proofs.lemmas.List.{length-map}
use Rattle.std.proofs.lemmas.List.Elements.{All-contains}
use Rattle.craig_spec.specs.Dimacs.{is_by_variable}
use Rattle.craig_spec.specs.DimacsText.{dimacs_text, greatest_of_clause, greatest_of_clauses}
use Rattle.craig_spec.specs.Chain.{SameLiterals}
use Rattle.craig_spec.specs.Literal.{Literal, Clause}
use Rattle.craig_spec.proofs.MemberLemmas.{Contains-from_image, Contains-front, Contains-later, slice_get-to_map}
use Rattle.craig_base.specs.Clauses.{IsNormal}
use Rattle.craig_base.specs.Names.{AreNames}
use Rattle.craig_cnf.specs.ScriptClauses.{AreNamed, ReadsAsClauses, by_variable, named_clause, named_literal, script_clauses}
use Rattle.craig_cnf.proofs.DimacsReadingLemmas.{AreVariables, EachHasVariables, IsVariable, dimacs_read}
use Rattle.craig_cnf.proofs.OrderLemmas.{EachBefore-from_pairs}
use Rattle.craig_cnf.proofs.ScriptClauseLemmas.{SameLiterals-by_variable, by_variable-ascends, by_variable-greatest, is_by_variable-ascends, named-apart}

pub first_of_all : {X : Type 0} (P : X → Type 0) (x : X) (xs : List X) → All P (x ∷ xs) → P x
first_of_all P x xs h = h 0 x (omega arith)

pub rest_of_all : {X : Type 0} (P : X → Type 0) (x : X) (xs : List X) → All P (x ∷ xs) → All P xs
rest_of_all P x xs h k d within = h (suc k) d (omega (arith, within))

are_variables : (c : Clause) → ((m : Literal) → Contains c m → IsVariable m.var) → AreVariables c
are_variables [] h = tt
are_variables (l ∷ c) h = (h l (Contains-front l c), are_variables c (λ m there. h m (Contains-later l c m there)))

name_is_variable : (names : List ℕ) (x : ℕ) → AreNames names → x < length names → IsVariable (get_or names x 0)
name_is_variable names x h within = let b = h.in_range x 0 within in record { some = b.0; small = omega (arith, b.1) }

clause_has_variables : (names : List ℕ) (c : Clause) → AreNames names → All (λ (l : Literal). l.var < length names) c → AreVariables (by_variable (named_clause names c))
clause_has_variables names c h within =
    are_variables (by_variable (named_clause names c)) (λ m here.
    let i = Contains-from_image (named_literal names) c m ((SameLiterals-by_variable (named_clause names c) m).0 here) in
    subst (λ (l : Literal). IsVariable l.var) (sym i.2) (name_is_variable names (i.0).var h (All-contains (λ (l : Literal). l.var < length names) c i.0 within i.1)))

have_variables : (names : List ℕ) (cs : List Clause) → AreNames names → AreNamed names cs → EachHasVariables (script_clauses names cs)
have_variables names [] h named = tt
have_variables names (c ∷ cs) h named = (
  clause_has_variables names c h (first_of_all (λ (d : Clause). All (λ (l : Literal). l.var < length names) d) c cs named),
  have_variables names cs h (rest_of_all (λ (d : Clause). All (λ (l : Literal). l.var < length names) d) c cs named),
)

rise : (names : List ℕ) (cs : List Clause) → AreNames names → All IsNormal cs → AreNamed names cs → list_all is_by_variable (script_clauses names cs) ≡ true
rise names [] h normal named = refl
rise names (c ∷ cs) h normal named =
    and_from (is_by_variable (by_variable (named_clause names c))) (list_all is_by_variable (script_clauses names cs))
    (is_by_variable-ascends (by_variable (named_clause names c)) (by_variable-ascends (named_clause names c)
    (EachBefore-from_pairs (λ (l m : Literal). l.var ≡ m.var → ⊥) (named_clause names c)
    (named-apart names c h (first_of_all (λ (d : Clause). All (λ (l : Literal). l.var < length names) d) c cs named) (first_of_all IsNormal c cs normal)))))
    (rise names cs h (rest_of_all IsNormal c cs normal) (rest_of_all (λ (d : Clause). All (λ (l : Literal). l.var < length names) d) c cs named))

-- the text is read back
pub dimacs_reads_back : (names : List ℕ) (cs : List Clause) → AreNames names → All IsNormal cs → AreNamed names cs → length cs < 2 ^ 64 → ReadsAsClauses names cs (dimacs_text (script_clauses names cs))
dimacs_reads_back names cs h normal named few = record {
  read = script_clauses names cs;
  is_read = dimacs_read (script_clauses names cs) (have_variables names cs h named) (rise names cs h normal named) (omega (arith, few, length-map cs (λ (c : Clause). by_variable (named_clause names c))));
  lengths = length-map cs (λ (c : Clause). by_variable (named_clause names c));
  literals = λ k c d at there.
      let some : Some (by_variable (named_clause names c)) ≡ Some d = sym (slice_get-to_map (λ (b : Clause). by_variable (named_clause names b)) cs k c at) ∙ there in
      let same : by_variable (named_clause names c) ≡ d = cc in
      subst (λ (b : Clause). SameLiterals b (named_clause names c)) same (SameLiterals-by_variable (named_clause names c));
}

-- the greatest variable doesn't depend on the order
pub script_greatest : (names : List ℕ) (cs : List Clause) → greatest_of_clauses (script_clauses names cs) ≡ greatest_of_clauses (map (named_clause names) cs)
script_greatest names [] = refl
script_greatest names (c ∷ cs) = ap (λ n. max n (greatest_of_clauses (script_clauses names cs))) (by_variable-greatest (named_clause names c)) ∙ ap (max (greatest_of_clause (named_clause names c))) (script_greatest names cs)
