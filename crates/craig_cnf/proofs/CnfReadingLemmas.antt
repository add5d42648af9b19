-- A text of roots and clauses is read as these.
use Rattle.std.proofs.Common.{◌≡◌, ◌∙◌, sym, ap, subst, refl, ℕ, ◌^◌, ◌<◌, Bool, true, false, eqb, List, [], ◌∷◌, ◌++◌, length, drop, map, Some, option_map, codes, append_assoc}
use Rattle.std.specs.Char.{is_ascii_digit}
use Rattle.std.specs.List.{flat_map, list_any, take_while}
use Rattle.std.specs.Str.{bytes_eq}
use Rattle.std.proofs.lemmas.List.{drop_at}
use Rattle.std.proofs.lemmas.List.Sums.{take_while-cons}
use Rattle.std.proofs.lemmas.Slice.Eq.{bytes_eq-Decides}
use Rattle.craig_spec.specs.AigerReading.{all_read, words_of}
use Rattle.craig_spec.specs.CircuitCnf.{CircuitClauses, Defined, Fixed, NamedRoot, Root, circuit_clauses, greatest_said, is_comment, root_of_line, root_of_word, root_of_words, said_by_lines}
use Rattle.craig_spec.specs.CircuitCnfText.{cnf_text, root_line, root_text}
use Rattle.craig_spec.specs.Dimacs.{ended_lines}
use Rattle.craig_spec.specs.DimacsText.{clause_line, header_bytes, literal_text}
use Rattle.craig_spec.proofs.TextWordLemmas.{Lacks, ended, ended-append, lacks-append, split_first, split_last}
use Rattle.craig_cnf.proofs.DimacsReadingLemmas.{AllLack, AllLack-append, EachHasVariables, IsVariable, bytes_same, clause_bytes, clause_lines-ended, clauses_read, ended_lines-ended, lack_clauses, lacks_header, lacks_literal, literal_read}

-- the variable of a root can be written
abbrev pub IsRootVariable : Root → Type 0
IsRootVariable (Fixed value) = Unit {0}
IsRootVariable (Defined l) = IsVariable l.var

-- so can the root and its name
pub record IsWord (r : NamedRoot) : Type 0 where
  pub no_space : Lacks 32 r.name
  pub no_newline : Lacks 10 r.name
  pub variable : IsRootVariable r.root

abbrev pub AreWords : List NamedRoot → Type 0
AreWords [] = Unit {0}
AreWords (r ∷ rs) = IsWord r × AreWords rs

no_letter_by : (b : ℕ) (word : List ℕ) (t : Bool) → Lacks b word → eqb b b ≡ true → bytes_eq word (b ∷ []) ≡ t → t ≡ false
no_letter_by b word true lack same e =
    let is : word ≡ b ∷ [] = (bytes_eq-Decides word (b ∷ [])).0 e in
    let here : list_any (λ c. eqb c b) (b ∷ []) ≡ false = subst (Lacks b) is lack in
    let there : list_any (λ c. eqb c b) (b ∷ []) ≡ true = rw same refl in
    sym there ∙ here
no_letter_by b word false lack same e = refl

no_letter : (b : ℕ) (word : List ℕ) → Lacks b word → eqb b b ≡ true → bytes_eq word (b ∷ []) ≡ false
no_letter b word lack same = let e : bytes_eq word (b ∷ []) ≡ false = no_letter_by b word (bytes_eq word (b ∷ [])) lack same refl in e

root_word_read : (r : Root) → IsRootVariable r → root_of_word (root_text r) ≡ Some r
root_word_read (Fixed true) h = refl
root_word_read (Fixed false) h = refl
root_word_read (Defined l) h =
    let t : bytes_eq (literal_text l) (84 ∷ []) ≡ false = no_letter 84 (literal_text l) (lacks_literal 84 l refl refl h) refl in
    let f : bytes_eq (literal_text l) (70 ∷ []) ≡ false = no_letter 70 (literal_text l) (lacks_literal 70 l refl refl h) refl in
    rw (t, f, literal_read l h) refl

lacks_root : (b : ℕ) (r : Root) → is_ascii_digit b ≡ false → eqb 45 b ≡ false → eqb 84 b ≡ false → eqb 70 b ≡ false → IsRootVariable r → Lacks b (root_text r)
lacks_root b (Fixed true) digit minus t f h = rw t refl
lacks_root b (Fixed false) digit minus t f h = rw f refl
lacks_root b (Defined l) digit minus t f h = lacks_literal b l digit minus h

-- a root on its line, without the newline
abbrev pub root_bytes : NamedRoot → List ℕ
root_bytes r = codes "c o " ++ r.name ++ codes " " ++ root_text r.root

root_bytes-words : (r : NamedRoot) → root_bytes r ≡ (99 ∷ []) ++ 32 ∷ ((111 ∷ []) ++ 32 ∷ (r.name ++ 32 ∷ root_text r.root))
root_bytes-words r = ap (λ l. 99 ∷ (32 ∷ (111 ∷ (32 ∷ l)))) (append_assoc r.name (32 ∷ []) (root_text r.root))

root_words : (r : NamedRoot) → IsWord r → words_of (root_bytes r) ≡ (99 ∷ []) ∷ ((111 ∷ []) ∷ (r.name ∷ (root_text r.root ∷ [])))
root_words r h =
    ap words_of (root_bytes-words r)
    ∙ split_first 32 (99 ∷ []) ((111 ∷ []) ++ 32 ∷ (r.name ++ 32 ∷ root_text r.root)) refl refl
    ∙ ap (λ ws. (99 ∷ []) ∷ ws) (split_first 32 (111 ∷ []) (r.name ++ 32 ∷ root_text r.root) refl refl
    ∙ ap (λ ws. (111 ∷ []) ∷ ws) (split_first 32 r.name (root_text r.root) h.no_space refl
    ∙ ap (λ ws. r.name ∷ ws) (split_last 32 (root_text r.root) (lacks_root 32 r.root refl refl refl refl h.variable))))

root_read : (r : NamedRoot) → IsWord r → root_of_line (root_bytes r) ≡ Some r
unfolding root_of_line
root_read r h = ap root_of_words (root_words r h) ∙ ap (option_map (λ (x : Root). record { name = r.name; root = x })) (root_word_read r.root h.variable)

roots_read : (rs : List NamedRoot) → AreWords rs → all_read (map root_of_line (map root_bytes rs)) ≡ Some rs
roots_read [] h = refl
roots_read (r ∷ rs) h =
    let rest : all_read (map root_of_line (map root_bytes rs)) ≡ Some rs = roots_read rs h.1 in
    rw (root_read r h.0, rest) refl

comments : (rs : List NamedRoot) (line : List ℕ) (lines : List (List ℕ)) → is_comment line ≡ false → take_while is_comment (map root_bytes rs ++ line ∷ lines) ≡ map root_bytes rs
comments [] line lines e = take_while-cons is_comment line lines ∙ (rw e refl)
comments (r ∷ rs) line lines e = take_while-cons is_comment (root_bytes r) (map root_bytes rs ++ line ∷ lines) ∙ ap (λ l. root_bytes r ∷ l) (comments rs line lines e)

root_lines-ended : (rs : List NamedRoot) → flat_map root_line rs ≡ ended (map root_bytes rs)
root_lines-ended [] = refl
root_lines-ended (r ∷ rs) = append_assoc (root_bytes r) (10 ∷ []) (flat_map root_line rs) ∙ ap (λ l. root_bytes r ++ 10 ∷ l) (root_lines-ended rs)

lack_root : (r : NamedRoot) → IsWord r → Lacks 10 (root_bytes r)
lack_root r h = subst (Lacks 10) (sym (root_bytes-words r)) (lacks-append 10 r.name (32 ∷ root_text r.root) h.no_newline (lacks_root 10 r.root refl refl refl refl h.variable))

lack_roots : (rs : List NamedRoot) → AreWords rs → AllLack (map root_bytes rs)
lack_roots [] h = tt
lack_roots (r ∷ rs) h = (lack_root r h.0, lack_roots rs h.1)

-- what can be written and read
pub record IsWritten (said : CircuitClauses) : Type 0 where
  pub roots : AreWords said.roots
  pub clauses : EachHasVariables said.clauses
  pub greatest : greatest_said said < 2 ^ 64
  pub count : length said.clauses < 2 ^ 64

module _ (said : CircuitClauses) (h : IsWritten said) where
  abbrev header : List ℕ
  header = header_bytes (greatest_said said) (length said.clauses)

  abbrev behind : List (List ℕ)
  behind = header ∷ map clause_bytes said.clauses

  abbrev lines : List (List ℕ)
  lines = map root_bytes said.roots ++ behind

  text-ended : cnf_text said ≡ ended lines
  text-ended =
      append_assoc (flat_map root_line said.roots ++ header) (10 ∷ []) (flat_map clause_line said.clauses)
      ∙ append_assoc (flat_map root_line said.roots) header (10 ∷ flat_map clause_line said.clauses)
      ∙ ap (λ l. flat_map root_line said.roots ++ (header ++ 10 ∷ l)) (clause_lines-ended said.clauses)
      ∙ ap (λ l. l ++ (header ++ 10 ∷ ended (map clause_bytes said.clauses))) (root_lines-ended said.roots)
      ∙ sym (ended-append (map root_bytes said.roots) behind)

  lines-are : ended_lines (cnf_text said) ≡ Some lines
  lines-are = ap ended_lines text-ended ∙ ended_lines-ended lines (AllLack-append (map root_bytes said.roots) behind (lack_roots said.roots h.roots) (lacks_header (greatest_said said) (length said.clauses) h.greatest h.count, lack_clauses said.clauses h.clauses))

  said_by : said_by_lines lines ≡ Some said
  said_by =
      let front : take_while is_comment lines ≡ map root_bytes said.roots = comments said.roots header (map clause_bytes said.clauses) refl in
      let rest : drop (length (map root_bytes said.roots)) lines ≡ behind = drop_at (map root_bytes said.roots) behind (length (map root_bytes said.roots)) refl in
      rw (front, roots_read said.roots h.roots, rest, clauses_read said.clauses h.clauses, bytes_same header) refl

  -- the text says what was written
  pub text_read : circuit_clauses (cnf_text said) ≡ Some said
  unfolding circuit_clauses
  text_read = rw lines-are said_by
