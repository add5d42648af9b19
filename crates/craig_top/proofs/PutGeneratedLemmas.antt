-- What the summary of a generated script says, and which text a run of it has put.
use Rattle.std.proofs.Common.{◌≡◌, ◌∙◌, sym, ap, subst, refl, inl, inr, ℕ, zero, suc, ◌+◌, ◌*◌, ◌≤◌, max, Bool, true, false, cond, List, [], ◌∷◌, ◌++◌, length, map, Contains, codes, Option, Some, ℤ, unsigned_abs, append_assoc, append-nil, arith}
use Rattle.std.specs.Fmt.{decimal}
use Rattle.std.specs.List.{count_by, flat_map, list_all}
use Rattle.std.proofs.lemmas.Bool.{and_parts}
use Rattle.std.proofs.lemmas.List.{map-append}
use Rattle.std.proofs.lemmas.List.Folds.{list_all-append}
use Rattle.std.proofs.lemmas.List.FromFn.{length-range_with_len}
use Rattle.std.proofs.lemmas.List.Recursion.{is_count_by}
use Rattle.craig_spec.specs.Cut.{PartClause}
use Rattle.craig_spec.specs.DimacsText.{greatest_of_clause, greatest_of_clauses}
use Rattle.craig_script.specs.declared.command.Command.{Command}
use Rattle.craig_script.specs.declared.command.Command.TheVariants.{Nothing, Parts, Add, System, Mark, Cuts, Limit, Format, Solve}
use Rattle.craig_script.specs.Generator.{adds_clause, generated}
use Rattle.craig_script.specs.Reading.{variables_named}
use Rattle.craig_top.specs.Formats.{greatest_named}
use Rattle.craig_top.specs.GeneratedRun.{GeneratedPromise, clause_added, summary_line, summary_text, with_generated}
use Rattle.craig_top.specs.GivenState.{script_literal}
use Rattle.craig_top.specs.Named.{bare_clauses}
use Rattle.craig_top.specs.PutGenerated.{IsFrontOfSummaryAndReply, IsSummary, IsSummaryAndReply, counted, counting_lines}
use Rattle.craig_top.specs.PutReplies.{StandsBehind}
use Rattle.craig_top.specs.Reply.{IsSolveReply}
use Rattle.craig_top.specs.declared.settings.Settings.{Settings}
use Rattle.craig_top.specs.declared.status.Status.{Status}
use Rattle.craig_top.specs.declared.status.Status.TheVariants.{Done, Usage, ReadFault, WriteFault, TooLong, NoMemory}
use Rattle.craig_top.specs.GeneratedRun.{EndsGenerated}
use Rattle.craig_top.proofs.FormatLemmas.{greatest-append, variable_of}
use Rattle.craig_top.proofs.GeneratedStateLemmas.{AreReadBack, generated_reply, generated_split, additions, additions-add}

-- ---- the clauses

-- a command adds one or none
one_added : (c : Command) (cs : List Command) → length (flat_map clause_added (c ∷ cs)) ≡ cond (adds_clause c) (1 + length (flat_map clause_added cs)) (length (flat_map clause_added cs))
one_added Nothing cs = refl
one_added (Parts n) cs = refl
one_added (Add part lits) cs = (let more : suc (length (flat_map clause_added cs)) ≡ 1 + length (flat_map clause_added cs) = omega arith in more)
one_added (System s) cs = refl
one_added (Mark name m) cs = refl
one_added (Cuts cuts) cs = refl
one_added (Limit limit) cs = refl
one_added (Format f) cs = refl
one_added (Solve pairs) cs = refl

-- a clause is accepted for each command that adds one
clauses_counted : (cs : List Command) → length (flat_map clause_added cs) ≡ count_by adds_clause cs
clauses_counted cs = is_count_by (λ (ds : List Command). length (flat_map clause_added ds)) adds_clause refl one_added cs

-- ---- the greatest variable

-- the greatest variable of what commands add
abbrev greatest_added : List Command → ℕ
greatest_added cs = greatest_of_clauses (bare_clauses (flat_map clause_added cs))

-- of two lists of clauses with parts
greatest-parts : (a b : List PartClause) → greatest_of_clauses (bare_clauses (a ++ b)) ≡ max (greatest_of_clauses (bare_clauses a)) (greatest_of_clauses (bare_clauses b))
greatest-parts a b = ap greatest_of_clauses (map-append (λ (c : PartClause). c.clause) a b) ∙ greatest-append (bare_clauses a) (bare_clauses b)

-- a number that a clause has is not above its greatest variable
literal_within : (lits : List ℤ) (v : ℕ) → Contains (map unsigned_abs lits) v → v ≤ greatest_of_clause (map script_literal lits)
literal_within [] v (k, within, at) = absurd (omega (arith, within))
literal_within (z ∷ lits) v (zero, within, at) = let same : unsigned_abs z ≡ v = at in omega (arith, same, variable_of z)
literal_within (z ∷ lits) v (suc k, within, at) = omega (arith, literal_within lits v (k, omega (arith, within), at))

-- where none of them is above a number, neither is the greatest variable
literals_below : (lits : List ℤ) (m : ℕ) → ((v : ℕ) → Contains (map unsigned_abs lits) v → v ≤ m) → greatest_of_clause (map script_literal lits) ≤ m
literals_below [] m each = omega arith
literals_below (z ∷ lits) m each =
    omega (arith, each (unsigned_abs z) (0, omega arith, refl), variable_of z, literals_below lits m (λ v here. each v (suc here.0, omega (arith, here.1), here.2)))

-- whether all variables that the command names are those of the clause that it adds
names_in_clause : Command → Bool
names_in_clause Nothing = true
names_in_clause (Parts n) = true
names_in_clause (Add part lits) = true
names_in_clause (System s) = true
names_in_clause (Mark name m) = false
names_in_clause (Cuts cuts) = true
names_in_clause (Limit limit) = true
names_in_clause (Format f) = true
names_in_clause (Solve []) = true
names_in_clause (Solve (pair ∷ pairs)) = false

-- a variable that such a command names is not above that of its clause
named_within : (c : Command) (v : ℕ) → names_in_clause c ≡ true → Contains (variables_named c) v → v ≤ greatest_of_clauses (bare_clauses (clause_added c))
unfolding names_in_clause
named_within Nothing v e (k, within, at) = absurd (omega (arith, within))
named_within (Parts n) v e (k, within, at) = absurd (omega (arith, within))
named_within (Add part lits) v e here = omega (arith, literal_within lits v here)
named_within (System s) v e (k, within, at) = absurd (omega (arith, within))
named_within (Mark name m) v e here = absurd (let no : false ≡ true = e in cc)
named_within (Cuts cuts) v e (k, within, at) = absurd (omega (arith, within))
named_within (Limit limit) v e (k, within, at) = absurd (omega (arith, within))
named_within (Format f) v e (k, within, at) = absurd (omega (arith, within))
named_within (Solve []) v e (k, within, at) = absurd (omega (arith, within))
named_within (Solve (pair ∷ pairs)) v e here = absurd (let no : false ≡ true = e in cc)

-- nor above those of all clauses
reached : (cs : List Command) (c : Command) (v : ℕ) → list_all names_in_clause cs ≡ true → Contains cs c → Contains (variables_named c) v → v ≤ greatest_added cs
reached [] c v all (k, within, at) named = absurd (omega (arith, within))
reached (d ∷ cs) c v all (zero, within, at) named =
    let both = and_parts (names_in_clause d) (list_all names_in_clause cs) all in
    omega (arith, greatest-parts (clause_added d) (flat_map clause_added cs), named_within d v both.0 (subst (λ (x : Command). Contains (variables_named x) v) (sym at) named))
reached (d ∷ cs) c v all (suc k, within, at) named =
    let both = and_parts (names_in_clause d) (list_all names_in_clause cs) all in
    omega (arith, greatest-parts (clause_added d) (flat_map clause_added cs), reached cs c v both.1 (k, omega (arith, within), at) named)

-- where no named variable is above a number, neither is that of the command's clause
added_below : (c : Command) (m : ℕ) → ((v : ℕ) → Contains (variables_named c) v → v ≤ m) → greatest_of_clauses (bare_clauses (clause_added c)) ≤ m
added_below Nothing m each = omega arith
added_below (Parts n) m each = omega arith
added_below (Add part lits) m each = omega (arith, literals_below lits m each)
added_below (System s) m each = omega arith
added_below (Mark name word) m each = omega arith
added_below (Cuts cuts) m each = omega arith
added_below (Limit limit) m each = omega arith
added_below (Format f) m each = omega arith
added_below (Solve pairs) m each = omega arith

-- nor that of all clauses
all_below : (cs : List Command) (m : ℕ) → ((c : Command) (v : ℕ) → Contains cs c → Contains (variables_named c) v → v ≤ m) → greatest_added cs ≤ m
all_below [] m each = omega arith
all_below (c ∷ cs) m each =
    omega (
      arith,
      greatest-parts (clause_added c) (flat_map clause_added cs),
      added_below c m (λ v named. each c v (0, omega arith, refl) named),
      all_below cs m (λ d v here named. each d v (suc here.0, omega (arith, here.1), here.2) named),
    )

-- a command that adds a clause names no other variables
addition_names : (c : Command) → adds_clause c ≡ true → names_in_clause c ≡ true
unfolding names_in_clause
addition_names Nothing e = refl
addition_names (Parts n) e = refl
addition_names (Add part lits) e = refl
addition_names (System s) e = refl
addition_names (Mark name m) e = e
addition_names (Cuts cuts) e = refl
addition_names (Limit limit) e = refl
addition_names (Format f) e = refl
addition_names (Solve pairs) e = absurd (let no : false ≡ true = e in cc)

additions_name : (cs : List Command) → list_all adds_clause cs ≡ true → list_all names_in_clause cs ≡ true
additions_name [] all = refl
additions_name (c ∷ cs) all = let both = and_parts (adds_clause c) (list_all adds_clause cs) all in rw (addition_names c both.0, additions_name cs both.1) refl

-- so do those of the script
generated_names : (n : ℕ) → list_all names_in_clause (generated n) ≡ true
unfolding names_in_clause
generated_names n =
    ap (list_all names_in_clause) (generated_split n) ∙ rw (list_all-append names_in_clause (additions n) (Solve [] ∷ []), additions_name (additions n) (additions-add n)) refl

-- the greatest variable of the clauses is the one that is said
variables_counted :
    (settings : Settings) (n : ℕ) → ((c : Command) (v : ℕ) → Contains (generated n) c → Contains (variables_named c) v → v ≤ 14 * n + 7)
    → (c : Command) × Contains (generated n) c × Contains (variables_named c) (14 * n + 7) → greatest_named (with_generated settings n) [] ≡ 14 * n + 7
variables_counted settings n within (c, here, named) =
    omega (arith, all_below (generated n) (14 * n + 7) within, reached (generated n) c (14 * n + 7) (generated_names n) here named)

-- ---- the summary

-- a line more in front of others
line_first : (word : List ℕ) (n : ℕ) (line others rest : List ℕ) → line ≡ counted word n → others ≡ rest → summary_line word n ++ others ≡ (line ++ codes "\n") ++ rest
line_first word n line others rest is same =
    ap (λ z. z ++ others) (sym (append_assoc word (codes " " ++ decimal n) (codes "\n") ∙ ap (λ z. word ++ z) (append_assoc (codes " ") (decimal n) (codes "\n"))))
    ∙ ap (λ z. (z ++ codes "\n") ++ others) (sym is) ∙ ap (λ z. (line ++ codes "\n") ++ z) same

-- lines of these words
five_lines : (a b c d e : List ℕ) (j k l m n : ℕ)
    → summary_line a j ++ (summary_line b k ++ (summary_line c l ++ (summary_line d m ++ summary_line e n)))
    ≡ flat_map (λ line. line ++ codes "\n") (counted a j ∷ (counted b k ∷ (counted c l ∷ (counted d m ∷ (counted e n ∷ [])))))
five_lines a b c d e j k l m n =
    line_first a j _ _ _ refl (line_first b k _ _ _ refl (line_first c l _ _ _ refl (line_first d m _ _ _ refl (sym (append-nil (summary_line e n)) ∙ line_first e n _ [] [] refl refl))))

-- lines that count the same
same_counts : (text : List ℕ) (steps parts clauses others variables greatest cuts chosen : ℕ) → clauses ≡ others → variables ≡ greatest → cuts ≡ chosen
    → text ≡ flat_map (λ line. line ++ codes "\n") (counting_lines steps parts clauses variables cuts) → text ≡ flat_map (λ line. line ++ codes "\n") (counting_lines steps parts others greatest chosen)
same_counts text steps parts clauses others variables greatest cuts chosen c v k e =
    e ∙ ap (λ z. flat_map (λ line. line ++ codes "\n") (counting_lines steps parts z variables cuts)) c
    ∙ ap (λ z. flat_map (λ line. line ++ codes "\n") (counting_lines steps parts others z cuts)) v
    ∙ ap (λ z. flat_map (λ line. line ++ codes "\n") (counting_lines steps parts others greatest z)) k

-- the summary counts what the state has
pub is_summary :
    (settings : Settings) (n : ℕ) → ((c : Command) (v : ℕ) → Contains (generated n) c → Contains (variables_named c) v → v ≤ 14 * n + 7)
    → (c : Command) × Contains (generated n) c × Contains (variables_named c) (14 * n + 7) → IsSummary n (with_generated settings n) (summary_text n)
is_summary settings n within greatest =
    same_counts (summary_text n) n (n + 1) (count_by adds_clause (generated n)) (length (with_generated settings n).accepted) (14 * n + 7) (greatest_named (with_generated settings n) []) (n + 2)
    (length (with_generated settings n).settings.cuts) (sym (clauses_counted (generated n))) (sym (variables_counted settings n within greatest))
    (let more : n + 2 ≡ n + 1 + 1 = omega arith in more ∙ sym (length-range_with_len 0 (n + 1 + 1)))
    (five_lines (codes "gen") (codes "parts") (codes "clauses") (codes "variables") (codes "cuts") n (n + 1) (count_by adds_clause (generated n)) (14 * n + 7) (n + 2))

-- ---- what is put

module _ (settings : Settings) (n : ℕ) (back : AreReadBack n) (held : List ℕ) (later : Option (List ℕ)) where
  -- a reply to a solve without assumptions over the generated clauses
  abbrev IsVerdict : List ℕ → Type 0
  IsVerdict text = IsSolveReply (with_generated settings n) [] text

  pub all_put : GeneratedPromise settings n Done (Some held) later → StandsBehind held later (IsSummaryAndReply (summary_text n) IsVerdict)
  all_put promise =
      let p = promise held refl in
      (p.0, p.2, (p.1.0, generated_reply settings n p.1.0 back p.1.1, p.1.2))

  pub begun_put : GeneratedPromise settings n WriteFault (Some held) later → StandsBehind held later (IsFrontOfSummaryAndReply (summary_text n) IsVerdict)
  begun_put promise =
      let p = promise held refl in
      elim p.1 [
        | inl begun ↦ (p.0, p.2, inl begun)
        | inr (front, rest, gives, joined) ↦ (p.0, p.2, inr (front, rest, generated_reply settings n (front ++ rest) back gives, joined))
      ]

-- where a run of the generated script ends by a status, it is one of three
pub ends_generated : (settings : Settings) (n : ℕ) (status : Status) (held : List ℕ) (later : Option (List ℕ)) → GeneratedPromise settings n status (Some held) later → EndsGenerated status
ends_generated settings n Done held later promise = inl refl
ends_generated settings n Usage held later promise = absurd (promise held refl).1
ends_generated settings n ReadFault held later promise = absurd (promise held refl).1
ends_generated settings n WriteFault held later promise = inr (inl refl)
ends_generated settings n TooLong held later promise = absurd (promise held refl).1
ends_generated settings n NoMemory held later promise = inr (inr refl)
