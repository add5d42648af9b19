-- The lines of a generated script as its commands, and the state that they leave.
use Rattle.std.proofs.Common.{◌≡◌, ◌∙◌, sym, ap, subst, refl, ℕ, suc, ◌+◌, Bool, true, false, cond, List, [], ◌∷◌, ◌++◌, length, map, Contains, codes, drop, ℤ, Result, Ok, Err, append_assoc, append-nil, nat_le, arith, eqb-true}
use Rattle.std.specs.List.{flat_map, list_all, range_with_len}
use Rattle.std.proofs.lemmas.Bool.{and_parts}
use Rattle.std.proofs.lemmas.List.{map-append}
use Rattle.std.proofs.lemmas.List.Elements.{Contains-append_left, Contains-append_right}
use Rattle.std.proofs.lemmas.List.Folds.{list_all-append}
use Rattle.craig_spec.specs.Cut.{PartClause}
use Rattle.craig_spec.proofs.MemberLemmas.{list_any-find}
use Rattle.craig_script.specs.declared.command.Command.{Command}
use Rattle.craig_script.specs.declared.command.Command.TheVariants.{Nothing, Parts, Add, System, Mark, Cuts, Limit, Format, Solve}
use Rattle.craig_script.specs.declared.line.Line.{Line}
use Rattle.craig_script.specs.declared.line.Line.TheVariants.{Text, Overlong}
use Rattle.craig_script.specs.declared.refusal.Refusal.{Refusal}
use Rattle.craig_script.specs.declared.refusal.Refusal.TheVariants as refusal
use Rattle.craig_script.specs.Generator.{adds_clause, end_clauses, generated, in_part, start_clause, step_clauses, step_commands}
use Rattle.craig_script.specs.Lines.{has_newline, is_newline, last_part, line_limit, line_of, whole_lines}
use Rattle.craig_script.specs.Reading.{admitted, parsed, read_line}
use Rattle.craig_script.specs.Writing.{command_line, command_text}
use Rattle.craig_script.proofs.LinesLemmas.{last_part-append_part, last_part-at, whole_lines-at}
use Rattle.craig_top.specs.GivenState.{ScriptSettings, State, after, any_clause, next, obeyed_if_admitted, start, unmarked}
use Rattle.craig_top.specs.declared.settings.Settings.{Settings}
use Rattle.craig_top.specs.Ending.{whole}
use Rattle.craig_top.specs.GeneratedRun.{clause_added, generated_text, with_generated, GeneratedReply}
use Rattle.craig_top.specs.Reply.{IsSolveReply, Reply, RepliesToReading}

-- ---- the lines

-- bytes among which there is no newline by its number have none by the test
no_newline-test : (bytes : List ℕ) (has : Bool) → has_newline bytes ≡ has → ¬ Contains bytes 10 → has_newline bytes ≡ false
no_newline-test bytes false is none = is
no_newline-test bytes true is none =
    let found = list_any-find is_newline bytes is in
    absurd (none (subst (λ b. Contains bytes b) (eqb-true found.0 10 found.2) found.1))

-- the first is one of the commands
first_of : (first : Command) (later : List Command) → Contains (first ∷ later) first
first_of first later = (0, omega arith, refl)

-- a later one is too
behind_first : (first c : Command) (later : List Command) → Contains later c → Contains (first ∷ later) c
behind_first first c later (k, within, at) = (suc k, omega (arith, within), at)

-- the lines of a text that has a line for each command
lines_of_commands : (commands : List Command) → ((c : Command) → Contains commands c → ¬ Contains (command_line c) 10) → whole_lines (flat_map command_text commands) ≡ map command_line commands
lines_of_commands [] none = refl
lines_of_commands (c ∷ cs) none =
    ap whole_lines (append_assoc (command_line c) (codes "\n") (flat_map command_text cs))
    ∙ whole_lines-at (command_line c) (flat_map command_text cs) (no_newline-test (command_line c) (has_newline (command_line c)) refl (none c (first_of c cs)))
    ∙ ap (λ ls. command_line c ∷ ls) (lines_of_commands cs (λ d here. none d (behind_first c d cs here)))

-- nothing stands behind the last newline
pub nothing_behind : (commands : List Command) → last_part (flat_map command_text commands) ≡ []
nothing_behind [] = refl
nothing_behind (c ∷ cs) =
    last_part-append_part (command_text c) (flat_map command_text cs)
    ∙ ap (λ z. last_part (z ++ flat_map command_text cs)) (last_part-at (command_line c) (codes "\n") refl)
    ∙ nothing_behind cs

-- the line that is read as the command
abbrev pub line_for : Command → Line
line_for c = Text (command_line c)

-- a line that is read is short
short_line : (bytes : List ℕ) (c : Command) (short : Bool) → nat_le (length bytes) line_limit ≡ short → parsed (Text bytes) ≡ Ok c → line_of bytes ≡ Text bytes
short_line bytes c true is read = ap (λ b. cond b (Text bytes) Overlong) is
short_line bytes c false is read = absurd (let no : Err refusal.Overlong ≡ Ok c = sym (rw is refl) ∙ read in cc)

-- each line is seen by its bytes
seen_lines : (commands : List Command) → ((c : Command) → Contains commands c → parsed (line_for c) ≡ Ok c) → map line_of (map command_line commands) ≡ map line_for commands
seen_lines [] read = refl
seen_lines (c ∷ cs) read =
    ap (λ l. l ∷ map line_of (map command_line cs)) (short_line (command_line c) c (nat_le (length (command_line c)) line_limit) refl (read c (first_of c cs)))
    ∙ ap (λ ls. line_for c ∷ ls) (seen_lines cs (λ d here. read d (behind_first c d cs here)))

-- each line of the text is seen as that of its command
pub lines_of_text : (commands : List Command) → ((c : Command) → Contains commands c → ¬ Contains (command_line c) 10) → ((c : Command) → Contains commands c → parsed (line_for c) ≡ Ok c)
    → whole (flat_map command_text commands) ≡ map line_for commands
lines_of_text commands none read = ap (map line_of) (lines_of_commands commands none) ∙ seen_lines commands read

-- ---- the state

-- the line is read as the command where there are so many parts
abbrev pub IsReadWith : ℕ → Command → Type 0
IsReadWith parts c = (any : Bool) → read_line parts any (line_for c) ≡ Ok c

-- a line that is read, and whose command is accepted
pub read_with : (parts : ℕ) (any : Bool) (c : Command) → parsed (line_for c) ≡ Ok c → admitted parts any c ≡ Ok tt → read_line parts any (line_for c) ≡ Ok c
read_with parts any c read within = rw (read, within) refl

-- the command is an addition
abbrev IsAddition : Command → Type 0
IsAddition c = (part : ℕ) × (lits : List ℤ) × (c ≡ Add part lits)

-- a command that adds a clause is one
is_addition : (c : Command) → adds_clause c ≡ true → IsAddition c
is_addition Nothing e = absurd (let no : false ≡ true = e in cc)
is_addition (Parts n) e = absurd (let no : false ≡ true = e in cc)
is_addition (Add part lits) e = (part, lits, refl)
is_addition (System s) e = absurd (let no : false ≡ true = e in cc)
is_addition (Mark name m) e = absurd (let no : false ≡ true = e in cc)
is_addition (Cuts cuts) e = absurd (let no : false ≡ true = e in cc)
is_addition (Limit limit) e = absurd (let no : false ≡ true = e in cc)
is_addition (Format f) e = absurd (let no : false ≡ true = e in cc)
is_addition (Solve pairs) e = absurd (let no : false ≡ true = e in cc)

-- these settings, and these clauses accepted
abbrev given : ScriptSettings → List PartClause → State
given s accepted = record { settings = s; accepted = accepted }

-- after an addition that is read
after_addition : (s : ScriptSettings) (accepted : List PartClause) (c : Command) → IsAddition c → IsReadWith s.parts c → next (given s accepted) (line_for c) ≡ given s (accepted ++ clause_added c)
unfolding next
after_addition s accepted c (part, lits, e) read =
    ap (obeyed_if_admitted (given s accepted)) (read (any_clause accepted)) ∙ subst (λ (d : Command). obeyed_if_admitted (given s accepted) (Ok d) ≡ given s (accepted ++ clause_added d)) (sym e) refl

-- after additions, one after the other
after_additions : (s : ScriptSettings) (accepted : List PartClause) (cs : List Command) → list_all adds_clause cs ≡ true → ((c : Command) → Contains cs c → IsReadWith s.parts c)
    → after (given s accepted) (map line_for cs) ≡ given s (accepted ++ flat_map clause_added cs)
after_additions s accepted [] all read = ap (given s) (sym (append-nil accepted))
after_additions s accepted (c ∷ cs) all read =
    let both = and_parts (adds_clause c) (list_all adds_clause cs) all in
    ap (λ (state : State). after state (map line_for cs)) (after_addition s accepted c (is_addition c both.0) (read c (first_of c cs)))
    ∙ after_additions s (accepted ++ clause_added c) cs both.1 (λ d here. read d (behind_first c d cs here))
    ∙ ap (given s) (append_assoc accepted (clause_added c) (flat_map clause_added cs))

-- ---- the commands before the last

-- what is added in the script
abbrev pub additions : ℕ → List Command
additions n = in_part 1 (map start_clause (range_with_len 0 7)) ++ (flat_map step_commands (range_with_len 0 n) ++ in_part (n + 1) (end_clauses n))

-- the script, as lists of any commands
regrouped : (a b d : List Command) (z : Command) → a ++ (b ++ (d ++ z ∷ [])) ≡ (a ++ (b ++ d)) ++ z ∷ []
regrouped a b d z = simp append_assoc

-- the script is the number of parts, the additions and the solve
pub generated_split : (n : ℕ) → generated n ≡ (Parts (n + 1) ∷ additions n) ++ Solve [] ∷ []
generated_split n = ap (λ cs. Parts (n + 1) ∷ cs) (regrouped (in_part 1 (map start_clause (range_with_len 0 7))) (flat_map step_commands (range_with_len 0 n)) (in_part (n + 1) (end_clauses n)) (Solve []))

-- each command of the rows is an addition
in_part-adds : (part : ℕ) (clauses : List (List ℤ)) → list_all adds_clause (in_part part clauses) ≡ true
in_part-adds part [] = refl
in_part-adds part (lits ∷ clauses) = in_part-adds part clauses

-- and those of two lists are
both_add : (a b : List Command) → list_all adds_clause a ≡ true → list_all adds_clause b ≡ true → list_all adds_clause (a ++ b) ≡ true
both_add a b e f = rw (list_all-append adds_clause a b, e, f) refl

-- and those of the steps
steps-add : (ns : List ℕ) → list_all adds_clause (flat_map step_commands ns) ≡ true
steps-add [] = refl
steps-add (k ∷ ns) = both_add (step_commands k) (flat_map step_commands ns) (in_part-adds (k + 1) (step_clauses k)) (steps-add ns)

-- and all of them
pub additions-add : (n : ℕ) → list_all adds_clause (additions n) ≡ true
additions-add n =
    both_add (in_part 1 (map start_clause (range_with_len 0 7))) (flat_map step_commands (range_with_len 0 n) ++ in_part (n + 1) (end_clauses n))
    (in_part-adds 1 (map start_clause (range_with_len 0 7)))
    (both_add (flat_map step_commands (range_with_len 0 n)) (in_part (n + 1) (end_clauses n)) (steps-add (range_with_len 0 n)) (in_part-adds (n + 1) (end_clauses n)))

-- what the solve adds is nothing
none_added : (cs : List Command) → flat_map clause_added (cs ++ Solve [] ∷ []) ≡ flat_map clause_added cs
none_added [] = refl
none_added (c ∷ cs) = ap (λ z. clause_added c ++ z) (none_added cs)

-- the script adds what its additions add
all_added : (n : ℕ) → flat_map clause_added (generated n) ≡ flat_map clause_added (additions n)
all_added n = ap (flat_map clause_added) (generated_split n) ∙ none_added (additions n)

-- an addition stands behind the number of parts
addition_later : (n : ℕ) (c : Command) → Contains (additions n) c → Contains (drop 1 (generated n)) c
addition_later n c here = subst (λ (cs : List Command). Contains (drop 1 cs) c) (sym (generated_split n)) (Contains-append_left (additions n) (Solve [] ∷ []) c here)

-- the solve stands there too
solve_later : (n : ℕ) → Contains (drop 1 (generated n)) (Solve [])
solve_later n = subst (λ (cs : List Command). Contains (drop 1 cs) (Solve [])) (sym (generated_split n)) (Contains-append_right (additions n) (Solve [] ∷ []) (Solve []) (first_of (Solve []) []))

-- what stands there is in the script
later_in : (n : ℕ) (c : Command) → Contains (drop 1 (generated n)) c → Contains (generated n) c
later_in n c here = behind_first (Parts (n + 1)) c (drop 1 (generated n)) here

-- ---- the last line

-- a list with a last line isn't empty
not_empty : (b : List Line) (y : Line) → ¬ ([] ≡ b ++ y ∷ [])
not_empty [] y = λ e. cc
not_empty (d ∷ b) y = λ e. cc

-- two lists with a last line agree before it and in it
same_last : (a b : List Line) (x y : Line) → a ++ x ∷ [] ≡ b ++ y ∷ [] → (a ≡ b) × (x ≡ y)
same_last [] [] x y e = (refl, cc)
same_last [] (d ∷ b) x y e = absurd (not_empty b y (cc))
same_last (c ∷ a) [] x y e = absurd (not_empty a x (cc))
same_last (c ∷ a) (d ∷ b) x y e =
    let rest : a ++ x ∷ [] ≡ b ++ y ∷ [] = cc in
    let same = same_last a b x y rest in
    let first : c ≡ d = cc in (rw (first, same.0) refl, same.1)

-- the commands of the script can be read where there is one part more than steps
pub record AreReadBack (n : ℕ) : Type 0 where
  -- their lines have no newline
  pub no_newline : (c : Command) → Contains (generated n) c → ¬ Contains (command_line c) 10
  -- each line is read as its command
  pub read : (c : Command) → Contains (generated n) c → parsed (line_for c) ≡ Ok c
  -- the number of parts is accepted at the start
  pub first : admitted 2 false (Parts (n + 1)) ≡ Ok tt
  -- the others are accepted after it
  pub later : (any : Bool) (c : Command) → Contains (drop 1 (generated n)) c → admitted (n + 1) any c ≡ Ok tt

-- the lines of the script are those of its commands
pub generated_lines : (n : ℕ) → AreReadBack n → whole (generated_text n) ≡ map line_for (generated n)
unfolding generated_text
generated_lines n f = lines_of_text (generated n) f.no_newline f.read

-- the text ends with a newline
pub generated_ends : (n : ℕ) → last_part (generated_text n) ≡ []
unfolding generated_text
generated_ends n = nothing_behind (generated n)

-- after the first line there is one part more than steps
after_parts : (settings : Settings) (n : ℕ) → AreReadBack n → next (start settings) (line_for (Parts (n + 1))) ≡ given (unmarked (n + 1) settings) []
unfolding next
after_parts settings n f = ap (obeyed_if_admitted (start settings)) (read_with 2 false (Parts (n + 1)) (f.read (Parts (n + 1)) (first_of (Parts (n + 1)) (drop 1 (generated n)))) f.first)

-- each later line is read as its command
later_read : (n : ℕ) (c : Command) → AreReadBack n → Contains (drop 1 (generated n)) c → IsReadWith (n + 1) c
later_read n c f here = λ any. read_with (n + 1) any c (f.read c (later_in n c here)) (f.later any c here)

-- before the last line the generated clauses are accepted
before_solve : (settings : Settings) (n : ℕ) → AreReadBack n → after (start settings) (map line_for (Parts (n + 1) ∷ additions n)) ≡ with_generated settings n
before_solve settings n f =
    ap (λ (state : State). after state (map line_for (additions n))) (after_parts settings n f)
    ∙ after_additions (unmarked (n + 1) settings) [] (additions n) (additions-add n) (λ c here. later_read n c f (addition_later n c here))
    ∙ ap (given (unmarked (n + 1) settings)) (sym (all_added n))

-- the last line is a solve without assumptions
solve_reply : (settings : Settings) (n : ℕ) (text : List ℕ) → AreReadBack n → Reply (with_generated settings n) (line_for (Solve [])) text → IsSolveReply (with_generated settings n) [] text
unfolding Reply
solve_reply settings n text f r =
    subst (λ (read : Result Command Refusal). RepliesToReading (with_generated settings n) read text) (later_read n (Solve []) f (solve_later n) (any_clause (with_generated settings n).accepted)) r

-- the reply to the last line is the verdict on the generated clauses
pub generated_reply : (settings : Settings) (n : ℕ) (text : List ℕ) → AreReadBack n → GeneratedReply settings n text → IsSolveReply (with_generated settings n) [] text
generated_reply settings n text f (before, last, e, r) =
    let split : whole (generated_text n) ≡ map line_for (Parts (n + 1) ∷ additions n) ++ line_for (Solve []) ∷ [] =
    generated_lines n f ∙ ap (map line_for) (generated_split n) ∙ map-append line_for (Parts (n + 1) ∷ additions n) (Solve [] ∷ []) in
    let same = same_last before (map line_for (Parts (n + 1) ∷ additions n)) last (line_for (Solve [])) (sym e ∙ split) in
    let here : Reply (after (start settings) (map line_for (Parts (n + 1) ∷ additions n))) (line_for (Solve [])) text =
    subst (λ (line : Line). Reply (after (start settings) (map line_for (Parts (n + 1) ∷ additions n))) line text) same.1
    (subst (λ (ls : List Line). Reply (after (start settings) ls) last text) same.0 r) in
    solve_reply settings n text f (subst (λ (state : State). Reply state (line_for (Solve [])) text) (before_solve settings n f) here)
