-- Which words a line has that is read as a command.
use Rattle.std.proofs.Common.{◌≡◌, ◌∙◌, sym, ap, subst, refl, ℕ, zero, suc, ◌≤◌, Bool, true, false, not, ◌&&◌, ◌==◌, nat_le, cond, List, [], ◌∷◌, ◌++◌, length, map, Option, Some, None, option_map, Result, Ok, Err, codes, drop, ℤ, pos, neg_ℤ, leb-true}
use Rattle.std.specs.Fmt.{decimal, signed_decimal}
use Rattle.std.specs.Int.RustNames.{unsigned_abs}
use Rattle.std.specs.List.{flat_map, list_all}
use Rattle.std.specs.Str.{bytes_eq}
use Rattle.std.proofs.lemmas.Bool.{and_parts, eq-eqb, eqb-true}
use Rattle.std.proofs.lemmas.Slice.Eq.{bytes_eq-Decides}
use Rattle.craig_script.specs.declared.command.Command.{Command}
use Rattle.craig_script.specs.declared.command.Command.TheVariants.{Nothing, Parts, Add, System, Mark, Cuts, Limit, Format, Solve}
use Rattle.craig_script.specs.declared.cut_word.CutWord.TheVariants as cut
use Rattle.craig_script.specs.declared.setting_words.FormatWord.{FormatWord}
use Rattle.craig_script.specs.declared.setting_words.MarkWord.{MarkWord}
use Rattle.craig_script.specs.declared.setting_words.SystemWord.{SystemWord}
use Rattle.craig_script.specs.declared.line.Line.{Line}
use Rattle.craig_script.specs.declared.line.Line.TheVariants as line
use Rattle.craig_script.specs.declared.refusal.Refusal.{Refusal}
use Rattle.craig_script.specs.declared.refusal.Refusal.TheVariants.{Syntax, Overlong, Range, Variable, LateParts, CutRange, LimitRange}
use Rattle.craig_script.specs.Lines.{line_limit}
use Rattle.craig_script.specs.NumberWords.{is_negated, literal_of, number_of, unless_zero}
use Rattle.craig_script.specs.Reading.{format_named, format_of, limit_of, is_limit_within, ◌>>=◌, add_of, admitted, are_cuts_within, are_parts_within, command_of, cuts_of, gives_parts, is_comment, is_end, is_within, literals_to_end, mark_named, mark_of, numbers_to_end, only_word, or_syntax, pairs_to_end, parsed, parts_of, solve_of, system_named, system_of, then_nothing, variable_limit, variables_named}
use Rattle.craig_script.specs.Words.{words}
use Rattle.craig_spec.specs.Cut.{PartClause}
use Rattle.craig_spec.proofs.MemberLemmas.{Contains-image, list_all-member}
use Rattle.craig_script.proofs.NumbersLemmas.{option_map-some}
use Rattle.craig_top.specs.CommandLines.{IsLimitInRange, AreInRange, ArePairsInRange, AreRisingCuts}
use Rattle.craig_script.specs.Writing.{command_words, format_word, mark_word, system_word}
use Rattle.craig_top.specs.GivenState.{State, any_clause, reading}
use Rattle.craig_top.proofs.AsReadLemmas.{as_read}
use Rattle.craig_top.proofs.RisingCutsLemmas.{rising-cuts, within-cuts}

-- ---- what a reading that goes on is made of

bind-ok : {A B : Type 0} (read : Result A Refusal) (f : A → Result B Refusal) (y : B) → (read >>= f) ≡ Ok y → (x : A) × (read ≡ Ok x) × (f x ≡ Ok y)
bind-ok (Ok x) f y e = (x, refl, e)
bind-ok (Err r) f y e = absurd (cc)

or_syntax-ok : {A : Type 0} (o : Option A) (x : A) → or_syntax o ≡ Ok x → o ≡ Some x
or_syntax-ok None x e = absurd (cc)
or_syntax-ok (Some y) x e = cc

same_ok : {A : Type 0} (x y : A) → ◌≡◌ {A = Result A Refusal} (Ok x) (Ok y) → x ≡ y
same_ok x y e = cc

checked-ok : {A : Type 0} (b : Bool) (read : Result A Refusal) (r : Refusal) (x : A) → cond b read (Err r) ≡ Ok x → (b ≡ true) × (read ≡ Ok x)
checked-ok true read r x e = (refl, e)
checked-ok false read r x e = absurd (cc)

refused-ok : {A : Type 0} (b : Bool) (read : Result A Refusal) (r : Refusal) (x : A) → cond (not b) (Err r) read ≡ Ok x → (b ≡ true) × (read ≡ Ok x)
refused-ok true read r x e = (refl, e)
refused-ok false read r x e = absurd (cc)

-- a line is read as a command where it is one by the grammar and what it names is admitted
read-ok : (state : State) (l : Line) (c : Command) → reading state l ≡ Ok c → (parsed l ≡ Ok c) × (admitted state.settings.parts (any_clause state.accepted) c ≡ Ok tt)
read-ok state l c e =
    let one = bind-ok (parsed l) (λ command. admitted state.settings.parts (any_clause state.accepted) command >>= λ _. Ok command) c e in
    let two = bind-ok (admitted state.settings.parts (any_clause state.accepted) one.0) (λ _. Ok one.0) c one.2 in
    let same : one.0 ≡ c = same_ok one.0 c two.2 in
    (one.1 ∙ ap Ok same, subst (λ d. admitted state.settings.parts (any_clause state.accepted) d ≡ Ok tt) same two.1)

parsed-text : (bytes : List ℕ) (c : Command) → parsed (line.Text bytes) ≡ Ok c → (nat_le (length bytes) line_limit ≡ true) × (command_of (words bytes) ≡ Ok c)
parsed-text bytes c e = checked-ok (nat_le (length bytes) line_limit) (command_of (words bytes)) Overlong c e

-- ---- words

is_zero_word : (w : List ℕ) → is_end w ≡ true → w ≡ codes "0"
is_zero_word w e = (bytes_eq-Decides w (codes "0")).0 e

nothing-ok : {A : Type 0} (ws : List (List ℕ)) (x y : A) → then_nothing ws x ≡ Ok y → (ws ≡ []) × (x ≡ y)
nothing-ok [] x y e = (refl, same_ok x y e)
nothing-ok (w ∷ ws) x y e = absurd (cc)

-- ---- the words of settings

-- the two words are the same where the test says so
same_word : (w name : List ℕ) → bytes_eq w name ≡ true → w ≡ name
same_word w name e = (bytes_eq-Decides w name).0 e

-- the first of two answers, where its test passes, and else the second
chosen-ok : {X : Type 0} (P : X → Type 0) (b : Bool) (x : X) (rest : Option X) (y : X) → cond b (Some x) rest ≡ Some y → (b ≡ true → P x) → (rest ≡ Some y → P y) → P y
chosen-ok P true x rest y e here later = subst P (let same : x ≡ y = cc in same) (here refl)
chosen-ok P false x rest y e here later = later e

system-form : (w : List ℕ) (s : SystemWord) → system_named w ≡ Some s → w ≡ system_word s
system-form w s e =
    chosen-ok Form _ _ _ s e (same_word w (codes "mcmillan"))
    (λ e. chosen-ok Form _ _ _ s e (same_word w (codes "pudlak"))
    (λ e. chosen-ok Form _ _ _ s e (same_word w (codes "inverse"))
    (λ e. chosen-ok Form _ _ _ s e (same_word w (codes "dual"))
    (λ e. chosen-ok Form _ _ _ s e (same_word w (codes "marks"))
    (λ e. chosen-ok Form _ _ _ s e (same_word w (codes "all"))
    (λ e. absurd (cc)))))))
  where
    Form : SystemWord → Type 0
    Form t = w ≡ system_word t

mark-form : (w : List ℕ) (m : MarkWord) → mark_named w ≡ Some m → w ≡ mark_word m
mark-form w m e =
    chosen-ok Form _ _ _ m e (same_word w (codes "a"))
    (λ e. chosen-ok Form _ _ _ m e (same_word w (codes "ab"))
    (λ e. chosen-ok Form _ _ _ m e (same_word w (codes "b"))
    (λ e. absurd (cc))))
  where
    Form : MarkWord → Type 0
    Form t = w ≡ mark_word t

format-form : (w : List ℕ) (f : FormatWord) → format_named w ≡ Some f → w ≡ format_word f
format-form w f e =
    chosen-ok Form _ _ _ f e (same_word w (codes "aag"))
    (λ e. chosen-ok Form _ _ _ f e (same_word w (codes "aig"))
    (λ e. chosen-ok Form _ _ _ f e (same_word w (codes "cnf"))
    (λ e. absurd (cc))))
  where
    Form : FormatWord → Type 0
    Form t = w ≡ format_word t

only-ok : (ws : List (List ℕ)) (w : List ℕ) → only_word ws ≡ Ok w → ws ≡ w ∷ []
only-ok [] w e = absurd (cc)
only-ok (v ∷ vs) w e = let none = nothing-ok vs v w e in ap (λ rest. v ∷ rest) none.0 ∙ ap (λ u. u ∷ []) none.1

-- the command has these words
abbrev Worded : Command → List (List ℕ) → Type 0
Worded Nothing ws = Unit {0}
Worded (Parts n) ws = ws ≡ command_words (Parts n)
Worded (Add part lits) ws = ws ≡ command_words (Add part lits)
Worded (System s) ws = ws ≡ command_words (System s)
Worded (Mark name m) ws = ws ≡ command_words (Mark name m)
Worded (Limit limit) ws = ws ≡ command_words (Limit limit)
Worded (Format f) ws = ws ≡ command_words (Format f)
Worded (Cuts cut.All) ws = ws ≡ command_words (Cuts cut.All)
Worded (Cuts (cut.Chosen zs)) ws = ws ≡ command_words (Cuts (cut.Chosen zs))
Worded (Solve pairs) ws = ws ≡ command_words (Solve pairs)

-- ---- the tests on what a command names

late-ok : {A : Type 0} (b : Bool) (read : Result A Refusal) (r : Refusal) (x : A) → cond b (Err r) read ≡ Ok x → (b ≡ false) × (read ≡ Ok x)
late-ok true read r x e = absurd (cc)
late-ok false read r x e = (refl, e)

-- an admitted command has passed each of them
admitted-tests : (state : State) (c : Command) → admitted state.settings.parts (any_clause state.accepted) c ≡ Ok tt
    → ((any_clause state.accepted && gives_parts c) ≡ false) × (are_parts_within state.settings.parts c ≡ true) × (list_all (is_within variable_limit) (variables_named c) ≡ true) × (are_cuts_within state.settings.parts c ≡ true) × (is_limit_within c ≡ true)
admitted-tests state c e =
    let late = late-ok (any_clause state.accepted && gives_parts c) _ LateParts tt e in
    let parts = refused-ok (are_parts_within state.settings.parts c) _ Range tt late.1 in
    let variables = refused-ok (list_all (is_within variable_limit) (variables_named c)) _ Variable tt parts.1 in
    let limit = refused-ok (is_limit_within c) _ LimitRange tt variables.1 in
    let cuts = refused-ok (are_cuts_within state.settings.parts c) (Ok tt) CutRange tt limit.1 in
    (late.0, parts.0, variables.0, cuts.0, limit.0)

-- no clause is accepted where the test says so
no_clause : (accepted : List PartClause) → (any_clause accepted && true) ≡ false → accepted ≡ []
no_clause [] e = refl
no_clause (a ∷ others) e = absurd (let no : true ≡ false = e in cc)

-- a number within the limit of variables
number_range : (n : ℕ) → is_within variable_limit n ≡ true → (1 ≤ n) × (n ≤ 2147483647)
number_range n e = let both = and_parts _ _ e in (leb-true 1 n both.0, leb-true n 2147483647 both.1)

-- ---- literals

not_zero-cases : (m n : ℕ) (zero_is : Bool) → cond zero_is None (Some m) ≡ Some n → m ≡ n
not_zero-cases m n true e = absurd (cc)
not_zero-cases m n false e = cc

not_zero : (o : Option ℕ) (n : ℕ) → unless_zero o ≡ Some n → o ≡ Some n
not_zero None n e = absurd (cc)
not_zero (Some m) n e = ap Some (not_zero-cases m n (m == 0) e)

never_zero-cases : (m : ℕ) (zero_is : Bool) → (m == 0) ≡ zero_is → cond zero_is None (Some m) ≡ Some 0 → ⊥
never_zero-cases m true is e = absurd (cc)
never_zero-cases m false is e = absurd (let same : m ≡ 0 = cc in let no : true ≡ false = sym (eq-eqb m 0 same) ∙ is in cc)

never_zero : (o : Option ℕ) → unless_zero o ≡ Some 0 → ⊥
never_zero None e = absurd (cc)
never_zero (Some m) e = never_zero-cases m (m == 0) refl e

negated_form : (n : ℕ) (o : Option ℕ) (bs : List ℕ) → unless_zero o ≡ Some n → bs ≡ decimal n → 45 ∷ bs ≡ signed_decimal (neg_ℤ (pos n))
negated_form zero o bs some form = absurd (never_zero o some)
negated_form (suc n) o bs some form = ap (λ ds. 45 ∷ ds) form

-- a word that is a literal is its decimal form
literal-cases : ((word : List ℕ) (n : ℕ) → number_of word ≡ Some n → word ≡ decimal n) → (word : List ℕ) (z : ℤ) (negated : Bool) → is_negated word ≡ negated
    → cond negated (option_map (λ n. neg_ℤ (pos n)) (unless_zero (number_of (drop 1 word)))) (option_map pos (unless_zero (number_of word))) ≡ Some z → word ≡ signed_decimal z
literal-cases number_form [] z true is e = absurd (let no : false ≡ true = is in cc)
literal-cases number_form (b ∷ bs) z true is e =
    let found = option_map-some (λ n. neg_ℤ (pos n)) (unless_zero (number_of bs)) z e in
    ap (λ c. c ∷ bs) (eqb-true b 45 is) ∙ negated_form found.0 (number_of bs) bs found.1 (number_form bs found.0 (not_zero (number_of bs) found.0 found.1)) ∙ ap signed_decimal found.2
literal-cases number_form word z false is e =
    let found = option_map-some pos (unless_zero (number_of word)) z e in
    number_form word found.0 (not_zero (number_of word) found.0 found.1) ∙ ap signed_decimal found.2

pub literal_form_of : ((word : List ℕ) (n : ℕ) → number_of word ≡ Some n → word ≡ decimal n) → (word : List ℕ) (z : ℤ) → literal_of word ≡ Some z → word ≡ signed_decimal z
literal_form_of number_form word z e = literal-cases number_form word z (is_negated word) refl e

module _ (literal_form : (word : List ℕ) (z : ℤ) → literal_of word ≡ Some z → word ≡ signed_decimal z) (number_form : (word : List ℕ) (n : ℕ) → number_of word ≡ Some n → word ≡ decimal n) where
  literals-cases : (w : List ℕ) (ws : List (List ℕ)) (lits : List ℤ) (end : Bool) → is_end w ≡ end → cond end (then_nothing ws []) (or_syntax (literal_of w) >>= λ l. (literals_to_end ws >>= λ ls. Ok (l ∷ ls))) ≡ Ok lits
      → ((ls : List ℤ) → literals_to_end ws ≡ Ok ls → ws ≡ map signed_decimal ls ++ codes "0" ∷ []) → w ∷ ws ≡ map signed_decimal lits ++ codes "0" ∷ []
  literals-cases w ws lits true is e later =
      let none = nothing-ok ws [] lits e in
      ap (λ v. v ∷ ws) (is_zero_word w is) ∙ ap (λ vs. codes "0" ∷ vs) none.0 ∙ ap (λ ls. map signed_decimal ls ++ codes "0" ∷ []) none.1
  literals-cases w ws lits false is e later =
      let one = bind-ok (or_syntax (literal_of w)) (λ l. literals_to_end ws >>= λ ls. Ok (l ∷ ls)) lits e in
      let two = bind-ok (literals_to_end ws) (λ ls. Ok (one.0 ∷ ls)) lits one.2 in
      let first : w ≡ signed_decimal one.0 = literal_form w one.0 (or_syntax-ok (literal_of w) one.0 one.1) in
      ap (λ v. v ∷ ws) first ∙ ap (λ vs. signed_decimal one.0 ∷ vs) (later two.0 two.1) ∙ ap (λ ls. map signed_decimal ls ++ codes "0" ∷ []) (same_ok (one.0 ∷ two.0) lits two.2)

  literals-words : (ws : List (List ℕ)) (lits : List ℤ) → literals_to_end ws ≡ Ok lits → ws ≡ map signed_decimal lits ++ codes "0" ∷ []
  literals-words [] lits e = absurd (cc)
  literals-words (w ∷ ws) lits e = literals-cases w ws lits (is_end w) refl e (literals-words ws)

  -- numbers alone
  numbers-cases : (v : List ℕ) (vs : List (List ℕ)) (zs : List ℤ) → (or_syntax (number_of v) >>= λ n. (numbers_to_end vs >>= λ ns. Ok (pos n ∷ ns))) ≡ Ok zs → ((ns : List ℤ) → numbers_to_end vs ≡ Ok ns → vs ≡ map signed_decimal ns) → v ∷ vs ≡ map signed_decimal zs
  numbers-cases v vs zs e later =
      let one = bind-ok (or_syntax (number_of v)) (λ n. numbers_to_end vs >>= λ ns. Ok (pos n ∷ ns)) zs e in
      let two = bind-ok (numbers_to_end vs) (λ ns. Ok (pos one.0 ∷ ns)) zs one.2 in
      ap (λ w. w ∷ vs) (number_form v one.0 (or_syntax-ok (number_of v) one.0 one.1)) ∙ ap (λ ws. decimal one.0 ∷ ws) (later two.0 two.1) ∙ ap (map signed_decimal) (same_ok (pos one.0 ∷ two.0) zs two.2)

  numbers-words : (ws : List (List ℕ)) (zs : List ℤ) → numbers_to_end ws ≡ Ok zs → ws ≡ map signed_decimal zs
  numbers-words [] zs e = ap (map signed_decimal) (same_ok [] zs e)
  numbers-words (w ∷ ws) zs e = numbers-cases w ws zs e (numbers-words ws)

  -- pairs, and the end
  pairs-words : (ws : List (List ℕ)) (pairs : List (ℕ × ℤ)) → pairs_to_end ws ≡ Ok pairs → ws ≡ flat_map (λ pair. decimal pair.0 ∷ (signed_decimal pair.1 ∷ [])) pairs ++ codes "0" ∷ []
  pairs-words [] pairs e = absurd (cc)
  pairs-words (w ∷ []) pairs e =
      let end = checked-ok (is_end w) (Ok []) Syntax pairs e in
      ap (λ v. v ∷ []) (is_zero_word w end.0) ∙ ap (λ (ps : List (ℕ × ℤ)). flat_map (λ pair. decimal pair.0 ∷ (signed_decimal pair.1 ∷ [])) ps ++ codes "0" ∷ []) (same_ok [] pairs end.1)
  pairs-words (w ∷ (v ∷ ws)) pairs e =
      let one = bind-ok (or_syntax (number_of w)) (λ part. or_syntax (literal_of v) >>= λ lit. (pairs_to_end ws >>= λ ps. Ok ((part, lit) ∷ ps))) pairs e in
      let two = bind-ok (or_syntax (literal_of v)) (λ lit. pairs_to_end ws >>= λ ps. Ok ((one.0, lit) ∷ ps)) pairs one.2 in
      let three = bind-ok (pairs_to_end ws) (λ ps. Ok ((one.0, two.0) ∷ ps)) pairs two.2 in
      ap (λ u. u ∷ (v ∷ ws)) (number_form w one.0 (or_syntax-ok (number_of w) one.0 one.1))
      ∙ ap (λ u. decimal one.0 ∷ (u ∷ ws)) (literal_form v two.0 (or_syntax-ok (literal_of v) two.0 two.1))
      ∙ ap (λ us. decimal one.0 ∷ (signed_decimal two.0 ∷ us)) (pairs-words ws three.0 three.1)
      ∙ ap (λ (ps : List (ℕ × ℤ)). flat_map (λ pair. decimal pair.0 ∷ (signed_decimal pair.1 ∷ [])) ps ++ codes "0" ∷ []) (same_ok ((one.0, two.0) ∷ three.0) pairs three.2)

  -- ---- the words of each command

  -- a reading that gives a command by its words
  add-worded : (ws : List (List ℕ)) (c : Command) → add_of ws ≡ Ok c → Worded c (codes "add" ∷ ws)
  add-worded [] c e = absurd (cc)
  add-worded (w ∷ ws) c e =
      let one = bind-ok (or_syntax (number_of w)) (λ p. literals_to_end ws >>= λ ls. Ok (Add p ls)) c e in
      let two = bind-ok (literals_to_end ws) (λ ls. Ok (Add one.0 ls)) c one.2 in
      subst (λ d. Worded d (codes "add" ∷ (w ∷ ws))) (same_ok (Add one.0 two.0) c two.2)
      (ap (λ v. codes "add" ∷ (v ∷ ws)) (number_form w one.0 (or_syntax-ok (number_of w) one.0 one.1)) ∙ ap (λ vs. codes "add" ∷ (decimal one.0 ∷ vs)) (literals-words ws two.0 two.1))

  parts-worded : (ws : List (List ℕ)) (c : Command) → parts_of ws ≡ Ok c → Worded c (codes "parts" ∷ ws)
  parts-worded ws c e =
      let one = bind-ok (only_word ws) (λ w. or_syntax (number_of w) >>= λ n. Ok (Parts n)) c e in
      let two = bind-ok (or_syntax (number_of one.0)) (λ n. Ok (Parts n)) c one.2 in
      subst (λ d. Worded d (codes "parts" ∷ ws)) (same_ok (Parts two.0) c two.2)
      (ap (λ vs. codes "parts" ∷ vs) (only-ok ws one.0 one.1 ∙ ap (λ v. v ∷ []) (number_form one.0 two.0 (or_syntax-ok (number_of one.0) two.0 two.1))))

  system-worded : (ws : List (List ℕ)) (c : Command) → system_of ws ≡ Ok c → Worded c (codes "system" ∷ ws)
  system-worded ws c e =
      let one = bind-ok (only_word ws) (λ w. or_syntax (system_named w) >>= λ s. Ok (System s)) c e in
      let two = bind-ok (or_syntax (system_named one.0)) (λ s. Ok (System s)) c one.2 in
      subst (λ d. Worded d (codes "system" ∷ ws)) (same_ok (System two.0) c two.2)
      (ap (λ vs. codes "system" ∷ vs) (only-ok ws one.0 one.1 ∙ ap (λ v. v ∷ []) (system-form one.0 two.0 (or_syntax-ok (system_named one.0) two.0 two.1))))

  mark-worded : (ws : List (List ℕ)) (c : Command) → mark_of ws ≡ Ok c → Worded c (codes "mark" ∷ ws)
  mark-worded [] c e = absurd (cc)
  mark-worded (w ∷ ws) c e =
      let one = bind-ok (or_syntax (number_of w)) (λ name. only_word ws >>= λ v. (or_syntax (mark_named v) >>= λ m. Ok (Mark name m))) c e in
      let two = bind-ok (only_word ws) (λ v. or_syntax (mark_named v) >>= λ m. Ok (Mark one.0 m)) c one.2 in
      let three = bind-ok (or_syntax (mark_named two.0)) (λ m. Ok (Mark one.0 m)) c two.2 in
      subst (λ d. Worded d (codes "mark" ∷ (w ∷ ws))) (same_ok (Mark one.0 three.0) c three.2)
      (ap (λ v. codes "mark" ∷ (v ∷ ws)) (number_form w one.0 (or_syntax-ok (number_of w) one.0 one.1))
      ∙ ap (λ vs. codes "mark" ∷ (decimal one.0 ∷ vs)) (only-ok ws two.0 two.1 ∙ ap (λ v. v ∷ []) (mark-form two.0 three.0 (or_syntax-ok (mark_named two.0) three.0 three.1))))

  cuts-cases : (w : List ℕ) (ws : List (List ℕ)) (c : Command) (all : Bool) → bytes_eq w (codes "all") ≡ all → cond all (then_nothing ws (Cuts cut.All)) (numbers_to_end (w ∷ ws) >>= λ ns. Ok (Cuts (cut.Chosen ns))) ≡ Ok c → Worded c (codes "cuts" ∷ (w ∷ ws))
  cuts-cases w ws c true is e =
      let none = nothing-ok ws (Cuts cut.All) c e in
      subst (λ d. Worded d (codes "cuts" ∷ (w ∷ ws))) none.1 (ap (λ v. codes "cuts" ∷ (v ∷ ws)) (same_word w (codes "all") is) ∙ ap (λ vs. codes "cuts" ∷ (codes "all" ∷ vs)) none.0)
  cuts-cases w ws c false is e =
      let one = bind-ok (numbers_to_end (w ∷ ws)) (λ ns. Ok (Cuts (cut.Chosen ns))) c e in
      subst (λ d. Worded d (codes "cuts" ∷ (w ∷ ws))) (same_ok (Cuts (cut.Chosen one.0)) c one.2) (ap (λ vs. codes "cuts" ∷ vs) (numbers-words (w ∷ ws) one.0 one.1))

  cuts-worded : (ws : List (List ℕ)) (c : Command) → cuts_of ws ≡ Ok c → Worded c (codes "cuts" ∷ ws)
  cuts-worded [] c e = absurd (cc)
  cuts-worded (w ∷ ws) c e = cuts-cases w ws c (bytes_eq w (codes "all")) refl e

  limit-cases : (w : List ℕ) (c : Command) (none : Bool) → bytes_eq w (codes "none") ≡ none → cond none (Ok (Limit None)) (or_syntax (number_of w) >>= λ n. Ok (Limit (Some n))) ≡ Ok c → Worded c (codes "limit" ∷ (w ∷ []))
  limit-cases w c true is e =
      subst (λ d. Worded d (codes "limit" ∷ (w ∷ []))) (same_ok (Limit None) c e) (ap (λ v. codes "limit" ∷ (v ∷ [])) (same_word w (codes "none") is))
  limit-cases w c false is e =
      let one = bind-ok (or_syntax (number_of w)) (λ n. Ok (Limit (Some n))) c e in
      subst (λ d. Worded d (codes "limit" ∷ (w ∷ []))) (same_ok (Limit (Some one.0)) c one.2) (ap (λ v. codes "limit" ∷ (v ∷ [])) (number_form w one.0 (or_syntax-ok (number_of w) one.0 one.1)))

  limit-worded : (ws : List (List ℕ)) (c : Command) → limit_of ws ≡ Ok c → Worded c (codes "limit" ∷ ws)
  limit-worded ws c e =
      let one = bind-ok (only_word ws) (λ w. cond (bytes_eq w (codes "none")) (Ok (Limit None)) (or_syntax (number_of w) >>= λ n. Ok (Limit (Some n)))) c e in
      subst (λ vs. Worded c (codes "limit" ∷ vs)) (sym (only-ok ws one.0 one.1)) (limit-cases one.0 c (bytes_eq one.0 (codes "none")) refl one.2)

  format-worded : (ws : List (List ℕ)) (c : Command) → format_of ws ≡ Ok c → Worded c (codes "format" ∷ ws)
  format-worded ws c e =
      let one = bind-ok (only_word ws) (λ w. or_syntax (format_named w) >>= λ f. Ok (Format f)) c e in
      let two = bind-ok (or_syntax (format_named one.0)) (λ f. Ok (Format f)) c one.2 in
      subst (λ d. Worded d (codes "format" ∷ ws)) (same_ok (Format two.0) c two.2)
      (ap (λ vs. codes "format" ∷ vs) (only-ok ws one.0 one.1 ∙ ap (λ v. v ∷ []) (format-form one.0 two.0 (or_syntax-ok (format_named one.0) two.0 two.1))))

  solve-worded : (ws : List (List ℕ)) (c : Command) → solve_of ws ≡ Ok c → Worded c (codes "solve" ∷ ws)
  solve-worded ws c e =
      let found = bind-ok (pairs_to_end ws) (λ pairs. Ok (Solve pairs)) c e in
      subst (λ d. Worded d (codes "solve" ∷ ws)) (same_ok (Solve found.0) c found.2) (ap (λ vs. codes "solve" ∷ vs) (pairs-words ws found.0 found.1))

  -- one word is tested after the other
  tested : (name w : List ℕ) (ws : List (List ℕ)) (here rest : Result Command Refusal) (c : Command) (b : Bool) → bytes_eq w name ≡ b → cond b here rest ≡ Ok c → (here ≡ Ok c → Worded c (name ∷ ws)) → (rest ≡ Ok c → Worded c (w ∷ ws)) → Worded c (w ∷ ws)
  tested name w ws here rest c true is e own later = subst (λ v. Worded c (v ∷ ws)) (sym (same_word w name is)) (own e)
  tested name w ws here rest c false is e own later = later e

  commented : (c : Command) (ws : List (List ℕ)) (b : Bool) (rest : Result Command Refusal) → cond b (Ok Nothing) rest ≡ Ok c → (rest ≡ Ok c → Worded c ws) → Worded c ws
  commented c ws true rest e later = subst (λ d. Worded d ws) (same_ok Nothing c e) tt
  commented c ws false rest e later = later e

  command-worded : (ws : List (List ℕ)) (c : Command) → command_of ws ≡ Ok c → Worded c ws
  command-worded [] c e = subst (λ d. Worded d []) (same_ok Nothing c e) tt
  command-worded (w ∷ ws) c e =
      commented c (w ∷ ws) (is_comment w) _ e
      (λ e. tested (codes "add") w ws (add_of ws) _ c (bytes_eq w (codes "add")) refl e (add-worded ws c)
      (λ e. tested (codes "parts") w ws (parts_of ws) _ c (bytes_eq w (codes "parts")) refl e (parts-worded ws c)
      (λ e. tested (codes "system") w ws (system_of ws) _ c (bytes_eq w (codes "system")) refl e (system-worded ws c)
      (λ e. tested (codes "mark") w ws (mark_of ws) _ c (bytes_eq w (codes "mark")) refl e (mark-worded ws c)
      (λ e. tested (codes "cuts") w ws (cuts_of ws) _ c (bytes_eq w (codes "cuts")) refl e (cuts-worded ws c)
      (λ e. tested (codes "limit") w ws (limit_of ws) _ c (bytes_eq w (codes "limit")) refl e (limit-worded ws c)
      (λ e. tested (codes "format") w ws (format_of ws) _ c (bytes_eq w (codes "format")) refl e (format-worded ws c)
      (λ e. tested (codes "solve") w ws (solve_of ws) _ c (bytes_eq w (codes "solve")) refl e (solve-worded ws c)
      (λ e. absurd (cc))))))))))

  -- the words of a line that is read as a command
  worded : (state : State) (bytes : List ℕ) (c : Command) → reading state (line.Text bytes) ≡ Ok c → Worded c (words bytes)
  worded state bytes c e = command-worded (words bytes) c (parsed-text bytes c (read-ok state (line.Text bytes) c e).0).1

  -- ---- lines

  pub line_that_adds : (state : State) (bytes : List ℕ) (part : ℕ) (lits : List ℤ) → reading state (line.Text bytes) ≡ Ok (Add part lits) → (words bytes ≡ command_words (Add part lits)) × AreInRange state.settings.parts part lits
  line_that_adds state bytes part lits e =
      let tests = admitted-tests state (Add part lits) (read-ok state (line.Text bytes) (Add part lits) e).1 in (
        worded state bytes (Add part lits) e,
        (
          leb-true part state.settings.parts tests.1,
          λ z here. number_range (unsigned_abs z) (list_all-member (is_within variable_limit) (map unsigned_abs lits) (unsigned_abs z) (Contains-image unsigned_abs lits z here) tests.2),
        ),
      )

  pub line_that_divides : (state : State) (bytes : List ℕ) (n : ℕ) → reading state (line.Text bytes) ≡ Ok (Parts n) → (words bytes ≡ command_words (Parts n)) × (1 ≤ n) × (n ≤ 4096) × (state.accepted ≡ [])
  line_that_divides state bytes n e =
      let tests = admitted-tests state (Parts n) (read-ok state (line.Text bytes) (Parts n) e).1 in
      let both = and_parts _ _ tests.1 in
      (worded state bytes (Parts n) e, leb-true 1 n both.0, leb-true n 4096 both.1, no_clause state.accepted tests.0)

  pub line_that_names_a_system : (state : State) (bytes : List ℕ) (s : SystemWord) → reading state (line.Text bytes) ≡ Ok (System s) → words bytes ≡ command_words (System s)
  line_that_names_a_system state bytes s e = worded state bytes (System s) e

  pub line_that_marks : (state : State) (bytes : List ℕ) (name : ℕ) (m : MarkWord) → reading state (line.Text bytes) ≡ Ok (Mark name m) → (words bytes ≡ command_words (Mark name m)) × (1 ≤ name) × (name ≤ 2147483647)
  line_that_marks state bytes name m e =
      let tests = admitted-tests state (Mark name m) (read-ok state (line.Text bytes) (Mark name m) e).1 in
      let range = number_range name (and_parts _ _ tests.2).0 in
      (worded state bytes (Mark name m) e, range.0, range.1)

  pub line_of_all_cuts : (state : State) (bytes : List ℕ) → reading state (line.Text bytes) ≡ Ok (Cuts cut.All) → words bytes ≡ command_words (Cuts cut.All)
  line_of_all_cuts state bytes e = worded state bytes (Cuts cut.All) e

  pub line_of_cuts : (state : State) (bytes : List ℕ) (zs : List ℤ) → reading state (line.Text bytes) ≡ Ok (Cuts (cut.Chosen zs)) → (words bytes ≡ command_words (Cuts (cut.Chosen zs))) × AreRisingCuts state.settings.parts zs
  line_of_cuts state bytes zs e =
      let tests = admitted-tests state (Cuts (cut.Chosen zs)) (read-ok state (line.Text bytes) (Cuts (cut.Chosen zs)) e).1 in (
        worded state bytes (Cuts (cut.Chosen zs)) e,
        (
          as_read state.settings.parts (any_clause state.accepted) (line.Text bytes) (Cuts (cut.Chosen zs)) e,
          rising-cuts state.settings.parts zs tests.3,
          within-cuts state.settings.parts zs tests.3,
        ),
      )

  pub line_that_limits : (state : State) (bytes : List ℕ) (limit : Option ℕ) → reading state (line.Text bytes) ≡ Ok (Limit limit) → (words bytes ≡ command_words (Limit limit)) × IsLimitInRange limit
  line_that_limits state bytes limit e =
      let tests = admitted-tests state (Limit limit) (read-ok state (line.Text bytes) (Limit limit) e).1 in
      (worded state bytes (Limit limit) e, λ n is. let both = and_parts _ _ (rw is at tests.4) in (leb-true 1 n both.0, leb-true n 100000 both.1))

  pub line_that_formats : (state : State) (bytes : List ℕ) (f : FormatWord) → reading state (line.Text bytes) ≡ Ok (Format f) → words bytes ≡ command_words (Format f)
  line_that_formats state bytes f e = worded state bytes (Format f) e

  pub line_that_solves : (state : State) (bytes : List ℕ) (pairs : List (ℕ × ℤ)) → reading state (line.Text bytes) ≡ Ok (Solve pairs) → (words bytes ≡ command_words (Solve pairs)) × ArePairsInRange state.settings.parts pairs
  line_that_solves state bytes pairs e =
      let tests = admitted-tests state (Solve pairs) (read-ok state (line.Text bytes) (Solve pairs) e).1 in (
        worded state bytes (Solve pairs) e,
        λ pair here. (
            let range = number_range (unsigned_abs pair.1) (list_all-member (is_within variable_limit) (map (λ (p : ℕ × ℤ). unsigned_abs p.1) pairs) (unsigned_abs pair.1) (Contains-image (λ (p : ℕ × ℤ). unsigned_abs p.1) pairs pair here) tests.2) in
            (leb-true pair.0 state.settings.parts (list_all-member (λ (p : ℕ × ℤ). nat_le p.0 state.settings.parts) pairs pair here tests.1), range.0, range.1)
            ),
      )

pub overlong_line : (state : State) → reading state line.Overlong ≡ Err Overlong
overlong_line state = refl

pub read_lines_are_short : (state : State) (bytes : List ℕ) (c : Command) → reading state (line.Text bytes) ≡ Ok c → length bytes ≤ 1048576
read_lines_are_short state bytes c e = leb-true (length bytes) 1048576 (parsed-text bytes c (read-ok state (line.Text bytes) c e).0).0
