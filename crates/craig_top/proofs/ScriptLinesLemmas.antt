-- The lines of a script, joined again.
use Rattle.std.proofs.Common.{◌≡◌, ◌≢◌, ◌∙◌, sym, ap, refl, inl, inr, ℕ, suc, ◌<◌, ◌≤◌, Bool, true, false, ◌||◌, nat_le, cond, List, [], ◌∷◌, ◌++◌, length, map, Contains, codes, arith, le-leb}
use Rattle.std.specs.List.{flat_map}
use Rattle.std.proofs.lemmas.Bool.{eqb-true}
use Rattle.std.proofs.lemmas.Bool.Decides.{nat_tests}
use Rattle.std.proofs.lemmas.List.{append-nil}
use Rattle.craig_script.specs.declared.line.Line.TheVariants.{Overlong, Text}
use Rattle.craig_script.specs.Lines.{has_newline, is_newline, last_part, line_of, onto_first, script_lines, unless_empty, whole_lines}
use Rattle.craig_script.proofs.LinesLemmas.{has_newline-last_part, whole_lines-none}
use Rattle.craig_spec.proofs.MemberLemmas.{Contains-cases, list_any-member}

-- the lines, each with its newline
abbrev ended_lines : List (List ℕ) → List ℕ
ended_lines ls = flat_map (λ (line : List ℕ). line ++ codes "\n") ls

-- a byte in front of the first line
onto-joined : (b : ℕ) (ls : List (List ℕ)) (last bs : List ℕ) → ls ≢ [] → ended_lines ls ++ last ≡ bs → ended_lines (onto_first (b ∷ []) ls) ++ last ≡ b ∷ bs
onto-joined b [] last bs some joined = absurd (some refl)
onto-joined b (l ∷ ls) last bs some joined = ap (λ z. b ∷ z) joined

-- a newline makes a line
not_none : (bs : List ℕ) → has_newline bs ≡ true → ended_lines (whole_lines bs) ++ last_part bs ≡ bs → whole_lines bs ≢ []
not_none bs has joined none =
    let same : last_part bs ≡ bs = sym (ap (λ ls. ended_lines ls ++ last_part bs) none) ∙ joined in
    absurd (let no : true ≡ false = sym has ∙ sym (ap has_newline same) ∙ has_newline-last_part bs in cc)

joined-other : (b : ℕ) (bs : List ℕ) (has : Bool) → has_newline bs ≡ has → ended_lines (whole_lines bs) ++ last_part bs ≡ bs → ended_lines (onto_first (b ∷ []) (whole_lines bs)) ++ cond has (last_part bs) (b ∷ bs) ≡ b ∷ bs
joined-other b bs true is joined = onto-joined b (whole_lines bs) (last_part bs) bs (not_none bs is joined) joined
joined-other b bs false is joined = ap (λ ls. ended_lines (onto_first (b ∷ []) ls) ++ b ∷ bs) (whole_lines-none bs is)

joined-cases : (b : ℕ) (bs : List ℕ) (newline : Bool) → is_newline b ≡ newline → ended_lines (whole_lines bs) ++ last_part bs ≡ bs
    → ended_lines (cond newline ([] ∷ whole_lines bs) (onto_first (b ∷ []) (whole_lines bs))) ++ cond (newline || has_newline bs) (last_part bs) (b ∷ bs) ≡ b ∷ bs
joined-cases b bs true is joined = ap (λ z. 10 ∷ z) joined ∙ ap (λ n. n ∷ bs) (sym (eqb-true b 10 is))
joined-cases b bs false is joined = joined-other b bs (has_newline bs) refl joined

pub lines_joined : (bytes : List ℕ) → ended_lines (whole_lines bytes) ++ last_part bytes ≡ bytes
lines_joined [] = refl
lines_joined (b ∷ bs) = joined-cases b bs (is_newline b) refl (lines_joined bs)

-- no line has a newline
none_in : (bytes : List ℕ) → has_newline bytes ≡ false → ¬ Contains bytes 10
none_in bytes none here = absurd (let no : true ≡ false = sym (list_any-member is_newline bytes 10 here refl) ∙ none in cc)

onto-none : (b : ℕ) (ls : List (List ℕ)) → is_newline b ≡ false → ((line : List ℕ) → Contains ls line → has_newline line ≡ false) → (line : List ℕ) → Contains (onto_first (b ∷ []) ls) line → has_newline line ≡ false
onto-none b [] other each line (k, within, at) = absurd (omega (arith, within))
onto-none b (l ∷ ls) other each line here = elim (Contains-cases (b ∷ l) ls line here) [
  | inl same ↦ ap has_newline (sym same) ∙ ap (λ t. t || has_newline l) other ∙ each l (0, omega arith, refl)
  | inr (k, within, at) ↦ each line (suc k, omega (arith, within), at)
]

none-cases : (b : ℕ) (bs : List ℕ) (newline : Bool) → is_newline b ≡ newline → ((line : List ℕ) → Contains (whole_lines bs) line → has_newline line ≡ false)
    → (line : List ℕ) → Contains (cond newline ([] ∷ whole_lines bs) (onto_first (b ∷ []) (whole_lines bs))) line → has_newline line ≡ false
none-cases b bs true is each line here = elim (Contains-cases [] (whole_lines bs) line here) [
  | inl same ↦ ap has_newline (sym same)
  | inr later ↦ each line later
]
none-cases b bs false is each line here = onto-none b (whole_lines bs) is each line here

none_of_line : (bytes line : List ℕ) → Contains (whole_lines bytes) line → has_newline line ≡ false
none_of_line [] line (k, within, at) = absurd (omega (arith, within))
none_of_line (b ∷ bs) line here = none-cases b bs (is_newline b) refl (none_of_line bs) line here

pub no_newline : (bytes line : List ℕ) → Contains (whole_lines bytes) line → ¬ Contains line 10
no_newline bytes line here = none_in line (none_of_line bytes line here)

pub last_no_newline : (bytes : List ℕ) → ¬ Contains (last_part bytes) 10
last_no_newline bytes = none_in (last_part bytes) (has_newline-last_part bytes)

-- a last line without its newline
unless-some : (last : List ℕ) → last ≢ [] → unless_empty last ≡ last ∷ []
unless-some [] some = absurd (some refl)
unless-some (b ∷ bs) some = refl

pub script_ended : (bytes : List ℕ) → last_part bytes ≡ [] → script_lines bytes ≡ map line_of (whole_lines bytes)
script_ended bytes none = ap (λ last. map line_of (whole_lines bytes ++ unless_empty last)) none ∙ ap (map line_of) (append-nil (whole_lines bytes))

pub script_unended : (bytes : List ℕ) → last_part bytes ≢ [] → script_lines bytes ≡ map line_of (whole_lines bytes ++ last_part bytes ∷ [])
script_unended bytes some = ap (λ ls. map line_of (whole_lines bytes ++ ls)) (unless-some (last_part bytes) some)

-- how a line is seen
pub text_line : (bytes : List ℕ) → length bytes ≤ 1048576 → line_of bytes ≡ Text bytes
text_line bytes short = ap (λ t. cond t (Text bytes) Overlong) (le-leb (length bytes) 1048576 short)

long_test : (n : ℕ) → 1048576 < n → nat_le n 1048576 ≡ false
long_test n long = grind (arith, nat_tests)

pub overlong_line : (bytes : List ℕ) → 1048576 < length bytes → line_of bytes ≡ Overlong
overlong_line bytes long = ap (λ t. cond t (Text bytes) Overlong) (long_test (length bytes) long)
