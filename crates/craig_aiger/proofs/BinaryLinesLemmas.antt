-- The lines at the front of a text, and the bytes behind them.
use Rattle.std.proofs.Common.{◌≡◌, ℕ, zero, suc, ◌+◌, ◌≤◌, Bool, true, false, eqb, List, [], ◌∷◌, ◌++◌, length, drop, Result, Ok, Err, refl, sym, ap, ◌∙◌, append_assoc, length-append, arith}
use Rattle.std.specs.List.{onto_first, slice_split}
use Rattle.std.proofs.lemmas.List.Splits.{length-slice_split}
use Rattle.craig_spec.specs.AigerFault.{Fault}
use Rattle.craig_spec.specs.AigerReading.{TextLine, ◌>>=◌, lines_of, placed, read_lines, without_empty_end}
use Rattle.craig_spec.specs.AigerBinary.{lines_from, lines_place}
use Rattle.craig_aiger.proofs.TextSymbolLemmas.{no_ok}
use Rattle.craig_aiger.proofs.TextWordLemmas.{AreLines, without_end-cons}
use Rattle.craig_spec.proofs.TextWordLemmas.{ended, split_first}
use Rattle.craig_spec.proofs.AigerBinaryLemmas.{ok-is}

-- what stands between the ends of lines
abbrev pieces : List ℕ → List (List ℕ)
pieces bytes = slice_split (λ c. eqb c 10) bytes

-- the pieces of a text that begins with lines
front_pieces : (bs : List (List ℕ)) (tail : List ℕ) → AreLines bs → without_empty_end (pieces (ended bs ++ tail)) ≡ bs ++ without_empty_end (pieces tail)
front_pieces [] tail h = refl
front_pieces (b ∷ bs) tail h =
    ap (λ t. without_empty_end (pieces t)) (append_assoc b (10 ∷ ended bs) tail)
    ∙ ap without_empty_end (split_first 10 b (ended bs ++ tail) h.0.one refl)
    ∙ without_end-cons b (pieces (ended bs ++ tail)) h.0.some
    ∙ ap (λ l. b ∷ l) (front_pieces bs tail h.1)

-- lines that are placed one after another
placed-append : (offset next : ℕ) (bs cs : List (List ℕ)) → next ≡ offset + length (ended bs) → placed offset (bs ++ cs) ≡ placed offset bs ++ placed next cs
placed-append offset next [] cs e = let same : next ≡ offset = omega arith in ap (λ n. placed n cs) (sym same)
placed-append offset next (b ∷ bs) cs e =
    ap (λ l. record { offset = offset; bytes = b } ∷ l) (placed-append (offset + length b + 1) next bs cs (omega (arith, e, length-append b (10 ∷ ended bs))))

-- the lines of a text that begins with lines
pub front_lines : (bs : List (List ℕ)) (tail : List ℕ) → AreLines bs → lines_of (ended bs ++ tail) ≡ placed 0 bs ++ lines_from (length (ended bs)) tail
front_lines bs tail h = ap (placed 0) (front_pieces bs tail h) ∙ placed-append 0 (length (ended bs)) bs (without_empty_end (pieces tail)) (omega arith)

-- the bytes begin with the end of a line
empty_first : (end place : ℕ) (ps : List (List ℕ)) → 1 ≤ length ps → lines_place end (placed place (without_empty_end ([] ∷ ps))) ≡ place
empty_first end place [] h = absurd (omega arith)
empty_first end place (p ∷ ps) h = refl

-- they begin with another byte
byte_first : (end place b : ℕ) (ps : List (List ℕ)) → lines_place end (placed place (without_empty_end (onto_first b ps))) ≡ place
byte_first end place b [] = refl
byte_first end place b (p ∷ ps) = refl

-- they begin with either
place_by : (end place b : ℕ) (bytes : List ℕ) (t : Bool) → eqb b 10 ≡ t → lines_place end (lines_from place (b ∷ bytes)) ≡ place
place_by end place b bytes true e = rw e (empty_first end place (pieces bytes) (omega (arith, length-slice_split (λ c. eqb c 10) bytes)))
place_by end place b bytes false e = rw e (byte_first end place b (pieces bytes))

-- where the last bytes begin
pub place_from : (end place : ℕ) (tail : List ℕ) → end ≡ place + length tail → lines_place end (lines_from place tail) ≡ place
place_from end place [] e = omega (arith, e)
place_from end place (b ∷ bytes) e = place_by end place b bytes (eqb b 10) refl

-- the lines after one that was read
after_one : {A : Type 0} (each : List A → TextLine → Result A Fault) (end count : ℕ) (before all : List A) (lines after : List TextLine) (o : Result A Fault) → (o >>= λ x. read_lines each end count (before ++ x ∷ []) lines) ≡ Ok (all, after) → ((before : List A) → read_lines each end count before lines ≡ Ok (all, after) → after ≡ drop count lines) → after ≡ drop count lines
after_one each end count before all lines after (Ok x) e later = later (before ++ x ∷ []) e
after_one each end count before all lines after (Err f) e later = absurd (no_ok f (all, after) e)

-- the lines after those that were read
pub after_lines : {A : Type 0} (each : List A → TextLine → Result A Fault) (end count : ℕ) (before all : List A) (lines after : List TextLine) → read_lines each end count before lines ≡ Ok (all, after) → after ≡ drop count lines
after_lines {A} each end zero before all lines after e = ap (λ (p : List A × List TextLine). p.1) (sym (ok-is (before, lines) (all, after) e))
after_lines each end (suc count) before all [] after e = absurd cc
after_lines each end (suc count) before all (line ∷ lines) after e = after_one each end count before all lines after (each before line) e (λ before e. after_lines each end count before all lines after e)
