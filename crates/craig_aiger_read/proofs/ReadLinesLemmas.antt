-- Laws of lines that are read one after the other.
use Rattle.std.proofs.Common.{◌≡◌, ℕ, suc, ◌+◌, ◌-◌, ◌<◌, ◌≤◌, List, [], ◌∷◌, ◌++◌, drop, length, Result, Ok, Err, refl, sym, ◌∙◌, ap, arith}
use Rattle.std.proofs.lemmas.List.{drop-drop}
use Rattle.craig_spec.specs.AigerFault.{Fault, FaultKind}
use Rattle.craig_spec.specs.AigerReading.{TextLine, read_lines, fault, ◌>>=◌}
use Rattle.craig_aiger_read.specs.ReadLines.{lines_at, IsFirstLine}

-- what is behind what is behind something
pub drop-further : (text rest behind : List ℕ) → length rest ≤ length text → length behind ≤ length rest → rest ≡ drop (length text - length rest) text → behind ≡ drop (length rest - length behind) rest →
    behind ≡ drop (length text - length behind) text
drop-further text rest behind short less first second =
    let whole : length text - length rest + (length rest - length behind) ≡ length text - length behind = omega (arith, short, less) in
    second ∙ ap (drop (length rest - length behind)) first ∙ drop-drop (length rest - length behind) (length text - length rest) text ∙ ap (λ z. drop z text) whole

-- so many of the lines were read, as these, and what is left is read as the others
pub record ReadSoFar {A : Type 0} (each : List A → TextLine → Result A Fault) (end count i : ℕ) (before : List A) (text rest : List ℕ) : Type 0 where
  pub reads : read_lines each end (count - i) before (lines_at end rest) ≡ read_lines each end count [] (lines_at end text)
  pub shorter : length rest ≤ length text
  pub last : rest ≡ drop (length text - length rest) text

pub read-none : {A : Type 0} (each : List A → TextLine → Result A Fault) (end count : ℕ) (text : List ℕ) → ReadSoFar each end count 0 [] text text
read-none each end count text =
    let whole : count - 0 ≡ count = omega arith in
    let none : length text - length text ≡ 0 = omega arith in
    record { reads = ap (λ z. read_lines each end z [] (lines_at end text)) whole; shorter = omega arith; last = sym (ap (λ z. drop z text) none) }

-- the next line, by what it is
line-next : {A : Type 0} (each : List A → TextLine → Result A Fault) (end n : ℕ) (before : List A) (line : TextLine) (lines : List TextLine) (found : Result A Fault) → each before line ≡ found →
    read_lines each end (suc n) before (line ∷ lines) ≡ (found >>= λ a. read_lines each end n (before ++ a ∷ []) lines)
line-next each end n before line lines found e = rw (← e) refl

pub read-next : {A : Type 0} (each : List A → TextLine → Result A Fault) (end count i : ℕ) (before : List A) (text rest line behind : List ℕ) (found : Result A Fault) →
    ReadSoFar each end count i before text rest → i < count → length text ≤ end → IsFirstLine rest line behind →
    each before (record { offset = end - length rest; bytes = line }) ≡ found →
    (found >>= λ a. read_lines each end (count - (i + 1)) (before ++ a ∷ []) (lines_at end behind)) ≡ read_lines each end count [] (lines_at end text)
read-next each end count i before text rest line behind found h inside within first e =
    let more : count - i ≡ suc (count - (i + 1)) = omega (arith, inside) in
    sym (line-next each end (count - (i + 1)) before (record { offset = end - length rest; bytes = line }) (lines_at end behind) found e)
    ∙ ap (λ z. read_lines each end (suc (count - (i + 1))) before z) (sym (first.lines end (omega (arith, h.shorter, within))))
    ∙ ap (λ z. read_lines each end z before (lines_at end rest)) (sym more)
    ∙ h.reads

-- one line more
pub read-more : {A : Type 0} (each : List A → TextLine → Result A Fault) (end count i : ℕ) (before : List A) (text rest line behind : List ℕ) (a : A) →
    ReadSoFar each end count i before text rest → i < count → length text ≤ end → IsFirstLine rest line behind →
    each before (record { offset = end - length rest; bytes = line }) ≡ Ok a → ReadSoFar each end count (i + 1) (before ++ a ∷ []) text behind
read-more each end count i before text rest line behind a h inside within first e = record {
  reads = read-next each end count i before text rest line behind (Ok a) h inside within first e;
  shorter = omega (arith, h.shorter, first.shorter);
  last = drop-further text rest behind h.shorter (omega (arith, first.shorter)) h.last first.last;
}

-- a line with a fault
pub read-fault : {A : Type 0} (each : List A → TextLine → Result A Fault) (end count i : ℕ) (before : List A) (text rest line behind : List ℕ) (f : Fault) →
    ReadSoFar each end count i before text rest → i < count → length text ≤ end → IsFirstLine rest line behind →
    each before (record { offset = end - length rest; bytes = line }) ≡ Err f → read_lines each end count [] (lines_at end text) ≡ Err f
read-fault each end count i before text rest line behind f h inside within first e =
    sym (read-next each end count i before text rest line behind (Err f) h inside within first e)

-- a line that is missing
pub read-truncated : {A : Type 0} (each : List A → TextLine → Result A Fault) (end count i : ℕ) (before : List A) (text rest : List ℕ) →
    ReadSoFar each end count i before text rest → i < count → rest ≡ [] → read_lines each end count [] (lines_at end text) ≡ fault FaultKind.Truncated end
read-truncated each end count i before text rest h inside none =
    let more : count - i ≡ suc (count - (i + 1)) = omega (arith, inside) in
    sym h.reads
    ∙ ap (λ z. read_lines each end z before (lines_at end rest)) more
    ∙ ap (λ z. read_lines each end (suc (count - (i + 1))) before (lines_at end z)) none

-- after the last line
pub read-all : {A : Type 0} (each : List A → TextLine → Result A Fault) (end count i : ℕ) (before : List A) (text rest : List ℕ) →
    ReadSoFar each end count i before text rest → count ≤ i → read_lines each end count [] (lines_at end text) ≡ Ok (before, lines_at end rest)
read-all each end count i before text rest h past =
    let none : count - i ≡ 0 = omega (arith, past) in
    sym h.reads ∙ ap (λ z. read_lines each end z before (lines_at end rest)) none
