-- Laws of the lines of a text.
use Rattle.std.proofs.Common.{◌≡◌, ℕ, ◌+◌, ◌-◌, ◌<◌, false, eqb, Some, None, Option, List, [], ◌∷◌, drop, length, take, refl, sym, ◌∙◌, ap, arith, length-drop, Bor}
use Rattle.std.specs.List.{position_or_len, slice_split, before_first}
use Rattle.std.specs.Option.{unwrap_or, option_copied}
use Rattle.std.proofs.lemmas.List.{drop_all, take_all, length-take-le}
use Rattle.craig_spec.specs.AigerReading.{placed, without_empty_end}
use Rattle.craig_aiger_read.specs.Cuts.{is_byte, behind_first, pieces_behind}
use Rattle.craig_aiger_read.specs.ReadLines.{IsFirstLine}
use Rattle.craig_aiger_read.proofs.CutLemmas.{Behind, behind_first-some, behind_first-past, slice_split-cut, position_or_len-le}

-- a piece before others is a line
without_empty_end-cons : (line piece : List ℕ) (pieces : List (List ℕ)) → without_empty_end (line ∷ (piece ∷ pieces)) ≡ line ∷ without_empty_end (piece ∷ pieces)
without_empty_end-cons [] piece pieces = refl
without_empty_end-cons (b ∷ bs) piece pieces = refl

-- the pieces behind a line are lines
without_empty_end-line : (line bytes : List ℕ) → without_empty_end (line ∷ slice_split (is_byte 10) bytes) ≡ line ∷ without_empty_end (slice_split (is_byte 10) bytes)
without_empty_end-line line bytes =
    let e = slice_split-cut 10 bytes in
    rw e (without_empty_end-cons line (before_first (is_byte 10) bytes) (pieces_behind 10 (behind_first 10 bytes)))

-- a last piece with a byte is a line
without_empty_end-last : (line : List ℕ) → 0 < length line → without_empty_end (line ∷ []) ≡ line ∷ []
without_empty_end-last [] h = absurd (omega arith)
without_empty_end-last (b ∷ bs) h = refl

first_line-by : (found : Option (List ℕ)) (bytes : List ℕ) → behind_first 10 bytes ≡ found → 0 < length bytes → IsFirstLine bytes (before_first (is_byte 10) bytes) (unwrap_or found [])
first_line-by (Some behind) bytes e some =
    let n : ℕ = position_or_len (is_byte 10) bytes in
    let h : Behind 10 bytes behind = behind_first-some 10 bytes behind e in
    let front : length (take n bytes) ≡ n = length-take-le n bytes (position_or_len-le (is_byte 10) bytes) in
    let rest : length behind ≡ length bytes - (n + 1) = ap length h.is ∙ length-drop (n + 1) bytes in
    let split : slice_split (is_byte 10) bytes ≡ take n bytes ∷ slice_split (is_byte 10) behind = slice_split-cut 10 bytes ∙ ap (λ z. take n bytes ∷ pieces_behind 10 z) e in
    record {
      lines = λ end within.
          let place : end - length bytes + length (take n bytes) + 1 ≡ end - length behind = omega (arith, front, rest, h.inside, within) in
          ap (λ z. placed (end - length bytes) (without_empty_end z)) split
          ∙ ap (placed (end - length bytes)) (without_empty_end-line (take n bytes) behind)
          ∙ ap (λ z. record { offset = end - length bytes; bytes = take n bytes } ∷ placed z (without_empty_end (slice_split (is_byte 10) behind))) place;
      shorter = omega (arith, rest, h.inside);
      last =
          let cut : n + 1 ≡ length bytes - length behind = omega (arith, rest, h.inside) in
          h.is ∙ ap (λ z. drop z bytes) cut;
    }
first_line-by None bytes e some =
    let n : ℕ = position_or_len (is_byte 10) bytes in
    let whole : take n bytes ≡ bytes = take_all n bytes (behind_first-past 10 bytes e) in
    let split : slice_split (is_byte 10) bytes ≡ take n bytes ∷ [] = slice_split-cut 10 bytes ∙ ap (λ z. take n bytes ∷ pieces_behind 10 z) e in
    record {
      lines = λ end within.
          ap (λ z. placed (end - length bytes) (without_empty_end z)) split
          ∙ ap (placed (end - length bytes)) (without_empty_end-last (take n bytes) (omega (arith, some, ap length whole)));
      shorter = some;
      last = sym (drop_all (length bytes - 0) bytes (omega arith));
    }

-- the first line goes up to the first newline
pub first_line : (bytes line behind : List ℕ) → 0 < length bytes → line ≡ before_first (is_byte 10) bytes → behind ≡ unwrap_or (behind_first 10 bytes) [] → IsFirstLine bytes line behind
first_line bytes line behind some front rest =
    let h : IsFirstLine bytes (before_first (is_byte 10) bytes) (unwrap_or (behind_first 10 bytes) []) = first_line-by (behind_first 10 bytes) bytes refl some in
    rw (front, rest) h

unwrap_or-copied : (o : Option (Bor (List ℕ))) (d : Bor (List ℕ)) → (unwrap_or o d).now ≡ unwrap_or (option_copied o) d.now
unwrap_or-copied None d = refl
unwrap_or-copied (Some x) d = refl

-- the same of references, as a call gives them
pub first_line-borrowed : (bytes line : List ℕ) (found : Option (Bor (List ℕ))) (behind none : Bor (List ℕ)) → 0 < length bytes → line ≡ before_first (is_byte 10) bytes →
    option_copied found ≡ behind_first 10 bytes → none.now ≡ [] → behind ≡ unwrap_or found none → IsFirstLine bytes line behind.now
first_line-borrowed bytes line found behind none some front found_is none_is rest =
    first_line bytes line behind.now some front
    (ap (λ (z : Bor (List ℕ)). z.now) rest ∙ unwrap_or-copied found none ∙ ap (λ z. unwrap_or z none.now) found_is ∙ ap (unwrap_or (behind_first 10 bytes)) none_is)

-- bytes that aren't empty
pub some_byte : (bytes : List ℕ) → eqb (length bytes) 0 ≡ false → 0 < length bytes
some_byte [] e = absurd cc
some_byte (b ∷ bs) e = omega arith
