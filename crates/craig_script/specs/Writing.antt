-- How a command is written: its words, and its line.
use Rattle.std.specs.Prelude.{ℕ, ◌^◌, Bool, true, false, not, ◌&&◌, ◌==◌, nat_lt, List, [], ◌∷◌, ◌++◌, Option, Some, None, ℤ, pos, negsuc, codes, map}
use Rattle.std.specs.Fmt.{decimal, signed_decimal}
use Rattle.std.specs.Int.RustNames.{unsigned_abs}
use Rattle.std.specs.List.{flat_map, join_with_byte, list_all}
use Rattle.craig_script.specs.declared.command.Command.{Command}
use Rattle.craig_script.specs.declared.command.Command.TheVariants.{Nothing, Parts, Add, System, Mark, Cuts, Limit, Format, Solve}
use Rattle.craig_script.specs.declared.cut_word.CutWord.{CutWord}
use Rattle.craig_script.specs.declared.cut_word.CutWord.TheVariants as cut
use Rattle.craig_script.specs.declared.setting_words.FormatWord.{FormatWord}
use Rattle.craig_script.specs.declared.setting_words.FormatWord.TheVariants as format
use Rattle.craig_script.specs.declared.setting_words.MarkWord.{MarkWord}
use Rattle.craig_script.specs.declared.setting_words.MarkWord.TheVariants as mark
use Rattle.craig_script.specs.declared.setting_words.SystemWord.{SystemWord}
use Rattle.craig_script.specs.declared.setting_words.SystemWord.TheVariants as system

-- the word for a system
abbrev pub system_word : SystemWord → List ℕ
system_word system.McMillan = codes "mcmillan"
system_word system.Pudlak = codes "pudlak"
system_word system.Inverse = codes "inverse"
system_word system.Dual = codes "dual"
system_word system.Marks = codes "marks"
system_word system.All = codes "all"

-- the word for a mark
abbrev pub mark_word : MarkWord → List ℕ
mark_word mark.A = codes "a"
mark_word mark.Ab = codes "ab"
mark_word mark.B = codes "b"

-- the words for cuts
abbrev pub cut_words : CutWord → List (List ℕ)
cut_words cut.All = codes "all" ∷ []
cut_words (cut.Chosen cuts) = map signed_decimal cuts

-- the word for a limit
abbrev pub limit_word : Option ℕ → List ℕ
limit_word None = codes "none"
limit_word (Some n) = decimal n

-- the word for a format
abbrev pub format_word : FormatWord → List ℕ
format_word format.Aag = codes "aag"
format_word format.Aig = codes "aig"
format_word format.Cnf = codes "cnf"

-- the words for an assumption
abbrev pub pair_words : (ℕ × ℤ) → List (List ℕ)
pair_words pair = decimal pair.0 ∷ (signed_decimal pair.1 ∷ [])

-- the words of the line of a command
abbrev pub command_words : Command → List (List ℕ)
command_words Nothing = []
command_words (Parts n) = codes "parts" ∷ (decimal n ∷ [])
command_words (Add part lits) = codes "add" ∷ (decimal part ∷ (map signed_decimal lits ++ codes "0" ∷ []))
command_words (System s) = codes "system" ∷ (system_word s ∷ [])
command_words (Mark name m) = codes "mark" ∷ (decimal name ∷ (mark_word m ∷ []))
command_words (Cuts cuts) = codes "cuts" ∷ cut_words cuts
command_words (Limit limit) = codes "limit" ∷ (limit_word limit ∷ [])
command_words (Format f) = codes "format" ∷ (format_word f ∷ [])
command_words (Solve pairs) = codes "solve" ∷ (flat_map pair_words pairs ++ codes "0" ∷ [])

-- the words, each behind a space
abbrev pub spaced : List (List ℕ) → List ℕ
spaced words = flat_map (λ word. 32 ∷ word) words

-- the line of a command: its words, with one space between them
abbrev pub command_line : Command → List ℕ
command_line command = join_with_byte 32 (command_words command)

-- the line with its newline
abbrev pub command_text : Command → List ℕ
command_text command = command_line command ++ codes "\n"

-- whether a word can write the number: it has at most 18 digits
abbrev pub is_writable_number : ℕ → Bool
is_writable_number n = nat_lt n (10 ^ 18)

-- whether a word can write the literal: it isn't 0, and has at most 18 digits
abbrev pub is_writable_literal : ℤ → Bool
is_writable_literal z = not (unsigned_abs z == 0) && is_writable_number (unsigned_abs z)

-- whether a word can write the cut: it isn't negative, and has at most 18 digits
abbrev pub is_writable_cut : ℤ → Bool
is_writable_cut (pos n) = is_writable_number n
is_writable_cut (negsuc n) = false

-- whether there is a cut
abbrev pub has_cut : List ℤ → Bool
has_cut [] = false
has_cut (z ∷ zs) = true

-- whether words can write the cuts
abbrev pub are_writable_cuts : CutWord → Bool
are_writable_cuts cut.All = true
are_writable_cuts (cut.Chosen cuts) = has_cut cuts && list_all is_writable_cut cuts

-- whether a word can write the limit
abbrev pub is_writable_limit : Option ℕ → Bool
is_writable_limit None = true
is_writable_limit (Some n) = is_writable_number n

-- whether words can write the assumption
abbrev pub is_writable_pair : (ℕ × ℤ) → Bool
is_writable_pair pair = is_writable_number pair.0 && is_writable_literal pair.1

-- whether a line can write the command
abbrev pub is_writable : Command → Bool
is_writable Nothing = false
is_writable (Parts n) = is_writable_number n
is_writable (Add part lits) = is_writable_number part && list_all is_writable_literal lits
is_writable (System s) = true
is_writable (Mark name m) = is_writable_number name
is_writable (Cuts cuts) = are_writable_cuts cuts
is_writable (Limit limit) = is_writable_limit limit
is_writable (Format f) = true
is_writable (Solve pairs) = list_all is_writable_pair pairs
