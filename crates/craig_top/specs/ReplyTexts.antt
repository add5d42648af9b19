-- The texts of replies, byte by byte.
use Rattle.std.specs.Prelude.{ℕ, List, [], ◌++◌, codes, decimal, length, if◌then◌else◌}
use Rattle.std.specs.List.{flat_map}
use Rattle.craig_spec.specs.Literal.{Literal, Clause}
use Rattle.craig_script.specs.declared.refusal.Refusal.{Refusal}
use Rattle.craig_script.specs.Refusals.{number_of_refusal}
use Rattle.craig_top.specs.Blocks.{Block, blocks_text}

-- a literal as it is printed, with a minus sign where it is negated
abbrev pub literal_text : Literal → List ℕ
literal_text l = (if l.negated then codes "-" else []) ++ decimal l.var

-- each literal with a space behind it, and a 0 that ends the line
abbrev pub literals_text : List Literal → List ℕ
literals_text literals = flat_map (λ l. literal_text l ++ codes " ") literals ++ codes "0\n"

-- the reply with a model
abbrev pub satisfiable_text : List Literal → List ℕ
satisfiable_text literals = codes "s SATISFIABLE\nv " ++ literals_text literals

-- the beginning of the reply where there is no model: the literals of the failed assumptions
abbrev pub failed_text : List Literal → List ℕ
failed_text failed = codes "s UNSATISFIABLE\nf " ++ literals_text failed

-- the reply where there is no model: the literals of the failed assumptions, and then the blocks
abbrev pub unsatisfiable_text : List Literal → List Block → List ℕ
unsatisfiable_text failed blocks = failed_text failed ++ blocks_text blocks

-- the line of a lemma
abbrev pub lemma_text : Clause → List ℕ
lemma_text lemma = codes "l " ++ literals_text lemma

-- the first line of the reply where the limit was met: how many lemmas come
abbrev pub unknown_line : ℕ → List ℕ
unknown_line count = codes "s UNKNOWN " ++ decimal count ++ codes "\n"

-- the reply where the limit was met: the lemmas, a line each
abbrev pub unknown_text : List Clause → List ℕ
unknown_text lemmas = unknown_line (length lemmas) ++ flat_map lemma_text lemmas

-- the reply to a line that is refused
abbrev pub refusal_text : Refusal → List ℕ
refusal_text refusal = codes "e " ++ decimal (number_of_refusal refusal) ++ codes "\n"

-- the reply to a command that is carried out and has nothing else to say
abbrev pub ok_text : List ℕ
ok_text = codes "ok\n"
