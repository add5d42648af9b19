-- How a run of pieces is written, for the laws of what is read.
use Rattle.std.specs.Prelude.{ℕ, Bool, not, ◌==◌, List, [], ◌∷◌, ◌++◌, None, if◌then◌else◌}
use Rattle.std.specs.List.{list_all, list_any}
use Rattle.craig_words.specs.CommandLine.{Piece}
use Rattle.craig_words.specs.declared.words.Words.{Words}

-- a piece as it is written
pub record Written : Type 0 where
  -- the piece
  pub piece : Piece
  -- whether it is one word
  pub is_joined : Bool

-- the one or two words of a piece, in front of others: 45 is the minus sign, 61 the equals sign
abbrev pub words_before : Written → List (List ℕ) → List (List ℕ)
words_before written others =
    if written.is_joined then (45 ∷ 45 ∷ (written.piece.name ++ 61 ∷ written.piece.value)) ∷ others
    else (45 ∷ 45 ∷ written.piece.name) ∷ written.piece.value ∷ others

-- the words of a run
abbrev pub words_of : List Written → List (List ℕ)
words_of [] = []
words_of (written ∷ run) = words_before written (words_of run)

-- whether no name has an equals sign
abbrev pub have_plain_names : List Written → Bool
have_plain_names run = list_all (λ written. not (list_any (λ byte. byte == 61) written.piece.name)) run

-- where nothing is said
abbrev pub nothing_set : Words
nothing_set = record { system = None; format = None; limit = None; steps = None }
