-- The replies to the lines of a script, one after the other.
use Rattle.std.specs.Prelude.{◌≡◌, ℕ, List, [], ◌∷◌, ◌++◌}
use Rattle.craig_script.specs.declared.line.Line.{Line}
use Rattle.craig_top.specs.GivenState.{State, next, after}
use Rattle.craig_top.specs.Reply.{Reply}

-- the text is made of one allowed reply for each line, each in the state that the lines before it left
abbrev pub Transcript : State → List Line → List ℕ → Type 0
Transcript state [] text = text ≡ []
Transcript state (line ∷ lines) text =
    (reply : List ℕ) × (rest : List ℕ) × Reply state line reply × Transcript (next state line) lines rest × (text ≡ reply ++ rest)

-- the text is a transcript of some of the lines, from the first on
abbrev pub BeginsTranscript : State → List Line → List ℕ → Type 0
BeginsTranscript state lines text =
    (answered : List Line) × (others : List Line) × (lines ≡ answered ++ others) × Transcript state answered text

-- the text is a transcript of some of the lines, from the first on, and then the beginning of an allowed reply to the next
abbrev pub BreaksOff : State → List Line → List ℕ → Type 0
BreaksOff state lines text =
    (answered : List Line) × (line : Line) × (others : List Line) × (lines ≡ answered ++ line ∷ others)
    × (whole : List ℕ) × Transcript state answered whole
    × (front : List ℕ) × (back : List ℕ) × Reply (after state answered) line (front ++ back) × (text ≡ whole ++ front)
