-- What the summary of a generated script says, and which text a run of it has put.
use Rattle.std.specs.Prelude.{◌≡◌, ℕ, ◌≤◌, List, [], ◌∷◌, ◌++◌, codes, length, Option, Some, ◌⊎◌}
use Rattle.std.specs.Fmt.{decimal}
use Rattle.std.specs.List.{flat_map}
use Rattle.craig_top.specs.declared.settings.Settings.{Settings}
use Rattle.craig_top.specs.declared.status.Status.{Status}
use Rattle.craig_top.specs.Formats.{greatest_named}
use Rattle.craig_top.specs.GeneratedRun.{GeneratedPromise, summary_text, with_generated}
use Rattle.craig_top.specs.GivenState.{State}
use Rattle.craig_top.specs.Reply.{IsSolveReply}

-- a word and a number with a space between them
abbrev pub counted : List ℕ → ℕ → List ℕ
counted word n = word ++ (codes " " ++ decimal n)

-- the lines that count steps, parts, clauses, variables and cuts
abbrev pub counting_lines : (steps parts clauses variables cuts : ℕ) → List (List ℕ)
counting_lines steps parts clauses variables cuts =
    counted (codes "gen") steps
    ∷ (counted (codes "parts") parts ∷ (counted (codes "clauses") clauses ∷ (counted (codes "variables") variables ∷ (counted (codes "cuts") cuts ∷ []))))

-- the text has these lines for a script of so many steps that leaves the state: of its parts, its accepted clauses, the
-- greatest variable that they have, and its chosen cuts
abbrev pub IsSummary : (steps : ℕ) → State → List ℕ → Type 0
IsSummary steps state text =
    text ≡ flat_map (λ line. line ++ codes "\n") (counting_lines steps state.settings.parts (length state.accepted) (greatest_named state []) (length state.settings.cuts))

-- the text is the summary and then a reply
abbrev pub IsSummaryAndReply : (summary : List ℕ) → (List ℕ → Type 0) → List ℕ → Type 0
IsSummaryAndReply summary IsReply text = (reply : List ℕ) × IsReply reply × (text ≡ summary ++ reply)

-- the text is the front of the summary, or the summary and the front of a reply
abbrev pub IsFrontOfSummaryAndReply : (summary : List ℕ) → (List ℕ → Type 0) → List ℕ → Type 0
IsFrontOfSummaryAndReply summary IsReply text =
    ((back : List ℕ) × (summary ≡ text ++ back)) ⊎ ((front : List ℕ) × (back : List ℕ) × IsReply (front ++ back) × (text ≡ summary ++ front))

-- in each run of a script of at most 60 steps that ends with the status what is said holds of its summary, what is a reply
-- to its last line, and the bytes of its sink before and after the run
abbrev pub GeneratedRunsPut : Status → (List ℕ → (List ℕ → Type 0) → List ℕ → Option (List ℕ) → Type 0) → Type 0
GeneratedRunsPut status Says =
    (settings : Settings) (n : ℕ) (held : List ℕ) (later : Option (List ℕ)) → n ≤ 60 → GeneratedPromise settings n status (Some held) later
    → Says (summary_text n) (λ text. IsSolveReply (with_generated settings n) [] text) held later
