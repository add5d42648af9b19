-- Replies that are gathered, one line after the other.
use Rattle.std.proofs.Common.{◌≡◌, ◌∙◌, ◌<◌, ◌+◌, sym, ap, subst, arith, refl, ℕ, List, [], ◌∷◌, ◌++◌, length, length-append}
use Rattle.std.proofs.lemmas.List.{append_assoc}
use Rattle.craig_script.specs.declared.line.Line.{Line}
use Rattle.craig_script.specs.Lines.{LinesView}
use Rattle.craig_top.specs.Appended.{AppendsText}
use Rattle.craig_top.specs.Gathered.{Gathers}
use Rattle.craig_top.specs.GivenState.{State, next}
use Rattle.craig_top.specs.Reply.{Reply}
use Rattle.craig_top.specs.Transcript.{Transcript, BeginsTranscript}
use Rattle.craig_top.proofs.TranscriptLemmas.{after-append, Transcript-push}

-- the stream is as it was but for the lines that wait
pub same_but_ready : (first old new : LinesView) → old ≡ record first { ready = old.ready } → new ≡ record old { ready = new.ready } → new ≡ record first { ready = new.ready }
same_but_ready first old new e f = f ∙ ap (λ (c : LinesView). record c { ready = new.ready }) e

-- no line is answered yet
pub Gathers-none : (state : State) (lines : LinesView) (text : List ℕ) → text ≡ [] → Gathers state state lines lines text
Gathers-none state lines text e = record { answered = []; ready = refl; lines = refl; session = refl; replies = e }

-- a line more is answered
pub Gathers-push : (first now later : State) (waited wait rest last : LinesView) (line : Line) (text more : List ℕ) → Gathers first now waited wait text → wait.ready ≡ line ∷ rest.ready
    → rest ≡ record wait { ready = rest.ready } → last ≡ rest → later ≡ next now line → AppendsText text more (Reply now line) → Gathers first later waited last more
Gathers-push first now later waited wait rest last line text more g here same e on reply = record {
  answered = g.answered ++ line ∷ [];
  ready = g.ready ∙ ap (λ ls. g.answered ++ ls) (here ∙ ap (λ (c : LinesView). line ∷ c.ready) (sym e)) ∙ sym (append_assoc g.answered (line ∷ []) last.ready);
  lines = same_but_ready waited wait last g.lines (e ∙ same ∙ ap (λ (c : LinesView). record wait { ready = c.ready }) (sym e));
  session = on ∙ ap (λ state. next state line) g.session ∙ sym (after-append first g.answered (line ∷ []));
  replies = subst (Transcript first (g.answered ++ line ∷ [])) (sym reply.2) (Transcript-push first g.answered line text reply.0 g.replies (subst (λ state. Reply state line reply.0) g.session reply.1));
}

-- a line was taken, and its reply is not gathered
pub Gathers-taken : (first now : State) (waited wait : LinesView) (line : Line) (others : List Line) (text same : List ℕ) → Gathers first now waited wait text → wait.ready ≡ line ∷ others → same ≡ text
    → BeginsTranscript first waited.ready same
Gathers-taken first now waited wait line others text same g here e = (g.answered, line ∷ others, g.ready ∙ ap (λ ls. g.answered ++ ls) here, subst (Transcript first g.answered) (sym e) g.replies)

-- what is gathered are whole replies to the lines in front
pub Gathers-begins : (first now : State) (waited wait : LinesView) (text : List ℕ) → Gathers first now waited wait text → BeginsTranscript first waited.ready text
Gathers-begins first now waited wait text g = (g.answered, wait.ready, g.ready, g.replies)

-- where replies were gathered fewer lines wait
pub Gathers-fewer : (first now : State) (waited wait : LinesView) (text : List ℕ) → Gathers first now waited wait text → 0 < length text → length wait.ready < length waited.ready
Gathers-fewer first now waited wait text g some = fewer g.answered g.replies (ap length g.ready ∙ length-append g.answered wait.ready)
  where
    fewer : (answered : List Line) → Transcript first answered text → length waited.ready ≡ length answered + length wait.ready → length wait.ready < length waited.ready
    fewer [] none e = absurd (omega (arith, some, ap length none))
    fewer (line ∷ answered) t e = omega (arith, e)
