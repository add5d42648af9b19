-- Replies that are put, those to several lines at once.
use Rattle.std.proofs.Common.{◌≡◌, ◌∙◌, ◌<◌, ◌≤◌, sym, ap, subst, arith, refl, true, false, ℕ, zero, suc, List, [], ◌++◌, length, take, drop, Option, Some}
use Rattle.std.proofs.lemmas.List.{append_assoc, append-nil, take-append-drop}
use Rattle.craig_io.specs.Sink.{AppendsAll, AppendsPrefix}
use Rattle.craig_script.specs.declared.line.Line.{Line}
use Rattle.craig_script.specs.Lines.{LinesView}
use Rattle.craig_top.specs.Emptied.{emptied}
use Rattle.craig_top.specs.Gathered.{AnswersAndPuts, Gathers}
use Rattle.craig_top.specs.GivenState.{State, after}
use Rattle.craig_top.specs.Puts.{Puts}
use Rattle.craig_top.specs.Transcript.{Transcript, BeginsTranscript, BreaksOff}
use Rattle.craig_top.proofs.GatheredLemmas.{same_but_ready}
use Rattle.craig_top.proofs.TranscriptLemmas.{after-append, BreaksOff-after, Transcript-append, Transcript-front}

-- no line is answered yet, and nothing put
pub AnswersAndPuts-none : (state : State) (lines : LinesView) (held : Option (List ℕ)) → AnswersAndPuts state state lines lines held held
AnswersAndPuts-none state lines held = record { answered = []; ready = refl; lines = refl; session = refl; put = λ bytes h. ([], refl, h ∙ ap Some (sym (append-nil bytes))) }

-- what was gathered then is put too
pub AnswersAndPuts-more : (first now later : State) (waited wait rest : LinesView) (before mid last : Option (List ℕ)) (text bytes : List ℕ) → AnswersAndPuts first now waited wait before mid
    → Gathers now later wait rest text → bytes ≡ text → AppendsAll bytes mid last → AnswersAndPuts first later waited rest before last
AnswersAndPuts-more first now later waited wait rest before mid last text bytes p g e written = record {
  answered = p.answered ++ g.answered;
  ready = p.ready ∙ ap (λ ls. p.answered ++ ls) g.ready ∙ sym (append_assoc p.answered g.answered rest.ready);
  lines = same_but_ready waited wait rest p.lines g.lines;
  session = g.session ∙ ap (λ state. after state g.answered) p.session ∙ sym (after-append first p.answered g.answered);
  put = λ held h.
      let front = p.put held h in (
        front.0 ++ text,
        Transcript-append first p.answered g.answered front.0 text front.1 (subst (λ (state : State). Transcript state g.answered text) p.session g.replies),
        written.grown (held ++ front.0) front.2 ∙ ap (λ z. Some ((held ++ front.0) ++ z)) e ∙ ap Some (append_assoc held front.0 text),
      );
}

-- some of what was gathered then is put too, whole replies, and answering stopped
pub AnswersAndPuts-begun : (first now : State) (waited wait : LinesView) (before mid last : Option (List ℕ)) (text bytes : List ℕ) → AnswersAndPuts first now waited wait before mid
    → BeginsTranscript now wait.ready text → bytes ≡ text → AppendsAll bytes mid last → Puts before last (BeginsTranscript first waited.ready)
AnswersAndPuts-begun first now waited wait before mid last text bytes p b e written = λ held h.
    let front = p.put held h in (
      front.0 ++ text,
      (
        p.answered ++ b.0,
        b.1,
        p.ready ∙ ap (λ ls. p.answered ++ ls) b.2 ∙ sym (append_assoc p.answered b.0 b.1),
        Transcript-append first p.answered b.0 front.0 text front.1 (subst (λ (state : State). Transcript state b.0 text) p.session b.3),
      ),
      written.grown (held ++ front.0) front.2 ∙ ap (λ z. Some ((held ++ front.0) ++ z)) e ∙ ap Some (append_assoc held front.0 text),
    )

-- a front of what was gathered then is put too, and a write failed
pub AnswersAndPuts-broken : (first now : State) (waited wait : LinesView) (before mid last : Option (List ℕ)) (text bytes : List ℕ) → AnswersAndPuts first now waited wait before mid
    → BeginsTranscript now wait.ready text → bytes ≡ text → 0 < length bytes → AppendsPrefix bytes mid last → Puts before last (BreaksOff first waited.ready)
AnswersAndPuts-broken first now waited wait before mid last text bytes p b e some begun = λ held h.
    let front = p.put held h in
    let q : (n : ℕ) × (n ≤ length bytes) × (last ≡ Some ((held ++ front.0) ++ take n bytes)) = begun.some (held ++ front.0) front.2 in
    let whole : Transcript (after first p.answered) b.0 bytes = subst (λ t. Transcript (after first p.answered) b.0 t) (sym e) (subst (λ (state : State). Transcript state b.0 text) p.session b.3) in
    let off = Transcript-front (after first p.answered) b.0 bytes (take q.0 bytes) (drop q.0 bytes) whole (sym (take-append-drop q.0 bytes)) some in
    let lines : waited.ready ≡ (p.answered ++ b.0) ++ b.1 = p.ready ∙ ap (λ ls. p.answered ++ ls) b.2 ∙ sym (append_assoc p.answered b.0 b.1) in (
      front.0 ++ take q.0 bytes,
      subst (λ ls. BreaksOff first ls (front.0 ++ take q.0 bytes)) (sym lines) (BreaksOff-after first p.answered b.0 b.1 front.0 (take q.0 bytes) front.1 off),
      q.2 ∙ ap Some (append_assoc held front.0 (take q.0 bytes)),
    )

-- where no line waits any more all are answered
all_answered : (answered ready wait : List Line) → ready ≡ answered ++ wait → wait ≡ [] → answered ≡ ready
all_answered answered ready wait e none = sym (e ∙ ap (λ ls. answered ++ ls) none ∙ append-nil answered)

pub AnswersAndPuts-lines : (first now : State) (waited wait : LinesView) (before last : Option (List ℕ)) → AnswersAndPuts first now waited wait before last → wait.ready ≡ [] → wait ≡ emptied waited
AnswersAndPuts-lines first now waited wait before last p none = p.lines ∙ ap (λ ls. record waited { ready = ls }) none

pub AnswersAndPuts-session : (first now : State) (waited wait : LinesView) (before last : Option (List ℕ)) → AnswersAndPuts first now waited wait before last → wait.ready ≡ [] → now ≡ after first waited.ready
AnswersAndPuts-session first now waited wait before last p none = p.session ∙ ap (after first) (all_answered p.answered waited.ready wait.ready p.ready none)

pub AnswersAndPuts-put : (first now : State) (waited wait : LinesView) (before last : Option (List ℕ)) → AnswersAndPuts first now waited wait before last → wait.ready ≡ []
    → Puts before last (Transcript first waited.ready)
AnswersAndPuts-put first now waited wait before last p none = subst (λ ls. Puts before last (Transcript first ls)) (all_answered p.answered waited.ready wait.ready p.ready none) p.put

-- what can't be empty has a byte
pub not_empty : (n : ℕ) → (n ≡ 0 → false ≡ true) → 0 < n
not_empty zero f = absurd (no (f refl))
  where
    no : false ≡ true → ⊥
    no e = cc
not_empty (suc n) f = omega arith
