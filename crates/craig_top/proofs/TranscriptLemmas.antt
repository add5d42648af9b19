-- Transcripts, one after the other.
use Rattle.std.proofs.Common.{◌≡◌, ◌∙◌, ◌<◌, sym, ap, subst, arith, List, ℕ, [], ◌∷◌, ◌++◌, length, length-append, refl, ◌⊎◌, inl, inr}
use Rattle.std.proofs.lemmas.List.{append_assoc, append-nil}
use Rattle.craig_script.specs.declared.line.Line.{Line}
use Rattle.craig_top.specs.GivenState.{State, next, after}
use Rattle.craig_top.specs.Reply.{Reply}
use Rattle.craig_top.specs.Transcript.{Transcript, BeginsTranscript, BreaksOff}

pub after-append : (state : State) (a b : List Line) → after state (a ++ b) ≡ after (after state a) b
after-append state [] b = refl
after-append state (line ∷ a) b = after-append (next state line) a b

pub Transcript-append : (state : State) (a b : List Line) (s t : List ℕ) → Transcript state a s → Transcript (after state a) b t → Transcript state (a ++ b) (s ++ t)
Transcript-append state [] b s t p q = rw p q
Transcript-append state (line ∷ a) b s t p q =
    (p.0, p.1 ++ t, p.2, Transcript-append (next state line) a b p.1 t p.3 q, ap (λ z. z ++ t) p.4 ∙ append_assoc p.0 p.1 t)

-- one reply more
pub Transcript-push : (state : State) (a : List Line) (line : Line) (s reply : List ℕ) → Transcript state a s → Reply (after state a) line reply → Transcript state (a ++ line ∷ []) (s ++ reply)
Transcript-push state a line s reply p r = Transcript-append state a (line ∷ []) s reply p (reply, [], r, refl, sym (append-nil reply))

-- ---- transcripts that stop

pub BeginsTranscript-after : (state : State) (a lines more : List Line) (s t : List ℕ) → Transcript state a s → BeginsTranscript (after state a) lines t → BeginsTranscript state ((a ++ lines) ++ more) (s ++ t)
BeginsTranscript-after state a lines more s t p b =
    (a ++ b.0, b.1 ++ more, ap (λ ls. (a ++ ls) ++ more) b.2 ∙ regrouped a b.0 b.1 more, Transcript-append state a b.0 s t p b.3)
  where
    regrouped : (x y z w : List Line) → (x ++ (y ++ z)) ++ w ≡ (x ++ y) ++ (z ++ w)
    regrouped x y z w = simp append_assoc

pub BreaksOff-after : (state : State) (a lines more : List Line) (s t : List ℕ) → Transcript state a s → BreaksOff (after state a) lines t → BreaksOff state ((a ++ lines) ++ more) (s ++ t)
BreaksOff-after state a lines more s t p b = (
  a ++ b.0,
  b.1,
  b.2 ++ more,
  ap (λ ls. (a ++ ls) ++ more) b.3 ∙ regrouped a b.0 (b.1 ∷ b.2) more,
  s ++ b.4,
  Transcript-append state a b.0 s b.4 p b.5,
  b.6,
  b.7,
  subst (λ (st : State). Reply st b.1 (b.6 ++ b.7)) (sym (after-append state a b.0)) b.8,
  ap (λ z. s ++ z) b.9 ∙ sym (append_assoc s b.4 b.6),
)
  where
    regrouped : (x y z w : List Line) → (x ++ (y ++ z)) ++ w ≡ (x ++ y) ++ (z ++ w)
    regrouped x y z w = simp append_assoc

-- a front of two texts ends in the first of them, or some way into the second
abbrev Fronts : (first second front back : List ℕ) → Type 0
Fronts first second front back = ((mid : List ℕ) × (first ≡ front ++ mid)) ⊎ ((mid : List ℕ) × (front ≡ first ++ mid) × (second ≡ mid ++ back) × (0 < length mid))

fronts : (first second front back : List ℕ) → first ++ second ≡ front ++ back → Fronts first second front back
fronts first second [] back e = inl (first, refl)
fronts [] second (b ∷ front) back e = inr (b ∷ front, refl, e, omega arith)
fronts (a ∷ first) second (b ∷ front) back e =
    let same : a ∷ (first ++ second) ≡ b ∷ (front ++ back) = e in
    let head : a ≡ b = cc in
    let tail : first ++ second ≡ front ++ back = cc in
    more head (fronts first second front back tail)
  where
    more : a ≡ b → Fronts first second front back → Fronts (a ∷ first) second (b ∷ front) back
    more head (inl m) = inl (m.0, rw (head, m.1) refl)
    more head (inr m) = inr (m.0, rw (head, m.1) refl, m.2, m.3)

-- one reply more in front
BreaksOff-push : (state : State) (line : Line) (lines : List Line) (reply text front : List ℕ) → Reply state line reply → front ≡ reply ++ text → BreaksOff (next state line) lines text → BreaksOff state (line ∷ lines) front
BreaksOff-push state line lines reply text front r e b =
    (line ∷ b.0, b.1, b.2, ap (λ ls. line ∷ ls) b.3, reply ++ b.4, (reply, b.4, r, b.5, refl), b.6, b.7, b.8, e ∙ ap (λ z. reply ++ z) b.9 ∙ sym (append_assoc reply b.4 b.6))

-- a front of a transcript breaks off in the reply to one of its lines
pub Transcript-front : (state : State) (lines : List Line) (text front back : List ℕ) → Transcript state lines text → text ≡ front ++ back → 0 < length text → BreaksOff state lines front
Transcript-front state [] text front back none e some = absurd (omega (arith, some, ap length none))
Transcript-front state (line ∷ lines) text front back t e some =
    by (λ mid f more. Transcript-front (next state line) lines t.1 mid back t.3 f (omega (arith, more, ap length f, length-append mid back))) (fronts t.0 t.1 front back (sym t.4 ∙ e))
  where
    by : ((mid : List ℕ) → t.1 ≡ mid ++ back → 0 < length mid → BreaksOff (next state line) lines mid) → Fronts t.0 t.1 front back → BreaksOff state (line ∷ lines) front
    by rest (inl m) = ([], line, lines, refl, [], refl, front, m.0, subst (Reply state line) m.1 t.2, refl)
    by rest (inr m) = BreaksOff-push state line lines t.0 m.0 front t.2 m.1 (rest m.0 m.2 m.3)
