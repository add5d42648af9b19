-- The lines of a generated script, and what a run of it has put.
use Rattle.std.proofs.Common.{◌≡◌, ◌≢◌, ◌∙◌, sym, ap, subst, refl, inl, inr, ℕ, ◌+◌, ◌<◌, ◌≤◌, get_or, Bool, true, false, cond, List, [], ◌∷◌, ◌++◌, length, map, take, drop, Contains, codes, Option, Some, Result, Ok, Err, ◌⊎◌, append_assoc, append-nil}
use Rattle.std.specs.List.{flat_map}
use Rattle.std.proofs.lemmas.List.{take_all, take-append-drop}
use Rattle.std.proofs.lemmas.List.Elements.{Contains-get_or}
use Rattle.craig_io.specs.Sink.{AppendsAll, AppendsPrefix}
use Rattle.craig_script.specs.declared.command.Command.{Command}
use Rattle.craig_script.specs.declared.command.Command.TheVariants.{Parts}
use Rattle.craig_script.specs.declared.line.Line.{Line}
use Rattle.craig_script.specs.Generator.{generated}
use Rattle.craig_script.specs.Lines.{LinesView, before_first_byte, fed, is_newline, line_of, onto_first, whole_lines}
use Rattle.craig_script.specs.Writing.{command_line, command_text}
use Rattle.craig_top.specs.GivenState.{State, after, start}
use Rattle.craig_top.specs.Ending.{whole}
use Rattle.craig_top.specs.GeneratedRun.{generated_text, BeginsGeneratedText, GeneratedReply, IsGeneratedText, RepliesToLast, summary_text}
use Rattle.craig_top.specs.declared.settings.Settings.{Settings}
use Rattle.craig_top.specs.Puts.{Puts}
use Rattle.craig_top.specs.Faults.{CountsFaults}
use Rattle.craig_top.specs.declared.run.Stop.{Stop}
use Rattle.craig_top.specs.declared.run.Stop.TheVariants as stop
use Rattle.craig_top.proofs.FaultsLemmas.{CountsFaults-failed, CountsFaults-quiet}
use Rattle.craig_io.specs.Faults.{Rose}
use Rattle.craig_top.specs.Reply.{Reply}

-- ---- the reply to the last line

-- a byte in front of the first line leaves a line
front_some : (is : Bool) (b : ℕ) (ls : List (List ℕ)) → ls ≢ [] → cond is ([] ∷ ls) (onto_first (b ∷ []) ls) ≢ []
front_some true b ls some = λ none. cc
front_some false b [] some = absurd (some refl)
front_some false b (l ∷ ls) some = λ none. cc

-- a newline ends a line
line_ends : (x y : List ℕ) → whole_lines (x ++ 10 ∷ y) ≢ []
line_ends [] y = λ none. cc
line_ends (b ∷ bs) y = front_some (is_newline b) b (whole_lines (bs ++ 10 ∷ y)) (line_ends bs y)

-- what is made of each of some is some
map-some : {X Y : Type 0} (f : X → Y) (xs : List X) → xs ≢ [] → map f xs ≢ []
map-some f [] some = absurd (some refl)
map-some f (x ∷ xs) some = λ none. cc

-- a command has a line
text_some : (c : Command) (cs : List Command) → whole_lines (flat_map command_text (c ∷ cs)) ≢ []
text_some c cs = λ none. absurd (line_ends (command_line c) (flat_map command_text cs) (sym (ap whole_lines (append_assoc (command_line c) (codes "\n") (flat_map command_text cs))) ∙ none))

-- the script has a line
pub some_line : (n : ℕ) → whole (generated_text n) ≢ []
unfolding generated_text
some_line n = map-some line_of (whole_lines (flat_map command_text (generated n))) (text_some (Parts (n + 1)) (drop 1 (generated n)))

-- the lines of all commands are written
pub all_written : (n : ℕ) (text : List ℕ) (k : ℕ) (items : List Command) → text ≡ flat_map command_text (take k (generated n)) → items ≡ generated n → length items ≤ k → text ≡ generated_text n
unfolding generated_text
all_written n text k items e same reached = e ∙ ap (flat_map command_text) (take_all k (generated n) (subst (λ (cs : List Command). length cs ≤ k) same reached))

-- one line more is answered
pub answered_more : (line : Line) (lines answered waited waiting : List Line) → lines ≡ answered ++ waited → waited ≡ line ∷ waiting → lines ≡ (answered ++ line ∷ []) ++ waiting
answered_more line lines answered waited waiting e f = e ∙ ap (λ ls. answered ++ ls) f ∙ sym (append_assoc answered (line ∷ []) waiting)

-- the reply to that line is the last one, and nothing stands in front of it
pub last_answered : (first state : State) (line : Line) (answered : List Line) (reply cleared out : List ℕ) → state ≡ after first answered → Reply state line reply → out ≡ cleared ++ reply → cleared ≡ []
    → (answered ++ line ∷ [] ≡ []) ⊎ RepliesToLast first (answered ++ line ∷ []) out
last_answered first state line answered reply cleared out e r f none =
    let text : out ≡ reply = f ∙ ap (λ z. z ++ reply) none in
    inr (answered, line, refl, subst (λ t. Reply (after first answered) line t) (sym text) (subst (λ (st : State). Reply st line reply) e r))

-- where the script was fed and all its lines are answered, the reply to the last of them is there
pub last_of_script : (settings : Settings) (n : ℕ) (text fed_text reply : List ℕ) (cut lines : LinesView) (state : State) → text ≡ generated_text n → fed_text ≡ text → cut ≡ before_first_byte → lines ≡ fed cut fed_text
    → state ≡ start settings → (lines.ready ≢ [] → RepliesToLast state lines.ready reply) → GeneratedReply settings n reply
last_of_script settings n text fed_text reply cut lines state e f none g begins replies =
    let ready : lines.ready ≡ whole (generated_text n) = ap (λ (l : LinesView). l.ready) g ∙ ap (λ (c : LinesView). (fed c fed_text).ready) none ∙ ap whole (f ∙ e) in
    subst (λ (st : State). RepliesToLast st (whole (generated_text n)) reply) begins
    (subst (λ (ls : List Line). RepliesToLast state ls reply) ready (replies (λ nothing. some_line n (sym ready ∙ nothing))))

-- ---- what is put

-- nothing was put
pub nothing_put : (steps : ℕ) (held : Option (List ℕ)) → Puts held held (λ text. (text ≡ []) ⊎ (text ≡ summary_text steps))
nothing_put steps held = λ bytes told. ([], inl refl, told ∙ ap Some (sym (append-nil bytes)))

-- a write of the summary failed
pub summary_begun : (settings : Settings) (steps : ℕ) (bytes : List ℕ) (before later : Option (List ℕ)) → bytes ≡ summary_text steps → AppendsPrefix bytes before later
    → Puts before later (BeginsGeneratedText settings steps)
summary_begun settings steps bytes before later e begun = λ held told.
    let p : (n : ℕ) × (n ≤ length bytes) × (later ≡ Some (held ++ take n bytes)) = begun.some held told in
    (take p.0 bytes, inl (drop p.0 bytes, sym e ∙ sym (take-append-drop p.0 bytes)), p.2)

-- the summary was put, and memory ran out
pub summary_put : (steps : ℕ) (bytes : List ℕ) (before later : Option (List ℕ)) → bytes ≡ summary_text steps → AppendsAll bytes before later
    → Puts before later (λ text. (text ≡ []) ⊎ (text ≡ summary_text steps))
summary_put steps bytes before later e written = λ held told. (bytes, inr e, written.grown held told)

-- the summary was put, and a write of the reply failed
pub reply_begun : (settings : Settings) (steps : ℕ) (bytes reply : List ℕ) (before mid later : Option (List ℕ)) → bytes ≡ summary_text steps → AppendsAll bytes before mid
    → GeneratedReply settings steps reply → AppendsPrefix reply mid later → Puts before later (BeginsGeneratedText settings steps)
reply_begun settings steps bytes reply before mid later e written r begun = λ held told.
    let p : (n : ℕ) × (n ≤ length reply) × (later ≡ Some ((held ++ bytes) ++ take n reply)) = begun.some (held ++ bytes) (written.grown held told) in (
      bytes ++ take p.0 reply,
      inr (take p.0 reply, drop p.0 reply, subst (λ t. GeneratedReply settings steps t) (sym (take-append-drop p.0 reply)) r, ap (λ z. z ++ take p.0 reply) e),
      p.2 ∙ ap Some (append_assoc held bytes (take p.0 reply)),
    )

-- all was put
pub all_put : (settings : Settings) (steps : ℕ) (bytes reply : List ℕ) (before mid later : Option (List ℕ)) → bytes ≡ summary_text steps → AppendsAll bytes before mid
    → GeneratedReply settings steps reply → AppendsAll reply mid later → Puts before later (IsGeneratedText settings steps)
all_put settings steps bytes reply before mid later e written r answered = λ held told.
    (bytes ++ reply, (reply, r, ap (λ z. z ++ reply) e), answered.grown (held ++ bytes) (written.grown held told) ∙ ap Some (append_assoc held bytes reply))

-- ---- the count of faults

-- memory ran out, and no write failed
pub no_memory : (result : Result (Unit {0}) Stop) (s : Stop) (before later : ℕ) → result ≡ Err s → s ≡ stop.NoMemory → later ≡ before → CountsFaults (result ≡ Err stop.WriteFault) before later
no_memory result s before later e f same = CountsFaults-quiet _ before later (λ is. let no : stop.NoMemory ≡ stop.WriteFault = sym f ∙ err_injective (sym e ∙ is) in cc) same
  where
    err_injective : {a b : Stop} → (let r : Result (Unit {0}) Stop = Err a in r) ≡ Err b → a ≡ b
    err_injective e = cc

-- all was put, and no write failed
pub no_fault : (before later : ℕ) → later ≡ before → CountsFaults ((let done : Result (Unit {0}) Stop = Ok tt in done) ≡ Err stop.WriteFault) before later
no_fault before later same = CountsFaults-quiet _ before later (λ is. cc) same

-- a command that is met is one of the script
pub command_at : (n : ℕ) (items : List Command) (i : ℕ) (c : Command) → items ≡ generated n → i < length items → c ≡ get_or items i c → Contains (generated n) c
command_at n items i c same within at = subst (λ (cs : List Command). Contains cs c) same (subst (λ (d : Command). Contains items d) (sym at) (Contains-get_or items i c within))

-- the last write failed, and the one before it had not
pub last_failed : (failed : Type 0) (before mid later : ℕ) → failed → mid ≡ before → Rose mid later → mid ≤ later → CountsFaults failed before later
last_failed failed before mid later is same rose count = subst (λ (b : ℕ). CountsFaults failed b later) same (CountsFaults-failed failed mid later is rose count)
