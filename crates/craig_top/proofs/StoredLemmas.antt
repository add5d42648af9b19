-- What a session keeps, when names or a clause are added.
use Rattle.std.proofs.Common.{ap, subst, sym, suc, false, max, nat_eq, not, ◌∙◌, length, ℕ, ◌≤◌, ◌≡◌, List, [], ◌∷◌, ◌++◌, map, Bool, Result, Ok, Err, ℤ, refl, arith}
use Rattle.std.proofs.lemmas.Bool.{and_from, and_parts, ne_eqb}
use Rattle.std.proofs.lemmas.List.{map-append}
use Rattle.craig_spec.specs.Literal.{Clause, Literal}
use Rattle.craig_spec.specs.Cut.{PartClause}
use Rattle.craig_base.specs.declared.script_part.Part.{Part}
use Rattle.craig_label.specs.Sides.{SidesView, IsSides}
use Rattle.craig_script.specs.declared.command.Command.TheVariants.{Parts}
use Rattle.craig_script.specs.declared.command.Command.{Command}
use Rattle.craig_script.specs.declared.line.Line.{Line}
use Rattle.craig_script.specs.declared.refusal.Refusal.{Refusal}
use Rattle.craig_script.specs.Reading.{admitted, parsed, read_line}
use Rattle.craig_top.specs.GivenState.{ScriptSettings, any_clause, script_literal}
use Rattle.craig_top.specs.Growth.{NamesGrow}
use Rattle.craig_top.specs.Values.{IsOver}
use Rattle.craig_top.specs.Naming.{named_clause, written}
use Rattle.craig_search.specs.Verdict.{Assumptions}
use Rattle.craig_top.specs.Sides.{AreSidesOf, NotesClause, parted, with_assumed}
use Rattle.craig_top.specs.declared.stored.Stored.{Stored}
use Rattle.craig_top.specs.Stored.{AreStoredTogether, HaveNames, IsSameButForRanges, given_state, stored_state}
use Rattle.craig_top.proofs.GrowthLemmas.{AreOver-more, AreOver-push, written-grows}
use Rattle.craig_top.proofs.SidesLemmas.{AreSidesOf-push, parted-push}

pub HaveNames-grows : (old new : List ℕ) (accepted : List (Part × Clause)) → NamesGrow old new → HaveNames old accepted → HaveNames new accepted
HaveNames-grows old new accepted g stored = AreOver-more _ _ (map (λ a. a.1) accepted) g.longer stored

pub HaveNames-push : (old new : List ℕ) (accepted pushed : List (Part × Clause)) (part : Part) (c : Clause) → NamesGrow old new → HaveNames old accepted → IsOver (length new) c
    → pushed ≡ accepted ++ (part, c) ∷ [] → HaveNames new pushed
HaveNames-push old new accepted pushed part c g stored over e =
    rw (e, map-append (λ (a : Part × Clause). a.1) accepted ((part, c) ∷ [])) (AreOver-push (length new) (map (λ a. a.1) accepted) c (HaveNames-grows old new accepted g stored) over)

-- the state with one clause more
pub stored_state-push : (settings now_settings : ScriptSettings) (old new : List ℕ) (accepted pushed : List (Part × Clause)) (part : Part) (c : Clause) (zs : List ℤ) → now_settings ≡ settings → NamesGrow old new → HaveNames old accepted
    → pushed ≡ accepted ++ (part, c) ∷ [] → named_clause new c ≡ map script_literal zs
    → stored_state now_settings new pushed ≡ record { settings = settings; accepted = written old accepted ++ record { part = part.0; clause = map script_literal zs } ∷ [] }
stored_state-push settings now_settings old new accepted pushed part c zs many g stored e so =
    let as_written : Part × Clause → PartClause = λ a. record { part = a.0.0; clause = named_clause new a.1 } in
    rw (many, e, map-append as_written accepted ((part, c) ∷ []), written-grows old new accepted g stored, so) refl

-- names that only grew give the same state
pub stored_state-grown : (settings now_settings : ScriptSettings) (old new : List ℕ) (accepted now : List (Part × Clause)) → now_settings ≡ settings → NamesGrow old new → HaveNames old accepted → now ≡ accepted
    → stored_state now_settings new now ≡ stored_state settings old accepted
stored_state-grown settings now_settings old new accepted now many g stored e = rw (many, e, written-grows old new accepted g stored) refl

-- a session with one clause more
pub AreStoredTogether-added : (old new : List ℕ) (before after : SidesView) (accepted pushed : List (Part × Clause)) (part : Part) (c : Clause) (vars known : ℕ) → AreStoredTogether old before accepted vars → NamesGrow old new → IsOver (length new) c
    → NotesClause before c part.0 after → IsSides after → part.0 ≤ before.parts → pushed ≡ accepted ++ (part, c) ∷ [] → known ≡ max vars (length new) → AreStoredTogether new after pushed known
AreStoredTogether-added old new before after accepted pushed part c vars known kept grows over noted sides high push is = record {
  stored = HaveNames-push old new accepted pushed part c grows kept.stored over push;
  sides_are = AreSidesOf-push (parted accepted) (parted pushed) before after (record { part = part.0; clause = c }) kept.sides_are noted sides high (ap parted push ∙ parted-push accepted part c);
  known = (let more = grows.longer in let low = kept.known in omega arith);
}

-- names that only grew, and variables that have names
pub AreStoredTogether-grown : (old new : List ℕ) (sides : SidesView) (accepted now : List (Part × Clause)) (vars known : ℕ) → AreStoredTogether old sides accepted vars → NamesGrow old new → now ≡ accepted → known ≤ length new → AreStoredTogether new sides now known
AreStoredTogether-grown old new sides accepted now vars known kept grows same low = record {
  stored = subst (HaveNames new) (sym same) (HaveNames-grows old new accepted grows kept.stored);
  sides_are = subst (λ (cs : List (Part × Clause)). AreSidesOf (parted cs) sides) (sym same) kept.sides_are;
  known = low;
}

-- ranges don't belong to the given state
pub given_state-same : (old new : Stored) → IsSameButForRanges old new → given_state new ≡ given_state old
given_state-same old new same = rw (same.names, same.parts, same.choices, same.solver) refl

-- the units of assumptions have names where these have
pub HaveNames-assumed : (names : List ℕ) (accepted : List (Part × Clause)) (assumptions : Assumptions) → HaveNames names accepted → IsOver (length names) (map (λ (a : Part × Literal). a.1) assumptions) → HaveNames names (with_assumed accepted assumptions)
HaveNames-assumed names [] [] stored over = refl
HaveNames-assumed names [] (a ∷ assumptions) stored over = let parts = and_parts _ _ over in and_from _ _ (and_from _ _ parts.0 refl) (HaveNames-assumed names [] assumptions stored parts.1)
HaveNames-assumed names (c ∷ accepted) assumptions stored over = let parts = and_parts _ _ stored in and_from _ _ parts.0 (HaveNames-assumed names accepted assumptions parts.1 over)

-- where a number of parts is admitted, no clause is accepted
pub none_accepted : (parts : ℕ) (names : List ℕ) (accepted : List (Part × Clause)) (n : ℕ) → admitted parts (any_clause (written names accepted)) (Parts n) ≡ Ok tt → accepted ≡ []
none_accepted parts names [] n e = refl
none_accepted parts names (a ∷ others) n e = absurd (cc)

not_none : (n : ℕ) → nat_eq (suc n) 0 ≡ false
not_none n = ne_eqb (suc n) 0 (λ e. let no : suc n ≡ 0 = e in omega (arith, no))

-- a clause is accepted as it was written where one is accepted over dense variables
pub any_clause-written : (names : List ℕ) (accepted : List (Part × Clause)) → any_clause (written names accepted) ≡ not (nat_eq (length accepted) 0)
any_clause-written names [] = refl
any_clause-written names (a ∷ others) = sym (ap not (not_none (length others)))

-- the tests of a command are those that were made with the lent clauses
pub admitted-stored : (parts told : ℕ) (names : List ℕ) (accepted lent : List (Part × Clause)) (empty : Bool) (command : Command) (r : Result (Unit {0}) Refusal) → told ≡ parts → lent ≡ accepted → empty ≡ nat_eq (length lent) 0
    → r ≡ admitted told (not empty) command → admitted parts (any_clause (written names accepted)) command ≡ r
admitted-stored parts told names accepted lent empty command r many same none e =
    let any : any_clause (written names accepted) ≡ not empty = any_clause-written names accepted ∙ ap (λ (l : List (Part × Clause)). not (nat_eq (length l) 0)) (sym same) ∙ ap not (sym none) in
    ap (λ (b : Bool). admitted parts b command) any ∙ ap (λ (n : ℕ). admitted n (not empty) command) (sym many) ∙ sym e

-- a line is read as the command that passes them
pub read-admitted : (parts : ℕ) (any : Bool) (line : Line) (command : Command) → parsed line ≡ Ok command → admitted parts any command ≡ Ok tt → read_line parts any line ≡ Ok command
read-admitted parts any line command is passes = rw (is, passes) refl

-- and refused for the first one that it doesn't pass
pub read-refused : (parts : ℕ) (any : Bool) (line : Line) (command : Command) (refusal : Refusal) → parsed line ≡ Ok command → admitted parts any command ≡ Err refusal → read_line parts any line ≡ Err refusal
read-refused parts any line command refusal is fails = rw (is, fails) refl
