-- Assumptions that are noted on the sides of clauses, and ranges that are put back.
use Rattle.std.proofs.Common.{◌≡◌, ◌∙◌, sym, ap, subst, refl, ℕ, ◌+◌, ◌<◌, ◌≤◌, Bool, true, false, cond, nat_eq, List, [], ◌∷◌, ◌++◌, length, take, get_or, Contains, Option, Some, arith, inl, inr}
use Rattle.std.proofs.lemmas.Bool.{eqb-true}
use Rattle.std.proofs.lemmas.List.{append-nil, take_more}
use Rattle.std.proofs.lemmas.List.Elements.{Contains-append_cases, Contains-append_left, Contains-append_right}
use Rattle.craig_spec.specs.Literal.{Clause, Literal}
use Rattle.craig_spec.specs.Cut.{PartClause}
use Rattle.craig_base.specs.declared.script_part.Part.{Part}
use Rattle.craig_base.specs.declared.variable.Var.{Var}
use Rattle.craig_label.specs.Sides.{HasRange, IsNoted, IsRange, IsSides, Range, SidesView, is_in_a, is_in_b, range_of, widened}
use Rattle.craig_search.specs.Verdict.{Assumptions}
use Rattle.craig_top.specs.Sides.{AreRanges, AreSidesOf, NotesAssumptions, PutsBack, parted, range_put_back, with_assumed}
use Rattle.craig_spec.proofs.MemberLemmas.{Contains-front, Contains-one}
use Rattle.craig_top.proofs.SidesLemmas.{AreSidesOf-push, NotesClause-none, NotesClause-push, parted-push}

-- ---- assumptions are noted

with_assumed-push : (clauses : List (Part × Clause)) (assumptions : Assumptions) (a : Part × Literal) → with_assumed clauses (assumptions ++ a ∷ []) ≡ with_assumed clauses assumptions ++ (a.0, a.1 ∷ []) ∷ []
with_assumed-push [] [] a = refl
with_assumed-push [] (b ∷ assumptions) a = ap (λ cs. (b.0, b.1 ∷ []) ∷ cs) (with_assumed-push [] assumptions a)
with_assumed-push (c ∷ clauses) assumptions a = ap (λ cs. c ∷ cs) (with_assumed-push clauses assumptions a)

pub NotesAssumptions-none : (s : SidesView) → NotesAssumptions [] s s
NotesAssumptions-none s clauses are = subst (λ cs. AreSidesOf (parted cs) s) (sym (append-nil clauses)) are

-- one assumption more
pub NotesAssumptions-more : (old mid new : SidesView) (assumptions : Assumptions) (i : ℕ) (d : Part × Literal) → i < length assumptions → NotesAssumptions (take i assumptions) old mid → IsNoted mid (get_or assumptions i d).1.var (get_or assumptions i d).0.0 new → IsSides new → (get_or assumptions i d).0.0 ≤ mid.parts
    → NotesAssumptions (take (i + 1) assumptions) old new
NotesAssumptions-more old mid new assumptions i d within before noted sides high clauses are =
    let a : Part × Literal = get_or assumptions i d in
    let earlier : List (Part × Clause) = with_assumed clauses (take i assumptions) in
    let more : with_assumed clauses (take (i + 1) assumptions) ≡ earlier ++ (a.0, a.1 ∷ []) ∷ [] = ap (with_assumed clauses) (take_more assumptions i d within) ∙ with_assumed-push clauses (take i assumptions) a in
    AreSidesOf-push (parted earlier) (parted (with_assumed clauses (take (i + 1) assumptions))) mid new (record { part = a.0.0; clause = a.1 ∷ [] }) (before clauses are)
    (NotesClause-push mid mid new [] a.1 a.0.0 (NotesClause-none mid a.0.0) noted) sides high (ap parted more ∙ parted-push earlier a.0 (a.1 ∷ []))

-- ---- ranges are put back

-- one entry more, under which the sides are others
put_back-push : (before : List (Var × Option Range)) (b : Var × Option Range) (mid new : SidesView) → ((x : ℕ) → cond (nat_eq x b.0.0) b.1 (range_of new x) ≡ range_of mid x) → (x : ℕ) → range_put_back (before ++ b ∷ []) new x ≡ range_put_back before mid x
put_back-push [] b mid new same x = same x
put_back-push (c ∷ before) b mid new same x = ap (cond (nat_eq x c.0.0) c.1) (put_back-push before b mid new same x)

pub PutsBack-none : (s : SidesView) → PutsBack [] s s
PutsBack-none s = record { parts = refl; ranges = λ x. refl }

-- a variable was noted, whose range stands in the last entry
pub PutsBack-noted : (before pushed : List (Var × Option Range)) (var : Var) (range : Option Range) (part : ℕ) (mid new past : SidesView) → PutsBack before mid past → range ≡ range_of mid var.0 → IsNoted mid var.0 part new → pushed ≡ before ++ (var, range) ∷ [] → PutsBack pushed new past
PutsBack-noted before pushed var range part mid new past back is noted push = record {
  parts = noted.parts ∙ back.parts;
  ranges = λ x. ap (λ bs. range_put_back bs new x) push ∙ put_back-push before (var, range) mid new same x ∙ back.ranges x;
}
  where
    by_case : (x : ℕ) (here : Bool) → (here ≡ true → x ≡ var.0) → range_of new x ≡ cond here (Some (widened (range_of mid var.0) part)) (range_of mid x) → cond here range (range_of new x) ≡ range_of mid x
    by_case x true one e = is ∙ ap (range_of mid) (sym (one refl))
    by_case x false one e = e

    same : (x : ℕ) → cond (nat_eq x var.0) range (range_of new x) ≡ range_of mid x
    same x = by_case x (nat_eq x var.0) (λ e. eqb-true x var.0 e) (noted.ranges x)

-- the range of the last entry was put back
pub PutsBack-last : (before all : List (Var × Option Range)) (var : Var) (range : Option Range) (mid new past : SidesView) → all ≡ before ++ (var, range) ∷ [] → HasRange mid var.0 range new → PutsBack all mid past → PutsBack before new past
PutsBack-last before all var range mid new past is set back = record {
  parts = set.parts ∙ back.parts;
  ranges = λ x. sym (put_back-push before (var, range) new mid (λ y. sym (set.ranges y)) x) ∙ ap (λ bs. range_put_back bs mid x) (sym is) ∙ back.ranges x;
}

pub AreRanges-none : (parts : ℕ) → AreRanges parts []
AreRanges-none parts b r here is = absurd (omega (arith, here.1))

pub AreRanges-push : (parts : ℕ) (before pushed : List (Var × Option Range)) (var : Var) (range : Option Range) → AreRanges parts before → ((r : Range) → range ≡ Some r → IsRange parts r) → pushed ≡ before ++ (var, range) ∷ [] → AreRanges parts pushed
AreRanges-push parts before pushed var range are is_range push b r here is = elim (Contains-append_cases before ((var, range) ∷ []) b (subst (λ bs. Contains bs b) push here)) [
  | inl old ↦ are b r old is
  | inr new ↦ is_range r (ap (λ (c : Var × Option Range). c.1) (Contains-one (var, range) b new) ∙ is)
]

pub AreRanges-front : (parts : ℕ) (before all : List (Var × Option Range)) (b : Var × Option Range) → all ≡ before ++ b ∷ [] → AreRanges parts all → AreRanges parts before
AreRanges-front parts before all b is are c r here = are c r (subst (λ bs. Contains bs c) (sym is) (Contains-append_left before (b ∷ []) c here))

pub AreRanges-last : (parts : ℕ) (before all : List (Var × Option Range)) (b : Var × Option Range) → all ≡ before ++ b ∷ [] → AreRanges parts all → (r : Range) → b.1 ≡ Some r → IsRange parts r
AreRanges-last parts before all b is are r = are b r (subst (λ bs. Contains bs b) (sym is) (Contains-append_right before (b ∷ []) b (Contains-front b [])))

-- sides with the same ranges are sides of the same clauses
pub AreSidesOf-back : (clauses : List PartClause) (past now : SidesView) → PutsBack [] now past → IsSides now → AreSidesOf clauses past → AreSidesOf clauses now
AreSidesOf-back clauses past now back sides are = record {
  is_sides = sides;
  parts = λ c here. subst (λ n. c.part ≤ n) (sym back.parts) (are.parts c here);
  spanned = λ c x here has. (let old = are.spanned c x here has in (old.0, back.ranges x ∙ old.1, old.2, old.3));
  in_a = λ cut x. ap (is_in_a cut) (back.ranges x) ∙ are.in_a cut x;
  in_b = λ cut x. ap (is_in_b cut) (back.ranges x) ∙ are.in_b cut x;
}
