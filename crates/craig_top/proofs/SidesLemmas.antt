-- The sides of the accepted clauses, as clauses are noted.
use Rattle.std.proofs.Common.{◌≡◌, ◌∙◌, sym, ap, subst, refl, ℕ, ◌+◌, ◌<◌, ◌≤◌, Bool, true, false, ◌&&◌, ◌||◌, cond, nat_eq, nat_le, List, [], ◌∷◌, ◌++◌, length, map, take, get_or, Contains, Option, Some, None, is_some, suc, filter, arith, inl, inr}
use Rattle.std.proofs.Math.Bool.{or-false}
use Rattle.std.specs.List.{list_any}
use Rattle.std.proofs.lemmas.Bool.{or_right, or_cases, eqb-true, le-leb}
use Rattle.std.proofs.lemmas.List.{map-append, take_more}
use Rattle.std.proofs.lemmas.List.Elements.{Contains-append_cases}
use Rattle.std.proofs.lemmas.List.Folds.{list_any-append}
use Rattle.craig_spec.specs.Literal.{Literal, Clause}
use Rattle.craig_spec.specs.Cut.{PartClause, clauses_within, is_on_side_a, is_on_side_b}
use Rattle.craig_spec.specs.Occurs.{occurs, occurs_in_clause}
use Rattle.craig_base.specs.declared.script_part.Part.{Part}
use Rattle.craig_itp.specs.Interpolants.{Spans}
use Rattle.craig_itp.proofs.SpansLemmas.{spans_kept, spans_noted}
use Rattle.craig_label.specs.Sides.{Range, SidesView, IsRange, IsSides, IsNoted, range_of, widened, is_in_a, is_in_b, occurs_in_a, occurs_in_b}
use Rattle.craig_top.specs.Sides.{AreSidesOf, NotesClause, parted}
use Rattle.craig_label.proofs.RangeLemmas.{is_in_a-widened, is_in_b-widened, same_answer}
use Rattle.craig_spec.proofs.MemberLemmas.{Contains-one}

-- ---- a variable is noted

-- part 0 is up to each cut
on_side_a : (part cut : ℕ) → nat_le part cut ≡ is_on_side_a cut part
on_side_a part cut = same_answer _ _ (λ e. or_right (nat_eq part 0) (nat_le part cut) e) (λ e. elim (or_cases (nat_eq part 0) (nat_le part cut) e) [
  | inl t ↦ le-leb part cut (let h : part ≡ 0 = eqb-true part 0 t in omega arith)
  | inr t ↦ t
])

widened_in_a : (cut part : ℕ) (r : Option Range) → is_in_a cut (Some (widened r part)) ≡ (is_in_a cut r || is_on_side_a cut part)
widened_in_a cut part r = is_in_a-widened cut part r ∙ ap (λ b. is_in_a cut r || b) (on_side_a part cut)

-- one literal more: o is what was noted before the clause, p the test of the part, q whether the clause so far has the variable
noted_here : (o p q : Bool) → ((o || p && q) || p) ≡ (o || p && (q || true))
noted_here true p q = refl
noted_here false true true = refl
noted_here false true false = refl
noted_here false false q = refl

noted_elsewhere : (o p q : Bool) → (o || p && q) ≡ (o || p && (q || false))
noted_elsewhere o p true = refl
noted_elsewhere o p false = refl

noted_none : (o p : Bool) → o ≡ (o || p && false)
noted_none true p = refl
noted_none false true = refl
noted_none false false = refl

pub NotesClause-none : (s : SidesView) (part : ℕ) → NotesClause s [] part s
NotesClause-none s part = record {
  parts = refl;
  spanned = λ x has. absurd (let no : false ≡ true = has in cc);
  kept = λ x other spans. spans;
  in_a = λ cut x. noted_none _ _;
  in_b = λ cut x. noted_none _ _;
}

-- whether a clause with one literal more has a variable
occurs-push : (x : ℕ) (c : Clause) (l : Literal) → occurs_in_clause x (c ++ l ∷ []) ≡ (occurs_in_clause x c || (nat_eq x l.var || false))
occurs-push x c l = list_any-append (λ (m : Literal). nat_eq x m.var) c (l ∷ [])

-- f tells a side by a range, and widening adds the test of the part
side-push : (f : Option Range → Bool) (o p q here : Bool) (old mid new : Option Range) (part : ℕ) → f mid ≡ (o || p && q) → f (Some (widened mid part)) ≡ (f mid || p)
    → new ≡ cond here (Some (widened old part)) mid → (here ≡ true → old ≡ mid) → f new ≡ (o || p && (q || (here || false)))
side-push f o p q true old mid new part so wide is same = ap f (is ∙ ap (λ r. Some (widened r part)) (same refl)) ∙ wide ∙ ap (λ b. b || p) so ∙ noted_here o p q
side-push f o p q false old mid new part so wide is same = ap f is ∙ so ∙ noted_elsewhere o p q

pub NotesClause-push : (old mid new : SidesView) (c : Clause) (l : Literal) (part : ℕ) → NotesClause old c part mid → IsNoted mid l.var part new → NotesClause old (c ++ l ∷ []) part new
NotesClause-push old mid new c l part before noted = record {
  parts = noted.parts ∙ before.parts;
  spanned = λ x has. elim (or_cases _ _ (sym (occurs-push x c l) ∙ has)) [
    | inl earlier ↦ spans_kept mid new l.var part x part noted (before.spanned x earlier)
    | inr here ↦ (let same : x ≡ l.var = eqb-true x l.var (sym (or-false (nat_eq x l.var)) ∙ here) in subst (λ y. Spans new y part) (sym same) (spans_noted mid new l.var part noted))
  ];
  kept = λ x other spans. spans_kept mid new l.var part x other noted (before.kept x other spans);
  in_a = λ cut x. rw (occurs-push x c l) (side-push (is_in_a cut) (occurs_in_a old cut x) (is_on_side_a cut part) (occurs_in_clause x c) (nat_eq x l.var) (range_of mid l.var) (range_of mid x) (range_of new x) part
      (before.in_a cut x) (widened_in_a cut part (range_of mid x)) (noted.ranges x) (λ e. ap (range_of mid) (sym (eqb-true x l.var e))));
  in_b = λ cut x. rw (occurs-push x c l) (side-push (is_in_b cut) (occurs_in_b old cut x) (is_on_side_b cut part) (occurs_in_clause x c) (nat_eq x l.var) (range_of mid l.var) (range_of mid x) (range_of new x) part
      (before.in_b cut x) (is_in_b-widened cut part (range_of mid x)) (noted.ranges x) (λ e. ap (range_of mid) (sym (eqb-true x l.var e))));
}

pub NotesClause-more : (old mid new : SidesView) (c : Clause) (i : ℕ) (d : Literal) (part : ℕ) → i < length c → NotesClause old (take i c) part mid → IsNoted mid (get_or c i d).var part new → NotesClause old (take (i + 1) c) part new
NotesClause-more old mid new c i d part within before noted = rw (take_more c i d within) (NotesClause-push old mid new (take i c) (get_or c i d) part before noted)

-- ---- a clause is accepted

-- whether the clauses that pass a test have a variable
pub occurs-within : (x : ℕ) (test : ℕ → Bool) (cs : List PartClause) → occurs x (clauses_within test cs) ≡ list_any (λ (c : PartClause). test c.part && occurs_in_clause x c.clause) cs
occurs-within x test [] = refl
occurs-within x test (b ∷ cs) = step (test b.part) _ (filter (λ (e : PartClause). test e.part) cs) (occurs-within x test cs) where
  step : (t rest : Bool) (less : List PartClause) → occurs x (map (λ (e : PartClause). e.clause) less) ≡ rest → occurs x (map (λ (e : PartClause). e.clause) (cond t (b ∷ less) less)) ≡ (t && occurs_in_clause x b.clause || rest)
  step true rest less e = ap (λ r. occurs_in_clause x b.clause || r) e
  step false rest less e = e

-- a range reaches side A of the last cut
some_range : (parts : ℕ) (r : Option Range) → ((x : Range) → r ≡ Some x → IsRange parts x) → is_in_a parts r ≡ is_some r
some_range parts None is = refl
some_range parts (Some r) is = let range = is r refl in le-leb r.first parts (omega (arith, range.ordered, range.last))

-- where all clauses are on side A, what they have is what the side has
all_on_side_a : (cut x : ℕ) (accepted : List (Part × Clause)) → ((c : PartClause) → Contains (parted accepted) c → c.part ≤ cut)
    → list_any (λ (c : PartClause). is_on_side_a cut c.part && occurs_in_clause x c.clause) (parted accepted) ≡ occurs x (map (λ (a : Part × Clause). a.1) accepted)
all_on_side_a cut x [] parts = refl
all_on_side_a cut x (a ∷ accepted) parts =
    let low : a.0.0 ≤ cut = parts (record { part = a.0.0; clause = a.1 }) (0, omega arith, refl) in
    rw (or_right (nat_eq a.0.0 0) (nat_le a.0.0 cut) (le-leb a.0.0 cut low), all_on_side_a cut x accepted (λ c here. parts c (suc here.0, omega (arith, here.1), here.2))) refl

-- so the variables of the clauses are those that were noted
pub noted-occurs : (accepted : List (Part × Clause)) (sides : SidesView) → AreSidesOf (parted accepted) sides → (x : ℕ) → is_some (range_of sides x) ≡ occurs x (map (λ (a : Part × Clause). a.1) accepted)
noted-occurs accepted sides are x =
    sym (some_range sides.parts (range_of sides x) (are.is_sides.ranges x)) ∙ are.in_a sides.parts x ∙ occurs-within x (is_on_side_a sides.parts) (parted accepted) ∙ all_on_side_a sides.parts x accepted are.parts

-- the same with one clause more
within-push : (x : ℕ) (test : ℕ → Bool) (cs : List PartClause) (c : PartClause) → occurs x (clauses_within test (cs ++ c ∷ [])) ≡ (occurs x (clauses_within test cs) || test c.part && occurs_in_clause x c.clause)
within-push x test cs c =
    let has : PartClause → Bool = λ d. test d.part && occurs_in_clause x d.clause in
    occurs-within x test (cs ++ c ∷ []) ∙ list_any-append has cs (c ∷ []) ∙ ap (λ b. list_any has cs || b) (or-false (has c)) ∙ ap (λ b. b || has c) (sym (occurs-within x test cs))

pub parted-push : (accepted : List (Part × Clause)) (part : Part) (c : Clause) → parted (accepted ++ (part, c) ∷ []) ≡ parted accepted ++ record { part = part.0; clause = c } ∷ []
parted-push accepted part c = map-append (λ (a : Part × Clause). record { part = a.0.0; clause = a.1 }) accepted ((part, c) ∷ [])

one_part : (clauses : List PartClause) (c : PartClause) (parts : ℕ) → ((d : PartClause) → Contains clauses d → d.part ≤ parts) → c.part ≤ parts
    → (d : PartClause) → Contains (clauses ++ c ∷ []) d → d.part ≤ parts
one_part clauses c parts before high d h = elim (Contains-append_cases clauses (c ∷ []) d h) [
  | inl old ↦ before d old
  | inr new ↦ (let is : c ≡ d = Contains-one c d new in subst (λ (e : PartClause). e.part ≤ parts) is high)
]

-- no clause
pub AreSidesOf-none : (parts : ℕ) → 1 ≤ parts → AreSidesOf [] (record { parts = parts; ranges = [] })
AreSidesOf-none parts some = record {
  is_sides = record { parts = some; ranges = λ x r e. absurd (cc) };
  parts = λ c here. absurd (omega (arith, here.1));
  spanned = λ c x here has. absurd (omega (arith, here.1));
  in_a = λ cut x. refl;
  in_b = λ cut x. refl;
}

-- one clause more
pub AreSidesOf-push : (clauses pushed : List PartClause) (old new : SidesView) (c : PartClause) → AreSidesOf clauses old → NotesClause old c.clause c.part new → IsSides new → c.part ≤ old.parts
    → pushed ≡ clauses ++ c ∷ [] → AreSidesOf pushed new
AreSidesOf-push clauses pushed old new c before noted sides high e = rw e record {
  is_sides = sides;
  spanned = λ d x here has. elim (Contains-append_cases clauses (c ∷ []) d here) [
    | inl old_one ↦ noted.kept x d.part (before.spanned d x old_one has)
    | inr new_one ↦ (let is : c ≡ d = Contains-one c d new_one in subst (λ (e : PartClause). Spans new x e.part) is (noted.spanned x (ap (λ (e : PartClause). occurs_in_clause x e.clause) is ∙ has)))
  ];
  parts = one_part clauses c new.parts (rw noted.parts before.parts) (rw noted.parts high);
  in_a = λ cut x. noted.in_a cut x ∙ ap (λ b. b || is_on_side_a cut c.part && occurs_in_clause x c.clause) (before.in_a cut x) ∙ sym (within-push x (is_on_side_a cut) clauses c);
  in_b = λ cut x. noted.in_b cut x ∙ ap (λ b. b || is_on_side_b cut c.part && occurs_in_clause x c.clause) (before.in_b cut x) ∙ sym (within-push x (is_on_side_b cut) clauses c);
}
