-- Rows whose marks say which steps an id needs that isn't forgotten.
use Rattle.std.proofs.Common.{◌≡◌, ℕ, zero, suc, ◌+◌, ◌<◌, Bool, true, false, cond, not, ◌||◌, ◌&&◌, eqb, eq-eqb, ne_eqb, eqb-true, List, [], ◌∷◌, length, get_or, set, map, All, AllPairs, Contains, Option, Some, None, slice_get, refl, sym, ◌∙◌, ap, subst, arith}
use Rattle.std.specs.List.{filter, list_any}
use Rattle.std.specs.Option.{is_some}
use Rattle.std.proofs.lemmas.List.{get_or_default, length-map}
use Rattle.std.proofs.lemmas.Option.{same_Some, slice_get-get_or}
use Rattle.std.proofs.lemmas.List.Elements.{filter_passes}
use Rattle.std.proofs.lemmas.Bool.{or_left, or_right, and_parts}
use Rattle.std.proofs.Math.Bool.{or-false}
use Rattle.std.proofs.Math.ListN.{get_or-map}
use Rattle.craig_spec.specs.Chain.{AreRising, ChainStep, Derived, Original, ToldStep, antecedents, IsUnforgotten}
use Rattle.craig_spec.specs.Needed.{Reclaims}
use Rattle.craig_spec.proofs.MemberLemmas.{list_any-find}
use Rattle.craig_spec.proofs.ToldLemmas.{IsNeeded-root}
use Rattle.craig_spec.specs.PackedChain.{packed_chain}
use Rattle.craig_base.specs.declared.script_part.Part.{Part}
use Rattle.craig_proof.specs.Lent.{IsAtPlace}
use Rattle.craig_proof.specs.NeededSteps.{HasId}
use Rattle.craig_proof.specs.PackedSteps.{IsPackable, IsPackedChain}
use Rattle.craig_proof.specs.Reclaiming.{AreMarkedFrom, AreSameRows, HasRow, HaveChains, IsInUse, MarksMore, AreAllInUse, is_marked, marked_steps, marked_unless_forgotten, unmarked}
use Rattle.craig_proof.specs.StoredSteps.{AreRows, all_literals, bytes_of, no_step, steps_in}
use Rattle.craig_proof.specs.declared.stored_step.StoredStep.{StoredStep}
use Rattle.craig_proof.proofs.FindingLemmas.{BackMarks-alone, BackMarks-closed, BackMarks-first, BackMarks-mark, BackMarks-skip, HasId-antecedents, eqb_turned, filter-same, or_moved}
use Rattle.craig_proof.proofs.RowLemmas.{id_at, length-rows, read_stored, rising_stored, derived_lent, row_derived, row_original, row_packed}
use Rattle.craig_proof.proofs.ToldLemmas.{has_place}

-- a mark changes no row's step
AreRows-unmarked : (l b : ℕ) (rows : List StoredStep) (steps : List ToldStep) → AreRows l b rows steps → AreRows l b (map unmarked rows) steps
AreRows-unmarked l b [] [] are = are
AreRows-unmarked l b [] (s ∷ steps) are = absurd are
AreRows-unmarked l b (r ∷ rows) [] are = absurd are
AreRows-unmarked l b (r ∷ rows) (s ∷ steps) are =
    (record { id = are.0.id; literals_at = are.0.literals_at; bytes_at = are.0.bytes_at; part = are.0.part; forgotten = are.0.forgotten; packable = are.0.packable }, AreRows-unmarked (l + length s.literals) (b + length (bytes_of s)) rows steps are.1)

AreRows-from_unmarked : (l b : ℕ) (rows : List StoredStep) (steps : List ToldStep) → AreRows l b (map unmarked rows) steps → AreRows l b rows steps
AreRows-from_unmarked l b [] [] are = are
AreRows-from_unmarked l b [] (s ∷ steps) are = absurd are
AreRows-from_unmarked l b (r ∷ rows) [] are = absurd are
AreRows-from_unmarked l b (r ∷ rows) (s ∷ steps) are =
    (record { id = are.0.id; literals_at = are.0.literals_at; bytes_at = are.0.bytes_at; part = are.0.part; forgotten = are.0.forgotten; packable = are.0.packable }, AreRows-from_unmarked (l + length s.literals) (b + length (bytes_of s)) rows steps are.1)

pub HaveChains-same : (rows after : List StoredStep) (bytes : List ℕ) (steps : List ToldStep) → AreSameRows rows after → HaveChains rows bytes steps → HaveChains after bytes steps
HaveChains-same rows after bytes steps same chains = record {
  stored = record {
    rows_are = AreRows-from_unmarked 0 0 after steps (subst (λ qs. AreRows 0 0 qs steps) (sym same) (AreRows-unmarked 0 0 rows steps chains.stored.rows_are));
    literals_are = refl;
    bytes_are = chains.stored.bytes_are;
  };
  rising = chains.rising;
  stand = chains.stand;
}

-- the ids of rows that are the same but for their marks
id_unmarked : (rows : List StoredStep) (k : ℕ) (d : StoredStep) → (get_or (map unmarked rows) k (unmarked d)).id.0 ≡ (get_or rows k d).id.0
id_unmarked rows k d = ap (λ (r : StoredStep). r.id.0) (get_or-map unmarked rows k d)

id_same : (rows after : List StoredStep) (k : ℕ) (d : StoredStep) → AreSameRows rows after → (get_or after k d).id.0 ≡ (get_or rows k d).id.0
id_same rows after k d same = sym (id_unmarked after k d) ∙ ap (λ qs. (get_or qs k (unmarked d)).id.0) same ∙ id_unmarked rows k d

pub length-same : (rows after : List StoredStep) → AreSameRows rows after → length after ≡ length rows
length-same rows after same = sym (length-map after unmarked) ∙ ap length same ∙ length-map rows unmarked

pub rising-same : (rows after : List StoredStep) → AreSameRows rows after → AllPairs (λ r s. r.id.0 < s.id.0) rows → AllPairs (λ r s. r.id.0 < s.id.0) after
rising-same rows after same rising i j d before within =
    let up : (get_or rows i d).id.0 < (get_or rows j d).id.0 = rising i j d before (omega (arith, within, length-same rows after same)) in
    rw (id_same rows after i d same, id_same rows after j d same) up

HasRow-unmarked : (rows : List StoredStep) (x : ℕ) → list_any (λ (r : StoredStep). eqb r.id.0 x) (map unmarked rows) ≡ list_any (λ (r : StoredStep). eqb r.id.0 x) rows
HasRow-unmarked [] x = refl
HasRow-unmarked (r ∷ rows) x = ap (λ b. eqb r.id.0 x || b) (HasRow-unmarked rows x)

pub HasRow-same : (rows after : List StoredStep) (x : ℕ) → AreSameRows rows after → HasRow rows x → HasRow after x
HasRow-same rows after x same has =
    sym (HasRow-unmarked after x) ∙ ap (λ qs. list_any (λ (r : StoredStep). eqb r.id.0 x) qs) same ∙ HasRow-unmarked rows x ∙ has

-- where the row of an id stands
pub row_found : (rows : List StoredStep) (x r : ℕ) → HasRow rows x → ((k : ℕ) (d : StoredStep) → k < length rows → (get_or rows k d).id.0 ≡ x → r ≡ k) → (r < length rows) × ((d : StoredStep) → (get_or rows r d).id.0 ≡ x)
row_found rows x r has found =
    let w = list_any-find (λ (q : StoredStep). eqb q.id.0 x) rows has in
    let same : (get_or rows w.1.0 w.0).id.0 ≡ x = ap (λ (q : StoredStep). q.id.0) w.1.2 ∙ eqb-true w.0.id.0 x w.2 in
    let is : r ≡ w.1.0 = found w.1.0 w.0 w.1.1 same in
    rw is (w.1.1, λ d. ap (λ (q : StoredStep). q.id.0) (get_or_default rows w.1.0 d w.0 w.1.1) ∙ same)

-- a mark that is set
AreSameRows-set : (rows : List StoredStep) (k : ℕ) (r : StoredStep) → r ≡ get_or rows k r → AreSameRows rows (set rows k (record { id = r.id; literals = r.literals; bytes = r.bytes; part = r.part; forgotten = r.forgotten; needed = true }))
AreSameRows-set [] k r is = refl
AreSameRows-set (q ∷ rows) zero r is = ap (λ (p : StoredStep). unmarked p ∷ map unmarked rows) is
AreSameRows-set (q ∷ rows) (suc k) r is = ap (λ qs. unmarked q ∷ qs) (AreSameRows-set rows k r is)

set-cases : (e f n m : Bool) → f ≡ e → (f && true || m) ≡ (e || (f && n || m))
set-cases true true n m is = refl
set-cases true false n m is = absurd (cc)
set-cases false true n m is = absurd (cc)
set-cases false false n m is = refl

moved-cases : (a e m : Bool) → (a || (e || m)) ≡ (e || (a || m))
moved-cases true true m = refl
moved-cases true false m = refl
moved-cases false e m = refl

is_marked-set : (rows : List StoredStep) (k : ℕ) (r : StoredStep) (x : ℕ) → k < length rows → r ≡ get_or rows k r → is_marked (set rows k (record { id = r.id; literals = r.literals; bytes = r.bytes; part = r.part; forgotten = r.forgotten; needed = true })) x ≡ (eqb x r.id.0 || is_marked rows x)
is_marked-set [] k r x within is = absurd (omega arith)
is_marked-set (q ∷ rows) zero r x within is = rw (← is) (set-cases (eqb x r.id.0) (eqb r.id.0 x) r.needed (is_marked rows x) (eqb_turned r.id.0 x))
is_marked-set (q ∷ rows) (suc k) r x within is =
    ap (λ m. eqb q.id.0 x && q.needed || m) (is_marked-set rows k r x (omega arith) is) ∙ moved-cases (eqb q.id.0 x && q.needed) (eqb x r.id.0) (is_marked rows x)

pub MarksMore-set : (rows : List StoredStep) (k id : ℕ) (e : StoredStep) → k < length rows → ((d : StoredStep) → (get_or rows k d).id.0 ≡ id)
    → MarksMore (λ x. eqb x id) rows (set rows k (record { id = (get_or rows k e).id; literals = (get_or rows k e).literals; bytes = (get_or rows k e).bytes; part = (get_or rows k e).part; forgotten = (get_or rows k e).forgotten; needed = true }))
MarksMore-set rows k id e within at =
    let r : StoredStep = get_or rows k e in
    let is : r ≡ get_or rows k r = get_or_default rows k e r within in
    record {
      same = AreSameRows-set rows k r is;
      marks = λ x. is_marked-set rows k r x within is ∙ ap (λ n. eqb x n || is_marked rows x) (at e);
    }

-- the row of an id that rises is marked where the id is
unmarked-above : (rows : List StoredStep) (x : ℕ) → ((k : ℕ) (d : StoredStep) → k < length rows → x < (get_or rows k d).id.0) → is_marked rows x ≡ false
unmarked-above [] x above = refl
unmarked-above (r ∷ rows) x above =
    let here : x < r.id.0 = above 0 r (omega arith) in
    rw (ne_eqb r.id.0 x (λ e. omega arith)) (unmarked-above rows x (λ k d within. above (suc k) d (omega arith)))

pub is_marked-at : (rows : List StoredStep) (k : ℕ) (r : StoredStep) → AllPairs (λ q s. q.id.0 < s.id.0) rows → k < length rows → r ≡ get_or rows k r → is_marked rows r.id.0 ≡ r.needed
is_marked-at [] k r rising within is = absurd (omega arith)
is_marked-at (q ∷ rows) zero r rising within is =
    let none : is_marked rows r.id.0 ≡ false = unmarked-above rows r.id.0 (λ k d low. (let up : q.id.0 < (get_or rows k d).id.0 = rising 0 (suc k) d (omega arith) (omega arith) in rw is up)) in
    rw (← is, none, eq-eqb r.id.0 r.id.0 refl) (or-false r.needed)
is_marked-at (q ∷ rows) (suc k) r rising within is =
    let up : q.id.0 < (get_or rows k r).id.0 = rising 0 (suc k) r (omega arith) within in
    let same : r.id.0 ≡ (get_or rows k r).id.0 = ap (λ (p : StoredStep). p.id.0) is in
    rw (ne_eqb q.id.0 r.id.0 (λ e. omega arith)) (is_marked-at rows k r (λ i j d before low. rising (suc i) (suc j) d (omega arith) (omega arith)) (omega arith) is)

-- rows that are marked unless they are forgotten
pub AreSameRows-first : (rows : List StoredStep) → AreSameRows rows (map marked_unless_forgotten rows)
AreSameRows-first [] = refl
AreSameRows-first (r ∷ rows) = ap (λ qs. unmarked r ∷ qs) (AreSameRows-first rows)

-- rows of which those of the antecedents are marked, but for those that are left
pub record LeftToMark (start rows : List StoredStep) (all : List ℕ) (left : List ChainStep) : Type 0 where
  pub rising : AllPairs (λ r s. r.id.0 < s.id.0) rows
  pub have : All (HasRow rows) (map (λ s. s.antecedent) left)
  pub same : AreSameRows start rows
  pub marks : (x : ℕ) → (list_any (eqb x) (map (λ s. s.antecedent) left) || is_marked rows x) ≡ (list_any (eqb x) all || is_marked start x)

-- the first antecedent is marked
pub LeftToMark-first : (start rows : List StoredStep) (first : ℕ) (rest : List ChainStep) → AllPairs (λ r s. r.id.0 < s.id.0) start → All (HasRow start) (antecedents (Derived first rest)) → MarksMore (λ x. eqb x first) start rows → LeftToMark start rows (antecedents (Derived first rest)) rest
LeftToMark-first start rows first rest rising have more = record {
  rising = rising-same start rows more.same rising;
  have = λ k d within. HasRow-same start rows _ more.same (have (suc k) d (omega arith));
  same = more.same;
  marks = λ x. ap (λ m. list_any (eqb x) (map (λ s. s.antecedent) rest) || m) (more.marks x) ∙ or_moved (list_any (eqb x) (map (λ s. s.antecedent) rest)) (eqb x first) (is_marked start x);
}

-- one more of the others is
pub LeftToMark-more : (start rows after : List StoredStep) (all : List ℕ) (s : ChainStep) (left : List ChainStep) → LeftToMark start rows all (s ∷ left) → MarksMore (λ x. eqb x s.antecedent) rows after → LeftToMark start after all left
LeftToMark-more start rows after all s left before more = record {
  rising = rising-same rows after more.same before.rising;
  have = λ k d within. HasRow-same rows after _ more.same (before.have (suc k) d (omega arith));
  same = more.same ∙ before.same;
  marks = λ x. ap (λ m. list_any (eqb x) (map (λ s. s.antecedent) left) || m) (more.marks x) ∙ or_moved (list_any (eqb x) (map (λ s. s.antecedent) left)) (eqb x s.antecedent) (is_marked rows x) ∙ before.marks x;
}

none_part : (part : Option Part) → is_some part ≡ false → part ≡ None
none_part None is = refl
none_part (Some part) is = cc

-- the rows of steps that stand on one another
module _ (rows : List StoredStep) (bytes : List ℕ) (steps : List ToldStep) (chains : HaveChains rows bytes steps) where
  read : steps_in (all_literals steps) bytes rows ≡ steps
  read = read_stored rows (all_literals steps) bytes steps chains.stored

  pub rows_rise : AllPairs (λ r s. r.id.0 < s.id.0) rows
  rows_rise = rising_stored (all_literals steps) bytes rows (subst AreRising (sym read) chains.rising)

  pub as_many : length rows ≡ length steps
  as_many = sym (length-rows (all_literals steps) bytes rows) ∙ ap length read

  pub id_of_row : (k : ℕ) (d : ToldStep) (e : StoredStep) → k < length rows → (get_or steps k d).id ≡ (get_or rows k e).id.0
  id_of_row k d e within = ap (λ (qs : List ToldStep). (get_or qs k d).id) (sym read) ∙ id_at (all_literals steps) bytes rows k d e within

  pub have_rows : (k x : ℕ) (d : ToldStep) (e : StoredStep) → k < length steps → (get_or steps k d).id ≡ x → HasRow rows x
  have_rows k x d e within is = list_at rows k e x (omega (arith, as_many, within)) (sym (id_of_row k d e (omega (arith, as_many, within))) ∙ is)
    where
      list_at : (qs : List StoredStep) (i : ℕ) (q : StoredStep) (y : ℕ) → i < length qs → (get_or qs i q).id.0 ≡ y → HasRow qs y
      list_at [] i q y low at = absurd (omega arith)
      list_at (p ∷ qs) zero q y low at = rw (eq-eqb p.id.0 y at) refl
      list_at (p ∷ qs) (suc i) q y low at = or_right (eqb p.id.0 y) _ (list_at qs i q y (omega arith) at)

  -- a row, and the step whose it is
  module _ (place : ℕ) (e : StoredStep) (within : place < length rows) where
    abbrev r : StoredStep
    r = get_or rows place e

    is : r ≡ get_or rows place r
    is = get_or_default rows place e r within

    inside : place < length steps
    inside = omega (arith, within, as_many)

    same_id : (at : ToldStep) → slice_get steps place ≡ Some at → at.id ≡ r.id.0
    same_id at at_place = sym (ap (λ (s : ToldStep). s.id) (read_at at at_place)) ∙ id_of_row place at r within ∙ sym (ap (λ (q : StoredStep). q.id.0) is)
      where
        read_at : (s : ToldStep) → slice_get steps place ≡ Some s → get_or steps place s ≡ s
        read_at s here = same_Some (get_or steps place s) s (sym (slice_get-get_or steps place s inside) ∙ here)

    pub packed_at : is_some (get_or rows place e).part ≡ false → (packed : List ℕ) → IsAtPlace steps place (λ s. bytes_of s ≡ packed) → IsPackedChain (get_or rows place e).id.0 packed
    packed_at none packed at = row_packed steps place r.id.0 packed (row_derived rows (all_literals steps) bytes steps chains.stored place r within is (none_part r.part none) packed at)

    pub origin_at : is_some (get_or rows place e).part ≡ false → (packed : List ℕ) (first : ℕ) (rest : List ChainStep) → IsAtPlace steps place (λ s. bytes_of s ≡ packed)
        → ((f : ℕ) (more : List ChainStep) → IsPackable (get_or rows place e).id.0 f more → packed ≡ packed_chain (get_or rows place e).id.0 f more → (first ≡ f) × (rest ≡ more)) → IsAtPlace steps place (λ s. s.origin ≡ Derived first rest)
    origin_at none packed first rest at reading = derived_lent steps place r.id.0 packed first rest (row_derived rows (all_literals steps) bytes steps chains.stored place r within is (none_part r.part none) packed at) reading

    pub antecedents_have_rows : (first : ℕ) (rest : List ChainStep) → IsAtPlace steps place (λ s. s.origin ≡ Derived first rest) → All (HasRow rows) (antecedents (Derived first rest))
    antecedents_have_rows first rest at =
        let here : get_or steps place at.0 ≡ at.0 = same_Some (get_or steps place at.0) at.0 (sym (slice_get-get_or steps place at.0 inside) ∙ at.1) in
        let all : All (HasId steps) (antecedents (Derived first rest)) = subst (λ o. All (HasId steps) (antecedents o)) (ap (λ (s : ToldStep). s.origin) here ∙ at.2) (HasId-antecedents steps place at.0 chains.stand inside) in
        λ k d low. let p = has_place steps _ (all k d low) in have_rows p.0 _ at.0 r p.1 (p.2 at.0)

    pub marked_before : (after : List StoredStep) (first : ℕ) (rest : List ChainStep) → (get_or rows place e).needed ≡ true → IsAtPlace steps place (λ s. s.origin ≡ Derived first rest) → MarksMore (λ x. list_any (eqb x) (antecedents (Derived first rest))) rows after → AreMarkedFrom steps rows (place + 1) → AreMarkedFrom steps after place
    marked_before after first rest on at more back =
        let here : get_or steps place at.0 ≡ at.0 = same_Some (get_or steps place at.0) at.0 (sym (slice_get-get_or steps place at.0 inside) ∙ at.1) in
        let id_on : is_marked rows at.0.id ≡ true = ap (is_marked rows) (same_id at.0 at.1) ∙ is_marked-at rows place r rows_rise within is ∙ on in
        BackMarks-mark steps (IsUnforgotten steps) (IsInUse steps) (is_marked rows) (is_marked after) place at.0 chains.rising chains.stand inside here back (λ x used ante. (used.0, used.1, λ p root closed. closed at.0 x (place, inside, here) (used.2 p root closed) ante)) id_on (λ x. more.marks x ∙ ap (λ o. list_any (eqb x) (antecedents o) || is_marked rows x) (sym at.2))

    pub unmarked_before : (get_or rows place e).needed ≡ false → AreMarkedFrom steps rows (place + 1) → AreMarkedFrom steps rows place
    unmarked_before off back =
        BackMarks-skip steps (IsUnforgotten steps) (IsInUse steps) (is_marked rows) place back (λ d. ap (is_marked rows) (id_of_row place d r within ∙ sym (ap (λ (q : StoredStep). q.id.0) is)) ∙ is_marked-at rows place r rows_rise within is ∙ off)

    original_before : (part : Part) → r.part ≡ Some part → AreMarkedFrom steps rows (place + 1) → AreMarkedFrom steps rows place
    original_before part some back =
        let at : ToldStep = get_or steps place no_step in
        let o = row_original rows (all_literals steps) bytes steps chains.stored place r within is part some at.literals (at, slice_get-get_or steps place no_step inside, refl) in
        let origin : at.origin ≡ Original part.0 = ap (λ (s : ToldStep). s.origin) (same_Some at o.0 (sym (slice_get-get_or steps place no_step inside) ∙ o.1)) ∙ o.2.0 in
        BackMarks-alone steps (IsUnforgotten steps) (IsInUse steps) (is_marked rows) place back (λ d. ap (λ (s : ToldStep). antecedents s.origin) (get_or_default steps place d no_step inside) ∙ ap antecedents origin)

    part_cases : (part : Option Part) → r.part ≡ part → is_some part ≡ true → AreMarkedFrom steps rows (place + 1) → AreMarkedFrom steps rows place
    part_cases None is_part off back = absurd (let no : false ≡ true = off in cc)
    part_cases (Some part) is_part off back = original_before part is_part back

    pub part_before : is_some (get_or rows place e).part ≡ true → AreMarkedFrom steps rows (place + 1) → AreMarkedFrom steps rows place
    part_before off back = part_cases r.part refl off back

  -- at first the rows are marked that aren't forgotten
  pub AreMarkedFrom-first : (before : List StoredStep) → rows ≡ map marked_unless_forgotten before → AreMarkedFrom steps rows (length steps)
  AreMarkedFrom-first before is =
      let marks : (x : ℕ) → is_marked rows x ≡ list_any (λ (s : ToldStep). eqb s.id x && not s.forgotten) steps = λ x. ap (λ qs. is_marked qs x) is ∙ first_marks before x 0 0 steps (subst (λ qs. AreRows 0 0 qs steps) is chains.stored.rows_are) in
      BackMarks-first steps (IsUnforgotten steps) (IsInUse steps) (is_marked rows) (λ x alive. marks x ∙ alive) (λ x on. (x, sym (marks x) ∙ on, IsNeeded-root steps x))
    where
      first_marks : (qs : List StoredStep) (x l b : ℕ) (ss : List ToldStep) → AreRows l b (map marked_unless_forgotten qs) ss → is_marked (map marked_unless_forgotten qs) x ≡ list_any (λ (s : ToldStep). eqb s.id x && not s.forgotten) ss
      first_marks [] x l b [] are = refl
      first_marks [] x l b (s ∷ ss) are = absurd are
      first_marks (q ∷ qs) x l b [] are = absurd are
      first_marks (q ∷ qs) x l b (s ∷ ss) are = rw (are.0.id, are.0.forgotten, first_marks qs x _ _ ss are.1) refl

-- the walk from the last row to the first begins
pub marked_last : (rows new : List StoredStep) (bytes : List ℕ) (steps : List ToldStep) → new ≡ map marked_unless_forgotten rows → HaveChains rows bytes steps → AreMarkedFrom steps new (length new)
marked_last rows new bytes steps is chains =
    let same : AreSameRows rows new = subst (AreSameRows rows) (sym is) (AreSameRows-first rows) in
    let after = HaveChains-same rows new bytes steps same chains in
    subst (AreMarkedFrom steps new) (sym (as_many new bytes steps after)) (AreMarkedFrom-first new bytes steps after rows is)

-- the steps whose rows are marked are those whose ids are
marked_steps-cases : (b c : Bool) (s : ToldStep) (xs ys : List ToldStep) → b ≡ c → xs ≡ ys → cond b (s ∷ xs) xs ≡ cond c (s ∷ ys) ys
marked_steps-cases b c s xs ys same rest = λ i. cond (same i) (s ∷ rest i) (rest i)

marked_below : (r : StoredStep) (rows : List StoredStep) (ss : List ToldStep) (l b : ℕ) → AllPairs (λ p q. p.id.0 < q.id.0) (r ∷ rows) → AreRows l b rows ss → filter (λ (s : ToldStep). is_marked (r ∷ rows) s.id) ss ≡ filter (λ (s : ToldStep). is_marked rows s.id) ss
marked_below r rows ss l b rising are = filter-same _ _ ss (λ s here. (let p = above rows ss l b are here in let up : r.id.0 < (get_or rows p.0 r).id.0 = rising 0 (suc p.0) r (omega arith) (omega (arith, p.1)) in let is : (get_or rows p.0 r).id.0 ≡ s.id = p.2 in rw (ne_eqb r.id.0 s.id (λ e. omega arith)) refl))
  where
    above : (qs : List StoredStep) (ts : List ToldStep) (m n : ℕ) → AreRows m n qs ts → {s : ToldStep} → Contains ts s → (k : ℕ) × (k < length qs) × ((get_or qs k r).id.0 ≡ s.id)
    above [] [] m n are here = absurd (let no : here.0 < 0 = here.1 in omega arith)
    above [] (t ∷ ts) m n are here = absurd are
    above (q ∷ qs) [] m n are here = absurd are
    above (q ∷ qs) (t ∷ ts) m n are (zero, within, at) = (0, omega arith, are.0.id ∙ ap (λ (p : ToldStep). p.id) at)
    above (q ∷ qs) (t ∷ ts) m n are (suc k, within, at) = let p = above qs ts _ _ are.1 (k, omega arith, at) in (suc p.0, omega (arith, p.1), p.2)

pub marked_steps-filter : (rows : List StoredStep) (steps : List ToldStep) (l b : ℕ) → AllPairs (λ p q. p.id.0 < q.id.0) rows → AreRows l b rows steps → marked_steps rows steps ≡ filter (λ (s : ToldStep). is_marked rows s.id) steps
marked_steps-filter [] [] l b rising are = refl
marked_steps-filter [] (s ∷ steps) l b rising are = absurd are
marked_steps-filter (r ∷ rows) [] l b rising are = refl
marked_steps-filter (r ∷ rows) (s ∷ steps) l b rising are =
    let tail : AllPairs (λ p q. p.id.0 < q.id.0) rows = λ i j d before within. rising (suc i) (suc j) d (omega arith) (omega arith) in
    let here : is_marked (r ∷ rows) s.id ≡ r.needed = ap (is_marked (r ∷ rows)) (sym are.0.id) ∙ is_marked-at (r ∷ rows) 0 r rising (omega arith) refl in
    let later = marked_steps-filter rows steps _ _ tail are.1 ∙ sym (marked_below r rows steps _ _ rising are.1) in
    marked_steps-cases r.needed (is_marked (r ∷ rows) s.id) s (marked_steps rows steps) (filter (λ (q : ToldStep). is_marked (r ∷ rows) q.id) steps) (sym here) later

-- what is given up where the marked steps are left
pub reclaims_unmarked : (rows : List StoredStep) (bytes : List ℕ) (steps left : List ToldStep) (greatest : Option ℕ) → HaveChains rows bytes steps → AreMarkedFrom steps rows 0 → left ≡ marked_steps rows steps → Reclaims (record { greatest = greatest; steps = steps }) (record { greatest = greatest; steps = left })
reclaims_unmarked rows bytes steps left greatest chains marked is =
    let closed = BackMarks-closed steps (IsUnforgotten steps) (IsInUse steps) (is_marked rows) marked in
    record {
      greatest = refl;
      kept = λ s. is_marked rows s.id;
      steps = is ∙ marked_steps-filter rows steps 0 0 (rows_rise rows bytes steps chains) chains.stored.rows_are;
      closed = λ s r here there on ante. closed s r.id here on ante;
      needed = λ s id here alive needed. needed (is_marked rows) (marked.rooted id alive) closed;
    }

pub left_in_use : (rows : List StoredStep) (bytes : List ℕ) (steps left : List ToldStep) → HaveChains rows bytes steps → AreMarkedFrom steps rows 0 → left ≡ marked_steps rows steps → AreAllInUse steps left
left_in_use rows bytes steps left chains marked is s here =
    let there : Contains (filter (λ (q : ToldStep). is_marked rows q.id) steps) s = subst (λ (xs : List ToldStep). Contains xs s) (is ∙ marked_steps-filter rows steps 0 0 (rows_rise rows bytes steps chains) chains.stored.rows_are) here in
    let passes = filter_passes (λ (q : ToldStep). is_marked rows q.id) steps there.0 s there.1 in
    marked.reached s.id (subst (λ (q : ToldStep). is_marked rows q.id ≡ true) there.2 passes)
