-- The rows of kept steps, over the literals and bytes of all.
use Rattle.std.proofs.Common.{◌≡◌, ℕ, zero, suc, ◌+◌, ◌-◌, ◌<◌, ◌≤◌, true, false, List, [], ◌∷◌, ◌++◌, length, get_or, set, take, drop, map, All, AllPairs, Option, Some, None, slice_get, append_assoc, append-nil, length-append, refl, sym, ◌∙◌, ap, subst, arith}
use Rattle.std.specs.Option.{option_map}
use Rattle.std.proofs.lemmas.Grind.{flat_map-append}
use Rattle.std.proofs.lemmas.List.{get_or_default}
use Rattle.std.proofs.lemmas.List.Prefix.{front_rest}
use Rattle.std.proofs.lemmas.Option.{same_Some, slice_get-get_or}
use Rattle.std.proofs.Math.Seq.{take-append_seam}
use Rattle.craig_spec.specs.Literal.{Clause}
use Rattle.craig_spec.specs.Chain.{AreRising, ChainStep, Origin, Original, Derived, ToldStep, forgotten_at}
use Rattle.craig_spec.specs.PackedChain.{AreBefore, packed_chain, packed_origin}
use Rattle.craig_spec.proofs.PackedChainLemmas.{chain_of-packed}
use Rattle.craig_base.specs.declared.clause_id.ClauseId.{ClauseId}
use Rattle.craig_base.specs.declared.script_part.Part.{Part}
use Rattle.craig_proof.specs.Lent.{IsAtPlace}
use Rattle.craig_proof.specs.NeededSteps.{HasId}
use Rattle.craig_proof.specs.PackedSteps.{ArePivotsSmall, IsPackable, IsPackedChain}
use Rattle.craig_proof.specs.StoredSteps.{AreRows, AreStored, CanBePacked, IsRow, all_bytes, all_literals, between, bytes_of, first_start, no_step, origin_in, part_of, step_in, steps_in}
use Rattle.craig_proof.specs.Tracer.{chain_of, derived_step, original_step}
use Rattle.craig_proof.specs.declared.step.Step.{Step}
use Rattle.craig_proof.specs.declared.stored_step.StoredStep.{StoredStep}
use Rattle.craig_proof.proofs.ToldLemmas.{has_place, same_but_mark, set-forgotten}

-- a part between two others
pub cut_out : {A : Type 0} (before xs behind all : List A) (start «end» : ℕ) → all ≡ before ++ (xs ++ behind) → start ≡ length before → «end» ≡ length before + length xs → between all start «end» ≡ xs
cut_out before xs behind all start «end» is from to =
    let dropped : drop start all ≡ xs ++ behind = ap (λ n. drop n all) from ∙ front_rest all before (xs ++ behind) is in
    let long : «end» - start ≡ length xs = omega arith in
    ap (λ ys. take («end» - start) ys) dropped ∙ ap (λ n. take n (xs ++ behind)) long ∙ take-append_seam xs behind

-- where the rows of steps begin
pub first_literals : (l b all : ℕ) (rows : List StoredStep) (steps : List ToldStep) → AreRows l b rows steps → all ≡ l + length (all_literals steps) → first_start (λ r. r.literals) rows all ≡ l
first_literals l b all [] [] are is = omega arith
first_literals l b all [] (s ∷ steps) are is = absurd are
first_literals l b all (r ∷ rows) [] are is = absurd are
first_literals l b all (r ∷ rows) (s ∷ steps) are is = are.0.literals_at

pub first_bytes : (l b all : ℕ) (rows : List StoredStep) (steps : List ToldStep) → AreRows l b rows steps → all ≡ b + length (all_bytes steps) → first_start (λ r. r.bytes) rows all ≡ b
first_bytes l b all [] [] are is = omega arith
first_bytes l b all [] (s ∷ steps) are is = absurd are
first_bytes l b all (r ∷ rows) [] are is = absurd are
first_bytes l b all (r ∷ rows) (s ∷ steps) are is = are.0.bytes_at

-- the origin of a row is that of its step
read_origin : (id : ℕ) (part : Option Part) (origin : Origin) → option_map (λ p. p.0) part ≡ part_of origin → CanBePacked id origin → origin_in id (packed_origin id origin) part ≡ origin
read_origin id (Some part) (Original p) same packable = let e : part.0 ≡ p = cc in ap Original e
read_origin id (Some part) (Derived first rest) same packable = cc
read_origin id None (Original p) same packable = cc
read_origin id None (Derived first rest) same packable = chain_of-packed id first rest packable.first_before packable.before

-- the step of a row is its step
pub read_row : (l b : ℕ) (r : StoredStep) (s : ToldStep) → IsRow l b r s → step_in s.literals (bytes_of s) r ≡ s
read_row l b r s row =
    let origin : origin_in r.id.0 (bytes_of s) r.part ≡ s.origin = rw row.id (read_origin s.id r.part s.origin row.part row.packable) in
    λ i. record { id = row.id i; literals = s.literals; origin = origin i; forgotten = row.forgotten i }

pub read_rows : (l : Clause) (b : List ℕ) (rows : List StoredStep) (steps : List ToldStep) → AreRows (length l) (length b) rows steps → steps_in (l ++ all_literals steps) (b ++ all_bytes steps) rows ≡ steps
read_rows l b [] [] are = refl
read_rows l b [] (s ∷ steps) are = absurd are
read_rows l b (r ∷ rows) [] are = absurd are
read_rows l b (r ∷ rows) (s ∷ steps) are =
    let later = read_rows (l ++ s.literals) (b ++ bytes_of s) rows steps (rw (length-append l s.literals, length-append b (bytes_of s)) are.1) in
    let behind : steps_in (l ++ (s.literals ++ all_literals steps)) (b ++ (bytes_of s ++ all_bytes steps)) rows ≡ steps = rw (append_assoc l s.literals (all_literals steps), append_assoc b (bytes_of s) (all_bytes steps)) at later in
    let l_end : first_start (λ q. q.literals) rows (length (l ++ (s.literals ++ all_literals steps))) ≡ length l + length s.literals = first_literals _ _ _ rows steps are.1 (simp length-append (omega arith)) in
    let b_end : first_start (λ q. q.bytes) rows (length (b ++ (bytes_of s ++ all_bytes steps))) ≡ length b + length (bytes_of s) = first_bytes _ _ _ rows steps are.1 (simp length-append (omega arith)) in
    let literals = cut_out l s.literals (all_literals steps) _ r.literals _ refl are.0.literals_at l_end in
    let bytes = cut_out b (bytes_of s) (all_bytes steps) _ r.bytes _ refl are.0.bytes_at b_end in
    let bs = between (b ++ (bytes_of s ++ all_bytes steps)) r.bytes (first_start (λ q. q.bytes) rows (length (b ++ (bytes_of s ++ all_bytes steps)))) in
    let head = ap (λ (ls : Clause). step_in ls bs r) literals ∙ ap (λ (xs : List ℕ). step_in s.literals xs r) bytes ∙ read_row _ _ r s are.0 in
    let rest = steps_in (l ++ (s.literals ++ all_literals steps)) (b ++ (bytes_of s ++ all_bytes steps)) rows in
    ap (λ (q : ToldStep). q ∷ rest) head ∙ ap (λ (qs : List ToldStep). s ∷ qs) behind

-- the steps that are read are those that are kept
pub read_stored : (rows : List StoredStep) (literals : Clause) (bytes : List ℕ) (steps : List ToldStep) → AreStored rows literals bytes steps → steps_in literals bytes rows ≡ steps
read_stored rows literals bytes steps stored = rw (stored.literals_are, stored.bytes_are) (read_rows [] [] rows steps stored.rows_are)

pub stored_same : (rows : List StoredStep) (literals : Clause) (bytes : List ℕ) (steps : List ToldStep) → AreStored rows literals bytes steps → AreStored rows literals bytes (steps_in literals bytes rows)
stored_same rows literals bytes steps stored = rw (read_stored rows literals bytes steps stored) stored

-- a row more
pub AreRows-more : (l b : ℕ) (rows : List StoredStep) (steps : List ToldStep) (r : StoredStep) (s : ToldStep) → AreRows l b rows steps → IsRow (l + length (all_literals steps)) (b + length (all_bytes steps)) r s → AreRows l b (rows ++ r ∷ []) (steps ++ s ∷ [])
AreRows-more l b [] [] r s are row =
    let l_is : l + 0 ≡ l = omega arith in
    let b_is : b + 0 ≡ b = omega arith in
    (subst (λ n. IsRow n b r s) l_is (subst (λ n. IsRow (l + 0) n r s) b_is row), tt)
AreRows-more l b [] (q ∷ steps) r s are row = absurd are
AreRows-more l b (q ∷ rows) [] r s are row = absurd are
AreRows-more l b (q ∷ rows) (p ∷ steps) r s are row =
    let l_is : l + length (p.literals ++ all_literals steps) ≡ l + length p.literals + length (all_literals steps) = simp length-append (omega arith) in
    let b_is : b + length (bytes_of p ++ all_bytes steps) ≡ b + length (bytes_of p) + length (all_bytes steps) = simp length-append (omega arith) in
    (are.0, AreRows-more (l + length p.literals) (b + length (bytes_of p)) rows steps r s are.1 (rw (l_is, b_is) at row))

pub stored_more : (rows : List StoredStep) (literals : Clause) (bytes : List ℕ) (steps : List ToldStep) (r : StoredStep) (s : ToldStep) → AreStored rows literals bytes steps → IsRow (length literals) (length bytes) r s → AreStored (rows ++ r ∷ []) (literals ++ s.literals) (bytes ++ bytes_of s) (steps ++ s ∷ [])
stored_more rows literals bytes steps r s stored row = record {
  rows_are =
      let l_is : length literals ≡ 0 + length (all_literals steps) = omega (arith, ap length stored.literals_are) in
      let b_is : length bytes ≡ 0 + length (all_bytes steps) = omega (arith, ap length stored.bytes_are) in
      AreRows-more 0 0 rows steps r s stored.rows_are (subst (λ n. IsRow n (0 + length (all_bytes steps)) r s) l_is (subst (λ n. IsRow (length literals) n r s) b_is row));
  literals_are = ap (λ xs. xs ++ s.literals) stored.literals_are ∙ ap (λ xs. all_literals steps ++ xs) (sym (append-nil s.literals)) ∙ sym (flat_map-append (λ (q : ToldStep). q.literals) steps (s ∷ []));
  bytes_are = ap (λ xs. xs ++ bytes_of s) stored.bytes_are ∙ ap (λ xs. all_bytes steps ++ xs) (sym (append-nil (bytes_of s))) ∙ sym (flat_map-append bytes_of steps (s ∷ []));
}

-- the step of a row, and where its literals and bytes lie
pub record RowAt (l b : ℕ) (rows : List StoredStep) (steps : List ToldStep) (k : ℕ) (r : StoredStep) : Type 0 where
  pub step : ToldStep
  pub at : slice_get steps k ≡ Some step
  pub literals_before : Clause
  pub literals_behind : Clause
  pub literals_are : all_literals steps ≡ literals_before ++ (step.literals ++ literals_behind)
  pub literals_end : (all : ℕ) → all ≡ l + length (all_literals steps) → first_start (λ q. q.literals) (drop (suc k) rows) all ≡ l + length literals_before + length step.literals
  pub bytes_before : List ℕ
  pub bytes_behind : List ℕ
  pub bytes_are : all_bytes steps ≡ bytes_before ++ (bytes_of step ++ bytes_behind)
  pub bytes_end : (all : ℕ) → all ≡ b + length (all_bytes steps) → first_start (λ q. q.bytes) (drop (suc k) rows) all ≡ b + length bytes_before + length (bytes_of step)
  pub row : IsRow (l + length literals_before) (b + length bytes_before) r step

pub row_at : (l b : ℕ) (rows : List StoredStep) (steps : List ToldStep) (k : ℕ) (r : StoredStep) → AreRows l b rows steps → k < length rows → r ≡ get_or rows k r → RowAt l b rows steps k r
row_at l b [] steps k r are within is = absurd (omega arith)
row_at l b (q ∷ rows) [] k r are within is = absurd are
row_at l b (q ∷ rows) (s ∷ steps) zero r are within is = record {
  step = s;
  at = refl;
  literals_before = [];
  literals_behind = all_literals steps;
  literals_are = refl;
  literals_end = λ all total. first_literals (l + length s.literals) (b + length (bytes_of s)) all rows steps are.1 (omega (arith, total, length-append s.literals (all_literals steps))) ∙ omega arith;
  bytes_before = [];
  bytes_behind = all_bytes steps;
  bytes_are = refl;
  bytes_end = λ all total. first_bytes (l + length s.literals) (b + length (bytes_of s)) all rows steps are.1 (omega (arith, total, length-append (bytes_of s) (all_bytes steps))) ∙ omega arith;
  row = rw is (subst (λ n. IsRow n (b + 0) q s) (sym (let z : l + 0 ≡ l = omega arith in z)) (subst (λ n. IsRow l n q s) (sym (let z : b + 0 ≡ b = omega arith in z)) are.0));
}
row_at l b (q ∷ rows) (s ∷ steps) (suc k) r are within is =
    let later = row_at (l + length s.literals) (b + length (bytes_of s)) rows steps k r are.1 (omega arith) is in
    let l_is : l + length s.literals + length later.literals_before ≡ l + length (s.literals ++ later.literals_before) = simp length-append (omega arith) in
    let b_is : b + length (bytes_of s) + length later.bytes_before ≡ b + length (bytes_of s ++ later.bytes_before) = simp length-append (omega arith) in
    record {
      step = later.step;
      at = later.at;
      literals_before = s.literals ++ later.literals_before;
      literals_behind = later.literals_behind;
      literals_are = ap (λ xs. s.literals ++ xs) later.literals_are ∙ sym (append_assoc s.literals later.literals_before (later.step.literals ++ later.literals_behind));
      literals_end = λ all total. later.literals_end all (omega (arith, total, length-append s.literals (all_literals steps))) ∙ ap (λ n. n + length later.step.literals) l_is;
      bytes_before = bytes_of s ++ later.bytes_before;
      bytes_behind = later.bytes_behind;
      bytes_are = ap (λ xs. bytes_of s ++ xs) later.bytes_are ∙ sym (append_assoc (bytes_of s) later.bytes_before (bytes_of later.step ++ later.bytes_behind));
      bytes_end = λ all total. later.bytes_end all (omega (arith, total, length-append (bytes_of s) (all_bytes steps))) ∙ ap (λ n. n + length (bytes_of later.step)) b_is;
      row = subst (λ n. IsRow n (b + length (bytes_of s ++ later.bytes_before)) r later.step) l_is (subst (λ n. IsRow (l + length s.literals + length later.literals_before) n r later.step) b_is later.row);
    }

-- there are as many rows as steps
pub length-rows : (literals : Clause) (bytes : List ℕ) (rows : List StoredStep) → length (steps_in literals bytes rows) ≡ length rows
length-rows literals bytes [] = refl
length-rows literals bytes (r ∷ rows) = ap suc (length-rows literals bytes rows)

-- with the same ids
pub ids-rows : (literals : Clause) (bytes : List ℕ) (rows : List StoredStep) → map (λ (s : ToldStep). s.id) (steps_in literals bytes rows) ≡ map (λ (r : StoredStep). r.id.0) rows
ids-rows literals bytes [] = refl
ids-rows literals bytes (r ∷ rows) = ap (λ ids. r.id.0 ∷ ids) (ids-rows literals bytes rows)

pub id_at : (literals : Clause) (bytes : List ℕ) (rows : List StoredStep) (k : ℕ) (d : ToldStep) (e : StoredStep) → k < length rows → (get_or (steps_in literals bytes rows) k d).id ≡ (get_or rows k e).id.0
id_at literals bytes [] k d e within = absurd (omega arith)
id_at literals bytes (r ∷ rows) zero d e within = refl
id_at literals bytes (r ∷ rows) (suc k) d e within = id_at literals bytes rows k d e (omega arith)

-- so their ids rise
pub rising_stored : (literals : Clause) (bytes : List ℕ) (rows : List StoredStep) → AreRising (steps_in literals bytes rows) → AllPairs (λ r s. r.id.0 < s.id.0) rows
rising_stored literals bytes rows rising i j e before within =
    let inside : j < length (steps_in literals bytes rows) = rw length-rows within in
    let up = rising i j no_step before inside in
    let one = id_at literals bytes rows i no_step e (omega arith) in
    let two = id_at literals bytes rows j no_step e within in
    omega (arith, one, two, up)

-- the place of an id
pub place_stored : (literals : Clause) (bytes : List ℕ) (rows : List StoredStep) (id r : ℕ) → ((k : ℕ) (d : StoredStep) → k < length rows → (get_or rows k d).id.0 ≡ id → r ≡ k) → HasId (steps_in literals bytes rows) id → (r < length rows) × ((d : ToldStep) → (get_or (steps_in literals bytes rows) r d).id ≡ id)
place_stored literals bytes [] id r found has = absurd (cc)
place_stored literals bytes (q ∷ rows) id r found has =
    let p = has_place (steps_in literals bytes (q ∷ rows)) id has in
    let within : p.0 < length (q ∷ rows) = rw length-rows at p.1 in
    let at : (get_or (q ∷ rows) p.0 q).id.0 ≡ id = sym (id_at literals bytes (q ∷ rows) p.0 no_step q within) ∙ p.2 no_step in
    let is : r ≡ p.0 = found p.0 q within at in
    rw is (within, p.2)

pub at_stored : (steps : List ToldStep) (id r : ℕ) → r < length steps → ((d : ToldStep) → (get_or steps r d).id ≡ id) → IsAtPlace steps r (λ s. s.id ≡ id)
at_stored steps id r within at = (get_or steps r no_step, slice_get-get_or steps r no_step within, at no_step)

original_cases : (origin : Origin) (part : Part) → part_of origin ≡ Some part.0 → origin ≡ Original part.0
original_cases (Original p) part e = let same : p ≡ part.0 = cc in ap Original same
original_cases (Derived first rest) part e = cc

derived_cases : (id : ℕ) (origin : Origin) → part_of origin ≡ None → CanBePacked id origin → (packed : List ℕ) → packed_origin id origin ≡ packed → (first : ℕ) × (rest : List ChainStep) × (origin ≡ Derived first rest) × IsPackable id first rest × (packed ≡ packed_chain id first rest)
derived_cases id (Original p) e packable packed is = cc
derived_cases id (Derived first rest) e packable packed is = (first, rest, refl, packable, sym is)

-- the chain of a row, and its bytes
pub record DerivedRow (steps : List ToldStep) (k id : ℕ) (packed : List ℕ) : Type 0 where
  pub step : ToldStep
  pub at : slice_get steps k ≡ Some step
  pub first : ℕ
  pub rest : List ChainStep
  pub origin_is : step.origin ≡ Derived first rest
  pub packable : IsPackable id first rest
  pub bytes_are : packed ≡ packed_chain id first rest

-- how a part of all lies that is a step's
pub record PartLies {A : Type 0} (steps : List ToldStep) (k : ℕ) (all : List A) (part : ToldStep → List A) (start «end» : ℕ) : Type 0 where
  pub start_le : start ≤ «end»
  pub within : «end» ≤ length all
  pub at : IsAtPlace steps k (λ s. part s ≡ between all start «end»)

-- the literals and bytes of a row
module _ (rows : List StoredStep) (literals : Clause) (bytes : List ℕ) (steps : List ToldStep) (stored : AreStored rows literals bytes steps) (k : ℕ) (r : StoredStep) (within : k < length rows) (is : r ≡ get_or rows k r) where
  here : RowAt 0 0 rows steps k r
  here = row_at 0 0 rows steps k r stored.rows_are within is

  next_is : k + 1 ≡ suc k
  next_is = omega arith

  pub literals_lie : («end» all : ℕ) → all ≡ length literals → «end» ≡ first_start (λ q. q.literals) (drop (k + 1) rows) all → PartLies steps k literals (λ s. s.literals) r.literals «end»
  literals_lie «end» all total end_is =
      let h = here in
      let ends : «end» ≡ 0 + length h.literals_before + length h.step.literals = end_is ∙ ap (λ n. first_start (λ q. q.literals) (drop n rows) all) next_is ∙ h.literals_end all (total ∙ omega (arith, ap length stored.literals_are)) in
      let starts : r.literals ≡ 0 + length h.literals_before = h.row.literals_at in
      let long : length literals ≡ length h.literals_before + (length h.step.literals + length h.literals_behind) = ap length (stored.literals_are ∙ h.literals_are) ∙ simp length-append in
      record {
        start_le = omega (arith, ends, starts);
        within = omega (arith, ends, long);
        at = (h.step, h.at, sym (cut_out h.literals_before h.step.literals h.literals_behind literals r.literals «end» (stored.literals_are ∙ h.literals_are) (omega (arith, starts)) (omega (arith, ends))));
      }

  pub bytes_lie : («end» all : ℕ) → all ≡ length bytes → «end» ≡ first_start (λ q. q.bytes) (drop (k + 1) rows) all → PartLies steps k bytes bytes_of r.bytes «end»
  bytes_lie «end» all total end_is =
      let h = here in
      let ends : «end» ≡ 0 + length h.bytes_before + length (bytes_of h.step) = end_is ∙ ap (λ n. first_start (λ q. q.bytes) (drop n rows) all) next_is ∙ h.bytes_end all (total ∙ omega (arith, ap length stored.bytes_are)) in
      let starts : r.bytes ≡ 0 + length h.bytes_before = h.row.bytes_at in
      let long : length bytes ≡ length h.bytes_before + (length (bytes_of h.step) + length h.bytes_behind) = ap length (stored.bytes_are ∙ h.bytes_are) ∙ simp length-append in
      record {
        start_le = omega (arith, ends, starts);
        within = omega (arith, ends, long);
        at = (h.step, h.at, sym (cut_out h.bytes_before (bytes_of h.step) h.bytes_behind bytes r.bytes «end» (stored.bytes_are ∙ h.bytes_are) (omega (arith, starts)) (omega (arith, ends))));
      }

  pub row_id : IsAtPlace steps k (λ s. s.id ≡ r.id.0)
  row_id = (here.step, here.at, sym here.row.id)

  -- the row of an original
  pub row_original : (part : Part) → r.part ≡ Some part → (lits : Clause) → IsAtPlace steps k (λ s. s.literals ≡ lits) → IsAtPlace steps k (λ s. (s.origin ≡ Original part.0) × (s.literals ≡ lits))
  row_original part some lits at =
      let same : here.step ≡ at.0 = same_Some here.step at.0 (sym here.at ∙ at.1) in
      (here.step, here.at, (original_cases here.step.origin part (sym here.row.part ∙ ap (option_map (λ p. p.0)) some), ap (λ (s : ToldStep). s.literals) same ∙ at.2))

  -- the row of a derived clause
  pub row_derived : r.part ≡ None → (packed : List ℕ) → IsAtPlace steps k (λ s. bytes_of s ≡ packed) → DerivedRow steps k r.id.0 packed
  row_derived none packed at =
      let same : here.step ≡ at.0 = same_Some here.step at.0 (sym here.at ∙ at.1) in
      let d = derived_cases here.step.id here.step.origin (sym here.row.part ∙ ap (option_map (λ p. p.0)) none) here.row.packable packed (ap bytes_of same ∙ at.2) in
      record {
        step = here.step;
        at = here.at;
        first = d.0;
        rest = d.1;
        origin_is = d.2;
        packable = subst (λ n. IsPackable n d.0 d.1) (sym here.row.id) d.3;
        bytes_are = subst (λ n. packed ≡ packed_chain n d.0 d.1) (sym here.row.id) d.4;
      }

-- an original more
pub stored_original : (rows : List StoredStep) (literals : Clause) (bytes : List ℕ) (steps : List ToldStep) (id : ClauseId) (part : Part) (lits : Clause) (l b : ℕ) → l ≡ length literals → b ≡ length bytes → AreStored rows literals bytes steps
    → AreStored (rows ++ record { id = id; literals = l; bytes = b; part = Some part; forgotten = false; needed = false } ∷ []) (literals ++ lits) bytes (steps ++ original_step id.0 part.0 lits ∷ [])
stored_original rows literals bytes steps id part lits l b l_is b_is stored =
    let row : IsRow (length literals) (length bytes) (record { id = id; literals = l; bytes = b; part = Some part; forgotten = false; needed = false }) (original_step id.0 part.0 lits) = record { id = refl; literals_at = l_is; bytes_at = b_is; part = refl; forgotten = refl; packable = tt } in
    subst (λ bs. AreStored (rows ++ record { id = id; literals = l; bytes = b; part = Some part; forgotten = false; needed = false } ∷ []) (literals ++ lits) bs (steps ++ original_step id.0 part.0 lits ∷ [])) (append-nil bytes) (stored_more rows literals bytes steps _ (original_step id.0 part.0 lits) stored row)

-- a derived clause more
pub stored_derived : (rows : List StoredStep) (literals : Clause) (bytes : List ℕ) (steps : List ToldStep) (id first : ClauseId) (lits : Clause) (rest : List Step) (l b : ℕ) → l ≡ length literals → b ≡ length bytes → IsPackable id.0 first.0 (chain_of rest) → AreStored rows literals bytes steps
    → AreStored (rows ++ record { id = id; literals = l; bytes = b; part = None; forgotten = false; needed = false } ∷ []) (literals ++ lits) (bytes ++ packed_chain id.0 first.0 (chain_of rest)) (steps ++ derived_step id.0 lits first.0 rest ∷ [])
stored_derived rows literals bytes steps id first lits rest l b l_is b_is packable stored =
    let row : IsRow (length literals) (length bytes) (record { id = id; literals = l; bytes = b; part = None; forgotten = false; needed = false }) (derived_step id.0 lits first.0 rest) = record { id = refl; literals_at = l_is; bytes_at = b_is; part = refl; forgotten = refl; packable = packable } in
    stored_more rows literals bytes steps _ (derived_step id.0 lits first.0 rest) stored row

before_of : (id : ℕ) (rest : List Step) → All (λ (s : Step). s.antecedent.0 < id) rest → AreBefore id (chain_of rest)
before_of id [] all k d within = absurd (omega arith)
before_of id (s ∷ rest) all zero d within = all 0 s (omega arith)
before_of id (s ∷ rest) all (suc k) d within = before_of id rest (λ j e low. all (suc j) e (omega arith)) k d (omega arith)

pub packable_of : (id first : ℕ) (rest : List Step) → first < id → All (λ (s : Step). s.antecedent.0 < id) rest → ArePivotsSmall (chain_of rest) → IsPackable id first (chain_of rest)
packable_of id first rest low all small = record { first_before = low; before = before_of id rest all; small = small }

-- a mark that is set
rows_marked : (l b : ℕ) (rows : List StoredStep) (steps : List ToldStep) (k : ℕ) (r : StoredStep) (v : ToldStep) → AreRows l b rows steps → k < length rows → r ≡ get_or rows k r → ((d : ToldStep) → v ≡ record { id = (get_or steps k d).id; literals = (get_or steps k d).literals; origin = (get_or steps k d).origin; forgotten = true })
    → AreRows l b (set rows k (record { id = r.id; literals = r.literals; bytes = r.bytes; part = r.part; forgotten = true; needed = r.needed })) (set steps k v)
rows_marked l b [] steps k r v are within is now = absurd (omega arith)
rows_marked l b (q ∷ rows) [] k r v are within is now = absurd are
rows_marked l b (q ∷ rows) (s ∷ steps) zero r v are within is now =
    rw (now s, is) (record { id = are.0.id; literals_at = are.0.literals_at; bytes_at = are.0.bytes_at; part = are.0.part; forgotten = refl; packable = are.0.packable }, are.1)
rows_marked l b (q ∷ rows) (s ∷ steps) (suc k) r v are within is now = (are.0, rows_marked (l + length s.literals) (b + length (bytes_of s)) rows steps k r v are.1 (omega arith) is now)

literals_marked : (id : ℕ) (steps : List ToldStep) → all_literals (map (forgotten_at id) steps) ≡ all_literals steps
literals_marked id [] = refl
literals_marked id (s ∷ steps) = ap (λ ls. ls ++ all_literals (map (forgotten_at id) steps)) (same_but_mark id s).1 ∙ ap (λ ls. s.literals ++ ls) (literals_marked id steps)

bytes_marked : (id : ℕ) (steps : List ToldStep) → all_bytes (map (forgotten_at id) steps) ≡ all_bytes steps
bytes_marked id [] = refl
bytes_marked id (s ∷ steps) =
    let here : bytes_of (forgotten_at id s) ≡ bytes_of s = ap (λ n. packed_origin n (forgotten_at id s).origin) (same_but_mark id s).0 ∙ ap (packed_origin s.id) (same_but_mark id s).2 in
    ap (λ bs. bs ++ all_bytes (map (forgotten_at id) steps)) here ∙ ap (λ bs. bytes_of s ++ bs) (bytes_marked id steps)

pub stored_marked : (rows : List StoredStep) (literals : Clause) (bytes : List ℕ) (id k : ℕ) (r : StoredStep) → AreStored rows literals bytes (steps_in literals bytes rows) → AreRising (steps_in literals bytes rows) → k < length rows → ((d : ToldStep) → (get_or (steps_in literals bytes rows) k d).id ≡ id) → r ≡ get_or rows k r
    → AreStored (set rows k (record { id = r.id; literals = r.literals; bytes = r.bytes; part = r.part; forgotten = true; needed = r.needed })) literals bytes (map (forgotten_at id) (steps_in literals bytes rows))
stored_marked rows literals bytes id k r stored rising within at is =
    let steps = steps_in literals bytes rows in
    let inside : k < length steps = rw length-rows within in
    let v : ToldStep = record { id = (get_or steps k no_step).id; literals = (get_or steps k no_step).literals; origin = (get_or steps k no_step).origin; forgotten = true } in
    let now : (d : ToldStep) → v ≡ record { id = (get_or steps k d).id; literals = (get_or steps k d).literals; origin = (get_or steps k d).origin; forgotten = true } = λ d. ap (λ (s : ToldStep). record { id = s.id; literals = s.literals; origin = s.origin; forgotten = true }) (get_or_default steps k no_step d inside) in
    record {
      rows_are = rw (← set-forgotten id k steps v rising inside at now) (rows_marked 0 0 rows steps k r v stored.rows_are within is now);
      literals_are = stored.literals_are ∙ sym (literals_marked id steps);
      bytes_are = stored.bytes_are ∙ sym (bytes_marked id steps);
    }

pub within_rows : (literals : Clause) (bytes : List ℕ) (rows : List StoredStep) (k : ℕ) → k < length (steps_in literals bytes rows) → k < length rows
within_rows literals bytes rows k within = rw length-rows at within

-- the bytes of such a row are a packed chain
pub row_packed : (steps : List ToldStep) (k id : ℕ) (packed : List ℕ) → DerivedRow steps k id packed → IsPackedChain id packed
row_packed steps k id packed row = record { first = row.first; rest = row.rest; packable = row.packable; bytes_are = row.bytes_are }

-- and what is read of them is where the clause comes from
pub derived_lent : (steps : List ToldStep) (k id : ℕ) (packed : List ℕ) (first : ℕ) (rest : List ChainStep) → DerivedRow steps k id packed
    → ((f : ℕ) (r : List ChainStep) → IsPackable id f r → packed ≡ packed_chain id f r → (first ≡ f) × (rest ≡ r)) → IsAtPlace steps k (λ s. s.origin ≡ Derived first rest)
derived_lent steps k id packed first rest row read =
    let is = read row.first row.rest row.packable row.bytes_are in
    (row.step, row.at, row.origin_is ∙ (λ i. Derived (sym is.0 i) (sym is.1 i)))

-- a row that is read where there is none
abbrev pub no_row : StoredStep
no_row = record { id = record { 0 = 0 }; literals = 0; bytes = 0; part = None; forgotten = false; needed = false }

-- the bytes of the row at a place
pub bytes_of_row : (rows : List StoredStep) (bytes : List ℕ) (steps : List ToldStep) (k «end» all : ℕ) (e : StoredStep) → AreStored rows (all_literals steps) bytes steps → k < length rows → all ≡ length bytes → «end» ≡ first_start (λ q. q.bytes) (drop (k + 1) rows) all → PartLies steps k bytes bytes_of (get_or rows k e).bytes «end»
bytes_of_row rows bytes steps k «end» all e stored within total end_is =
    bytes_lie rows (all_literals steps) bytes steps stored k (get_or rows k e) within (get_or_default rows k e (get_or rows k e) within) «end» all total end_is
