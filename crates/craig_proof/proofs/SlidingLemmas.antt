-- Steps that slide down over those that are given up.
use Rattle.std.proofs.Common.{◌≡◌, ℕ, ◌+◌, ◌-◌, ◌<◌, ◌≤◌, true, false, cond, List, [], ◌∷◌, ◌++◌, length, get_or, set, take, drop, append_assoc, append-nil, length-append, Option, refl, sym, ◌∙◌, ap, subst, arith}
use Rattle.std.specs.List.{copy_within}
use Rattle.std.specs.Option.{option_map}
use Rattle.std.proofs.lemmas.Grind.{flat_map-append}
use Rattle.std.proofs.lemmas.List.{drop-append-le, length-drop}
use Rattle.std.proofs.lemmas.List.Prefix.{front_rest}
use Rattle.std.proofs.Math.Seq.{drop-append-add, get_or-append_seam, set-append_seam, take-append_seam}
use Rattle.craig_spec.specs.Literal.{Clause}
use Rattle.craig_spec.specs.Chain.{AreRising, EachStands, ToldStep}
use Rattle.craig_spec.specs.Needed.{Reclaims}
use Rattle.craig_proof.specs.Reclaiming.{AreAllInUse, AreMarkedFrom, AreSameRows, HaveChains, IsMovedDown, IsSliding, left_from, marked_steps}
use Rattle.craig_proof.specs.StoredSteps.{AreRows, AreStored, IsRow, all_bytes, all_literals, bytes_of, first_start, steps_in}
use Rattle.craig_proof.specs.declared.sliding.Filled.{Filled}
use Rattle.craig_proof.specs.declared.stored_step.StoredStep.{StoredStep}
use Rattle.craig_proof.proofs.MarkingLemmas.{HaveChains-same, left_in_use, reclaims_unmarked}
use Rattle.craig_proof.proofs.RowLemmas.{AreRows-more, cut_out, first_bytes, first_literals, read_rows, read_stored, stored_same}

-- a part of a list that is copied to a place before it
pub moved_down : {A : Type 0} (before : List A) (start «end» to : ℕ) → IsMovedDown before (copy_within before start «end» to) start «end» to
moved_down before start «end» to front hole part behind is to_is start_is end_is =
    let many : «end» - start ≡ length part = omega arith in
    let first : take to before ≡ front = ap (λ n. take n before) to_is ∙ ap (take (length front)) is ∙ take-append_seam front (hole ++ (part ++ behind)) in
    let moved : take («end» - start) (drop start before) ≡ part = cut_out (front ++ hole) part behind before start «end» (is ∙ sym (append_assoc front hole (part ++ behind))) (start_is ∙ sym (length-append front hole)) (end_is ∙ ap (λ n. n + length part) (start_is ∙ sym (length-append front hole))) in
    let rest : List _ = drop (length part) (hole ++ part) in
    let short : length part ≤ length (hole ++ part) = omega (arith, length-append hole part) in
    let last : drop (to + («end» - start)) before ≡ rest ++ behind =
    ap (λ n. drop (to + n) before) many ∙ ap (λ n. drop (n + length part) before) to_is ∙ ap (drop (length front + length part)) is ∙ drop-append-add front (hole ++ (part ++ behind)) (length part) ∙ ap (drop (length part)) (sym (append_assoc hole part behind)) ∙ drop-append-le (length part) (hole ++ part) behind short in (
      rest,
      ap (λ xs. xs ++ take («end» - start) (drop start before) ++ drop (to + («end» - start)) before) first ∙ ap (λ xs. front ++ xs ++ drop (to + («end» - start)) before) moved ∙ ap (λ xs. front ++ part ++ xs) last ∙ append_assoc front part (rest ++ behind),
      omega (arith, length-drop (length part) (hole ++ part), length-append hole part),
    )

-- a row that is set at the end of those that are left
record SetRow (done hole : List StoredStep) (r : StoredStep) (later : List StoredStep) (v : StoredStep) : Type 0 where
  after : List StoredStep
  is : set (done ++ (hole ++ (r ∷ later))) (length done) v ≡ (done ++ v ∷ []) ++ (after ++ later)
  long : length after ≡ length hole

set_row : (done hole : List StoredStep) (r : StoredStep) (later : List StoredStep) (v : StoredStep) → SetRow done hole r later v
set_row done [] r later v = record {
  after = [];
  is = set-append_seam done r later v ∙ sym (append_assoc done (v ∷ []) later);
  long = refl;
}
set_row done (h ∷ hole) r later v = record {
  after = hole ++ r ∷ [];
  is = set-append_seam done h (hole ++ (r ∷ later)) v ∙ ap (λ xs. done ++ v ∷ xs) (sym (append_assoc hole (r ∷ []) later)) ∙ sym (append_assoc done (v ∷ []) ((hole ++ r ∷ []) ++ later));
  long = omega (arith, length-append hole (r ∷ []));
}

-- the next step, and what lies behind it
record Next (rows : List StoredStep) (literals : Clause) (bytes : List ℕ) (place : ℕ) (filled : Filled) (s : IsSliding rows literals bytes place filled) : Type 0 where
  row : StoredStep
  step : ToldStep
  more_rows : List StoredStep
  more : List ToldStep
  rows_are : rows ≡ s.done_rows ++ (s.hole_rows ++ (row ∷ more_rows))
  literals_are : literals ≡ all_literals s.done ++ (s.hole_literals ++ (step.literals ++ all_literals more))
  bytes_are : bytes ≡ all_bytes s.done ++ (s.hole_bytes ++ (bytes_of step ++ all_bytes more))
  is_row : IsRow (length (all_literals s.done) + length s.hole_literals) (length (all_bytes s.done) + length s.hole_bytes) row step
  are_more : AreRows (length (all_literals s.done) + length s.hole_literals + length step.literals) (length (all_bytes s.done) + length s.hole_bytes + length (bytes_of step)) more_rows more
  marked : marked_steps s.later_rows s.later ≡ cond row.needed (step ∷ marked_steps more_rows more) (marked_steps more_rows more)

module _ (rows : List StoredStep) (literals : Clause) (bytes : List ℕ) (place : ℕ) (filled : Filled) (s : IsSliding rows literals bytes place filled) where
  done_read : steps_in (take filled.literals literals) (take filled.bytes bytes) (take filled.rows rows) ≡ s.done
  done_read =
      let rs : take filled.rows rows ≡ s.done_rows = ap (λ n. take n rows) s.filled_rows ∙ ap (take (length s.done_rows)) s.rows_are ∙ take-append_seam s.done_rows (s.hole_rows ++ s.later_rows) in
      let ls : take filled.literals literals ≡ all_literals s.done = ap (λ n. take n literals) s.filled_literals ∙ ap (take (length (all_literals s.done))) s.literals_are ∙ take-append_seam (all_literals s.done) (s.hole_literals ++ all_literals s.later) in
      let bs : take filled.bytes bytes ≡ all_bytes s.done = ap (λ n. take n bytes) s.filled_bytes ∙ ap (take (length (all_bytes s.done))) s.bytes_are ∙ take-append_seam (all_bytes s.done) (s.hole_bytes ++ all_bytes s.later) in
      rw (rs, ls, bs) (read_stored s.done_rows (all_literals s.done) (all_bytes s.done) s.done (record { rows_are = s.are_done; literals_are = refl; bytes_are = refl }))

  later_rows_are : drop place rows ≡ s.later_rows
  later_rows_are = ap (λ n. drop n rows) (s.place_is ∙ sym (length-append s.done_rows s.hole_rows)) ∙ front_rest rows (s.done_rows ++ s.hole_rows) s.later_rows (s.rows_are ∙ sym (append_assoc s.done_rows s.hole_rows s.later_rows))

  later_read : steps_in literals bytes (drop place rows) ≡ s.later
  later_read =
      let l = all_literals s.done ++ s.hole_literals in
      let b = all_bytes s.done ++ s.hole_bytes in
      let ls : literals ≡ l ++ all_literals s.later = s.literals_are ∙ sym (append_assoc (all_literals s.done) s.hole_literals (all_literals s.later)) in
      let bs : bytes ≡ b ++ all_bytes s.later = s.bytes_are ∙ sym (append_assoc (all_bytes s.done) s.hole_bytes (all_bytes s.later)) in
      let are : AreRows (length l) (length b) s.later_rows s.later = rw (length-append (all_literals s.done) s.hole_literals, length-append (all_bytes s.done) s.hole_bytes) s.are_later in
      rw (later_rows_are, ls, bs) (read_rows l b s.later_rows s.later are)

  -- what is left in the end, by what is known of the lists
  pub left_is : left_from rows literals bytes place filled ≡ s.done ++ marked_steps s.later_rows s.later
  left_is = ap (λ (xs : List ToldStep). xs ++ marked_steps (drop place rows) (steps_in literals bytes (drop place rows))) done_read ∙ ap (λ (xs : List ToldStep). s.done ++ marked_steps (drop place rows) xs) later_read ∙ ap (λ (xs : List StoredStep). s.done ++ marked_steps xs s.later) later_rows_are

  abbrev later_literals : ℕ
  later_literals = length (all_literals s.done) + length s.hole_literals

  abbrev later_bytes : ℕ
  later_bytes = length (all_bytes s.done) + length s.hole_bytes

  are_later_of : (qs : List StoredStep) (ss : List ToldStep) → s.later_rows ≡ qs → s.later ≡ ss → AreRows later_literals later_bytes qs ss
  are_later_of qs ss rows_is steps_is = subst (λ xs. AreRows later_literals later_bytes xs ss) rows_is (subst (λ xs. AreRows later_literals later_bytes s.later_rows xs) steps_is s.are_later)

  next_of : (qs : List StoredStep) (ss : List ToldStep) → s.later_rows ≡ qs → s.later ≡ ss → place < length rows → Next rows literals bytes place filled s
  next_of [] ss rows_is steps_is within =
      absurd (let long : length rows ≡ length (s.done_rows ++ (s.hole_rows ++ s.later_rows)) = ap length s.rows_are in omega (arith, long, length-append s.done_rows (s.hole_rows ++ s.later_rows), length-append s.hole_rows s.later_rows, ap length rows_is, s.place_is, within))
  next_of (q ∷ qs) [] rows_is steps_is within = absurd (are_later_of (q ∷ qs) [] rows_is steps_is)
  next_of (q ∷ qs) (p ∷ ps) rows_is steps_is within =
      let are : AreRows later_literals later_bytes (q ∷ qs) (p ∷ ps) = are_later_of (q ∷ qs) (p ∷ ps) rows_is steps_is in
      record {
        row = q;
        step = p;
        more_rows = qs;
        more = ps;
        rows_are = s.rows_are ∙ ap (λ xs. s.done_rows ++ (s.hole_rows ++ xs)) rows_is;
        literals_are = s.literals_are ∙ ap (λ (xs : List ToldStep). all_literals s.done ++ (s.hole_literals ++ all_literals xs)) steps_is;
        bytes_are = s.bytes_are ∙ ap (λ (xs : List ToldStep). all_bytes s.done ++ (s.hole_bytes ++ all_bytes xs)) steps_is;
        is_row = are.0;
        are_more = are.1;
        marked = ap (λ (xs : List StoredStep). marked_steps xs s.later) rows_is ∙ ap (λ (xs : List ToldStep). marked_steps (q ∷ qs) xs) steps_is;
      }

  -- the step at the place
  module _ (within : place < length rows) where
    abbrev next : Next rows literals bytes place filled s
    next = next_of s.later_rows s.later refl refl within

    front_is : rows ≡ (s.done_rows ++ s.hole_rows) ++ (next.row ∷ next.more_rows)
    front_is = next.rows_are ∙ sym (append_assoc s.done_rows s.hole_rows (next.row ∷ next.more_rows))

    read_next : (d : StoredStep) → get_or rows place d ≡ next.row
    read_next d = ap (λ n. get_or rows n d) (s.place_is ∙ sym (length-append s.done_rows s.hole_rows)) ∙ ap (λ xs. get_or xs (length (s.done_rows ++ s.hole_rows)) d) front_is ∙ get_or-append_seam (s.done_rows ++ s.hole_rows) next.row next.more_rows d

    behind_next : drop (place + 1) rows ≡ next.more_rows
    behind_next =
        let after : place + 1 ≡ length ((s.done_rows ++ s.hole_rows) ++ next.row ∷ []) = omega (arith, s.place_is, length-append s.done_rows s.hole_rows, length-append (s.done_rows ++ s.hole_rows) (next.row ∷ [])) in
        ap (λ n. drop n rows) after ∙ front_rest rows ((s.done_rows ++ s.hole_rows) ++ next.row ∷ []) next.more_rows (front_is ∙ sym (append_assoc (s.done_rows ++ s.hole_rows) (next.row ∷ []) next.more_rows))

    -- where its literals and bytes end
    literals_end : («end» : ℕ) → «end» ≡ first_start (λ q. q.literals) (drop (place + 1) rows) (length literals) → «end» ≡ later_literals + length next.step.literals
    literals_end «end» is =
        let long : length literals ≡ later_literals + length next.step.literals + length (all_literals next.more) = ap length next.literals_are ∙ simp length-append (omega arith) in
        is ∙ ap (λ qs. first_start (λ q. q.literals) qs (length literals)) behind_next ∙ first_literals (later_literals + length next.step.literals) (later_bytes + length (bytes_of next.step)) (length literals) next.more_rows next.more next.are_more long

    bytes_end : («end» : ℕ) → «end» ≡ first_start (λ q. q.bytes) (drop (place + 1) rows) (length bytes) → «end» ≡ later_bytes + length (bytes_of next.step)
    bytes_end «end» is =
        let long : length bytes ≡ later_bytes + length (bytes_of next.step) + length (all_bytes next.more) = ap length next.bytes_are ∙ simp length-append (omega arith) in
        is ∙ ap (λ qs. first_start (λ q. q.bytes) qs (length bytes)) behind_next ∙ first_bytes (later_literals + length next.step.literals) (later_bytes + length (bytes_of next.step)) (length bytes) next.more_rows next.more next.are_more long

-- where a part of the next step lies, and how far the list has what is left
pub record PartAt (start «end» all filled : ℕ) : Type 0 where
  pub down : filled ≤ start
  pub part : start ≤ «end»
  pub within : «end» ≤ all

module _ (rows : List StoredStep) (literals : Clause) (bytes : List ℕ) (place : ℕ) (filled : Filled) (s : IsSliding rows literals bytes place filled) (within : place < length rows) (e : StoredStep) where
  abbrev after : Next rows literals bytes place filled s
  after = next rows literals bytes place filled s within

  read_is : get_or rows place e ≡ after.row
  read_is = read_next rows literals bytes place filled s within e

  pub literals_at : («end» : ℕ) → «end» ≡ first_start (λ q. q.literals) (drop (place + 1) rows) (length literals) → PartAt (get_or rows place e).literals «end» (length literals) filled.literals
  literals_at «end» is =
      let begins : (get_or rows place e).literals ≡ length (all_literals s.done) + length s.hole_literals = ap (λ (q : StoredStep). q.literals) read_is ∙ after.is_row.literals_at in
      let ends = literals_end rows literals bytes place filled s within «end» is in
      let long : length literals ≡ length (all_literals s.done) + (length s.hole_literals + (length after.step.literals + length (all_literals after.more))) = ap length after.literals_are ∙ simp length-append in
      record { down = omega (arith, begins, s.filled_literals); part = omega (arith, begins, ends); within = omega (arith, ends, long) }

  pub bytes_at : («end» : ℕ) → «end» ≡ first_start (λ q. q.bytes) (drop (place + 1) rows) (length bytes) → PartAt (get_or rows place e).bytes «end» (length bytes) filled.bytes
  bytes_at «end» is =
      let begins : (get_or rows place e).bytes ≡ length (all_bytes s.done) + length s.hole_bytes = ap (λ (q : StoredStep). q.bytes) read_is ∙ after.is_row.bytes_at in
      let ends = bytes_end rows literals bytes place filled s within «end» is in
      let long : length bytes ≡ length (all_bytes s.done) + (length s.hole_bytes + (length (bytes_of after.step) + length (all_bytes after.more))) = ap length after.bytes_are ∙ simp length-append in
      record { down = omega (arith, begins, s.filled_bytes); part = omega (arith, begins, ends); within = omega (arith, ends, long) }

  front : (v : StoredStep) → SetRow s.done_rows s.hole_rows after.row after.more_rows v
  front v = set_row s.done_rows s.hole_rows after.row after.more_rows v

  -- the row as it stands then
  abbrev moved_row : StoredStep
  moved_row = record { id = (get_or rows place e).id; literals = filled.literals; bytes = filled.bytes; part = (get_or rows place e).part; forgotten = (get_or rows place e).forgotten; needed = (get_or rows place e).needed }

  is_moved : IsRow (0 + length (all_literals s.done)) (0 + length (all_bytes s.done)) moved_row after.step
  is_moved = record {
    id = ap (λ (q : StoredStep). q.id.0) read_is ∙ after.is_row.id;
    literals_at = omega (arith, s.filled_literals);
    bytes_at = omega (arith, s.filled_bytes);
    part = ap (λ (q : StoredStep). option_map (λ p. p.0) q.part) read_is ∙ after.is_row.part;
    forgotten = ap (λ (q : StoredStep). q.forgotten) read_is ∙ after.is_row.forgotten;
    packable = after.is_row.packable;
  }

  -- the literals and the bytes of what is left with one step more
  more_literals : all_literals (s.done ++ after.step ∷ []) ≡ all_literals s.done ++ after.step.literals
  more_literals = flat_map-append (λ (q : ToldStep). q.literals) s.done (after.step ∷ []) ∙ ap (λ xs. all_literals s.done ++ xs) (append-nil after.step.literals)

  more_bytes : all_bytes (s.done ++ after.step ∷ []) ≡ all_bytes s.done ++ bytes_of after.step
  more_bytes = flat_map-append bytes_of s.done (after.step ∷ []) ∙ ap (λ xs. all_bytes s.done ++ xs) (append-nil (bytes_of after.step))

  -- the step is left
  module _ (new_literals : Clause) (new_bytes : List ℕ) (l_end b_end : ℕ) (l_end_is : l_end ≡ first_start (λ q. q.literals) (drop (place + 1) rows) (length literals)) (b_end_is : b_end ≡ first_start (λ q. q.bytes) (drop (place + 1) rows) (length bytes)) (l_moved : IsMovedDown literals new_literals (get_or rows place e).literals l_end filled.literals) (b_moved : IsMovedDown bytes new_bytes (get_or rows place e).bytes b_end filled.bytes) where
    abbrev kept_filled : Filled
    kept_filled = record { rows = filled.rows + 1; literals = filled.literals + (l_end - (get_or rows place e).literals); bytes = filled.bytes + (b_end - (get_or rows place e).bytes) }

    l_begin : (get_or rows place e).literals ≡ length (all_literals s.done) + length s.hole_literals
    l_begin = ap (λ (q : StoredStep). q.literals) read_is ∙ after.is_row.literals_at

    b_begin : (get_or rows place e).bytes ≡ length (all_bytes s.done) + length s.hole_bytes
    b_begin = ap (λ (q : StoredStep). q.bytes) read_is ∙ after.is_row.bytes_at

    l_last : l_end ≡ (get_or rows place e).literals + length after.step.literals
    l_last = literals_end rows literals bytes place filled s within l_end l_end_is ∙ ap (λ n. n + length after.step.literals) (sym l_begin)

    b_last : b_end ≡ (get_or rows place e).bytes + length (bytes_of after.step)
    b_last = bytes_end rows literals bytes place filled s within b_end b_end_is ∙ ap (λ n. n + length (bytes_of after.step)) (sym b_begin)

    abbrev l_after : (rest : Clause) × (new_literals ≡ all_literals s.done ++ (after.step.literals ++ (rest ++ all_literals after.more))) × (length rest ≡ length s.hole_literals)
    l_after = l_moved (all_literals s.done) s.hole_literals after.step.literals (all_literals after.more) after.literals_are s.filled_literals l_begin l_last

    abbrev b_after : (rest : List ℕ) × (new_bytes ≡ all_bytes s.done ++ (bytes_of after.step ++ (rest ++ all_bytes after.more))) × (length rest ≡ length s.hole_bytes)
    b_after = b_moved (all_bytes s.done) s.hole_bytes (bytes_of after.step) (all_bytes after.more) after.bytes_are s.filled_bytes b_begin b_last

    abbrev slides_keep : IsSliding (set rows filled.rows moved_row) new_literals new_bytes (place + 1) kept_filled
    slides_keep = record {
      done = s.done ++ after.step ∷ [];
      later = after.more;
      done_rows = s.done_rows ++ moved_row ∷ [];
      hole_rows = (front moved_row).after;
      later_rows = after.more_rows;
      hole_literals = l_after.0;
      hole_bytes = b_after.0;
      rows_are = ap (λ xs. set xs filled.rows moved_row) after.rows_are ∙ ap (λ n. set (s.done_rows ++ (s.hole_rows ++ (after.row ∷ after.more_rows))) n moved_row) s.filled_rows ∙ (front moved_row).is;
      place_is = omega (arith, s.place_is, (front moved_row).long, length-append s.done_rows (moved_row ∷ []));
      filled_rows = omega (arith, s.filled_rows, length-append s.done_rows (moved_row ∷ []));
      literals_are = l_after.1 ∙ sym (append_assoc (all_literals s.done) after.step.literals (l_after.0 ++ all_literals after.more)) ∙ ap (λ xs. xs ++ (l_after.0 ++ all_literals after.more)) (sym more_literals);
      filled_literals = omega (arith, s.filled_literals, l_begin, l_last, ap length more_literals, length-append (all_literals s.done) after.step.literals);
      bytes_are = b_after.1 ∙ sym (append_assoc (all_bytes s.done) (bytes_of after.step) (b_after.0 ++ all_bytes after.more)) ∙ ap (λ xs. xs ++ (b_after.0 ++ all_bytes after.more)) (sym more_bytes);
      filled_bytes = omega (arith, s.filled_bytes, b_begin, b_last, ap length more_bytes, length-append (all_bytes s.done) (bytes_of after.step));
      are_done = AreRows-more 0 0 s.done_rows s.done moved_row after.step s.are_done is_moved;
      are_later =
          let l_is : length (all_literals s.done) + length s.hole_literals + length after.step.literals ≡ length (all_literals (s.done ++ after.step ∷ [])) + length l_after.0 = omega (arith, l_after.2, ap length more_literals, length-append (all_literals s.done) after.step.literals) in
          let b_is : length (all_bytes s.done) + length s.hole_bytes + length (bytes_of after.step) ≡ length (all_bytes (s.done ++ after.step ∷ [])) + length b_after.0 = omega (arith, b_after.2, ap length more_bytes, length-append (all_bytes s.done) (bytes_of after.step)) in
          subst (λ n. AreRows n (length (all_bytes (s.done ++ after.step ∷ [])) + length b_after.0) after.more_rows after.more) l_is (subst (λ n. AreRows (length (all_literals s.done) + length s.hole_literals + length after.step.literals) n after.more_rows after.more) b_is after.are_more);
    }

    pub keeps : IsSliding (set rows filled.rows moved_row) new_literals new_bytes (place + 1) kept_filled
    keeps = slides_keep

    pub keeps_left : (get_or rows place e).needed ≡ true → left_from (set rows filled.rows moved_row) new_literals new_bytes (place + 1) kept_filled ≡ left_from rows literals bytes place filled
    keeps_left needed =
        let on : after.row.needed ≡ true = sym (ap (λ (q : StoredStep). q.needed) read_is) ∙ needed in
        left_is (set rows filled.rows moved_row) new_literals new_bytes (place + 1) kept_filled slides_keep ∙ append_assoc s.done (after.step ∷ []) (marked_steps after.more_rows after.more) ∙ ap (λ b. s.done ++ cond b (after.step ∷ marked_steps after.more_rows after.more) (marked_steps after.more_rows after.more)) (sym on) ∙ ap (λ (xs : List ToldStep). s.done ++ xs) (sym after.marked) ∙ sym (left_is rows literals bytes place filled s)

  -- the step is given up
  abbrev slides_skip : IsSliding rows literals bytes (place + 1) filled
  slides_skip = record {
    done = s.done;
    later = after.more;
    done_rows = s.done_rows;
    hole_rows = s.hole_rows ++ after.row ∷ [];
    later_rows = after.more_rows;
    hole_literals = s.hole_literals ++ after.step.literals;
    hole_bytes = s.hole_bytes ++ bytes_of after.step;
    rows_are = after.rows_are ∙ ap (λ xs. s.done_rows ++ xs) (sym (append_assoc s.hole_rows (after.row ∷ []) after.more_rows));
    place_is = omega (arith, s.place_is, length-append s.hole_rows (after.row ∷ []));
    filled_rows = s.filled_rows;
    literals_are = after.literals_are ∙ ap (λ xs. all_literals s.done ++ xs) (sym (append_assoc s.hole_literals after.step.literals (all_literals after.more)));
    filled_literals = s.filled_literals;
    bytes_are = after.bytes_are ∙ ap (λ xs. all_bytes s.done ++ xs) (sym (append_assoc s.hole_bytes (bytes_of after.step) (all_bytes after.more)));
    filled_bytes = s.filled_bytes;
    are_done = s.are_done;
    are_later =
        let l_is : length (all_literals s.done) + length s.hole_literals + length after.step.literals ≡ length (all_literals s.done) + length (s.hole_literals ++ after.step.literals) = omega (arith, length-append s.hole_literals after.step.literals) in
        let b_is : length (all_bytes s.done) + length s.hole_bytes + length (bytes_of after.step) ≡ length (all_bytes s.done) + length (s.hole_bytes ++ bytes_of after.step) = omega (arith, length-append s.hole_bytes (bytes_of after.step)) in
        subst (λ n. AreRows n (length (all_bytes s.done) + length (s.hole_bytes ++ bytes_of after.step)) after.more_rows after.more) l_is (subst (λ n. AreRows (length (all_literals s.done) + length s.hole_literals + length after.step.literals) n after.more_rows after.more) b_is after.are_more);
  }

  pub skips : IsSliding rows literals bytes (place + 1) filled
  skips = slides_skip

  pub skips_left : (get_or rows place e).needed ≡ false → left_from rows literals bytes (place + 1) filled ≡ left_from rows literals bytes place filled
  skips_left given_up =
      let off : after.row.needed ≡ false = sym (ap (λ (q : StoredStep). q.needed) read_is) ∙ given_up in
      left_is rows literals bytes (place + 1) filled slides_skip ∙ ap (λ b. s.done ++ cond b (after.step ∷ marked_steps after.more_rows after.more) (marked_steps after.more_rows after.more)) (sym off) ∙ ap (λ (xs : List ToldStep). s.done ++ xs) (sym after.marked) ∙ sym (left_is rows literals bytes place filled s)

-- at first
pub slides_first : (rows : List StoredStep) (literals : Clause) (bytes : List ℕ) (steps : List ToldStep) → AreStored rows literals bytes steps → IsSliding rows literals bytes 0 (record { rows = 0; literals = 0; bytes = 0 })
slides_first rows literals bytes steps stored = record {
  done = [];
  later = steps;
  done_rows = [];
  hole_rows = [];
  later_rows = rows;
  hole_literals = [];
  hole_bytes = [];
  rows_are = refl;
  place_is = refl;
  filled_rows = refl;
  literals_are = stored.literals_are;
  filled_literals = refl;
  bytes_are = stored.bytes_are;
  filled_bytes = refl;
  are_done = tt;
  are_later = stored.rows_are;
}

pub left_first : (rows : List StoredStep) (literals : Clause) (bytes : List ℕ) (steps : List ToldStep) → AreStored rows literals bytes steps → left_from rows literals bytes 0 (record { rows = 0; literals = 0; bytes = 0 }) ≡ marked_steps rows steps
left_first rows literals bytes steps stored = ap (marked_steps rows) (read_stored rows literals bytes steps stored)

none_left : (rows : List StoredStep) → length rows ≡ 0 → (steps : List ToldStep) → marked_steps rows steps ≡ []
none_left [] long steps = refl
none_left (r ∷ rows) long steps = absurd (omega arith)

-- in the end
pub slides_done : (rows : List StoredStep) (literals : Clause) (bytes : List ℕ) (place : ℕ) (filled : Filled) → place ≡ length rows → IsSliding rows literals bytes place filled → AreStored (take filled.rows rows) (take filled.literals literals) (take filled.bytes bytes) (left_from rows literals bytes place filled)
slides_done rows literals bytes place filled all s =
    let rs : take filled.rows rows ≡ s.done_rows = ap (λ n. take n rows) s.filled_rows ∙ ap (take (length s.done_rows)) s.rows_are ∙ take-append_seam s.done_rows (s.hole_rows ++ s.later_rows) in
    let ls : take filled.literals literals ≡ all_literals s.done = ap (λ n. take n literals) s.filled_literals ∙ ap (take (length (all_literals s.done))) s.literals_are ∙ take-append_seam (all_literals s.done) (s.hole_literals ++ all_literals s.later) in
    let bs : take filled.bytes bytes ≡ all_bytes s.done = ap (λ n. take n bytes) s.filled_bytes ∙ ap (take (length (all_bytes s.done))) s.bytes_are ∙ take-append_seam (all_bytes s.done) (s.hole_bytes ++ all_bytes s.later) in
    let none : length s.later_rows ≡ 0 = omega (arith, all, s.place_is, ap length s.rows_are, length-append s.done_rows (s.hole_rows ++ s.later_rows), length-append s.hole_rows s.later_rows) in
    let left : left_from rows literals bytes place filled ≡ s.done = left_is rows literals bytes place filled s ∙ ap (λ (xs : List ToldStep). s.done ++ xs) (none_left s.later_rows none s.later) ∙ append-nil s.done in
    rw (left, rs, ls, bs) (record { rows_are = s.are_done; literals_are = refl; bytes_are = refl })

-- what is left of the steps of a store, and of what it has of them
pub record IsLeft (before : List ToldStep) (rows : List StoredStep) (literals : Clause) (bytes : List ℕ) : Type 0 where
  pub stored : AreStored rows literals bytes (steps_in literals bytes rows)
  pub reclaims : (greatest : Option ℕ) → Reclaims (record { greatest = greatest; steps = before }) (record { greatest = greatest; steps = steps_in literals bytes rows })
  pub in_use : AreAllInUse before (steps_in literals bytes rows)

-- after both walks
module _ (rows : List StoredStep) (literals : Clause) (bytes : List ℕ) (stored : AreStored rows literals bytes (steps_in literals bytes rows)) (rising : AreRising (steps_in literals bytes rows)) (stand : EachStands (steps_in literals bytes rows)) where
  abbrev all : List ToldStep
  all = steps_in literals bytes rows

  pub have_chains : HaveChains rows bytes (steps_in literals bytes rows)
  have_chains = record {
    stored = record { rows_are = stored.rows_are; literals_are = refl; bytes_are = stored.bytes_are };
    rising = rising;
    stand = stand;
  }

  module _ (marked : List StoredStep) (same : AreSameRows rows marked) where
    marked_chains : HaveChains marked bytes all
    marked_chains = HaveChains-same rows marked bytes all same have_chains

    pub marked_stored : AreStored marked literals bytes (steps_in literals bytes rows)
    marked_stored = record { rows_are = marked_chains.stored.rows_are; literals_are = stored.literals_are; bytes_are = stored.bytes_are }

    pub is_left : (slid_rows : List StoredStep) (slid_literals : Clause) (slid_bytes : List ℕ) (filled : Filled) → AreMarkedFrom all marked 0 → IsSliding slid_rows slid_literals slid_bytes (length slid_rows) filled → left_from slid_rows slid_literals slid_bytes (length slid_rows) filled ≡ marked_steps marked all
        → IsLeft (steps_in literals bytes rows) (take filled.rows slid_rows) (take filled.literals slid_literals) (take filled.bytes slid_bytes)
    is_left slid_rows slid_literals slid_bytes filled marks sliding left =
        let done = slides_done slid_rows slid_literals slid_bytes (length slid_rows) filled refl sliding in
        let read = read_stored _ _ _ _ done ∙ left in
        record {
          stored = stored_same _ _ _ _ done;
          reclaims = λ greatest. reclaims_unmarked marked bytes all _ greatest marked_chains marks read;
          in_use = left_in_use marked bytes all _ marked_chains marks read;
        }
