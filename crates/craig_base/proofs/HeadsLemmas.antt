-- The heads of an arena over the literals of all clauses, and the entries that they stand for.
use Rattle.std.proofs.Common.{◌≡◌, ◌≢◌, ◌⊎◌, inl, inr, ℕ, ◌+◌, ◌-◌, ◌<◌, ◌≤◌, Bool, true, false, cond, eqb, List, [], ◌∷◌, ◌++◌, length, get_or, set, take, drop, map, Option, Some, None, IsSome, is_some, length-set, refl, sym, ap, subst, ◌∙◌, arith, eqb-true}
use Rattle.std.specs.Option.{IfSome}
use Rattle.std.specs.List.{swap, remove, sum_by}
use Rattle.std.proofs.lemmas.Bool.{cases_lt, eqb-false}
use Rattle.std.proofs.lemmas.List.{length-map, same_lists, get_or-take, get_or-drop, length-take, length-take-le, length-drop, get_or-map, get_or_default, get_or-set_same, get_or-set_other, map-set, map-append, set-get_or, drop-append-le, take-append-le, drop_at, take_all, take-set}
use Rattle.std.proofs.lemmas.List.Edits.{swapped_from_swap, length-swap, length-remove, get_or-remove_below, get_or-remove_above}
use Rattle.std.proofs.lemmas.List.Sums.{sum_by_more}
use Rattle.std.specs.List.{SameBelow, SameFrom, CopiedTo}
use Rattle.craig_spec.specs.Literal.{Literal, Clause}
use Rattle.craig_base.specs.Arena.{FlaggedClause, ChangesOnly, ChangesClause, clause_at, literals_at, changed, without, with_id, with_clause}
use Rattle.craig_base.specs.ArenaTable.{AreLaidOut, IsClosedBelow, arena_of, arena_with, clause_in, entry_of, flags_of, live_length, literals_in, with_flags}
use Rattle.craig_base.specs.declared.flags.Flags.{Flags}
use Rattle.craig_base.specs.declared.clause_head.ClauseHead.{ClauseHead}
use Rattle.craig_base.proofs.ArenaLemmas.{clause_at-entry, clause_at-past, within-live, arena_of-changed, arena_of-without, arena_of-numbered, arena_of-added, clause_at-next, ChangesOnly-added, ChangesClause-changed, ChangesOnly-without}

part_length : (xs : Clause) (s n : ℕ) → s + n ≤ length xs → length (take n (drop s xs)) ≡ n
part_length xs s n within = length-take-le n (drop s xs) (rw (length-drop s xs) (omega arith))

get_or_part : (xs : Clause) (s n i : ℕ) (d : Literal) → i < n → get_or (take n (drop s xs)) i d ≡ get_or xs (s + i) d
get_or_part xs s n i d h = get_or-take n (drop s xs) i d h ∙ get_or-drop s xs i d

-- two parts that have the same literals
pub same_part : (xs ys : Clause) (s t n : ℕ) → s + n ≤ length xs → t + n ≤ length ys → ((i : ℕ) (d : Literal) → i < n → get_or xs (s + i) d ≡ get_or ys (t + i) d) → take n (drop s xs) ≡ take n (drop t ys)
same_part xs ys s t n in_xs in_ys same =
    let first : length (take n (drop s xs)) ≡ n = part_length xs s n in_xs in
    same_lists _ _ (first ∙ sym (part_length ys t n in_ys)) (λ i d h. let below : i < n = omega arith in get_or_part xs s n i d below ∙ same i d below ∙ sym (get_or_part ys t n i d below))

live_of : (b : Bool) (c : FlaggedClause) → IsSome (cond b (Some c) None) → b ≡ true
live_of true c h = refl
live_of false c h = h

blank : ClauseHead
blank = record { start = 0; length = 0; glue = 0; learnt = false; kept = false; live = false }

-- the head of a live clause is in the table
pub within_heads : (heads : List ClauseHead) (ls : Clause) (k : ℕ) → IsSome (clause_at (arena_with heads ls) k) → k < length heads
within_heads heads ls k live =
    let within : k < length (map (entry_of ls) heads) = within-live (map (entry_of ls) heads) k live in
    subst (λ n. k < n) (length-map heads (entry_of ls)) within

-- what is found under an id is the entry of its head
pub found_head : (heads : List ClauseHead) (ls : Clause) (k : ℕ) (d : ClauseHead) → k < length heads → clause_at (arena_with heads ls) k ≡ entry_of ls (get_or heads k d)
found_head heads ls k d within = clause_at-entry (map (entry_of ls) heads) k ∙ get_or-map (entry_of ls) heads k d None within

pub found_read : (heads : List ClauseHead) (ls : Clause) (k : ℕ) (x : ClauseHead) → k < length heads → x ≡ get_or heads k x → clause_at (arena_with heads ls) k ≡ entry_of ls x
found_read heads ls k x within at_k = found_head heads ls k x within ∙ ap (entry_of ls) (sym at_k)

-- the head of a live clause says so
pub live_head : (heads : List ClauseHead) (ls : Clause) (k : ℕ) (x : ClauseHead) → IsSome (clause_at (arena_with heads ls) k) → x ≡ get_or heads k x → x.live ≡ true
live_head heads ls k x live at_k = live_of x.live _ (rw (found_read heads ls k x (within_heads heads ls k live) at_k) at live)

-- the clause of a head that is live
pub live_entry : (ls : Clause) (x : ClauseHead) → x.live ≡ true → entry_of ls x ≡ Some (clause_in ls x)
live_entry ls x live = rw live refl

-- its literals
pub literals_at_head : (heads : List ClauseHead) (ls : Clause) (k : ℕ) (x : ClauseHead) → IsSome (clause_at (arena_with heads ls) k) → x ≡ get_or heads k x → literals_at (arena_with heads ls) k ≡ literals_in ls x
literals_at_head heads ls k x live at_k = rw (found_read heads ls k x (within_heads heads ls k live) at_k, live_head heads ls k x live at_k) refl

-- the heads and the literals after a change of one clause
written-cases : (b : Bool) (heads new : List ClauseHead) (ls lt : Clause) (k i : ℕ) (e d : Option FlaggedClause) → eqb i k ≡ b → length new ≡ length heads → k < length heads → i < length heads → ((z : ClauseHead) → entry_of lt (get_or new k z) ≡ e) → ((j : ℕ) (z : ClauseHead) → j ≢ k → j < length heads → entry_of lt (get_or new j z) ≡ entry_of ls (get_or heads j z)) → get_or (map (entry_of lt) new) i d ≡ get_or (set (map (entry_of ls) heads) k e) i d
written-cases true heads new ls lt k i e d is len within below at_k others =
    let same : i ≡ k = eqb-true i k is in
    let there : k < length (map (entry_of ls) heads) = rw (length-map heads (entry_of ls)) within in
    rw same (get_or-map (entry_of lt) new k blank d (omega arith) ∙ at_k blank ∙ sym (get_or-set_same (map (entry_of ls) heads) k e d there))
written-cases false heads new ls lt k i e d is len within below at_k others =
    let other : i ≢ k = eqb-false i k is in
    get_or-map (entry_of lt) new i blank d (omega arith) ∙ others i blank other below ∙ sym (get_or-map (entry_of ls) heads i blank d below) ∙ sym (get_or-set_other (map (entry_of ls) heads) k i e d other)

pub entries_written : (heads new : List ClauseHead) (ls lt : Clause) (k : ℕ) (e : Option FlaggedClause) → length new ≡ length heads → k < length heads → ((z : ClauseHead) → entry_of lt (get_or new k z) ≡ e) → ((j : ℕ) (z : ClauseHead) → j ≢ k → j < length heads → entry_of lt (get_or new j z) ≡ entry_of ls (get_or heads j z)) → map (entry_of lt) new ≡ set (map (entry_of ls) heads) k e
entries_written heads new ls lt k e len within at_k others =
    same_lists _ _ (length-map new (entry_of lt) ∙ len ∙ sym (length-map heads (entry_of ls)) ∙ sym (length-set (map (entry_of ls) heads) k e))
    (λ i d h. let below : i < length heads = subst (λ n. i < n) (length-map new (entry_of lt) ∙ len) h in written-cases (eqb i k) heads new ls lt k i e d refl len within below at_k others)

-- the clause of another head, whose literals lie outside of what was written
below-part : (ls lt : Clause) (h : ClauseHead) (low : ℕ) → length lt ≡ length ls → h.start + h.length ≤ length ls → SameBelow ls lt low → h.start + h.length ≤ low → entry_of lt h ≡ entry_of ls h
below-part ls lt h low len within same before =
    let part : literals_in lt h ≡ literals_in ls h = same_part lt ls h.start h.start h.length (omega arith) within (λ i d lt_n. same (h.start + i) d (omega arith)) in
    rw part refl

above-part : (ls lt : Clause) (h : ClauseHead) (high : ℕ) → length lt ≡ length ls → h.start + h.length ≤ length ls → SameFrom ls lt high → high ≤ h.start → entry_of lt h ≡ entry_of ls h
above-part ls lt h high len within same behind =
    let part : literals_in lt h ≡ literals_in ls h = same_part lt ls h.start h.start h.length (omega arith) within (λ i d lt_n. same (h.start + i) d (omega arith)) in
    rw part refl

others-cases : (heads : List ClauseHead) (ls lt : Clause) (k low high j : ℕ) (z : ClauseHead) → AreLaidOut heads ls → length lt ≡ length ls → ((i : ℕ) → i < k → (get_or heads i z).start + (get_or heads i z).length ≤ low) → ((i : ℕ) → k < i → i < length heads → high ≤ (get_or heads i z).start) → SameBelow ls lt low → SameFrom ls lt high → j < length heads → (j < k) ⊎ (k ≤ j) → j ≢ k → entry_of lt (get_or heads j z) ≡ entry_of ls (get_or heads j z)
others-cases heads ls lt k low high j z laid len before behind below above within (inl less) other = below-part ls lt (get_or heads j z) low len (laid.within j z within) below (before j less)
others-cases heads ls lt k low high j z laid len before behind below above within (inr more) other = above-part ls lt (get_or heads j z) high len (laid.within j z within) above (behind j (omega arith) within)

pub others_stay : (heads : List ClauseHead) (ls lt : Clause) (k low high j : ℕ) (z : ClauseHead) → AreLaidOut heads ls → length lt ≡ length ls → ((i : ℕ) → i < k → (get_or heads i z).start + (get_or heads i z).length ≤ low) → ((i : ℕ) → k < i → i < length heads → high ≤ (get_or heads i z).start) → SameBelow ls lt low → SameFrom ls lt high → j ≢ k → j < length heads → entry_of lt (get_or heads j z) ≡ entry_of ls (get_or heads j z)
others_stay heads ls lt k low high j z laid len before behind below above other within = others-cases heads ls lt k low high j z laid len before behind below above within (cases_lt j k) other

-- the flags of a live clause
pub flags_found : (heads : List ClauseHead) (ls : Clause) (k : ℕ) (x : ClauseHead) → IsSome (clause_at (arena_with heads ls) k) → x ≡ get_or heads k x → IfSome (clause_at (arena_with heads ls) k) (λ c. flags_of x ≡ c.flags)
flags_found heads ls k x live at_k = rw (found_read heads ls k x (within_heads heads ls k live) at_k, live_head heads ls k x live at_k) refl

-- nothing is live past the last head
pub none_past : (heads : List ClauseHead) (ls : Clause) (k : ℕ) → length heads ≤ k → clause_at (arena_with heads ls) k ≡ None
none_past heads ls k past = clause_at-past (map (entry_of ls) heads) k (rw (length-map heads (entry_of ls)) past)

-- whether a clause is live is what its head says
is_some-entry : (b : Bool) (c : FlaggedClause) → b ≡ is_some (cond b (Some c) None)
is_some-entry true c = refl
is_some-entry false c = refl

pub live_found : (heads : List ClauseHead) (ls : Clause) (k : ℕ) (x : ClauseHead) → k < length heads → x ≡ get_or heads k x → x.live ≡ is_some (clause_at (arena_with heads ls) k)
live_found heads ls k x within at_k = rw (found_read heads ls k x within at_k) (is_some-entry x.live (clause_in ls x))

-- a head that is live no more
pub arena_with-without : (heads : List ClauseHead) (ls : Clause) (k : ℕ) (h : ClauseHead) → entry_of ls h ≡ None → arena_with (set heads k h) ls ≡ without (arena_with heads ls) k
arena_with-without heads ls k h gone = ap arena_of (map-set (entry_of ls) heads k h ∙ ap (set (map (entry_of ls) heads) k) gone) ∙ arena_of-without (map (entry_of ls) heads) k

pub ChangesOnly-let_go : (heads : List ClauseHead) (ls : Clause) (k : ℕ) (h : ClauseHead) → entry_of ls h ≡ None → ChangesOnly (arena_with heads ls) (arena_with (set heads k h) ls) k None
ChangesOnly-let_go heads ls k h gone = subst (λ a. ChangesOnly (arena_with heads ls) a k None) (sym (arena_with-without heads ls k h gone)) (ChangesOnly-without (arena_with heads ls) k)

-- one clause that is changed
pub arena_with-changed : (f : FlaggedClause → FlaggedClause) (heads new : List ClauseHead) (ls lt : Clause) (k : ℕ) (x : ClauseHead) → IsSome (clause_at (arena_with heads ls) k) → x ≡ get_or heads k x → map (entry_of lt) new ≡ set (map (entry_of ls) heads) k (Some (f (clause_in ls x))) → arena_with new lt ≡ changed f (arena_with heads ls) k
arena_with-changed f heads new ls lt k x live at_k entries =
    let there : get_or (map (entry_of ls) heads) k None ≡ Some (clause_in ls x) = sym (clause_at-entry (map (entry_of ls) heads) k) ∙ found_read heads ls k x (within_heads heads ls k live) at_k ∙ live_entry ls x (live_head heads ls k x live at_k) in
    ap arena_of entries ∙ arena_of-changed f (map (entry_of ls) heads) k (clause_in ls x) there

pub ChangesClause-heads : (f : FlaggedClause → FlaggedClause) (heads new : List ClauseHead) (ls lt : Clause) (k : ℕ) (x : ClauseHead) → IsSome (clause_at (arena_with heads ls) k) → x ≡ get_or heads k x → map (entry_of lt) new ≡ set (map (entry_of ls) heads) k (Some (f (clause_in ls x))) → ChangesClause (arena_with heads ls) (arena_with new lt) k f
ChangesClause-heads f heads new ls lt k x live at_k entries =
    subst (λ a. ChangesClause (arena_with heads ls) a k f) (sym (arena_with-changed f heads new ls lt k x live at_k entries)) (ChangesClause-changed f (arena_with heads ls) k)

-- the entries after the flags of one clause are set
pub entries_flagged : (heads : List ClauseHead) (ls : Clause) (k : ℕ) (x : ClauseHead) (flags : Flags) → IsSome (clause_at (arena_with heads ls) k) → x ≡ get_or heads k x → map (entry_of ls) (set heads k (with_flags x flags)) ≡ set (map (entry_of ls) heads) k (Some (record { literals = literals_in ls x; flags = flags }))
entries_flagged heads ls k x flags live at_k = map-set (entry_of ls) heads k (with_flags x flags) ∙ ap (set (map (entry_of ls) heads) k) (rw (live_head heads ls k x live at_k) refl)

-- the entries after a head is added that has no clause
pub arena_with-numbered : (heads : List ClauseHead) (ls : Clause) (h : ClauseHead) → entry_of ls h ≡ None → arena_with (heads ++ h ∷ []) ls ≡ with_id (arena_with heads ls)
arena_with-numbered heads ls h none = ap arena_of (map-append (entry_of ls) heads (h ∷ []) ∙ ap (λ e. map (entry_of ls) heads ++ e ∷ []) none) ∙ arena_of-numbered (map (entry_of ls) heads)

pub none_numbered : (heads : List ClauseHead) (ls : Clause) (h : ClauseHead) → entry_of ls h ≡ None → clause_at (arena_with (heads ++ h ∷ []) ls) (length (map (entry_of ls) heads)) ≡ None
none_numbered heads ls h none = ap (λ a. clause_at a (length (map (entry_of ls) heads))) (arena_with-numbered heads ls h none) ∙ clause_at-next (map (entry_of ls) heads)

-- more literals behind those of all clauses change no clause
appended-entry : (ls more : Clause) (h : ClauseHead) → h.start + h.length ≤ length ls → entry_of (ls ++ more) h ≡ entry_of ls h
appended-entry ls more h within =
    let rest : drop h.start (ls ++ more) ≡ drop h.start ls ++ more = drop-append-le h.start ls more (omega arith) in
    let part : literals_in (ls ++ more) h ≡ literals_in ls h = rw rest (take-append-le h.length (drop h.start ls) more (rw (length-drop h.start ls) (omega arith))) in
    rw part refl

-- entries that are the same at each place
pub same_entries : (heads new : List ClauseHead) (ls lt : Clause) → length new ≡ length heads → ((j : ℕ) (z : ClauseHead) → j < length heads → entry_of lt (get_or new j z) ≡ entry_of ls (get_or heads j z)) → map (entry_of lt) new ≡ map (entry_of ls) heads
same_entries heads new ls lt len same =
    same_lists _ _ (length-map new (entry_of lt) ∙ len ∙ sym (length-map heads (entry_of ls)))
    (λ i d h. let below : i < length new = subst (λ n. i < n) (length-map new (entry_of lt)) h in get_or-map (entry_of lt) new i blank d below ∙ same i blank (omega arith) ∙ sym (get_or-map (entry_of ls) heads i blank d (omega arith)))

entries_appended : (heads : List ClauseHead) (ls more : Clause) → AreLaidOut heads ls → map (entry_of (ls ++ more)) heads ≡ map (entry_of ls) heads
entries_appended heads ls more laid = same_entries heads heads ls (ls ++ more) refl (λ j z h. appended-entry ls more (get_or heads j z) (laid.within j z h))

-- the entries after a clause is added behind the others
new-entry : (ls more : Clause) (h : ClauseHead) → h.start ≡ length ls → h.length ≡ length more → h.live ≡ true → entry_of (ls ++ more) h ≡ Some (record { literals = more; flags = flags_of h })
new-entry ls more h start len live =
    let rest : drop h.start (ls ++ more) ≡ more = drop_at ls more h.start (sym start) in
    let part : literals_in (ls ++ more) h ≡ more = rw rest (take_all h.length more (omega arith)) in
    rw (live, part) refl

pub arena_with-added : (heads : List ClauseHead) (ls more : Clause) (h : ClauseHead) → AreLaidOut heads ls → h.start ≡ length ls → h.length ≡ length more → h.live ≡ true → arena_with (heads ++ h ∷ []) (ls ++ more) ≡ with_clause (arena_with heads ls) (record { literals = more; flags = flags_of h })
arena_with-added heads ls more h laid start len live =
    ap arena_of (map-append (entry_of (ls ++ more)) heads (h ∷ []) ∙ rw (entries_appended heads ls more laid, new-entry ls more h start len live) refl) ∙ arena_of-added (map (entry_of ls) heads) (record { literals = more; flags = flags_of h })

pub ChangesOnly-heads_added : (heads : List ClauseHead) (ls more : Clause) (h : ClauseHead) → AreLaidOut heads ls → h.start ≡ length ls → h.length ≡ length more → h.live ≡ true → ChangesOnly (arena_with heads ls) (arena_with (heads ++ h ∷ []) (ls ++ more)) (length (map (entry_of ls) heads)) (Some (record { literals = more; flags = flags_of h }))
ChangesOnly-heads_added heads ls more h laid start len live =
    subst (λ a. ChangesOnly (arena_with heads ls) a (length (map (entry_of ls) heads)) (Some (record { literals = more; flags = flags_of h }))) (sym (arena_with-added heads ls more h laid start len live)) (ChangesOnly-added (map (entry_of ls) heads) (record { literals = more; flags = flags_of h }))

-- a head that was read, at any default
pub head_at : (heads : List ClauseHead) (k : ℕ) (x z : ClauseHead) → k < length heads → x ≡ get_or heads k x → get_or heads k z ≡ x
head_at heads k x z within at_k = get_or_default heads k z x within ∙ sym at_k

pub head_within : (heads : List ClauseHead) (ls : Clause) (k : ℕ) (x : ClauseHead) → AreLaidOut heads ls → IsSome (clause_at (arena_with heads ls) k) → x ≡ get_or heads k x → x.start + x.length ≤ length ls
head_within heads ls k x laid live at_k =
    let within : k < length heads = within_heads heads ls k live in
    subst (λ h. h.start + h.length ≤ length ls) (head_at heads k x x within at_k) (laid.within k x within)

-- a write among the literals of one clause leaves the entries of the others
in_place : (heads : List ClauseHead) (ls lt : Clause) (k : ℕ) (x : ClauseHead) → AreLaidOut heads ls → length lt ≡ length ls → k < length heads → x ≡ get_or heads k x → SameBelow ls lt x.start → SameFrom ls lt (x.start + x.length) → (j : ℕ) (z : ClauseHead) → j ≢ k → j < length heads → entry_of lt (get_or heads j z) ≡ entry_of ls (get_or heads j z)
in_place heads ls lt k x laid len within at_k below above j z other there =
    let here : get_or heads k z ≡ x = head_at heads k x z within at_k in
    others_stay heads ls lt k x.start (x.start + x.length) j z laid len
    (λ i before. subst (λ h. (get_or heads i z).start + (get_or heads i z).length ≤ h.start) here (laid.rising i k z before within))
    (λ i behind inside. subst (λ h. h.start + h.length ≤ (get_or heads i z).start) here (laid.rising k i z behind inside))
    below above other there

pub entries_in_place : (heads : List ClauseHead) (ls lt : Clause) (k : ℕ) (x y : ClauseHead) → AreLaidOut heads ls → length lt ≡ length ls → k < length heads → x ≡ get_or heads k x → SameBelow ls lt x.start → SameFrom ls lt (x.start + x.length) → map (entry_of lt) (set heads k y) ≡ set (map (entry_of ls) heads) k (entry_of lt y)
entries_in_place heads ls lt k x y laid len within at_k below above =
    entries_written heads (set heads k y) ls lt k (entry_of lt y) (length-set heads k y) within
    (λ z. ap (entry_of lt) (get_or-set_same heads k y z within))
    (λ j z other there. ap (entry_of lt) (get_or-set_other heads k j y z other) ∙ in_place heads ls lt k x laid len within at_k below above j z other there)

same_head : (heads : List ClauseHead) (k : ℕ) (x : ClauseHead) → x ≡ get_or heads k x → set heads k x ≡ heads
same_head heads k x at_k = ap (set heads k) at_k ∙ set-get_or heads k x

-- two literals of a part that are exchanged
swapped-cases : (a b : Bool) (ls : Clause) (s n l r i : ℕ) (d : Literal) → eqb i l ≡ a → eqb i r ≡ b → s + n ≤ length ls → l < n → r < n → i < n → get_or (take n (drop s (swap ls (s + l) (s + r)))) i d ≡ get_or (swap (take n (drop s ls)) l r) i d
swapped-cases true b ls s n l r i d is_l is_r within in_l in_r in_i =
    let same : i ≡ l = eqb-true i l is_l in
    let part : length (take n (drop s ls)) ≡ n = part_length ls s n within in
    let outer = swapped_from_swap ls (swap ls (s + l) (s + r)) (s + l) (s + r) d (omega arith) (omega arith) refl in
    let inner = swapped_from_swap (take n (drop s ls)) (swap (take n (drop s ls)) l r) l r d (omega arith) (omega arith) refl in
    rw same (get_or_part (swap ls (s + l) (s + r)) s n l d in_l ∙ outer.0 ∙ sym (get_or_part ls s n r d in_r) ∙ sym inner.0)
swapped-cases false true ls s n l r i d is_l is_r within in_l in_r in_i =
    let same : i ≡ r = eqb-true i r is_r in
    let part : length (take n (drop s ls)) ≡ n = part_length ls s n within in
    let outer = swapped_from_swap ls (swap ls (s + l) (s + r)) (s + l) (s + r) d (omega arith) (omega arith) refl in
    let inner = swapped_from_swap (take n (drop s ls)) (swap (take n (drop s ls)) l r) l r d (omega arith) (omega arith) refl in
    rw same (get_or_part (swap ls (s + l) (s + r)) s n r d in_r ∙ outer.1 ∙ sym (get_or_part ls s n l d in_l) ∙ sym inner.1)
swapped-cases false false ls s n l r i d is_l is_r within in_l in_r in_i =
    let not_l : i ≢ l = eqb-false i l is_l in
    let not_r : i ≢ r = eqb-false i r is_r in
    let part : length (take n (drop s ls)) ≡ n = part_length ls s n within in
    let outer = swapped_from_swap ls (swap ls (s + l) (s + r)) (s + l) (s + r) d (omega arith) (omega arith) refl in
    let inner = swapped_from_swap (take n (drop s ls)) (swap (take n (drop s ls)) l r) l r d (omega arith) (omega arith) refl in
    get_or_part (swap ls (s + l) (s + r)) s n i d in_i ∙ outer.2 (s + i) (λ e. not_l (omega arith)) (λ e. not_r (omega arith)) ∙ sym (get_or_part ls s n i d in_i) ∙ sym (inner.2 i not_l not_r)

swapped_part : (ls : Clause) (s n l r : ℕ) → s + n ≤ length ls → l < n → r < n → take n (drop s (swap ls (s + l) (s + r))) ≡ swap (take n (drop s ls)) l r
swapped_part ls s n l r within in_l in_r =
    let len : length (swap ls (s + l) (s + r)) ≡ length ls = length-swap ls (s + l) (s + r) in
    let part : length (take n (drop s (swap ls (s + l) (s + r)))) ≡ n = part_length (swap ls (s + l) (s + r)) s n (omega arith) in
    same_lists _ _ (part ∙ sym (part_length ls s n within) ∙ sym (length-swap (take n (drop s ls)) l r))
    (λ i d h. swapped-cases (eqb i l) (eqb i r) ls s n l r i d refl refl within in_l in_r (omega arith))

swap-below : (ls : Clause) (a b low : ℕ) → a < length ls → b < length ls → low ≤ a → low ≤ b → SameBelow ls (swap ls a b) low
swap-below ls a b low in_a in_b at_a at_b k d h = (swapped_from_swap ls (swap ls a b) a b d in_a in_b refl).2 k (λ e. omega arith) (λ e. omega arith)

swap-above : (ls : Clause) (a b high : ℕ) → a < length ls → b < length ls → a < high → b < high → SameFrom ls (swap ls a b) high
swap-above ls a b high in_a in_b at_a at_b k d h = (swapped_from_swap ls (swap ls a b) a b d in_a in_b refl).2 k (λ e. omega arith) (λ e. omega arith)

-- the entries after two literals of one clause are exchanged
pub entries_swapped : (heads : List ClauseHead) (ls : Clause) (k : ℕ) (x : ClauseHead) (l r : ℕ) → AreLaidOut heads ls → IsSome (clause_at (arena_with heads ls) k) → x ≡ get_or heads k x → l < x.length → r < x.length → map (entry_of (swap ls (x.start + l) (x.start + r))) heads ≡ set (map (entry_of ls) heads) k (Some (record { literals = swap (literals_in ls x) l r; flags = flags_of x }))
entries_swapped heads ls k x l r laid live at_k in_l in_r =
    let within : k < length heads = within_heads heads ls k live in
    let inside : x.start + x.length ≤ length ls = head_within heads ls k x laid live at_k in
    let lt = swap ls (x.start + l) (x.start + r) in
    let part : literals_in lt x ≡ swap (literals_in ls x) l r = swapped_part ls x.start x.length l r inside in_l in_r in
    ap (map (entry_of lt)) (sym (same_head heads k x at_k)) ∙ entries_in_place heads ls lt k x x laid (length-swap ls (x.start + l) (x.start + r)) within at_k
    (swap-below ls (x.start + l) (x.start + r) x.start (omega arith) (omega arith) (omega arith) (omega arith))
    (swap-above ls (x.start + l) (x.start + r) (x.start + x.length) (omega arith) (omega arith) (omega arith) (omega arith))
    ∙ ap (set (map (entry_of ls) heads) k) (rw (live_head heads ls k x live at_k, part) refl)

-- nothing is live under the id that is given next
pub none_next : (heads : List ClauseHead) (ls : Clause) → clause_at (arena_with heads ls) (length (map (entry_of ls) heads)) ≡ None
none_next heads ls = clause_at-next (map (entry_of ls) heads)

-- a place in a live clause
pub within_literals : (heads : List ClauseHead) (ls : Clause) (k : ℕ) (x : ClauseHead) (place : ℕ) → AreLaidOut heads ls → IsSome (clause_at (arena_with heads ls) k) → x ≡ get_or heads k x → place < length (literals_at (arena_with heads ls) k) → place < x.length
within_literals heads ls k x place laid live at_k h =
    let len : length (literals_at (arena_with heads ls) k) ≡ x.length = ap length (literals_at_head heads ls k x live at_k) ∙ part_length ls x.start x.length (head_within heads ls k x laid live at_k) in
    omega arith

-- a literal of a part that is taken out, where the later ones moved up
shrunk-cases : (ls lt : Clause) (s n p i : ℕ) (d : Literal) → s + n ≤ length ls → p < n → length lt ≡ length ls → SameBelow ls lt (s + p) → CopiedTo ls lt (s + p + 1) (s + p) (s + n - (s + p + 1)) → i < n - 1 → (i < p) ⊎ (p ≤ i) → get_or (take (n - 1) (drop s lt)) i d ≡ get_or (remove (take n (drop s ls)) p) i d
shrunk-cases ls lt s n p i d within in_p len below moved in_i (inl less) =
    let part : length (take n (drop s ls)) ≡ n = part_length ls s n within in
    get_or_part lt s (n - 1) i d in_i ∙ below (s + i) d (omega arith) ∙ sym (get_or_part ls s n i d (omega arith)) ∙ sym (get_or-remove_below (take n (drop s ls)) p d i less (omega arith))
shrunk-cases ls lt s n p i d within in_p len below moved in_i (inr more) =
    let part : length (take n (drop s ls)) ≡ n = part_length ls s n within in
    let from : s + p + 1 + (s + i - (s + p)) ≡ s + (i + 1) = omega arith in
    get_or_part lt s (n - 1) i d in_i ∙ moved (s + i) d (omega arith) (omega arith) ∙ ap (λ m. get_or ls m d) from ∙ sym (get_or_part ls s n (i + 1) d (omega arith)) ∙ sym (get_or-remove_above (take n (drop s ls)) p d i more (omega arith))

shrunk_part : (ls lt : Clause) (s n p : ℕ) → s + n ≤ length ls → p < n → length lt ≡ length ls → SameBelow ls lt (s + p) → CopiedTo ls lt (s + p + 1) (s + p) (s + n - (s + p + 1)) → take (n - 1) (drop s lt) ≡ remove (take n (drop s ls)) p
shrunk_part ls lt s n p within in_p len below moved =
    let old : length (take n (drop s ls)) ≡ n = part_length ls s n within in
    let new : length (take (n - 1) (drop s lt)) ≡ n - 1 = part_length lt s (n - 1) (omega arith) in
    let out : length (remove (take n (drop s ls)) p) + 1 ≡ length (take n (drop s ls)) = length-remove (take n (drop s ls)) p (omega arith) in
    same_lists _ _ (omega arith) (λ i d h. shrunk-cases ls lt s n p i d within in_p len below moved (omega arith) (cases_lt i p))

-- the entries after a literal of one clause is taken out
pub entries_shrunk : (heads : List ClauseHead) (ls lt : Clause) (k : ℕ) (x : ClauseHead) (p : ℕ) → AreLaidOut heads ls → IsSome (clause_at (arena_with heads ls) k) → x ≡ get_or heads k x → p < x.length → length lt ≡ length ls → CopiedTo ls lt (x.start + p + 1) (x.start + p) (x.start + x.length - (x.start + p + 1)) → SameBelow ls lt (x.start + p) → SameFrom ls lt (x.start + p + (x.start + x.length - (x.start + p + 1))) → map (entry_of lt) (set heads k (record x { length = x.length - 1 })) ≡ set (map (entry_of ls) heads) k (Some (record { literals = remove (literals_in ls x) p; flags = flags_of x }))
entries_shrunk heads ls lt k x p laid live at_k in_p len moved below above =
    let within : k < length heads = within_heads heads ls k live in
    let inside : x.start + x.length ≤ length ls = head_within heads ls k x laid live at_k in
    let part : literals_in lt (record x { length = x.length - 1 }) ≡ remove (literals_in ls x) p = shrunk_part ls lt x.start x.length p inside in_p len below moved in
    entries_in_place heads ls lt k x (record x { length = x.length - 1 }) laid len within at_k (λ m d h. below m d (omega arith)) (λ m d h. above m d (omega arith))
    ∙ ap (set (map (entry_of ls) heads) k) (rw (live_head heads ls k x live at_k, part) refl)

at_set-cases : (b : Bool) (P : ClauseHead → Type 0) (heads : List ClauseHead) (k i : ℕ) (y d : ClauseHead) → eqb i k ≡ b → k < length heads → (i ≡ k → P y) → (i ≢ k → P (get_or heads i d)) → P (get_or (set heads k y) i d)
at_set-cases true P heads k i y d is within here there =
    let same : i ≡ k = eqb-true i k is in
    subst (λ m. P (get_or (set heads k y) m d)) (sym same) (subst P (sym (get_or-set_same heads k y d within)) (here same))
at_set-cases false P heads k i y d is within here there =
    let other : i ≢ k = eqb-false i k is in
    subst P (sym (get_or-set_other heads k i y d other)) (there other)

-- what holds of a head that was written, and of the others
at_set : (P : ClauseHead → Type 0) (heads : List ClauseHead) (k i : ℕ) (y d : ClauseHead) → k < length heads → (i ≡ k → P y) → (i ≢ k → P (get_or heads i d)) → P (get_or (set heads k y) i d)
at_set P heads k i y d within here there = at_set-cases (eqb i k) P heads k i y d refl within here there

-- the literals of a clause that slid down
slid-entry : (b : Bool) (ls lt : Clause) (x : ClauseHead) («end» : ℕ) → x.live ≡ b → «end» ≤ x.start → x.start + x.length ≤ length ls → length lt ≡ length ls → CopiedTo ls lt x.start «end» (x.start + live_length x - x.start) → entry_of lt (record x { start = «end»; length = live_length x }) ≡ entry_of ls x
slid-entry true ls lt x «end» live down inside len moved =
    let kept : live_length x ≡ x.length = rw live refl in
    let part : take (live_length x) (drop «end» lt) ≡ literals_in ls x =
    rw kept (same_part lt ls «end» x.start x.length (omega arith) inside
    (λ i d h. let from : x.start + («end» + i - «end») ≡ x.start + i = omega arith in moved («end» + i) d (omega arith) (omega arith) ∙ ap (λ m. get_or ls m d) from)) in
    rw part refl
slid-entry false ls lt x «end» live down inside len moved = rw live refl

live_length-le : (b : Bool) (x : ClauseHead) → x.live ≡ b → live_length x ≤ x.length
live_length-le true x live = rw live (omega arith)
live_length-le false x live = rw live (omega arith)

-- a clause slides down to the end of the one before it: no entry changes
pub entries_slid : (heads : List ClauseHead) (ls lt : Clause) (k «end» : ℕ) (x : ClauseHead) → AreLaidOut heads ls → IsClosedBelow k «end» heads → k < length heads → x ≡ get_or heads k x → length lt ≡ length ls → CopiedTo ls lt x.start «end» (x.start + live_length x - x.start) → SameBelow ls lt «end» → SameFrom ls lt («end» + (x.start + live_length x - x.start)) → map (entry_of lt) (set heads k (record x { start = «end»; length = live_length x })) ≡ map (entry_of ls) heads
entries_slid heads ls lt k «end» x laid closed within at_k len moved below above =
    let here : get_or heads k x ≡ x = head_at heads k x x within at_k in
    let kept : live_length x ≤ x.length = live_length-le x.live x refl in
    let down : «end» ≤ x.start = subst (λ h. «end» ≤ h.start) here (closed.behind k x (omega arith) within) in
    let inside : x.start + x.length ≤ length ls = subst (λ h. h.start + h.length ≤ length ls) here (laid.within k x within) in
    let y : ClauseHead = record x { start = «end»; length = live_length x } in
    same_entries heads (set heads k y) ls lt (length-set heads k y)
    (λ j z there. at_set (λ h. entry_of lt h ≡ entry_of ls (get_or heads j z)) heads k j y z within
    (λ same. slid-entry x.live ls lt x «end» refl down inside len moved ∙ ap (entry_of ls) (sym (head_at heads k x z within at_k)) ∙ ap (λ m. entry_of ls (get_or heads m z)) (sym same))
    (λ other. others_stay heads ls lt k «end» («end» + (x.start + live_length x - x.start)) j z laid len
    (λ i before. closed.before i z before)
    (λ i behind in_i. let up : x.start + x.length ≤ (get_or heads i z).start = subst (λ h. h.start + h.length ≤ (get_or heads i z).start) (head_at heads k x z within at_k) (laid.rising k i z behind in_i) in omega arith)
    below above other there))

pub arena_with-slid : (heads : List ClauseHead) (ls lt : Clause) (k «end» n : ℕ) (z : ClauseHead) → n ≡ live_length (get_or heads k z) → AreLaidOut heads ls → IsClosedBelow k «end» heads → k < length heads → length lt ≡ length ls → CopiedTo ls lt (get_or heads k z).start «end» ((get_or heads k z).start + n - (get_or heads k z).start) → SameBelow ls lt «end» → SameFrom ls lt («end» + ((get_or heads k z).start + n - (get_or heads k z).start)) → arena_with (set heads k (record (get_or heads k z) { start = «end»; length = n })) lt ≡ arena_with heads ls
arena_with-slid heads ls lt k «end» n z is laid closed within len moved below above =
    let x : ClauseHead = get_or heads k z in
    subst (λ m. CopiedTo ls lt x.start «end» (x.start + m - x.start) → SameFrom ls lt («end» + (x.start + m - x.start)) → arena_with (set heads k (record x { start = «end»; length = m })) lt ≡ arena_with heads ls) (sym is)
    (λ there from. ap arena_of (entries_slid heads ls lt k «end» x laid closed within (get_or_default heads k z x within) len there below from)) moved above

slid-length : (b : Bool) (x : ClauseHead) (n : ℕ) → x.live ≡ b → n ≡ live_length x → cond x.live n 0 ≡ n
slid-length true x n live is = rw live refl
slid-length false x n live is =
    let none : live_length x ≡ 0 = rw live refl in
    rw live (sym none ∙ sym is)

-- gaps are then closed up to the next place
pub closed-slid : (heads : List ClauseHead) (ls : Clause) (k «end» n : ℕ) (z : ClauseHead) → n ≡ live_length (get_or heads k z) → AreLaidOut heads ls → IsClosedBelow k «end» heads → k < length heads → IsClosedBelow (k + 1) («end» + n) (set heads k (record (get_or heads k z) { start = «end»; length = n }))
closed-slid heads ls k «end» n z is laid closed within =
    let x : ClauseHead = get_or heads k z in
    let y : ClauseHead = record x { start = «end»; length = n } in
    let kept : live_length x ≤ x.length = live_length-le x.live x refl in
    let down : «end» ≤ x.start = closed.behind k z (omega arith) within in
    record {
      before = λ i d h. at_set (λ g. g.start + g.length ≤ «end» + n) heads k i y d within (λ same. omega arith) (λ other. let low : (get_or heads i d).start + (get_or heads i d).length ≤ «end» = closed.before i d (omega arith) in omega arith);
      tight =
          let more : sum_by live_length (take (k + 1) (set heads k y)) ≡ sum_by live_length (take k (set heads k y)) + live_length (get_or (set heads k y) k z) =
          sum_by_more live_length (set heads k y) k z (rw (length-set heads k y) within) in
          rw (more, take-set heads k y, get_or-set_same heads k y z within, ← closed.tight, slid-length x.live x n refl is) refl;
      behind = λ j d from h. at_set (λ g. «end» + n ≤ g.start) heads k j y d within (λ same. absurd (omega arith))
          (λ other.
          let in_j : j < length heads = subst (λ m. j < m) (length-set heads k y) h in
          let here : get_or heads k d ≡ x = get_or_default heads k d z within in
          let up : x.start + x.length ≤ (get_or heads j d).start = subst (λ g. g.start + g.length ≤ (get_or heads j d).start) here (laid.rising k j d (omega arith) in_j) in
          omega arith);
    }

-- once all gaps are closed, what lies behind is nobody's
pub laid_out-cut : (heads : List ClauseHead) (ls : Clause) (k «end» : ℕ) → length heads ≤ k → AreLaidOut heads ls → IsClosedBelow k «end» heads → AreLaidOut heads (take «end» ls)
laid_out-cut heads ls k «end» all laid closed = record {
  rising = laid.rising;
  within = λ j d h.
      let low : (get_or heads j d).start + (get_or heads j d).length ≤ «end» = closed.before j d (omega arith) in
      let in_ls : (get_or heads j d).start + (get_or heads j d).length ≤ length ls = laid.within j d h in
      rw (length-take «end» ls) (omega arith);
}

pub arena_with-cut : (heads : List ClauseHead) (ls : Clause) (k «end» : ℕ) → length heads ≤ k → AreLaidOut heads ls → IsClosedBelow k «end» heads → arena_with heads (take «end» ls) ≡ arena_with heads ls
arena_with-cut heads ls k «end» all laid closed =
    ap arena_of (same_entries heads heads ls (take «end» ls) refl
    (λ j z h.
    let low : (get_or heads j z).start + (get_or heads j z).length ≤ «end» = closed.before j z (omega arith) in
    let in_ls : (get_or heads j z).start + (get_or heads j z).length ≤ length ls = laid.within j z h in
    let part : literals_in (take «end» ls) (get_or heads j z) ≡ literals_in ls (get_or heads j z) =
    same_part (take «end» ls) ls (get_or heads j z).start (get_or heads j z).start (get_or heads j z).length ((laid_out-cut heads ls k «end» all laid closed).within j z h) in_ls
    (λ i d below. get_or-take «end» ls ((get_or heads j z).start + i) d (omega arith)) in
    rw part refl))

-- and the clauses lie as they should, the slid one before the later ones
pub laid_out-slid : (heads : List ClauseHead) (ls lt : Clause) (k «end» n : ℕ) (z : ClauseHead) → n ≡ live_length (get_or heads k z) → AreLaidOut heads ls → IsClosedBelow k «end» heads → k < length heads → length lt ≡ length ls → AreLaidOut (set heads k (record (get_or heads k z) { start = «end»; length = n })) lt
laid_out-slid heads ls lt k «end» n z is laid closed within len =
    let x : ClauseHead = get_or heads k z in
    let y : ClauseHead = record x { start = «end»; length = n } in
    let kept : live_length x ≤ x.length = live_length-le x.live x refl in
    let down : «end» ≤ x.start = closed.behind k z (omega arith) within in
    let inside : x.start + x.length ≤ length ls = laid.within k z within in
    record {
      rising = λ i j d before h.
          let in_j : j < length heads = subst (λ m. j < m) (length-set heads k y) h in
          let here : get_or heads k d ≡ x = get_or_default heads k d z within in
          at_set (λ g. g.start + g.length ≤ (get_or (set heads k y) j d).start) heads k i y d within
          (λ same_i. at_set (λ h. «end» + n ≤ h.start) heads k j y d within (λ same_j. absurd (omega arith))
          (λ other_j.
          let up : x.start + x.length ≤ (get_or heads j d).start = subst (λ g. g.start + g.length ≤ (get_or heads j d).start) here (laid.rising k j d (omega arith) in_j) in
          omega arith))
          (λ other_i. at_set (λ h. (get_or heads i d).start + (get_or heads i d).length ≤ h.start) heads k j y d within
          (λ same_j. closed.before i d (omega arith))
          (λ other_j. laid.rising i j d before in_j));
      within = λ i d h.
          let in_i : i < length heads = subst (λ m. i < m) (length-set heads k y) h in
          rw len (at_set (λ g. g.start + g.length ≤ length ls) heads k i y d within (λ same. omega arith) (λ other. laid.within i d in_i));
    }

pub tight_at_end : (heads : List ClauseHead) (k «end» : ℕ) → length heads ≤ k → IsClosedBelow k «end» heads → «end» ≡ sum_by live_length heads
tight_at_end heads k «end» all closed = closed.tight ∙ ap (sum_by live_length) (take_all k heads all)
