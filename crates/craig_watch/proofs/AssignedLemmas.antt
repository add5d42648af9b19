-- The tables of the literals that are assigned, after the trail changed.
use Rattle.std.proofs.Common.{◌≡◌, ◌≢◌, ◌⊎◌, inl, inr, ℕ, suc, ◌+◌, ◌-◌, ◌*◌, ◌<◌, ◌≤◌, Bool, true, false, cond, eqb, List, [], ◌∷◌, ◌++◌, length, get_or, set, take, All, Option, Some, None, is_none, refl, sym, ap, subst, ◌∙◌, arith, ne_eqb, eqb-true}
use Rattle.std.proofs.lemmas.Bool.{eqb-false}
use Rattle.std.proofs.lemmas.Bool.Decides.{leb_tells}
use Rattle.std.proofs.lemmas.List.Sums.{count_by-le-length}
use Rattle.std.proofs.lemmas.List.Quantifiers.{all_pairs_push}
use Rattle.std.proofs.lemmas.List.{take_all, length_push, length-set, get_or_append_left, get_or-set_same, get_or-set_other}
use Rattle.std.proofs.lemmas.List.Elements.{All-push}
use Rattle.craig_spec.specs.Literal.{Literal, negation}
use Rattle.craig_spec.proofs.LiteralLemmas.{same_or_not, negation_twice}
use Rattle.craig_base.specs.Literals.{literal_code}
use Rattle.craig_base.proofs.LiteralsLemmas.{literal_code-injective, negation-from_differs, negation-differs}
use Rattle.craig_watch.specs.declared.trail_entry.TrailEntry.{TrailEntry}
use Rattle.craig_watch.specs.declared.value.Value.{Value}
use Rattle.craig_watch.specs.declared.value.Value.TheVariants.{True, False, Free}
use Rattle.craig_watch.specs.Trail.{Trail, any_entry, entry_of, value_under, part_up_to, decisions, AreDistinct, AreLevels}
use Rattle.craig_watch.specs.Assigned.{AssignedView, AreValues, IsTrail, TakesLast}
use Rattle.craig_watch.specs.HeldFields.{IsStored, any_assignment, entry_in, trail_of}
use Rattle.craig_watch.specs.declared.assignment.Assignment.{Assignment}
use Rattle.craig_watch.proofs.TrailLemmas.{entry_of-absent, entry_of-at, absent-entry_of, entry_of-free, get_or-last, value_under-same, value_under-absent, AreLevels-push, AreLevels-popped, level-last, part_up_to-push, part_up_to-whole, levels-bounded, decisions-push, at_most_one}
use Rattle.craig_watch.proofs.PlacesLemmas.{true-entry, false-entry}
use Rattle.craig_watch.proofs.HeldFieldsLemmas.{entry-at, length-trail_of, IsPlaced-grown, IsPlaced-popped, IsPlaced-push, each-literal, trail_of-grown, trail_of-push, trail_of-pushed}

-- an entry of another variable changes nothing
entry_of-other : (t : Trail) (e : TrailEntry) (v : ℕ) → e.literal.var ≢ v → entry_of (t ++ e ∷ []) v ≡ entry_of t v
entry_of-other [] e v ne = rw (ne_eqb e.literal.var v ne) refl
entry_of-other (f ∷ t) e v ne = ap (λ (o : Option TrailEntry). cond (eqb f.literal.var v) (Some f) o) (entry_of-other t e v ne)

pub value_under-other : (t : Trail) (e : TrailEntry) (l : Literal) → e.literal.var ≢ l.var → value_under (t ++ e ∷ []) l ≡ value_under t l
value_under-other t e l ne = value_under-same (t ++ e ∷ []) t l (entry_of-other t e l.var ne)

-- a literal is this one, its negation, or of another variable
var-cases : (b : Bool) (l m : Literal) → eqb m.var l.var ≡ b → (l ≡ m → ⊥) → (l ≡ negation m) ⊎ (m.var ≢ l.var)
var-cases true l m is differ = inl (sym (negation-from_differs m l (eqb-true m.var l.var is) (λ e. differ (sym e))))
var-cases false l m is differ = inr (eqb-false m.var l.var is)

pub three_ways : (l m : Literal) → (l ≡ m) ⊎ ((l ≡ negation m) ⊎ (m.var ≢ l.var))
three_ways l m = elim (same_or_not l m) [ inl same ↦ inl same | inr differ ↦ inr (var-cases (eqb m.var l.var) l m refl differ) ]

-- the values of a literal and of its negation are written
AreValues-set : (values : List Value) (vars : ℕ) (t u : Trail) (m : Literal) (x y : Value) → AreValues values vars t → value_under u m ≡ x → value_under u (negation m) ≡ y → ((l : Literal) → m.var ≢ l.var → value_under u l ≡ value_under t l) → AreValues (set (set values (literal_code m) x) (literal_code (negation m)) y) vars u
AreValues-set values vars t u m x y h is_m is_n others =
    let one : List Value = set values (literal_code m) x in
    let long_one : length one ≡ length values = length-set values (literal_code m) x in
    let long : length (set one (literal_code (negation m)) y) ≡ length one = length-set one (literal_code (negation m)) y in
    let few = h.sized in
    record {
      sized = omega arith;
      at = λ l d w. elim (three_ways l m) [
        | inl same ↦
            let apart : literal_code l ≢ literal_code (negation m) = λ e. negation-differs m (sym same ∙ literal_code-injective l (negation m) e) in
            let low : literal_code m < length values = subst (λ (k : Literal). literal_code k < length values) same (omega arith) in
            get_or-set_other one (literal_code (negation m)) (literal_code l) y d apart ∙ ap (λ (k : Literal). get_or one (literal_code k) d) same ∙ get_or-set_same values (literal_code m) x d low ∙ sym is_m ∙ ap (value_under u) (sym same)
        | inr rest ↦ elim rest [
          | inl negated ↦
              let low : literal_code (negation m) < length one = subst (λ (k : Literal). literal_code k < length one) negated (omega arith) in
              ap (λ (k : Literal). get_or (set one (literal_code (negation m)) y) (literal_code k) d) negated ∙ get_or-set_same one (literal_code (negation m)) y d low ∙ sym is_n ∙ ap (value_under u) (sym negated)
          | inr differ ↦
              let not_n : literal_code l ≢ literal_code (negation m) = λ e. differ (sym (ap (λ (k : Literal). k.var) (literal_code-injective l (negation m) e))) in
              let not_m : literal_code l ≢ literal_code m = λ e. differ (sym (ap (λ (k : Literal). k.var) (literal_code-injective l m e))) in
              get_or-set_other one (literal_code (negation m)) (literal_code l) y d not_n ∙ get_or-set_other values (literal_code m) (literal_code l) x d not_m ∙ h.at l d (omega arith) ∙ sym (others l differ)
        ]
      ];
    }

pub found-last : (t : Trail) (e : TrailEntry) → AreDistinct (t ++ e ∷ []) → entry_of (t ++ e ∷ []) e.literal.var ≡ Some e
found-last t e apart =
    let long : length (t ++ e ∷ []) ≡ length t + 1 = length_push t e in
    subst (λ (f : TrailEntry). entry_of (t ++ e ∷ []) f.literal.var ≡ Some f) (get_or-last t e (length t) e refl) (entry_of-at (t ++ e ∷ []) (length t) e apart (omega arith))

-- what is pushed is true, and its negation false
pub AreValues-push : (values : List Value) (vars : ℕ) (t : Trail) (e : TrailEntry) → AreValues values vars t → AreDistinct (t ++ e ∷ []) → AreValues (set (set values (literal_code e.literal) True) (literal_code (negation e.literal)) False) vars (t ++ e ∷ [])
AreValues-push values vars t e h apart =
    AreValues-set values vars t (t ++ e ∷ []) e.literal True False h (true-entry (t ++ e ∷ []) e.literal e (found-last t e apart) refl) (false-entry (t ++ e ∷ []) (negation e.literal) e (found-last t e apart) (sym (negation_twice e.literal))) (value_under-other t e)

absent-popped : (t : Trail) (e : TrailEntry) → AreDistinct (t ++ e ∷ []) → entry_of t e.literal.var ≡ None
absent-popped t e apart =
    let long : length (t ++ e ∷ []) ≡ length t + 1 = length_push t e in
    entry_of-absent t e.literal.var (λ k d w is. apart k (length t) d w (omega arith) (ap (λ (f : TrailEntry). f.literal.var) (get_or_append_left t (e ∷ []) d k w) ∙ is ∙ ap (λ (f : TrailEntry). f.literal.var) (sym (get_or-last t e (length t) d refl))))

-- what is popped is free
pub AreValues-popped : (values : List Value) (vars : ℕ) (t : Trail) (e : TrailEntry) → AreValues values vars (t ++ e ∷ []) → AreDistinct (t ++ e ∷ []) → AreValues (set (set values (literal_code e.literal) Free) (literal_code (negation e.literal)) Free) vars t
AreValues-popped values vars t e h apart =
    AreValues-set values vars (t ++ e ∷ []) t e.literal Free Free h (value_under-absent t e.literal (absent-popped t e apart)) (value_under-absent t (negation e.literal) (absent-popped t e apart)) (λ l ne. sym (value_under-other t e l ne))

half-cases : (v : ℕ) (b : Bool) (n : ℕ) → 2 * n ≤ 2 * v + cond b 1 0 → n ≤ v
half-cases v true n h = omega arith
half-cases v false n h = omega arith

code-half : (l : Literal) (n : ℕ) → 2 * n ≤ literal_code l → n ≤ l.var
code-half l n h = half-cases l.var l.negated n h

-- more literals have a value
pub AreValues-grown : (values more : List Value) (vars known_now : ℕ) (t : Trail) → AreValues values vars t → All (λ e. e.literal.var < vars) t → 2 * known_now ≤ length more → ((k : ℕ) (d : Value) → k < length more → k < length values → get_or more k d ≡ get_or values k d) → ((k : ℕ) (d : Value) → length values ≤ k → k < length more → get_or more k d ≡ Free) → AreValues more known_now t
AreValues-grown values more vars known_now t h known sized old new =
    let few = h.sized in
    record {
      sized = sized;
      at = λ l d w. elim (leb_tells (suc (literal_code l)) (length values)) [
        | inl here ↦ old (literal_code l) d w here.1 ∙ h.at l d here.1
        | inr gone ↦
            let past : length values < suc (literal_code l) = gone.1 in
            let high : vars ≤ l.var = code-half l vars (omega arith) in
            new (literal_code l) d (omega arith) w ∙ sym (value_under-absent t l (entry_of-absent t l.var (λ k f v is. let low = known k f v in omega (arith, is))))
      ];
    }

-- a trail with one entry more, and with one less
pub IsTrail-push : (vars : ℕ) (t : Trail) (e : TrailEntry) → IsTrail vars t → e.literal.var < vars → value_under t e.literal ≡ Free → e.level ≡ decisions (t ++ e ∷ []) → IsTrail vars (t ++ e ∷ [])
IsTrail-push vars t e ok known free level = record {
  few = ok.few;
  known = All-push (λ f. f.literal.var < vars) t e ok.known known;
  distinct = all_pairs_push (λ f g. f.literal.var ≢ g.literal.var) t e ok.distinct (absent-entry_of t e.literal.var (entry_of-free t e.literal free));
  levels = AreLevels-push t e ok.levels level;
}

pub IsTrail-popped : (vars : ℕ) (t : Trail) (e : TrailEntry) → IsTrail vars (t ++ e ∷ []) → IsTrail vars t
IsTrail-popped vars t e ok =
    let long : length (t ++ e ∷ []) ≡ length t + 1 = length_push t e in
    let same : (k : ℕ) (d : TrailEntry) → k < length t → get_or (t ++ e ∷ []) k d ≡ get_or t k d = λ k d w. get_or_append_left t (e ∷ []) d k w in
    record {
      few = ok.few;
      known = λ k d w. subst (λ (f : TrailEntry). f.literal.var < vars) (same k d w) (ok.known k d (omega arith));
      distinct = λ i j d before w. subst (λ (f : TrailEntry). f.literal.var ≢ (get_or t j d).literal.var) (same i d (omega arith)) (subst (λ (f : TrailEntry). (get_or (t ++ e ∷ []) i d).literal.var ≢ f.literal.var) (same j d w) (ok.distinct i j d before (omega arith)));
      levels = AreLevels-popped t e ok.levels;
    }

-- the fields of what is assigned are right
pub record AreFields (lits : List Literal) (assignments : List Assignment) (values : List Value) (room : ℕ) : Type 0 where
  pub stored : IsStored lits assignments room
  pub values_right : AreValues values (length assignments) (trail_of lits assignments)
  pub trail : IsTrail (length assignments) (trail_of lits assignments)

-- and show a trail
pub record ShowFields (lits : List Literal) (assignments : List Assignment) (values : List Value) (room : ℕ) (t : Trail) : Type 0 where
  pub fields : AreFields lits assignments values room
  pub shown : trail_of lits assignments ≡ t

pub Fields-pushed : (lits more_lits : List Literal) (assignments : List Assignment) (values : List Value) (e : TrailEntry) (room more_room v n c cn : ℕ) → AreFields lits assignments values room → e.literal.var < length assignments → value_under (trail_of lits assignments) e.literal ≡ Free → e.level ≡ decisions (trail_of lits assignments ++ e ∷ []) → room ≤ more_room → v ≡ e.literal.var → n ≡ length lits → c ≡ literal_code e.literal → cn ≡ literal_code (negation e.literal) → more_lits ≡ lits ++ e.literal ∷ [] → ShowFields more_lits (set assignments v (record { place = n; level = e.level; reason = e.reason })) (set (set values c True) cn False) more_room (trail_of lits assignments ++ e ∷ [])
Fields-pushed lits more_lits assignments values e room more_room v n c cn f known free level le v_is n_is c_is cn_is lits_is =
    let t : Trail = trail_of lits assignments in
    let a : Assignment = record { place = length lits; level = e.level; reason = e.reason } in
    let more : List Assignment = set assignments e.literal.var a in
    let vals : List Value = set (set values (literal_code e.literal) True) (literal_code (negation e.literal)) False in
    let apart : (k : ℕ) (d : Literal) → k < length lits → (get_or lits k d).var ≢ e.literal.var = each-literal (λ (x : ℕ). x ≢ e.literal.var) lits assignments (absent-entry_of t e.literal.var (entry_of-free t e.literal free)) in
    let is : trail_of (lits ++ e.literal ∷ []) more ≡ t ++ e ∷ [] = trail_of-pushed lits e assignments (length lits) known apart in
    let ok : IsTrail (length assignments) (t ++ e ∷ []) = IsTrail-push (length assignments) t e f.trail known free level in
    let kept : length more ≡ length assignments = length-set assignments e.literal.var a in
    let fit = f.stored.fits in
    let new : ShowFields (lits ++ e.literal ∷ []) more vals more_room (t ++ e ∷ []) = record {
      fields = record {
        stored = record { placed = IsPlaced-push lits e.literal assignments a f.stored.placed refl known apart; fits = omega arith };
        values_right = subst (AreValues vals (length more)) (sym is) (subst (λ (m : ℕ). AreValues vals m (t ++ e ∷ [])) (sym kept) (AreValues-push values (length assignments) t e f.values_right ok.distinct));
        trail = subst (IsTrail (length more)) (sym is) (subst (λ (m : ℕ). IsTrail m (t ++ e ∷ [])) (sym kept) ok);
      };
      shown = is;
    } in
    subst (λ (w : ℕ). ShowFields more_lits (set assignments w (record { place = n; level = e.level; reason = e.reason })) (set (set values c True) cn False) more_room (t ++ e ∷ [])) (sym v_is)
    (subst (λ (m : ℕ). ShowFields more_lits (set assignments e.literal.var (record { place = m; level = e.level; reason = e.reason })) (set (set values c True) cn False) more_room (t ++ e ∷ [])) (sym n_is)
    (subst (λ (m : ℕ). ShowFields more_lits more (set (set values m True) cn False) more_room (t ++ e ∷ [])) (sym c_is)
    (subst (λ (m : ℕ). ShowFields more_lits more (set (set values (literal_code e.literal) True) m False) more_room (t ++ e ∷ [])) (sym cn_is)
    (subst (λ (ls : List Literal). ShowFields ls more vals more_room (t ++ e ∷ [])) (sym lits_is) new))))

pub Fields-popped : (all lits : List Literal) (l : Literal) (assignments : List Assignment) (values : List Value) (room less_room c cn : ℕ) → AreFields all assignments values room → all ≡ lits ++ l ∷ [] → c ≡ literal_code l → cn ≡ literal_code (negation l) → less_room ≡ room → AreFields lits assignments (set (set values c Free) cn Free) less_room
Fields-popped all lits l assignments values room less_room c cn f all_is c_is cn_is room_is =
    let t : Trail = trail_of lits assignments in
    let e : TrailEntry = entry_in assignments l in
    let was : AreFields (lits ++ l ∷ []) assignments values room = subst (λ (ls : List Literal). AreFields ls assignments values room) all_is f in
    let ok : IsTrail (length assignments) (t ++ e ∷ []) = subst (IsTrail (length assignments)) (trail_of-push lits l assignments) was.trail in
    let at : AreValues values (length assignments) (t ++ e ∷ []) = subst (AreValues values (length assignments)) (trail_of-push lits l assignments) was.values_right in
    let new : AreFields lits assignments (set (set values (literal_code l) Free) (literal_code (negation l)) Free) room = record {
      stored = record { placed = IsPlaced-popped lits l assignments was.stored.placed; fits = was.stored.fits };
      values_right = AreValues-popped values (length assignments) t e at ok.distinct;
      trail = IsTrail-popped (length assignments) t e ok;
    } in
    subst (λ (m : ℕ). AreFields lits assignments (set (set values m Free) cn Free) less_room) (sym c_is)
    (subst (λ (m : ℕ). AreFields lits assignments (set (set values (literal_code l) Free) m Free) less_room) (sym cn_is)
    (subst (λ (m : ℕ). AreFields lits assignments (set (set values (literal_code l) Free) (literal_code (negation l)) Free) m) (sym room_is) new))

pub Fields-grown : (lits same_lits : List Literal) (assignments more : List Assignment) (values more_values : List Value) (room more_room : ℕ) → AreFields lits assignments values room → same_lits ≡ lits → length assignments ≤ length more → length more ≤ 2147483648 → length more ≤ more_room → 2 * length more ≤ length more_values → ((k : ℕ) (d : Assignment) → k < length assignments → get_or more k d ≡ get_or assignments k d) → ((k : ℕ) (d : Value) → k < length more_values → k < length values → get_or more_values k d ≡ get_or values k d) → ((k : ℕ) (d : Value) → length values ≤ k → k < length more_values → get_or more_values k d ≡ Free) → ShowFields same_lits more more_values more_room (trail_of lits assignments)
Fields-grown lits same_lits assignments more values more_values room more_room f lits_is le few fits sized old old_values new_values =
    let t : Trail = trail_of lits assignments in
    let known : (k : ℕ) (d : Literal) → k < length lits → (get_or lits k d).var < length assignments = each-literal (λ (x : ℕ). x < length assignments) lits assignments f.trail.known in
    let is : trail_of lits more ≡ t = trail_of-grown lits assignments more known old in
    let ok : IsTrail (length more) t = record { few = few; known = λ k d w. let low = f.trail.known k d w in omega arith; distinct = f.trail.distinct; levels = f.trail.levels } in
    let next : ShowFields lits more more_values more_room t = record {
      fields = record {
        stored = record { placed = IsPlaced-grown lits assignments more f.stored.placed known old; fits = fits };
        values_right = subst (AreValues more_values (length more)) (sym is) (AreValues-grown values more_values (length assignments) (length more) t f.values_right f.trail.known sized old_values new_values);
        trail = subst (IsTrail (length more)) (sym is) ok;
      };
      shown = is;
    } in
    subst (λ (ls : List Literal). ShowFields ls more more_values more_room t) (sym lits_is) next

-- the last literal is of a known variable, and has a value as its negation has
last-known : (all lits : List Literal) (l : Literal) (assignments : List Assignment) (vars : ℕ) → IsTrail vars (trail_of all assignments) → all ≡ lits ++ l ∷ [] → l.var < vars
last-known all lits l assignments vars ok is =
    let t : Trail = trail_of lits assignments in
    let e : TrailEntry = entry_in assignments l in
    let long : length (t ++ e ∷ []) ≡ length t + 1 = length_push t e in
    let was : IsTrail vars (t ++ e ∷ []) = subst (IsTrail vars) (trail_of-push lits l assignments) (subst (λ (ls : List Literal). IsTrail vars (trail_of ls assignments)) is ok) in
    subst (λ (f : TrailEntry). f.literal.var < vars) (get_or-last t e (length t) e refl) (was.known (length t) e (omega arith))

coded : (v : ℕ) (b : Bool) (n m : ℕ) → v < n → 2 * n ≤ m → 2 * v + cond b 1 0 < m
coded v true n m low le = omega arith
coded v false n m low le = omega arith

pub last-valued : (all lits : List Literal) (l : Literal) (assignments : List Assignment) (values : List Value) (room : ℕ) → AreFields all assignments values room → all ≡ lits ++ l ∷ [] → literal_code l < length values
last-valued all lits l assignments values room f is = coded l.var l.negated (length assignments) (length values) (last-known all lits l assignments (length assignments) f.trail is) f.values_right.sized

pub negation-valued : (all lits : List Literal) (l : Literal) (assignments : List Assignment) (values : List Value) (room : ℕ) → AreFields all assignments values room → all ≡ lits ++ l ∷ [] → literal_code (negation l) < length values
negation-valued all lits l assignments values room f is = coded l.var (negation l).negated (length assignments) (length values) (last-known all lits l assignments (length assignments) f.trail is) f.values_right.sized

-- the last literal is of a known variable, and its level is the present one
pub known-at_last : (read lits : List Literal) (l : Literal) (assignments : List Assignment) → read ≡ lits → IsTrail (length assignments) (trail_of lits assignments) → 0 < length read → l ≡ get_or read (length read - 1) l → l.var < length assignments
known-at_last read lits l assignments same ok some is =
    let all : (k : ℕ) (d : Literal) → k < length read → (get_or read k d).var < length assignments = subst (λ (ls : List Literal). (k : ℕ) (d : Literal) → k < length ls → (get_or ls k d).var < length assignments) (sym same) (each-literal (λ (x : ℕ). x < length assignments) lits assignments ok.known) in
    subst (λ (x : Literal). x.var < length assignments) (sym is) (all (length read - 1) l (omega arith))

pub level-at_last : (read lits : List Literal) (l : Literal) (assignments : List Assignment) → read ≡ lits → IsTrail (length assignments) (trail_of lits assignments) → 0 < length read → l ≡ get_or read (length read - 1) l → (get_or assignments l.var any_assignment).level ≡ decisions (trail_of lits assignments)
level-at_last read lits l assignments same ok some is =
    let t : Trail = trail_of lits assignments in
    let k : ℕ = length read - 1 in
    let size : length read ≡ length lits = ap length same in
    let long : length t ≡ length lits = length-trail_of lits assignments in
    let at : get_or t k any_entry ≡ entry_in assignments (get_or lits k l) = entry-at lits assignments k any_entry l (omega arith) in
    let whole : take (suc k) t ≡ t = take_all (suc k) t (omega arith) in
    ap (λ (x : Literal). (get_or assignments x.var any_assignment).level) is
    ∙ ap (λ (ls : List Literal). (get_or assignments (get_or ls k l).var any_assignment).level) same
    ∙ sym (ap (λ (e : TrailEntry). e.level) at) ∙ ok.levels k any_entry (omega arith) ∙ ap decisions whole

-- what the fields show
abbrev view_of : ℕ → Trail → AssignedView
view_of vars t = record { vars = vars; trail = t }

-- after a push
pub view-pushed : (t : Trail) (e : TrailEntry) {vars more_vars : ℕ} (more : Trail) → more_vars ≡ vars → more ≡ t ++ e ∷ [] → view_of more_vars more ≡ view_of vars (t ++ e ∷ [])
view-pushed t e more size is = λ i. record { vars = size i; trail = is i }

-- the way back by one
pub taken-part : (level : ℕ) (old new : AssignedView) → IsTrail old.vars old.trail → level < decisions old.trail → TakesLast old new → part_up_to level new.trail ≡ part_up_to level old.trail
taken-part level old new ok above taken =
    let levels : AreLevels (new.trail ++ taken.last ∷ []) = subst AreLevels taken.trail ok.levels in
    let high : taken.last.level ≡ decisions (new.trail ++ taken.last ∷ []) = level-last new.trail taken.last levels in
    let same : decisions old.trail ≡ decisions (new.trail ++ taken.last ∷ []) = ap decisions taken.trail in
    sym (ap (part_up_to level) taken.trail ∙ part_up_to-push level new.trail taken.last (omega arith))

pub taken-level : (level : ℕ) (old new : AssignedView) → level < decisions old.trail → TakesLast old new → level ≤ decisions new.trail
taken-level level old new above taken =
    let same : decisions old.trail ≡ decisions (new.trail ++ taken.last ∷ []) = ap decisions taken.trail in
    let more : decisions (new.trail ++ taken.last ∷ []) ≡ decisions new.trail + cond (is_none taken.last.reason) 1 0 = decisions-push new.trail taken.last in
    let one : cond (is_none taken.last.reason) 1 0 ≤ 1 = at_most_one (is_none taken.last.reason) in
    omega arith

-- where a level is open, something is assigned
pub trail-open : (t : Trail) (level : ℕ) → level < decisions t → 0 < length t
trail-open t level above =
    let counted : decisions t ≤ length t = count_by-le-length (λ (e : TrailEntry). is_none e.reason) t in
    omega arith

pub part-whole : (vars level : ℕ) (t : Trail) → IsTrail vars t → decisions t ≤ level → part_up_to level t ≡ t
part-whole vars level t ok low = part_up_to-whole level t (λ k d w. let at : (get_or t k d).level ≤ decisions t = levels-bounded t ok.levels k d w in omega arith)

-- where the way back ends
pub went-back : (level : ℕ) (old new : AssignedView) → IsTrail new.vars new.trail → decisions new.trail ≤ level → part_up_to level new.trail ≡ part_up_to level old.trail → new.vars ≡ old.vars → new ≡ view_of old.vars (part_up_to level old.trail)
went-back level old new ok low part vars =
    let trail : new.trail ≡ part_up_to level old.trail = sym (part-whole new.vars level new.trail ok low) ∙ part in
    λ i. record { vars = vars i; trail = trail i }
