-- Laws of gates that wait on a stack for their operands.
use Rattle.std.proofs.Common.{◌≡◌, ◌≢◌, ℕ, zero, suc, ◌+◌, ◌-◌, ◌*◌, ◌/◌, ◌<◌, ◌≤◌, Bool, true, false, cond, max, ltb, List, [], ◌∷◌, ◌++◌, length, map, take, set, get_or, slice_get, Option, Some, None, ◌⊎◌, inl, inr, ⊎_elim, refl, sym, ◌∙◌, ap, subst, arith}
use Rattle.std.proofs.lemmas.Option.{same_Some}
use Rattle.std.proofs.lemmas.Bool.{cases_lt}
use Rattle.std.proofs.lemmas.Bool.Decides.{nat_tests}
use Rattle.std.proofs.lemmas.List.{get_or-set_same, get_or-set_other, get_or_append_left, get_or_push, get_or-take, length-set, length-append, length-take-le}
use Rattle.std.proofs.lemmas.Option.{get_or_from_slice_get, slice_get-get_or, slice_get-map, slice_get_within}
use Rattle.craig_spec.specs.AigerReading.{depth, gate_at, gate_depth}
use Rattle.craig_spec.specs.Circuit.{Gate}
use Rattle.std.specs.Option.{option_map}
use Rattle.craig_aiger_read.specs.declared.gate.Gate.{Gate as KeptGate}
use Rattle.craig_aiger_read.specs.ReadViews.{as_operands}
use Rattle.craig_aiger_read.specs.ReadDepths.{AreDepths, StayKnown, known_count, known_depth}
use Rattle.craig_spec.proofs.AigerDepthLemmas.{IsPath, Operand, depth-le, gate-deep, gate_depth-operands, leaf-depth, operand-depth, path-falls}

-- one more is known
pub count-set : (known : List (Option ℕ)) (j d : ℕ) → j < length known → get_or known j None ≡ None → known_count (set known j (Some d)) ≡ suc (known_count known)
count-set [] j d inside none = absurd (omega arith)
count-set (None ∷ xs) zero d inside none = refl
count-set ((Some e) ∷ xs) zero d inside none = cc
count-set (None ∷ xs) (suc j) d inside none = count-set xs j d (omega arith) none
count-set ((Some e) ∷ xs) (suc j) d inside none = ap suc (count-set xs j d (omega arith) none)

count-le : (known : List (Option ℕ)) → known_count known ≤ length known
count-le [] = omega arith
count-le (None ∷ xs) = omega (arith, count-le xs)
count-le ((Some e) ∷ xs) = omega (arith, count-le xs)

pub count-lt : (known : List (Option ℕ)) (j : ℕ) → j < length known → get_or known j None ≡ None → known_count known < length known
count-lt [] j inside none = absurd (omega arith)
count-lt (None ∷ xs) zero inside none = omega (arith, count-le xs)
count-lt ((Some e) ∷ xs) zero inside none = cc
count-lt (None ∷ xs) (suc j) inside none = omega (arith, count-lt xs j (omega arith) none)
count-lt ((Some e) ∷ xs) (suc j) inside none = omega (arith, count-lt xs j (omega arith) none)

-- one place or two
pub same-place : (i j : ℕ) → (i ≡ j) ⊎ (i ≢ j)
same-place i j = ⊎_elim (λ (h : i < j). inr (λ e. omega arith)) (λ (h : j ≤ i). ⊎_elim (λ (g : j < i). inr (λ e. omega arith)) (λ (g : i ≤ j). inl (omega arith)) (cases_lt j i)) (cases_lt i j)

-- the depths with one more
depths-set : (first : ℕ) (gates : List Gate) (known : List (Option ℕ)) (k d : ℕ) → AreDepths first gates known → k < length known → get_or known k None ≡ None →
    gate_depth first gates k ≡ Some d → d ≤ suc (known_count known) → AreDepths first gates (set known k (Some d))
depths-set first gates known k d h inside none is low = record {
  long = length-set known k (Some d) ∙ h.long;
  right = λ j e found.
      elim (same-place j k) as (λ _. gate_depth first gates j ≡ Some e) [
        | inl same ↦
            let here : Some d ≡ Some e = sym (get_or-set_same known k (Some d) None inside) ∙ ap (λ z. get_or (set known k (Some d)) z None) (sym same) ∙ found in
            ap (gate_depth first gates) same ∙ is ∙ here
        | inr other ↦ h.right j e (sym (get_or-set_other known k j (Some d) None other) ∙ found)
      ];
  few = λ j e found.
      elim (same-place j k) as (λ _. e ≤ known_count (set known k (Some d))) [
        | inl same ↦
            let here : Some d ≡ Some e = sym (get_or-set_same known k (Some d) None inside) ∙ ap (λ z. get_or (set known k (Some d)) z None) (sym same) ∙ found in
            omega (arith, low, count-set known k d inside none, same_Some d e here)
        | inr other ↦ omega (arith, h.few j e (sym (get_or-set_other known k j (Some d) None other) ∙ found), count-set known k d inside none)
      ];
}

stay-set : (old known : List (Option ℕ)) (k d : ℕ) → StayKnown old known → get_or known k None ≡ None → StayKnown old (set known k (Some d))
stay-set old known k d h none = λ j e found.
    elim (same-place j k) as (λ _. get_or (set known k (Some d)) j None ≡ Some e) [
      | inl same ↦ let clash : None ≡ Some e = sym none ∙ ap (λ z. get_or known z None) (sym same) ∙ h j e found in cc
      | inr other ↦ get_or-set_other known k j (Some d) None other ∙ h j e found
    ]

known-by : (first : ℕ) (gates : List Gate) (known : List (Option ℕ)) (v m : ℕ) (t : Bool) → AreDepths first gates known → ltb v first ≡ t →
    cond t (Some 0) (get_or known (v - first) None) ≡ Some m → (depth first gates (length gates) v ≡ Some m) × (m ≤ known_count known)
unfolding gate_depth
known-by first gates known v m true h test e =
    let none : gate_at first gates v ≡ None = rw test refl in
    (leaf-depth first gates (length gates) v none ∙ e, omega (arith, same_Some 0 m e))
known-by first gates known v m false h test e =
    let place : first + (v - first) ≡ v = grind (arith, nat_tests, test) in
    (ap (depth first gates (length gates)) (sym place) ∙ h.right (v - first) m e, h.few (v - first) m e)

-- where a literal's depth is known it is its depth
pub known-right : (first : ℕ) (gates : List Gate) (known : List (Option ℕ)) (l m : ℕ) → AreDepths first gates known → known_depth first known l ≡ Some m →
    (depth first gates (length gates) (l / 2) ≡ Some m) × (m ≤ known_count known)
known-right first gates known l m h e = known-by first gates known (l / 2) m (ltb (l / 2) first) h refl e

-- the state while gates wait for the depth of the first of them
pub record Settling (first : ℕ) (gates : List Gate) (old : List (Option ℕ)) (root : ℕ) (stack : List ℕ) (known : List (Option ℕ)) : Type 0 where
  pub depths : AreDepths first gates known
  pub stay : StayKnown old known
  pub path : IsPath first gates stack
  pub low : length stack ≤ length gates
  pub inside : (i : ℕ) → i < length stack → get_or stack i 0 < length gates
  pub unknown : (i : ℕ) → i < length stack → get_or known (get_or stack i 0) None ≡ None
  pub root_first : 0 < length stack → get_or stack 0 0 ≡ root
  pub root_known : length stack ≡ 0 → (d : ℕ) × (get_or known root None ≡ Some d)

-- the last of a path whose depth is known stands nowhere else on it
fresh : (first : ℕ) (gates : List Gate) (stack : List ℕ) (i n d : ℕ) → IsPath first gates stack → n < length stack → i < n → get_or stack i 0 ≡ get_or stack n 0 →
    gate_depth first gates (get_or stack n 0) ≡ Some d → ⊥
unfolding gate_depth
fresh first gates stack i n d path inside low same e =
    let m : ℕ = n - i in
    let sum : i + m ≡ n = omega (arith, low) in
    let here : depth first gates (length gates) (first + get_or stack i 0) ≡ Some d = ap (λ z. depth first gates (length gates) (first + z)) same ∙ e in
    let fall = path-falls first gates stack (length gates) i m d path (omega (arith, sum, inside)) here in
    let there : Some fall.0 ≡ Some d = sym fall.1 ∙ ap (λ z. depth first gates (length gates) (first + get_or stack z 0)) sum ∙ e in
    omega (arith, same_Some fall.0 d there, fall.2, sum, low)

none-from : (o : Option ℕ) → ((d : ℕ) → o ≡ Some d → ⊥) → o ≡ None
none-from None h = refl
none-from (Some d) h = absurd (h d refl)

-- the operand of a gate at the end of the stack
operand-of : (first : ℕ) (gates : List Gate) (top operand : ℕ) (g : Gate) → slice_get gates top ≡ Some g → (g.left / 2 ≡ first + operand) ⊎ (g.right / 2 ≡ first + operand) → Operand first gates top (first + operand)
operand-of first gates top operand g gate is = record { gate = g; is = gate; operand = is }

full-clash : (first : ℕ) (gates : List Gate) (stack : List ℕ) (n top operand d : ℕ) (g : Gate) → IsPath first gates stack → length stack ≡ suc n → get_or stack n 0 ≡ top → slice_get gates top ≡ Some g →
    (g.left / 2 ≡ first + operand) ⊎ (g.right / 2 ≡ first + operand) → operand < length gates → length gates ≤ length stack → gate_depth first gates (get_or stack 0 0) ≡ Some d → ⊥
unfolding gate_depth
full-clash first gates stack n top operand d g path size at gate is within high e =
    let fall = path-falls first gates stack (length gates) 0 n d path (omega (arith, size)) e in
    let last : depth first gates (length gates) (first + top) ≡ Some fall.0 =
    ap (λ z. depth first gates (length gates) (first + z)) (sym at ∙ ap (λ z. get_or stack z 0) (omega arith)) ∙ fall.1 in
    let below = operand-depth first gates (length gates) top (first + operand) fall.0 (operand-of first gates top operand g gate is) last in
    let deep = gate-deep first gates (length gates) operand below.0 (get_or gates operand g) (slice_get-get_or gates operand g within) below.1 in
    omega (arith, fall.2, below.2, deep, size, high, depth-le first gates (length gates) (first + get_or stack 0 0) d e)

-- what holds of each of a stack and of one more
each-push : (P : ℕ → Type 0) (stack : List ℕ) (x i : ℕ) → i < suc (length stack) → (i < length stack → P (get_or stack i 0)) → P x → P (get_or (stack ++ x ∷ []) i 0)
each-push P stack x i more old new =
    ⊎_elim (λ (low : i < length stack). subst P (sym (get_or_append_left stack (x ∷ []) 0 i low)) (old low))
    (λ (high : length stack ≤ i). let last : length stack ≡ i = omega arith in subst P (sym (get_or_push stack x 0 i last)) new) (cases_lt i (length stack))

next-push : (first : ℕ) (gates : List Gate) (stack : List ℕ) (x top n i : ℕ) (g : Gate) → length stack ≡ suc n → get_or stack n 0 ≡ top → slice_get gates top ≡ Some g →
    (g.left / 2 ≡ first + x) ⊎ (g.right / 2 ≡ first + x) → IsPath first gates stack → i + 1 < suc (length stack) →
    Operand first gates (get_or (stack ++ x ∷ []) i 0) (first + get_or (stack ++ x ∷ []) (i + 1) 0)
next-push first gates stack x top n i g size at gate is path more =
    let here : get_or (stack ++ x ∷ []) i 0 ≡ get_or stack i 0 = get_or_append_left stack (x ∷ []) 0 i (omega arith) in
    ⊎_elim (λ (low : i + 1 < length stack).
    let there : get_or (stack ++ x ∷ []) (i + 1) 0 ≡ get_or stack (i + 1) 0 = get_or_append_left stack (x ∷ []) 0 (i + 1) low in
    rw (here, there) (path.next i low))
    (λ (high : length stack ≤ i + 1).
    let last : i ≡ n = omega arith in
    let there : get_or (stack ++ x ∷ []) (i + 1) 0 ≡ x = get_or_push stack x 0 (i + 1) (omega arith) in
    let start : get_or (stack ++ x ∷ []) i 0 ≡ top = here ∙ ap (λ z. get_or stack z 0) last ∙ at in
    rw (there, start) (operand-of first gates top x g gate is)) (cases_lt (i + 1) (length stack))

-- one gate waits
pub settling-one : (first : ℕ) (gates : List Gate) (known : List (Option ℕ)) (root : ℕ) → AreDepths first gates known → root < length gates → get_or known root None ≡ None →
    Settling first gates known root (root ∷ []) known
settling-one first gates known root h inside none = record {
  depths = h;
  stay = λ j d e. e;
  path = record { next = λ i more. absurd (omega arith) };
  low = omega arith;
  inside = λ i more. let first_one : i ≡ 0 = omega arith in ap-lt i root (length gates) first_one inside;
  unknown = λ i more. let first_one : i ≡ 0 = omega arith in ap (λ z. get_or known (get_or (root ∷ []) z 0) None) first_one ∙ none;
  root_first = λ more. refl;
  root_known = λ none_waits. absurd (omega arith);
}
  where
    ap-lt : (i root n : ℕ) → i ≡ 0 → root < n → get_or (root ∷ []) i 0 < n
    ap-lt i root n e h = rw e h

-- none waits
pub settling-none : (first : ℕ) (gates : List Gate) (known : List (Option ℕ)) (root d : ℕ) → AreDepths first gates known → get_or known root None ≡ Some d →
    Settling first gates known root [] known
settling-none first gates known root d h e = record {
  depths = h;
  stay = λ j d e. e;
  path = record { next = λ i more. absurd (omega arith) };
  low = omega arith;
  inside = λ i more. absurd (omega arith);
  unknown = λ i more. absurd (omega arith);
  root_first = λ more. absurd (omega arith);
  root_known = λ none_waits. (d, e);
}

-- the last of the stack has its depth
pub settling-pop : (first : ℕ) (gates : List Gate) (old known : List (Option ℕ)) (root top left right d n : ℕ) (stack : List ℕ) (g : Gate) → Settling first gates old root stack known →
    length stack ≡ suc n → get_or stack n 0 ≡ top → slice_get gates top ≡ Some g → known_depth first known g.left ≡ Some left → known_depth first known g.right ≡ Some right →
    d ≡ suc (max left right) → Settling first gates old root (take n stack) (set known top (Some d))
settling-pop first gates old known root top left right d n stack g h size at gate l r is =
    let none : get_or known top None ≡ None = ap (λ z. get_or known z None) (sym at) ∙ h.unknown n (omega (arith, size)) in
    let inside : top < length gates = omega (arith, at, h.inside n (omega (arith, size))) in
    let within : top < length known = omega (arith, inside, h.depths.long) in
    let few : known_count known < length known = count-lt known top within none in
    let l2 = known-right first gates known g.left left h.depths l in
    let r2 = known-right first gates known g.right right h.depths r in
    let deep : gate_depth first gates top ≡ Some d =
    gate_depth-operands first gates top left right g gate l2.0 r2.0 (omega (arith, l2.1, few, h.depths.long)) (omega (arith, r2.1, few, h.depths.long)) ∙ ap Some (sym is) in
    let shorter : length (take n stack) ≡ n = length-take-le n stack (omega (arith, size)) in
    let apart : (i : ℕ) → i < n → get_or stack i 0 ≢ top = λ i low same. fresh first gates stack i n d h.path (omega (arith, low, size)) low (same ∙ sym at) (ap (gate_depth first gates) at ∙ deep) in
    record {
      depths = depths-set first gates known top d h.depths within none deep (omega (arith, is, l2.1, r2.1));
      stay = stay-set old known top d h.stay none;
      path = record {
        next = λ i more.
            let here : get_or (take n stack) i 0 ≡ get_or stack i 0 = get_or-take n stack i 0 (omega (arith, more, shorter)) in
            let there : get_or (take n stack) (i + 1) 0 ≡ get_or stack (i + 1) 0 = get_or-take n stack (i + 1) 0 (omega (arith, more, shorter)) in
            rw (here, there) (h.path.next i (omega (arith, more, shorter, size)));
      };
      low = omega (arith, shorter, h.low, size);
      inside = λ i more. let here : get_or (take n stack) i 0 ≡ get_or stack i 0 = get_or-take n stack i 0 (omega (arith, more, shorter)) in
          omega (arith, here, h.inside i (omega (arith, more, shorter, size)));
      unknown = λ i more. let here : get_or (take n stack) i 0 ≡ get_or stack i 0 = get_or-take n stack i 0 (omega (arith, more, shorter)) in
          ap (λ z. get_or (set known top (Some d)) z None) here ∙ get_or-set_other known top (get_or stack i 0) (Some d) None (apart i (omega (arith, more, shorter)))
          ∙ h.unknown i (omega (arith, more, shorter, size));
      root_first = λ more. get_or-take n stack 0 0 (omega (arith, more, shorter)) ∙ h.root_first (omega (arith, size));
      root_known = λ none_waits.
          let zero_left : n ≡ 0 = omega (arith, none_waits, shorter) in
          let same : root ≡ top = sym (h.root_first (omega (arith, size))) ∙ ap (λ z. get_or stack z 0) (sym zero_left) ∙ at in
          (d, ap (λ z. get_or (set known top (Some d)) z None) same ∙ get_or-set_same known top (Some d) None within);
    }

-- the last of the stack waits for a gate
pub settling-push : (first : ℕ) (gates : List Gate) (old known : List (Option ℕ)) (root top operand n : ℕ) (stack : List ℕ) (g : Gate) → Settling first gates old root stack known →
    length stack ≡ suc n → get_or stack n 0 ≡ top → slice_get gates top ≡ Some g → (g.left / 2 ≡ first + operand) ⊎ (g.right / 2 ≡ first + operand) →
    operand < length known → get_or known operand None ≡ None → length stack < length gates → Settling first gates old root (stack ++ operand ∷ []) known
settling-push first gates old known root top operand n stack g h size at gate is within none room =
    let longer : length (stack ++ operand ∷ []) ≡ suc (length stack) = omega (arith, length-append stack (operand ∷ [])) in
    let last : get_or (stack ++ operand ∷ []) (length stack) 0 ≡ operand = get_or_push stack operand 0 (length stack) refl in
    let before : (i : ℕ) → i < length stack → get_or (stack ++ operand ∷ []) i 0 ≡ get_or stack i 0 = λ i low. get_or_append_left stack (operand ∷ []) 0 i low in
    record {
      depths = h.depths;
      stay = h.stay;
      path = record { next = λ i more. next-push first gates stack operand top n i g size at gate is h.path (omega (arith, more, longer)) };
      low = omega (arith, longer, room);
      inside = λ i more. each-push (λ z. z < length gates) stack operand i (omega (arith, more, longer)) (λ low. h.inside i low) (omega (arith, within, h.depths.long));
      unknown = λ i more. each-push (λ z. get_or known z None ≡ None) stack operand i (omega (arith, more, longer)) (λ low. h.unknown i low) none;
      root_first = λ more. before 0 (omega (arith, size)) ∙ h.root_first (omega (arith, size));
      root_known = λ none_waits. absurd (omega (arith, none_waits, longer));
    }

-- a stack as high as there are gates, whose last waits for a gate
pub settling-full : (first : ℕ) (gates : List Gate) (old known : List (Option ℕ)) (root top operand n : ℕ) (stack : List ℕ) (g : Gate) → Settling first gates old root stack known →
    length stack ≡ suc n → get_or stack n 0 ≡ top → slice_get gates top ≡ Some g → (g.left / 2 ≡ first + operand) ⊎ (g.right / 2 ≡ first + operand) →
    operand < length known → length gates ≤ length stack → gate_depth first gates root ≡ None
settling-full first gates old known root top operand n stack g h size at gate is within high =
    none-from (gate_depth first gates root) (λ d e.
    full-clash first gates stack n top operand d g h.path size at gate is (omega (arith, within, h.depths.long)) high (ap (gate_depth first gates) (h.root_first (omega (arith, size))) ∙ e))

-- the last of the stack
pub record Top (stack : List ℕ) (top : ℕ) : Type 0 where
  pub below : ℕ
  pub size : length stack ≡ suc below
  pub at : get_or stack below 0 ≡ top

pub top-is : (stack : List ℕ) (top : ℕ) → slice_get stack (length stack - 1) ≡ Some top → Top stack top
top-is stack top e =
    let inside : length stack - 1 < length stack = slice_get_within stack (length stack - 1) top e in
    record { below = length stack - 1; size = omega (arith, inside); at = get_or_from_slice_get stack (length stack - 1) top 0 e }

pub top-none : (stack : List ℕ) → slice_get stack (length stack - 1) ≡ None → length stack ≡ 0
top-none [] e = refl
top-none (x ∷ xs) e =
    let inside : length (x ∷ xs) - 1 < length (x ∷ xs) = omega arith in
    let some : slice_get (x ∷ xs) (length (x ∷ xs) - 1) ≡ Some (get_or (x ∷ xs) (length (x ∷ xs) - 1) 0) = slice_get-get_or (x ∷ xs) (length (x ∷ xs) - 1) 0 inside in
    let clash : None ≡ Some (get_or (x ∷ xs) (length (x ∷ xs) - 1) 0) = sym e ∙ some in cc

-- what waits has no depth yet, so that there are more gates than known depths
pub top-inside : (first : ℕ) (gates : List Gate) (old known : List (Option ℕ)) (root top : ℕ) (stack : List ℕ) → Settling first gates old root stack known → Top stack top →
    (top < length gates) × (top < length known) × (get_or known top None ≡ None)
top-inside first gates old known root top stack h t =
    let inside : top < length gates = omega (arith, t.at, h.inside t.below (omega (arith, t.size))) in
    (inside, omega (arith, inside, h.depths.long), ap (λ z. get_or known z None) (sym t.at) ∙ h.unknown t.below (omega (arith, t.size)))

pub known-small : (first : ℕ) (gates : List Gate) (old known : List (Option ℕ)) (root top : ℕ) (stack : List ℕ) → Settling first gates old root stack known → Top stack top →
    (j d : ℕ) → get_or known j None ≡ Some d → d < length known
known-small first gates old known root top stack h t j d e =
    let p = top-inside first gates old known root top stack h t in
    omega (arith, h.depths.few j d e, count-lt known top p.1 p.2)

-- a kept gate
pub kept-gate : (gates : List KeptGate) (j : ℕ) (d : KeptGate) → j < length gates → slice_get (map as_operands gates) j ≡ Some (as_operands (get_or gates j d))
kept-gate gates j d inside = slice_get-map as_operands gates j ∙ ap (option_map as_operands) (slice_get-get_or gates j d inside)

-- each round comes nearer to the end
pop-smaller : (a known size : ℕ) → known < a → size ≤ a → (a - suc known) * (a + 1) + (a - size) < (a - known) * (a + 1) + (a - suc size)
pop-smaller a known size low high =
    let n : ℕ = a - suc known in
    let more : a - known ≡ suc n = omega (arith, low) in
    let product : suc n * (a + 1) ≡ n * (a + 1) + (a + 1) = grind arith in
    rw more (omega (arith, product, low, high))

pub pop-nearer : (a k k2 s s2 n : ℕ) → k2 ≡ suc k → s2 ≡ n → s ≡ suc n → k < a → n ≤ a → (a - k2) * (a + 1) + (a - s2) < (a - k) * (a + 1) + (a - s)
pop-nearer a k k2 s s2 n known cut size low high = rw (known, cut, size) (pop-smaller a k n low high)
