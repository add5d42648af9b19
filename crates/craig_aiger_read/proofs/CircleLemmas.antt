-- Laws of the gates whose depths are found one after the other.
use Rattle.std.proofs.Common.{◌≡◌, ℕ, zero, suc, ◌+◌, ◌<◌, ◌≤◌, Bool, true, false, cond, List, ◌∷◌, length, drop, map, get_or, replicate, Option, Some, None, Ok, ⊎_elim, refl, sym, ◌∙◌, ap, arith}
use Rattle.std.proofs.lemmas.Bool.{cases_lt}
use Rattle.std.proofs.lemmas.List.{drop_all, drop_more, length-replicate, get_or_default, same_lists}
use Rattle.std.proofs.lemmas.List.FromFn.{get_or-map-range_with_len, length-map-range_with_len}
use Rattle.std.specs.Prelude.{find, is_none}
use Rattle.std.specs.List.{enumerate_from, range_with_len}
use Rattle.std.specs.Option.{option_map}
use Rattle.craig_spec.specs.AigerReading.{GateLine, fault, first_cyclic, gate_depth, unless_found}
use Rattle.craig_spec.specs.AigerFault.{FaultKind}
use Rattle.craig_spec.specs.Circuit.{Gate}
use Rattle.std.proofs.lemmas.Option.{slice_get-get_or}
use Rattle.craig_aiger_read.specs.ReadOrder.{AreDeep}
use Rattle.craig_spec.proofs.AigerDepthLemmas.{HaveDepths-found, depth-le, gate-deep, is_deepless}
use Rattle.craig_aiger_read.specs.ReadDepths.{AreDepths, StayKnown, depths_of}

-- the depths of so many gates are known
pub record SettledSoFar (first : ℕ) (gates : List Gate) (lines : List GateLine) (i : ℕ) (known : List (Option ℕ)) : Type 0 where
  pub depths : AreDepths first gates known
  pub before : (j : ℕ) → j < i → (d : ℕ) × (get_or known j None ≡ Some d)
  pub found : find (is_deepless first gates) (enumerate_from i (drop i lines)) ≡ find (is_deepless first gates) (enumerate_from 0 lines)

get_or-none : (n j : ℕ) → get_or {A = Option ℕ} (replicate n None) j None ≡ None
get_or-none zero j = refl
get_or-none (suc n) zero = refl
get_or-none (suc n) (suc j) = get_or-none n j

none-some-clash : (o : Option ℕ) (d : ℕ) → o ≡ None → o ≡ Some d → ⊥
none-some-clash o d n s = cc

-- before the first gate
pub settled-none : (first : ℕ) (gates : List Gate) (lines : List GateLine) (known : List (Option ℕ)) → known ≡ replicate (length gates) None → SettledSoFar first gates lines 0 known
settled-none first gates lines known is = record {
  depths = record {
    long = ap length is ∙ length-replicate (length gates) None;
    right = λ j d e. absurd (none-some-clash (get_or known j None) d (ap (λ z. get_or z j None) is ∙ get_or-none (length gates) j) e);
    few = λ j d e. absurd (none-some-clash (get_or known j None) d (ap (λ z. get_or z j None) is ∙ get_or-none (length gates) j) e);
  };
  before = λ j low. absurd (omega arith);
  found = refl;
}

at-line : (first : ℕ) (gates : List Gate) (lines : List GateLine) (i : ℕ) (line : GateLine) (t : Bool) → i < length lines → line ≡ get_or lines i line → is_none (gate_depth first gates i) ≡ t →
    find (is_deepless first gates) (enumerate_from i (drop i lines)) ≡ cond t (Some (i, line)) (find (is_deepless first gates) (enumerate_from (i + 1) (drop (i + 1) lines)))
at-line first gates lines i line t inside at e =
    let split : drop i lines ≡ line ∷ drop (i + 1) lines = drop_more lines i line inside ∙ ap (λ z. z ∷ drop (i + 1) lines) (sym at) in
    ap (λ z. find (is_deepless first gates) (enumerate_from i z)) split ∙ ap (λ z. cond z (Some (i, line)) (find (is_deepless first gates) (enumerate_from (i + 1) (drop (i + 1) lines)))) e

-- one gate more
pub settled-more : (first : ℕ) (gates : List Gate) (lines : List GateLine) (i d : ℕ) (line : GateLine) (known new : List (Option ℕ)) → SettledSoFar first gates lines i known → i < length lines → line ≡ get_or lines i line →
    AreDepths first gates new → StayKnown known new → get_or new i None ≡ Some d → SettledSoFar first gates lines (i + 1) new
settled-more first gates lines i d line known new h inside at depths stay here = record {
  depths = depths;
  before = λ j low. ⊎_elim (λ (less : j < i). let p = h.before j less in (p.0, stay j p.0 p.1))
      (λ (high : i ≤ j). let same : i ≡ j = omega arith in (d, ap (λ z. get_or new z None) (sym same) ∙ here)) (cases_lt j i);
  found = sym (at-line first gates lines i line false inside at (ap is_none (depths.right i d here))) ∙ h.found;
}

-- a gate without a depth
pub settled-circle : (first : ℕ) (gates : List Gate) (lines : List GateLine) (i : ℕ) (line : GateLine) (known : List (Option ℕ)) → SettledSoFar first gates lines i known → i < length lines → line ≡ get_or lines i line →
    gate_depth first gates i ≡ None → depths_of first gates lines ≡ fault FaultKind.Cycle line.offset
settled-circle first gates lines i line known h inside at none =
    let found : find (is_deepless first gates) (enumerate_from 0 lines) ≡ Some (i, line) =
    sym h.found ∙ at-line first gates lines i line true inside at (ap is_none none) in
    rw found refl

-- after the last gate
pub settled-all : (first : ℕ) (gates : List Gate) (lines : List GateLine) (i : ℕ) (known : List (Option ℕ)) → SettledSoFar first gates lines i known → length lines ≤ i → length gates ≡ length lines →
    depths_of first gates lines ≡ Ok known
settled-all first gates lines i known h past beside =
    let found : find (is_deepless first gates) (enumerate_from 0 lines) ≡ None =
    sym h.found ∙ ap (λ z. find (is_deepless first gates) (enumerate_from i z)) (drop_all i lines past) in
    let all : map (gate_depth first gates) (range_with_len 0 (length gates)) ≡ known =
    same_lists (map (gate_depth first gates) (range_with_len 0 (length gates))) known (length-map-range_with_len (gate_depth first gates) 0 (length gates) ∙ sym h.depths.long)
    (λ k d inside.
    let low : k < length gates = omega (arith, inside, length-map-range_with_len (gate_depth first gates) 0 (length gates)) in
    let p = h.before k (omega (arith, low, past, beside)) in
    get_or-map-range_with_len (gate_depth first gates) 0 (length gates) k k d low (omega arith) ∙ h.depths.right k p.0 p.1 ∙ sym p.1
    ∙ get_or_default known k None d (omega (arith, low, h.depths.long))) in
    rw (found, all) refl

depths-by : (first : ℕ) (gates : List Gate) (lines : List GateLine) (known : List (Option ℕ)) (o : Option (ℕ × GateLine)) → find (is_deepless first gates) (enumerate_from 0 lines) ≡ o →
    unless_found FaultKind.Cycle (option_map (λ (p : ℕ × GateLine). p.1.offset) o) (Ok (map (gate_depth first gates) (range_with_len 0 (length gates)))) ≡ Ok known →
    (o ≡ None) × (known ≡ map (gate_depth first gates) (range_with_len 0 (length gates)))
depths-by first gates lines known None e h = (refl, cc)
depths-by first gates lines known (Some p) e h = cc

-- what is known where all depths are
pub record AllDeep (first : ℕ) (gates : List Gate) (lines : List GateLine) (known : List (Option ℕ)) : Type 0 where
  pub acyclic : first_cyclic first gates lines ≡ None
  pub are : known ≡ map (gate_depth first gates) (range_with_len 0 (length gates))
  pub deep : AreDeep known

pub depths-all : (first : ℕ) (gates : List Gate) (lines : List GateLine) (known : List (Option ℕ)) → length gates ≡ length lines → depths_of first gates lines ≡ Ok known → AllDeep first gates lines known
unfolding gate_depth
depths-all first gates lines known beside h =
    let p = depths-by first gates lines known (find (is_deepless first gates) (enumerate_from 0 lines)) refl h in
    let size : length known ≡ length gates = ap length p.1 ∙ length-map-range_with_len (gate_depth first gates) 0 (length gates) in
    record {
      acyclic = ap (option_map (λ (q : ℕ × GateLine). q.1.offset)) p.0;
      are = p.1;
      deep = λ j inside.
          let low : j < length gates = omega (arith, inside, size) in
          let place : 0 + j ≡ j = omega arith in
          let s = HaveDepths-found first gates lines beside p.0 j low in
          let at : get_or known j None ≡ Some s.0 = ap (λ z. get_or z j None) p.1 ∙ get_or-map-range_with_len (gate_depth first gates) 0 (length gates) j j None low place ∙ s.1 in
          let g : Gate = record { left = 0; right = 0 } in
          let one = gate-deep first gates (length gates) j s.0 (get_or gates j g) (slice_get-get_or gates j g low) s.1 in
          let most = depth-le first gates (length gates) (first + j) s.0 s.1 in
          (s.0, at, omega (arith, one), omega (arith, most, size));
    }
