-- The outputs of one refutation at its cuts, constant at the outer ones.
use Rattle.std.proofs.Common.{◌≡◌, inl, inr, ℕ, ◌<◌, ◌≤◌, Bool, true, false, cond, eqb, refl, sym, ◌∙◌, arith, eqb-true}
use Rattle.std.proofs.lemmas.Bool.{cases_Bool, both_ways}
use Rattle.craig_spec.specs.Truth.{Assignment}
use Rattle.craig_spec.specs.Chain.{Told}
use Rattle.craig_spec.specs.Cut.{is_between, is_on_side_a, is_on_side_b}
use Rattle.craig_spec.specs.PartialInterpolant.{Label}
use Rattle.craig_label.specs.Sides.{SidesView}
use Rattle.craig_itp.specs.Interpolants.{NeededHaveParts}
use Rattle.craig_itp.specs.Labellings.{IsEmptyRoot, PartsHold, cut_value, output_value}
use Rattle.craig_itp.proofs.CutsLemmas.{cut-implied, cut-nothing_left, cut-refuted, cut-step}
use Rattle.craig_itp.proofs.TestLemmas.{is_between-from, is_on_side_a-from, is_on_side_a-true, is_on_side_b-from, is_on_side_b-true}

-- an output by whether its cut is the first or the last
first_output : (a b v : Bool) → a ≡ true → cond a true (cond b false v) ≡ true
first_output true b v h = refl
first_output false b v h = cc

last_output : (a b v : Bool) → a ≡ false → b ≡ true → cond a true (cond b false v) ≡ false
last_output true b v h k = cc
last_output false true v h k = refl
last_output false false v h k = cc

inner_output : (a b v : Bool) → a ≡ false → b ≡ false → cond a true (cond b false v) ≡ v
inner_output true b v h k = cc
inner_output false true v h k = cc
inner_output false false v h k = refl

module _ (sides : SidesView) (marks : ℕ → Label) (t : Told) (root : ℕ) (r : IsEmptyRoot t root) (some : 1 ≤ sides.parts) (parts : NeededHaveParts sides.parts t.steps root) (s : Assignment) where
  -- a test that passes nothing more than another asks no more
  PartsHold-less : (one two : ℕ → Bool) → ((part : ℕ) → part ≤ sides.parts → two part ≡ true → one part ≡ true) → PartsHold one t.steps root s → PartsHold two t.steps root s
  PartsHold-less one two less hold q part here need is passes = hold q part here need is (less part (parts q part here need is) passes)

  -- one that all parts pass contradicts the refutation
  none : (test : ℕ → Bool) → ((part : ℕ) → part ≤ sides.parts → test part ≡ true) → PartsHold test t.steps root s → ⊥
  none test all hold = cut-nothing_left t root r s (PartsHold-less test (λ part. true) (λ part within passes. all part within) hold)

  at_first : (cut : ℕ) → eqb cut 0 ≡ true → output_value sides marks t.steps root cut s ≡ true
  at_first cut first = first_output (eqb cut 0) (eqb cut sides.parts) (cut_value sides marks t.steps root cut s) first

  at_last : (cut : ℕ) → eqb cut 0 ≡ false → eqb cut sides.parts ≡ true → output_value sides marks t.steps root cut s ≡ false
  at_last cut other last = last_output (eqb cut 0) (eqb cut sides.parts) (cut_value sides marks t.steps root cut s) other last

  at_inner : (cut : ℕ) → eqb cut 0 ≡ false → eqb cut sides.parts ≡ false → output_value sides marks t.steps root cut s ≡ cut_value sides marks t.steps root cut s
  at_inner cut other inner = inner_output (eqb cut 0) (eqb cut sides.parts) (cut_value sides marks t.steps root cut s) other inner

  -- an output follows from the originals of side A
  pub output-implied : (cut : ℕ) → cut ≤ sides.parts → PartsHold (is_on_side_a cut) t.steps root s → output_value sides marks t.steps root cut s ≡ true
  output-implied cut within hold =
      elim (cases_Bool (eqb cut 0)) [
        | inl first ↦ at_first cut first
        | inr other ↦ elim (cases_Bool (eqb cut sides.parts)) [
          | inl last ↦ absurd (let end : cut ≡ sides.parts = eqb-true cut sides.parts last in none (is_on_side_a cut) (λ part low. is_on_side_a-from cut part (omega arith)) hold)
          | inr inner ↦ at_inner cut other inner ∙ cut-implied sides marks t root r cut s hold
        ]
      ]

  -- and contradicts those of side B
  pub output-refuted : (cut : ℕ) → cut ≤ sides.parts → PartsHold (is_on_side_b cut) t.steps root s → output_value sides marks t.steps root cut s ≡ false
  output-refuted cut within hold =
      elim (cases_Bool (eqb cut 0)) [
        | inl first ↦ absurd (
            let zero : cut ≡ 0 = eqb-true cut 0 first in
            none (is_on_side_b cut) (λ part low. is_on_side_b-from cut part (elim (cases_Bool (eqb part 0)) [
              | inl common ↦ inl (eqb-true part 0 common)
              | inr other ↦ inr (let above : 0 < part = not_zero part other in omega arith)
            ])) hold)
        | inr other ↦ elim (cases_Bool (eqb cut sides.parts)) [
          | inl last ↦ at_last cut other last
          | inr inner ↦ at_inner cut other inner ∙ cut-refuted sides marks t root r cut s hold
        ]
      ]
    where
      not_zero : (n : ℕ) → eqb n 0 ≡ false → 0 < n
      not_zero n h = grind (arith, eqb-true)

  -- with the originals between them it implies that of a later cut
  pub output-step : (cut later : ℕ) → cut < later → later ≤ sides.parts → PartsHold (is_between cut later) t.steps root s → output_value sides marks t.steps root cut s ≡ true → output_value sides marks t.steps root later s ≡ true
  output-step cut later below within hold before =
      elim (cases_Bool (eqb later 0)) [
        | inl first ↦ absurd (let zero : later ≡ 0 = eqb-true later 0 first in omega arith)
        | inr other ↦ elim (cases_Bool (eqb later sides.parts)) [
          | inl last ↦ absurd (
              let end : later ≡ sides.parts = eqb-true later sides.parts last in
              let behind : PartsHold (is_on_side_b cut) t.steps root s = PartsHold-less (is_between cut later) (is_on_side_b cut) (λ part low b. is_between-from cut later part (is_on_side_b-true cut part b) (omega arith)) hold in
              both_ways (output_value sides marks t.steps root cut s) (output-refuted cut (omega arith) behind) before)
          | inr inner ↦ at_inner later other inner ∙ (elim (cases_Bool (eqb cut 0)) [
            | inl first ↦ (
                let zero : cut ≡ 0 = eqb-true cut 0 first in
                let up_to : PartsHold (is_on_side_a later) t.steps root s = PartsHold-less (is_between cut later) (is_on_side_a later) (λ part low a. is_between-from cut later part (elim (cases_Bool (eqb part 0)) [
                  | inl common ↦ inl (eqb-true part 0 common)
                  | inr not_common ↦ inr (let above : 0 < part = not_zero part not_common in omega arith)
                ]) (is_on_side_a-true later part a)) hold in
                cut-implied sides marks t root r later s up_to)
            | inr not_first ↦ (
                let at : output_value sides marks t.steps root cut s ≡ cut_value sides marks t.steps root cut s = at_inner cut not_first (not_end cut later sides.parts below within) in
                cut-step sides marks t root r cut later (omega arith) s hold (sym at ∙ before))
          ])
        ]
      ]
    where
      not_zero : (n : ℕ) → eqb n 0 ≡ false → 0 < n
      not_zero n h = grind (arith, eqb-true)

      not_end : (a b n : ℕ) → a < b → b ≤ n → eqb a n ≡ false
      not_end a b n lt le = elim (cases_Bool (eqb a n)) [
        | inl same ↦ absurd (let is : a ≡ n = eqb-true a n same in omega arith)
        | inr other ↦ other
      ]
