-- The outputs of chosen cuts.
use Rattle.std.proofs.Common.{◌≡◌, ◌⊎◌, inl, inr, ℕ, zero, suc, ◌+◌, ◌<◌, ◌≤◌, List, [], ◌∷◌, ◌++◌, length, get_or, slice_get, Contains, Some, sym, ap, ◌∙◌, subst, arith, length-append}
use Rattle.std.proofs.lemmas.Bool.{cases_lt}
use Rattle.std.proofs.lemmas.Option.{slice_get-get_or, slice_get_within, get_or_from_slice_get}
use Rattle.std.specs.List.{range_with_len}
use Rattle.std.proofs.lemmas.List.{get_or_append_left, get_or_at}
use Rattle.std.proofs.lemmas.List.FromFn.{get_or-range_with_len, length-range_with_len}
use Rattle.craig_spec.specs.Chain.{ToldStep}
use Rattle.craig_spec.specs.PartialInterpolant.{Label}
use Rattle.craig_label.specs.Sides.{SidesView}
use Rattle.craig_aig.specs.Edges.{Edge}
use Rattle.craig_aig.specs.Growth.{ArenaGrows, Extends, KeepsEdges}
use Rattle.craig_aig.specs.declared.node.Node.{Node}
use Rattle.craig_itp.specs.Interpolants.{IsInterpolant, IsOutput}
use Rattle.craig_aig.proofs.GrowthLemmas.{length-Extends}

-- an interpolant stays one when the arena grows
IsInterpolant-grown : (sides : SidesView) (cut : ℕ) (marks : ℕ → Label) (steps : List ToldStep) (root : ℕ) (nodes new : List Node) (e : Edge) → Extends nodes new → KeepsEdges nodes new → IsInterpolant sides cut marks steps root nodes e → IsInterpolant sides cut marks steps root new e
IsInterpolant-grown sides cut marks steps root nodes new e grown kept h =
    let inside : e.place < length new = omega (arith, length-Extends nodes new grown, h.within) in
    let keeps = kept e h.within inside in
    record {
      within = inside;
      value = λ s. keeps.value s ∙ h.value s;
      inputs = λ x reached. h.inputs x (subst (λ k. Contains k x) keeps.cone_is reached);
    }

-- so does an output
IsOutput-grown : (sides : SidesView) (cut : ℕ) (marks : ℕ → Label) (steps : List ToldStep) (root : ℕ) (nodes new : List Node) (e : Edge) → ArenaGrows nodes new → IsOutput sides cut marks steps root nodes e → IsOutput sides cut marks steps root new e
IsOutput-grown sides cut marks steps root nodes new e grows h = record {
  first = h.first;
  last = h.last;
  inner = λ low high. IsInterpolant-grown sides cut marks steps root nodes new e grows.extends grows.kept (h.inner low high);
}

pub at_pushed : (edges : List Edge) (last : Edge) (k : ℕ) (e : Edge) → slice_get (edges ++ last ∷ []) k ≡ Some e → (slice_get edges k ≡ Some e) ⊎ ((k ≡ length edges) × (last ≡ e))
at_pushed edges last k e h =
    let inside : k < length (edges ++ last ∷ []) = slice_get_within (edges ++ last ∷ []) k e h in
    let is : get_or (edges ++ last ∷ []) k e ≡ e = get_or_from_slice_get (edges ++ last ∷ []) k e e h in
    elim (cases_lt k (length edges)) [
      | inl lt ↦ inl (slice_get-get_or edges k e lt ∙ ap Some (sym (get_or_append_left edges (last ∷ []) e k lt) ∙ is))
      | inr ge ↦ let here : k ≡ length edges = omega (arith, length-append edges (last ∷ [])) in inr (here, sym (get_or_at edges last [] e k (sym here)) ∙ is)
    ]

-- each edge is the output at the cut of its place
module _ (sides : SidesView) (marks : ℕ → Label) (steps : List ToldStep) (root : ℕ) (cuts : List ℕ) where
  abbrev pub AreOutputs : List Node → List Edge → Type 0
  AreOutputs nodes edges = (place cut : ℕ) (e : Edge) → slice_get cuts place ≡ Some cut → slice_get edges place ≡ Some e → IsOutput sides cut marks steps root nodes e

  -- one more
  pub AreOutputs-pushed : (nodes new : List Node) (edges more : List Edge) (last : Edge) (count now d : ℕ) → length edges ≡ count → ArenaGrows nodes new → AreOutputs nodes edges → now ≡ get_or cuts count d → count < length cuts → IsOutput sides now marks steps root new last → more ≡ edges ++ last ∷ [] → AreOutputs new more
  AreOutputs-pushed nodes new edges more last count now d counted grows each here within output is place cut e at found =
      elim (at_pushed edges last place e (subst (λ (es : List Edge). slice_get es place ≡ Some e) is found)) [
        | inl before ↦ IsOutput-grown sides cut marks steps root nodes new e grows (each place cut e at before)
        | inr last_one ↦ (
            let same_place : place ≡ count = last_one.0 ∙ counted in
            let at_count : slice_get cuts count ≡ Some cut = subst (λ (k : ℕ). slice_get cuts k ≡ Some cut) same_place at in
            let same_cut : now ≡ cut = here ∙ get_or_from_slice_get cuts count cut d at_count in
            subst (λ (k : ℕ). IsOutput sides k marks steps root new e) same_cut (subst (IsOutput sides now marks steps root new) last_one.1 output))
      ]

pub length-pushed : (edges more : List Edge) (last : Edge) (count : ℕ) → length edges ≡ count → more ≡ edges ++ last ∷ [] → length more ≡ count + 1
length-pushed edges more last count counted is = omega (arith, ap length is, length-append edges (last ∷ []))

-- one cut more
more_cuts : (a n j : ℕ) → a + n ≡ j → range_with_len a (suc n) ≡ range_with_len a n ++ j ∷ []
more_cuts a zero j e = ap (λ k. k ∷ []) (let same : a ≡ j = omega (arith, e) in same)
more_cuts a (suc n) j e = ap (λ ks. a ∷ ks) (more_cuts (a + 1) n j (omega (arith, e)))

pub all_cuts-more : (n j : ℕ) → n ≡ j → range_with_len 0 (n + 1) ≡ range_with_len 0 n ++ j ∷ []
all_cuts-more n j e = ap (range_with_len 0) (let is : n + 1 ≡ suc n = omega arith in is) ∙ more_cuts 0 n j (omega (arith, e))

-- each is within the parts
pub all_cuts-within : (parts : ℕ) (cuts : List ℕ) → cuts ≡ range_with_len 0 (parts + 1) → (k d : ℕ) → k < length cuts → get_or cuts k d ≤ parts
all_cuts-within parts cuts is k d within =
    let low : k < parts + 1 = omega (arith, ap length is, length-range_with_len 0 (parts + 1)) in
    let at : get_or cuts k d ≡ 0 + k = ap (λ (ks : List ℕ). get_or ks k d) is ∙ get_or-range_with_len 0 (parts + 1) k d low in
    omega arith
