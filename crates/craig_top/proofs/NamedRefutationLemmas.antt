-- Refutations whose variables are named anew.
use Rattle.std.proofs.Common.{◌≡◌, ◌≢◌, ℕ, ◌<◌, List, [], ◌∷◌, length, get_or, map, Contains, AllPairs, refl, ap, sym, ◌∙◌, subst, arith}
use Rattle.std.proofs.lemmas.List.{get_or-map, length-map, map-append}
use Rattle.std.proofs.lemmas.List.Elements.{Contains-get_or}
use Rattle.craig_spec.specs.Literal.{Literal, Clause, negation}
use Rattle.craig_spec.specs.Chain.{Origin, Original, Derived, ToldStep}
use Rattle.craig_spec.specs.Needed.{IsOriginal}
use Rattle.craig_spec.specs.Cut.{PartClause, PartLiteral, with_units}
use Rattle.craig_spec.specs.DrawnFromOneRefutation.{IsOriginalOf, IsRefutationOf}
use Rattle.craig_base.specs.declared.script_part.Part.{Part}
use Rattle.craig_top.specs.Named.{named_origin, named_step, named_part_clause, bare_clauses, AreDifferent, AreClausesOver}
use Rattle.craig_search.specs.Verdict.{Assumptions}
use Rattle.craig_top.specs.Naming.{named_assumptions, named_literal, named_clause, written}
use Rattle.craig_top.specs.Sides.{parted, with_assumed}
use Rattle.craig_top.specs.Values.{IsOver, AreOver}
use Rattle.craig_top.proofs.OverLemmas.{IsOver-contains, IsRefutationOf-over}
use Rattle.craig_spec.proofs.MemberLemmas.{Contains-image, Contains-from_image}
use Rattle.craig_top.proofs.NamedChainLemmas.{SameLiterals-named, same_from_named, Contains-from_named}
use Rattle.craig_top.proofs.NamedStepsLemmas.{AreRising-named, EachStands-named}

-- an origin that is named is an original where it was
pub IsOriginal-from_named : (names : List ℕ) (origin : Origin) → IsOriginal (named_origin names origin) → IsOriginal origin
IsOriginal-from_named names (Original part) h = h
IsOriginal-from_named names (Derived first rest) h = h

-- the clauses as written are the dense ones, named
pub parted-named : (names : List ℕ) (accepted : List (Part × Clause)) → map (named_part_clause names) (parted accepted) ≡ written names accepted
parted-named names [] = refl
parted-named names (a ∷ accepted) = ap (λ cs. record { part = a.0.0; clause = named_clause names a.1 } ∷ cs) (parted-named names accepted)

pub parted-bare : (accepted : List (Part × Clause)) → bare_clauses (parted accepted) ≡ map (λ a. a.1) accepted
parted-bare [] = refl
parted-bare (a ∷ accepted) = ap (λ cs. a.1 ∷ cs) (parted-bare accepted)

-- with units they are those with the named units
written-units : (names : List ℕ) (assumptions : Assumptions) → written names (with_assumed [] assumptions) ≡ with_units [] (named_assumptions names assumptions)
written-units names [] = refl
written-units names (a ∷ assumptions) = ap (λ cs. record { part = a.0.0; clause = named_literal names a.1 ∷ [] } ∷ cs) (written-units names assumptions)

pub written-assumed : (names : List ℕ) (accepted : List (Part × Clause)) (assumptions : Assumptions) → written names (with_assumed accepted assumptions) ≡ with_units (written names accepted) (named_assumptions names assumptions)
written-assumed names [] assumptions = written-units names assumptions
written-assumed names (a ∷ accepted) assumptions = ap (λ cs. record { part = a.0.0; clause = named_clause names a.1 } ∷ cs) (written-assumed names accepted assumptions)

-- the literals of named assumptions are the named ones
pub literals-named : (names : List ℕ) (assumptions : Assumptions) → map (λ (f : PartLiteral). f.literal) (named_assumptions names assumptions) ≡ named_clause names (map (λ (a : Part × Literal). a.1) assumptions)
literals-named names [] = refl
literals-named names (a ∷ assumptions) = ap (λ ls. named_literal names a.1 ∷ ls) (literals-named names assumptions)

module _ (names : List ℕ) (differ : AreDifferent names) where
  -- no literal stands twice in the named clause
  pub distinct-named : (c : Clause) → IsOver (length names) c → AllPairs (λ l m. l ≢ m) c → AllPairs (λ l m. l ≢ m) (named_clause names c)
  distinct-named c over distinct i j d before within =
      let inside : j < length c = omega (arith, within, length-map c (named_literal names)) in
      let earlier : i < length c = omega (arith, before, inside) in
      rw (get_or-map (named_literal names) c i d d earlier, get_or-map (named_literal names) c j d d inside) λ same.
      distinct i j d before inside (same_from_named names differ (get_or c i d) (get_or c j d) (IsOver-contains (length names) c (get_or c i d) over (Contains-get_or c i d earlier)) (IsOver-contains (length names) c (get_or c j d) over (Contains-get_or c j d inside)) same)

  -- and none beside its negation
  not_tautology-at : (c : Clause) (l m : Literal) → IsOver (length names) c → ((l : Literal) → Contains c l → ¬ Contains c (negation l)) → Contains c l → m ≡ named_literal names l → ¬ Contains (named_clause names c) (negation m)
  not_tautology-at c l m over none here e there =
      let there2 : Contains (named_clause names c) (named_literal names (negation l)) = subst (λ (x : Literal). Contains (named_clause names c) (negation x)) e there in
      none l here (Contains-from_named names differ c (negation l) over (IsOver-contains (length names) c l over here) there2)

  pub not_tautology-named : (c : Clause) → IsOver (length names) c → ((l : Literal) → Contains c l → ¬ Contains c (negation l)) → (m : Literal) → Contains (named_clause names c) m → ¬ Contains (named_clause names c) (negation m)
  not_tautology-named c over none m here =
      let found = Contains-from_image (named_literal names) c m here in
      not_tautology-at c found.0 m over none found.1 found.2

  -- a named original is one of the named clauses
  pub IsOriginalOf-named : (clauses : List PartClause) (s : ToldStep) → IsOver (length names) s.literals → IsOriginalOf clauses s → IsOriginalOf (map (named_part_clause names) clauses) (named_step names s)
  IsOriginalOf-named clauses s over original = record {
    source = named_part_clause names original.source;
    is_one = Contains-image (named_part_clause names) clauses original.source original.is_one;
    part = ap (named_origin names) original.part;
    literals = SameLiterals-named names original.source.clause s.literals original.literals;
    distinct = distinct-named s.literals over original.distinct;
    not_tautology = not_tautology-named s.literals over original.not_tautology;
  }

  pub originals-named : (clauses : List PartClause) (steps : List ToldStep) → AreClausesOver (length names) steps → ((s : ToldStep) → Contains steps s → IsOriginal s.origin → IsOriginalOf clauses s)
      → (s : ToldStep) → Contains (map (named_step names) steps) s → IsOriginal s.origin → IsOriginalOf (map (named_part_clause names) clauses) s
  originals-named clauses steps over originals s here is =
      let found = Contains-from_image (named_step names) steps s here in
      let is_before : IsOriginal found.0.origin = IsOriginal-from_named names found.0.origin (subst (λ (r : ToldStep). IsOriginal r.origin) found.2 is) in
      subst (λ r. IsOriginalOf (map (named_part_clause names) clauses) r) (sym found.2) (IsOriginalOf-named clauses found.0 (over found.0 found.1) (originals found.0 found.1 is_before))

  -- a named refutation refutes the named clauses
  pub IsRefutationOf-named : (clauses : List PartClause) (steps : List ToldStep) (root : ℕ) → AreOver (length names) (bare_clauses clauses) → IsRefutationOf clauses steps root
      → IsRefutationOf (map (named_part_clause names) clauses) (map (named_step names) steps) root
  IsRefutationOf-named clauses steps root over refutes =
      let all : AreClausesOver (length names) steps = IsRefutationOf-over (length names) clauses steps root over refutes in
      record {
        rising = AreRising-named names steps refutes.rising;
        stand = EachStands-named names differ steps all refutes.stand;
        originals = originals-named clauses steps all refutes.originals;
        before = map (named_step names) refutes.before;
        last = named_step names refutes.last;
        ends = ap (map (named_step names)) refutes.ends ∙ map-append (named_step names) refutes.before (refutes.last ∷ []);
        root_is = refutes.root_is;
        empty = ap (named_clause names) refutes.empty;
      }
