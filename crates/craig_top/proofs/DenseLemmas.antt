-- Assignments of the script, and those of the dense variables whose names they make true.
use Rattle.std.proofs.Common.{◌≡◌, ◌∙◌, sym, ap, refl, ℕ, ◌<◌, Bool, true, false, not, cond, List, [], ◌∷◌, length, map, get_or, nat_lt, ltb-true, Contains, filter, arith, suc, zero}
use Rattle.std.proofs.lemmas.Bool.{and_parts}
use Rattle.std.specs.List.{list_all}
use Rattle.craig_spec.specs.Literal.{Clause}
use Rattle.craig_spec.specs.Truth.{Assignment, IsModel, variable_value, literal_value, clause_value}
use Rattle.craig_spec.specs.Cut.{PartClause, clauses_within}
use Rattle.craig_top.specs.Named.{bare_clauses, named_part_clause}
use Rattle.craig_top.specs.Naming.{named_literal, named_clause}
use Rattle.craig_top.specs.Values.{IsOver, AreOver}
use Rattle.craig_spec.proofs.MemberLemmas.{Contains-image}
use Rattle.craig_top.proofs.OverLemmas.{AreOver-contains}

-- the dense assignment gives each dense variable the value of its name
abbrev pub Agrees : List ℕ → (dense s : Assignment) → Type 0
Agrees names dense s = (x : ℕ) → x < length names → variable_value dense x ≡ variable_value s (get_or names x 0)

-- a clause has the value of the named clause
pub clause_value-named : (names : List ℕ) (dense s : Assignment) (c : Clause) → Agrees names dense s → IsOver (length names) c → clause_value dense c ≡ clause_value s (named_clause names c)
clause_value-named names dense s [] agrees over = refl
clause_value-named names dense s (l ∷ c) agrees over =
    let parts : (nat_lt l.var (length names) ≡ true) × IsOver (length names) c = and_parts _ _ over in
    let here : literal_value dense l ≡ literal_value s (named_literal names l) = ap (λ b. cond l.negated (not b) b) (agrees l.var (ltb-true l.var (length names) parts.0)) in
    rw (here, clause_value-named names dense s c agrees parts.1) refl

-- a model of the clauses that pass a test makes each of them true
pub model-within : (s : Assignment) (test : ℕ → Bool) (cs : List PartClause) → IsModel s (clauses_within test cs) → (c : PartClause) → Contains cs c → test c.part ≡ true → clause_value s c.clause ≡ true
model-within s test [] model c (k, within, at) e = absurd (omega (arith, within))
model-within s test (b ∷ cs) model c (zero, within, at) e =
    sym (ap (λ (d : PartClause). clause_value s d.clause) at) ∙ first (test b.part) (filter (λ (d : PartClause). test d.part) cs) (ap (λ (d : PartClause). test d.part) at ∙ e) model
  where
    first : (t : Bool) (rest : List PartClause) → t ≡ true → list_all (clause_value s) (map (λ (d : PartClause). d.clause) (cond t (b ∷ rest) rest)) ≡ true → clause_value s b.clause ≡ true
    first true rest is m = (and_parts _ _ m).0
    first false rest is m = absurd (let no : false ≡ true = is in cc)
model-within s test (b ∷ cs) model c (suc k, within, at) e =
    model-within s test cs (others (test b.part) (filter (λ (d : PartClause). test d.part) cs) model) c (k, omega (arith, within), at) e
  where
    others : (t : Bool) (rest : List PartClause) → list_all (clause_value s) (map (λ (d : PartClause). d.clause) (cond t (b ∷ rest) rest)) ≡ true → list_all (clause_value s) (map (λ (d : PartClause). d.clause) rest) ≡ true
    others true rest m = (and_parts _ _ m).1
    others false rest m = m

-- a model of the named clauses that pass a test makes the dense ones true that do
pub holds-within : (names : List ℕ) (dense s : Assignment) (test : ℕ → Bool) (clauses : List PartClause) → Agrees names dense s → AreOver (length names) (bare_clauses clauses) → IsModel s (clauses_within test (map (named_part_clause names) clauses))
    → (c : PartClause) → Contains clauses c → test c.part ≡ true → clause_value dense c.clause ≡ true
holds-within names dense s test clauses agrees over model c here e =
    clause_value-named names dense s c.clause agrees (AreOver-contains (length names) clauses c over here)
    ∙ model-within s test (map (named_part_clause names) clauses) model (named_part_clause names c) (Contains-image (named_part_clause names) clauses c here) e
