-- Clauses that have a sequence of interpolants have no model.
use Rattle.std.proofs.Common.{◌≡◌, ℕ, suc, length, arith, Bool, true, false, cond, List, [], ◌∷◌, map, filter, refl}
use Rattle.std.proofs.lemmas.Bool.{and_parts, and_from}
use Rattle.craig_spec.specs.Circuit.{Circuit, circuit_value}
use Rattle.craig_spec.specs.Cut.{PartClause, clauses_within}
use Rattle.craig_spec.specs.Sequence.{IsSequence}
use Rattle.craig_spec.specs.Truth.{Assignment, IsModel, IsUnsatisfiable, clause_value}
use Rattle.craig_top.proofs.ListedLiteralsLemmas.{not_both}

-- a model of all clauses is one of those of some parts
model-some : (s : Assignment) (test : ℕ → Bool) (cs : List PartClause) → IsModel s (map (λ (c : PartClause). c.clause) cs) → IsModel s (clauses_within test cs)
model-some s test [] model = refl
model-some s test (c ∷ cs) model =
    let parts : (clause_value s c.clause ≡ true) × IsModel s (map (λ (d : PartClause). d.clause) cs) = and_parts _ _ model in
    kept (test c.part) (filter (λ (d : PartClause). test d.part) cs) parts.0 (model-some s test cs parts.1)
  where
    kept : (t : Bool) (rest : List PartClause) → clause_value s c.clause ≡ true → IsModel s (map (λ (d : PartClause). d.clause) rest) → IsModel s (map (λ (d : PartClause). d.clause) (cond t (c ∷ rest) rest))
    kept true rest here later = and_from _ _ here later
    kept false rest here later = later

pub sequence_refutes : (clauses : List PartClause) (parts : ℕ) (cuts : List ℕ) (c : Circuit) (literals : List ℕ) → IsSequence clauses parts cuts c literals → IsUnsatisfiable (map (λ (p : PartClause). p.clause) clauses)
sequence_refutes clauses parts [] c literals sequence s model = sequence.chosen.some refl
sequence_refutes clauses parts (cut ∷ cuts) c [] sequence s model = absurd (let no : 0 ≡ suc (length cuts) = sequence.count in omega (arith, no))
sequence_refutes clauses parts (cut ∷ cuts) c (l ∷ literals) sequence s model =
    let first = sequence.separate 0 cut l (record { cut_is = refl; literal_is = refl }) in
    not_both (circuit_value s c l) (first.implied s (model-some s _ clauses model)) (first.refuted s (model-some s _ clauses model))
