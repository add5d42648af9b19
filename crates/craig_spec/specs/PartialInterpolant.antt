-- Partial interpolants of a labelled system over the steps of a refutation: D'Silva, Kroening, Purandare and
-- Weissenbacher, "Interpolant Strength" (VMCAI 2010). Here each variable has one label, whichever literal it stands in.
use Rattle.std.specs.Prelude.{ℕ, Bool, true, false, not, ◌&&◌, ◌||◌, nat_eq, nat_le, List, [], ◌∷◌, IsTrue, if◌then◌else◌}
use Rattle.std.specs.List.{filter, fold, list_all}
use Rattle.craig_spec.specs.Literal.{Clause}
use Rattle.craig_spec.specs.Truth.{Assignment, clause_value, literal_value}
use Rattle.craig_spec.specs.Chain.{ChainStep, Origin, Original, Derived, ToldStep}

-- whether a variable counts as one of side A, of both sides or of side B
pub data Label : Type 0 where
  -- as one of side A
  A : Label
  -- as one of both sides
  AB : Label
  -- as one of side B
  B : Label

-- whether a label is A
abbrev pub is_a : Label → Bool
is_a A = true
is_a AB = false
is_a B = false

-- whether a label is B
abbrev pub is_b : Label → Bool
is_b A = false
is_b AB = false
is_b B = true

-- B is the lowest label and A the highest
abbrev pub rank : Label → ℕ
rank B = 0
rank AB = 1
rank A = 2

-- by which rule the clauses of each part are interpolated, and the label of each variable
pub record Labelling : Type 0 where
  -- the parts whose clauses are leaves of side A; those of the other parts are leaves of side B
  pub is_leaf_of_a : ℕ → Bool
  -- the label of each variable
  pub label : ℕ → Label

-- a leaf of side A has the disjunction of its literals that are labelled B
abbrev pub leaf_a_value : (ℕ → Label) → Assignment → Clause → Bool
leaf_a_value label s c = clause_value s (filter (λ l. is_b (label l.var)) c)

-- a leaf of side B has the conjunction of the negations of its literals that are labelled A
abbrev pub leaf_b_value : (ℕ → Label) → Assignment → Clause → Bool
leaf_b_value label s c = list_all (λ l. not (literal_value s l)) (filter (λ l. is_a (label l.var)) c)

-- what a resolvent has by the label of the pivot: the value of the pivot, that of the parent that holds it, and that of the other parent
abbrev pub join_value : Label → Bool → Bool → Bool → Bool
join_value A pivot left right = left || right
join_value AB pivot left right = (pivot || left) && (not pivot || right)
join_value B pivot left right = left && right

-- the value after the steps of a chain, from the value before them; those of the antecedents are given by their ids
abbrev pub chain_value : (ℕ → Label) → Assignment → (ℕ → Bool) → Bool → List ChainStep → Bool
chain_value label s value left [] = left
chain_value label s value left (step ∷ rest) =
    chain_value label s value (join_value (label step.pivot.var) (literal_value s step.pivot) left (value step.antecedent)) rest

-- the value of a clause by its origin, where those of the clauses before it are given by their ids
abbrev pub origin_value : Labelling → Assignment → (ℕ → Bool) → Clause → Origin → Bool
origin_value l s value c (Original part) = if l.is_leaf_of_a part then leaf_a_value l.label s c else leaf_b_value l.label s c
origin_value l s value c (Derived first rest) = chain_value l.label s value (value first) rest

-- the values, and this one under the id
abbrev pub with_value : (ℕ → Bool) → ℕ → Bool → ℕ → Bool
with_value value id b other = if nat_eq other id then b else value other

-- the values of the partial interpolants of the steps by their ids, from the first step on
unfoldable pub partial_values : Labelling → Assignment → List ToldStep → ℕ → Bool
partial_values l s steps = fold (λ value (step : ToldStep). with_value value step.id (origin_value l s value step.literals step.origin)) (λ id. false) steps

-- the value of the partial interpolant of the clause that was told under the id
abbrev pub partial_interpolant : Labelling → List ToldStep → ℕ → Assignment → Bool
partial_interpolant l steps id s = partial_values l s steps id

-- the label of a variable at a cut, by whether it occurs on side A and on side B, and by its mark where it occurs on both
abbrev pub label_at : Bool → Bool → Label → Label
label_at in_a in_b mark = if in_a then (if in_b then mark else A) else B

-- the labelling of a cut, by the variables that occur on side A and on side B: the clauses of the parts from 1 to the cut are leaves of side A, and those of the others, the common ones among them, leaves of side B
abbrev pub cut_labelling : ℕ → (ℕ → Bool) → (ℕ → Bool) → (ℕ → Label) → Labelling
cut_labelling cut in_a in_b mark = record {
  is_leaf_of_a = λ part. nat_le 1 part && nat_le part cut;
  label = λ x. label_at (in_a x) (in_b x) (mark x);
}

-- the lowest labelling: each variable is labelled B, and no clause is a leaf of side A
abbrev pub lowest_labelling : Labelling
lowest_labelling = record {
  is_leaf_of_a = λ part. false;
  label = λ x. B;
}

-- the highest labelling: each variable is labelled A, and each clause is a leaf of side A
abbrev pub highest_labelling : Labelling
highest_labelling = record {
  is_leaf_of_a = λ part. true;
  label = λ x. A;
}

-- the second labelling is nowhere lower than the first, and takes no leaf of side A to side B
pub record IsBelow (low high : Labelling) : Type 0 where
  -- the labels don't fall
  pub labels : (x : ℕ) → IsTrue (nat_le (rank (low.label x)) (rank (high.label x)))
  -- the leaves of side A stay
  pub leaves : (part : ℕ) → IsTrue (low.is_leaf_of_a part) → IsTrue (high.is_leaf_of_a part)
