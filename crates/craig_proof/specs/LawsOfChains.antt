-- The laws of resolution chains.
use Rattle.std.specs.Prelude.{◌≡◌, ◌<◌, [], ◌∷◌, ◌++◌, ℕ, List, Option, Some, Contains, IsTrue}
use Rattle.craig_spec.specs.Literal.{Clause, Literal}
use Rattle.craig_spec.specs.Truth.{Assignment, clause_value}
use Rattle.craig_spec.specs.Occurs.{occurs_in_clause}
use Rattle.craig_spec.specs.Chain.{ChainStep, Derived, IsResolvent, ChainOk, GivesSame, SameLiterals, antecedents}
use Rattle.craig_spec.specs.PackedChain.{AreBefore, packed_chain}
use Rattle.craig_base.specs.Clauses.{IsTautology}
use Rattle.craig_proof.specs.Covers.{GivesSome}
use Rattle.craig_proof.specs.Tracer.{chain_of}
use Rattle.craig_proof.specs.declared.step.Step.{Step}

-- a chain is one over clauses with the same literals under the ids that it names
abbrev pub ChainsOverSameClauses : Type 0
ChainsOverSameClauses = (f g : ℕ → Option Clause) (literals : Clause) (first : ℕ) (rest : List ChainStep) → ((id : ℕ) → Contains (antecedents (Derived first rest)) id → GivesSame f g id) → ChainOk f literals first rest → ChainOk g literals first rest

-- the clause of a chain is true wherever those of its antecedents are
abbrev pub ChainsAreSound : Type 0
ChainsAreSound = (f : ℕ → Option Clause) (literals : Clause) (first : ℕ) (rest : List ChainStep) → ChainOk f literals first rest → (a : Assignment) → ((id : ℕ) (c : Clause) → Contains (antecedents (Derived first rest)) id → f id ≡ Some c → IsTrue (clause_value a c)) → IsTrue (clause_value a literals)

-- the clause of a chain is no tautology where no clause of an antecedent is one
abbrev pub ChainsKeepFromTautologies : Type 0
ChainsKeepFromTautologies = (f : ℕ → Option Clause) (literals : Clause) (first : ℕ) (rest : List ChainStep) → ChainOk f literals first rest → ((id : ℕ) (c : Clause) → Contains (antecedents (Derived first rest)) id → f id ≡ Some c → ¬ IsTautology c) → ¬ IsTautology literals

-- each antecedent of a chain has a clause
abbrev pub AntecedentsAreGiven : Type 0
AntecedentsAreGiven = (f : ℕ → Option Clause) (literals : Clause) (first : ℕ) (rest : List ChainStep) → ChainOk f literals first rest → (id : ℕ) → Contains (antecedents (Derived first rest)) id → (c : Clause) × (f id ≡ Some c)

-- each literal of a chain's clause is one of an antecedent's
abbrev pub LiteralsAreOfAntecedents : Type 0
LiteralsAreOfAntecedents = (f : ℕ → Option Clause) (literals : Clause) (first : ℕ) (rest : List ChainStep) → ChainOk f literals first rest → (l : Literal) → Contains literals l → GivesSome f (antecedents (Derived first rest)) (λ c. Contains c l)

-- each variable of a chain's clause is one of an antecedent's
abbrev pub VariablesAreOfAntecedents : Type 0
VariablesAreOfAntecedents = (f : ℕ → Option Clause) (literals : Clause) (first : ℕ) (rest : List ChainStep) → ChainOk f literals first rest → (x : ℕ) → IsTrue (occurs_in_clause x literals) → GivesSome f (antecedents (Derived first rest)) (λ c. IsTrue (occurs_in_clause x c))

-- a resolvent with one more clause makes a chain longer
abbrev pub ResolventsExtendChains : Type 0
ResolventsExtendChains = (f : ℕ → Option Clause) (literals : Clause) (first : ℕ) (rest : List Step) (s : Step) (d resolvent : Clause) → ChainOk f literals first (chain_of rest) → f s.antecedent.0 ≡ Some d → IsResolvent s.pivot literals d resolvent → ChainOk f resolvent first (chain_of (rest ++ s ∷ []))

-- the literals at the end of a chain may stand in any order
abbrev pub ChainsInAnyOrder : Type 0
ChainsInAnyOrder = (f : ℕ → Option Clause) (literals other : Clause) (first : ℕ) (rest : List ChainStep) → ChainOk f literals first rest → SameLiterals literals other → ChainOk f other first rest

-- a packed chain can be read in one way only
abbrev pub PackedChainsAreReadInOneWay : Type 0
PackedChainsAreReadInOneWay = (id first other : ℕ) (rest more : List ChainStep) → first < id → other < id → AreBefore id rest → AreBefore id more → packed_chain id first rest ≡ packed_chain id other more → (first ≡ other) × (rest ≡ more)
