-- What the steps of a refutation are, and which of a session's steps they are.
use Rattle.std.specs.Prelude.{◌≡◌, ◌≢◌, ◌⊎◌, ◌↔◌, ℕ, ◌+◌, ◌<◌, ◌≤◌, Bool, true, List, [], length, take, map, filter, Option, Some, slice_get, Contains, Ok, ℤ}
use Rattle.craig_spec.specs.Chain.{ChainStep, ChainOk, Derived, IsResolvent, Original, SameLiterals, ToldStep, antecedents, clause_told}
use Rattle.craig_spec.specs.Circuit.{Circuit, circuit_value}
use Rattle.craig_spec.specs.Cut.{PartClause, PartLiteral}
use Rattle.craig_spec.specs.DrawnFromOneRefutation.{occurrence_labelling, DrawnFromOneRefutation, IsRefutationOf, MarkedLiterals}
use Rattle.craig_spec.specs.Literal.{Clause, Literal, negation}
use Rattle.craig_spec.specs.Needed.{IsNeeded, unforgotten}
use Rattle.craig_spec.specs.PartialInterpolant.{Label, origin_value}
use Rattle.craig_spec.specs.Truth.{Assignment, clause_value}
use Rattle.craig_top.specs.Named.{named_step}
use Rattle.craig_script.specs.declared.command.Command.TheVariants.{Solve}
use Rattle.craig_top.specs.GivenState.{State}
use Rattle.craig_top.specs.LastRefutation.{IsOfLastRoot, IsRefutationBy, ReadingIsByLastRoot, SessionView}
use Rattle.craig_top.specs.Reply.{assumptions_of}
use Rattle.craig_top.specs.TrueParts.{IsLiteralAt}

-- the clauses clash on the literal, and on no other
abbrev pub ClashOnlyOn : Literal → Clause → Clause → Type 0
ClashOnlyOn pivot c d = (l : Literal) → (Contains c l × Contains d (negation l)) ↔ (l ≡ pivot)

-- each literal of the clause but one stands in the other clause
abbrev pub HasAllBut : Literal → Clause → Clause → Type 0
HasAllBut left_out c r = (l : Literal) → Contains c l → (l ≡ left_out) ⊎ Contains r l

-- each literal of the resolvent is one of the two clauses, and not the one that clashes
abbrev pub HasNoOther : Literal → Clause → Clause → Clause → Type 0
HasNoOther pivot c d r = (l : Literal) → Contains r l → (Contains c l × (l ≢ pivot)) ⊎ (Contains d l × (l ≢ negation pivot))

-- the clause is true where both are
abbrev pub FollowsFrom : Clause → Clause → Clause → Type 0
FollowsFrom c d r = (s : Assignment) → clause_value s c ≡ true → clause_value s d ≡ true → clause_value s r ≡ true

-- in the list of clauses the one after a place is the resolvent of the one at the place with the clause of the antecedent
abbrev pub IsResolvedAt : (ℕ → Option Clause) → List Clause → ℕ → ChainStep → Type 0
IsResolvedAt clause_of along i s = (c : Clause) × (d : Clause) × (r : Clause) × (slice_get along i ≡ Some c) × (clause_of s.antecedent ≡ Some d) × (slice_get along (i + 1) ≡ Some r) × IsResolvent s.pivot c d r

-- the list has the clauses along a chain: it begins with the clause of the first id, and ends with the literals
abbrev pub AreAlong : (ℕ → Option Clause) → Clause → ℕ → List ChainStep → List Clause → Type 0
AreAlong clause_of literals first rest along =
    (slice_get along 0 ≡ clause_of first) × ((i : ℕ) (s : ChainStep) → slice_get rest i ≡ Some s → IsResolvedAt clause_of along i s)
    × (last : Clause) × (slice_get along (length rest) ≡ Some last) × SameLiterals last literals

-- the id of each step is below that of the next
abbrev pub IdsRise : List ToldStep → Type 0
IdsRise steps = (i : ℕ) (r s : ToldStep) → slice_get steps i ≡ Some r → slice_get steps (i + 1) ≡ Some s → r.id < s.id

-- no literal stands twice, and none beside its negation
abbrev pub StandAlone : Clause → Type 0
StandAlone c = ((i j : ℕ) (l : Literal) → slice_get c i ≡ Some l → slice_get c j ≡ Some l → i ≡ j) × ((l : Literal) → Contains c l → ¬ Contains c (negation l))

-- each original has the literals of a clause of its part
abbrev pub OriginalsAreClauses : List PartClause → List ToldStep → Type 0
OriginalsAreClauses clauses steps = (step : ToldStep) (part : ℕ) → Contains steps step → step.origin ≡ Original part → (p : PartClause) × Contains clauses p × (p.part ≡ part) × SameLiterals p.clause step.literals

-- and each stands alone
abbrev pub OriginalsAreNormal : List ToldStep → Type 0
OriginalsAreNormal steps = (step : ToldStep) (part : ℕ) → Contains steps step → step.origin ≡ Original part → StandAlone step.literals

-- each derived step has a chain over the clauses of the steps before it
abbrev pub DerivedAreResolved : List ToldStep → Type 0
DerivedAreResolved steps = (k : ℕ) (step : ToldStep) (first : ℕ) (rest : List ChainStep) → slice_get steps k ≡ Some step → step.origin ≡ Derived first rest → ChainOk (clause_told (take k steps)) step.literals first rest

-- and is true where those are that it names
abbrev pub DerivedFollow : List ToldStep → Type 0
DerivedFollow steps = (k : ℕ) (step : ToldStep) (first : ℕ) (rest : List ChainStep) → slice_get steps k ≡ Some step → step.origin ≡ Derived first rest → (s : Assignment)
    → ((r : ToldStep) → Contains (take k steps) r → Contains (antecedents step.origin) r.id → clause_value s r.literals ≡ true) → clause_value s step.literals ≡ true

-- the last step is the empty clause, under the root
abbrev pub EndInTheEmptyClause : List ToldStep → ℕ → Type 0
EndInTheEmptyClause steps root = (k : ℕ) × (last : ToldStep) × (length steps ≡ k + 1) × (slice_get steps k ≡ Some last) × (last.id ≡ root) × (last.literals ≡ [])

-- between the outer cuts each literal has, under every assignment, the value that the labelled rules give the root, step by step
abbrev pub AreByTheRules : List PartClause → ℕ → List ℕ → List ToldStep → ℕ → Circuit → (ℕ → Label) → List ℕ → Type 0
AreByTheRules clauses parts cuts steps root c marks literals = (cut l : ℕ) → 1 ≤ cut → cut < parts → IsLiteralAt cuts literals cut l → (s : Assignment) (value : ℕ → Bool)
    → ((step : ToldStep) → Contains steps step → value step.id ≡ origin_value (occurrence_labelling clauses cut marks) s value step.literals step.origin) → circuit_value s c l ≡ value root

-- the steps are the kept ones that the root needs, over the variables of the script, and no other
abbrev pub AreNeededOnes : List ℕ → List ToldStep → ℕ → List ToldStep → Type 0
AreNeededOnes names kept root steps = (s : ToldStep) → Contains steps s ↔ ((k : ToldStep) × Contains kept k × IsNeeded kept root k.id × (s ≡ named_step names (unforgotten k)))

-- in the order in which they are kept
abbrev pub AreInOrder : List ℕ → List ToldStep → List ToldStep → Type 0
AreInOrder names kept steps = (p : ℕ → Bool) × (steps ≡ map (λ (k : ToldStep). named_step names (unforgotten k)) (filter (λ (k : ToldStep). p k.id) kept))

-- the root is an empty clause that is kept
abbrev pub IsEmptyOne : List ToldStep → Option ℕ → Type 0
IsEmptyOne kept root = (k : ToldStep) × Contains kept k × (root ≡ Some k.id) × (k.literals ≡ [])

-- the literals of each system are by the rules of its labels
abbrev pub AllAreByTheRules : List PartClause → ℕ → List ℕ → List ToldStep → ℕ → Circuit → List MarkedLiterals → Type 0
AllAreByTheRules clauses parts cuts steps root c systems = (system : MarkedLiterals) → Contains systems system → AreByTheRules clauses parts cuts steps root c system.marks system.literals

-- the text refutes the clauses of the state and these literals, by the last root of the session
abbrev pub IsRefutingBy : SessionView → State → List (ℕ × ℤ) → List ℕ → Type 0
IsRefutingBy view state pairs text = IsRefutationBy view.names view.steps view.root state (assumptions_of pairs) text

-- what is said holds of each chain: of the clauses of its ids, the literals that it gives, its first id and the steps after it
abbrev pub EachChain : ((ℕ → Option Clause) → Clause → ℕ → List ChainStep → Type 0) → Type 0
EachChain Says = (clause_of : ℕ → Option Clause) (literals : Clause) (first : ℕ) (rest : List ChainStep) → ChainOk clause_of literals first rest → Says clause_of literals first rest

-- what is said holds of each refutation: of the clauses refuted, the steps, and the id of the last one
abbrev pub EachRefutation : (List PartClause → List ToldStep → ℕ → Type 0) → Type 0
EachRefutation Says = (clauses : List PartClause) (steps : List ToldStep) (root : ℕ) → IsRefutationOf clauses steps root → Says clauses steps root

-- what is said holds of all literals drawn from one refutation: of the clauses, the circuit, the steps, their root, and the systems of literals
abbrev pub EachDrawn : (List PartClause → ℕ → List ℕ → Circuit → List ToldStep → ℕ → List MarkedLiterals → Type 0) → Type 0
EachDrawn Says =
    (clauses : List PartClause) (parts : ℕ) (cuts : List ℕ) (c : Circuit) (systems : List MarkedLiterals) (drawn : DrawnFromOneRefutation clauses parts cuts c systems)
    → Says clauses parts cuts c drawn.steps drawn.root systems

-- what is said holds of all steps of the last root of a session: of its names, its kept steps, its last root, the steps, and their root
abbrev pub EachLastRoot : (List ℕ → List ToldStep → Option ℕ → List ToldStep → ℕ → Type 0) → Type 0
EachLastRoot Says = (names : List ℕ) (kept : List ToldStep) (last : Option ℕ) (steps : List ToldStep) (root : ℕ) → IsOfLastRoot names kept last steps root → Says names kept last steps root

-- what is said holds of the kept steps and the last root by which a text refutes
abbrev pub EachRefutationBy : (List ToldStep → Option ℕ → Type 0) → Type 0
EachRefutationBy Says = (names : List ℕ) (kept : List ToldStep) (last : Option ℕ) (state : State) (assumptions : List PartLiteral) (text : List ℕ) → IsRefutationBy names kept last state assumptions text → Says kept last

-- what is said holds of each text that answers a solve by the last root of the session
abbrev pub EachSolveByLastRoot : (SessionView → State → List (ℕ × ℤ) → List ℕ → Type 0) → Type 0
EachSolveByLastRoot Says = (view : SessionView) (state : State) (pairs : List (ℕ × ℤ)) (text : List ℕ) → ReadingIsByLastRoot view state (Ok (Solve pairs)) text → Says view state pairs text
