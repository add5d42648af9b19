-- What is true and what occurs in some parts of a script, and what the literals of a circuit at the cuts have to do with it.
use Rattle.std.specs.Prelude.{◌≡◌, ◌≢◌, ◌⊎◌, ℕ, ◌+◌, ◌<◌, ◌≤◌, true, false, List, [], length, Some, slice_get, Contains, IsTrue}
use Rattle.craig_spec.specs.Circuit.{Circuit, circuit_cone, circuit_value}
use Rattle.craig_spec.specs.Cut.{PartClause, PartLiteral}
use Rattle.craig_spec.specs.Literal.{Literal}
use Rattle.craig_spec.specs.Truth.{Assignment, clause_value, literal_value}
use Rattle.craig_spec.specs.Sequence.{IsSequence}

-- the assignment makes each clause of these parts true
abbrev pub ClausesAreTrue : List PartClause → Assignment → (ℕ → Type 0) → Type 0
ClausesAreTrue clauses s IsIn = (p : PartClause) → Contains clauses p → IsIn p.part → IsTrue (clause_value s p.clause)

-- and each of the literals of these parts
abbrev pub AreTrueWith : List PartClause → List PartLiteral → Assignment → (ℕ → Type 0) → Type 0
AreTrueWith clauses literals s IsIn = ClausesAreTrue clauses s IsIn × ((f : PartLiteral) → Contains literals f → IsIn f.part → IsTrue (literal_value s f.literal))

-- some clause of these parts has the variable
abbrev pub ClausesHave : List PartClause → ℕ → (ℕ → Type 0) → Type 0
ClausesHave clauses x IsIn = (p : PartClause) × Contains clauses p × IsIn p.part × (l : Literal) × Contains p.clause l × (l.var ≡ x)

-- or one of the literals is of it
abbrev pub HaveWith : List PartClause → List PartLiteral → ℕ → (ℕ → Type 0) → Type 0
HaveWith clauses literals x IsIn = ClausesHave clauses x IsIn ⊎ ((f : PartLiteral) × Contains literals f × IsIn f.part × (f.literal.var ≡ x))

-- the literal is the one for the cut
abbrev pub IsLiteralAt : List ℕ → List ℕ → ℕ → ℕ → Type 0
IsLiteralAt cuts literals cut l = (place : ℕ) × (slice_get cuts place ≡ Some cut) × (slice_get literals place ≡ Some l)

-- where part 0 and the parts up to a cut are true, so is the literal of the cut
abbrev pub AreImplied : (Assignment → (ℕ → Type 0) → Type 0) → List ℕ → Circuit → List ℕ → Type 0
AreImplied AreTrue cuts c literals = (cut l : ℕ) → IsLiteralAt cuts literals cut l → (s : Assignment) → AreTrue s (λ part. part ≤ cut) → circuit_value s c l ≡ true

-- where part 0 and the parts after a cut are true, the literal of the cut is false
abbrev pub AreRefuted : (Assignment → (ℕ → Type 0) → Type 0) → List ℕ → Circuit → List ℕ → Type 0
AreRefuted AreTrue cuts c literals = (cut l : ℕ) → IsLiteralAt cuts literals cut l → (s : Assignment) → AreTrue s (λ part. (part ≡ 0) ⊎ (cut < part)) → circuit_value s c l ≡ false

-- each input that the literal of a cut reaches occurs in part 0 or a part up to the cut, and in part 0 or one after it
abbrev pub ReachSharedVariables : (ℕ → (ℕ → Type 0) → Type 0) → List ℕ → Circuit → List ℕ → Type 0
ReachSharedVariables Have cuts c literals = (cut l x : ℕ) → IsLiteralAt cuts literals cut l → Contains (circuit_cone c l) x → Have x (λ part. part ≤ cut) × Have x (λ part. (part ≡ 0) ⊎ (cut < part))

-- where the literal of a cut is true, and part 0 and the parts between it and a later cut, so is the literal of the later cut
abbrev pub ImplyLaterOnes : (Assignment → (ℕ → Type 0) → Type 0) → List ℕ → Circuit → List ℕ → Type 0
ImplyLaterOnes AreTrue cuts c literals =
    (cut later l m : ℕ) → IsLiteralAt cuts literals cut l → IsLiteralAt cuts literals later m → cut < later → (s : Assignment)
    → circuit_value s c l ≡ true → AreTrue s (λ part. (part ≡ 0) ⊎ ((cut < part) × (part ≤ later))) → circuit_value s c m ≡ true

-- there is a cut, each is above the one before it, and none is above the number of parts
abbrev pub AreRisingUpTo : ℕ → List ℕ → Type 0
AreRisingUpTo parts cuts = (cuts ≢ []) × ((i j : ℕ) (a b : ℕ) → i < j → slice_get cuts i ≡ Some a → slice_get cuts j ≡ Some b → a < b) × ((cut : ℕ) → Contains cuts cut → cut ≤ parts)

-- there is a literal for each cut, the constant true at cut 0 and the constant false at that of the parts
abbrev pub AreOfCuts : ℕ → List ℕ → List ℕ → Type 0
AreOfCuts parts cuts literals = (length literals ≡ length cuts) × ((l : ℕ) → IsLiteralAt cuts literals 0 l → l ≡ 1) × ((l : ℕ) → IsLiteralAt cuts literals parts l → l ≡ 0)

-- the literal stands at the place, and at none before it
abbrev pub IsFirstAt : List PartLiteral → ℕ → PartLiteral → Type 0
IsFirstAt assumptions place f = (slice_get assumptions place ≡ Some f) × ((earlier : ℕ) (b : PartLiteral) → earlier < place → slice_get assumptions earlier ≡ Some b → b.literal ≢ f.literal)

-- each of the literals is one of the assumptions, at the first place of its literal
abbrev pub AreFirstOnes : List PartLiteral → List PartLiteral → Type 0
AreFirstOnes assumptions failed = (f : PartLiteral) → Contains failed f → (place : ℕ) × IsFirstAt assumptions place f

-- the first places of two neighbours rise
abbrev pub FirstPlacesRise : List PartLiteral → List PartLiteral → Type 0
FirstPlacesRise assumptions failed = (i p q : ℕ) (f g : PartLiteral) → slice_get failed i ≡ Some f → slice_get failed (i + 1) ≡ Some g → IsFirstAt assumptions p f → IsFirstAt assumptions q g → p < q

-- what is said holds of each sequence of interpolants: of its clauses, the number of their parts, the cuts, and the literals of its circuit
abbrev pub EachSequence : (List PartClause → ℕ → List ℕ → Circuit → List ℕ → Type 0) → Type 0
EachSequence Says = (clauses : List PartClause) (parts : ℕ) (cuts : List ℕ) (c : Circuit) (literals : List ℕ) → IsSequence clauses parts cuts c literals → Says clauses parts cuts c literals
