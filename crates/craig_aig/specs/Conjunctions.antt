-- Which edge a conjunction gets, and which needs no new node.
use Rattle.std.specs.Prelude.{◌≡◌, ◌⊎◌, Bool, false, List, Contains, IsSome, Option, Some, None, MatchOption, nat_eq, nat_lt, not, if◌then◌else◌}
use Rattle.craig_aig.specs.Edges.{Edge, edge_negation}
use Rattle.craig_aig.specs.Growth.{IsShared}
use Rattle.craig_aig.specs.declared.node.Node.{Node}
use Rattle.craig_aig.specs.declared.node.Node.TheVariants.{Gate}

-- the constant
abbrev pub constant_edge : Bool → Edge
constant_edge value = record { place = 0; negated = value }

-- the edge of a conjunction that needs no gate, as an operand is constant or the two are equal or opposite
abbrev pub folded : Edge → Edge → Option Edge
folded left right =
    if nat_eq left.place 0 then Some (if left.negated then right else constant_edge false)
    else if nat_eq right.place 0 then Some (if right.negated then left else constant_edge false)
    else if nat_eq left.place right.place then Some (if (if left.negated then right.negated else not right.negated) then left else constant_edge false)
    else None

-- the gate of two edges, the greater place first
abbrev pub gate : Edge → Edge → Node
gate left right = if nat_lt left.place right.place then Gate right left else Gate left right

-- the edge of a conjunction is folded, or else that of its gate
abbrev pub IsConjunction : List Node → Edge → Edge → List Node → Edge → Type 0
IsConjunction old left right new e =
    MatchOption (folded left right) (IsShared old (gate left right) new e) (λ f. (new ≡ old) × (e ≡ f))

-- a conjunction needs no new node: it is folded, or its gate stands in the arena
abbrev pub IsKnownConjunction : List Node → Edge → Edge → Type 0
IsKnownConjunction nodes left right = IsSome (folded left right) ⊎ Contains nodes (gate left right)

-- nor does a choice, where its three conjunctions need none
pub record IsKnownChoice (nodes : List Node) (select when_true when_false : Edge) : Type 0 where
  -- that of the selecting edge and the first branch
  pub first : IsKnownConjunction nodes select when_true
  -- that of the opposite edge and the second branch
  pub second : IsKnownConjunction nodes (edge_negation select) when_false
  -- and that of the negations of these two
  pub last : (a b : Edge) → IsConjunction nodes select when_true nodes a → IsConjunction nodes (edge_negation select) when_false nodes b → IsKnownConjunction nodes (edge_negation a) (edge_negation b)
