-- Conjunctions that need no new node leave the arena as it is.
use Rattle.std.proofs.Common.{◌≡◌, ◌⊎◌, inl, inr, List, Contains, Option, Some, None, IsSome, MatchOption, sym, subst}
use Rattle.craig_aig.specs.Conjunctions.{folded, gate, IsConjunction, IsKnownChoice, IsKnownConjunction}
use Rattle.craig_aig.specs.Edges.{Edge, edge_negation}
use Rattle.craig_aig.specs.Growth.{IsShared}
use Rattle.craig_aig.specs.declared.node.Node.{Node}

same-cases : (o : Option Edge) (old new : List Node) (node : Node) (e : Edge) → IsSome o ⊎ Contains old node → MatchOption o (IsShared old node new e) (λ f. (new ≡ old) × (e ≡ f)) → new ≡ old
same-cases None old new node e (inl some) h = absurd cc
same-cases None old new node e (inr there) h = h.known there
same-cases (Some f) old new node e known h = h.0

same_arena : (old new : List Node) (left right e : Edge) → IsKnownConjunction old left right → IsConjunction old left right new e → new ≡ old
same_arena old new left right e known h = same-cases (folded left right) old new (gate left right) e known h

-- so the last conjunction of a choice is known where the first two are
pub last_known : (old a b : List Node) (select when_true when_false opposite chosen other : Edge) → IsKnownChoice old select when_true when_false → opposite ≡ edge_negation select →
    IsConjunction old select when_true a chosen → IsConjunction a opposite when_false b other → IsKnownConjunction b (edge_negation chosen) (edge_negation other)
last_known old a b select when_true when_false opposite chosen other known is p q =
    let one : a ≡ old = same_arena old a select when_true chosen known.first p in
    let there : IsConjunction a (edge_negation select) when_false b other = subst (λ (e : Edge). IsConjunction a e when_false b other) is q in
    let second : IsConjunction old (edge_negation select) when_false b other = subst (λ l. IsConjunction l (edge_negation select) when_false b other) one there in
    let two : b ≡ old = same_arena old b (edge_negation select) when_false other known.second second in
    subst (λ l. IsKnownConjunction l (edge_negation chosen) (edge_negation other)) (sym two)
    (known.last chosen other (subst (λ l. IsConjunction old select when_true l chosen) one p) (subst (λ l. IsConjunction old (edge_negation select) when_false l other) two second))
