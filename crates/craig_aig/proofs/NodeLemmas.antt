-- Nodes that `==` finds equal are the same.
use Rattle.std.proofs.Common.{◌≡◌, Bool, true, rules}
use Rattle.std.specs.Cmp.{IsEquivalence}
use Rattle.craig_aig.specs.declared.node.Node.{Node}
use Rattle.craig_aig.specs.contracts.node.NodePartialEq.TheImpl as node_eq
use Rattle.craig_aig.specs.contracts.node.NodeEq.TheImpl.Laws.{laws-law}

-- `==` of nodes
abbrev pub equal : Node → Node → Bool
equal = (node_eq.ghosts).eq

pub equal-same : (m n : Node) → equal m n ≡ true → m ≡ n
equal-same m n h = search rules

pub equal-laws : IsEquivalence equal
equal-laws = laws-law
