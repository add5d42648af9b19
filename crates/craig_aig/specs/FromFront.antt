-- What the nodes of an arena have, computed from the front.
use Rattle.std.specs.Prelude.{List, [], ◌∷◌, ◌++◌}
use Rattle.std.specs.List.{fold}
use Rattle.craig_aig.specs.declared.node.Node.{Node}

-- what each node has, where f says it from what the nodes before it have
unfoldable pub from_front : {T : Type 0} → (List T → Node → T) → List Node → List T
from_front f nodes = fold (λ before node. before ++ f before node ∷ []) [] nodes
