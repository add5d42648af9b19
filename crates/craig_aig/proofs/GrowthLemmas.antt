-- Arenas that grow step by step, and what older edges keep.
use Rattle.std.proofs.Common.{◌≡◌, ◌<◌, ◌≤◌, ℕ, List, [], ◌++◌, length, take, drop, sym, ap, ◌∙◌, append_assoc, arith, length-append}
use Rattle.std.proofs.lemmas.List.{append-nil, take-append-le, take-append-drop}
use Rattle.craig_spec.specs.Truth.{Assignment}
use Rattle.craig_aig.specs.Arenas.{IsAig}
use Rattle.craig_aig.specs.Cones.{cone}
use Rattle.craig_aig.specs.Edges.{Edge}
use Rattle.craig_aig.specs.Growth.{ArenaGrows, Extends}
use Rattle.craig_aig.specs.Values.{edge_value}
use Rattle.craig_aig.specs.declared.node.Node.{Node}
use Rattle.craig_aig.proofs.FunctionLemmas.{KeepsEdges-Extends}

-- an arena that didn't grow
pub Extends-same : (a : List Node) → Extends a a
Extends-same a = ([], sym (append-nil a))

-- an arena that grows twice has grown
pub Extends-trans : (a b c : List Node) → Extends a b → Extends b c → Extends a c
Extends-trans a b c (x, p) (y, q) = (x ++ y, q ∙ ap (λ l. l ++ y) p ∙ append_assoc a x y)

-- its nodes became no fewer
pub length-Extends : (a b : List Node) → Extends a b → length a ≤ length b
length-Extends a b (x, p) = omega (arith, ap length p, length-append a x)

-- the nodes in front stay
pub take-Extends : (n : ℕ) (a b : List Node) → n ≤ length a → Extends a b → take n b ≡ take n a
take-Extends n a b within (x, p) = ap (take n) p ∙ take-append-le n a x within

-- an arena extends its front
pub Extends-take : (n : ℕ) (a : List Node) → Extends (take n a) a
Extends-take n a = (drop n a, sym (take-append-drop n a))

-- an arena that extends one keeps the edges of it
pub ArenaGrows-Extends : (a b : List Node) → Extends a b → IsAig b → ArenaGrows a b
ArenaGrows-Extends a b extends is_arena = record { extends = extends; kept = KeepsEdges-Extends a b extends; is_arena = is_arena }

pub ArenaGrows-trans : (a b c : List Node) → ArenaGrows a b → ArenaGrows b c → ArenaGrows a c
ArenaGrows-trans a b c p q = ArenaGrows-Extends a c (Extends-trans a b c p.extends q.extends) q.is_arena

pub ArenaGrows-same : (a : List Node) → IsAig a → ArenaGrows a a
ArenaGrows-same a is_arena = ArenaGrows-Extends a a (Extends-same a) is_arena

-- an edge of an arena has its place in the arenas that this one grows into, and keeps its value and its cone
pub within-ArenaGrows : (old new : List Node) (e : Edge) → ArenaGrows old new → e.place < length old → e.place < length new
within-ArenaGrows old new e h within = omega (arith, length-Extends old new h.extends)

pub value-ArenaGrows : (s : Assignment) (old new : List Node) (e : Edge) → ArenaGrows old new → e.place < length old → edge_value s new e ≡ edge_value s old e
value-ArenaGrows s old new e h within = (h.kept e within (within-ArenaGrows old new e h within)).value s

pub cone-ArenaGrows : (old new : List Node) (e : Edge) → ArenaGrows old new → e.place < length old → cone new e ≡ cone old e
cone-ArenaGrows old new e h within = (h.kept e within (within-ArenaGrows old new e h within)).cone_is
