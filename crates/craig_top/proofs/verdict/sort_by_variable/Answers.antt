use Rattle.std.proofs.Common.{◌<◌, length, map, List, false, arith, rules}
use Rattle.std.proofs.lemmas.List.{get_or-map, length-map}
use Rattle.std.proofs.lemmas.List.Sorted.{IsNonDecreasingBy-from_sort_by_key}
use Rattle.std.specs.List.Sorted.{IsNonDecreasing, IsNonDecreasingBy}
use Rattle.craig_spec.specs.Literal.{Literal}
use Rattle.craig_top.proofs.verdict.sort_by_variable.Goals as goal

-- literals in order of their variables have variables that do not fall
variables_rise : (ls : List Literal) → IsNonDecreasingBy (λ (l : Literal). l.var) ls → IsNonDecreasing (map (λ (l : Literal). l.var) ls)
variables_rise ls h = λ i j d le lt.
    let none : Literal = record { var = 0; negated = false } in
    let within : j < length ls = simp length-map at lt in
    let left : i < length ls = omega arith in
    rw (get_or-map (λ (l : Literal). l.var) ls i none d left, get_or-map (λ (l : Literal). l.var) ls j none d within) (h i j none le within)

pub returns-clause-sorted : goal.returns-clause-sorted
returns-clause-sorted c = variables_rise _ (IsNonDecreasingBy-from_sort_by_key (λ (l : Literal). l.var) _ c.sort_unstable_by_key.ensures.sorted (λ a r q k. search rules))
