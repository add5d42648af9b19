use Rattle.std.proofs.Common.{◌≡◌, ℕ, ◌<◌, ◌≤◌, List, length, get_or, set, map, sym, subst, ◌∙◌, arith}
use Rattle.std.proofs.lemmas.List.{get_or_default}
use Rattle.craig_order.specs.Heap.{ArePlaces, exchanged}
use Rattle.craig_order.proofs.PermutationLemmas.{ArePlaces-exchanged, places-exchanged}
use Rattle.craig_order.proofs.permutation.Permutation.exchange.Goals as goal

-- what is read from the row
read : (row places : List ℕ) (i one : ℕ) → ArePlaces row places → i < length places → one ≡ get_or row i one → get_or row i 0 ≡ one
read row places i one ok within is = let room : length places ≤ length row = ok.room in sym (is ∙ get_or_default row i one 0 (omega arith))

-- the fields after an exchange
exchanged-fields : (row places : List ℕ) (i j one other : ℕ) → ArePlaces row places → i < length places → j < length places → one ≡ get_or row i one → other ≡ get_or row j other → ArePlaces (set (set row i other) j one) (set (set places one j) other i)
exchanged-fields row places i j one other ok wi wj one_is other_is =
    subst (λ (a : ℕ). ArePlaces (set (set row i other) j a) (set (set places a j) other i)) (read row places i one ok wi one_is)
    (subst (λ (b : ℕ). ArePlaces (set (set row i b) j (get_or row i 0)) (set (set places (get_or row i 0) j) b i)) (read row places j other ok wj other_is)
    (subst (λ (ps : List ℕ). ArePlaces (set (set row i (get_or row j 0)) j (get_or row i 0)) ps) (sym (places-exchanged row places i j ok wi wj)) (ArePlaces-exchanged row places i j ok wi wj)))

exchanged-view : (row places : List ℕ) (i j one other : ℕ) → ArePlaces row places → i < length places → j < length places → one ≡ get_or row i one → other ≡ get_or row j other → set (set places one j) other i ≡ map (exchanged i j) places
exchanged-view row places i j one other ok wi wj one_is other_is =
    subst (λ (a : ℕ). set (set places a j) other i ≡ map (exchanged i j) places) (read row places i one ok wi one_is)
    (subst (λ (b : ℕ). set (set places (get_or row i 0) j) b i ≡ map (exchanged i j) places) (read row places j other ok wj other_is) (places-exchanged row places i j ok wi wj))

pub invariant_of-self : goal.invariant_of-self
invariant_of-self c =
    let h = c.self.inside in
    exchanged-fields h.row.items h.places.items c.args.first c.args.second c.index-one.result.now c.index-other.result.now c.self.invariant (rw c.self.view_is c.requires.first) (rw c.self.view_is c.requires.second) c.index-one.ensures c.index-other.ensures

pub returns : goal.returns
returns c =
    let h = c.self.inside in
    rw (← c.self.view_is) (exchanged-view h.row.items h.places.items c.args.first c.args.second c.index-one.result.now c.index-other.result.now c.self.invariant (rw c.self.view_is c.requires.first) (rw c.self.view_is c.requires.second) c.index-one.ensures c.index-other.ensures)
