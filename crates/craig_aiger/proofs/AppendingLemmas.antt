-- Lines that are appended one after another, in the memory that a vector has.
use Rattle.std.proofs.Common.{◌≡◌, ℕ, ◌+◌, ◌<◌, List, ◌++◌, append_assoc, length-append, length, get_or, take, sym, ap, ◌∙◌, arith}
use Rattle.std.specs.declared.vec.Vec.{Vec}
use Rattle.craig_aiger.specs.Appending.{HasRoom, IsAppended}
use Rattle.craig_aiger.specs.AsciiText.{numbered_lines}
use Rattle.craig_aiger.proofs.TextLemmas.{length-lines_more, lines_more, lines_within}

module _ {X Z : Type 0} (line : ℕ → X → List ℕ) (n : ℕ) (xs : List X) (i m : ℕ) (x : X) (start old : Vec ℕ Z) (within : i < length xs) (number : n + i ≡ m) (before : IsAppended start (numbered_lines line n (take i xs)) old) where
  -- one line more
  pub IsAppended-more : (new : Vec ℕ Z) → IsAppended old (line m (get_or xs i x)) new → IsAppended start (numbered_lines line n (take (i + 1) xs)) new
  IsAppended-more new one = record {
    items_are = lines_more line n xs i x start.items old.items new.items within before.items_are (one.items_are ∙ ap (λ k. old.items ++ line k (get_or xs i x)) (sym number));
    longer = omega (arith, one.longer, before.longer, length-lines_more line n xs i x within, ap (λ k. length (line k (get_or xs i x))) number);
    capacity = omega (arith, one.capacity, before.capacity);
  }

  -- there is room for it
  pub HasRoom-more : HasRoom start (length (numbered_lines line n xs)) → HasRoom old (length (line m (get_or xs i x)))
  HasRoom-more room = omega (arith, room, before.longer, before.capacity, lines_within line n xs i x within, ap (λ k. length (line k (get_or xs i x))) number)

-- one piece after the other
pub IsAppended-both : {Z : Type 0} (first second third : Vec ℕ Z) (a b : List ℕ) → IsAppended first a second → IsAppended second b third → IsAppended first (a ++ b) third
IsAppended-both first second third a b p q = record {
  items_are = q.items_are ∙ ap (λ l. l ++ b) p.items_are ∙ append_assoc first.items a b;
  longer = omega (arith, p.longer, q.longer, length-append a b);
  capacity = omega (arith, p.capacity, q.capacity);
}
