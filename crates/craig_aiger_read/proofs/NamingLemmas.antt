-- Laws of literals with names beside them.
use Rattle.std.proofs.Common.{◌≡◌, ℕ, ◌+◌, ◌<◌, List, [], ◌∷◌, ◌++◌, length, drop, map, get_or, Option, sym, ◌∙◌, ap}
use Rattle.std.proofs.lemmas.List.{append_assoc, drop_more, map_push}
use Rattle.craig_spec.specs.AigerReading.{FileRoot}
use Rattle.craig_aiger_read.specs.declared.root.Root.{Root}
use Rattle.craig_aiger_read.specs.ReadFiles.{file_root, roots_with}

-- one root more
pub roots-more : (f : ℕ → ℕ) (made new : List Root) (literals : List ℕ) (i j literal : ℕ) (rest rest2 : List (Option (List ℕ))) (name : Option (List ℕ)) (all : List FileRoot) →
    map file_root made ++ roots_with f (drop i literals) rest ≡ all → rest ≡ name ∷ rest2 → i < length literals → j ≡ i + 1 → literal ≡ f (get_or literals i 0) →
    new ≡ made ++ record { literal = literal; name = name } ∷ [] → map file_root new ++ roots_with f (drop j literals) rest2 ≡ all
roots-more f made new literals i j literal rest rest2 name all h split inside next is pushed =
    let own : Root = record { literal = literal; name = name } in
    let cut : drop i literals ≡ get_or literals i 0 ∷ drop (i + 1) literals = drop_more literals i 0 inside in
    ap (λ z. map file_root z ++ roots_with f (drop j literals) rest2) pushed
    ∙ ap (λ z. z ++ roots_with f (drop j literals) rest2) (map_push file_root made own)
    ∙ append_assoc (map file_root made) (file_root own ∷ []) (roots_with f (drop j literals) rest2)
    ∙ ap (λ z. map file_root made ++ record { literal = z; name = name } ∷ roots_with f (drop j literals) rest2) is
    ∙ ap (λ z. map file_root made ++ record { literal = f (get_or literals i 0); name = name } ∷ roots_with f (drop z literals) rest2) next
    ∙ ap (λ z. map file_root made ++ roots_with f z (name ∷ rest2)) (sym cut)
    ∙ ap (λ z. map file_root made ++ roots_with f (drop i literals) z) (sym split)
    ∙ h
