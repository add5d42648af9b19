-- Tables of marks, looked up by a test of equal variables.
use Rattle.std.proofs.Common.{◌≡◌, Bool, true, false, cond, eqb, List, [], ◌∷◌, Option, Some, refl, sym, ap, ◌∙◌}
use Rattle.std.specs.Map.{lookup}
use Rattle.std.specs.Option.{unwrap_or}
use Rattle.craig_base.specs.declared.variable.Var.{Var}
use Rattle.craig_label.specs.Marks.{label_of}
use Rattle.craig_label.specs.declared.mark.Mark.{Mark}
use Rattle.craig_label.specs.declared.mark.Mark.TheVariants.{Ab}
use Rattle.craig_system.specs.Marking.{labels_in, with_label}

found : (b : Bool) (mark : Mark) (rest : Option Mark) → label_of (unwrap_or (cond b (Some mark) rest) Ab) ≡ cond b (label_of mark) (label_of (unwrap_or rest Ab))
found true mark rest = refl
found false mark rest = refl

-- the label of a variable is by the mark that is looked up
pub labels_in-lookup : (entries : List (Var × Mark)) (x : Var) → label_of (unwrap_or (lookup (λ (k : Var). eqb x.0 k.0) entries) Ab) ≡ labels_in entries x.0
labels_in-lookup [] x = refl
labels_in-lookup (e ∷ entries) x =
    found (eqb x.0 e.0.0) e.1 (lookup (λ (k : Var). eqb x.0 k.0) entries) ∙ ap (λ l. cond (eqb x.0 e.0.0) (label_of e.1) l) (labels_in-lookup entries x)

-- the labels after one entry was put
pub labels_in-put : (old new : List (Var × Mark)) (x : Var) (mark : Mark) →
    ((y : Var) → lookup (λ (k : Var). eqb y.0 k.0) new ≡ cond (eqb x.0 y.0) (Some mark) (lookup (λ (k : Var). eqb y.0 k.0) old)) → labels_in new ≡ with_label (labels_in old) x.0 (label_of mark)
labels_in-put old new x mark put = λ i n.
    let y : Var = record { 0 = n } in
    (sym (labels_in-lookup new y) ∙ ap (λ m. label_of (unwrap_or m Ab)) (put y) ∙ found (eqb x.0 n) mark (lookup (λ (k : Var). eqb n k.0) old)
    ∙ ap (λ l. cond (eqb x.0 n) (label_of mark) l) (labels_in-lookup old y)) i
