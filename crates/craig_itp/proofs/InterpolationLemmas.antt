-- The interpolant of a refutation from the steps that its root needs.
use Rattle.std.proofs.Common.{◌≡◌, ℕ, List, Contains, sym, subst}
use Rattle.craig_spec.specs.Chain.{ToldStep}
use Rattle.craig_spec.specs.Needed.{IsNeeded, unforgotten}
use Rattle.craig_label.specs.Sides.{SidesView}
use Rattle.craig_itp.specs.Interpolants.{IsNotedStep, AreNoted, NeededAreNoted}

-- the sides have noted the originals of the part
pub part_is_noted : (sides : SidesView) (steps part : List ToldStep) (root : ℕ) → ((s : ToldStep) → Contains part s → (r : ToldStep) × Contains steps r × (s ≡ unforgotten r) × IsNeeded steps root r.id) → NeededAreNoted sides steps root → AreNoted sides part
part_is_noted sides steps part root from noted s here =
    let p = from s here in
    subst (IsNotedStep sides) (sym p.2) (noted p.0 p.1 p.3)
