use Rattle.std.proofs.Common.{◌≡◌, ◌⊎◌, ◌||◌, ℕ, cond, Contains}
use Rattle.std.proofs.lemmas.Result.{IfOk-from_err, IfOk-weaker}
use Rattle.craig_spec.specs.Truth.{Assignment}
use Rattle.craig_aig.specs.Cones.{cone, ConeWithin}
use Rattle.craig_aig.specs.Edges.{Edge}
use Rattle.craig_aig.specs.Values.{edge_value}
use Rattle.craig_aig.proofs.ChoiceLemmas.{edge_value-mux, cone-mux}
use Rattle.craig_aig.proofs.GrowthLemmas.{ArenaGrows-trans}
use Rattle.craig_aig.proofs.KnownLemmas.{last_known}
use Rattle.craig_aig.proofs.arena.Aig.mux.Goals as goal

pub returns-in_err-other-clause-grows : goal.returns-in_err-other-clause-grows
returns-in_err-other-clause-grows c = ArenaGrows-trans c.args.self.now c.and.new.self c.and-2.new.self c.and.ensures.grows c.and-2.ensures.grows

pub returns-clause-computes : goal.returns-clause-computes
returns-clause-computes c =
    let P : Edge → Type 0 = λ e. (s : Assignment) → edge_value s c.or.new.self e ≡ (edge_value s c.and-2.new.self c.in_ok-chosen.chosen || edge_value s c.and-2.new.self c.in_ok-other.other) in
    let Q : Edge → Type 0 = λ e. (s : Assignment) → edge_value s c.or.new.self e ≡ cond (edge_value s c.args.self.now c.args.select) (edge_value s c.args.self.now c.args.yes) (edge_value s c.args.self.now c.args.no) in
    IfOk-weaker _ P Q
    (λ e h s. edge_value-mux s c.args.self.now c.and.new.self c.and-2.new.self c.or.new.self c.args.select c.args.yes c.args.no c.not.result c.in_ok-chosen.chosen c.in_ok-other.other e
    c.and.ensures.grows.extends c.and-2.ensures.grows.extends c.requires.select c.requires.no c.in_ok-chosen.ensures.within
    (c.in_ok-chosen.ensures.computes s) (c.not.ensures.computes s c.and.new.self) (c.in_ok-other.ensures.computes s) (h s))
    c.or.ensures.computes

pub returns-clause-cone : goal.returns-clause-cone
returns-clause-cone c =
    let P : Edge → Type 0 = ConeWithin c.and-2.new.self c.in_ok-chosen.chosen c.in_ok-other.other c.or.new.self in
    let Q : Edge → Type 0 = λ e. (x : ℕ) → Contains (cone c.or.new.self e) x → Contains (cone c.args.self.now c.args.select) x ⊎ Contains (cone c.args.self.now c.args.yes) x ⊎ Contains (cone c.args.self.now c.args.no) x in
    IfOk-weaker _ P Q
    (λ e h x reached. cone-mux c.args.self.now c.and.new.self c.and-2.new.self c.or.new.self c.args.select c.args.yes c.args.no c.not.result c.in_ok-chosen.chosen c.in_ok-other.other e
    c.and.ensures.grows.extends c.and-2.ensures.grows.extends c.requires.select c.requires.no c.in_ok-chosen.ensures.within
    c.in_ok-chosen.ensures.cone (c.not.ensures.cone c.and.new.self) c.in_ok-other.ensures.cone h x reached)
    c.or.ensures.cone

pub returns-clause-grows : goal.returns-clause-grows
returns-clause-grows c =
    ArenaGrows-trans c.args.self.now c.and-2.new.self c.or.new.self
    (ArenaGrows-trans c.args.self.now c.and.new.self c.and-2.new.self c.and.ensures.grows c.and-2.ensures.grows) c.or.ensures.grows

pub returns-clause-known : goal.returns-clause-known
returns-clause-known c = λ known.
    c.or.ensures.known (last_known c.args.self.now c.and.new.self c.and-2.new.self c.args.select c.args.yes c.args.no c.not.result c.in_ok-chosen.chosen c.in_ok-other.other known c.not.ensures.edge c.in_ok-chosen.ensures.conjunction c.in_ok-other.ensures.conjunction)

pub and-requires-clause-left : goal.and-requires-clause-left
and-requires-clause-left c = c.requires.select

pub and-requires-clause-right : goal.and-requires-clause-right
and-requires-clause-right c = c.requires.yes

pub returns-in_err-chosen-clause-within : goal.returns-in_err-chosen-clause-within
returns-in_err-chosen-clause-within c = IfOk-from_err _ _ c.from_residual.ensures.0

pub returns-in_err-chosen-clause-computes : goal.returns-in_err-chosen-clause-computes
returns-in_err-chosen-clause-computes c = IfOk-from_err _ _ c.from_residual.ensures.0

pub returns-in_err-chosen-clause-cone : goal.returns-in_err-chosen-clause-cone
returns-in_err-chosen-clause-cone c = IfOk-from_err _ _ c.from_residual.ensures.0

pub returns-in_err-chosen-clause-grows : goal.returns-in_err-chosen-clause-grows
returns-in_err-chosen-clause-grows c = c.and.ensures.grows

pub returns-in_err-other-clause-within : goal.returns-in_err-other-clause-within
returns-in_err-other-clause-within c = IfOk-from_err _ _ c.from_residual-in_err-other.ensures.0

pub returns-in_err-other-clause-computes : goal.returns-in_err-other-clause-computes
returns-in_err-other-clause-computes c = IfOk-from_err _ _ c.from_residual-in_err-other.ensures.0

pub returns-in_err-other-clause-cone : goal.returns-in_err-other-clause-cone
returns-in_err-other-clause-cone c = IfOk-from_err _ _ c.from_residual-in_err-other.ensures.0

pub or-requires-clause-right : goal.or-requires-clause-right
or-requires-clause-right c = c.in_ok-other.ensures.within

pub returns-clause-within : goal.returns-clause-within
returns-clause-within c = c.or.ensures.within
