use Rattle.std.proofs.Common.{◌≡◌, ◌∷◌, [], ℕ, ap, ◌∙◌, subst}
use Rattle.std.proofs.lemmas.Result.{on_ok_weaker}
use Rattle.craig_base.specs.Arena.{literals_at}
use Rattle.craig_analyze.specs.declared.staying.Staying.TheVariants.{Decisions}
use Rattle.craig_analyze.specs.Resolvent.{ResolventView, Meets, view_of}
use Rattle.craig_analyze.proofs.ForcingLemmas.{only, marked-one, reason-live, HasBegunReason-met}
use Rattle.craig_analyze.proofs.resolvent.Resolvent.begin_reason.Goals as goal

pub meet-requires : goal.meet-requires
meet-requires c =
    let live = reason-live c.args.held.now c.args.failed c.args.reason c.level.ensures.consistent c.requires.failed c.requires.reason in
    record { live = live.0; assigned = live.1 }

pub returns-clause-begun : goal.returns-clause-begun
returns-clause-begun c =
    let h = c.args.held.now in
    let marked : c.insert.new.self ≡ c.args.failed.var ∷ [] = marked-one c.in_ok-insert.field-0 c.var.result.0 c.clear.new.self c.insert.new.self c.clear.ensures c.in_ok-insert.ensures.marked ∙ ap (λ (v : ℕ). v ∷ []) c.var.ensures.value in
    let begun : record { marked = c.insert.new.self; pending = _; lower = c.clear-3.new.self.items } ≡ only c.args.failed.var = λ i. record { marked = marked i; pending = c.clear-2.ensures.items i; lower = c.clear-3.ensures.items i } in
    on_ok_weaker c.meet.result (λ met. HasBegunReason-met h c.args.failed c.args.reason (view_of c.meet.new.self) c.level.ensures.consistent c.requires.failed c.requires.reason (subst (λ (s : ResolventView). Meets Decisions h (literals_at h.arena c.args.reason.0) s (view_of c.meet.new.self)) begun met)) c.meet.ensures.met
