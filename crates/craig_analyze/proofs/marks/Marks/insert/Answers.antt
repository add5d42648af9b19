use Rattle.std.proofs.Common.{◌≡◌, false, refl, ap, sym, ◌∙◌, get_or, length, arith, ◌<◌}
use Rattle.std.proofs.lemmas.Result.{IfOk-from_err}
use Rattle.craig_analyze.proofs.CountLemmas.{AreMarks-insert, flagged-marked, unflagged-unmarked}
use Rattle.craig_analyze.proofs.marks.Marks.insert.Goals as goal

pub returns-then-is_set-clause-marked : goal.returns-then-is_set-clause-marked
returns-then-is_set-clause-marked c =
    let h = c.self.inside in
    rw (← c.self.view_is) (flagged-marked h.flags.items h.marked.items c.args.number c.self.invariant (sym (c.is_set.ensures ∙ ap (λ xs. get_or xs c.args.number false) c.as_slice.ensures.value) ∙ c.if-is_set.true), refl)

pub index_mut-requires : goal.index_mut-requires
index_mut-requires c = omega (arith, c.in_ok-grow.ensures.room)

pub invariant_of-self-2 : goal.invariant_of-self-2
invariant_of-self-2 c =
    let h = c.self.inside in
    let off : get_or h.flags.items c.args.number false ≡ false = sym (c.is_set.ensures ∙ ap (λ xs. get_or xs c.args.number false) c.as_slice.ensures.value) ∙ c.if-is_set.false in
    let within : c.args.number < length c.grow.new.flags.items = omega (arith, c.in_ok-grow.ensures.room, c.grow.new.flags.ok.0) in
    rw c.in_ok-push.ensures.items (AreMarks-insert h.flags.items c.grow.new.flags.items h.marked.items c.args.number c.self.invariant c.grow.ensures.same within off)

pub returns-clause-marked : goal.returns-clause-marked
returns-clause-marked c =
    let h = c.self.inside in
    let off : get_or h.flags.items c.args.number false ≡ false = sym (c.is_set.ensures ∙ ap (λ xs. get_or xs c.args.number false) c.as_slice.ensures.value) ∙ c.if-is_set.false in
    rw (← c.self.view_is) (unflagged-unmarked h.flags.items h.marked.items c.args.number c.self.invariant off, c.in_ok-push.ensures.items)

pub returns-in_err-grow-clause-marked : goal.returns-in_err-grow-clause-marked
returns-in_err-grow-clause-marked c = IfOk-from_err _ _ c.from_residual.ensures.0

pub returns-in_err-push-clause-marked : goal.returns-in_err-push-clause-marked
returns-in_err-push-clause-marked c = IfOk-from_err _ _ c.from_residual-in_err-push.ensures.0
