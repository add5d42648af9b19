use Rattle.std.proofs.Common.{◌<◌, length, ◌∙◌, arith, get_or}
use Rattle.std.proofs.lemmas.List.{get_or_default}
use Rattle.craig_base.specs.declared.clause_id.ClauseId.{ClauseId}
use Rattle.craig_watch.proofs.SweptLemmas.{still_live, without_next}
use Rattle.craig_watch.proofs.keeping.kill_all.Goals as goal

pub kill-requires : goal.kill-requires
kill-requires c =
    let low : c.loop-id.id-index < length c.args.ids.now = omega (arith, c.loop-id-test.true) in
    let x : ClauseId = get_or c.args.ids.now c.loop-id.id-index (record { 0 = 0 }) in
    still_live c.args.arena.now c.loop-id.arena c.args.ids.now c.loop-id.id-index x low (get_or_default c.args.ids.now c.loop-id.id-index (record { 0 = 0 }) x low) c.loop-id.invariant c.requires.live c.requires.distinct

pub loop-id-preserved : goal.loop-id-preserved
loop-id-preserved c =
    let low : c.loop-id.id-index < length c.args.ids.now = omega (arith, c.loop-id-test.true) in
    let x : ClauseId = get_or c.args.ids.now c.loop-id.id-index (record { 0 = 0 }) in
    c.kill.ensures.without ∙ without_next c.args.arena.now c.loop-id.arena c.args.ids.now c.loop-id.id-index x low (get_or_default c.args.ids.now c.loop-id.id-index (record { 0 = 0 }) x low) c.loop-id.invariant
