use Rattle.std.proofs.Common.{◌-◌, ◌<◌, length, ap, arith, ◌∙◌}
use Rattle.craig_base.specs.Arena.{ArenaView}
use Rattle.craig_base.proofs.LookUpLemmas.{literals_at-found}
use Rattle.craig_watch.proofs.StateLemmas.{moved, loses, element-is}
use Rattle.craig_watch.proofs.watched.Watched.move_watch.Goals as goal

pub returns-clause-moved : goal.returns-clause-moved
returns-clause-moved c =
    let m = c.requires in
    let same = c.lits-lits.ensures.literals ∙ literals_at-found c.args.self.now.arena c.args.id.0 m.clause m.held in
    let low : c.args.place < length m.clause = (let f = m.first in let l = m.later in let w = m.within in omega arith) in
    let is_old = element-is c.lits-lits.result.now m.clause c.args.place c.index-lits-place.result c.index-lits-place.is same low in
    let is_new = element-is c.lits-lits.result.now m.clause c.args.other c.index-lits-other.result c.index-lits-other.is same m.within in
    let is_blocker = element-is c.lits-lits.result.now m.clause (1 - c.args.place) c.index-lits-place-2.result c.index-lits-place-2.is same (let l = m.later in let w = m.within in omega arith) in
    moved c.args.self.now c.swap.new.self c.push.new.self c.remove.new.self c.args.id c.args.place c.args.other c.args.index m c.swap.ensures.is_arena (ap (λ (a : ArenaView). a.given) c.swap.ensures.changed) c.swap.ensures.only c.index-lits-place.result c.index-lits-other.result c.index-lits-place-2.result is_old is_new is_blocker c.in_ok-push.ensures.pushed c.remove.ensures

pub returns-clause-continues : goal.returns-clause-continues
returns-clause-continues c =
    let m = c.requires in
    let same = c.lits-lits.ensures.literals ∙ literals_at-found c.args.self.now.arena c.args.id.0 m.clause m.held in
    let low : c.args.place < length m.clause = (let f = m.first in let l = m.later in let w = m.within in omega arith) in
    let is_old = element-is c.lits-lits.result.now m.clause c.args.place c.index-lits-place.result c.index-lits-place.is same low in
    let is_new = element-is c.lits-lits.result.now m.clause c.args.other c.index-lits-other.result c.index-lits-other.is same m.within in
    let is_blocker = element-is c.lits-lits.result.now m.clause (1 - c.args.place) c.index-lits-place-2.result c.index-lits-place-2.is same (let l = m.later in let w = m.within in omega arith) in
    (moved c.args.self.now c.swap.new.self c.push.new.self c.remove.new.self c.args.id c.args.place c.args.other c.args.index m c.swap.ensures.is_arena (ap (λ (a : ArenaView). a.given) c.swap.ensures.changed) c.swap.ensures.only c.index-lits-place.result c.index-lits-other.result c.index-lits-place-2.result is_old is_new is_blocker c.in_ok-push.ensures.pushed c.remove.ensures).continues

pub returns-clause-entry : goal.returns-clause-entry
returns-clause-entry c =
    let m = c.requires in
    let same = c.lits-lits.ensures.literals ∙ literals_at-found c.args.self.now.arena c.args.id.0 m.clause m.held in
    let low : c.args.place < length m.clause = (let f = m.first in let l = m.later in let w = m.within in omega arith) in
    let is_old = element-is c.lits-lits.result.now m.clause c.args.place c.index-lits-place.result c.index-lits-place.is same low in
    let is_new = element-is c.lits-lits.result.now m.clause c.args.other c.index-lits-other.result c.index-lits-other.is same m.within in
    let is_blocker = element-is c.lits-lits.result.now m.clause (1 - c.args.place) c.index-lits-place-2.result c.index-lits-place-2.is same (let l = m.later in let w = m.within in omega arith) in
    loses c.args.self.now c.swap.new.self c.push.new.self c.remove.new.self c.args.id c.args.place c.args.other c.args.index m c.swap.ensures.is_arena (ap (λ (a : ArenaView). a.given) c.swap.ensures.changed) c.swap.ensures.only c.index-lits-place.result c.index-lits-other.result c.index-lits-place-2.result is_old is_new is_blocker c.in_ok-push.ensures.pushed c.remove.ensures
