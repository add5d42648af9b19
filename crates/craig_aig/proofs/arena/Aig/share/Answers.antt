use Rattle.std.proofs.Common.{Some, sym, ap, ◌∙◌}
use Rattle.craig_aig.proofs.NodeLemmas.{equal, equal-laws, equal-same}
use Rattle.craig_aig.proofs.ShareLemmas.{IsInserted-insert_key, IsShared-inserted, Extends-inserted, IsAig-inserted}
use Rattle.craig_aig.proofs.arena.Aig.share.Goals as goal

pub invariant_of-self-2 : goal.invariant_of-self-2
invariant_of-self-2 c =
    IsAig-inserted _ _ _ _ c.self.view_is c.self.invariant c.requires.placed (IsInserted-insert_key equal equal-laws equal-same _ _ _ c.in_ok-index.ensures.keys)

pub returns-clause-shared : goal.returns-clause-shared
returns-clause-shared c =
    let stored = c.in_ok-index.ensures.stored in
    IsShared-inserted _ _ _ _ _ _ c.self.view_is c.requires.placed (IsInserted-insert_key equal equal-laws equal-same _ _ _ c.in_ok-index.ensures.keys)
    (stored.1 ∙ ap Some (sym (equal-same _ _ stored.2))) c.new.ensures

pub returns-clause-extends : goal.returns-clause-extends
returns-clause-extends c = Extends-inserted _ _ _ _ c.self.view_is (IsInserted-insert_key equal equal-laws equal-same _ _ _ c.in_ok-index.ensures.keys)

pub returns-clause-is_arena : goal.returns-clause-is_arena
returns-clause-is_arena c =
    IsAig-inserted _ _ _ _ c.self.view_is c.self.invariant c.requires.placed (IsInserted-insert_key equal equal-laws equal-same _ _ _ c.in_ok-index.ensures.keys)
