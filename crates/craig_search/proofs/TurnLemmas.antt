-- A turn of a search: a clause was learnt, and after it maybe a reduction, or units were maybe derived before a decision.
use Rattle.std.proofs.Common.{◌≡◌, inl, inr, ℕ, ◌+◌, ◌<◌, ◌≤◌, Option, length, sym, ap, subst, ◌∙◌, arith}
use Rattle.craig_spec.specs.Chain.{Told}
use Rattle.craig_base.specs.LawsOfClauses.{ClausesAreFew}
use Rattle.craig_watch.specs.Held.{HeldView, IsConsistent}
use Rattle.craig_search.specs.Reducing.{IsReduced, LetsGo}
use Rattle.craig_search.specs.Searching.{IsJournal}
use Rattle.craig_search.specs.declared.reductions.Reductions.{Reductions}
use Rattle.craig_search.proofs.JournalLemmas.{IsJournal-start, journal-bounded}
use Rattle.craig_search.proofs.MeasureLemmas.{falls-reduced, falls-turn, turns-decided, turns-learnt, turns_with}

module _ (start : ℕ) (old mid new : HeldView) (before after : Reductions) (told_mid told_new : Option Told) (low : before.since ≤ old.arena.given) (journal : IsJournal before.since mid.arena) (vars : mid.vars ≡ old.vars) (given : mid.arena.given ≡ old.arena.given + 1) (gone : LetsGo before.first mid new told_mid told_new) (reduced : IsReduced before after mid new) where
  pub turn-smaller : ClausesAreFew → IsConsistent mid → turns_with after.left after.since new < turns_with before.left before.since old
  turn-smaller bound ok = elim reduced [
    | inl none ↦
        let falls = falls-turn before.left before.since old mid vars (turns-learnt before.since old mid vars given low (journal-bounded bound before.since mid ok journal)) in
        subst (λ (r : Reductions). turns_with r.left r.since new < turns_with before.left before.since old) (sym none.0) (subst (λ (h : HeldView). turns_with before.left before.since h < turns_with before.left before.since old) (sym none.1) falls)
    | inr some ↦ falls-reduced after.left before.left before.since after.since old new some.2 (ap (λ (h : HeldView). h.vars) gone.others ∙ vars)
  ]

  pub turn-journal : IsConsistent new → IsJournal after.since new.arena
  turn-journal ok = elim reduced [
    | inl none ↦ subst (λ (r : Reductions). IsJournal r.since new.arena) (sym none.0) (subst (λ (h : HeldView). IsJournal before.since h.arena) (sym none.1) journal)
    | inr some ↦ subst (λ (n : ℕ). IsJournal n new.arena) (sym some.1) (IsJournal-start new.arena ok.arena)
  ]

  pub turn-first : before.first ≡ start → after.first ≡ start
  turn-first first = elim reduced [ inl none ↦ ap (λ (r : Reductions). r.first) none.0 ∙ first | inr some ↦ some.0 ∙ first ]

  pub turn-later : start ≤ before.since → start ≤ after.since
  turn-later le = elim reduced [
    | inl none ↦ subst (λ (r : Reductions). start ≤ r.since) (sym none.0) le
    | inr some ↦ let since : after.since ≡ new.arena.given = some.1 in let same : new.arena.given ≡ mid.arena.given = gone.given in omega (arith, le, low, given, since, same)
  ]

  pub turn-given : after.since ≤ new.arena.given
  turn-given =
      let same : new.arena.given ≡ mid.arena.given = gone.given in
      elim reduced [
        | inl none ↦ let since : after.since ≡ before.since = ap (λ (r : Reductions). r.since) none.0 in omega (arith, low, given, since, same)
        | inr some ↦ let since : after.since ≡ new.arena.given = some.1 in omega (arith, since)
      ]

-- nothing was learnt: mid is what is held after propagation, and last what is held when units were maybe derived
module _ (start : ℕ) (old mid last : HeldView) (before after : Reductions) (low : before.since ≤ old.arena.given) (vars : mid.vars ≡ old.vars) (given : mid.arena.given ≡ old.arena.given) (more : mid.arena.given ≤ last.arena.given) (same_vars : last.vars ≡ mid.vars) (reduced : IsReduced before after mid last) where
  pub units-smaller : (new : HeldView) → new.vars ≡ last.vars → new.arena.given ≡ last.arena.given → length old.trail < length new.trail → length new.trail ≤ new.vars → turns_with after.left after.since new < turns_with before.left before.since old
  units-smaller new new_vars new_given longer few =
      let all_vars : new.vars ≡ old.vars = new_vars ∙ same_vars ∙ vars in
      elim reduced [
        | inl none ↦
            let all_given : new.arena.given ≡ old.arena.given = new_given ∙ ap (λ (h : HeldView). h.arena.given) none.1 ∙ given in
            let falls = falls-turn before.left before.since old new all_vars (turns-decided before.since old new all_vars all_given longer few) in
            subst (λ (r : Reductions). turns_with r.left r.since new < turns_with before.left before.since old) (sym none.0) falls
        | inr some ↦ falls-reduced after.left before.left before.since after.since old new some.2 all_vars
      ]

  pub units-journal : IsJournal before.since mid.arena → IsConsistent last → IsJournal after.since last.arena
  units-journal journal ok = elim reduced [
    | inl none ↦ subst (λ (r : Reductions). IsJournal r.since last.arena) (sym none.0) (subst (λ (h : HeldView). IsJournal before.since h.arena) (sym none.1) journal)
    | inr some ↦ subst (λ (n : ℕ). IsJournal n last.arena) (sym some.1) (IsJournal-start last.arena ok.arena)
  ]

  pub units-first : before.first ≡ start → after.first ≡ start
  units-first first = elim reduced [ inl none ↦ ap (λ (r : Reductions). r.first) none.0 ∙ first | inr some ↦ some.0 ∙ first ]

  pub units-later : start ≤ before.since → start ≤ after.since
  units-later le = elim reduced [
    | inl none ↦ subst (λ (r : Reductions). start ≤ r.since) (sym none.0) le
    | inr some ↦ let since : after.since ≡ last.arena.given = some.1 in omega (arith, le, low, given, since, more)
  ]

  pub units-given : after.since ≤ last.arena.given
  units-given = elim reduced [
    | inl none ↦ let since : after.since ≡ before.since = ap (λ (r : Reductions). r.since) none.0 in omega (arith, low, given, since, more)
    | inr some ↦ let since : after.since ≡ last.arena.given = some.1 in omega (arith, since)
  ]
