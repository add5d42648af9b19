use Rattle.std.proofs.Common.{◌≡◌, ◌∙◌, ◌++◌, ℕ, ℤ, List, OnOk, ap, map, nat_le, refl, false, true, subst, sym}
use Rattle.std.specs.Int.RustNames.{unsigned_abs}
use Rattle.std.specs.List.{list_all}
use Rattle.craig_script.specs.Reading.{is_within, variable_limit}
use Rattle.craig_top.specs.Appended.{AppendsText}
use Rattle.craig_top.specs.ReplyTexts.{ok_text}
use Rattle.craig_top.specs.Stored.{IsAdmitted, given_state, seen}
use Rattle.craig_top.specs.StoredReplies.{IsSolveReplyStored}
use Rattle.craig_top.proofs.VerdictLemmas.{no_refutation, ok_reply, solve-admitted, solve-reply}
use Rattle.craig_top.proofs.stored.Stored.obey.Goals as goal

pub solve-requires-clause-parts : goal.solve-requires-clause-parts
solve-requires-clause-parts c =
    subst (λ (pairs : List (ℕ × ℤ)). list_all (λ pair. nat_le pair.0 c.args.self.now.sides.parts) pairs ≡ true) (sym c.as_slice.ensures)
    (solve-admitted c.args.self.now.sides.parts _ c.in-Solve.pairs (subst (IsAdmitted c.args.self.now) c.in-Solve.is c.requires.admitted)).0

pub solve-requires-clause-variables : goal.solve-requires-clause-variables
solve-requires-clause-variables c =
    subst (λ (pairs : List (ℕ × ℤ)). list_all (is_within variable_limit) (map (λ (pair : ℕ × ℤ). unsigned_abs pair.1) pairs) ≡ true) (sym c.as_slice.ensures)
    (solve-admitted c.args.self.now.sides.parts _ c.in-Solve.pairs (subst (IsAdmitted c.args.self.now) c.in-Solve.is c.requires.admitted)).1

pub returns-in-Solve-clause-reply : goal.returns-in-Solve-clause-reply
returns-in-Solve-clause-reply c =
    let by_root = subst (λ (pairs : List (ℕ × ℤ)). OnOk c.solve.result (AppendsText c.args.out.now.items c.solve.new.out.items (IsSolveReplyStored c.args.self.now c.solve.new.self pairs))) c.as_slice.ensures c.solve.ensures.reply in
    rw c.in-Solve.is (solve-reply c.solve.result _ _ _ (given_state c.args.self.now) c.in-Solve.pairs _ _ by_root)

pub returns-in-Solve-clause-refutation : goal.returns-in-Solve-clause-refutation
returns-in-Solve-clause-refutation c =
    rw c.in-Solve.is (subst (λ (pairs : List (ℕ × ℤ)). OnOk c.solve.result (AppendsText c.args.out.now.items c.solve.new.out.items (IsSolveReplyStored c.args.self.now c.solve.new.self pairs))) c.as_slice.ensures c.solve.ensures.reply)

pub returns-in_ok-change-in_default-clause-reply : goal.returns-in_ok-change-in_default-clause-reply
returns-in_ok-change-in_default-clause-reply c = (ok_text, ok_reply (given_state c.args.self.now) c.args.command ok_text c.in_default.not-Nothing c.in_default.not-Solve refl, c.append_ok.ensures ∙ ap (λ bytes. bytes ++ ok_text) c.reserve.ensures.items)

pub returns-in_ok-change-in_default-clause-refutation : goal.returns-in_ok-change-in_default-clause-refutation
returns-in_ok-change-in_default-clause-refutation c = (ok_text, no_refutation (seen c.change.new.self false) (given_state c.args.self.now) c.args.command ok_text c.in_default.not-Solve, c.append_ok.ensures ∙ ap (λ bytes. bytes ++ ok_text) c.reserve.ensures.items)
