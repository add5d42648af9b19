use Rattle.std.proofs.Common.{◌≡◌, ◌++◌, List, length, take}
use Rattle.std.specs.List.{flat_map}
use Rattle.craig_spec.specs.Literal.{Clause}
use Rattle.craig_top.specs.LemmaReply.{AreNamedLemmas}
use Rattle.craig_top.specs.ReplyTexts.{lemma_text, unknown_line}
use Rattle.craig_top.proofs.lemmas.append_lemmas.Given as goal

-- the lemmas so far are printed
abbrev pub invariant-loop-place : goal.invariant-loop-place
invariant-loop-place l =
    (named : List Clause) × AreNamedLemmas l.names (take l.place l.lemmas) named × (l.out.items ≡ l.fn.out.items ++ (unknown_line (length l.lemmas) ++ flat_map lemma_text named))
