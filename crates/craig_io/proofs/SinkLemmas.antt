-- Writes in a row: how far a text is written, and what of it is left.
use Rattle.std.proofs.Common.{ℕ, ◌+◌, List, ◌++◌, length, take, drop, Option, Some, sym, ap, ◌∙◌, arith, append_assoc, length-drop}
use Rattle.std.proofs.lemmas.List.{drop-drop}
use Rattle.std.proofs.Math.Seq.{take-add}
use Rattle.craig_io.specs.Sink.{HasWritten}

-- more of what was left is written
pub HasWritten-more : (bytes rest next : List ℕ) (a b c : Option (List ℕ)) → HasWritten bytes rest a b → HasWritten rest next b c → HasWritten bytes next a c
HasWritten-more bytes rest next a b c w v = record {
  done = w.done + v.done;
  within = omega (arith, length-drop w.done bytes, ap length w.left, w.within, v.within);
  left = v.left ∙ ap (drop v.done) w.left ∙ drop-drop v.done w.done bytes;
  appended = record {
    grown = λ held t. v.appended.grown _ (w.appended.grown held t) ∙ ap Some (append_assoc held _ _
        ∙ ap (λ l. held ++ (take w.done bytes ++ take v.done l)) w.left ∙ ap (λ l. held ++ l) (sym (take-add w.done v.done bytes)));
  };
}
