-- The text of a layout in each form.
use Rattle.std.specs.Prelude.{ℕ, List}
use Rattle.craig_aiger.specs.AsciiText.{aag_text}
use Rattle.craig_aiger.specs.BinaryText.{aig_text}
use Rattle.craig_aiger.specs.Layouts.{Layout}
use Rattle.craig_aiger.specs.declared.form.Form.{Form}
use Rattle.craig_aiger.specs.declared.form.Form.TheVariants.{Aag, Aig}

-- the text of a layout in a form
abbrev pub text_in : Form → Layout → List ℕ
text_in Aag l = aag_text l
text_in Aig l = aig_text l
