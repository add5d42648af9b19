use Rattle.craig_top.proofs.CommandLinesLemmas.{line_of_all_cuts, line_of_cuts, line_that_adds, line_that_divides, line_that_formats, line_that_limits, line_that_marks, line_that_names_a_system, line_that_solves, literal_form_of, overlong_line, read_lines_are_short}
use Rattle.craig_top.proofs.laws.lines.words_of_commands.Goals as goal

pub returns-clause-add : goal.returns-clause-add
returns-clause-add c = line_that_adds (literal_form_of (λ word n is. (c.decimal_forms.ensures.read word n is).0)) (λ word n is. (c.decimal_forms.ensures.read word n is).0)

pub returns-clause-parts : goal.returns-clause-parts
returns-clause-parts c = line_that_divides (literal_form_of (λ word n is. (c.decimal_forms.ensures.read word n is).0)) (λ word n is. (c.decimal_forms.ensures.read word n is).0)

pub returns-clause-system : goal.returns-clause-system
returns-clause-system c = line_that_names_a_system (literal_form_of (λ word n is. (c.decimal_forms.ensures.read word n is).0)) (λ word n is. (c.decimal_forms.ensures.read word n is).0)

pub returns-clause-mark : goal.returns-clause-mark
returns-clause-mark c = line_that_marks (literal_form_of (λ word n is. (c.decimal_forms.ensures.read word n is).0)) (λ word n is. (c.decimal_forms.ensures.read word n is).0)

pub returns-clause-all_cuts : goal.returns-clause-all_cuts
returns-clause-all_cuts c = line_of_all_cuts (literal_form_of (λ word n is. (c.decimal_forms.ensures.read word n is).0)) (λ word n is. (c.decimal_forms.ensures.read word n is).0)

pub returns-clause-cuts : goal.returns-clause-cuts
returns-clause-cuts c = line_of_cuts (literal_form_of (λ word n is. (c.decimal_forms.ensures.read word n is).0)) (λ word n is. (c.decimal_forms.ensures.read word n is).0)

pub returns-clause-solve : goal.returns-clause-solve
returns-clause-solve c = line_that_solves (literal_form_of (λ word n is. (c.decimal_forms.ensures.read word n is).0)) (λ word n is. (c.decimal_forms.ensures.read word n is).0)

pub returns-clause-short : goal.returns-clause-short
returns-clause-short c = read_lines_are_short

pub returns-clause-overlong : goal.returns-clause-overlong
returns-clause-overlong c = overlong_line

pub returns-clause-limit : goal.returns-clause-limit
returns-clause-limit c = line_that_limits (literal_form_of (λ word n is. (c.decimal_forms.ensures.read word n is).0)) (λ word n is. (c.decimal_forms.ensures.read word n is).0)

pub returns-clause-format : goal.returns-clause-format
returns-clause-format c = line_that_formats (literal_form_of (λ word n is. (c.decimal_forms.ensures.read word n is).0)) (λ word n is. (c.decimal_forms.ensures.read word n is).0)
