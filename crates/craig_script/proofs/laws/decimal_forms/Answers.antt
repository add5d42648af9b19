use Rattle.craig_script.proofs.NumbersLemmas.{number_of-is_decimal, number_of-decimal, literal_of-signed_decimal, literal_of-is_decimal}
use Rattle.craig_script.proofs.laws.decimal_forms.Goals as goal

pub returns-clause-read : goal.returns-clause-read
returns-clause-read c = number_of-is_decimal

pub returns-clause-number : goal.returns-clause-number
returns-clause-number c = number_of-decimal

pub returns-clause-literal : goal.returns-clause-literal
returns-clause-literal c = literal_of-signed_decimal

pub returns-clause-read_literal : goal.returns-clause-read_literal
returns-clause-read_literal c = literal_of-is_decimal
