use Rattle.craig_rows_circuits.proofs.itp.has_values.Goals as goal

pub interpolate-requires-clause-noted : goal.interpolate-requires-clause-noted
interpolate-requires-clause-noted g c = λ step here needed. c.in_ok-tell_refutation.ensures.noted step here
