use Rattle.craig_rows_circuits.proofs.itp.a_sequence_has_an_interpolant_for_each_cut.Goals as goal

pub sequence-requires-clause-noted : goal.sequence-requires-clause-noted
sequence-requires-clause-noted g c = λ step here needed. c.in_ok-tell_refutation.ensures.noted step here
