use Rattle.std.proofs.Common.{◌+◌}
use Rattle.std.specs.List.{flat_map, range_with_len}
use Rattle.craig_script.specs.Generator.{first_helper, higher_bit, inner_bit, lowest_bit}
use Rattle.craig_script.proofs.GeneratorLemmas.{four_rows}
use Rattle.craig_script.proofs.generator.append_step.Goals as goal

pub returns : goal.returns
returns c =
    four_rows c.append_higher_bit.result (c.args.before + 1) (first_helper c.args.before) (lowest_bit c.args.before) (flat_map (inner_bit c.args.before) (range_with_len 1 5)) (higher_bit c.args.before 6)
    c.args.script.now c.append_first_helper.new.script c.append_lowest_bit.new.script c.append_inner_bits.new.script c.append_higher_bit.new.script
    c.in_ok-append_first_helper.ensures c.in_ok-append_lowest_bit.ensures c.in_ok-append_inner_bits.ensures c.append_higher_bit.ensures
