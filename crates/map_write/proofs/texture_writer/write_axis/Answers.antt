use Rattle.std.proofs.Common.{pos, rules}
use Rattle.std.proofs.lemmas.List.{get_or_default}
use Rattle.fixed_num.specs.Decimals.{axis_decimals, offset_decimals}
use Rattle.fixed_num.specs.Shortest.{shortest_decimal}
use Rattle.map_write.specs.Written.{at}
use Rattle.map_write.proofs.WriteLemmas.{four_written}
use Rattle.map_write.proofs.texture_writer.write_axis.Goals as goal

pub returns : goal.returns
returns c =
    let a = c.args.axis in
    rw (
      c.in_ok-extend_from_slice-2.ensures.items,
      c.in_ok-write_pico_number.ensures,
      c.in_ok-push-3.ensures.items,
      c.in_ok-write_nano_number-3.ensures,
      c.in_ok-push-2.ensures.items,
      c.in_ok-write_nano_number-2.ensures,
      c.in_ok-push.ensures.items,
      c.in_ok-write_nano_number.ensures,
      c.in_ok-extend_from_slice.ensures.items,
      get_or_default a 0 c.index-axis-0.result (pos 0) (search rules),
      get_or_default a 1 c.index-axis-1.result (pos 0) (search rules),
      get_or_default a 2 c.index-axis-2.result (pos 0) (search rules),
    )
    (four_written c.args.text.now.items (shortest_decimal axis_decimals (at a 0)) (shortest_decimal axis_decimals (at a 1)) (shortest_decimal axis_decimals (at a 2))
    (shortest_decimal offset_decimals c.args.offset))
