use Rattle.std.proofs.Common.{rules, w64}
use mir.Val.{SFits}
use Rattle.std.specs.Fmt.{signed_decimal}
use Rattle.std.proofs.lemmas.Int.{to_z-of_z}
use Rattle.fixed_num.specs.Decimals.{surface_decimals}
use Rattle.fixed_num.specs.Shortest.{shortest_decimal}
use Rattle.map_write.proofs.WriteLemmas.{spaced_written}
use Rattle.map_write.proofs.surface_writer.write_surface.Goals as goal

pub returns : goal.returns
returns c =
    let s = c.surface.inside in
    let contents : SFits w64 s.contents = search rules in
    let flags : SFits w64 s.flags = search rules in
    rw (
      c.in-Some.is,
      c.in_ok-write_micro_number.ensures,
      c.in_ok-push-3.ensures.items,
      c.in_ok-write_bits-2.ensures,
      c.in_ok-push-2.ensures.items,
      c.in_ok-write_bits.ensures,
      c.in_ok-push.ensures.items,
      ← c.surface.view_is,
      to_z-of_z w64 s.contents contents,
      to_z-of_z w64 s.flags flags,
    )
    (spaced_written c.args.text.now.items (signed_decimal s.contents) (signed_decimal s.flags) (shortest_decimal surface_decimals s.value))
