use Rattle.std.proofs.Common.{rules}
use mir.Syntax.{w32}
use mir.Val.{SFits}
use Rattle.std.specs.Fmt.{signed_decimal}
use Rattle.std.proofs.lemmas.Int.{to_z-of_z}
use Rattle.map_write.proofs.WriteLemmas.{three_written}
use Rattle.map_write.proofs.face_writer.write_point.Goals as goal

pub returns : goal.returns
returns c =
    let p = c.args.point.now in
    let x : SFits w32 p.x = search rules in
    let y : SFits w32 p.y = search rules in
    let z : SFits w32 p.z = search rules in
    rw (
      c.in_ok-extend_from_slice-2.ensures.items,
      c.in_ok-write_coordinate-3.ensures,
      c.in_ok-push-2.ensures.items,
      c.in_ok-write_coordinate-2.ensures,
      c.in_ok-push.ensures.items,
      c.in_ok-write_coordinate.ensures,
      c.in_ok-extend_from_slice.ensures.items,
      to_z-of_z w32 p.x x,
      to_z-of_z w32 p.y y,
      to_z-of_z w32 p.z z,
    )
    (three_written c.args.text.now.items (signed_decimal p.x) (signed_decimal p.y) (signed_decimal p.z))
