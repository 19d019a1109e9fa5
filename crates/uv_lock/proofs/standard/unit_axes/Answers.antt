use Rattle.std.proofs.Common.{◌∙◌, ◌∷◌, [], Some, option_map, ap, sym}
use Rattle.exact_geom.specs.Planes.{half_space}
use Rattle.uv_lock.specs.Coordinates.{in_units}
use Rattle.uv_lock.proofs.Quarters.{small_parts, two_axes}
use Rattle.uv_lock.proofs.standard.unit_axes.Goals as goal

pub counts-requires : goal.counts-requires
counts-requires c = (small_parts (half_space c.args.plane.now).normal c.base_axes.result c.base_axes.ensures).0

pub counts-requires-2 : goal.counts-requires-2
counts-requires-2 c = (small_parts (half_space c.args.plane.now).normal c.base_axes.result c.base_axes.ensures).1

pub returns : goal.returns
returns c =
    ap (option_map in_units) c.base_axes.ensures ∙ ap Some (two_axes (half_space c.args.plane.now).normal c.base_axes.result c.base_axes.ensures)
    ∙ (λ i. Some (sym c.counts.ensures i ∷ sym c.counts-2.ensures i ∷ []))
