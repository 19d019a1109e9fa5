use Rattle.std.proofs.Common.{Some, ap, sym, subst, ◌∙◌}
use Rattle.map_model.specs.Tree.{whole}
use Rattle.map_model.specs.Shape.{half_spaces}
use Rattle.map_model.specs.Replies.{NoVolume}
use Rattle.exact_geom.specs.Rounding.{IsGrid}
use Rattle.solid_brush.specs.Sides as solid
use Rattle.vertex_edit.specs.Places as places
use Rattle.vertex_edit.specs.SnapFaults.{IsNoSnapFor}
use Rattle.cut_plans.proofs.Faces.{spaces}
use Rattle.cut_plans.proofs.Trimmed.{valid_faces}
use Rattle.vertex_plans.proofs.Nearests.{grid_kept}
use Rattle.vertex_plans.proofs.SnapRows.{comes, snapped_few, snapped_many, snapped_flat}
use Rattle.vertex_plans.proofs.snapping.snap_one.Goals as goal

pub snap-requires : goal.snap-requires
snap-requires c = record { grid = subst IsGrid (sym (grid_kept c.args.grid.now c.requires.grid)) c.requires.grid }

pub remade-requires : goal.remade-requires
remade-requires c =
    let fs = c.body_at-old.result.now in
    let s = subst (λ g. places.IsSnapped (solid.half_spaces c.solid.result.now) g c.in-Ok.moved.facets c.in-Ok.moved.solid) (grid_kept c.args.grid.now c.requires.grid) c.in-Ok.ensures.moved in
    let r = subst (λ F. places.IsSnapped F c.args.grid.now c.in-Ok.moved.facets c.in-Ok.moved.solid) (ap solid.half_spaces c.solid.ensures.sides ∙ spaces 0 fs) s in
    record { from = comes fs c.args.grid.now c.requires.grid (valid_faces fs c.is_valid.ensures) r.vs r.rounded c.in-Ok.moved.facets c.in-Ok.moved.solid r.edit }

pub returns-in_ok-body-in-Ok : goal.returns-in_ok-body-in-Ok
returns-in_ok-body-in-Ok c =
    let fs = c.body_at-old.result.now in
    let s = subst (λ g. places.IsSnapped (solid.half_spaces c.solid.result.now) g c.in-Ok.moved.facets c.in-Ok.moved.solid) (grid_kept c.args.grid.now c.requires.grid) c.in-Ok.ensures.moved in
    let r = subst (λ F. places.IsSnapped F c.args.grid.now c.in-Ok.moved.facets c.in-Ok.moved.solid) (ap solid.half_spaces c.solid.ensures.sides ∙ spaces 0 fs) s in
    snapped_few (whole c.args.map.now) c.args.grid.now c.args.id fs c.body_at-old.ensures c.requires.grid (valid_faces fs c.is_valid.ensures) c.in-Ok.moved.facets c.in-Ok.moved.solid r c.in_ok-body-in-Ok.body c.in_ok-body-in-Ok.ensures

pub returns-in-Err-NoVolume : goal.returns-in-Err-NoVolume
returns-in-Err-NoVolume c =
    let fs = c.body_at-old.result.now in
    let here = subst (λ g. IsNoSnapFor (solid.half_spaces c.solid.result.now) g c.in-Err-NoVolume.field-0) (grid_kept c.args.grid.now c.requires.grid) c.in-Err-NoVolume.ensures.fault in
    let none = subst (λ F. IsNoSnapFor F c.args.grid.now c.in-Err-NoVolume.field-0) (ap solid.half_spaces c.solid.ensures.sides ∙ spaces 0 fs) here in
    λ b right. snapped_flat (whole c.args.map.now) c.args.grid.now c.args.id fs c.body_at-old.ensures c.requires.grid (valid_faces fs c.is_valid.ensures) (rw c.in-Err-NoVolume.field-0-is at none) b right
    ∙ (λ i. Some (NoVolume (sym c.number.ensures i)))

pub returns-in-Err-TooManyFaces : goal.returns-in-Err-TooManyFaces
returns-in-Err-TooManyFaces c =
    let fs = c.body_at-old.result.now in
    let here = subst (λ g. IsNoSnapFor (solid.half_spaces c.solid.result.now) g c.in-Err-TooManyFaces.field-0) (grid_kept c.args.grid.now c.requires.grid) c.in-Err-TooManyFaces.ensures.fault in
    let none = subst (λ F. IsNoSnapFor F c.args.grid.now c.in-Err-TooManyFaces.field-0) (ap solid.half_spaces c.solid.ensures.sides ∙ spaces 0 fs) here in
    rw c.in-Err-TooManyFaces.field-0-is (snapped_many (whole c.args.map.now) c.args.grid.now c.args.id fs c.body_at-old.ensures c.requires.grid (valid_faces fs c.is_valid.ensures) c.in-Err-TooManyFaces.count (rw c.in-Err-TooManyFaces.field-0-is at none))
