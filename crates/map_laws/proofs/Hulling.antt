-- hull: a brush with a face for each facet of the points.
use Rattle.std.proofs.Common.{◌≡◌, ◌≤◌, List, not, refl, subst, None, ℤ}
use Rattle.std.specs.List.{list_any}
use Rattle.std.proofs.lemmas.List.{length-map}
use Rattle.algebra.specs.Members.{◌∈◌}
use Rattle.exact_geom.specs.declared.point.Point.{Point}
use Rattle.map_model.specs.Tree.{Whole, Brush, format_of}
use Rattle.map_model.specs.Shape.{Shape, FacesOk}
use Rattle.map_model.specs.Below.{Below}
use Rattle.map_model.specs.Brushes.{distinct_points, is_same_point, spans_space, facets, is_outside_world}
use Rattle.map_model.specs.Commands.{Settings, Hull, points_in}
use Rattle.map_model.specs.Replies.{NoVolume, OutOfWorld}
use Rattle.map_model.specs.Rows.{rows, first, hull_faces}
use Rattle.map_model.specs.Own.{own}
use Rattle.map_laws.specs.Unlinked.{Unlinked}
use Rattle.map_laws.specs.BoxCommand.{KeepsMaterial}
use Rattle.map_laws.proofs.Refused.{refuse_none}
use Rattle.map_laws.proofs.RowsPass.{rows_pass}
use Rattle.map_laws.proofs.NewNodes.{put_in_world}
use Rattle.map_laws.proofs.PlainFaces.{plain_in, plain_brush}
use Rattle.map_laws.proofs.FacetFaces.{firsts_in, none_outside, facet_plane, hull_valid}
use Rattle.map_laws.proofs.Tests.{not_false}
use Rattle.map_laws.proofs.BrushRows.{few}
use Rattle.map_laws.proofs.Unlinking.{Outcome}

pub hulls : (b : Below) (s : Settings) (m : Whole) (points : List (List ℤ)) → KeepsMaterial s → Shape m → Unlinked m → first (rows b s m (Hull points)) ≡ None → Outcome m (Hull points) (own b s m (Hull points))
hulls b s m points material shape u e =
    let r = rows_pass b s m (Hull points) e in
    let ps = distinct_points (points_in points) in
    let near = λ (p : Point) (i : p ∈ ps). none_outside (points_in points) (refuse_none (list_any is_outside_world (points_in points)) (OutOfWorld 0) r.world) p (firsts_in is_same_point (points_in points) p i) in
    let wide = not_false (spans_space ps) (refuse_none (not (spans_space ps)) (NoVolume 0) r.volume) in
    let count = subst (λ n. n ≤ 128) (length-map (facets ps) (plain_in s (format_of m))) (few 0 (hull_faces s m (points_in points)) r.few_faces) in
    let ok : FacesOk (format_of m) (hull_faces s m (points_in points)) = plain_brush s (format_of m) (facets ps) material (facet_plane ps near wide) (hull_valid ps near wide count) in
    put_in_world m (Hull points) (Brush 0 None (hull_faces s m (points_in points))) shape u refl refl refl refl (λ e. cc) (record { ok = ok; no_link = refl; no_mark = refl })
