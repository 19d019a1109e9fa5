use Rattle.std.proofs.lemmas.Bool.Decides.{Decides-int_eq}
use Rattle.std.proofs.lemmas.Slice.Eq.{slice_eq-Decides}
use Rattle.map_nodes.proofs.SameParts.{decides_standard, counts_equal}
use Rattle.map_nodes.proofs.same_faces.same_standard.Goals as goal

pub returns : goal.returns
returns c =
    let a = c.args.a.now in
    let b = c.args.b.now in
    decides_standard a b c.eq.result c.eq-2.result c.eq-3.result c.same_surface.result
    (slice_eq-Decides Decides-int_eq a.off b.off c.eq.result c.eq.ensures)
    (counts_equal a.rotation b.rotation c.eq-2.result c.eq-2.ensures)
    (slice_eq-Decides Decides-int_eq a.scale b.scale c.eq-3.result c.eq-3.ensures)
    c.same_surface.ensures
