use Rattle.std.proofs.lemmas.Bool.Decides.{Decides-int_eq}
use Rattle.std.proofs.lemmas.Slice.Eq.{slice_eq-Decides}
use Rattle.map_nodes.proofs.SameParts.{decides_valve, counts_equal, lists_equal}
use Rattle.map_nodes.proofs.same_faces.same_valve.Goals as goal

pub returns : goal.returns
returns c =
    let a = c.args.a.now in
    let b = c.args.b.now in
    decides_valve a b c.eq.result c.eq-2.result c.eq-3.result c.eq-4.result c.same_surface.result
    (slice_eq-Decides lists_equal a.axis b.axis c.eq.result c.eq.ensures)
    (slice_eq-Decides Decides-int_eq a.off b.off c.eq-2.result c.eq-2.ensures)
    (counts_equal a.rotation b.rotation c.eq-3.result c.eq-3.ensures)
    (slice_eq-Decides Decides-int_eq a.scale b.scale c.eq-4.result c.eq-4.ensures)
    c.same_surface.ensures
