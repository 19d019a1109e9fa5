use Rattle.std.proofs.Common.{◌≡◌, Some, None, length, refl}
use Rattle.half_arena.specs.Slots.{contents, IsLive}
use Rattle.half_poly.specs.declared.links.Face.{Face}
use Rattle.half_poly.specs.Taken.{face_step}
use Rattle.half_poly.specs.Passes.{Passed}
use Rattle.half_poly.proofs.CutDone.{wall_live, old_live, within, within_vertices, from_of, paired_of, first_of, relinked_of, linked_of}
use Rattle.half_poly.proofs.Linking.{put_there}
use Rattle.half_poly.proofs.cutting.cut_arenas.Goals as goal

pub take_faces-requires : goal.take_faces-requires
take_faces-requires g c =
    let free : contents c.args.old_faces.now c.in_ok-wall.wall.0 ≡ None = rw c.in_ok-faces.ensures at c.in_ok-wall.ensures.was_free in
    let into = rw c.in_ok-faces.ensures at c.in_ok-wall.ensures.contents in
    record { live = old_live (contents c.args.old_faces.now) (contents c.put_in.new.arena) c.in_ok-wall.wall.0 (record { plane = c.args.plane.now; tag = c.args.tag; first = c.at.result }) free into }

pub returns-clause-cut : goal.returns-clause-cut
returns-clause-cut g c =
    let free : contents c.args.old_faces.now c.in_ok-wall.wall.0 ≡ None = rw c.in_ok-faces.ensures at c.in_ok-wall.ensures.was_free in
    let into = rw c.in_ok-faces.ensures at c.in_ok-wall.ensures.contents in
    let unbegun : Face = record { plane = c.args.plane.now; tag = c.args.tag; first = c.at.result } in
    let taken : Passed (face_step (contents c.args.old_faces.now) c.in_ok-doors.doors.begin.items) (contents c.put_in.new.arena) (contents c.take_faces.new.faces) = rw c.deref-10.ensures.value at c.take_faces.ensures.passed in
    let live : IsLive c.take_faces.new.faces c.in_ok-wall.wall.0 = wall_live (contents c.args.old_faces.now) (contents c.put_in.new.arena) (contents c.take_faces.new.faces) c.in_ok-doors.doors.begin.items c.in_ok-wall.wall.0 unbegun free into taken in
    record {
      V1 = contents c.add_vertices.new.vertices;
      E1 = contents c.add_pairs.new.edges;
      E2 = contents c.relink.new.edges;
      F1 = contents c.put_in.new.arena;
      F2 = contents c.take_faces.new.faces;
      tables = record {
        signs = c.args.signs.now;
        leave = c.in_ok-doors.doors.leave.items;
        enter = c.in_ok-doors.doors.enter.items;
        begin = c.in_ok-doors.doors.begin.items;
        begins = c.in_ok-begins.begins.items;
        pairs = c.in_ok-pairs.pairs.items;
        from = c.in_ok-from.from.items;
        wall = c.in_ok-wall.wall;
        first = c.some_outer.result;
      };
      phases = record {
        signs = c.requires.signs;
        leave = c.in_ok-doors.ensures.leave;
        enter = c.in_ok-doors.ensures.enter;
        begin = c.in_ok-doors.ensures.begin;
        leave_long = within c.place_limit-face_limit.result (length c.in_ok-doors.doors.leave.items) (contents c.args.old_faces.now) c.place_limit-face_limit.ensures.above c.in_ok-doors.ensures.leave_long;
        enter_long = within c.place_limit-face_limit.result (length c.in_ok-doors.doors.enter.items) (contents c.args.old_faces.now) c.place_limit-face_limit.ensures.above c.in_ok-doors.ensures.enter_long;
        begin_long = within c.place_limit-face_limit.result (length c.in_ok-doors.doors.begin.items) (contents c.args.old_faces.now) c.place_limit-face_limit.ensures.above c.in_ok-doors.ensures.begin_long;
        made = rw c.in_ok-vertices.ensures at c.in_ok-begins.ensures.made;
        vertices = c.take_vertices.ensures.passed;
        wall_free = free;
        wall_in = λ k n. put_there (contents c.args.old_faces.now) (contents c.put_in.new.arena) c.in_ok-wall.wall.0 k (Some unbegun) into n;
        faces = taken;
        wall_first = c.write.ensures live;
        paired = paired_of (contents c.args.old_edges.now) (contents c.add_pairs.new.edges) c.in_ok-doors.doors.leave.items c.in_ok-doors.doors.enter.items c.deref.result.now c.deref-2.result.now
            c.in_ok-begins.begins.items c.deref-3.result.now c.in_ok-pairs.pairs.items c.place_limit-face_limit.result c.deref.ensures.value c.deref-2.ensures.value c.deref-3.ensures.value
            c.in_ok-pairs.ensures.length c.in_ok-pairs.ensures.paired;
        pairs_long = within c.place_limit-face_limit.result (length c.in_ok-pairs.pairs.items) (contents c.args.old_faces.now) c.place_limit-face_limit.ensures.above c.in_ok-pairs.ensures.length;
        relinked = relinked_of (contents c.args.old_edges.now) (contents c.add_pairs.new.edges) (contents c.relink.new.edges) c.args.signs.now c.in_ok-doors.doors.enter.items c.deref-5.result.now
            c.in_ok-begins.begins.items c.deref-6.result.now c.in_ok-pairs.pairs.items c.deref-7.result.now c.deref-5.ensures.value c.deref-6.ensures.value c.deref-7.ensures.value c.relink.ensures.passed;
        from = from_of c.in_ok-pairs.pairs.items c.deref-4.result.now c.in_ok-from.from.items c.deref-4.ensures.value c.in_ok-from.ensures.noted;
        from_long = within_vertices c.place_limit.result (length c.in_ok-from.from.items) (contents c.add_vertices.new.vertices) c.place_limit.ensures.above c.in_ok-from.ensures.length;
        linked = linked_of c.in_ok-pairs.pairs.items c.deref-8.result.now c.in_ok-from.from.items c.deref-9.result.now c.in_ok-wall.wall (contents c.relink.new.edges) (contents c.link_pairs.new.edges)
            c.deref-8.ensures.value c.deref-9.ensures.value c.link_pairs.ensures.linked;
        first = first_of c.in_ok-pairs.pairs.items c.deref-11.result.now c.some_outer.result c.deref-11.ensures.value c.some_outer.ensures;
      };
      begin_is = refl;
      wall_is = refl;
    }
