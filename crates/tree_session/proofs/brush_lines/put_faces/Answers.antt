use Rattle.std.proofs.Common.{◌≡◌, ◌+◌, ◌<◌, ◌≤◌, ◌++◌, length, take_all, get_or, Some, ap, sym, subst, ◌∙◌, arith}
use Rattle.std.specs.Prelude.{slice_get, flat_map}
use Rattle.std.specs.List.{enumerate_from}
use Rattle.std.proofs.lemmas.List.FromFn.{length-enumerate_from}
use Rattle.solid_laws.specs.Names.{AreVertices}
use Rattle.solid_brush.specs.Sides.{half_spaces as of_sides}
use Rattle.map_model.specs.Listings.{face_line}
use Rattle.loop_laws.proofs.Lists.{one_more_text}
use Rattle.loop_laws.proofs.Faces.{few_faces, same_spaces, face_at, numbered_at}
use Rattle.tree_session.proofs.brush_lines.put_faces.Goals as goal

pub overflow_cast-k : goal.overflow_cast-k
overflow_cast-k c =
    let few = few_faces c.args.body.now c.is_valid.ensures.brush in let size = ap length c.faces-faces.ensures.faces in omega arith

pub put_face-requires : goal.put_face-requires
put_face-requires c =
    let fs = c.args.body.now in let f = c.index-faces-k.result in
    let size = ap length c.faces-faces.ensures.faces in
    let lt : c.loop-k.k < length fs = omega arith in
    let is : f ≡ get_or fs c.loop-k.k f = c.index-faces-k.is ∙ ap (λ l. get_or l c.loop-k.k f) c.faces-faces.ensures.faces in
    ap (λ s. slice_get (of_sides s) c.loop-k.k) c.solid-solid.ensures.sides ∙ ap (λ l. slice_get l c.loop-k.k) (same_spaces 0 fs) ∙ face_at fs c.loop-k.k f lt is

pub loop-k-preserved : goal.loop-k-preserved
loop-k-preserved c V vertices =
    let fs = c.args.body.now in let f = c.index-faces-k.result in
    let size = ap length c.faces-faces.ensures.faces in
    let lt : c.loop-k.k < length fs = omega arith in
    let is : f ≡ get_or fs c.loop-k.k f = c.index-faces-k.is ∙ ap (λ l. get_or l c.loop-k.k f) c.faces-faces.ensures.faces in
    let n : 0 + c.loop-k.k ≡ c.loop-k.k = omega arith in
    let its = subst (λ F. AreVertices F V) (sym (ap of_sides c.solid-solid.ensures.sides ∙ same_spaces 0 fs)) vertices in
    one_more_text (face_line V) (enumerate_from 0 fs) c.loop-k.k (c.loop-k.k, f) c.args.listing.now c.loop-k.listing c.put_face.new.listing
    (numbered_at 0 fs c.loop-k.k f lt is ∙ ap (λ m. Some (m, f)) n) (c.loop-k.invariant V vertices) (c.in_ok-put_face.ensures V its)

pub returns : goal.returns
returns c V vertices =
    let fs = c.args.body.now in
    let size = ap length c.faces-faces.ensures.faces in
    let long = length-enumerate_from 0 fs in
    let last = c.loop-k-test.false in
    let all : length (enumerate_from 0 fs) ≤ c.loop-k.k = omega arith in
    c.loop-k.invariant V vertices ∙ ap (λ l. c.args.listing.now ++ flat_map (face_line V) l) (take_all c.loop-k.k (enumerate_from 0 fs) all)
