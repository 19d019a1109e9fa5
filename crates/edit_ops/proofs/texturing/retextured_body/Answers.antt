use Rattle.std.proofs.Common.{◌≡◌, ◌+◌, ◌<◌, ◌++◌, ◌∷◌, length, take, drop, ap, sym, subst, ◌∙◌}
use Rattle.map_nodes.specs.Seen.{sides_of}
use Rattle.map_model.specs.Own.{change_at}
use Rattle.edit_ops.specs.Texturing.{retextured_face}
use Rattle.edit_ops.proofs.ChangedFaces.{changed_is, same_sides, keeps_plane}
use Rattle.edit_ops.proofs.texturing.retextured_body.Goals as goal

pub of-requires : goal.of-requires
of-requires c =
    let f = retextured_face c.args.c.now in
    let old = c.faces-old.result.now in
    let lt = subst (λ l. c.args.face < length l) (sym c.faces-old.ensures.faces) c.requires.there in
    let list : c.in_ok-faces.faces ≡ change_at c.args.face f old =
    c.in_ok-faces.ensures ∙ ap (λ x. take c.args.face old ++ x ∷ drop (c.args.face + 1) old) c.in_ok-new.ensures ∙ changed_is f old c.args.face c.index-old-face.result lt c.index-old-face.is in
    record {
      fits = c.in_ok-solid.ensures.equal ∙ c.solid.ensures.sides ∙ ap sides_of (sym c.faces-old.ensures.faces) ∙ sym (same_sides f (keeps_plane c.args.c.now) c.args.face old) ∙ ap sides_of (sym list);
    }

pub returns : goal.returns
returns c =
    let f = retextured_face c.args.c.now in
    let old = c.faces-old.result.now in
    let lt = subst (λ l. c.args.face < length l) (sym c.faces-old.ensures.faces) c.requires.there in
    c.of.ensures ∙ c.in_ok-faces.ensures ∙ ap (λ x. take c.args.face old ++ x ∷ drop (c.args.face + 1) old) c.in_ok-new.ensures ∙ changed_is f old c.args.face c.index-old-face.result lt c.index-old-face.is
    ∙ ap (change_at c.args.face f) c.faces-old.ensures.faces
