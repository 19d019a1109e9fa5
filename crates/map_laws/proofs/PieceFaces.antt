-- The pieces of a brush without others are brushes, where their faces are right and few.
use Rattle.std.proofs.Common.{◌≤◌, List, [], ◌∷◌, ◌++◌, length, sym, subst}
use Rattle.std.specs.Prelude.{filter}
use Rattle.algebra.specs.Members.{◌∈◌, here, there, Every}
use Rattle.exact_geom.proofs.PlaneLaws.{is_plane-reverse}
use Rattle.uv_lock.specs.declared.texture.Format.{Format}
use Rattle.map_model.specs.Faces.{Face}
use Rattle.map_model.specs.Shape.{FaceOk, FacesOk}
use Rattle.map_model.specs.Below.{Below, IsRight}
use Rattle.map_model.specs.Brushes.{reversed, piece_lists, pieces, trimmed, has_inside}
use Rattle.map_model.proofs.Members.{in_map, in_filter}
use Rattle.map_laws.proofs.TrimmedFaces.{Encloses, encloses_more, trimmed_ok}

reversed_ok : (f : Format) (g : Face) → FaceOk f g → FaceOk f (reversed g)
reversed_ok f g ok = record { form = ok.form; plane = is_plane-reverse g.plane ok.plane; material = ok.material; numbers = ok.numbers }

only : (f : Format) (g : Face) → FaceOk f g → Every (FaceOk f) (g ∷ [])
only f g ok h here = ok
only f g ok h (there i) = elim i [ ]

lists_enclose : (f : Format) (so_far rest : List Face) → Encloses f so_far → Every (FaceOk f) rest → (fs : List Face) → fs ∈ piece_lists so_far rest → Encloses f fs
lists_enclose f so_far [] e ok fs i = elim i [ ]
lists_enclose f so_far (g ∷ rest) e ok fs here = encloses_more f so_far (reversed g ∷ []) e (only f (reversed g) (reversed_ok f g (ok g here)))
lists_enclose f so_far (g ∷ rest) e ok fs (there i) = lists_enclose f (so_far ++ g ∷ []) rest (encloses_more f so_far (g ∷ []) e (only f g (ok g here))) (λ h j. ok h (there j)) fs i

pub pieces_ok : (b : Below) (f : Format) (a by : List Face) → IsRight b → Encloses f a → Every (FaceOk f) by → ((fs : List Face) → fs ∈ pieces b a by → length fs ≤ 128) →
    (fs : List Face) → fs ∈ pieces b a by → FacesOk f fs
pieces_ok b f a by right e ok few fs i =
    let x = in_map (trimmed b) (filter (has_inside b) (piece_lists a by)) fs i in
    let y = in_filter (has_inside b) (piece_lists a by) x.0 x.1 in
    subst (FacesOk f) (sym x.2) (trimmed_ok b f x.0 right (lists_enclose f a by e ok x.0 y.0) y.1 (subst (λ l. length l ≤ 128) x.2 (few fs i)))
