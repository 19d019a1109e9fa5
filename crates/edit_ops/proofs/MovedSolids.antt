-- The sides of a brush that is moved, and whether it leaves the world.
use Rattle.std.proofs.Common.{◌≡◌, ℕ, suc, ◌≤◌, List, [], ◌∷◌, length, map, Bool, true, false, refl, ap, sym, subst, ◌∙◌, arith, None}
use Rattle.std.specs.Bool.{Decides}
use Rattle.std.proofs.lemmas.Bool.{false≢true}
use Rattle.std.proofs.lemmas.List.{length-map}
use Rattle.algebra.specs.Members.{◌∈◌, here, there, Every}
use Rattle.algebra.specs.Space.{HalfSpace}
use Rattle.exact_geom.specs.Planes.{half_space, first_out_of_range}
use Rattle.trim_laws.specs.Valid.{Valid, OutOfWorld}
use Rattle.orient48.specs.Laws.{IsTurn}
use Rattle.moved_laws.specs.Moved.{moved_list}
use Rattle.moved_laws.proofs.Halves.{list_moved}
use Rattle.solid_brush.specs.declared.side.Side.{Side}
use Rattle.solid_brush.specs.Sides.{bounds, IsSolid}
use Rattle.solid_brush.specs.Sides as solid
use Rattle.solid_brush.specs.Moved.{moved_side, IsMovedOf}
use Rattle.map_nodes.specs.Seen.{sides_from, sides_of}
use Rattle.map_nodes.proofs.FaceSides.{sides_length}
use Rattle.map_model.specs.Faces.{Face}
use Rattle.map_model.specs.Motions.{Motion, moved_plane}
use Rattle.map_model.specs.Shape.{half_spaces}
use Rattle.edit_ops.specs.Moving.{moved_spaces, carried, CanMove}
use Rattle.edit_ops.proofs.OneFace.{carried_plane}

-- Few faces.
pub few_of : (fs : List Face) → IsSolid (sides_of fs) → length fs ≤ 128
few_of fs s = let a = s.brush.most in let b = length-map (sides_of fs) bounds in let d = sides_length 0 fs in omega arith

-- The half-spaces of faces, moved. ------------------------------------------------------------------------------------------------------

planes_of : (r : Motion) (fs : List Face) → moved_spaces r fs ≡ map half_space (map (moved_plane r) (map (λ (f : Face). f.plane) fs))
planes_of r [] = refl
planes_of r (f ∷ fs) = ap (λ l. half_space (moved_plane r f.plane) ∷ l) (planes_of r fs)

old_planes : (fs : List Face) → map half_space (map (λ (f : Face). f.plane) fs) ≡ half_spaces fs
old_planes [] = refl
old_planes (f ∷ fs) = ap (λ l. half_space f.plane ∷ l) (old_planes fs)

-- The moved half-spaces of faces are those of the faces, moved.
pub spaces_are : (r : Motion) (fs : List Face) → IsTurn r.matrix → moved_spaces r fs ≡ moved_list r (half_spaces fs)
spaces_are r fs turn = planes_of r fs ∙ list_moved r (map (λ (f : Face). f.plane) fs) turn ∙ ap (moved_list r) (old_planes fs)

-- The sides of faces, moved. ------------------------------------------------------------------------------------------------------------

sides_in_range : (r : Motion) (k : ℕ) (fs : List Face) → ((f : Face) → f ∈ fs → first_out_of_range (moved_plane r f.plane) ≡ None) →
    Every (λ s. first_out_of_range (moved_plane r s.plane) ≡ None) (sides_from k fs)
sides_in_range r k [] h s i = elim i [ ]
sides_in_range r k (f ∷ fs) h s here = h f here
sides_in_range r k (f ∷ fs) h s (there i) = sides_in_range r (suc k) fs (λ g j. h g (there j)) s i

-- Where the moved planes of faces are in range, so are those of their sides.
pub in_range : (r : Motion) (fs : List Face) (sides : List Side) → sides ≡ sides_of fs → ((f : Face) → f ∈ fs → first_out_of_range (moved_plane r f.plane) ≡ None) →
    Every (λ s. first_out_of_range (moved_plane r s.plane) ≡ None) sides
in_range r fs sides e h = subst (λ l. Every (λ s. first_out_of_range (moved_plane r s.plane) ≡ None) l) (sym e) (sides_in_range r 0 fs h)

spaces_from : (r : Motion) (k : ℕ) (fs : List Face) → solid.half_spaces (map (moved_side r) (sides_from k fs)) ≡ moved_spaces r fs
spaces_from r k [] = refl
spaces_from r k (f ∷ fs) = ap (λ F. half_space (moved_plane r f.plane) ∷ F) (spaces_from r (suc k) fs)

spaces_moved : (r : Motion) (fs : List Face) (sides : List Side) → sides ≡ sides_of fs → solid.half_spaces (map (moved_side r) sides) ≡ moved_spaces r fs
spaces_moved r fs sides e = ap (λ l. solid.half_spaces (map (moved_side r) l)) e ∙ spaces_from r 0 fs

valid_stays : (F : List HalfSpace) → Valid F → ¬ (OutOfWorld F)
valid_stays F v out = out.outside (v.within out.at out.is_in)

-- A brush that is moved stays in the world; or there is none, since it leaves it.
pub stays_in : (r : Motion) (fs : List Face) (sides : List Side) → sides ≡ sides_of fs → Valid (solid.half_spaces (map (moved_side r) sides)) → Decides false (OutOfWorld (moved_spaces r fs))
stays_in r fs sides e v = (λ t. absurd (false≢true t), λ out. absurd (valid_stays (moved_spaces r fs) (subst Valid (spaces_moved r fs sides e) v) out))

pub is_out : (r : Motion) (fs : List Face) (sides : List Side) → sides ≡ sides_of fs → OutOfWorld (solid.half_spaces (map (moved_side r) sides)) → Decides true (OutOfWorld (moved_spaces r fs))
is_out r fs sides e out = (λ t. subst OutOfWorld (spaces_moved r fs sides e) out, λ out. refl)

-- Bodies. -------------------------------------------------------------------------------------------------------------------------------

carried_from : (lock : Bool) (r : Motion) (k : ℕ) (fs : List Face) → ((f : Face) → f ∈ fs → (carried lock r f).plane ≡ moved_plane r f.plane) → map (moved_side r) (sides_from k fs) ≡ sides_from k (map (carried lock r) fs)
carried_from lock r k [] h = refl
carried_from lock r k (f ∷ fs) h = λ i. record { plane = sym (h f here) i; tag = k } ∷ carried_from lock r (suc k) fs (λ g j. h g (there j)) i

-- The moved sides are those of the carried faces.
carried_sides : (lock : Bool) (r : Motion) (fs : List Face) (sides : List Side) → CanMove lock r fs → sides ≡ sides_of fs → map (moved_side r) sides ≡ sides_of (map (carried lock r) fs)
carried_sides lock r fs sides can e = ap (map (moved_side r)) e ∙ carried_from lock r 0 fs (λ f i. carried_plane lock r f (can.offsets f i))

pub fits : (lock : Bool) (r : Motion) (fs faces : List Face) (sides moved : List Side) → CanMove lock r fs → sides ≡ sides_of fs → faces ≡ map (carried lock r) fs → moved ≡ map (moved_side r) sides → moved ≡ sides_of faces
fits lock r fs faces sides moved can e f m = m ∙ carried_sides lock r fs sides can e ∙ ap sides_of (sym f)

carried_spaces : (lock : Bool) (r : Motion) (fs : List Face) → ((f : Face) → f ∈ fs → (carried lock r f).plane ≡ moved_plane r f.plane) → half_spaces (map (carried lock r) fs) ≡ moved_spaces r fs
carried_spaces lock r [] h = refl
carried_spaces lock r (f ∷ fs) h = λ i. half_space (h f here i) ∷ carried_spaces lock r fs (λ g j. h g (there j)) i

-- A brush that can be moved stays in the world.
pub never_out : (lock : Bool) (r : Motion) (fs : List Face) (sides : List Side) → CanMove lock r fs → sides ≡ sides_of fs → ¬ (OutOfWorld (solid.half_spaces (map (moved_side r) sides)))
never_out lock r fs sides can e out =
    valid_stays (moved_spaces r fs) (subst Valid (carried_spaces lock r fs (λ f i. carried_plane lock r f (can.offsets f i))) can.valid) (subst OutOfWorld (spaces_moved r fs sides e) out)
