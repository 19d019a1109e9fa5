-- What trimming leaves of sides that bound a volume in the world is a solid.
use Rattle.std.proofs.Common.{◌<◌, ◌≤◌, List, length, arith}
use Rattle.std.proofs.lemmas.List.{length-map}
use Rattle.algebra.specs.Space.{Homogeneous, HalfSpace}
use Rattle.trim_laws.specs.Trim.{Trim, TrimFaces}
use Rattle.trim_laws.specs.Valid.{Valid, HasCause, too_many_faces, is_too_many}
use Rattle.trim_laws.proofs.Bearing.{in_of_inside}
use Rattle.trim_laws.proofs.Trimmed.{trim, trim_back}
use Rattle.trim_laws.proofs.Once.{valid}
use Rattle.trim_laws.proofs.Cause.{in_reach}
use Rattle.trim_laws.proofs.Faces.{trim_faces}
use Rattle.solid_laws.proofs.World.{world_bounded}
use Rattle.solid_laws.proofs.FourFaces.{four_faces}
use Rattle.solid_laws.proofs.NoCause.{no_cause_of_trim}
use Rattle.solid_brush.specs.declared.side.Side.{Side}
use Rattle.solid_brush.specs.Sides.{bounds, half_spaces, HaveTags, IsSolid, IsBuiltOf, IsWithinWorld}
use Rattle.solid_brush.proofs.Tags.{kept_tags, kept_fewer}

trimmed_list : (sides kept : List Side) → TrimFaces bounds sides kept → Trim (half_spaces sides) (half_spaces kept)
trimmed_list sides kept t = (trim_faces Side bounds sides kept t).half_spaces

-- the trimmed list has at least four faces
at_least_four : (F G : List HalfSpace) (V : List Homogeneous) → IsWithinWorld F V → Trim F G → 4 ≤ length G
at_least_four F G V w t =
    let o = w.volume.at in
    four_faces G (world_bounded G o (trim_back F G o t (in_of_inside w.volume.inside)) (λ p i. w.within p (trim F G o p w.proper w.volume.inside t i)))

valid_list : (F G : List HalfSpace) (V : List Homogeneous) → IsWithinWorld F V → Trim F G → length G ≤ 128 → Valid G
valid_list F G V w t l = valid F G w.volume.at w.proper w.volume.inside w.within t (at_least_four F G V w t) l

few_spaces : (kept : List Side) → length kept ≤ 128 → length (half_spaces kept) ≤ 128
few_spaces kept l = let e = length-map kept bounds in omega arith

pub solid_of : (sides kept : List Side) (V : List Homogeneous) → HaveTags sides → IsWithinWorld (half_spaces sides) V → TrimFaces bounds sides kept → length kept ≤ 128 → IsSolid kept
solid_of sides kept V tags w t l =
    record { tags = kept_tags t tags; brush = valid_list (half_spaces sides) (half_spaces kept) V w (trimmed_list sides kept t) (few_spaces kept l) }

pub built_of : (sides kept : List Side) (V : List Homogeneous) → IsWithinWorld (half_spaces sides) V → TrimFaces bounds sides kept → length kept ≤ 128 → IsBuiltOf sides kept
built_of sides kept V w t l =
    let F = half_spaces sides in let G = half_spaces kept in let o = w.volume.at in let list = trimmed_list sides kept t in
    record {
      trim = t;
      points = λ p. (trim_back F G p list, trim F G o p w.proper w.volume.inside list);
      accepted = λ c. no_cause_of_trim F G o c w.proper w.volume.inside list (valid_list F G V w list (few_spaces kept l));
    }

-- more faces than a brush may need
pub too_many : (sides kept : List Side) (V : List Homogeneous) → IsWithinWorld (half_spaces sides) V → TrimFaces bounds sides kept → 128 < length kept →
    HasCause (half_spaces sides) (too_many_faces (length kept))
too_many sides kept V w t l =
    let o = w.volume.at in let i = w.volume.inside in
    is_too_many (λ n. n o (in_reach o i.weight (w.within o (in_of_inside i))) i)
    (λ out. out.outside (w.within out.at out.is_in))
    (record { kept = half_spaces kept; trim = trimmed_list sides kept t; count = length-map kept bounds; above = l })

pub few_kept : (sides kept : List Side) → TrimFaces bounds sides kept → length sides ≤ 256 → length kept ≤ 256
few_kept sides kept t l = let k = kept_fewer t in omega arith
