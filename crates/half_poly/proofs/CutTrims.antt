-- What a list of cuts leaves.
use Rattle.std.proofs.Common.{◌≡◌, List, [], ◌∷◌, ◌++◌, refl, sym, subst, pos, ◌<ℤ◌, arith}
use Rattle.std.proofs.lemmas.Int.{ints}
use Rattle.std.proofs.lemmas.List.{map-append}
use Rattle.algebra.specs.Members.{◌∈◌}
use Rattle.algebra.specs.Space.{HalfSpace, dot}
use Rattle.algebra.specs.World.{reach}
use Rattle.algebra.proofs.Members.{each_of_more, each_of_none}
use Rattle.trim_laws.specs.Solid.{IsInside}
use Rattle.trim_laws.specs.Valid.{HasInside}
use Rattle.trim_laws.specs.Trim.{TrimFaces}
use Rattle.trim_laws.proofs.Trimmed.{trimmed_in}
use Rattle.vertex_laws.proofs.TrimVertex.{trim_vertex}
use Rattle.vertex_laws.proofs.CubeValid.{cube_trim}
use Rattle.cut_laws.specs.Cut.{back}
use Rattle.cut_laws.proofs.Backs.{in_left, in_last}
use Rattle.cut_laws.proofs.FaceTrims.{trim_add_face, missed_trim_faces}
use Rattle.poly_laws.specs.Cuts.{TrimsTo}
use Rattle.poly_laws.proofs.Cuts.{one, cuts_gone}
use Rattle.cube_laws.proofs.CubeStands.{cube_neat}
use Rattle.half_poly.specs.declared.cut.Cut.TheVariants.{Missed, Gone, Halved}
use Rattle.half_poly.specs.Shapes.{Tagged, bounds, solid_of}
use Rattle.half_poly.specs.Trims.{StandsForAll, CubeTrimsLaw, CutTrimsLaw, GoneTrimsLaw}
use Rattle.half_poly.specs.Walls.{cube_sides}
use Rattle.half_poly.proofs.Saying.{says}
use Rattle.half_poly.proofs.Trimmings.{trims_whole}
use Rattle.half_poly.proofs.Cubing.{solid_is, cube_inside}

module _ (all : List Tagged) (s : Tagged) where
  more_is : solid_of (all ++ s ∷ []) ≡ back (solid_of all) (bounds s)
  more_is = map-append bounds all (s ∷ [])

  with_more : (H : List HalfSpace) → TrimsTo (back (solid_of all) (bounds s)) H → TrimsTo (solid_of (all ++ s ∷ [])) H
  with_more H t = subst (λ F. TrimsTo F H) (sym more_is) t

inside_sides : {all sides : List Tagged} → StandsForAll all sides → HasInside (solid_of sides)
inside_sides t = let v = t.solids.volume in record { at = v.at; inside = record { weight = v.inside.weight; all = λ g m. v.inside.all g (trimmed_in t.solids.trim g m) } }

pub cut_trims : CutTrimsLaw
cut_trims all sides after s Gone t n w d = absurd (d refl)
cut_trims all sides after s Missed t n w d = record {
  solids = whole;
  trim = subst (λ l. TrimFaces bounds (all ++ s ∷ []) l) (sym w.1)
      (missed_trim_faces bounds all s v.at t.solids.bounded t.solids.proper (each_of_more (λ f. pos 0 <ℤ dot f.normal f.normal) (bounds s) [] n (each_of_none (λ f. pos 0 <ℤ dot f.normal f.normal)))
      inside_all (v.inside.all (bounds s) (subst (λ F. bounds s ∈ F) (sym (more_is all s)) (in_last (solid_of all) (bounds s))))
      (λ x u. w.0 x (trim_vertex (solid_of all) (solid_of sides) t.solids.volume.at x t.solids.proper t.solids.volume.inside t.solids.trim u)) sides t.trim);
}
  where
    whole : TrimsTo (solid_of (all ++ s ∷ [])) (solid_of after)
    whole = with_more all s (solid_of after) (one (solid_of all) (solid_of sides) (solid_of after) (bounds s) t.solids n (says sides after s Missed (inside_sides t) w d))

    v : HasInside (solid_of (all ++ s ∷ []))
    v = whole.volume

    inside_all : IsInside (solid_of all) v.at
    inside_all = record { weight = v.inside.weight; all = λ g m. v.inside.all g (subst (λ F. g ∈ F) (sym (more_is all s)) (in_left (solid_of all) (bounds s) g m)) }
cut_trims all sides after s Halved t n w d =
    let whole = with_more all s (solid_of after) (one (solid_of all) (solid_of sides) (solid_of after) (bounds s) t.solids n (says sides after s Halved (inside_sides t) w d)) in record {
      solids = whole;
      trim = trim_add_face bounds all sides after s whole.volume.at whole.proper whole.volume.inside t.trim w.2;
    }

pub gone_trims : GoneTrimsLaw
gone_trims all sides after s t w o i = cuts_gone (solid_of all) (solid_of sides) (bounds s) t.solids w.1 o (subst (λ F. IsInside F o) (more_is all s) i)

pub cube_trims : CubeTrimsLaw
cube_trims = record {
  solids = rw solid_is (record { proper = cube_neat.proper; bounded = cube_neat.bounded; volume = cube_inside; trim = cube_trim reach (omega (arith, ints)) });
  trim = trims_whole cube_sides (rw solid_is (cube_trim reach (omega (arith, ints))));
}
