-- Vertices decide exactly which faces bear, and whether some point is inside.
use Rattle.std.proofs.Common.{List, inl, inr, ⊎_elim, pos, ◌<ℤ◌}
use Rattle.algebra.specs.Members.{◌∈◌, here}
use Rattle.algebra.specs.Space.{HalfSpace, dot, SameHalfSpace}
use Rattle.trim_laws.specs.Solid.{Bounded, Proper}
use Rattle.trim_laws.specs.Trim.{Bears}
use Rattle.trim_laws.proofs.SameHalfSpace.{same_or_not}
use Rattle.trim_laws.proofs.Bearing.{bears_in, in_of_inside}
use Rattle.vertex_laws.specs.Vertex.{VertexOnBehind}
use Rattle.vertex_laws.proofs.Corner.{corner, corner_on_face}
use Rattle.vertex_laws.proofs.Criterion.{bears, volume, lower_behind, no_volume}
use Rattle.solid_laws.specs.Laws.{BearsExactlyLaw, HasCorners, InsideExactlyLaw}

-- From the inner point of a face, down on g, there is a vertex on the face.
behind : (F : List HalfSpace) (f g : HalfSpace) → Bounded F → pos 0 <ℤ dot f.normal f.normal → f ∈ F → g ∈ F → Bears F f → ¬ (SameHalfSpace f g) → VertexOnBehind F f g
behind F f g b r m n e apart =
    let c = corner_on_face F g f e.at b (bears_in e) m r e.on in
    record { at = c.at; vertex = c.vertex; on = c.kept f here; behind = lower_behind c.lower c.vertex.inside.weight e.weight (e.others g n apart) }

corners : (F : List HalfSpace) (f : HalfSpace) → Bounded F → Proper F → f ∈ F → Bears F f → HasCorners F f
corners F f b r m e = let c = corner_on_face F f f e.at b (bears_in e) m (r f m) e.on in record {
  corner = c.at;
  vertex = c.vertex;
  on = c.kept f here;
  behind = λ g n. ⊎_elim (λ s. inl s) (λ apart. inr (behind F f g b (r f m) m n e apart)) (same_or_not f g (r f m) (r g n));
}

pub bears_exactly : BearsExactlyLaw
bears_exactly F f b r m = (corners F f b r m, λ c. bears F f c.corner c.vertex c.on c.behind)

abbrev everywhere : HalfSpace
everywhere = record { normal = record { x = pos 0; y = pos 0; z = pos 0 }; distance = pos 0 }

pub inside_exactly : InsideExactlyLaw
inside_exactly F b = (
  λ e. let i = e.inside in let c = corner F everywhere e.at b (in_of_inside i) in record { corner = c.at; vertex = c.vertex; behind = no_volume F e.at b i },
  λ c. volume F c.corner c.vertex c.behind,
)
