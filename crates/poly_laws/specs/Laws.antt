-- The law of cutting arenas.
use Rattle.std.specs.Prelude.{List, pos, ◌<ℤ◌}
use Rattle.trim_laws.specs.Solid.{IsInside, Proper, Bounded}
use Rattle.trim_laws.specs.Trim.{Trim}
use Rattle.algebra.specs.Members.{◌∈◌}
use Rattle.algebra.specs.Space.{Homogeneous, HalfSpace, dot, side}
use Rattle.vertex_laws.specs.Vertex.{IsVertex, VertexOnBehind}
use Rattle.cut_laws.specs.Cut.{back, Sifts}
use Rattle.poly_laws.specs.Links.{Links}
use Rattle.poly_laws.specs.Stands.{Neat, StandsFor}
use Rattle.poly_laws.specs.Cut.{Picks, IsCut}

-- A face of the cut list is an old one with a vertex behind, or the plane.
pub data OfCut (F : List HalfSpace) (P : HalfSpace) : HalfSpace → Type 0 where
  keeps_face : {f : HalfSpace} → f ∈ F → VertexOnBehind F f P → OfCut F P f
  adds_face : OfCut F P P

-- G is what trimming makes of F, cut by the plane P.
pub record CutList (F : List HalfSpace) (P : HalfSpace) (G : List HalfSpace) : Type 0 where
  pub old : Neat F
  pub new : Neat G
  pub P_in : P ∈ G
  pub kind : (g : HalfSpace) → g ∈ G → OfCut F P g
  pub stays : (f : HalfSpace) → f ∈ F → VertexOnBehind F f P → f ∈ G
  pub vertex : (v : Homogeneous) → IsVertex (back F P) v → IsVertex G v
  pub vertex_back : (v : Homogeneous) → IsVertex G v → IsVertex (back F P) v

-- Where the arenas stood for the list, after the cut they stand for the cut list.
abbrev pub CutArenasLaw : Type 0
CutArenasLaw = (F G : List HalfSpace) (P : HalfSpace) (L N : Links) (p : Picks) → CutList F P G → StandsFor F L → IsCut L P N p → StandsFor G N

-- A trimmed bounded list has faces that all bear, each half-space once.
abbrev pub NeatLaw : Type 0
NeatLaw = (G : List HalfSpace) → Proper G → Bounded G → Trim G G → Neat G

-- With a vertex behind the plane and one in front: the faces with a vertex behind, and then the plane, are the trimmed list.
pub record CutOff (F K : List HalfSpace) (P : HalfSpace) : Type 0 where
  pub trim : Trim (back F P) (back K P)
  pub again : Trim (back K P) (back K P)
  pub at : Homogeneous
  pub inside : IsInside (back K P) at
  pub list : CutList F P (back K P)

abbrev pub CutListLaw : Type 0
CutListLaw = (F K : List HalfSpace) (P : HalfSpace) (o a b : Homogeneous) → Neat F → pos 0 <ℤ dot P.normal P.normal → Trim F F → IsInside F o →
    IsVertex F a → IsVertex F b → side P a <ℤ pos 0 → pos 0 <ℤ side P b → Sifts F P F K → CutOff F K P
