-- The vertices of a solid, read one after another.
use Rattle.std.proofs.Common.{◌≡◌, ℕ, ◌<◌, ◌≤◌, ◌+◌, List, [], ◌∷◌, ◌++◌, length, take, Option, Some, None, ap, ◌∙◌, sym, subst, refl, arith, pos}
use Rattle.std.specs.Prelude.{slice_get}
use Rattle.std.proofs.lemmas.List.{take_all}
use Rattle.std.proofs.lemmas.Option.{get_or_from_slice_get, slice_get-get_or, slice_get_within}
use Rattle.std.proofs.Math.Numerals.{suc-eq-add-one}
use Rattle.std.proofs.Math.Seq.{take-suc}
use Rattle.algebra.specs.Members.{Every}
use Rattle.algebra.specs.Space.{Homogeneous, HalfSpace}
use Rattle.algebra.specs.World.{InCube, world}
use Rattle.solid_laws.specs.Names.{AreVertices}
use Rattle.solid_laws.specs.FaceLoop.{HasVertexCount, HasVertex}
use Rattle.solid_laws.proofs.OneList.{one_list}
use Rattle.solid_brush.specs.declared.side.Side.{Side}
use Rattle.solid_brush.specs.Sides.{half_spaces, IsSolid}

-- The first k of the vertices are read.
pub record Read (F : List HalfSpace) (k : ℕ) (done : List Homogeneous) : Type 0 where
  pub V : List Homogeneous
  pub vertices : AreVertices F V
  pub is : done ≡ take k V

pub read_none : (F : List HalfSpace) (count : ℕ) → HasVertexCount F count → Read F 0 []
read_none F count h = record { V = h.V; vertices = h.vertices; is = refl }

pub read_more : (F : List HalfSpace) (k : ℕ) (done : List Homogeneous) (v : Homogeneous) (r : Option Homogeneous) → Read F k done → HasVertex F k r → r ≡ Some v → Read F (k + 1) (done ++ v ∷ [])
read_more F k done v r d h e =
    let s : slice_get d.V k ≡ Some v = ap (λ W. slice_get W k) (one_list F d.V h.V d.vertices h.vertices) ∙ h.is_vertex ∙ e in
    let l = slice_get_within d.V k v s in
    record {
      V = d.V;
      vertices = d.vertices;
      is = (λ i. d.is i ++ sym (get_or_from_slice_get d.V k v v s) i ∷ []) ∙ sym (take-suc d.V k v l) ∙ ap (λ n. take n d.V) (suc-eq-add-one k);
    }

pub reads_on : (F : List HalfSpace) (k count : ℕ) (r : Option Homogeneous) → HasVertexCount F count → HasVertex F k r → k < count → ¬ (r ≡ None)
reads_on F k count r c h l e =
    let V = c.V in let s = slice_get-get_or V k (pos_origin) (let n = c.is_count in omega arith) in
    let t : slice_get V k ≡ None = ap (λ W. slice_get W k) (one_list F V h.V c.vertices h.vertices) ∙ h.is_vertex ∙ e in absurd (cc)
  where
    pos_origin : Homogeneous
    pos_origin = record { vector = record { x = pos 0; y = pos 0; z = pos 0 }; weight = pos 1 }

pub read_all : (F : List HalfSpace) (k count : ℕ) (done : List Homogeneous) → HasVertexCount F count → Read F k done → count ≤ k → AreVertices F done
read_all F k count done c d l =
    let e : done ≡ d.V = d.is ∙ take_all k d.V (let n = c.is_count in let o = ap length (one_list F c.V d.V c.vertices d.vertices) in omega arith) in
    subst (AreVertices F) (sym e) d.vertices

pub in_the_world : (sides : List Side) (V : List Homogeneous) → IsSolid sides → AreVertices (half_spaces sides) V → Every (InCube world) V
in_the_world sides V s v = λ p i. s.brush.within p (v.each p i).0.inside
