-- The text of a map as Wavefront OBJ: for each brush its vertices, and then its faces by the numbers of these.
use Rattle.std.specs.Prelude.{◌≡◌, ℕ, ◌+◌, ◌*◌, ◌^◌, Bool, cond, ◌||◌, ◌==◌, List, [], ◌∷◌, ◌++◌, length, map, flat_map, reverse, Option, None, Some, codes, ℤ, pos, unsigned_abs, int_lt}
use Rattle.std.specs.Fmt.{decimal}
use Rattle.algebra.specs.Space.{Homogeneous}
use Rattle.fixed_num.specs.Count.{nearest}
use Rattle.fixed_num.specs.DecimalValue.{with_sign}
use Rattle.fixed_num.specs.Decimals.{point_decimals}
use Rattle.fixed_num.specs.Shortest.{shortest_decimal}
use Rattle.exact_geom.specs.Planes.{half_space}
use Rattle.map_model.specs.Faces.{Face}
use Rattle.map_model.specs.Tree.{Whole, Node, World, Layer, Group, Entity, Brush, at, preorder}
use Rattle.map_model.specs.Below.{Below, IsRight}
use Rattle.map_model.specs.Brushes.{vertices_of}
use Rattle.map_model.specs.Loops.{loop}
use Rattle.map_model.specs.Listings.{line}
use Rattle.obj_export.specs.declared.obj.Obj.{Obj}

-- The coordinate x / w in millionths, rounded to the nearest count, halves away from 0.
abbrev pub micro_of : ℤ → ℤ → ℤ
micro_of w x = with_sign (int_lt x (pos 0)) (nearest (unsigned_abs x * 10 ^ 6) (unsigned_abs w))

abbrev pub micros : Homogeneous → List ℤ
micros v = micro_of v.weight v.vector.x ∷ micro_of v.weight v.vector.y ∷ micro_of v.weight v.vector.z ∷ []

-- The line of a vertex: its coordinates as shortest decimals.
abbrev pub vertex_line : Homogeneous → List ℕ
vertex_line v = line (codes "v" ∷ map (shortest_decimal point_decimals) (micros v))

-- A material as one word: `_` stands for a space, a tab and a carriage return, and an empty one has a name of its own.
abbrev pub parts_words : ℕ → Bool
parts_words b = b == 32 || (b == 9 || b == 13)

abbrev pub name_byte : ℕ → ℕ
name_byte b = cond (parts_words b) 95 b

abbrev pub material_name : List ℕ → List ℕ
material_name [] = codes "__TB_empty"
material_name (b ∷ bs) = map name_byte (b ∷ bs)

-- A loop run through the other way, from the same vertex on.
abbrev pub turned : List ℕ → List ℕ
turned [] = []
turned (n ∷ ns) = n ∷ reverse ns

-- The number of a vertex in the text, behind so many of earlier brushes. The first is 1.
abbrev pub vertex_number : ℕ → ℕ → List ℕ
vertex_number before n = decimal (before + 1 + n)

-- The two lines of a face: its material, and its loop, counterclockwise as seen from outside.
abbrev pub face_lines : ℕ → List Homogeneous → Face → List ℕ
face_lines before vs f =
    line (codes "usemtl" ∷ material_name f.material ∷ [])
    ++ line (codes "f" ∷ map (vertex_number before) (turned (loop vs (half_space f.plane))))

-- The lines of a brush: its vertices in the order of their names, and then its faces.
abbrev pub brush_lines : ℕ → List Homogeneous → List Face → List ℕ
brush_lines before vs fs = flat_map vertex_line vs ++ flat_map (face_lines before vs) fs

-- The text with one more brush, and how much it holds then.
abbrev pub with_brush : Below → List Face → Obj → Obj
with_brush b fs o = record {
  text = o.text ++ brush_lines o.vertices (vertices_of b fs) fs;
  brushes = o.brushes + 1;
  vertices = o.vertices + length (vertices_of b fs);
  faces = o.faces + length fs;
}

abbrev pub with_node : Below → Option Node → Obj → Obj
with_node b None o = o
with_node b (Some (World format props brushes others)) o = o
with_node b (Some (Layer name frozen props brushes others)) o = o
with_node b (Some (Group parent mark name link props brushes others)) o = o
with_node b (Some (Entity parent mark props protected brushes)) o = o
with_node b (Some (Brush parent mark faces)) o = with_brush b faces o

-- With the nodes of these numbers, in order.
abbrev pub with_nodes : Below → Whole → List ℕ → Obj → Obj
with_nodes b m [] o = o
with_nodes b m (n ∷ ns) o = with_nodes b m ns (with_node b (at m n) o)

abbrev pub no_obj : Obj
no_obj = record { text = []; brushes = 0; vertices = 0; faces = 0 }

-- The text of a map: its brushes in preorder.
abbrev pub obj_of : Below → Whole → Obj
obj_of b m = with_nodes b m (preorder m 0) no_obj

-- The map is written so, by whatever right tests.
abbrev pub IsObjOf : Whole → Obj → Type 0
IsObjOf m o = (b : Below) → IsRight b → o ≡ obj_of b m
