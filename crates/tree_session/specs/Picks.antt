-- The first brush on a ray, among those with the numbers so far.
use Rattle.std.specs.Prelude.{◌≡◌, ℕ, cond, List, [], ◌∷◌, filter, flat_map, Option, None, Some, option_map, option_and_then, ◌*ℤ◌, int_lt}
use Rattle.algebra.specs.Space.{Vector}
use Rattle.ray_pick.specs.declared.picking.Hit.{Hit}
use Rattle.ray_laws.specs.Laws.{of_share}
use Rattle.map_model.specs.Faces.{Face}
use Rattle.map_model.specs.Tree.{Whole, Node, Brush, at, is_brush, numbers_from}
use Rattle.map_model.specs.Replies.{Reply, Hit as Hits, kept}
use Rattle.map_model.specs.Machine.{RayHit, hit_of, nearest_from, face_on}
use Rattle.tree_session.specs.declared.picking.Met.{Met}

-- The faces of the brush of a number, if there is one.
abbrev pub faces_of_brush : Node → Option (List Face)
faces_of_brush (Brush parent mark faces) = Some faces
faces_of_brush x = None

abbrev pub brush_at : Whole → ℕ → Option (List Face)
brush_at m n = option_and_then faces_of_brush (at m n)

-- What a ray meets of the node of a number that is a brush, and of no other; and of all brushes with numbers below k.
abbrev pub hits_at : Whole → (from to : Vector) → ℕ → List RayHit
hits_at m from to n = cond (is_brush m n) (hit_of m from to n) []

abbrev pub hits_below : Whole → (from to : Vector) → ℕ → List RayHit
hits_below m from to k = flat_map (hit_of m from to) (filter (is_brush m) (numbers_from 0 k))

-- The nearest of some hits: the first of those that no other is nearer than.
abbrev pub nearest : List RayHit → Option RayHit
nearest [] = None
nearest (h ∷ hits) = Some (nearest_from h hits)

-- A hit of a brush in the machine's words.
abbrev pub ray_hit : ℕ → Hit → RayHit
ray_hit n hit = record { node = n; at = of_share hit.at }

abbrev pub hits_of : ℕ → Option Hit → List RayHit
hits_of n None = []
hits_of n (Some hit) = ray_hit n hit ∷ []

abbrev pub ray_hit_of : Met → RayHit
ray_hit_of met = ray_hit met.node met.hit

-- The ray meets this of the node of a number, and on this face.
pub record IsHitAt (m : Whole) (from to : Vector) (n : ℕ) (hit : Option Hit) : Type 0 where
  pub hits : hits_at m from to n ≡ hits_of n hit
  pub face : (h : Hit) → hit ≡ Some h → face_on m from to (ray_hit n h) ≡ h.face

-- The ray meets this first of the brushes with numbers below k, and on this face.
pub record IsNearest (m : Whole) (from to : Vector) (k : ℕ) (best : Option Met) : Type 0 where
  pub hit : nearest (hits_below m from to k) ≡ option_map ray_hit_of best
  pub face : (met : Met) → best ≡ Some met → face_on m from to (ray_hit_of met) ≡ met.hit.face

-- The hit so far, unless the one of the node n is earlier.
abbrev pub earlier_of : Met → Met → Met
earlier_of met next = cond (int_lt (next.hit.at.num *ℤ met.hit.at.den) (met.hit.at.num *ℤ next.hit.at.den)) next met

abbrev pub earliest : Option Met → ℕ → Option Hit → Option Met
earliest best n None = best
earliest None n (Some hit) = Some (record { node = n; hit = hit })
earliest (Some met) n (Some hit) = Some (earlier_of met (record { node = n; hit = hit }))

-- What is replied.
abbrev pub hit_reply : Met → Reply
hit_reply met = Hits met.node met.hit.face (kept (of_share met.hit.at))
