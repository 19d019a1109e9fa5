-- What a cut does to the arenas, from the slots before it (L) to those after it (N).
use Rattle.std.specs.Prelude.{◌≡◌, ◌⊎◌, ℕ, false, pos, ◌<ℤ◌, ◌≤ℤ◌}
use Rattle.algebra.specs.Space.{HalfSpace, SamePoint, side}
use Rattle.cut_laws.specs.Cut.{cut_point}
use Rattle.poly_laws.specs.Links.{Links, HasVertex, HasEdge, HasFace, from_point, to_point}

-- A half-edge with an end behind the plane stays.
pub record Stays (L : Links) (P : HalfSpace) (e : ℕ) : Type 0 where
  pub live : HasEdge L e
  pub behind : (side P (from_point L e) <ℤ pos 0) ⊎ (side P (to_point L e) <ℤ pos 0)

-- It leads from behind the plane to the plane or beyond.
pub record Leaves (L : Links) (P : HalfSpace) (e : ℕ) : Type 0 where
  pub live : HasEdge L e
  pub from : side P (from_point L e) <ℤ pos 0
  pub to : pos 0 ≤ℤ side P (to_point L e)

-- It leads from the plane or beyond to behind it.
pub record Enters (L : Links) (P : HalfSpace) (e : ℕ) : Type 0 where
  pub live : HasEdge L e
  pub from : pos 0 ≤ℤ side P (from_point L e)
  pub to : side P (to_point L e) <ℤ pos 0

-- It leads through the plane, from behind to the front.
pub record Crosses (L : Links) (P : HalfSpace) (e : ℕ) : Type 0 where
  pub live : HasEdge L e
  pub from : side P (from_point L e) <ℤ pos 0
  pub to : pos 0 <ℤ side P (to_point L e)

-- The slots that the cut picked: for a half-edge that crosses its new vertex; for a face the half-edges by which it leaves and
-- enters the part behind, and the pair on the plane between them, its own and the plane's; and the slot of the plane.
pub record Picks : Type 0 where
  pub fresh : ℕ → ℕ
  pub leave : ℕ → ℕ
  pub enter : ℕ → ℕ
  pub inner : ℕ → ℕ
  pub outer : ℕ → ℕ
  pub plane_slot : ℕ

-- The face is left at one vertex and entered at another, so it gets a pair.
pub record HasPair (L : Links) (P : HalfSpace) (N : Links) (p : Picks) (k : ℕ) : Type 0 where
  pub leaves : Leaves L P (p.leave k)
  pub leave_face : L.face (p.leave k) ≡ k
  pub enters : Enters L P (p.enter k)
  pub enter_face : L.face (p.enter k) ≡ k
  pub apart : ¬ (N.origin (L.twin (p.leave k)) ≡ N.origin (p.enter k))

-- Where a live vertex comes from.
pub data VertexKind (L : Links) (P : HalfSpace) (p : Picks) (x : ℕ) : Type 0 where
  old_vertex : HasVertex L x → side P (L.point x) ≤ℤ pos 0 → VertexKind L P p x
  fresh_vertex : (e : ℕ) → Crosses L P e → x ≡ p.fresh e → VertexKind L P p x

-- Where a live face comes from: it has a vertex behind, or is the plane.
pub record HasBehind (L : Links) (P : HalfSpace) (k : ℕ) : Type 0 where
  pub it : ℕ
  pub live : HasEdge L it
  pub face_is : L.face it ≡ k
  pub behind : side P (from_point L it) <ℤ pos 0

pub data FaceKind (L : Links) (P : HalfSpace) (p : Picks) (k : ℕ) : Type 0 where
  old_face : HasFace L k → HasBehind L P k → FaceKind L P p k
  plane_face : k ≡ p.plane_slot → FaceKind L P p k

-- Where a live half-edge comes from.
pub data EdgeKind (L : Links) (P : HalfSpace) (N : Links) (p : Picks) (e : ℕ) : Type 0 where
  old_edge : Stays L P e → EdgeKind L P N p e
  inner_edge : (k : ℕ) → HasPair L P N p k → e ≡ p.inner k → EdgeKind L P N p e
  outer_edge : (k : ℕ) → HasPair L P N p k → e ≡ p.outer k → EdgeKind L P N p e

-- The half-edge of the plane that goes on at the end of that of the face k.
pub record GoesOn (L : Links) (P : HalfSpace) (N : Links) (p : Picks) (k : ℕ) : Type 0 where
  pub face : ℕ
  pub pair : HasPair L P N p face
  pub meets : N.origin (p.outer face) ≡ N.origin (p.inner k)
  pub next_is : N.next (p.outer k) ≡ p.outer face

pub record IsCut (L : Links) (P : HalfSpace) (N : Links) (p : Picks) : Type 0 where
  -- vertices: those in front go, and each half-edge that crosses gets one
  pub vertex_kind : (x : ℕ) → HasVertex N x → VertexKind L P p x
  pub vertex_stays : (x : ℕ) → HasVertex L x → side P (L.point x) ≤ℤ pos 0 → HasVertex N x
  pub point_stays : (x : ℕ) → HasVertex L x → side P (L.point x) ≤ℤ pos 0 → N.point x ≡ L.point x
  pub fresh_live : (e : ℕ) → Crosses L P e → HasVertex N (p.fresh e)
  pub fresh_was_free : (e : ℕ) → Crosses L P e → L.has_vertex (p.fresh e) ≡ false
  pub fresh_point : (e : ℕ) → Crosses L P e → SamePoint (N.point (p.fresh e)) (cut_point P (from_point L e) (to_point L e))
  pub fresh_weight : (e : ℕ) → Crosses L P e → pos 0 <ℤ (N.point (p.fresh e)).weight
  -- faces: those with no vertex behind go, and the plane comes
  pub face_kind : (k : ℕ) → HasFace N k → FaceKind L P p k
  pub face_stays : (k : ℕ) → HasFace L k → HasBehind L P k → HasFace N k
  pub plane_stays : (k : ℕ) → HasFace L k → HasBehind L P k → N.plane k ≡ L.plane k
  pub plane_live : HasFace N p.plane_slot
  pub plane_was_free : L.has_face p.plane_slot ≡ false
  pub plane_is : N.plane p.plane_slot ≡ P
  pub first_stays : (k : ℕ) → HasFace L k → HasBehind L P k → HasEdge N (N.first k) × (N.face (N.first k) ≡ k)
  pub first_plane : (k : ℕ) → HasPair L P N p k → HasEdge N (N.first p.plane_slot) × (N.face (N.first p.plane_slot) ≡ p.plane_slot)
  -- half-edges with an end behind stay, shortened where they cross
  pub edge_kind : (e : ℕ) → HasEdge N e → EdgeKind L P N p e
  pub edge_stays : (e : ℕ) → Stays L P e → HasEdge N e
  pub twin_stays : (e : ℕ) → Stays L P e → N.twin e ≡ L.twin e
  pub face_of_stays : (e : ℕ) → Stays L P e → N.face e ≡ L.face e
  pub origin_stays : (e : ℕ) → Stays L P e → side P (from_point L e) ≤ℤ pos 0 → N.origin e ≡ L.origin e
  pub origin_moves : (e : ℕ) → Crosses L P e → N.origin (L.twin e) ≡ p.fresh e
  pub next_stays : (e : ℕ) → Stays L P e → side P (to_point L e) <ℤ pos 0 → N.next e ≡ L.next e
  -- the half-edges by which a face leaves and enters
  pub leave_is : (e : ℕ) → Leaves L P e → Leaves L P (p.leave (L.face e)) × (L.face (p.leave (L.face e)) ≡ L.face e)
  pub enter_is : (e : ℕ) → Enters L P e → Enters L P (p.enter (L.face e)) × (L.face (p.enter (L.face e)) ≡ L.face e)
  pub next_shut : (k : ℕ) → Leaves L P (p.leave k) → L.face (p.leave k) ≡ k → Enters L P (p.enter k) → L.face (p.enter k) ≡ k →
      N.origin (L.twin (p.leave k)) ≡ N.origin (p.enter k) → N.next (p.leave k) ≡ p.enter k
  -- pairs
  pub next_leave : (k : ℕ) → HasPair L P N p k → N.next (p.leave k) ≡ p.inner k
  pub inner_live : (k : ℕ) → HasPair L P N p k → HasEdge N (p.inner k)
  pub inner_origin : (k : ℕ) → HasPair L P N p k → N.origin (p.inner k) ≡ N.origin (L.twin (p.leave k))
  pub inner_face : (k : ℕ) → HasPair L P N p k → N.face (p.inner k) ≡ k
  pub inner_twin : (k : ℕ) → HasPair L P N p k → N.twin (p.inner k) ≡ p.outer k
  pub inner_next : (k : ℕ) → HasPair L P N p k → N.next (p.inner k) ≡ p.enter k
  pub outer_live : (k : ℕ) → HasPair L P N p k → HasEdge N (p.outer k)
  pub outer_origin : (k : ℕ) → HasPair L P N p k → N.origin (p.outer k) ≡ N.origin (p.enter k)
  pub outer_face : (k : ℕ) → HasPair L P N p k → N.face (p.outer k) ≡ p.plane_slot
  pub outer_twin : (k : ℕ) → HasPair L P N p k → N.twin (p.outer k) ≡ p.inner k
  pub outer_next : (k j : ℕ) → HasPair L P N p k → HasPair L P N p j → N.origin (p.outer j) ≡ N.origin (p.inner k) → GoesOn L P N p k
