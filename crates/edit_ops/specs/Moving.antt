-- Nodes that a motion moves: what each row says of one node, and what is asked of a node before it is moved.
use Rattle.std.specs.Prelude.{◌≡◌, ℕ, Bool, true, false, cond, List, [], ◌∷◌, map, Option, None, Some, option_map, unwrap_or}
use Rattle.algebra.specs.Members.{◌∈◌}
use Rattle.algebra.specs.Space.{HalfSpace}
use Rattle.exact_geom.specs.Planes.{half_space, first_out_of_range}
use Rattle.trim_laws.specs.Valid.{Valid}
use Rattle.map_model.specs.Faces.{Face}
use Rattle.map_model.specs.Motions.{Motion, moved_plane}
use Rattle.map_model.specs.Tree.{Whole, Node, Entity, Brush, at}
use Rattle.map_model.specs.Shape.{half_spaces}
use Rattle.map_model.specs.Below.{Below}
use Rattle.map_model.specs.Commands.{Command, Move, Turn, Flip}
use Rattle.map_model.specs.Replies.{kept, Refusal, OutOfWorld, LockOffset, Origin}
use Rattle.map_model.specs.Rows.{refuse, at_each, at_each_face_from, beyond}
use Rattle.map_model.specs.Carry.{carry, lost_offset}
use Rattle.map_model.specs.Origins.{is_origin_stuck}

-- Commands. ---------------------------------------------------------------------------------------------------------------------------

-- The commands that move nodes as they stand.
abbrev pub is_motion : Command → Bool
is_motion (Move shift ns) = true
is_motion (Turn axis quarters about ns) = true
is_motion (Flip axis at ns) = true
is_motion c = false

abbrev pub is_move : Command → Bool
is_move (Move shift ns) = true
is_move c = false

-- Rows. -------------------------------------------------------------------------------------------------------------------------------

-- A face goes beyond the range of points.
abbrev pub points_of : Motion → ℕ → Option Node → Option Refusal
points_of r n (Some (Brush parent mark faces)) = beyond n (moved_plane r) faces
points_of r n x = None

-- The half-spaces of faces, once they are moved.
abbrev pub moved_spaces : Motion → List Face → List HalfSpace
moved_spaces r fs = map (λ f. half_space (moved_plane r f.plane)) fs

-- The brush leaves the world.
abbrev pub world_of : Motion → ℕ → Option Node → Below → Option Refusal
world_of r n (Some (Brush parent mark faces)) b = refuse (b.leaves_world (moved_spaces r faces)) (OutOfWorld n)
world_of r n x b = None

-- With lock, the offset of a face has no count.
abbrev pub lost_of : Motion → ℕ → ℕ → Face → Option Refusal
lost_of r n k f = option_map (λ offset. LockOffset n k (kept offset)) (lost_offset r f.tex)

abbrev pub offsets_of : Motion → ℕ → Option Node → Option Refusal
offsets_of r n (Some (Brush parent mark faces)) = at_each_face_from 0 faces (lost_of r n)
offsets_of r n x = None

-- The entity has an origin that can't be moved.
abbrev pub origin_of : Motion → ℕ → Option Node → Option Refusal
origin_of r n (Some (Entity parent mark props protected brushes)) = refuse (is_origin_stuck r props) (Origin n)
origin_of r n x = None

-- The rows on all nodes that are moved.
abbrev pub points_row : Motion → Whole → List ℕ → Option Refusal
points_row r m ns = at_each ns (λ n. points_of r n (at m n))

abbrev pub world_row : Motion → Whole → List ℕ → Below → Option Refusal
world_row r m ns b = at_each ns (λ n. world_of r n (at m n) b)

abbrev pub offsets_row : Bool → Motion → Whole → List ℕ → Option Refusal
offsets_row lock r m ns = cond lock (at_each ns (λ n. offsets_of r n (at m n))) None

abbrev pub origins_row : Motion → Whole → List ℕ → Option Refusal
origins_row r m ns = at_each ns (λ n. origin_of r n (at m n))

abbrev pub motion_rows : Bool → Motion → Whole → List ℕ → Below → List (Option Refusal)
motion_rows lock r m ns b = points_row r m ns ∷ world_row r m ns b ∷ offsets_row lock r m ns ∷ origins_row r m ns ∷ []

-- Moved nodes. ------------------------------------------------------------------------------------------------------------------------

-- The face is carried, or stays where it can't be.
abbrev pub carried : Bool → Motion → Face → Face
carried lock r f = unwrap_or (carry lock r f) f

-- What is asked of the faces of a brush that is moved: points stay in range, no offset is lost, and the brush that comes out is valid.
pub record CanMove (lock : Bool) (r : Motion) (fs : List Face) : Type 0 where
  pub in_range : (f : Face) → f ∈ fs → first_out_of_range (moved_plane r f.plane) ≡ None
  pub offsets : (f : Face) → f ∈ fs → lock ≡ true → lost_offset r f.tex ≡ None
  pub valid : Valid (half_spaces (map (carried lock r) fs))

-- The same of a node; of one that is no brush nothing is asked.
abbrev pub CanMoveNode : Bool → Motion → Option Node → Type 0
CanMoveNode lock r (Some (Brush parent mark faces)) = CanMove lock r faces
CanMoveNode lock r x = Unit {0}
