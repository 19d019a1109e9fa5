-- What the rows tell of the brushes that a command names.
use Rattle.std.proofs.Common.{◌≡◌, ℕ, ◌≤◌, List, [], ◌∷◌, map, true, refl, subst, Option, Some, None, option_map}
use Rattle.std.specs.Prelude.{nat_lt, unwrap_or, length}
use Rattle.std.proofs.lemmas.Bool.{ltb-false}
use Rattle.algebra.specs.Members.{◌∈◌, here, there}
use Rattle.uv_lock.specs.declared.texture.Format.{Format}
use Rattle.map_model.specs.Faces.{Face}
use Rattle.map_model.specs.Tree.{Whole, Node, World, Layer, Group, Entity, Brush, brush, at, kind_of, faces_of, faces_at, format_of, is_brush}
use Rattle.map_model.specs.Shape.{Shape, FacesOk, NodeOk}
use Rattle.map_model.specs.Below.{Below}
use Rattle.map_model.specs.Commands.{Command, Settings}
use Rattle.map_model.specs.Replies.{TooManyFaces}
use Rattle.map_model.specs.Rows.{rows, first, at_each, too_many, named, fits}
use Rattle.map_laws.proofs.Skeleton.{kind_at, kind_is}
use Rattle.map_laws.proofs.Refused.{first_none, refuse_none, nodes_fit}

-- Each named node is a brush.
pub named_brushes : (b : Below) (s : Settings) (m : Whole) (c : Command) → ((n : ℕ) → fits m c n ≡ is_brush m n) → first (rows b s m c) ≡ None → (n : ℕ) → n ∈ named c → kind_at m n ≡ Some brush
named_brushes b s m c same e n i = kind_is m brush n (subst (λ t. t ≡ true) (same n) ((nodes_fit b s m c e).fit n i))

-- The faces of a brush are right.
slot_faces : (f : Format) (o : Option Node) → ((x : Node) → o ≡ Some x → NodeOk f x) → option_map kind_of o ≡ Some brush → FacesOk f (unwrap_or (option_map faces_of o) [])
slot_faces f None each e = absurd (cc)
slot_faces f (Some (World a b c d)) each e = absurd (cc)
slot_faces f (Some (Layer a b c d g)) each e = absurd (cc)
slot_faces f (Some (Group a b c d g h i)) each e = absurd (cc)
slot_faces f (Some (Entity a b c d g)) each e = absurd (cc)
slot_faces f (Some (Brush a b c)) each e = each (Brush a b c) refl

pub brush_faces : (m : Whole) (n : ℕ) → Shape m → kind_at m n ≡ Some brush → FacesOk (format_of m) (faces_at m n)
brush_faces m n shape is = slot_faces (format_of m) (at m n) (λ x e. shape.each_node n x e) is

-- The results of a brush are few enough.
pub few : (n : ℕ) (fs : List Face) → too_many n fs ≡ None → length fs ≤ 128
few n fs e = ltb-false 128 (length fs) (refuse_none (nat_lt 128 (length fs)) (TooManyFaces n (length fs)) e)

pub each_few : (n : ℕ) (results : List (List Face)) → at_each results (too_many n) ≡ None → (fs : List Face) → fs ∈ results → length fs ≤ 128
each_few n [] e fs i = elim i [ ]
each_few n (x ∷ xs) e fs here = few n x (first_none (too_many n x) (map (too_many n) xs) e).0
each_few n (x ∷ xs) e fs (there i) = each_few n xs (first_none (too_many n x) (map (too_many n) xs) e).1 fs i
