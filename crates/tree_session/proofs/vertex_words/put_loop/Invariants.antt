use Rattle.std.proofs.Common.{◌≡◌, ◌++◌, take, List, Some}
use Rattle.std.specs.Prelude.{slice_get, map}
use Rattle.algebra.specs.Space.{Homogeneous, HalfSpace}
use Rattle.solid_laws.specs.Names.{AreVertices}
use Rattle.solid_brush.specs.Sides.{half_spaces}
use Rattle.map_model.specs.Loops.{loop}
use Rattle.map_model.specs.Listings.{vertex_word}
use Rattle.tree_session.specs.Brushes.{spaced}
use Rattle.tree_session.proofs.vertex_words.put_loop.Given as goal

abbrev pub invariant-loop-k : goal.invariant-loop-k
invariant-loop-k l =
    (V : List Homogeneous) (f : HalfSpace) → AreVertices (half_spaces l.solid) V → slice_get (half_spaces l.solid) l.face ≡ Some f →
    l.listing ≡ l.fn.listing ++ spaced (map (vertex_word V) (take l.k (loop V f)))
