-- The commands that make brushes of brushes or of points, or change faces, in maps in which no group is linked. The tests on solids are
-- right, and the material of new faces can be saved.
use Rattle.std.specs.Prelude.{◌≡◌, Bool, true, false, IsTrue, List, [], ◌∷◌, length, Option, Ok}
use Rattle.map_model.specs.Tree.{Whole}
use Rattle.map_model.specs.Shape.{Shape}
use Rattle.map_model.specs.Below.{Below, IsRight}
use Rattle.map_model.specs.Commands.{Command, IsGood, Settings, Tex, Clip, Subtract, Intersect, Hollow, Hull, Merge, Vertex, Snap}
use Rattle.map_model.specs.Replies.{Refusal}
use Rattle.map_model.specs.Rows.{rows, first, no_node, repeated, wrong_kind, locked_layer, flat_plane, plane_misses, apart, not_box, thick, no_vertex, fractional_vertex, too_many_points, point_range, no_volume, too_many_faces, out_of_world}
use Rattle.map_model.specs.Apply.{Applied, apply}
use Rattle.map_laws.specs.Unlinked.{Unlinked, apply_unlinked}
use Rattle.map_laws.specs.BoxCommand.{KeepsMaterial}

abbrev pub is_reshaping_command : Command → Bool
is_reshaping_command (Tex n face name off rotation scale surface) = true
is_reshaping_command (Clip part plane ns) = true
is_reshaping_command (Subtract by ns) = true
is_reshaping_command (Intersect ns) = true
is_reshaping_command (Hollow thickness ns) = true
is_reshaping_command (Hull points) = true
is_reshaping_command (Merge ns) = true
is_reshaping_command (Vertex n shift picks) = true
is_reshaping_command (Snap grid ns) = true
is_reshaping_command c = false

-- The rows on the brushes that a command names, with those that follow.
abbrev pub on_brushes : Whole → Command → List (Option Refusal) → List (Option Refusal)
on_brushes m c rest = no_node m c ∷ repeated c ∷ wrong_kind m c ∷ locked_layer m c ∷ rest

-- The rows that can refuse such a command.
abbrev pub reshaping_rows : Below → Settings → Whole → Command → List (Option Refusal)
reshaping_rows b s m (Tex n face name off rotation scale surface) =
    let c = Tex n face name off rotation scale surface in
    no_node m c ∷ wrong_kind m c ∷ locked_layer m c ∷ []
reshaping_rows b s m (Clip part plane ns) =
    let c = Clip part plane ns in
    on_brushes m c (flat_plane c ∷ plane_misses b s m c ∷ too_many_faces b s m c ∷ [])
reshaping_rows b s m (Subtract by ns) =
    let c = Subtract by ns in
    on_brushes m c (apart b m c ∷ too_many_faces b s m c ∷ [])
reshaping_rows b s m (Intersect ns) =
    let c = Intersect ns in
    on_brushes m c (apart b m c ∷ too_many_faces b s m c ∷ [])
reshaping_rows b s m (Hollow thickness ns) =
    let c = Hollow thickness ns in
    on_brushes m c (not_box m c ∷ thick b m c ∷ [])
reshaping_rows b s m (Hull points) =
    let c = Hull points in
    too_many_points b m c ∷ no_volume b m c ∷ too_many_faces b s m c ∷ out_of_world b s m c ∷ []
reshaping_rows b s m (Merge ns) =
    let c = Merge ns in
    on_brushes m c (fractional_vertex b m c ∷ too_many_points b m c ∷ too_many_faces b s m c ∷ [])
reshaping_rows b s m (Vertex n shift picks) =
    let c = Vertex n shift picks in
    no_node m c ∷ wrong_kind m c ∷ locked_layer m c ∷ no_vertex b m c ∷ fractional_vertex b m c ∷ point_range s m c ∷ no_volume b m c ∷ too_many_faces b s m c ∷ out_of_world b s m c ∷ []
reshaping_rows b s m (Snap grid ns) =
    let c = Snap grid ns in
    on_brushes m c (no_volume b m c ∷ too_many_faces b s m c ∷ [])
reshaping_rows b s m c = []

-- The offsets and the scales of a texture are two each.
abbrev pub HasPairs : Command → Type 0
HasPairs (Tex n face name off rotation scale surface) = (length off ≡ 2) × (length scale ≡ 2)
HasPairs c = Unit {0}

-- No other row holds.
abbrev pub ReshapingRowsLaw : Type 0
ReshapingRowsLaw = (b : Below) (s : Settings) (m : Whole) (c : Command) → IsTrue (is_reshaping_command c) → Unlinked m → first (rows b s m c) ≡ first (reshaping_rows b s m c)

-- Marks, edited groups and spreading change nothing.
abbrev pub ReshapingApplyLaw : Type 0
ReshapingApplyLaw = (b : Below) (s : Settings) (m : Whole) (c : Command) → IsRight b → KeepsMaterial s → IsTrue (is_reshaping_command c) → IsGood c → HasPairs c → Shape m → Unlinked m →
    apply b s m c ≡ apply_unlinked b s m c

-- The map after a command has the shape again, and no linked group: brushes that are remade are valid.
abbrev pub ReshapingCommandLaw : Type 0
ReshapingCommandLaw = (b : Below) (s : Settings) (m : Whole) (c : Command) (a : Applied) → IsRight b → KeepsMaterial s → IsTrue (is_reshaping_command c) → IsGood c → HasPairs c → Shape m → Unlinked m →
    apply b s m c ≡ Ok a → Shape a.map × Unlinked a.map
