-- Worked maps: the documents that they are saved as.
use Rattle.std.proofs.Common.{◌≡◌, refl}
use Rattle.std.specs.Prelude.{ℕ, true, List, [], ◌∷◌, None, Some, codes}
use Rattle.uv_lock.specs.declared.texture.Format.TheVariants.{Valve}
use Rattle.map_text.specs.declared.document.RawEntity.{RawEntity}
use Rattle.map_text.specs.declared.document.RawBrush.{RawBrush}
use Rattle.map_text.specs.declared.document.RawBrush.TheVariants.{Faces}
use Rattle.map_model.specs.Tree.{Whole, World, Layer, Entity}
use Rattle.map_model.specs.Saved.{saved}
use Rattle.map_model.proofs.Words.{all_words, held_as, doc, raw}
use Rattle.map_model.proofs.Scripts.{box_faces, box_map}

abbrev box : RawBrush
box = Faces box_faces

abbrev world_of : List RawBrush → RawEntity
world_of brushes = raw ((codes "classname", codes "worldspawn") ∷ (codes "mapversion", codes "220") ∷ []) brushes

-- A box of the world.
pub a_box_saved : saved box_map ≡ doc Valve (world_of (box ∷ []) ∷ [])
unfolding all_words
a_box_saved = refl

-- A frozen layer with a light.
abbrev layer_map : Whole
layer_map = held_as (Some (World Valve [] [] (1 ∷ [])) ∷ Some (Layer (codes "sky") true [] [] (2 ∷ [])) ∷ Some (Entity 1 None ((codes "classname", codes "light") ∷ []) [] []) ∷ []) 3

-- The layer is saved with the first id, and the light names it.
pub a_layer_saved : saved layer_map
    ≡ doc Valve (
    world_of []
    ∷ raw ((codes "classname", codes "func_group") ∷ (codes "_tb_type", codes "_tb_layer") ∷ (codes "_tb_name", codes "sky") ∷ (codes "_tb_id", codes "1") ∷ (codes "_tb_layer_locked", codes "1") ∷ []) []
    ∷ raw ((codes "classname", codes "light") ∷ (codes "_tb_layer", codes "1") ∷ []) [] ∷ []
    )
unfolding all_words
a_layer_saved = refl
