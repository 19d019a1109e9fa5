-- The program's two tables of words.
use Rattle.std.specs.Prelude.{ℕ, List, [], ◌∷◌, codes}

-- the words of the commands, in their order
abbrev pub command_words : List (List ℕ)
command_words =
    codes "box" ∷ codes "hull" ∷ codes "delete" ∷ codes "copy" ∷ codes "move" ∷ codes "turn" ∷
    codes "flip" ∷ codes "clip" ∷ codes "subtract" ∷ codes "intersect" ∷ codes "merge" ∷
    codes "hollow" ∷ codes "vertex" ∷ codes "snap" ∷ codes "material" ∷ codes "tex" ∷ codes "lock" ∷
    codes "uv" ∷ codes "convert" ∷ codes "entity" ∷ codes "set" ∷ codes "unset" ∷ codes "tie" ∷
    codes "untie" ∷ codes "layer" ∷ codes "freeze" ∷ codes "thaw" ∷ codes "group" ∷
    codes "ungroup" ∷ codes "into" ∷ codes "link" ∷ codes "unlink" ∷ codes "protect" ∷
    codes "unprotect" ∷ codes "undo" ∷ codes "redo" ∷ codes "show" ∷ codes "tree" ∷
    codes "pick" ∷ codes "touching" ∷ []

-- the keys of a map file that the program itself writes
abbrev pub file_words : List (List ℕ)
file_words =
    codes "_tb_type" ∷ codes "_tb_name" ∷ codes "_tb_id" ∷ codes "_tb_layer" ∷ codes "_tb_group" ∷
    codes "_tb_layer_locked" ∷ codes "_tb_linked_group_id" ∷ codes "_tb_transformation" ∷
    codes "_tb_protected_properties" ∷ codes "mapversion" ∷ []
