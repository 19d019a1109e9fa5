-- Lines of listings by the parts that they show: of each kind of node in a tree, of a property, and a point.
use Rattle.std.specs.Prelude.{ℕ, ℤ, Bool, cond, List, [], ◌∷◌, ◌++◌, Option, None, Some, unwrap_or, codes, pos}
use Rattle.std.specs.Ordering.{int_eq}
use Rattle.std.specs.Fmt.{decimal, signed_decimal}
use Rattle.uv_lock.specs.declared.texture.Format.{Format}
use Rattle.map_model.specs.Tree.{Link, Props}
use Rattle.map_model.specs.Props.{value_at, classname}
use Rattle.map_model.specs.Listings.{words, line, quoted, pair_line, format_word, frozen_word, set_word}

abbrev pub world_line : ℕ → Format → List ℕ
world_line n format = line (decimal n ∷ codes "world" ∷ format_word format ∷ [])

abbrev pub layer_line : ℕ → Bool → List ℕ → List ℕ
layer_line n frozen name = line (decimal n ∷ codes "layer" ∷ decimal 0 ∷ frozen_word frozen ∷ quoted name ∷ [])

abbrev pub group_line : ℕ → ℕ → Option Link → List ℕ → List ℕ
group_line n parent link name = line (decimal n ∷ codes "group" ∷ decimal parent ∷ set_word link ∷ quoted name ∷ [])

abbrev pub class_of : Props → List ℕ
class_of props = unwrap_or (value_at classname props) []

abbrev pub entity_line : ℕ → ℕ → List ℕ → List ℕ
entity_line n parent class = line (decimal n ∷ codes "entity" ∷ decimal parent ∷ quoted class ∷ [])

abbrev pub brush_line : ℕ → ℕ → ℕ → List ℕ
brush_line n parent faces = line (decimal n ∷ codes "brush" ∷ decimal parent ∷ decimal faces ∷ [])

abbrev pub pair_text : List ℕ → List ℕ → Bool → List ℕ
pair_text key value protected = line (quoted key ∷ quoted value ∷ cond protected (codes "protected" ∷ []) [])

abbrev pub pair_at : List (List ℕ) → Option (List ℕ × List ℕ) → List ℕ
pair_at protected None = []
pair_at protected (Some p) = pair_line protected p

abbrev pub three_words : ℤ → ℤ → ℤ → List ℕ
three_words x y z = words (signed_decimal x ∷ signed_decimal y ∷ signed_decimal z ∷ [])

abbrev pub point_text : ℤ → ℤ → ℤ → List ℕ
point_text x y z = 40 ∷ three_words x y z ++ 41 ∷ []

-- The weight of a vertex, behind a slash, where it isn't 1.
abbrev pub weight_text : ℤ → List ℕ
weight_text w = cond (int_eq w (pos 1)) [] (47 ∷ signed_decimal w)
