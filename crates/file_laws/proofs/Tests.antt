-- Rows worked out by computing: documents, and the maps and notes that they build. Brushes have no faces here.
use Rattle.std.proofs.Common.{◌≡◌, refl}
use Rattle.std.specs.Prelude.{true, false, List, [], ◌∷◌, Option, Some, None, Result, Ok, Err, codes}
use Rattle.uv_lock.specs.declared.texture.Format.TheVariants.{Standard}
use Rattle.map_text.specs.declared.document.MapDoc.{MapDoc}
use Rattle.map_text.specs.declared.document.RawBrush.TheVariants.{Faces, Bad}
use Rattle.map_text.specs.declared.document.Reason.TheVariants.{Flat}
use Rattle.map_model.specs.Tree.{World, Layer, Group, Entity, Brush}
use Rattle.file_laws.specs.Leaves.{Leaves}
use Rattle.file_laws.specs.Build.{BrushNote, IdNote, ParentNote, EmptyNote, MotionNote, NestedNote, LinksNote, NoWorld}
use Rattle.file_laws.specs.Build.{Built, TreeFault, Note}
use Rattle.map_model.specs.Tree.{Node, at, numbers_from}
use Rattle.std.specs.Prelude.{map}
use Rattle.std.specs.Prelude.{length}
use Rattle.file_laws.specs.Renumbered.{renumbered_map}
use Rattle.file_laws.specs.Linked.{build}
use Rattle.map_model.specs.Tree.{slot_at}
use Rattle.map_model.specs.Motions.{vector_at}
use Rattle.std.specs.Prelude.{pos}
use Rattle.fixed_num.specs.Count.{is_number_word, count_of}
use Rattle.fixed_num.specs.Scan.{scan, scan_unsigned, scan_power}
use Rattle.orient48.specs.MotionTexts.{motion_text, read_motion}

-- The nodes by number, and the notes.
abbrev shown : Result Built TreeFault → Result (List (Option Node) × List Note) TreeFault
shown (Ok built) = Ok ((map (at built.map) (numbers_from 0 built.map.next), built.notes))
shown (Err fault) = Err fault

abbrev stub : Leaves
stub = record { judge = λ fs. Ok []; motion_text = motion_text; read_motion = read_motion }

sky_and_light : MapDoc
sky_and_light = record { format = Standard; entities = record { props = ((codes "classname", codes "worldspawn") ∷ (codes "mapversion", codes "220") ∷ []); brushes = Faces [] ∷ [] } ∷ record { props = ((codes "classname", codes "func_group") ∷ (codes "_tb_type", codes "_tb_layer") ∷ (codes "_tb_name", codes "sky") ∷ (codes "_tb_id", codes "3") ∷ (codes "_tb_layer_locked", codes "1") ∷ []); brushes = [] } ∷ record { props = ((codes "classname", codes "light") ∷ (codes "_tb_layer", codes "3") ∷ []); brushes = [] } ∷ [] }

built_sky_and_light : shown (build stub sky_and_light) ≡ Ok ((Some (World Standard ([]) (1 ∷ []) (2 ∷ [])) ∷ Some (Brush 0 None []) ∷ Some (Layer (codes "sky") true ([]) ([]) (3 ∷ [])) ∷ Some (Entity 2 None ((codes "classname", codes "light") ∷ []) ([]) ([])) ∷ []), ([]))
unfolding sky_and_light
built_sky_and_light = refl

no_entity : MapDoc
no_entity = record { format = Standard; entities = [] }

built_no_entity : shown (build stub no_entity) ≡ Err NoWorld
unfolding no_entity
built_no_entity = refl

first_is_no_world : MapDoc
first_is_no_world = record { format = Standard; entities = record { props = ((codes "classname", codes "light") ∷ []); brushes = [] } ∷ record { props = ((codes "classname", codes "worldspawn") ∷ []); brushes = Faces [] ∷ [] } ∷ [] }

built_first_is_no_world : shown (build stub first_is_no_world) ≡ Err NoWorld
unfolding first_is_no_world
built_first_is_no_world = refl

second_world : MapDoc
second_world = record { format = Standard; entities = record { props = ((codes "classname", codes "worldspawn") ∷ []); brushes = [] } ∷ record { props = ((codes "classname", codes "worldspawn") ∷ (codes "mapversion", codes "220") ∷ (codes "a", codes "b") ∷ []); brushes = Faces [] ∷ [] } ∷ [] }

built_second_world : shown (build stub second_world) ≡ Ok ((Some (World Standard ([]) ([]) (1 ∷ [])) ∷ Some (Entity 0 None ((codes "classname", codes "worldspawn") ∷ (codes "mapversion", codes "220") ∷ (codes "a", codes "b") ∷ []) ([]) (2 ∷ [])) ∷ Some (Brush 1 None []) ∷ []), ([]))
unfolding second_world
built_second_world = refl

groups_in_groups : MapDoc
groups_in_groups = record { format = Standard; entities = record { props = ((codes "classname", codes "worldspawn") ∷ []); brushes = Faces [] ∷ Faces [] ∷ [] } ∷ record { props = ((codes "classname", codes "func_group") ∷ (codes "_tb_type", codes "_tb_layer") ∷ (codes "_tb_name", codes "one") ∷ (codes "_tb_id", codes "1") ∷ []); brushes = [] } ∷ record { props = ((codes "classname", codes "func_group") ∷ (codes "_tb_type", codes "_tb_group") ∷ (codes "_tb_name", codes "a") ∷ (codes "_tb_id", codes "2") ∷ (codes "_tb_layer", codes "1") ∷ []); brushes = Faces [] ∷ [] } ∷ record { props = ((codes "classname", codes "func_group") ∷ (codes "_tb_type", codes "_tb_group") ∷ (codes "_tb_name", codes "b") ∷ (codes "_tb_id", codes "3") ∷ (codes "_tb_group", codes "2") ∷ []); brushes = [] } ∷ record { props = ((codes "classname", codes "light") ∷ (codes "_tb_group", codes "3") ∷ []); brushes = [] } ∷ record { props = ((codes "classname", codes "door") ∷ (codes "_tb_group", codes "2") ∷ []); brushes = Faces [] ∷ Faces [] ∷ [] } ∷ record { props = ((codes "classname", codes "free") ∷ []); brushes = [] } ∷ [] }

built_groups_in_groups : shown (build stub groups_in_groups) ≡ Ok ((Some (World Standard ([]) (1 ∷ 2 ∷ []) (3 ∷ 11 ∷ [])) ∷ Some (Brush 0 None []) ∷ Some (Brush 0 None []) ∷ Some (Layer (codes "one") false ([]) ([]) (4 ∷ [])) ∷ Some (Group 3 None (codes "a") None ([]) (5 ∷ []) (6 ∷ 8 ∷ [])) ∷ Some (Brush 4 None []) ∷ Some (Group 4 None (codes "b") None ([]) ([]) (7 ∷ [])) ∷ Some (Entity 6 None ((codes "classname", codes "light") ∷ []) ([]) ([])) ∷ Some (Entity 4 None ((codes "classname", codes "door") ∷ []) ([]) (9 ∷ 10 ∷ [])) ∷ Some (Brush 8 None []) ∷ Some (Brush 8 None []) ∷ Some (Entity 0 None ((codes "classname", codes "free") ∷ []) ([]) ([])) ∷ []), ([]))
unfolding groups_in_groups
built_groups_in_groups = refl

parent_later_in_file : MapDoc
parent_later_in_file = record { format = Standard; entities = record { props = ((codes "classname", codes "worldspawn") ∷ []); brushes = [] } ∷ record { props = ((codes "classname", codes "light") ∷ (codes "_tb_group", codes "7") ∷ []); brushes = [] } ∷ record { props = ((codes "classname", codes "func_group") ∷ (codes "_tb_type", codes "_tb_group") ∷ (codes "_tb_name", codes "late") ∷ (codes "_tb_id", codes "7") ∷ []); brushes = [] } ∷ record { props = ((codes "classname", codes "func_group") ∷ (codes "_tb_type", codes "_tb_group") ∷ (codes "_tb_name", codes "later") ∷ (codes "_tb_id", codes "8") ∷ (codes "_tb_group", codes "7") ∷ []); brushes = Faces [] ∷ [] } ∷ [] }

built_parent_later_in_file : shown (build stub parent_later_in_file) ≡ Ok ((Some (World Standard ([]) ([]) (2 ∷ [])) ∷ Some (Entity 2 None ((codes "classname", codes "light") ∷ []) ([]) ([])) ∷ Some (Group 0 None (codes "late") None ([]) ([]) (1 ∷ 3 ∷ [])) ∷ Some (Group 2 None (codes "later") None ([]) (4 ∷ []) ([])) ∷ Some (Brush 3 None []) ∷ []), ([]))
unfolding parent_later_in_file
built_parent_later_in_file = refl

ring_of_two : MapDoc
ring_of_two = record { format = Standard; entities = record { props = ((codes "classname", codes "worldspawn") ∷ []); brushes = [] } ∷ record { props = ((codes "classname", codes "func_group") ∷ (codes "_tb_type", codes "_tb_group") ∷ (codes "_tb_name", codes "a") ∷ (codes "_tb_id", codes "1") ∷ (codes "_tb_group", codes "2") ∷ []); brushes = Faces [] ∷ [] } ∷ record { props = ((codes "classname", codes "func_group") ∷ (codes "_tb_type", codes "_tb_group") ∷ (codes "_tb_name", codes "b") ∷ (codes "_tb_id", codes "2") ∷ (codes "_tb_group", codes "1") ∷ []); brushes = Faces [] ∷ [] } ∷ [] }

built_ring_of_two : shown (build stub ring_of_two) ≡ Ok ((Some (World Standard ([]) ([]) (1 ∷ [])) ∷ Some (Group 0 None (codes "a") None ([]) (2 ∷ []) (3 ∷ [])) ∷ Some (Brush 1 None []) ∷ Some (Group 1 None (codes "b") None ([]) (4 ∷ []) ([])) ∷ Some (Brush 3 None []) ∷ []), (ParentNote 1 ∷ []))
unfolding ring_of_two
built_ring_of_two = refl

ring_of_one_with_layer : MapDoc
ring_of_one_with_layer = record { format = Standard; entities = record { props = ((codes "classname", codes "worldspawn") ∷ []); brushes = [] } ∷ record { props = ((codes "classname", codes "func_group") ∷ (codes "_tb_type", codes "_tb_layer") ∷ (codes "_tb_name", codes "x") ∷ (codes "_tb_id", codes "5") ∷ []); brushes = [] } ∷ record { props = ((codes "classname", codes "func_group") ∷ (codes "_tb_type", codes "_tb_group") ∷ (codes "_tb_name", codes "a") ∷ (codes "_tb_id", codes "1") ∷ (codes "_tb_group", codes "1") ∷ (codes "_tb_layer", codes "5") ∷ []); brushes = Faces [] ∷ [] } ∷ [] }

built_ring_of_one_with_layer : shown (build stub ring_of_one_with_layer) ≡ Ok ((Some (World Standard ([]) ([]) (1 ∷ 2 ∷ [])) ∷ Some (Layer (codes "x") false ([]) ([]) ([])) ∷ Some (Group 0 None (codes "a") None ([]) (3 ∷ []) ([])) ∷ Some (Brush 2 None []) ∷ []), (ParentNote 2 ∷ []))
unfolding ring_of_one_with_layer
built_ring_of_one_with_layer = refl

ring_with_tail : MapDoc
ring_with_tail = record { format = Standard; entities = record { props = ((codes "classname", codes "worldspawn") ∷ []); brushes = [] } ∷ record { props = ((codes "classname", codes "func_group") ∷ (codes "_tb_type", codes "_tb_group") ∷ (codes "_tb_name", codes "t") ∷ (codes "_tb_id", codes "9") ∷ (codes "_tb_group", codes "3") ∷ []); brushes = Faces [] ∷ [] } ∷ record { props = ((codes "classname", codes "func_group") ∷ (codes "_tb_type", codes "_tb_group") ∷ (codes "_tb_name", codes "a") ∷ (codes "_tb_id", codes "1") ∷ (codes "_tb_group", codes "3") ∷ []); brushes = [] } ∷ record { props = ((codes "classname", codes "func_group") ∷ (codes "_tb_type", codes "_tb_group") ∷ (codes "_tb_name", codes "b") ∷ (codes "_tb_id", codes "2") ∷ (codes "_tb_group", codes "1") ∷ []); brushes = Faces [] ∷ [] } ∷ record { props = ((codes "classname", codes "func_group") ∷ (codes "_tb_type", codes "_tb_group") ∷ (codes "_tb_name", codes "c") ∷ (codes "_tb_id", codes "3") ∷ (codes "_tb_group", codes "2") ∷ []); brushes = [] } ∷ record { props = ((codes "classname", codes "light") ∷ (codes "_tb_group", codes "3") ∷ []); brushes = [] } ∷ [] }

built_ring_with_tail : shown (build stub ring_with_tail) ≡ Ok ((Some (World Standard ([]) ([]) (3 ∷ [])) ∷ Some (Group 6 None (codes "t") None ([]) (2 ∷ []) ([])) ∷ Some (Brush 1 None []) ∷ Some (Group 0 None (codes "a") None ([]) ([]) (4 ∷ [])) ∷ Some (Group 3 None (codes "b") None ([]) (5 ∷ []) (6 ∷ [])) ∷ Some (Brush 4 None []) ∷ Some (Group 4 None (codes "c") None ([]) ([]) (1 ∷ 7 ∷ [])) ∷ Some (Entity 6 None ((codes "classname", codes "light") ∷ []) ([]) ([])) ∷ []), (ParentNote 2 ∷ []))
unfolding ring_with_tail
built_ring_with_tail = refl

two_rings : MapDoc
two_rings = record { format = Standard; entities = record { props = ((codes "classname", codes "worldspawn") ∷ []); brushes = [] } ∷ record { props = ((codes "classname", codes "func_group") ∷ (codes "_tb_type", codes "_tb_group") ∷ (codes "_tb_name", codes "a") ∷ (codes "_tb_id", codes "1") ∷ (codes "_tb_group", codes "4") ∷ []); brushes = Faces [] ∷ [] } ∷ record { props = ((codes "classname", codes "func_group") ∷ (codes "_tb_type", codes "_tb_group") ∷ (codes "_tb_name", codes "b") ∷ (codes "_tb_id", codes "2") ∷ (codes "_tb_group", codes "3") ∷ []); brushes = Faces [] ∷ [] } ∷ record { props = ((codes "classname", codes "func_group") ∷ (codes "_tb_type", codes "_tb_group") ∷ (codes "_tb_name", codes "c") ∷ (codes "_tb_id", codes "3") ∷ (codes "_tb_group", codes "2") ∷ []); brushes = Faces [] ∷ [] } ∷ record { props = ((codes "classname", codes "func_group") ∷ (codes "_tb_type", codes "_tb_group") ∷ (codes "_tb_name", codes "d") ∷ (codes "_tb_id", codes "4") ∷ (codes "_tb_group", codes "1") ∷ []); brushes = Faces [] ∷ [] } ∷ [] }

built_two_rings : shown (build stub two_rings) ≡ Ok ((Some (World Standard ([]) ([]) (1 ∷ 3 ∷ [])) ∷ Some (Group 0 None (codes "a") None ([]) (2 ∷ []) (7 ∷ [])) ∷ Some (Brush 1 None []) ∷ Some (Group 0 None (codes "b") None ([]) (4 ∷ []) (5 ∷ [])) ∷ Some (Brush 3 None []) ∷ Some (Group 3 None (codes "c") None ([]) (6 ∷ []) ([])) ∷ Some (Brush 5 None []) ∷ Some (Group 1 None (codes "d") None ([]) (8 ∷ []) ([])) ∷ Some (Brush 7 None []) ∷ []), (ParentNote 1 ∷ ParentNote 2 ∷ []))
unfolding two_rings
built_two_rings = refl

empty_groups : MapDoc
empty_groups = record { format = Standard; entities = record { props = ((codes "classname", codes "worldspawn") ∷ []); brushes = [] } ∷ record { props = ((codes "classname", codes "func_group") ∷ (codes "_tb_type", codes "_tb_group") ∷ (codes "_tb_name", codes "a") ∷ (codes "_tb_id", codes "1") ∷ []); brushes = [] } ∷ record { props = ((codes "classname", codes "func_group") ∷ (codes "_tb_type", codes "_tb_group") ∷ (codes "_tb_name", codes "b") ∷ (codes "_tb_id", codes "2") ∷ (codes "_tb_group", codes "1") ∷ []); brushes = [] } ∷ record { props = ((codes "classname", codes "func_group") ∷ (codes "_tb_type", codes "_tb_group") ∷ (codes "_tb_name", codes "c") ∷ (codes "_tb_id", codes "3") ∷ (codes "_tb_group", codes "2") ∷ []); brushes = [] } ∷ record { props = ((codes "classname", codes "func_group") ∷ (codes "_tb_type", codes "_tb_group") ∷ (codes "_tb_name", codes "d") ∷ (codes "_tb_id", codes "4") ∷ []); brushes = Bad Flat ∷ [] } ∷ record { props = ((codes "classname", codes "func_group") ∷ (codes "_tb_type", codes "_tb_group") ∷ (codes "_tb_name", codes "e") ∷ (codes "_tb_id", codes "5") ∷ []); brushes = [] } ∷ record { props = ((codes "classname", codes "light") ∷ (codes "_tb_group", codes "5") ∷ []); brushes = [] } ∷ record { props = ((codes "classname", codes "func_group") ∷ (codes "_tb_type", codes "_tb_group") ∷ (codes "_tb_name", codes "f") ∷ (codes "_tb_id", codes "6") ∷ []); brushes = Faces [] ∷ [] } ∷ [] }

built_empty_groups : shown (build stub empty_groups) ≡ Ok ((Some (World Standard ([]) ([]) (1 ∷ 3 ∷ [])) ∷ Some (Group 0 None (codes "e") None ([]) ([]) (2 ∷ [])) ∷ Some (Entity 1 None ((codes "classname", codes "light") ∷ []) ([]) ([])) ∷ Some (Group 0 None (codes "f") None ([]) (4 ∷ []) ([])) ∷ Some (Brush 3 None []) ∷ []), (BrushNote 4 0 Flat ∷ EmptyNote 1 ∷ EmptyNote 2 ∷ EmptyNote 3 ∷ EmptyNote 4 ∷ []))
unfolding empty_groups
built_empty_groups = refl

ids : MapDoc
ids = record { format = Standard; entities = record { props = ((codes "classname", codes "worldspawn") ∷ []); brushes = [] } ∷ record { props = ((codes "classname", codes "func_group") ∷ (codes "_tb_type", codes "_tb_layer") ∷ (codes "_tb_name", codes "a") ∷ (codes "_tb_id", codes "07") ∷ []); brushes = [] } ∷ record { props = ((codes "classname", codes "func_group") ∷ (codes "_tb_type", codes "_tb_group") ∷ (codes "_tb_name", codes "b") ∷ (codes "_tb_id", codes "7") ∷ []); brushes = Faces [] ∷ [] } ∷ record { props = ((codes "classname", codes "func_group") ∷ (codes "_tb_type", codes "_tb_group") ∷ (codes "_tb_name", codes "c") ∷ []); brushes = Faces [] ∷ [] } ∷ record { props = ((codes "classname", codes "func_group") ∷ (codes "_tb_type", codes "_tb_group") ∷ (codes "_tb_name", codes "d") ∷ (codes "_tb_id", codes "0") ∷ []); brushes = Faces [] ∷ [] } ∷ record { props = ((codes "classname", codes "func_group") ∷ (codes "_tb_type", codes "_tb_group") ∷ (codes "_tb_name", codes "e") ∷ (codes "_tb_id", codes "1234567890") ∷ []); brushes = Faces [] ∷ [] } ∷ record { props = ((codes "classname", codes "func_group") ∷ (codes "_tb_type", codes "_tb_group") ∷ (codes "_tb_name", codes "f") ∷ (codes "_tb_id", codes "x1") ∷ []); brushes = Faces [] ∷ [] } ∷ record { props = ((codes "classname", codes "light") ∷ (codes "_tb_layer", codes "7") ∷ []); brushes = [] } ∷ record { props = ((codes "classname", codes "lamp") ∷ (codes "_tb_group", codes "7") ∷ []); brushes = [] } ∷ record { props = ((codes "classname", codes "torch") ∷ (codes "_tb_group", codes "7") ∷ (codes "_tb_layer", codes "7") ∷ []); brushes = [] } ∷ record { props = ((codes "classname", codes "sun") ∷ (codes "_tb_group", []) ∷ []); brushes = [] } ∷ [] }

built_ids : shown (build stub ids) ≡ Ok ((Some (World Standard ([]) ([]) (1 ∷ 2 ∷ 4 ∷ 6 ∷ 8 ∷ 10 ∷ 13 ∷ 15 ∷ [])) ∷ Some (Layer (codes "a") false ([]) ([]) (12 ∷ 14 ∷ [])) ∷ Some (Group 0 None (codes "b") None ([]) (3 ∷ []) ([])) ∷ Some (Brush 2 None []) ∷ Some (Group 0 None (codes "c") None ([]) (5 ∷ []) ([])) ∷ Some (Brush 4 None []) ∷ Some (Group 0 None (codes "d") None ([]) (7 ∷ []) ([])) ∷ Some (Brush 6 None []) ∷ Some (Group 0 None (codes "e") None ([]) (9 ∷ []) ([])) ∷ Some (Brush 8 None []) ∷ Some (Group 0 None (codes "f") None ([]) (11 ∷ []) ([])) ∷ Some (Brush 10 None []) ∷ Some (Entity 1 None ((codes "classname", codes "light") ∷ []) ([]) ([])) ∷ Some (Entity 0 None ((codes "classname", codes "lamp") ∷ []) ([]) ([])) ∷ Some (Entity 1 None ((codes "classname", codes "torch") ∷ []) ([]) ([])) ∷ Some (Entity 0 None ((codes "classname", codes "sun") ∷ []) ([]) ([])) ∷ []), (IdNote 2 ∷ IdNote 3 ∷ IdNote 4 ∷ IdNote 5 ∷ IdNote 6 ∷ ParentNote 8 ∷ ParentNote 10 ∷ []))
unfolding ids
built_ids = refl

protected : MapDoc
protected = record { format = Standard; entities = record { props = ((codes "classname", codes "worldspawn") ∷ []); brushes = [] } ∷ record { props = ((codes "classname", codes "light") ∷ (codes "_tb_protected_properties", codes "a;;b;classname;a;_tb_id;c;") ∷ (codes "a", codes "1") ∷ []); brushes = [] } ∷ record { props = ((codes "classname", codes "lamp") ∷ (codes "_tb_protected_properties", []) ∷ []); brushes = [] } ∷ [] }

built_protected : shown (build stub protected) ≡ Ok ((Some (World Standard ([]) ([]) (1 ∷ 2 ∷ [])) ∷ Some (Entity 0 None ((codes "classname", codes "light") ∷ (codes "a", codes "1") ∷ []) (codes "a" ∷ codes "b" ∷ codes "c" ∷ []) ([])) ∷ Some (Entity 0 None ((codes "classname", codes "lamp") ∷ []) ([]) ([])) ∷ []), ([]))
unfolding protected
built_protected = refl

bad_brushes : MapDoc
bad_brushes = record { format = Standard; entities = record { props = ((codes "classname", codes "worldspawn") ∷ []); brushes = Faces [] ∷ Bad Flat ∷ Faces [] ∷ [] } ∷ record { props = ((codes "classname", codes "door") ∷ []); brushes = Bad Flat ∷ [] } ∷ record { props = ((codes "classname", codes "gate") ∷ []); brushes = Bad Flat ∷ Faces [] ∷ Bad Flat ∷ [] } ∷ [] }

built_bad_brushes : shown (build stub bad_brushes) ≡ Ok ((Some (World Standard ([]) (1 ∷ 2 ∷ []) (3 ∷ 4 ∷ [])) ∷ Some (Brush 0 None []) ∷ Some (Brush 0 None []) ∷ Some (Entity 0 None ((codes "classname", codes "door") ∷ []) ([]) ([])) ∷ Some (Entity 0 None ((codes "classname", codes "gate") ∷ []) ([]) (5 ∷ [])) ∷ Some (Brush 4 None []) ∷ []), (BrushNote 0 1 Flat ∷ BrushNote 1 0 Flat ∷ BrushNote 2 0 Flat ∷ BrushNote 2 2 Flat ∷ []))
unfolding bad_brushes
built_bad_brushes = refl

layer_keeps_group_key : MapDoc
layer_keeps_group_key = record { format = Standard; entities = record { props = ((codes "classname", codes "worldspawn") ∷ []); brushes = [] } ∷ record { props = ((codes "classname", codes "func_group") ∷ (codes "_tb_type", codes "_tb_layer") ∷ (codes "_tb_name", codes "a") ∷ (codes "_tb_id", codes "1") ∷ (codes "_tb_group", codes "2") ∷ (codes "_tb_layer", codes "1") ∷ (codes "_tb_protected_properties", codes "a") ∷ []); brushes = [] } ∷ record { props = ((codes "classname", codes "func_group") ∷ (codes "_tb_type", codes "_tb_group") ∷ (codes "_tb_name", codes "b") ∷ (codes "_tb_id", codes "2") ∷ (codes "_tb_layer", codes "1") ∷ (codes "_tb_protected_properties", codes "z") ∷ (codes "_tb_layer_locked", codes "1") ∷ []); brushes = Faces [] ∷ [] } ∷ record { props = ((codes "classname", codes "light") ∷ (codes "_tb_id", codes "9") ∷ (codes "_tb_name", codes "n") ∷ (codes "_tb_group", codes "2") ∷ []); brushes = [] } ∷ [] }

built_layer_keeps_group_key : shown (build stub layer_keeps_group_key) ≡ Ok ((Some (World Standard ([]) ([]) (1 ∷ [])) ∷ Some (Layer (codes "a") false ((codes "_tb_group", codes "2") ∷ (codes "_tb_layer", codes "1") ∷ (codes "_tb_protected_properties", codes "a") ∷ []) ([]) (2 ∷ [])) ∷ Some (Group 1 None (codes "b") None ((codes "_tb_protected_properties", codes "z") ∷ (codes "_tb_layer_locked", codes "1") ∷ []) (3 ∷ []) (4 ∷ [])) ∷ Some (Brush 2 None []) ∷ Some (Entity 2 None ((codes "classname", codes "light") ∷ (codes "_tb_id", codes "9") ∷ (codes "_tb_name", codes "n") ∷ []) ([]) ([])) ∷ []), ([]))
unfolding layer_keeps_group_key
built_layer_keeps_group_key = refl

one_link_set : MapDoc
one_link_set = record { format = Standard; entities = record { props = ((codes "classname", codes "worldspawn") ∷ []); brushes = [] } ∷ record { props = ((codes "classname", codes "func_group") ∷ (codes "_tb_type", codes "_tb_group") ∷ (codes "_tb_name", codes "a") ∷ (codes "_tb_id", codes "1") ∷ (codes "_tb_linked_group_id", codes "x") ∷ (codes "_tb_transformation", codes "1 0 0 0 0 1 0 0 0 0 1 0 0 0 0 1") ∷ []); brushes = Faces [] ∷ [] } ∷ record { props = ((codes "classname", codes "light") ∷ (codes "_tb_group", codes "1") ∷ []); brushes = [] } ∷ record { props = ((codes "classname", codes "func_group") ∷ (codes "_tb_type", codes "_tb_group") ∷ (codes "_tb_name", codes "a") ∷ (codes "_tb_id", codes "2") ∷ (codes "_tb_linked_group_id", codes "x") ∷ []); brushes = Faces [] ∷ [] } ∷ record { props = ((codes "classname", codes "light") ∷ (codes "_tb_group", codes "2") ∷ []); brushes = [] } ∷ [] }

built_one_link_set : shown (build stub one_link_set) ≡ Ok ((Some (World Standard ([]) ([]) (1 ∷ 4 ∷ [])) ∷ Some (Group 0 None (codes "a") (Some (record { set = 7; motion = record { matrix = record { x = vector_at (pos 1) (pos 0) (pos 0); y = vector_at (pos 0) (pos 1) (pos 0); z = vector_at (pos 0) (pos 0) (pos 1) }; shift = vector_at (pos 0) (pos 0) (pos 0) } })) ([]) (2 ∷ []) (3 ∷ [])) ∷ Some (Brush 1 (Some 8) []) ∷ Some (Entity 1 (Some 9) ((codes "classname", codes "light") ∷ []) ([]) ([])) ∷ Some (Group 0 None (codes "a") (Some (record { set = 7; motion = record { matrix = record { x = vector_at (pos 1) (pos 0) (pos 0); y = vector_at (pos 0) (pos 1) (pos 0); z = vector_at (pos 0) (pos 0) (pos 1) }; shift = vector_at (pos 0) (pos 0) (pos 0) } })) ([]) (5 ∷ []) (6 ∷ [])) ∷ Some (Brush 4 (Some 8) []) ∷ Some (Entity 4 (Some 9) ((codes "classname", codes "light") ∷ []) ([]) ([])) ∷ None ∷ None ∷ None ∷ []), ([]))
unfolding one_link_set is_number_word count_of scan scan_unsigned scan_power
built_one_link_set = refl

two_link_sets : MapDoc
two_link_sets = record { format = Standard; entities = record { props = ((codes "classname", codes "worldspawn") ∷ []); brushes = Faces [] ∷ [] } ∷ record { props = ((codes "classname", codes "func_group") ∷ (codes "_tb_type", codes "_tb_group") ∷ (codes "_tb_name", codes "a") ∷ (codes "_tb_id", codes "1") ∷ (codes "_tb_linked_group_id", codes "x") ∷ []); brushes = Faces [] ∷ Faces [] ∷ [] } ∷ record { props = ((codes "classname", codes "func_group") ∷ (codes "_tb_type", codes "_tb_group") ∷ (codes "_tb_name", codes "b") ∷ (codes "_tb_id", codes "2") ∷ (codes "_tb_linked_group_id", codes "y") ∷ []); brushes = [] } ∷ record { props = ((codes "classname", codes "func_group") ∷ (codes "_tb_type", codes "_tb_group") ∷ (codes "_tb_name", codes "c") ∷ (codes "_tb_id", codes "5") ∷ (codes "_tb_group", codes "2") ∷ []); brushes = Faces [] ∷ [] } ∷ record { props = ((codes "classname", codes "func_group") ∷ (codes "_tb_type", codes "_tb_group") ∷ (codes "_tb_name", codes "a") ∷ (codes "_tb_id", codes "3") ∷ (codes "_tb_linked_group_id", codes "x") ∷ []); brushes = Faces [] ∷ Faces [] ∷ [] } ∷ record { props = ((codes "classname", codes "func_group") ∷ (codes "_tb_type", codes "_tb_group") ∷ (codes "_tb_name", codes "b") ∷ (codes "_tb_id", codes "4") ∷ (codes "_tb_linked_group_id", codes "y") ∷ []); brushes = [] } ∷ record { props = ((codes "classname", codes "func_group") ∷ (codes "_tb_type", codes "_tb_group") ∷ (codes "_tb_name", codes "c") ∷ (codes "_tb_id", codes "6") ∷ (codes "_tb_group", codes "4") ∷ []); brushes = Faces [] ∷ [] } ∷ [] }

built_two_link_sets : shown (build stub two_link_sets) ≡ Ok ((Some (World Standard ([]) (1 ∷ []) (2 ∷ 5 ∷ 8 ∷ 11 ∷ [])) ∷ Some (Brush 0 None []) ∷ Some (Group 0 None (codes "a") (Some (record { set = 14; motion = record { matrix = record { x = vector_at (pos 1) (pos 0) (pos 0); y = vector_at (pos 0) (pos 1) (pos 0); z = vector_at (pos 0) (pos 0) (pos 1) }; shift = vector_at (pos 0) (pos 0) (pos 0) } })) ([]) (3 ∷ 4 ∷ []) ([])) ∷ Some (Brush 2 (Some 16) []) ∷ Some (Brush 2 (Some 17) []) ∷ Some (Group 0 None (codes "b") (Some (record { set = 15; motion = record { matrix = record { x = vector_at (pos 1) (pos 0) (pos 0); y = vector_at (pos 0) (pos 1) (pos 0); z = vector_at (pos 0) (pos 0) (pos 1) }; shift = vector_at (pos 0) (pos 0) (pos 0) } })) ([]) ([]) (6 ∷ [])) ∷ Some (Group 5 (Some 18) (codes "c") None ([]) (7 ∷ []) ([])) ∷ Some (Brush 6 (Some 19) []) ∷ Some (Group 0 None (codes "a") (Some (record { set = 14; motion = record { matrix = record { x = vector_at (pos 1) (pos 0) (pos 0); y = vector_at (pos 0) (pos 1) (pos 0); z = vector_at (pos 0) (pos 0) (pos 1) }; shift = vector_at (pos 0) (pos 0) (pos 0) } })) ([]) (9 ∷ 10 ∷ []) ([])) ∷ Some (Brush 8 (Some 16) []) ∷ Some (Brush 8 (Some 17) []) ∷ Some (Group 0 None (codes "b") (Some (record { set = 15; motion = record { matrix = record { x = vector_at (pos 1) (pos 0) (pos 0); y = vector_at (pos 0) (pos 1) (pos 0); z = vector_at (pos 0) (pos 0) (pos 1) }; shift = vector_at (pos 0) (pos 0) (pos 0) } })) ([]) ([]) (12 ∷ [])) ∷ Some (Group 11 (Some 18) (codes "c") None ([]) (13 ∷ []) ([])) ∷ Some (Brush 12 (Some 19) []) ∷ None ∷ None ∷ None ∷ None ∷ None ∷ None ∷ []), ([]))
unfolding two_link_sets
built_two_link_sets = refl

links_that_differ : MapDoc
links_that_differ = record { format = Standard; entities = record { props = ((codes "classname", codes "worldspawn") ∷ []); brushes = [] } ∷ record { props = ((codes "classname", codes "func_group") ∷ (codes "_tb_type", codes "_tb_group") ∷ (codes "_tb_name", codes "a") ∷ (codes "_tb_id", codes "1") ∷ (codes "_tb_linked_group_id", codes "x") ∷ []); brushes = Faces [] ∷ [] } ∷ record { props = ((codes "classname", codes "func_group") ∷ (codes "_tb_type", codes "_tb_group") ∷ (codes "_tb_name", codes "b") ∷ (codes "_tb_id", codes "3") ∷ (codes "_tb_linked_group_id", codes "y") ∷ []); brushes = Faces [] ∷ [] } ∷ record { props = ((codes "classname", codes "func_group") ∷ (codes "_tb_type", codes "_tb_group") ∷ (codes "_tb_name", codes "a") ∷ (codes "_tb_id", codes "2") ∷ (codes "_tb_linked_group_id", codes "x") ∷ []); brushes = Faces [] ∷ Faces [] ∷ [] } ∷ [] }

built_links_that_differ : shown (build stub links_that_differ) ≡ Ok ((Some (World Standard ([]) ([]) (1 ∷ 3 ∷ 5 ∷ [])) ∷ Some (Group 0 None (codes "a") None ([]) (2 ∷ []) ([])) ∷ Some (Brush 1 None []) ∷ Some (Group 0 None (codes "b") (Some (record { set = 8; motion = record { matrix = record { x = vector_at (pos 1) (pos 0) (pos 0); y = vector_at (pos 0) (pos 1) (pos 0); z = vector_at (pos 0) (pos 0) (pos 1) }; shift = vector_at (pos 0) (pos 0) (pos 0) } })) ([]) (4 ∷ []) ([])) ∷ Some (Brush 3 (Some 9) []) ∷ Some (Group 0 None (codes "a") None ([]) (6 ∷ 7 ∷ []) ([])) ∷ Some (Brush 5 None []) ∷ Some (Brush 5 None []) ∷ None ∷ None ∷ []), (LinksNote 1 ∷ []))
unfolding links_that_differ
built_links_that_differ = refl

bad_motion_and_empty_text : MapDoc
bad_motion_and_empty_text = record { format = Standard; entities = record { props = ((codes "classname", codes "worldspawn") ∷ []); brushes = [] } ∷ record { props = ((codes "classname", codes "func_group") ∷ (codes "_tb_type", codes "_tb_group") ∷ (codes "_tb_name", codes "a") ∷ (codes "_tb_id", codes "1") ∷ (codes "_tb_linked_group_id", codes "x") ∷ (codes "_tb_transformation", codes "1 0 0") ∷ []); brushes = Faces [] ∷ [] } ∷ record { props = ((codes "classname", codes "func_group") ∷ (codes "_tb_type", codes "_tb_group") ∷ (codes "_tb_name", codes "b") ∷ (codes "_tb_id", codes "2") ∷ (codes "_tb_linked_group_id", []) ∷ []); brushes = Faces [] ∷ [] } ∷ record { props = ((codes "classname", codes "func_group") ∷ (codes "_tb_type", codes "_tb_group") ∷ (codes "_tb_name", codes "c") ∷ (codes "_tb_id", codes "3") ∷ (codes "_tb_linked_group_id", codes "x") ∷ []); brushes = Faces [] ∷ [] } ∷ [] }

built_bad_motion_and_empty_text : shown (build stub bad_motion_and_empty_text) ≡ Ok ((Some (World Standard ([]) ([]) (1 ∷ 3 ∷ 5 ∷ [])) ∷ Some (Group 0 None (codes "a") None ([]) (2 ∷ []) ([])) ∷ Some (Brush 1 None []) ∷ Some (Group 0 None (codes "b") None ([]) (4 ∷ []) ([])) ∷ Some (Brush 3 None []) ∷ Some (Group 0 None (codes "c") (Some (record { set = 7; motion = record { matrix = record { x = vector_at (pos 1) (pos 0) (pos 0); y = vector_at (pos 0) (pos 1) (pos 0); z = vector_at (pos 0) (pos 0) (pos 1) }; shift = vector_at (pos 0) (pos 0) (pos 0) } })) ([]) (6 ∷ []) ([])) ∷ Some (Brush 5 (Some 8) []) ∷ None ∷ None ∷ []), (MotionNote 1 ∷ []))
unfolding bad_motion_and_empty_text is_number_word count_of scan scan_unsigned scan_power
built_bad_motion_and_empty_text = refl

nested_links : MapDoc
nested_links = record { format = Standard; entities = record { props = ((codes "classname", codes "worldspawn") ∷ []); brushes = [] } ∷ record { props = ((codes "classname", codes "func_group") ∷ (codes "_tb_type", codes "_tb_group") ∷ (codes "_tb_name", codes "a") ∷ (codes "_tb_id", codes "1") ∷ (codes "_tb_linked_group_id", codes "x") ∷ []); brushes = Faces [] ∷ [] } ∷ record { props = ((codes "classname", codes "func_group") ∷ (codes "_tb_type", codes "_tb_group") ∷ (codes "_tb_name", codes "b") ∷ (codes "_tb_id", codes "2") ∷ (codes "_tb_group", codes "1") ∷ (codes "_tb_linked_group_id", codes "y") ∷ []); brushes = Faces [] ∷ [] } ∷ record { props = ((codes "classname", codes "func_group") ∷ (codes "_tb_type", codes "_tb_group") ∷ (codes "_tb_name", codes "c") ∷ (codes "_tb_id", codes "3") ∷ (codes "_tb_group", codes "2") ∷ (codes "_tb_linked_group_id", codes "z") ∷ []); brushes = Faces [] ∷ [] } ∷ [] }

built_nested_links : shown (build stub nested_links) ≡ Ok ((Some (World Standard ([]) ([]) (1 ∷ [])) ∷ Some (Group 0 None (codes "a") (Some (record { set = 7; motion = record { matrix = record { x = vector_at (pos 1) (pos 0) (pos 0); y = vector_at (pos 0) (pos 1) (pos 0); z = vector_at (pos 0) (pos 0) (pos 1) }; shift = vector_at (pos 0) (pos 0) (pos 0) } })) ([]) (2 ∷ []) (3 ∷ [])) ∷ Some (Brush 1 (Some 8) []) ∷ Some (Group 1 (Some 9) (codes "b") None ([]) (4 ∷ []) (5 ∷ [])) ∷ Some (Brush 3 (Some 10) []) ∷ Some (Group 3 (Some 11) (codes "c") None ([]) (6 ∷ []) ([])) ∷ Some (Brush 5 (Some 12) []) ∷ None ∷ None ∷ None ∷ None ∷ None ∷ None ∷ []), (NestedNote 2 ∷ NestedNote 3 ∷ []))
unfolding nested_links
built_nested_links = refl

empty_link : MapDoc
empty_link = record { format = Standard; entities = record { props = ((codes "classname", codes "worldspawn") ∷ []); brushes = [] } ∷ record { props = ((codes "classname", codes "func_group") ∷ (codes "_tb_type", codes "_tb_group") ∷ (codes "_tb_name", codes "a") ∷ (codes "_tb_id", codes "1") ∷ (codes "_tb_linked_group_id", codes "x") ∷ (codes "_tb_transformation", codes "no") ∷ []); brushes = [] } ∷ record { props = ((codes "classname", codes "func_group") ∷ (codes "_tb_type", codes "_tb_group") ∷ (codes "_tb_name", codes "b") ∷ (codes "_tb_id", codes "2") ∷ (codes "_tb_linked_group_id", codes "x") ∷ []); brushes = Faces [] ∷ [] } ∷ [] }

built_empty_link : shown (build stub empty_link) ≡ Ok ((Some (World Standard ([]) ([]) (1 ∷ [])) ∷ Some (Group 0 None (codes "b") (Some (record { set = 3; motion = record { matrix = record { x = vector_at (pos 1) (pos 0) (pos 0); y = vector_at (pos 0) (pos 1) (pos 0); z = vector_at (pos 0) (pos 0) (pos 1) }; shift = vector_at (pos 0) (pos 0) (pos 0) } })) ([]) (2 ∷ []) ([])) ∷ Some (Brush 1 (Some 4) []) ∷ None ∷ None ∷ []), (EmptyNote 1 ∷ []))
unfolding empty_link is_number_word count_of scan scan_unsigned scan_power
built_empty_link = refl

-- Maps with scattered numbers, and what they are renumbered to: by the reference, what their saved text builds.
abbrev renumbered_shown : List (Option Node) → List (Option Node)
renumbered_shown slots = let m = renumbered_map (record { nodes = slot_at slots; next = length slots }) in map (at m) (numbers_from 0 m.next)

renumbered_two_link_sets : renumbered_shown (Some (World Standard ([]) (22 ∷ []) (14 ∷ 19 ∷ 13 ∷ 23 ∷ [])) ∷ None ∷ None ∷ None ∷ Some (Brush 13 (Some 8) []) ∷ Some (Brush 11 (Some 1) []) ∷ Some (Group 23 (Some 15) (codes "c") None ([]) (16 ∷ []) ([])) ∷ Some (Brush 13 (Some 2) []) ∷ None ∷ None ∷ Some (Brush 14 (Some 2) []) ∷ Some (Group 19 (Some 15) (codes "c") None ([]) (5 ∷ []) ([])) ∷ None ∷ Some (Group 0 None (codes "a") (Some (record { set = 3; motion = record { matrix = record { x = vector_at (pos 1) (pos 0) (pos 0); y = vector_at (pos 0) (pos 1) (pos 0); z = vector_at (pos 0) (pos 0) (pos 1) }; shift = vector_at (pos 0) (pos 0) (pos 0) } })) ([]) (7 ∷ 4 ∷ []) ([])) ∷ Some (Group 0 None (codes "a") (Some (record { set = 3; motion = record { matrix = record { x = vector_at (pos 1) (pos 0) (pos 0); y = vector_at (pos 0) (pos 1) (pos 0); z = vector_at (pos 0) (pos 0) (pos 1) }; shift = vector_at (pos 0) (pos 0) (pos 0) } })) ([]) (10 ∷ 21 ∷ []) ([])) ∷ None ∷ Some (Brush 6 (Some 1) []) ∷ None ∷ None ∷ Some (Group 0 None (codes "b") (Some (record { set = 18; motion = record { matrix = record { x = vector_at (pos 1) (pos 0) (pos 0); y = vector_at (pos 0) (pos 1) (pos 0); z = vector_at (pos 0) (pos 0) (pos 1) }; shift = vector_at (pos 0) (pos 0) (pos 0) } })) ([]) ([]) (11 ∷ [])) ∷ None ∷ Some (Brush 14 (Some 8) []) ∷ Some (Brush 0 None []) ∷ Some (Group 0 None (codes "b") (Some (record { set = 18; motion = record { matrix = record { x = vector_at (pos 1) (pos 0) (pos 0); y = vector_at (pos 0) (pos 1) (pos 0); z = vector_at (pos 0) (pos 0) (pos 1) }; shift = vector_at (pos 0) (pos 0) (pos 0) } })) ([]) ([]) (6 ∷ [])) ∷ []) ≡ (Some (World Standard ([]) (1 ∷ []) (2 ∷ 5 ∷ 8 ∷ 11 ∷ [])) ∷ Some (Brush 0 None []) ∷ Some (Group 0 None (codes "a") (Some (record { set = 14; motion = record { matrix = record { x = vector_at (pos 1) (pos 0) (pos 0); y = vector_at (pos 0) (pos 1) (pos 0); z = vector_at (pos 0) (pos 0) (pos 1) }; shift = vector_at (pos 0) (pos 0) (pos 0) } })) ([]) (3 ∷ 4 ∷ []) ([])) ∷ Some (Brush 2 (Some 16) []) ∷ Some (Brush 2 (Some 17) []) ∷ Some (Group 0 None (codes "b") (Some (record { set = 15; motion = record { matrix = record { x = vector_at (pos 1) (pos 0) (pos 0); y = vector_at (pos 0) (pos 1) (pos 0); z = vector_at (pos 0) (pos 0) (pos 1) }; shift = vector_at (pos 0) (pos 0) (pos 0) } })) ([]) ([]) (6 ∷ [])) ∷ Some (Group 5 (Some 18) (codes "c") None ([]) (7 ∷ []) ([])) ∷ Some (Brush 6 (Some 19) []) ∷ Some (Group 0 None (codes "a") (Some (record { set = 14; motion = record { matrix = record { x = vector_at (pos 1) (pos 0) (pos 0); y = vector_at (pos 0) (pos 1) (pos 0); z = vector_at (pos 0) (pos 0) (pos 1) }; shift = vector_at (pos 0) (pos 0) (pos 0) } })) ([]) (9 ∷ 10 ∷ []) ([])) ∷ Some (Brush 8 (Some 16) []) ∷ Some (Brush 8 (Some 17) []) ∷ Some (Group 0 None (codes "b") (Some (record { set = 15; motion = record { matrix = record { x = vector_at (pos 1) (pos 0) (pos 0); y = vector_at (pos 0) (pos 1) (pos 0); z = vector_at (pos 0) (pos 0) (pos 1) }; shift = vector_at (pos 0) (pos 0) (pos 0) } })) ([]) ([]) (12 ∷ [])) ∷ Some (Group 11 (Some 18) (codes "c") None ([]) (13 ∷ []) ([])) ∷ Some (Brush 12 (Some 19) []) ∷ None ∷ None ∷ None ∷ None ∷ None ∷ None ∷ [])
renumbered_two_link_sets = refl

renumbered_one_link_set : renumbered_shown (Some (World Standard ([]) ([]) (6 ∷ 5 ∷ [])) ∷ Some (Brush 5 (Some 8) []) ∷ None ∷ None ∷ Some (Entity 6 (Some 11) ((codes "classname", codes "light") ∷ []) ([]) ([])) ∷ Some (Group 0 None (codes "a") (Some (record { set = 10; motion = record { matrix = record { x = vector_at (pos 1) (pos 0) (pos 0); y = vector_at (pos 0) (pos 1) (pos 0); z = vector_at (pos 0) (pos 0) (pos 1) }; shift = vector_at (pos 0) (pos 0) (pos 0) } })) ([]) (1 ∷ []) (12 ∷ [])) ∷ Some (Group 0 None (codes "a") (Some (record { set = 10; motion = record { matrix = record { x = vector_at (pos 1) (pos 0) (pos 0); y = vector_at (pos 0) (pos 1) (pos 0); z = vector_at (pos 0) (pos 0) (pos 1) }; shift = vector_at (pos 0) (pos 0) (pos 0) } })) ([]) (9 ∷ []) (4 ∷ [])) ∷ None ∷ None ∷ Some (Brush 6 (Some 8) []) ∷ None ∷ None ∷ Some (Entity 5 (Some 11) ((codes "classname", codes "light") ∷ []) ([]) ([])) ∷ None ∷ []) ≡ (Some (World Standard ([]) ([]) (1 ∷ 4 ∷ [])) ∷ Some (Group 0 None (codes "a") (Some (record { set = 7; motion = record { matrix = record { x = vector_at (pos 1) (pos 0) (pos 0); y = vector_at (pos 0) (pos 1) (pos 0); z = vector_at (pos 0) (pos 0) (pos 1) }; shift = vector_at (pos 0) (pos 0) (pos 0) } })) ([]) (2 ∷ []) (3 ∷ [])) ∷ Some (Brush 1 (Some 8) []) ∷ Some (Entity 1 (Some 9) ((codes "classname", codes "light") ∷ []) ([]) ([])) ∷ Some (Group 0 None (codes "a") (Some (record { set = 7; motion = record { matrix = record { x = vector_at (pos 1) (pos 0) (pos 0); y = vector_at (pos 0) (pos 1) (pos 0); z = vector_at (pos 0) (pos 0) (pos 1) }; shift = vector_at (pos 0) (pos 0) (pos 0) } })) ([]) (5 ∷ []) (6 ∷ [])) ∷ Some (Brush 4 (Some 8) []) ∷ Some (Entity 4 (Some 9) ((codes "classname", codes "light") ∷ []) ([]) ([])) ∷ None ∷ None ∷ None ∷ [])
renumbered_one_link_set = refl

renumbered_groups_in_groups : renumbered_shown (Some (World Standard ([]) (13 ∷ 1 ∷ []) (12 ∷ 6 ∷ [])) ∷ Some (Brush 0 None []) ∷ Some (Entity 11 None ((codes "classname", codes "light") ∷ []) ([]) ([])) ∷ None ∷ Some (Brush 10 None []) ∷ None ∷ Some (Entity 0 None ((codes "classname", codes "free") ∷ []) ([]) ([])) ∷ Some (Brush 8 None []) ∷ Some (Group 12 None (codes "a") None ([]) (7 ∷ []) (11 ∷ 10 ∷ [])) ∷ Some (Brush 10 None []) ∷ Some (Entity 8 None ((codes "classname", codes "door") ∷ []) ([]) (9 ∷ 4 ∷ [])) ∷ Some (Group 8 None (codes "b") None ([]) ([]) (2 ∷ [])) ∷ Some (Layer (codes "one") false ([]) ([]) (8 ∷ [])) ∷ Some (Brush 0 None []) ∷ None ∷ None ∷ []) ≡ (Some (World Standard ([]) (1 ∷ 2 ∷ []) (3 ∷ 11 ∷ [])) ∷ Some (Brush 0 None []) ∷ Some (Brush 0 None []) ∷ Some (Layer (codes "one") false ([]) ([]) (4 ∷ [])) ∷ Some (Group 3 None (codes "a") None ([]) (5 ∷ []) (6 ∷ 8 ∷ [])) ∷ Some (Brush 4 None []) ∷ Some (Group 4 None (codes "b") None ([]) ([]) (7 ∷ [])) ∷ Some (Entity 6 None ((codes "classname", codes "light") ∷ []) ([]) ([])) ∷ Some (Entity 4 None ((codes "classname", codes "door") ∷ []) ([]) (9 ∷ 10 ∷ [])) ∷ Some (Brush 8 None []) ∷ Some (Brush 8 None []) ∷ Some (Entity 0 None ((codes "classname", codes "free") ∷ []) ([]) ([])) ∷ [])
renumbered_groups_in_groups = refl

renumbered_sky_and_light : renumbered_shown (Some (World Standard ([]) (7 ∷ []) (1 ∷ [])) ∷ Some (Layer (codes "sky") true ([]) ([]) (6 ∷ [])) ∷ None ∷ None ∷ None ∷ None ∷ Some (Entity 1 None ((codes "classname", codes "light") ∷ []) ([]) ([])) ∷ Some (Brush 0 None []) ∷ []) ≡ (Some (World Standard ([]) (1 ∷ []) (2 ∷ [])) ∷ Some (Brush 0 None []) ∷ Some (Layer (codes "sky") true ([]) ([]) (3 ∷ [])) ∷ Some (Entity 2 None ((codes "classname", codes "light") ∷ []) ([]) ([])) ∷ [])
renumbered_sky_and_light = refl

renumbered_parent_later_in_file : renumbered_shown (Some (World Standard ([]) ([]) (2 ∷ [])) ∷ Some (Brush 7 None []) ∷ Some (Group 0 None (codes "late") None ([]) ([]) (4 ∷ 7 ∷ [])) ∷ None ∷ Some (Entity 2 None ((codes "classname", codes "light") ∷ []) ([]) ([])) ∷ None ∷ None ∷ Some (Group 2 None (codes "later") None ([]) (1 ∷ []) ([])) ∷ None ∷ []) ≡ (Some (World Standard ([]) ([]) (1 ∷ [])) ∷ Some (Group 0 None (codes "late") None ([]) ([]) (2 ∷ 3 ∷ [])) ∷ Some (Entity 1 None ((codes "classname", codes "light") ∷ []) ([]) ([])) ∷ Some (Group 1 None (codes "later") None ([]) (4 ∷ []) ([])) ∷ Some (Brush 3 None []) ∷ [])
renumbered_parent_later_in_file = refl

renumbered_two_rings : renumbered_shown (Some (World Standard ([]) ([]) (7 ∷ 9 ∷ [])) ∷ Some (Brush 7 None []) ∷ None ∷ Some (Brush 12 None []) ∷ Some (Brush 9 None []) ∷ None ∷ None ∷ Some (Group 0 None (codes "a") None ([]) (1 ∷ []) (10 ∷ [])) ∷ Some (Brush 10 None []) ∷ Some (Group 0 None (codes "b") None ([]) (4 ∷ []) (12 ∷ [])) ∷ Some (Group 7 None (codes "d") None ([]) (8 ∷ []) ([])) ∷ None ∷ Some (Group 9 None (codes "c") None ([]) (3 ∷ []) ([])) ∷ []) ≡ (Some (World Standard ([]) ([]) (1 ∷ 5 ∷ [])) ∷ Some (Group 0 None (codes "a") None ([]) (2 ∷ []) (3 ∷ [])) ∷ Some (Brush 1 None []) ∷ Some (Group 1 None (codes "d") None ([]) (4 ∷ []) ([])) ∷ Some (Brush 3 None []) ∷ Some (Group 0 None (codes "b") None ([]) (6 ∷ []) (7 ∷ [])) ∷ Some (Brush 5 None []) ∷ Some (Group 5 None (codes "c") None ([]) (8 ∷ []) ([])) ∷ Some (Brush 7 None []) ∷ [])
renumbered_two_rings = refl
