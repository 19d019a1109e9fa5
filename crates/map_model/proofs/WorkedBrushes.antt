-- Worked scripts on brushes and their textures.
use Rattle.std.proofs.Common.{◌≡◌, refl}
use Rattle.std.specs.Prelude.{[], ◌∷◌, codes}
use Rattle.uv_lock.specs.declared.texture.Format.TheVariants.{Valve}
use Rattle.map_model.proofs.Words.{all_words}
use Rattle.map_model.proofs.Scripts.{said, kept_face, kept_faces, empty, box_map, standard_map}

-- The map with a box, as its text has it.
pub box : kept_faces box_map [] 1
    ≡ (codes "( -64 -64 -16 ) ( -64 -63 -16 ) ( -64 -64 -15 ) __TB_empty [ 0 -1 0 0 ] [ 0 0 -1 0 ] 0 1 1" ∷ codes "( -64 -64 -16 ) ( -64 -64 -15 ) ( -63 -64 -16 ) __TB_empty [ 1 0 0 0 ] [ 0 0 -1 0 ] 0 1 1" ∷ codes "( -64 -64 -16 ) ( -63 -64 -16 ) ( -64 -63 -16 ) __TB_empty [ -1 0 0 0 ] [ 0 -1 0 0 ] 0 1 1" ∷ codes "( 64 64 16 ) ( 64 65 16 ) ( 65 64 16 ) __TB_empty [ 1 0 0 0 ] [ 0 -1 0 0 ] 0 1 1" ∷ codes "( 64 64 16 ) ( 65 64 16 ) ( 64 64 17 ) __TB_empty [ -1 0 0 0 ] [ 0 0 -1 0 ] 0 1 1" ∷ codes "( 64 64 16 ) ( 64 64 17 ) ( 64 65 16 ) __TB_empty [ 0 1 0 0 ] [ 0 0 -1 0 ] 0 1 1" ∷ [])
unfolding all_words
box = refl

-- A box moves with its texture locked.
pub moved : said box_map
    (codes "lock on" ∷ codes "move 16 0 0 1" ∷ [])
    ≡ (codes "ok" ∷ codes "ok" ∷ [])
unfolding all_words
moved = refl

-- Offsets follow the shift along the axes.
pub moved_face_1 : kept_face box_map (codes "lock on" ∷ codes "move 16 0 0 1" ∷ []) 1 1
    ≡ codes "( -48 -64 -16 ) ( -48 -64 -15 ) ( -47 -64 -16 ) __TB_empty [ 1 0 0 -16 ] [ 0 0 -1 0 ] 0 1 1"
unfolding all_words
moved_face_1 = refl

pub moved_face_3 : kept_face box_map (codes "lock on" ∷ codes "move 16 0 0 1" ∷ []) 1 3
    ≡ codes "( 80 64 16 ) ( 80 65 16 ) ( 81 64 16 ) __TB_empty [ 1 0 0 -16 ] [ 0 -1 0 0 ] 0 1 1"
unfolding all_words
moved_face_3 = refl

pub moved_face_5 : kept_face box_map (codes "lock on" ∷ codes "move 16 0 0 1" ∷ []) 1 5
    ≡ codes "( 80 64 16 ) ( 80 64 17 ) ( 80 65 16 ) __TB_empty [ 0 1 0 0 ] [ 0 0 -1 0 ] 0 1 1"
unfolding all_words
moved_face_5 = refl

-- An offset that has no count refuses the motion, with its exact value.
pub no_count : said box_map
    (codes "lock on" ∷ codes "tex 1 3 a 0 0 0 0.5 1" ∷ codes "move 16 0 0 1" ∷ codes "uv 1 3 80 64 16" ∷ codes "undo" ∷ codes "tex 1 3 a 0 0 0 3 1" ∷ codes "move 16 0 0 1" ∷ codes "move 24 0 0 1" ∷ codes "uv 1 3 88 64 16" ∷ [])
    ≡ (codes "ok" ∷ codes "ok" ∷ codes "ok" ∷ codes "ok 128 -64" ∷ codes "ok" ∷ codes "ok" ∷ codes "no lock-offset 1 3 -16/3" ∷ codes "ok" ∷ codes "ok 64/3 -64" ∷ [])
unfolding all_words
no_count = refl

-- A turn keeps the coordinates of a point.
pub turned : said box_map
    (codes "lock on" ∷ codes "uv 1 3 64 64 16" ∷ codes "turn z 1 0 0 0 1" ∷ codes "uv 1 3 -64 64 16" ∷ [])
    ≡ (codes "ok" ∷ codes "ok 64 -64" ∷ codes "ok" ∷ codes "ok 64 -64" ∷ [])
unfolding all_words
turned = refl

-- Its axes turn with the face.
pub turned_face_3 : kept_face box_map (codes "lock on" ∷ codes "uv 1 3 64 64 16" ∷ codes "turn z 1 0 0 0 1" ∷ codes "uv 1 3 -64 64 16" ∷ []) 1 3
    ≡ codes "( -64 64 16 ) ( -65 64 16 ) ( -64 65 16 ) __TB_empty [ 0 1 0 0 ] [ 1 0 0 0 ] 0 1 1"
unfolding all_words
turned_face_3 = refl

-- A flip swaps the first and the last point.
pub flipped_face_5 : kept_face box_map (codes "flip x 0 1" ∷ []) 1 5
    ≡ codes "( -64 65 16 ) ( -64 64 17 ) ( -64 64 16 ) __TB_empty [ 0 1 0 0 ] [ 0 0 -1 0 ] 0 1 1"
unfolding all_words
flipped_face_5 = refl

-- A box less a box inside it is six boxes.
pub six_pieces : said (empty Valve)
    (codes "box 0 0 0 64 64 64" ∷ codes "box 16 16 16 48 48 48" ∷ codes "subtract 2 1" ∷ [])
    ≡ (codes "ok 1 1" ∷ codes "ok 1 2" ∷ codes "ok 6 3" ∷ [])
unfolding all_words
six_pieces = refl

-- A box less one around it is nothing.
pub no_piece : said (empty Valve)
    (codes "box 16 16 16 48 48 48" ∷ codes "box 0 0 0 64 64 64" ∷ codes "subtract 2 1" ∷ codes "tree" ∷ [])
    ≡ (codes "ok 1 1" ∷ codes "ok 1 2" ∷ codes "ok 0" ∷ codes "0 world valve" ∷ codes "ok" ∷ [])
unfolding all_words
no_piece = refl

-- Boxes that only touch have no point inside in common.
pub apart : said (empty Valve)
    (codes "box 0 0 0 64 64 64" ∷ codes "box 64 0 0 128 64 64" ∷ codes "subtract 2 1" ∷ codes "tree" ∷ [])
    ≡ (codes "ok 1 1" ∷ codes "ok 1 2" ∷ codes "no apart 1" ∷ codes "0 world valve" ∷ codes "1 brush 0 6" ∷ codes "2 brush 0 6" ∷ codes "ok" ∷ [])
unfolding all_words
apart = refl

-- A clip whose corners aren't whole, with its loops.
pub clipped : said (empty Valve)
    (codes "box 0 0 0 64 64 64" ∷ codes "clip front 64 0 0 1 21 0 1 21 64 1" ∷ codes "show 1" ∷ [])
    ≡ (codes "ok 1 1" ∷ codes "ok" ∷ codes "brush 1 5 6" ∷ codes "face 0 __TB_empty (0 0 0) (0 64 0)/3 (0 64 192)/3 (0 0 64)" ∷ codes "face 1 __TB_empty (0 0 0) (0 0 64) (64 0 64) (64 0 0)" ∷ codes "face 2 __TB_empty (0 0 0) (64 0 0) (0 64 0)/3" ∷ codes "face 3 __TB_empty (0 0 64) (0 64 192)/3 (64 0 64)" ∷ codes "face 4 __TB_empty (0 64 0)/3 (64 0 0) (64 0 64) (0 64 192)/3" ∷ codes "ok" ∷ [])
unfolding all_words
clipped = refl

-- Only brushes with whole corners merge; snapping makes them whole.
pub merged : said (empty Valve)
    (codes "box 0 0 0 64 64 64" ∷ codes "clip front 64 0 0 1 21 0 1 21 64 1" ∷ codes "box 64 0 0 128 64 64" ∷ codes "merge 1 2" ∷ codes "snap 1 1" ∷ codes "merge 1 2" ∷ codes "tree" ∷ [])
    ≡ (codes "ok 1 1" ∷ codes "ok" ∷ codes "ok 1 2" ∷ codes "no fractional-vertex 1" ∷ codes "ok" ∷ codes "ok" ∷ codes "0 world valve" ∷ codes "1 brush 0 7" ∷ codes "ok" ∷ [])
unfolding all_words
merged = refl

-- A facet has the fields of the first given face in its half-space.
pub merged_faces : kept_faces (empty Valve) (codes "material a" ∷ codes "box 0 0 0 64 64 64" ∷ codes "material b" ∷ codes "box 64 0 0 128 64 64" ∷ codes "merge 1 2" ∷ []) 1
    ≡ (codes "( 0 0 0 ) ( 0 0 64 ) ( 64 0 0 ) a [ 1 0 0 0 ] [ 0 0 -1 0 ] 0 1 1" ∷ codes "( 0 0 0 ) ( 0 64 0 ) ( 0 0 64 ) a [ 0 1 0 0 ] [ 0 0 -1 0 ] 0 1 1" ∷ codes "( 0 0 0 ) ( 64 0 0 ) ( 0 64 0 ) a [ 1 0 0 0 ] [ 0 -1 0 0 ] 0 1 1" ∷ codes "( 0 0 64 ) ( 0 64 64 ) ( 64 0 64 ) a [ 1 0 0 0 ] [ 0 -1 0 0 ] 0 1 1" ∷ codes "( 0 64 0 ) ( 64 64 0 ) ( 0 64 64 ) a [ 1 0 0 0 ] [ 0 0 -1 0 ] 0 1 1" ∷ codes "( 128 0 0 ) ( 128 0 64 ) ( 128 64 0 ) b [ 0 1 0 0 ] [ 0 0 -1 0 ] 0 1 1" ∷ [])
unfolding all_words
merged_faces = refl

-- A vertex moves as far as there is still a volume.
pub vertices_moved : said (empty Valve)
    (codes "hull 0 0 0 64 0 0 0 64 0 0 0 64" ∷ codes "vertex 1 0 0 -64 0 0 64" ∷ codes "box 0 0 0 64 64 64" ∷ codes "vertex 2 -32 -32 -32 64 64 64" ∷ codes "tree" ∷ [])
    ≡ (codes "ok 1 1" ∷ codes "no no-volume 1" ∷ codes "ok 1 2" ∷ codes "ok" ∷ codes "0 world valve" ∷ codes "1 brush 0 4" ∷ codes "2 brush 0 7" ∷ codes "ok" ∷ [])
unfolding all_words
vertices_moved = refl

-- The world ends at 4096, and points of planes at 4352.
pub limits : said (empty Valve)
    (codes "box 0 0 0 4097 64 64" ∷ codes "box 0 0 0 4352 64 64" ∷ codes "box 0 0 0 4096 64 64" ∷ [])
    ≡ (codes "no out-of-world 0" ∷ codes "no point-range 0 3" ∷ codes "ok 1 1" ∷ [])
unfolding all_words
limits = refl

-- A clip that misses, walls that are too thick, and six walls.
pub hollowed : said (empty Valve)
    (codes "box 0 0 0 64 64 64" ∷ codes "clip back 64 0 0 64 1 0 64 0 1 1" ∷ codes "hollow 32 1" ∷ codes "hollow 8 1" ∷ [])
    ≡ (codes "ok 1 1" ∷ codes "no plane-misses 1" ∷ codes "no thick 1" ∷ codes "ok 6 2" ∷ [])
unfolding all_words
hollowed = refl

-- The first of the brushes becomes what they have in common; a copy stands at the end.
pub intersected : said (empty Valve)
    (codes "box 0 0 0 64 64 64" ∷ codes "box 32 32 32 96 96 96" ∷ codes "intersect 1 2" ∷ codes "copy 128 0 0 1" ∷ codes "tree" ∷ [])
    ≡ (codes "ok 1 1" ∷ codes "ok 1 2" ∷ codes "ok" ∷ codes "ok 1 3" ∷ codes "0 world valve" ∷ codes "1 brush 0 6" ∷ codes "3 brush 0 6" ∷ codes "ok" ∷ [])
unfolding all_words
intersected = refl

-- Both parts of a clip.
pub both_parts : said (empty Valve)
    (codes "box 0 0 0 64 64 64" ∷ codes "clip both 32 0 0 32 1 0 32 0 1 1" ∷ codes "tree" ∷ [])
    ≡ (codes "ok 1 1" ∷ codes "ok 1 2" ∷ codes "0 world valve" ∷ codes "1 brush 0 6" ∷ codes "2 brush 0 6" ∷ codes "ok" ∷ [])
unfolding all_words
both_parts = refl

-- Standard faces become Valve ones with the same coordinates.
pub converted : said standard_map
    (codes "lock on" ∷ codes "uv 1 3 10 20 16" ∷ codes "convert" ∷ codes "uv 1 3 10 20 16" ∷ codes "lock on" ∷ [])
    ≡ (codes "no lock-needs-valve" ∷ codes "ok 28 10" ∷ codes "ok" ∷ codes "ok 28 10" ∷ codes "ok" ∷ [])
unfolding all_words
converted = refl

-- The axes are those that the rotation turns.
pub converted_face_3 : kept_face standard_map (codes "convert" ∷ []) 1 3
    ≡ codes "( 64 64 16 ) ( 64 65 16 ) ( 65 64 16 ) WALL [ 0 1 0 8 ] [ 1 0 0 0 ] 90 1 1"
unfolding all_words
converted_face_3 = refl

-- At another rotation there are no coordinates.
pub odd_rotation : said standard_map
    (codes "tex 1 3 WALL 8 0 45 1 1" ∷ codes "uv 1 3 0 0 16" ∷ codes "convert" ∷ [])
    ≡ (codes "ok" ∷ codes "no rotation 1 3" ∷ codes "no rotation 1 3" ∷ [])
unfolding all_words
odd_rotation = refl

-- Offsets have twelve decimals, and no more.
pub fine_offset : said box_map
    (codes "lock on" ∷ codes "tex 1 3 a 0 0 0 128 1" ∷ codes "move 1 0 0 1" ∷ codes "tex 1 3 a 0 0 0 8192 1" ∷ codes "move 1 0 0 1" ∷ [])
    ≡ (codes "ok" ∷ codes "ok" ∷ codes "ok" ∷ codes "ok" ∷ codes "no lock-offset 1 3 -1/8192" ∷ [])
unfolding all_words
fine_offset = refl

-- A locked offset below a millionth.
pub fine_offset_face_3 : kept_face box_map (codes "lock on" ∷ codes "tex 1 3 a 0 0 0 128 1" ∷ codes "move 1 0 0 1" ∷ []) 1 3
    ≡ codes "( 65 64 16 ) ( 65 65 16 ) ( 66 64 16 ) a [ 1 0 0 -0.0078125 ] [ 0 -1 0 0 ] 0 128 1"
unfolding all_words
fine_offset_face_3 = refl

-- One or two surface words are refused.
pub surface : said box_map
    (codes "tex 1 3 a 0 0 0 1 1 5 6" ∷ codes "tex 1 3 a 0 0 0 1 1 5 6 7" ∷ codes "tex 1 3 b 0 0 0 1 1" ∷ [])
    ≡ (codes "no arguments 11" ∷ codes "ok" ∷ codes "ok" ∷ [])
unfolding all_words
surface = refl

-- Surface numbers stay where no words are given.
pub surface_face_3 : kept_face box_map (codes "tex 1 3 a 0 0 0 1 1 5 6 7" ∷ codes "tex 1 3 b 0 0 0 1 1" ∷ []) 1 3
    ≡ codes "( 64 64 16 ) ( 64 65 16 ) ( 65 64 16 ) b [ 1 0 0 0 ] [ 0 -1 0 0 ] 0 1 1 5 6 7"
unfolding all_words
surface_face_3 = refl

-- Three dashes take them out.
pub surface_out_face_3 : kept_face box_map (codes "tex 1 3 a 0 0 0 1 1 5 6 7" ∷ codes "tex 1 3 b 0 0 0 1 1 - - -" ∷ []) 1 3
    ≡ codes "( 64 64 16 ) ( 64 65 16 ) ( 65 64 16 ) b [ 1 0 0 0 ] [ 0 -1 0 0 ] 0 1 1"
unfolding all_words
surface_out_face_3 = refl

-- The first brush on a ray, with the face and the fraction of the way.
pub picked : said box_map
    (codes "pick 0 0 100 0 0 0" ∷ codes "pick 0 0 0 0 0 1" ∷ codes "pick 64 0 0 65 0 0" ∷ codes "pick 128 0 16 0 0 16" ∷ codes "pick 0 0 100 0 0 200" ∷ codes "pick 1 1 1 1 1 1" ∷ [])
    ≡ (codes "ok 1 3 21/25" ∷ codes "ok 1 - 0" ∷ codes "ok 1 5 0" ∷ codes "ok 1 3 1/2" ∷ codes "ok none" ∷ codes "no no-ray" ∷ [])
unfolding all_words
picked = refl

-- Brushes that have a point inside in common.
pub touching : said (empty Valve)
    (codes "box 0 0 0 64 64 64" ∷ codes "box 32 32 32 96 96 96" ∷ codes "box 64 0 0 128 64 64" ∷ codes "touching 1" ∷ codes "delete 2" ∷ codes "touching 1" ∷ codes "undo" ∷ codes "touching 3" ∷ [])
    ≡ (codes "ok 1 1" ∷ codes "ok 1 2" ∷ codes "ok 1 3" ∷ codes "touch 2" ∷ codes "ok" ∷ codes "ok" ∷ codes "ok" ∷ codes "ok" ∷ codes "touch 2" ∷ codes "ok" ∷ [])
unfolding all_words
touching = refl

-- Boxes around brushes may meet where their insides don't.
pub not_touching : said (empty Valve)
    (codes "hull 0 0 0 64 0 0 0 64 0 0 0 64" ∷ codes "box 40 40 40 64 64 64" ∷ codes "touching 1" ∷ codes "touching 9" ∷ [])
    ≡ (codes "ok 1 1" ∷ codes "ok 1 2" ∷ codes "ok" ∷ codes "no no-node 9" ∷ [])
unfolding all_words
not_touching = refl

-- What is no plane, no vertex or no box is refused.
pub odd_shapes : said (empty Valve)
    (codes "box 0 0 0 64 64 64" ∷ codes "clip back 0 0 0 1 0 0 2 0 0 1" ∷ codes "vertex 1 0 0 8 1 2 3" ∷ codes "hull 0 0 0 64 0 0 0 64 0 0 0 64" ∷ codes "hollow 1 2" ∷ [])
    ≡ (codes "ok 1 1" ∷ codes "no flat-plane" ∷ codes "no no-vertex 1" ∷ codes "ok 1 2" ∷ codes "no not-box 2" ∷ [])
unfolding all_words
odd_shapes = refl
