-- Worked scripts on the tree, its keys and the history.
use Rattle.std.proofs.Common.{◌≡◌, refl}
use Rattle.std.specs.Prelude.{[], ◌∷◌, map, codes}
use Rattle.uv_lock.specs.declared.texture.Format.TheVariants.{Valve}
use Rattle.map_model.specs.Tree.{numbers_from}
use Rattle.map_model.proofs.Words.{all_words}
use Rattle.map_model.proofs.Scripts.{said, empty, box_map}

-- A frozen layer keeps its nodes.
pub layers : said (empty Valve)
    (codes "layer sky" ∷ codes "box 0 0 0 8 8 8" ∷ codes "into 1 2" ∷ codes "freeze 1" ∷ codes "delete 2 2" ∷ codes "delete 2" ∷ codes "delete 1" ∷ codes "thaw 1" ∷ codes "move 0 0 8 1" ∷ codes "delete 2" ∷ [])
    ≡ (codes "ok 1 1" ∷ codes "ok 1 2" ∷ codes "ok" ∷ codes "ok" ∷ codes "no repeated 2" ∷ codes "no locked-layer 2" ∷ codes "no locked-layer 1" ∷ codes "ok" ∷ codes "no wrong-kind 1" ∷ codes "ok" ∷ [])
unfolding all_words
layers = refl

-- Undo and redo, and lines that don't read.
pub history : said (empty Valve)
    (codes "undo" ∷ codes "frob" ∷ codes "box 0 0 0 64 64" ∷ codes "box 0 0 0 64 64 64" ∷ codes "undo" ∷ codes "redo" ∷ codes "undo" ∷ codes "box 0 0 0 8 8 8" ∷ codes "redo" ∷ [])
    ≡ (codes "no nothing-to-undo" ∷ codes "no unknown-command" ∷ codes "no arguments 6" ∷ codes "ok 1 1" ∷ codes "ok" ∷ codes "ok" ∷ codes "ok" ∷ codes "ok 1 1" ∷ codes "no nothing-to-redo" ∷ [])
unfolding all_words
history = refl

-- A command that changes nothing adds a map.
pub set_twice : said (empty Valve)
    (codes "entity light 0 0 0" ∷ codes "set 1 a b" ∷ codes "set 1 a b" ∷ codes "undo" ∷ codes "show 1" ∷ [])
    ≡ (codes "ok 1 1" ∷ codes "ok" ∷ codes "ok" ∷ codes "ok" ∷ codes "entity 1 3" ∷ codes "\"classname\" \"light\"" ∷ codes "\"origin\" \"0 0 0\"" ∷ codes "\"a\" \"b\"" ∷ codes "ok" ∷ [])
unfolding all_words
set_twice = refl

-- An origin moves, and one that doesn't read refuses the motion.
pub origins : said (empty Valve)
    (codes "entity light 8 0 0" ∷ codes "turn z 1 0 0 0 1" ∷ codes "show 1" ∷ codes "set 1 origin up" ∷ codes "move 1 0 0 1" ∷ [])
    ≡ (codes "ok 1 1" ∷ codes "ok" ∷ codes "entity 1 2" ∷ codes "\"classname\" \"light\"" ∷ codes "\"origin\" \"0 8 0\"" ∷ codes "ok" ∷ codes "ok" ∷ codes "no origin 1" ∷ [])
unfolding all_words
origins = refl

-- What loses its last child goes, but a linked group may not.
pub pruned : said (empty Valve)
    (codes "box 0 0 0 8 8 8" ∷ codes "tie func_door 1" ∷ codes "group g 2" ∷ codes "link 3 64 0 0" ∷ codes "delete 1" ∷ codes "ungroup 3" ∷ codes "delete 2" ∷ codes "tree" ∷ [])
    ≡ (codes "ok 1 1" ∷ codes "ok 1 2" ∷ codes "ok 1 3" ∷ codes "ok 3 4" ∷ codes "no empty-link 3" ∷ codes "ok" ∷ codes "ok" ∷ codes "0 world valve" ∷ codes "4 group 0 7 \"g\"" ∷ codes "5 entity 4 \"func_door\"" ∷ codes "6 brush 5 6" ∷ codes "ok" ∷ [])
unfolding all_words
pruned = refl

-- A node and one beneath it, and a target beneath its node.
pub nested : said box_map
    (codes "group a 1" ∷ codes "group b 2" ∷ codes "move 0 0 8 3 1" ∷ codes "into 2 3" ∷ codes "into 3 3" ∷ codes "into 0 2 1" ∷ codes "into 0 2" ∷ codes "tree" ∷ [])
    ≡ (codes "ok 1 2" ∷ codes "ok 1 3" ∷ codes "no nested-ids 1" ∷ codes "no nested-ids 3" ∷ codes "no repeated 3" ∷ codes "no nested-ids 1" ∷ codes "ok" ∷ codes "0 world valve" ∷ codes "2 group 0 - \"a\"" ∷ codes "1 brush 2 6" ∷ codes "ok" ∷ [])
unfolding all_words
nested = refl

-- Keys that the program keeps for itself.
pub keys : said (empty Valve)
    (codes "set 0 classname x" ∷ codes "set 0 _tb_id 1" ∷ codes "entity light 0 0 0" ∷ codes "set 1 classname x" ∷ codes "unset 1 classname" ∷ codes "unset 1 y" ∷ codes "protect 1 a;b" ∷ [])
    ≡ (codes "no reserved-key 0" ∷ codes "no reserved-key 0" ∷ codes "ok 1 1" ∷ codes "ok" ∷ codes "no reserved-key 1" ∷ codes "no no-key 1" ∷ codes "no reserved-key 1" ∷ [])
unfolding all_words
keys = refl

-- Keys are protected in linked groups alone.
pub unlinked_protection : said (empty Valve)
    (codes "entity light 0 0 0" ∷ codes "protect 1 origin" ∷ codes "protect 1 message" ∷ codes "unprotect 1 message" ∷ [])
    ≡ (codes "ok 1 1" ∷ codes "no reserved-key 1" ∷ codes "no not-linked 1" ∷ codes "no no-key 1" ∷ [])
unfolding all_words
unlinked_protection = refl

-- The brushes of an entity go to where it stands, and it goes.
pub untied : said (empty Valve)
    (codes "box 0 0 0 64 64 64" ∷ codes "tie func_door 1" ∷ codes "untie 2" ∷ codes "untie 2" ∷ codes "tree" ∷ [])
    ≡ (codes "ok 1 1" ∷ codes "ok 1 2" ∷ codes "ok" ∷ codes "no no-node 2" ∷ codes "0 world valve" ∷ codes "1 brush 0 6" ∷ codes "ok" ∷ [])
unfolding all_words
untied = refl

-- A line of 4,097 bytes.
pub long_line : said (empty Valve) (map (λ n. 104) (numbers_from 0 4097) ∷ []) ≡ (codes "no line-too-long" ∷ [])
unfolding all_words
long_line = refl
