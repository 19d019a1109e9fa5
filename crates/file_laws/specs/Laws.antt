-- What is saved of a map is, read again, the map renumbered.
use Rattle.std.specs.Prelude.{◌≡◌, IsTrue, [], Ok}
use Rattle.map_text.specs.Reads.{Reads}
use Rattle.map_write.specs.Written.{written_text}
use Rattle.map_text.specs.Spelled.{is_savable, is_spelled}
use Rattle.map_model.specs.Tree.{Whole}
use Rattle.map_text.specs.declared.document.MapDoc.{MapDoc}
use Rattle.map_model.specs.Shape.{Shape, Standing, Numbers, Marks}
use Rattle.file_laws.specs.Leaves.{Leaves, AreRight, AreSavable, AreSound}
use Rattle.file_laws.specs.Saved.{saved}
use Rattle.file_laws.specs.Build.{Built, build_tree}
use Rattle.map_model.specs.Links.{AllOne}
use Rattle.file_laws.specs.Linked.{build}
use Rattle.file_laws.specs.Renumbered.{renumbered_plain, renumbered_map}

-- Links and marks aside.
abbrev pub SavedTreeLaw : Type 0
SavedTreeLaw = (w : Leaves) (m : Whole) → AreRight w m → Shape m → build_tree w (saved w m) ≡ Ok (record { map = renumbered_plain m; notes = [] })

-- The whole map.
abbrev pub SavedMapLaw : Type 0
SavedMapLaw = (w : Leaves) (m : Whole) → AreRight w m → Shape m → AllOne m → build w (saved w m) ≡ Ok (record { map = renumbered_map m; notes = [] })

-- The document can be saved.
abbrev pub SavableLaw : Type 0
SavableLaw = (w : Leaves) (m : Whole) → AreSavable w m → Shape m → IsTrue (is_savable (saved w m))

-- Its text reads as that document, which builds the map renumbered.
pub record ReadsBack (w : Leaves) (m : Whole) : Type 0 where
  pub reads : Reads (written_text (saved w m)) (saved w m)
  pub builds : build w (saved w m) ≡ Ok (record { map = renumbered_map m; notes = [] })

abbrev pub SavedTextLaw : Type 0
SavedTextLaw = (w : Leaves) (m : Whole) → AreRight w m → AreSavable w m → Shape m → AllOne m → ReadsBack w m

-- What holds of a map but for what its nodes are and that its sets are of one content.
pub record KeepsRules (m : Whole) : Type 0 where
  pub standing : Standing m
  pub numbers : Numbers m
  pub marks : Marks m

-- Each map that a document builds keeps these rules, whatever the document is.
abbrev pub BuiltRulesLaw : Type 0
BuiltRulesLaw = (w : Leaves) (doc : MapDoc) (built : Built) → build w doc ≡ Ok built → KeepsRules built.map

-- And each map that a document of a text builds has the shape of maps.
abbrev pub BuiltShapeLaw : Type 0
BuiltShapeLaw = (w : Leaves) (doc : MapDoc) → AreSound w doc.format → IsTrue (is_spelled doc) → (built : Built) → build w doc ≡ Ok built → Shape built.map
