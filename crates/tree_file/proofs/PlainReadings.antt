-- Readings of a document that asks for no links, and the items that stay of them, name no link set and have plain nodes.
use Rattle.std.proofs.Common.{◌≡◌, ℕ, zero, suc, false, not, List, length, None, refl, ap, sym, subst}
use Rattle.std.specs.Prelude.{filter}
use Rattle.std.specs.List.{list_any}
use Rattle.algebra.specs.Members.{◌∈◌}
use Rattle.uv_lock.specs.declared.texture.Format.{Format}
use Rattle.map_text.specs.declared.document.RawEntity.{RawEntity}
use Rattle.map_model.specs.Tree.{Kind, Props, world, layer, group, entity, brush}
use Rattle.file_laws.specs.Leaves.{Leaves}
use Rattle.file_laws.specs.Readings.{Reading, readings_from, node_in, kind_in}
use Rattle.file_laws.specs.Build.{Item, item, items, first_parents, is_empty_group, without_empty, kept_items}
use Rattle.file_laws.proofs.Lists.{of_map, of_filter}
use Rattle.file_laws.proofs.Shaped.{read_from}
use Rattle.tree_file.specs.Promises.{asks_for_links}
use Rattle.tree_file.proofs.NoLinks.{IsPlain}
use Rattle.tree_file.proofs.ReadOne.{none_at, names_none}

-- It names no set, and its node has no mark and no link.
pub record AsksNothing (r : Reading) : Type 0 where
  pub set : r.set ≡ None
  pub node : IsPlain r.node

node_plain : (f : Format) (ps : Props) (k : Kind) → IsPlain (node_in f ps k)
node_plain f ps world = record { mark = refl; link = refl }
node_plain f ps layer = record { mark = refl; link = refl }
node_plain f ps group = record { mark = refl; link = refl }
node_plain f ps entity = record { mark = refl; link = refl }
node_plain f ps brush = record { mark = refl; link = refl }

pub reading_asks : (w : Leaves) (f : Format) (raws : List RawEntity) → list_any asks_for_links raws ≡ false → (r : Reading) → r ∈ readings_from w f 0 raws → AsksNothing r
reading_asks w f raws plain r i =
    let x = read_from w f 0 raws r i in
    subst AsksNothing (sym x.is)
    (record {
      set = names_none x.raw r.place (none_at asks_for_links raws plain x.raw x.in_file);
      node = node_plain f x.raw.props (kind_in r.place x.raw.props);
    })

in_all : (k : ℕ) (all : List Item) (i : Item) → i ∈ without_empty k all → i ∈ all
in_all zero all i m = m
in_all (suc k) all i m = (of_filter (λ j. not (is_empty_group all j)) all i (in_all k (filter (λ j. not (is_empty_group all j)) all) i m)).0

-- an item that stays has one of the readings
pub kept_from : (rs : List Reading) (i : Item) → i ∈ kept_items (items rs) → i.reading ∈ rs
kept_from rs i m =
    let r = of_map (item rs (first_parents rs)) rs i (in_all (length (items rs)) (items rs) i m) in
    subst (λ (q : Reading). q ∈ rs) (sym (ap (λ (j : Item). j.reading) r.2)) r.1
