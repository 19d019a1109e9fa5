-- The document that the map level saves is the one of these laws.
use Rattle.std.proofs.Common.{◌≡◌, ℕ, suc, Bool, true, false, cond, ◌==◌, List, [], ◌∷◌, ◌++◌, map, refl, ap, sym, ◌∙◌, is_some, option_map, unwrap_or, codes, inl, inr, append_assoc}
use Rattle.std.specs.Prelude.{filter_map, Option, Some, None}
use Rattle.std.specs.List.{cons_option}
use Rattle.std.specs.Fmt.{decimal}
use Rattle.std.proofs.lemmas.Bool.{cases_Bool}
use Rattle.algebra.specs.Members.{◌∈◌, here, there}
use Rattle.map_model.specs.Tree.{Whole, Node, World, Layer, Group, Entity, Brush, Link, layer, group, at, is_kind, brushes_of, format_of, preorder}
use Rattle.map_model.specs.Shape.{Shape}
use Rattle.map_model.specs.Below.{Below}
use Rattle.uv_lock.specs.declared.texture.Format.{Format}
use Rattle.uv_lock.specs.declared.texture.Format.TheVariants.{Standard, Valve}
use Rattle.orient48.specs.MotionTexts.{motion_text}
use Rattle.map_model.specs.Saved as model
use Rattle.file_laws.specs.Numbers.{place_in}
use Rattle.file_laws.specs.Saved as file
use Rattle.file_laws.specs.FileLeaves.{file_leaves}
use Rattle.file_laws.proofs.Order.{Order, order_of}
use Rattle.file_laws.proofs.Good.{live_in_file}
use Rattle.file_laws.proofs.Steps.{add_one}

counted : (n : ℕ) (ks : List ℕ) → model.count_to n ks ≡ suc (place_in ks n)
counted n [] = refl
counted n (k ∷ ks) = elim (cases_Bool (k == n)) [
  | inl e ↦ rw (e) refl
  | inr e ↦ rw (e) (add_one (model.count_to n ks) ∙ ap suc (counted n ks))
]

-- Where each has a value, a filter by values is a map.
filter_map_is : {A B : Type 0} (h : A → Option B) (c : A → B) (xs : List A) → ((x : A) → x ∈ xs → h x ≡ Some (c x)) → filter_map h xs ≡ map c xs
filter_map_is h c [] e = refl
filter_map_is h c (x ∷ xs) e = λ i. cons_option (e x here i) (filter_map_is h c xs (λ y j. e y (there j)) i)

id_is : (m : Whole) (n : ℕ) → model.id_of m n ≡ decimal (file.id_of m n)
id_is m n = ap decimal (counted n (Rattle.std.specs.Prelude.filter (file.has_id m) (file.file_order m)))

set_is : (m : Whole) (s : ℕ) → model.set_id m s ≡ decimal (file.set_id_of m s)
set_is m s = ap decimal (counted s (model.sets_in_order m))

parent_is : (m : Whole) (p : ℕ) → model.parent_props m p ≡ file.parent_props m p
parent_is m p = λ i. cond (is_kind m layer p) ((codes "_tb_layer", id_is m p i) ∷ []) (cond (is_kind m group p) ((codes "_tb_group", id_is m p i) ∷ []) [])

link_is : (b : Below) (m : Whole) (l : Option Link) → model.link_props m l ≡ file.link_props (file_leaves b) m l
link_is b m None = refl
link_is b m (Some l) = λ i. (codes "_tb_linked_group_id", set_is m l.set i) ∷ (codes "_tb_transformation", motion_text l.motion) ∷ []

frozen_is : (frozen : Bool) → model.locked_props frozen ≡ file.frozen_props frozen
frozen_is true = refl
frozen_is false = refl

version_is : (f : Format) → model.version_props f ≡ file.version_props f
version_is Standard = refl
version_is Valve = refl

protected_is : (keys : List (List ℕ)) → model.protected_props keys ≡ file.protected_props keys
protected_is [] = refl
protected_is (key ∷ keys) = refl

props_are : (b : Below) (m : Whole) (n : ℕ) (x : Node) → model.saved_props m n x ≡ file.saved_props (file_leaves b) m n x
props_are b m n (World f ps bs os) = λ i. (Rattle.map_model.specs.Props.classname, codes "worldspawn") ∷ (version_is f i ++ ps)
props_are b m n (Layer name frozen ps bs os) =
    λ i. (Rattle.map_model.specs.Props.classname, codes "func_group") ∷ (codes "_tb_type", codes "_tb_layer") ∷ (codes "_tb_name", name) ∷ (codes "_tb_id", id_is m n i) ∷ (frozen_is frozen i ++ ps)
props_are b m n (Group p mark name l ps bs os) =
    model_group
    ∙ (λ i. (Rattle.map_model.specs.Props.classname, codes "func_group") ∷ (codes "_tb_type", codes "_tb_group") ∷ (codes "_tb_name", name) ∷ (codes "_tb_id", id_is m n i) ∷ (parent_is m p i ++ (link_is b m l i ++ ps)))
  where
    model_group : model.saved_props m n (Group p mark name l ps bs os)
        ≡ (Rattle.map_model.specs.Props.classname, codes "func_group") ∷ (codes "_tb_type", codes "_tb_group") ∷ (codes "_tb_name", name) ∷ (codes "_tb_id", model.id_of m n) ∷ (model.parent_props m p ++ (model.link_props m l ++ ps))
    model_group = ap (λ l. (Rattle.map_model.specs.Props.classname, codes "func_group") ∷ (codes "_tb_type", codes "_tb_group") ∷ (codes "_tb_name", name) ∷ (codes "_tb_id", model.id_of m n) ∷ l)
        (append_assoc (model.parent_props m p) (model.link_props m l) ps)
props_are b m n (Entity p mark ps ks bs) = append_assoc ps (model.parent_props m p) (model.protected_props ks) ∙ (λ i. ps ++ (parent_is m p i ++ protected_is ks i))
props_are b m n (Brush p mark fs) = refl

pub saved_is : (b : Below) (m : Whole) → Shape m → model.saved m ≡ file.saved (file_leaves b) m
saved_is b m shape = λ i. record { format = format_of m; entities = same i }
  where
    o : Order m (preorder m 0)
    o = order_of m shape.standing shape.numbers

    one : (n : ℕ) → (q : Option Node) → at m n ≡ q → is_some q ≡ true → option_map (model.saved_entity m n) (at m n) ≡ Some (file.saved_entity (file_leaves b) m n)
    one n None e h = absurd (cc h)
    one n (Some x) e h =
        ap (option_map (model.saved_entity m n)) e
        ∙ ap Some ((λ i. record { props = props_are b m n x i; brushes = map (model.saved_brush m) (unwrap_or (option_map brushes_of (e i)) []) })
        ∙ sym (ap (λ v. unwrap_or (option_map (file.saved_node (file_leaves b) m n) v) (record { props = []; brushes = [] })) e))

    same : filter_map (λ n. option_map (model.saved_entity m n) (at m n)) (model.entities m) ≡ map (file.saved_entity (file_leaves b) m) (file.file_order m)
    same = filter_map_is (λ n. option_map (model.saved_entity m n) (at m n)) (file.saved_entity (file_leaves b) m) (file.file_order m)
        (λ n i. one n (at m n) refl (live_in_file m shape.standing o n i))
