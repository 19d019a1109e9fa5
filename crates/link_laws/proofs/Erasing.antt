-- A map without its links and marks: what doesn't read them is the same there, and edits that don't touch them lead to the same.
use Rattle.std.proofs.Common.{◌≡◌, ℕ, zero, suc, List, [], ◌∷◌, ◌++◌, flat_map, map, length, Bool, true, false, cond, ◌==◌, refl, ap, sym, ◌∙◌, Option, Some, None, option_map}
use Rattle.std.specs.Prelude.{unwrap_or, option_and_then, is_some}
use Rattle.uv_lock.specs.declared.texture.Format.TheVariants.{Standard}
use Rattle.map_model.specs.Faces.{Face}
use Rattle.map_model.specs.Tree.{Whole, Node, World, Brush, Kind, at, up, children, above, above_by, preorder, preorder_by, is_brush, is_kind, is_linked, same_kind, has_kind, kind_of, brush, parent_of, brushes_of, others_of, faces_of, faces_at, link_of, is_frozen, has, format_of, format_of_node, numbers_from, with_mark, with_link, with_faces}
use Rattle.map_model.specs.Edits.{renew, relist, draw, draw_number, each_in_turn, set, without, in_place, take_out, put_at, forget, delete, replace_by, put_after}
use Rattle.map_laws.proofs.Skeleton.{kind_at, list_at}
use Rattle.map_laws.proofs.Slots.{same_whole}

abbrev pub erased : Node → Node
erased x = with_mark None (with_link None x)

abbrev pub erase : Whole → Whole
erase m = record m { nodes = λ q. option_map erased (m.nodes q) }

-- A word on slots that doesn't read links and marks.
slot_word : {A : Type 0} (w : Node → A) → ((x : Node) → w (erased x) ≡ w x) → (o : Option Node) → option_map w (option_map erased o) ≡ option_map w o
slot_word w h None = refl
slot_word w h (Some x) = ap Some (h x)

pub erased_kind : (x : Node) → kind_of (erased x) ≡ kind_of x
erased_kind x = elim x as (λ x. kind_of (erased x) ≡ kind_of x) [ World a b c d ↦ refl | _ ↦ refl ]

module _ (m : Whole) where
  part : {A : Type 0} (w : Node → A) (none : A) → ((x : Node) → w (erased x) ≡ w x) → (q : ℕ) → unwrap_or (option_map w (at (erase m) q)) none ≡ unwrap_or (option_map w (at m q)) none
  part w none h q = ap (λ o. unwrap_or o none) (slot_word w h (at m q))

  pub erased_kinds : (q : ℕ) → kind_at (erase m) q ≡ kind_at m q
  erased_kinds q = slot_word kind_of erased_kind (at m q)

  pub erased_ups : (q : ℕ) → up (erase m) q ≡ up m q
  erased_ups q = by (at m q)
    where
      by : (o : Option Node) → option_and_then parent_of (option_map erased o) ≡ option_and_then parent_of o
      by None = refl
      by (Some x) = elim x as (λ x. parent_of (erased x) ≡ parent_of x) [ World a b c d ↦ refl | _ ↦ refl ]

  pub erased_lists : (b : Bool) (q : ℕ) → list_at b (erase m) q ≡ list_at b m q
  erased_lists true q = part brushes_of [] (λ x. elim x as (λ x. brushes_of (erased x) ≡ brushes_of x) [ World a b c d ↦ refl | _ ↦ refl ]) q
  erased_lists false q = part others_of [] (λ x. elim x as (λ x. others_of (erased x) ≡ others_of x) [ World a b c d ↦ refl | _ ↦ refl ]) q

  pub erased_children : (q : ℕ) → children (erase m) q ≡ children m q
  erased_children q = part (λ x. brushes_of x ++ others_of x) [] (λ x. elim x as (λ x. brushes_of (erased x) ++ others_of (erased x) ≡ brushes_of x ++ others_of x) [ World a b c d ↦ refl | _ ↦ refl ]) q

  pub erased_faces : (q : ℕ) → faces_at (erase m) q ≡ faces_at m q
  erased_faces q = part faces_of [] (λ x. elim x as (λ x. faces_of (erased x) ≡ faces_of x) [ World a b c d ↦ refl | _ ↦ refl ]) q

  pub erased_is : (k : Kind) (q : ℕ) → is_kind (erase m) k q ≡ is_kind m k q
  erased_is k q = part (has_kind k) false (λ x. ap (λ j. same_kind j k) (erased_kind x)) q

  pub erased_brush : (q : ℕ) → is_brush (erase m) q ≡ is_brush m q
  erased_brush = erased_is brush

  pub erased_linked : (q : ℕ) → is_linked (erase m) q ≡ false
  erased_linked q = by (at m q)
    where
      by : (o : Option Node) → unwrap_or (option_map (λ x. is_some (link_of x)) (option_map erased o)) false ≡ false
      by None = refl
      by (Some x) = elim x as (λ x. is_some (link_of (erased x)) ≡ false) [ World a b c d ↦ refl | _ ↦ refl ]

  pub erased_frozen : (q : ℕ) → has (erase m) is_frozen q ≡ has m is_frozen q
  erased_frozen q = part is_frozen false (λ x. elim x as (λ x. is_frozen (erased x) ≡ is_frozen x) [ World a b c d ↦ refl | _ ↦ refl ]) q

  pub erased_format : format_of (erase m) ≡ format_of m
  erased_format = part format_of_node Standard (λ x. elim x as (λ x. format_of_node (erased x) ≡ format_of_node x) [ World a b c d ↦ refl | _ ↦ refl ]) 0

  above_erased : (f : ℕ) (o : Option ℕ) → above_by f (erase m) o ≡ above_by f m o
  above_erased zero o = refl
  above_erased (suc f) None = refl
  above_erased (suc f) (Some n) = ap (λ l. n ∷ l) (ap (above_by f (erase m)) (erased_ups n) ∙ above_erased f (up m n))

  pub erased_above : (n : ℕ) → above (erase m) n ≡ above m n
  erased_above n = ap (above_by m.next (erase m)) (erased_ups n) ∙ above_erased m.next (up m n)

  preorder_erased : (f : ℕ) → preorder_by f (erase m) ≡ preorder_by f m
  preorder_erased zero = refl
  preorder_erased (suc f) = λ i n. n ∷ flat_map (preorder_erased f i) (erased_children n i)

  pub erased_preorder : (n : ℕ) → preorder (erase m) n ≡ preorder m n
  erased_preorder n = λ i. preorder_erased m.next i n

-- Edits. --------------------------------------------------------------------------------------------------------------------------------

-- A change of a node that doesn't read or touch links and marks.
abbrev pub Apart : (Node → Node) → Type 0
Apart g = (x : Node) → g (erased x) ≡ erased (g x)

pub relist_apart : (b : Bool) (f : List ℕ → List ℕ) → Apart (relist b f)
relist_apart true f x = elim x as (λ x. relist true f (erased x) ≡ erased (relist true f x)) [ World a b c d ↦ refl | _ ↦ refl ]
relist_apart false f x = elim x as (λ x. relist false f (erased x) ≡ erased (relist false f x)) [ World a b c d ↦ refl | _ ↦ refl ]

pub faces_apart : (fs : List Face) → Apart (with_faces fs)
faces_apart fs x = elim x as (λ x. with_faces fs (erased x) ≡ erased (with_faces fs x)) [ World a b c d ↦ refl | _ ↦ refl ]

erase_set : (m : Whole) (n : ℕ) (o p : Option Node) → p ≡ option_map erased o → set (erase m) n p ≡ erase (set m n o)
erase_set m n o p e = same_whole (set (erase m) n p) (erase (set m n o)) refl (λ q. by (q == n) q)
  where
    by : (b : Bool) (q : ℕ) → cond b p (option_map erased (at m q)) ≡ option_map erased (cond b o (at m q))
    by true q = e
    by false q = refl

pub erase_renew : (m : Whole) (n : ℕ) (g : Node → Node) → Apart g → renew n g (erase m) ≡ erase (renew n g m)
erase_renew m n g h = erase_set m n (option_map g (at m n)) (option_map g (option_map erased (at m n))) (by (at m n))
  where
    by : (o : Option Node) → option_map g (option_map erased o) ≡ option_map erased (option_map g o)
    by None = refl
    by (Some x) = ap Some (h x)

pub erase_forget : (ns : List ℕ) (m : Whole) → forget ns (erase m) ≡ erase (forget ns m)
erase_forget [] m = refl
erase_forget (n ∷ ns) m = ap (forget ns) (erase_set m n None None refl) ∙ erase_forget ns (set m n None)

pub erase_draw : (x : Node) (m : Whole) → erased x ≡ x → draw x (erase m) ≡ erase (draw x m)
erase_draw x m e = ap draw_number (erase_set m m.next (Some x) (Some x) (ap Some (sym e)))

-- A parent's list is changed, where there is a parent.
module _ (f : List ℕ → List ℕ) where
  by_parent : (b : Bool) (m : Whole) (o : Option ℕ) → unwrap_or (option_map (λ p. renew p (relist b f) (erase m)) o) (erase m) ≡ erase (unwrap_or (option_map (λ p. renew p (relist b f) m) o) m)
  by_parent b m None = refl
  by_parent b m (Some p) = erase_renew m p (relist b f) (relist_apart b f)

  listed : (m : Whole) (n : ℕ) → unwrap_or (option_map (λ p. renew p (relist (is_brush (erase m) n) f) (erase m)) (up (erase m) n)) (erase m) ≡ erase (unwrap_or (option_map (λ p. renew p (relist (is_brush m n) f) m) (up m n)) m)
  listed m n = (λ i. unwrap_or (option_map (λ p. renew p (relist (erased_brush m n i) f) (erase m)) (erased_ups m n i)) (erase m)) ∙ by_parent (is_brush m n) m (up m n)

pub erase_take_out : (n : ℕ) (m : Whole) → take_out n (erase m) ≡ erase (take_out n m)
erase_take_out n m = listed (without n) m n

pub erase_put_at : (old : ℕ) (ks : List ℕ) (m : Whole) → put_at old ks (erase m) ≡ erase (put_at old ks m)
erase_put_at old ks m = listed (in_place old ks) m old

pub erase_delete : (n : ℕ) (m : Whole) → delete n (erase m) ≡ erase (delete n m)
erase_delete n m = (λ i. forget (erased_preorder m n i) (erase_take_out n m i)) ∙ erase_forget (preorder m n) (take_out n m)

erase_draws : (p : ℕ) (results : List (List Face)) (m : Whole) → each_in_turn draw (map (Brush p None) results) (erase m) ≡ erase (each_in_turn draw (map (Brush p None) results) m)
erase_draws p [] m = refl
erase_draws p (fs ∷ results) m = ap (each_in_turn draw (map (Brush p None) results)) (erase_draw (Brush p None fs) m refl) ∙ erase_draws p results (draw (Brush p None fs) m)

pub erase_replace : (a : ℕ) (results : List (List Face)) (m : Whole) → replace_by a results (erase m) ≡ erase (replace_by a results m)
erase_replace a results m =
    let js = numbers_from m.next (length results) in
    let p = unwrap_or (up m a) 0 in
    let drawn = each_in_turn draw (map (Brush p None) results) m in
    ap (λ o. forget (a ∷ []) (put_at a js (each_in_turn draw (map (Brush (unwrap_or o 0) None) results) (erase m)))) (erased_ups m a)
    ∙ ap (λ k. forget (a ∷ []) (put_at a js k)) (erase_draws p results m)
    ∙ ap (forget (a ∷ [])) (erase_put_at a js drawn)
    ∙ erase_forget (a ∷ []) (put_at a js drawn)

pub erase_put_after : (a : ℕ) (faces : List Face) (m : Whole) → put_after a faces (erase m) ≡ erase (put_after a faces m)
erase_put_after a faces m =
    let x = Brush (unwrap_or (up m a) 0) None faces in
    ap (λ o. put_at a (a ∷ m.next ∷ []) (draw (Brush (unwrap_or o 0) None faces) (erase m))) (erased_ups m a)
    ∙ ap (put_at a (a ∷ m.next ∷ [])) (erase_draw x m refl)
    ∙ erase_put_at a (a ∷ m.next ∷ []) (draw x m)
