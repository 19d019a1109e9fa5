-- What the laws of maps without links tell of the map without its links and marks.
use Rattle.std.proofs.Common.{◌≡◌, ◌≢◌, ℕ, ◌-◌, ◌≤◌, List, [], ◌∷◌, ◌++◌, Bool, true, false, cond, refl, ap, sym, ◌∙◌, subst, arith, Option, Some, None, option_map, Ok}
use Rattle.std.specs.Prelude.{unwrap_or}
use Rattle.std.proofs.lemmas.Bool.{le-ltb}
use Rattle.uv_lock.specs.declared.texture.Format.TheVariants.{Standard}
use Rattle.map_model.specs.Faces.{Face}
use Rattle.map_model.specs.Tree.{Whole, Node, World, Brush, world, at, over, content, kind_of, is_brush, is_one_number, format_of, format_of_node, with_parent, with_mark, all_numbers}
use Rattle.map_model.specs.Edits.{each_in_turn, renew, relist, draw, draw_number, put_last}
use Rattle.map_model.specs.Shape.{Shape, NodeOk}
use Rattle.map_model.specs.Below.{Below}
use Rattle.map_model.specs.Commands.{Command, Settings}
use Rattle.map_model.specs.Replies.{Full}
use Rattle.map_model.specs.Rows.{rows, first, refuse}
use Rattle.map_model.specs.Own.{own}
use Rattle.map_model.specs.Apply.{Applied, apply, prune, edited, mark_new, mark_content, unmark, before_spread, reply_of, unless}
use Rattle.map_laws.specs.Placed.{NewOk}
use Rattle.map_laws.specs.Unlinked.{Unlinked, finish_unlinked, apply_unlinked}
use Rattle.map_laws.proofs.Forest.{not_none}
use Rattle.map_laws.proofs.Skeleton.{kind_is}
use Rattle.map_laws.proofs.Slots.{at-set_same, at-set_other, at-renew_same, at-renew_other, renew-keeps}
use Rattle.link_laws.proofs.Remarked.{unmarks_next}
use Rattle.link_laws.proofs.Erasing.{erase, erased_format}

-- Marks draw numbers.
mark_more : (before : Whole) (g : ℕ) (ns : List ℕ) (m : Whole) → m.next ≤ (each_in_turn (mark_new before g) ns m).next
mark_more before g [] m = omega arith
mark_more before g (n ∷ ns) m = omega (arith, mark_more before g ns (mark_new before g n m), by (is_one_number (over before n) (Some g)))
  where
    by : (b : Bool) → m.next ≤ (cond b m (renew n (with_mark (Some m.next)) (draw_number m))).next
    by true = omega arith
    by false = omega arith

marks_more : (before : Whole) (gs : List ℕ) (m : Whole) → m.next ≤ (each_in_turn (mark_content before) gs m).next
marks_more before [] m = omega arith
marks_more before (g ∷ gs) m = omega (arith, marks_more before gs (mark_content before g m), mark_more before g (content m g) m)

pub pruned_few : (m : Whole) (c : Command) (k : Whole) → (before_spread m c k).next ≤ 65536 → (prune m c k).next ≤ 65536
pruned_few m c k most =
    let p = prune m c k in
    omega (arith, most, unmarks_next (all_numbers p) p, marks_more m (edited m c p) (each_in_turn unmark (all_numbers p) p))

-- The map of a command that no row refuses has the shape, where there are numbers enough.
pub shape_by_law : (b : Below) (s : Settings) (m : Whole) (c : Command) → apply b s m c ≡ apply_unlinked b s m c → first (rows b s m c) ≡ None →
    ((a : Applied) → apply b s m c ≡ Ok a → Shape a.map × Unlinked a.map) → (prune m c (own b s m c)).next ≤ 65536 → Shape (prune m c (own b s m c))
shape_by_law b s m c same none law most =
    let p = prune m c (own b s m c) in
    let a : Applied = record { map = p; reply = reply_of m c ((own b s m c).next - m.next) } in
    (law a (same ∙ ap (λ r. unless r (finish_unlinked m c (own b s m c))) none ∙ ap (λ t. unless (refuse t (Full (p.next - 1))) (Ok a)) (le-ltb 65535 (p.next - 1) (omega (arith, most))))).0

-- A new brush in the world is right where the map without links and marks is that has it.
relist_format : (b : Bool) (f : List ℕ → List ℕ) (o : Option Node) → unwrap_or (option_map format_of_node (option_map (relist b f) o)) Standard ≡ unwrap_or (option_map format_of_node o) Standard
relist_format b f None = refl
relist_format true f (Some x) = elim x as (λ x. format_of_node (relist true f x) ≡ format_of_node x) [ World a c d e ↦ refl | _ ↦ refl ]
relist_format false f (Some x) = elim x as (λ x. format_of_node (relist false f x) ≡ format_of_node x) [ World a c d e ↦ refl | _ ↦ refl ]

parent_format : (p : ℕ) (o : Option Node) → unwrap_or (option_map format_of_node (option_map (with_parent p) o)) Standard ≡ unwrap_or (option_map format_of_node o) Standard
parent_format p None = refl
parent_format p (Some x) = elim x as (λ x. format_of_node (with_parent p x) ≡ format_of_node x) [ World a c d e ↦ refl | _ ↦ refl ]

pub new_brush_ok : (m : Whole) (fs : List Face) → Shape m → Shape (put_last 0 (Brush 0 None fs) (erase m)) → NewOk (format_of m) (Brush 0 None fs)
new_brush_ok m fs shape right = record {
  ok = subst (λ f. NodeOk f (Brush 0 None fs)) format (right.each_node m.next (Brush 0 None fs) is);
  no_link = refl;
  no_mark = refl;
}
  where
    some : m.next ≢ 0
    some s = not_none (kind_is m world 0 shape.standing.world_stands) (ap (option_map kind_of) (shape.numbers.nodes 0 (omega (arith, s))))

    is : at (put_last 0 (Brush 0 None fs) (erase m)) m.next ≡ Some (Brush 0 None fs)
    is = at-renew_same (renew 0 (relist (is_brush (draw (Brush 0 None fs) (erase m)) m.next) (λ l. l ++ m.next ∷ [])) (draw (Brush 0 None fs) (erase m))) m.next m.next (with_parent 0) refl
        ∙ ap (option_map (with_parent 0)) (at-renew_other (draw (Brush 0 None fs) (erase m)) 0 m.next (relist (is_brush (draw (Brush 0 None fs) (erase m)) m.next) (λ l. l ++ m.next ∷ [])) some ∙ at-set_same (erase m) m.next m.next (Some (Brush 0 None fs)) refl)

    format : format_of (put_last 0 (Brush 0 None fs) (erase m)) ≡ format_of m
    format = renew-keeps (λ o. unwrap_or (option_map format_of_node o) Standard) (with_parent 0) (parent_format 0) (renew 0 (relist (is_brush (draw (Brush 0 None fs) (erase m)) m.next) (λ l. l ++ m.next ∷ [])) (draw (Brush 0 None fs) (erase m))) m.next 0
        ∙ renew-keeps (λ o. unwrap_or (option_map format_of_node o) Standard) (relist (is_brush (draw (Brush 0 None fs) (erase m)) m.next) (λ l. l ++ m.next ∷ [])) (relist_format (is_brush (draw (Brush 0 None fs) (erase m)) m.next) (λ l. l ++ m.next ∷ [])) (draw (Brush 0 None fs) (erase m)) 0 0
        ∙ ap (λ o. unwrap_or (option_map format_of_node o) Standard) (at-set_other (erase m) m.next 0 (Some (Brush 0 None fs)) (λ s. some (sym s)))
        ∙ erased_format m
