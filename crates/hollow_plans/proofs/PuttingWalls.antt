-- Walls that are put in place one box after another.
use Rattle.std.proofs.Common.{◌≡◌, ℕ, suc, ◌+◌, ◌<◌, ◌≤◌, List, [], ◌∷◌, length, map, drop, get_or, Option, None, Some, refl, ap, sym, subst, ◌∙◌, arith, drop-cons, add-one}
use Rattle.std.specs.Prelude.{option_map, unwrap_or}
use Rattle.std.proofs.lemmas.List.{drop_all, length-map}
use Rattle.map_model.specs.Faces.{Face}
use Rattle.map_model.specs.Tree.{Whole, Brush, up, is_brush, numbers_from}
use Rattle.map_model.specs.Edits.{each_in_turn, draw, put_at, renew, relist, in_place, replace_by}
use Rattle.map_laws.proofs.Replacing.{next-drawn}
use Rattle.map_laws.proofs.Slots.{next-forget}
use Rattle.hollow_plans.specs.declared.walls.Hollowed.{Hollowed}
use Rattle.hollow_plans.specs.Walls.{put_walls, wall_count}

put_at-next : (old : ℕ) (ks : List ℕ) (m : Whole) → (put_at old ks m).next ≡ m.next
put_at-next old ks m = by (up m old)
  where
    by : (o : Option ℕ) → (unwrap_or (option_map (λ p. renew p (relist (is_brush m old) (in_place old ks)) m) o) m).next ≡ m.next
    by None = refl
    by (Some p) = refl

replace_by-next : (n : ℕ) (results : List (List Face)) (m : Whole) → (replace_by n results m).next ≡ m.next + length results
replace_by-next n results m =
    let nodes = map (Brush (unwrap_or (up m n) 0) None) results in
    let drawn = each_in_turn draw nodes m in
    let ks = numbers_from m.next (length results) in
    next-forget (n ∷ []) (put_at n ks drawn) ∙ put_at-next n ks drawn ∙ next-drawn nodes m ∙ ap (λ k. m.next + k) (length-map results (Brush (unwrap_or (up m n) 0) None))

pub all_put-next : (list : List Hollowed) (m : Whole) → (each_in_turn put_walls list m).next ≡ m.next + wall_count list
all_put-next [] m = omega arith
all_put-next (h ∷ list) m = all_put-next list (put_walls h m) ∙ omega (arith, replace_by-next h.id h.walls m)

-- The first k are in place, and there are numbers for the others.
pub record Placing (list : List Hollowed) (k : ℕ) (start now : Whole) : Type 0 where
  pub rest : each_in_turn put_walls (drop k list) now ≡ each_in_turn put_walls list start
  pub room : now.next + wall_count (drop k list) ≤ 65536

module _ (list : List Hollowed) (k : ℕ) (start now : Whole) (h : Hollowed) (lt : k < length list) (is : h ≡ get_or list k h) (p : Placing list k start now) where
  front : drop k list ≡ h ∷ drop (suc k) list
  front = drop-cons list k h lt ∙ ap (λ x. x ∷ drop (suc k) list) (sym is)

  pub room_for : now.next + length h.walls ≤ 65536
  room_for = omega (arith, p.room, ap wall_count front)

  next : (new : Whole) → new ≡ put_walls h now → Placing list (suc k) start new
  next new e = record {
    rest = ap (each_in_turn put_walls (drop (suc k) list)) e ∙ sym (ap (λ l. each_in_turn put_walls l now) front) ∙ p.rest;
    room = omega (arith, p.room, ap wall_count front, replace_by-next h.id h.walls now, ap (λ (w : Whole). w.next) e);
  }

  pub placed_one : (new : Whole) → new ≡ put_walls h now → Placing list (k + 1) start new
  placed_one new e = subst (λ j. Placing list j start new) (sym (add-one k)) (next new e)

pub placed_all : (list : List Hollowed) (k : ℕ) (start now : Whole) → length list ≤ k → Placing list k start now → now ≡ each_in_turn put_walls list start
placed_all list k start now le p = sym (ap (λ l. each_in_turn put_walls l now) (drop_all k list le)) ∙ p.rest

-- So many walls are counted, and the others are still to be counted.
pub counted_more : (list : List Hollowed) (i count : ℕ) (h : Hollowed) → i < length list → h ≡ get_or list i h → count + wall_count (drop i list) ≡ wall_count list → (count + length h.walls) + wall_count (drop (i + 1) list) ≡ wall_count list
counted_more list i count h lt is e =
    let front = drop-cons list i h lt ∙ ap (λ x. x ∷ drop (suc i) list) (sym is) in
    omega (arith, e, ap wall_count front, ap (λ k. wall_count (drop k list)) (add-one i))

pub counted_fits : (list : List Hollowed) (i count : ℕ) (h : Hollowed) → i < length list → h ≡ get_or list i h → count + wall_count (drop i list) ≡ wall_count list → wall_count list < 65536 → count + length h.walls < 65536
counted_fits list i count h lt is e few =
    let front = drop-cons list i h lt ∙ ap (λ x. x ∷ drop (suc i) list) (sym is) in
    omega (arith, e, few, ap wall_count front)

pub counted_all : (list : List Hollowed) (i count : ℕ) → length list ≤ i → count + wall_count (drop i list) ≡ wall_count list → count ≡ wall_count list
counted_all list i count le e = omega (arith, e, ap wall_count (drop_all i list le))
