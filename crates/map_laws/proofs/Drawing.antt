-- Edits that draw several nodes: what nodes keep through them.
use Rattle.std.proofs.Common.{◌≡◌, ℕ, List, [], ◌∷◌, length, map, inr, refl, sym, Option, Some, None, option_map}
use Rattle.std.specs.Prelude.{unwrap_or}
use Rattle.std.specs.List.{filter_map, cons_option}
use Rattle.uv_lock.specs.declared.texture.Format.{Format}
use Rattle.algebra.specs.Members.{◌∈◌, here, there}
use Rattle.map_model.specs.Faces.{Face}
use Rattle.map_model.specs.Tree.{Whole, Node, World, Brush, at, up, is_brush, preorder, numbers_from}
use Rattle.map_model.specs.Edits.{each_in_turn, draw, renew, relist, in_place, put_at, replace_by, put_after, copy_last, renumber, renumbered, numbered_from}
use Rattle.map_model.specs.Shape.{FacesOk}
use Rattle.map_laws.specs.Placed.{Bounded, NewOk}
use Rattle.map_laws.proofs.Kept.{bare, Comes, comes_then, comes_itself, comes_by, bounded_by, renew_kept, bare-relist, new_alike, draw_comes, put_in_comes, forget_comes}

pub draws_come : (f : Format) (xs : List Node) (m : Whole) → Bounded m → ((x : Node) → x ∈ xs → NewOk f x) → Comes f m (each_in_turn draw xs m)
draws_come f [] m bound new = comes_itself f m bound
draws_come f (x ∷ xs) m bound new =
    let d = draw_comes f m x bound (new x here) in
    comes_then d (draws_come f xs (draw x m) (bounded_by d) (λ y i. new y (there i)))

put_at_comes : (f : Format) (m : Whole) (a : ℕ) (ks : List ℕ) → Bounded m → Comes f m (put_at a ks m)
put_at_comes f m a ks bound = by (up m a)
  where
    by : (o : Option ℕ) → Comes f m (unwrap_or (option_map (λ p. renew p (relist (is_brush m a) (in_place a ks)) m) o) m)
    by None = comes_itself f m bound
    by (Some p) = comes_by f m (renew p (relist (is_brush m a) (in_place a ks)) m) bound refl
        (λ q. inr (renew_kept (relist (is_brush m a) (in_place a ks)) (bare-relist (is_brush m a) (in_place a ks)) m p q))

-- New brushes.
new_brush : (f : Format) (p : ℕ) (faces : List Face) → FacesOk f faces → NewOk f (Brush p None faces)
new_brush f p faces ok = record { ok = ok; no_link = refl; no_mark = refl }

new_brushes : (f : Format) (p : ℕ) (results : List (List Face)) → ((faces : List Face) → faces ∈ results → FacesOk f faces) → (x : Node) → x ∈ map (Brush p None) results → NewOk f x
new_brushes f p [] ok x i = elim i [ ]
new_brushes f p (faces ∷ rest) ok x here = new_brush f p faces (ok faces here)
new_brushes f p (faces ∷ rest) ok x (there i) = new_brushes f p rest (λ y j. ok y (there j)) x i

pub replace_comes : (f : Format) (m : Whole) (a : ℕ) (results : List (List Face)) → Bounded m → ((faces : List Face) → faces ∈ results → FacesOk f faces) → Comes f m (replace_by a results m)
replace_comes f m a results bound ok =
    let p = unwrap_or (up m a) 0 in
    let drawn = each_in_turn draw (map (Brush p None) results) m in
    let d = draws_come f (map (Brush p None) results) m bound (new_brushes f p results ok) in
    let k = put_at_comes f drawn a (numbers_from m.next (length results)) (bounded_by d) in
    comes_then d (comes_then k (forget_comes f (put_at a (numbers_from m.next (length results)) drawn) (a ∷ []) (bounded_by k)))

pub put_after_comes : (f : Format) (m : Whole) (a : ℕ) (faces : List Face) → Bounded m → FacesOk f faces → Comes f m (put_after a faces m)
put_after_comes f m a faces bound ok =
    let x = Brush (unwrap_or (up m a) 0) None faces in
    let d = draw_comes f m x bound (new_brush f (unwrap_or (up m a) 0) faces ok) in
    comes_then d (put_at_comes f (draw x m) a (a ∷ m.next ∷ []) (bounded_by d))

-- Copies.
bare-renumber : (s : ℕ → ℕ) (x : Node) → bare (renumber s x) ≡ bare x
bare-renumber s x = elim x as (λ x. bare (renumber s x) ≡ bare x) [ World a b c d ↦ refl | _ ↦ refl ]

one_copy : (f : Format) (g : Node → Node) (s : ℕ → ℕ) (o : Option Node) (rest : List Node) → ((x : Node) → o ≡ Some x → NewOk f (g x)) → ((y : Node) → y ∈ map (λ x. renumber s (g x)) rest → NewOk f y) →
    (y : Node) → y ∈ map (λ x. renumber s (g x)) (cons_option o rest) → NewOk f y
one_copy f g s None rest own others y i = others y i
one_copy f g s (Some x) rest own others y here = new_alike f (g x) (renumber s (g x)) (sym (bare-renumber s (g x))) (own x refl)
one_copy f g s (Some x) rest own others y (there i) = others y i

new_copies : (f : Format) (m : Whole) (g : Node → Node) (s : ℕ → ℕ) (ns : List ℕ) → ((q : ℕ) (x : Node) → q ∈ ns → at m q ≡ Some x → NewOk f (g x)) →
    (y : Node) → y ∈ map (λ x. renumber s (g x)) (filter_map (at m) ns) → NewOk f y
new_copies f m g s [] new y i = elim i [ ]
new_copies f m g s (n ∷ ns) new y i = one_copy f g s (at m n) (filter_map (at m) ns) (λ x e. new n x here e) (new_copies f m g s ns (λ q x j e. new q x (there j) e)) y i

pub copy_comes : (f : Format) (m : Whole) (p : ℕ) (g : Node → Node) (n : ℕ) → Bounded m → ((q : ℕ) (x : Node) → q ∈ preorder m n → at m q ≡ Some x → NewOk f (g x)) → Comes f m (copy_last p g n m)
copy_comes f m p g n bound new =
    let ns = preorder m n in
    let copied = map (λ x. renumber (renumbered (numbered_from m.next ns)) (g x)) (filter_map (at m) ns) in
    let d = draws_come f copied m bound (new_copies f m g (renumbered (numbered_from m.next ns)) ns new) in
    comes_then d (put_in_comes f (each_in_turn draw copied m) p m.next (bounded_by d))
