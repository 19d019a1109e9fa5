-- What tells that lists and nodes are equal.
use Rattle.std.proofs.Common.{◌≡◌, ℕ, zero, suc, ◌+◌, ◌<◌, Bool, true, false, not, ◌&&◌, List, [], ◌∷◌, length, take, get_or, Option, Some, ℤ, ap, ap₂, sym, ◌∙◌, refl, arith}
use Rattle.std.specs.Bool.{Decides}
use Rattle.std.specs.List.{slice_get}
use Rattle.std.proofs.lemmas.Bool.{false≢true}
use Rattle.std.proofs.lemmas.Bool.Decides.{Decides-like, Decides-and, Decides-at, Decides-int_eq}
use Rattle.std.proofs.lemmas.Slice.Eq.{slice_eq-Decides}
use Rattle.std.specs.Ordering.{int_eq}
use lib.Pointwise.{pointwise}
use Rattle.std.proofs.lemmas.List.{take_more_same}
use Rattle.uv_lock.specs.declared.face.Face.{Face}
use Rattle.uv_lock.specs.declared.texture.StandardTex.{StandardTex}
use Rattle.uv_lock.specs.declared.texture.ValveTex.{ValveTex}
use Rattle.map_nodes.specs.declared.link.Link.{Link}
use Rattle.map_nodes.specs.declared.node.Node.{Node}
use Rattle.map_nodes.specs.declared.node.Node.TheVariants.{World, Layer, Group, Entity, Brush}
use Rattle.map_nodes.specs.Nodes.{Props, brushes_of, others_of, props_of, name_of, link_of, mark_of}

pub it_is : {P : Type 0} → P → Decides true P
it_is p = (λ h. p, λ q. refl)

pub it_is_not : {P : Type 0} → ¬ P → Decides false P
it_is_not n = (λ h. absurd (false≢true h), λ p. absurd (n p))

pub not_not : (b : Bool) → false ≡ not b → true ≡ b
not_not true e = refl
not_not false e = absurd (false≢true e)

-- an item within a list doesn't depend on what stands for one beyond it
any_default : {A : Type 0} (zs : List A) (i : ℕ) (a b : A) → i < length zs → get_or zs i a ≡ get_or zs i b
any_default [] i a b h = absurd (omega arith)
any_default (z ∷ zs) zero a b h = refl
any_default (z ∷ zs) (suc i) a b h = any_default zs i a b (omega arith)

-- one more item of two lists is the same
pub same_more : {A : Type 0} (xs ys : List A) (k : ℕ) (x y : A) → k < length xs → k < length ys → x ≡ get_or xs k x → y ≡ get_or ys k y → x ≡ y → take k xs ≡ take k ys → take (k + 1) xs ≡ take (k + 1) ys
same_more xs ys k x y lt lt2 at_x at_y e so_far = take_more_same xs ys k x lt lt2 so_far (sym at_x ∙ e ∙ at_y ∙ any_default ys k y x lt2)

pub other_item : {A : Type 0} (xs ys : List A) (k : ℕ) (x y : A) → k < length xs → x ≡ get_or xs k x → y ≡ get_or ys k y → ¬ (x ≡ y) → ¬ (xs ≡ ys)
other_item xs ys k x y lt at_x at_y ne e = ne (at_x ∙ any_default xs k x y lt ∙ ap (λ l. get_or l k y) e ∙ sym at_y)

-- lists with the same items at the same places are equal
pub same_by_places : {A : Type 0} (xs ys : List A) → length xs ≡ length ys → ((j : ℕ) → j < length xs → slice_get xs j ≡ slice_get ys j) → xs ≡ ys
same_by_places [] [] l h = refl
same_by_places [] (y ∷ ys) l h = absurd (omega (arith, l))
same_by_places (x ∷ xs) [] l h = absurd (omega (arith, l))
same_by_places (x ∷ xs) (y ∷ ys) l h = ap₂ (λ z zs. z ∷ zs) (some_same (h 0 (omega arith))) (same_by_places xs ys (omega (arith, l)) (λ j lt. h (suc j) (omega arith)))
  where
    some_same : {A : Type 0} {a b : A} → Some a ≡ Some b → a ≡ b
    some_same e = cc

pub decides_face : (f g : Face) (a b c : Bool) → Decides a (f.plane ≡ g.plane) → Decides b (f.material ≡ g.material) → Decides c (f.tex ≡ g.tex) → Decides ((a && b) && c) (f ≡ g)
decides_face f g a b c da db dc = Decides-like ((a && b) && c)
    (λ h i. record { plane = h.0.0 i; material = h.0.1 i; tex = h.1 i })
    (λ h. ((ap (λ x. x.plane) h, ap (λ x. x.material) h), ap (λ x. x.tex) h))
    (Decides-and (a && b) c (Decides-and a b da db) dc)

pub decides_standard : (f g : StandardTex) (a b c d : Bool) → Decides a (f.off ≡ g.off) → Decides b (f.rotation ≡ g.rotation) → Decides c (f.scale ≡ g.scale) → Decides d (f.surface ≡ g.surface)
    → Decides (((a && b) && c) && d) (f ≡ g)
decides_standard f g a b c d da db dc dd = Decides-like (((a && b) && c) && d)
    (λ h i. record { off = h.0.0.0 i; rotation = h.0.0.1 i; scale = h.0.1 i; surface = h.1 i })
    (λ h. (((ap (λ x. x.off) h, ap (λ x. x.rotation) h), ap (λ x. x.scale) h), ap (λ x. x.surface) h))
    (Decides-and ((a && b) && c) d (Decides-and (a && b) c (Decides-and a b da db) dc) dd)

pub decides_valve : (f g : ValveTex) (a b c d e : Bool) → Decides a (f.axis ≡ g.axis) → Decides b (f.off ≡ g.off) → Decides c (f.rotation ≡ g.rotation) → Decides d (f.scale ≡ g.scale) → Decides e (f.surface ≡ g.surface)
    → Decides ((((a && b) && c) && d) && e) (f ≡ g)
decides_valve f g a b c d e da db dc dd de = Decides-like ((((a && b) && c) && d) && e)
    (λ h i. record { axis = h.0.0.0.0 i; off = h.0.0.0.1 i; rotation = h.0.0.1 i; scale = h.0.1 i; surface = h.1 i })
    (λ h. ((((ap (λ x. x.axis) h, ap (λ x. x.off) h), ap (λ x. x.rotation) h), ap (λ x. x.scale) h), ap (λ x. x.surface) h))
    (Decides-and (((a && b) && c) && d) e (Decides-and ((a && b) && c) d (Decides-and (a && b) c (Decides-and a b da db) dc) dd) de)

-- what `==` tells of numbers, of lists of numbers, and of lists of these
pub counts_equal : (x y : ℤ) (r : Bool) → r ≡ int_eq x y → Decides r (x ≡ y)
counts_equal x y r e = Decides-at r (int_eq x y) e (Decides-int_eq x y)

pub lists_equal : (xs ys : List ℤ) → Decides (pointwise int_eq xs ys) (xs ≡ ys)
lists_equal xs ys = slice_eq-Decides Decides-int_eq xs ys (pointwise int_eq xs ys) refl

-- where the parent stands
abbrev parent_in : Node → ℕ
parent_in (World format props brushes others) = 0
parent_in (Layer name frozen props brushes others) = 0
parent_in (Group parent mark name link props brushes others) = parent
parent_in (Entity parent mark props protected brushes) = parent
parent_in (Brush parent mark faces) = parent

-- a group, by its parts
pub decides_group : (u v : ℕ) (k l : Option ℕ) (n m : List ℕ) (x y : Option Link) (p q : Props) (bs cs os ns : List ℕ) (a b c d e f g : Bool)
    → Decides a (u ≡ v) → Decides b (k ≡ l) → Decides c (n ≡ m) → Decides d (x ≡ y) → Decides e (p ≡ q) → Decides f (bs ≡ cs) → Decides g (os ≡ ns)
    → Decides ((((((a && b) && c) && d) && e) && f) && g) (Group u k n x p bs os ≡ Group v l m y q cs ns)
decides_group u v k l n m x y p q bs cs os ns a b c d e f g da db dc dd de df dg = Decides-like ((((((a && b) && c) && d) && e) && f) && g)
    (λ h i. Group (h.0.0.0.0.0.0 i) (h.0.0.0.0.0.1 i) (h.0.0.0.0.1 i) (h.0.0.0.1 i) (h.0.0.1 i) (h.0.1 i) (h.1 i))
    (λ h. ((((((ap parent_in h, ap mark_of h), ap name_of h), ap link_of h), ap props_of h), ap brushes_of h), ap others_of h))
    (Decides-and (((((a && b) && c) && d) && e) && f) g (Decides-and ((((a && b) && c) && d) && e) f (Decides-and (((a && b) && c) && d) e
    (Decides-and ((a && b) && c) d (Decides-and (a && b) c (Decides-and a b da db) dc) dd) de) df) dg)
