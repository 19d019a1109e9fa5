-- The motion from one member of a set to another is a signed permutation, as those of the members are.
use Rattle.std.proofs.Common.{◌≡◌, ℕ, true, ◌&&◌, ◌∙◌, subst, refl, Option, Some, None, option_map, []}
use Rattle.std.specs.Prelude.{IsTrue, unwrap_or, slice_index_or}
use Rattle.std.proofs.lemmas.Bool.{and_parts, and_from}
use Rattle.algebra.specs.Space.{dot}
use Rattle.orient48.specs.Motions.{Matrix, product, transposed, is_unit, is_signed_permutation, is_kept_motion, stay}
use Rattle.orient48.proofs.Numbers.{signed, number_of_below, number_of_is}
use Rattle.orient48.proofs.Entries.{are_products, products, product_below, product_matrix, number_of}
use Rattle.map_model.specs.Tree.{Whole, Node, World, Layer, Group, Entity, Brush, Link, at, link_of}
use Rattle.map_model.specs.Shape.{EachNode}
use Rattle.map_model.specs.Links.{motion_at, leads}

table_fits : are_products products ≡ true
unfolding dot
table_fits = refl

pub signed_product : (a b : Matrix) → is_signed_permutation a ≡ true → is_signed_permutation b ≡ true → is_signed_permutation (product a b) ≡ true
signed_product a b p q =
    subst (λ m. is_signed_permutation m ≡ true)
    (product_matrix products table_fits (number_of a) (number_of b) 0 [] (number_of_below a p) (number_of_below b q) ∙ (λ i. product (number_of_is a p i) (number_of_is b q i)))
    (signed (slice_index_or (slice_index_or products (number_of a) []) (number_of b) 0)
    (product_below products table_fits (number_of a) (number_of b) 0 [] (number_of_below a p) (number_of_below b q)))

pub signed_back : (m : Matrix) → is_signed_permutation m ≡ true → is_signed_permutation (transposed m) ≡ true
signed_back m p =
    let c = transposed m in
    let k = and_parts (is_unit m.x && (is_unit m.y && is_unit m.z)) (is_unit c.x && (is_unit c.y && is_unit c.z)) p in
    and_from (is_unit c.x && (is_unit c.y && is_unit c.z)) (is_unit m.x && (is_unit m.y && is_unit m.z)) k.1 k.0

link_signed : (l : Option Link) → (elim l as (λ l. Type 0) [ None ↦ Unit {0} | Some l ↦ IsTrue (is_kept_motion l.motion) ]) → is_signed_permutation (unwrap_or (option_map (λ l. l.motion) l) stay).matrix ≡ true
link_signed None h = refl
link_signed (Some l) h = (and_parts _ _ h).0

pub signed_at : (m : Whole) → EachNode m → (p : ℕ) → is_signed_permutation (motion_at m p).matrix ≡ true
signed_at m each p = by (at m p) refl
  where
    by : (o : Option Node) → at m p ≡ o → is_signed_permutation (unwrap_or (option_map (λ l. l.motion) (unwrap_or (option_map link_of o) None)) stay).matrix ≡ true
    by None e = refl
    by (Some (World format props brushes others)) e = refl
    by (Some (Layer name frozen props brushes others)) e = refl
    by (Some (Group parent mark name link props brushes others)) e = link_signed link (each p (Group parent mark name link props brushes others) e).1
    by (Some (Entity parent mark props protected brushes)) e = refl
    by (Some (Brush parent mark faces)) e = refl

pub leads_signed : (m : Whole) → EachNode m → (g h : ℕ) → is_signed_permutation (leads m g h).matrix ≡ true
leads_signed m each g h = signed_product (motion_at m h).matrix (transposed (motion_at m g).matrix) (signed_at m each h) (signed_back (motion_at m g).matrix (signed_at m each g))
