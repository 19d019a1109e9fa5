-- Tags tell the faces apart.
use Rattle.std.proofs.Common.{◌≡◌, ◌≢◌, ℕ, zero, suc, ◌<◌, List, [], ◌∷◌, length, get_or, map, Option, sym, ap, subst, ◌∙◌, arith}
use Rattle.std.proofs.lemmas.List.{length-map}
use Rattle.algebra.specs.Members.{Every}
use Rattle.algebra.proofs.Members.{member_at}
use Rattle.half_arena.specs.declared.ids.FaceId.{FaceId}
use Rattle.half_poly.specs.declared.links.Face.{Face}
use Rattle.half_poly.specs.Places.{AreDistinct}
use Rattle.half_poly.specs.Shapes.{Tagged, no_side, side_at, sides_of, IsHalved, DistinctTags, one_more_side}
use Rattle.half_poly.proofs.Listed.{get_map}
use Rattle.half_poly.proofs.Trimmings.{kept_distinct, distinct_last}

tags_apart : (sides : List Tagged) → DistinctTags sides → (i j : ℕ) (d : Tagged) → i < j → j < length sides → (get_or sides i d).tag ≢ (get_or sides j d).tag
tags_apart [] t i j d l m = absurd (omega arith)
tags_apart (s ∷ sides) t zero zero d l m = absurd (omega arith)
tags_apart (s ∷ sides) (one_more_side apart others) zero (suc j) d l m = apart (get_or sides j d) (member_at sides j d (omega arith))
tags_apart (s ∷ sides) t (suc i) zero d l m = absurd (omega arith)
tags_apart (s ∷ sides) (one_more_side apart others) (suc i) (suc j) d l m = tags_apart sides others i j d (omega arith) (omega arith)

pub order_distinct : (Fc : ℕ → Option Face) (order read : List FaceId) → read ≡ order → DistinctTags (sides_of Fc order) → AreDistinct (map (λ (id : FaceId). id.0) read)
order_distinct Fc order read q t i j l m e =
    let o : j < length order = subst (λ n. j < n) (length-map read (λ (id : FaceId). id.0) ∙ ap length q) m in
    let a = at i (omega arith) in let b = at j o in
    tags_apart (sides_of Fc order) t i j no_side l (subst (λ n. j < n) (sym (length-map order (side_at Fc))) o)
    (ap (λ (s : Tagged). s.tag) (get_map (side_at Fc) order i (record { 0 = 0 }) no_side (omega arith)) ∙ same (get_or order i (record { 0 = 0 })) (get_or order j (record { 0 = 0 })) (sym a ∙ e ∙ b)
    ∙ ap (λ (s : Tagged). s.tag) (sym (get_map (side_at Fc) order j (record { 0 = 0 }) no_side o)))
  where
    at : (k : ℕ) → k < length order → get_or (map (λ (id : FaceId). id.0) read) k 0 ≡ (get_or order k (record { 0 = 0 })).0
    at k o = ap (λ ids. get_or (map (λ (id : FaceId). id.0) ids) k 0) q ∙ get_map (λ (id : FaceId). id.0) order k (record { 0 = 0 }) 0 o

    same : (x y : FaceId) → x.0 ≡ y.0 → (side_at Fc x).tag ≡ (side_at Fc y).tag
    same x y r = ap (λ k. (side_at Fc (record { 0 = k })).tag) r

pub tags_after : (a b now after : List Tagged) (s : Tagged) → a ≡ b → b ≡ now → IsHalved a s after → DistinctTags b → Every (λ t. ¬ (t.tag ≡ s.tag)) now → DistinctTags after
tags_after a b now after s q r h d n = kept_distinct (subst (λ l. IsHalved l s after) q h) (distinct_last b s d (subst (λ l. Every (λ t. ¬ (t.tag ≡ s.tag)) l) (sym r) n))
