-- intersect: the first brush becomes what is behind the faces of all, and the others go.
use Rattle.std.proofs.Common.{◌≡◌, ℕ, ◌≤◌, List, [], ◌∷◌, ◌++◌, true, not, refl, ap, sym, ◌∙◌, subst, arith, Some, None}
use Rattle.algebra.specs.Members.{◌∈◌, here, there}
use Rattle.map_model.specs.Faces.{Face}
use Rattle.map_model.specs.Tree.{Whole, brush, faces_at, format_of, with_faces}
use Rattle.map_model.specs.Edits.{renew, delete}
use Rattle.map_model.specs.Shape.{Shape, FacesOk}
use Rattle.map_model.specs.Below.{Below, IsRight}
use Rattle.map_model.specs.Brushes.{has_inside}
use Rattle.map_model.specs.Commands.{Command, IsGood, Settings, Intersect}
use Rattle.map_model.specs.Replies.{Apart}
use Rattle.map_model.specs.Rows.{rows, first, refuse, named, all_faces, first_apart, intersection}
use Rattle.map_model.specs.Own.{own, keep_first}
use Rattle.map_model.proofs.Members.{in_flat}
use Rattle.map_laws.specs.Unlinked.{Unlinked}
use Rattle.map_laws.proofs.Lists.{tally, tally-no_member}
use Rattle.map_laws.proofs.InTurn.{by_member}
use Rattle.map_laws.proofs.Skeleton.{kind_at}
use Rattle.map_laws.proofs.Refused.{first_none, refuse_none, nodes_fit}
use Rattle.map_laws.proofs.RowsPass.{rows_pass}
use Rattle.map_laws.proofs.TrimmedFaces.{Encloses, brush_encloses, encloses_more, trimmed_ok}
use Rattle.map_laws.proofs.MovedMaps.{less, not_again}
use Rattle.map_laws.proofs.FairMaps.{fair_of}
use Rattle.map_laws.proofs.Remaking.{Remade, in_turn, remade_then, still_ready, live_below, remade_outcome}
use Rattle.map_laws.proofs.RemakingSteps.{faces_step}
use Rattle.map_laws.proofs.Subtracting.{goes}
use Rattle.map_laws.proofs.Tests.{not_false}
use Rattle.map_laws.proofs.BrushRows.{named_brushes, brush_faces, few}
use Rattle.map_laws.proofs.Unlinking.{Outcome}

-- The first of the brushes gets right faces, and the others go.
pub keeps_first : (m : Whole) (c : Command) (faces : List Face) (n : ℕ) (ns : List ℕ) → Shape m → Unlinked m → named c ≡ n ∷ ns → ((x : ℕ) → tally x (n ∷ ns) ≤ 1) → ((q : ℕ) → q ∈ (n ∷ ns) → kind_at m q ≡ Some brush) →
    FacesOk (format_of m) faces → Outcome m c (keep_first faces (n ∷ ns) m)
keeps_first m c faces n ns shape u are once brushes ok =
    let f = format_of m in
    let fair = fair_of m shape u in
    let a = faces_step f n m faces fair ok in
    let r = remade_then a (in_turn f delete (λ fs. Unit {0}) (λ q. Unit {0}) (λ k q fair r so. goes f k q fair r.is) ns (renew n (with_faces faces) m) a.fair
    (λ q i. still_ready a (not_again q n ns once i) (record { is = brushes q (there i); faces = tt })) (λ q i. tt) (λ x. omega (arith, once x, less x n ns)))
    (λ q i. live_below m q brush fair.bound (brushes q (there i))) in
    remade_outcome m c (keep_first faces (n ∷ ns) m) shape u (subst (λ l. Remade f l m (keep_first faces (n ∷ ns) m)) (sym are) r)
    (λ q i. brushes q (subst (λ l. q ∈ l) are i))

-- The faces of all have a point inside.
no_more : (xs : List Face) → xs ++ [] ≡ xs
no_more [] = refl
no_more (x ∷ xs) = ap (λ l. x ∷ l) (no_more xs)

regroup : (xs ys zs : List Face) → (xs ++ ys) ++ zs ≡ xs ++ (ys ++ zs)
regroup [] ys zs = refl
regroup (x ∷ xs) ys zs = ap (λ l. x ∷ l) (regroup xs ys zs)

all_inside : (b : Below) (m : Whole) (so_far : List Face) (n : ℕ) (ns : List ℕ) → first_apart b m so_far (n ∷ ns) ≡ None → has_inside b (so_far ++ all_faces m (n ∷ ns)) ≡ true
all_inside b m so_far n [] e =
    ap (λ l. has_inside b (so_far ++ l)) (no_more (faces_at m n))
    ∙ not_false (has_inside b (so_far ++ faces_at m n)) (refuse_none (not (has_inside b (so_far ++ faces_at m n))) (Apart n) (first_none (refuse (not (has_inside b (so_far ++ faces_at m n))) (Apart n)) (None ∷ []) e).0)
all_inside b m so_far n (q ∷ ns) e =
    let later = first_none (first_apart b m (so_far ++ faces_at m n) (q ∷ ns)) [] (first_none (refuse (not (has_inside b (so_far ++ faces_at m n))) (Apart n)) (first_apart b m (so_far ++ faces_at m n) (q ∷ ns) ∷ []) e).1 in
    ap (has_inside b) (sym (regroup so_far (faces_at m n) (all_faces m (q ∷ ns)))) ∙ all_inside b m (so_far ++ faces_at m n) q ns later.0

pub intersects : (b : Below) (s : Settings) (m : Whole) (ns : List ℕ) → IsRight b → IsGood (Intersect ns) → Shape m → Unlinked m → first (rows b s m (Intersect ns)) ≡ None → Outcome m (Intersect ns) (own b s m (Intersect ns))
intersects b s m [] right good shape u e = absurd (omega (arith, good.counts))
intersects b s m (n ∷ ns) right good shape u e =
    let c = Intersect (n ∷ ns) in
    let f = format_of m in
    let r = rows_pass b s m c e in
    let fit = nodes_fit b s m c e in
    let brushes = named_brushes b s m c (λ q. refl) e in
    let all : Encloses f (all_faces m (n ∷ ns)) =
    encloses_more f (faces_at m n) (all_faces m ns) (brush_encloses f (faces_at m n) (brush_faces m n shape (brushes n here)))
    (λ g i. let x = in_flat (faces_at m) ns g i in (brush_faces m x.0 shape (brushes x.0 (there x.1))).each g x.2) in
    keeps_first m c (intersection b m (n ∷ ns)) n ns shape u refl (λ x. by_member x (n ∷ ns) (λ i. fit.once x i) (λ none. omega (arith, tally-no_member x (n ∷ ns) none))) brushes
    (trimmed_ok b f (all_faces m (n ∷ ns)) right all (all_inside b m [] n ns r.meets) (few n (intersection b m (n ∷ ns)) r.few_faces))
