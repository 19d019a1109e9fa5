-- What comes of `hull`.
use Rattle.std.proofs.Common.{◌≡◌, ℕ, suc, ◌+◌, ◌-◌, ◌<◌, ◌≤◌, List, [], ◌∷◌, length, map, not, Option, None, Some, Result, Ok, Err, refl, ap, sym, subst, ◌∙◌, arith, ◌^◌, IsTrue, ℤ}
use Rattle.std.specs.Prelude.{nat_lt, IsErrAnd}
use Rattle.std.specs.List.{AllByRecursion, list_any}
use Rattle.std.proofs.lemmas.List.{length-map}
use Rattle.solid_brush.specs.declared.side.Side.{Side}
use Rattle.exact_geom.specs.declared.point.Point.{Point}
use Rattle.exact_geom.specs.Planes.{ThreePoints, is_in_range}
use Rattle.algebra.specs.Members.{here, there, Every}
use Rattle.cmd_text.specs.Kept.{IsPoint}
use Rattle.map_laws.proofs.BoxCommand.{near}
use Rattle.map_laws.proofs.Clipping.{in_range}
use Rattle.map_nodes.specs.Seen.{sides_of, sides_from}
use Rattle.map_model.specs.Faces.{Face}
use Rattle.map_model.specs.Tree.{Whole, Brush}
use Rattle.map_model.specs.Edits.{swap, put_last}
use Rattle.map_model.specs.Below.{Below, IsRight}
use Rattle.map_model.specs.Brushes.{distinct_points, spans_space, facets, is_outside_world}
use Rattle.map_model.specs.Commands.{Settings, Hull, IsGood, point_in, points_in}
use Rattle.map_model.specs.Promises.{Plans}
use Rattle.map_model.specs.Replies.{Refusal, Made, Full, TooManyPoints, NoVolume, TooManyFaces, OutOfWorld}
use Rattle.map_model.specs.Rows.{first, refuse, hull_faces, plain_face}
use Rattle.map_laws.specs.Reshaping.{reshaping_rows}
use Rattle.map_laws.specs.BoxCommand.{KeepsMaterial}
use Rattle.tree_node.specs.Held.{IsMap}
use Rattle.tree_ops.specs.Faults.{RefusesRightly}
use Rattle.tree_ops.specs.declared.fault.OpFault.{OpFault}
use Rattle.tree_ops.specs.declared.fault.OpFault.TheVariants.{No, Memory}
use Rattle.tree_ops.specs.declared.planned.Planned.{Planned}
use Rattle.tree_ops.proofs.Outcomes.{err_is}
use Rattle.brush_plans.specs.NewBrush.{Puts, IsPut}
use Rattle.cut_plans.specs.Ending.{Makes, Ends}
use Rattle.cut_plans.proofs.Laws.{some_number}
use Rattle.cut_plans.proofs.Outcomes as outcome
use Rattle.hull_plans.specs.Hulls.{sides_on, facets_of, hull_rows, IsHullAt}
use Rattle.hull_plans.specs.Hulled.{HullSays, IsHulled}

-- Plain faces on planes have the planes' sides.
pub sides_are : (s : Settings) (m : Whole) (k : ℕ) (planes : List ThreePoints) → sides_from k (map (plain_face s m) planes) ≡ sides_on k planes
sides_are s m k [] = refl
sides_are s m k (plane ∷ planes) = ap (λ l. record { plane = plane; tag = k } ∷ l) (sides_are s m (suc k) planes)

pub planes_are : (k : ℕ) (planes : List ThreePoints) → map (λ (side : Side). side.plane) (sides_on k planes) ≡ planes
planes_are k [] = refl
planes_are k (plane ∷ planes) = ap (λ l. plane ∷ l) (planes_are (suc k) planes)

-- Points of a line are in range, and few.
pub in_range_each : (points : List (List ℤ)) → AllByRecursion IsPoint points → Every (λ p. IsTrue (is_in_range p)) (points_in points)
in_range_each [] good p i = elim i [ ]
in_range_each (x ∷ points) good p here = in_range (point_in x) (near x good.0)
in_range_each (x ∷ points) good p (there i) = in_range_each points good.1 p i

pub few_corners : (points : List (List ℤ)) → length points < 4096 → length (points_in points) < 2 ^ 32
few_corners points lt = let e = length-map points point_in in omega (arith, e, lt)

module _ (s : Settings) (m : Whole) (points : List (List ℤ)) where
  -- The rows on its points are those of the command.
  says : (r : Option Refusal) → first (hull_rows 0 (points_in points)) ≡ r → HullSays s m points r
  says r e b =
      let ps = points_in points in
      let planes = facets_of ps in
      ap (λ k. first (refuse (nat_lt 512 (length (distinct_points ps))) (TooManyPoints (length (distinct_points ps))) ∷ refuse (not (spans_space (distinct_points ps))) (NoVolume 0)
      ∷ refuse (nat_lt 128 k) (TooManyFaces 0 k) ∷ refuse (list_any is_outside_world ps) (OutOfWorld 0) ∷ [])) (length-map planes (plain_face s m))
      ∙ e

  pub stops : (why : OpFault) → IsHullAt 0 (points_in points) (Err why) → IsHulled s m points (Err why)
  stops (No refusal) e = says (Some refusal) e
  stops Memory e = tt

  -- A fault is handed on.
  pub handed_on : (corners : List Point) (result : Result (List Face) OpFault) (why : OpFault) → corners ≡ points_in points → IsErrAnd result (λ e. e ≡ why) → IsHullAt 0 corners (Err why) → IsHulled s m points result
  handed_on corners result why is h e = subst (IsHulled s m points) (sym (err_is result why h)) (stops why (subst (λ c. IsHullAt 0 c (Err why)) is e))

  module _ (corners : List Point) (solid : List Side) (planes : List ThreePoints) (faces : List Face) (is : corners ≡ points_in points) (hull : IsHullAt 0 corners (Ok solid))
      (planes_is : planes ≡ map (λ (side : Side). side.plane) solid) (faces_is : faces ≡ map (plain_face s m) planes) where
    on_facets : solid ≡ sides_on 0 (facets_of (points_in points))
    on_facets = hull.0 ∙ ap (λ c. sides_on 0 (facets_of c)) is

    are_plain : faces ≡ hull_faces s m (points_in points)
    are_plain = faces_is ∙ ap (map (plain_face s m)) (planes_is ∙ ap (map (λ (side : Side). side.plane)) on_facets ∙ planes_are 0 (facets_of (points_in points)))

    pub fits : solid ≡ sides_of faces
    fits = on_facets ∙ sym (sides_are s m 0 (facets_of (points_in points))) ∙ ap sides_of (sym are_plain)

    pub hulled : (body : List Face) → body ≡ faces → IsHulled s m points (Ok body)
    hulled body e = (e ∙ are_plain, says None (subst (λ c. first (hull_rows 0 c) ≡ None) is hull.1))

module _ (s : Settings) (m : Whole) (points : List (List ℤ)) (material : KeepsMaterial s) (good : IsGood (Hull points)) (map_is : IsMap m) where
  pub refuses : (fault : OpFault) → IsHulled s m points (Err fault) → RefusesRightly s m (Hull points) fault
  refuses (No refusal) says = outcome.refuses s m (Hull points) material refl tt good map_is refusal (λ b right. says b)
  refuses Memory says = tt

  module _ (body : List Face) (hulled : IsHulled s m points (Ok body)) where
    abbrev made : Whole
    made = put_last 0 (Brush 0 None body) m

    last : (m.next - 1) + 1 ≡ m.next
    last = omega (arith, some_number m map_is)

    own_is : (b : Below) → IsRight b → put_last 0 (Brush 0 None (hull_faces s m (points_in points))) m ≡ made
    own_is b right = ap (λ l. put_last 0 (Brush 0 None l) m) (sym hulled.0)

    pub refuses_late : (fault : OpFault) → IsPut m body (Err fault) → RefusesRightly s m (Hull points) fault
    refuses_late (No refusal) full =
        outcome.refuses_late s m (Hull points) material refl tt good map_is (λ b right. hulled.1 b) made 1 (Made 1 m.next) own_is refl refl (No refusal)
        (full.0 ∙ ap Full (sym last), subst (λ n. 65535 < n) (sym last) full.1)
    refuses_late Memory full = tt

    module _ (p : Planned) (puts : Puts m body p.change p.reply) where
      makes : Makes m [] made 1 (Made 1 m.next) p
      makes = record { map = puts.map; tight = puts.tight; reply_is = puts.reply_is; room = subst (λ n. n ≤ 65535) (sym last) puts.room }

      pub plans : Plans s m (Hull points) p.change p.reply
      plans = outcome.plans s m (Hull points) material refl tt good map_is (λ b right. hulled.1 b) made 1 (Made 1 m.next) own_is refl refl p makes

      pub is_map : IsMap (swap m p.change)
      is_map = outcome.is_map s m (Hull points) material refl tt good map_is (λ b right. hulled.1 b) made 1 (Made 1 m.next) own_is refl refl p makes
