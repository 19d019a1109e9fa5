-- The first brush on a ray, found by going through the numbers.
use Rattle.std.proofs.Common.{◌≡◌, ℕ, zero, suc, ◌+◌, ◌<◌, Bool, true, false, cond, List, [], ◌∷◌, ◌++◌, Option, Some, None, option_map, ℤ, ◌*ℤ◌, ◌^◌, unsigned_abs, to_z, of_z, refl, ap, sym, subst, ◌∙◌, arith, append-nil, true≢false, ◌&&◌}
use Rattle.std.specs.Prelude.{IsTrue, filter, flat_map, int_lt, option_and_then, unwrap_or}
use Rattle.std.specs.Bool.{Decides}
use Rattle.std.specs.Int.{w128}
use Rattle.std.proofs.lemmas.Int.{to_z-of_z, fits_signed_from_abs}
use Rattle.std.specs.Ordering.{int_eq}
use Rattle.std.proofs.lemmas.Bool.{and_parts}
use Rattle.std.proofs.lemmas.Bool.Decides.{Decides-int_eq}
use Rattle.std.proofs.lemmas.Grind.{flat_map-append}
use Rattle.std.proofs.lemmas.List.Elements.{filter-append}
use Rattle.algebra.specs.Space.{Vector}
use Rattle.exact_geom.specs.declared.point.Point.{Point}
use Rattle.exact_geom.specs.Planes.{vector, is_in_range}
use Rattle.fixed_num.specs.declared.fraction.Frac.{Frac}
use Rattle.ray_pick.specs.declared.picking.Hit.{Hit}
use Rattle.ray_pick.specs.Rays.{Fraction as Share, point_at, IsEarlier, IsRatio}
use Rattle.ray_pick.specs.Hits.{IsHit}
use Rattle.ray_laws.specs.Laws.{of_share, first_face}
use Rattle.ray_laws.proofs.Reaching.{reach_is}
use Rattle.ray_laws.proofs.FirstFace.{face_is}
use Rattle.cmd_text.specs.Kept.{IsPoint}
use Rattle.map_model.specs.Faces.{Face}
use Rattle.map_model.specs.Carry.{Fraction}
use Rattle.map_model.specs.Tree.{Whole, Node, World, Layer, Group, Entity, Brush, at, has_kind, brush, is_brush, faces_of, numbers_from, all_brushes}
use Rattle.map_model.specs.Shape.{half_spaces}
use Rattle.map_model.specs.Rays.{reach}
use Rattle.map_model.specs.Brushes.{is_same_point}
use Rattle.map_model.specs.Commands.{point_in}
use Rattle.map_model.specs.Replies.{Reply, No, NoRay, NoHit, kept}
use Rattle.map_model.specs.Machine.{Short, RayHit, hit_of, nearest_from, face_on, pick_reply, pick_answer, only}
use Rattle.map_model.proofs.KeptFractions.{kept_law}
use Rattle.map_model.proofs.Members.{decides_less}
use Rattle.map_laws.proofs.BoxCommand.{near}
use Rattle.map_laws.proofs.Clipping.{in_range}
use Rattle.tree_session.specs.declared.picking.Met.{Met}
use Rattle.tree_session.specs.Words.{AnswersRay}
use Rattle.tree_session.specs.Picks.{faces_of_brush, brush_at, hits_at, hits_below, nearest, ray_hit, hits_of, ray_hit_of, IsHitAt, IsNearest, earlier_of, earliest, hit_reply}

pub point_in_range : (p : List ℤ) (q : Point) → q ≡ point_in p → IsPoint p → IsTrue (is_in_range q)
point_in_range p q e h = ap is_in_range e ∙ in_range (point_in p) (near p h)

-- Points that are one.
same_parts : (p q : Point) → is_same_point p q ≡ true → p ≡ q
same_parts p q e =
    let x = and_parts (int_eq p.x q.x) (int_eq p.y q.y && int_eq p.z q.z) e in
    let y = and_parts (int_eq p.y q.y) (int_eq p.z q.z) x.1 in
    λ i. record { x = (Decides-int_eq p.x q.x).0 x.0 i; y = (Decides-int_eq p.y q.y).0 y.0 i; z = (Decides-int_eq p.z q.z).0 y.1 i }

one_same : (p : Point) → is_same_point p p ≡ true
one_same p = λ i. (Decides-int_eq p.x p.x).1 refl i && ((Decides-int_eq p.y p.y).1 refl i && (Decides-int_eq p.z p.z).1 refl i)

pub same_point : (p q : Point) → p ≡ q → is_same_point p q ≡ true
same_point p q e = ap (λ z. is_same_point p z) (sym e) ∙ one_same p

pub not_same_point : (p q : Point) → (p ≡ q → ⊥) → is_same_point p q ≡ false
not_same_point p q ne = by (is_same_point p q) refl
  where
    by : (t : Bool) → is_same_point p q ≡ t → t ≡ false
    by true e = absurd (ne (same_parts p q e))
    by false e = refl

-- The brush of a number. ------------------------------------------------------------------------------------------------------------------

brush_by : (o : Option Node) (fs : List Face) → option_and_then faces_of_brush o ≡ Some fs → (unwrap_or (option_map (has_kind brush) o) false ≡ true) × (unwrap_or (option_map faces_of o) [] ≡ fs)
brush_by None fs e = absurd (cc)
brush_by (Some (World format props brushes others)) fs e = absurd (cc)
brush_by (Some (Layer name frozen props brushes others)) fs e = absurd (cc)
brush_by (Some (Group parent mark name link props brushes others)) fs e = absurd (cc)
brush_by (Some (Entity parent mark props protected brushes)) fs e = absurd (cc)
brush_by (Some (Brush parent mark faces)) fs e = (refl, ap (λ o. unwrap_or o []) e)

no_brush_by : (o : Option Node) → option_and_then faces_of_brush o ≡ None → unwrap_or (option_map (has_kind brush) o) false ≡ false
no_brush_by None e = refl
no_brush_by (Some (World format props brushes others)) e = refl
no_brush_by (Some (Layer name frozen props brushes others)) e = refl
no_brush_by (Some (Group parent mark name link props brushes others)) e = refl
no_brush_by (Some (Entity parent mark props protected brushes)) e = refl
no_brush_by (Some (Brush parent mark faces)) e = absurd (cc)

module _ (m : Whole) (a b : Vector) (n : ℕ) where
  abbrev hits_by : Option Fraction → List RayHit
  hits_by o = elim o [ None ↦ [] | Some t ↦ record { node = n; at = t } ∷ [] ]

  listed : (hit : Option Hit) → hits_by (option_map (λ h. of_share h.at) hit) ≡ hits_of n hit
  listed None = refl
  listed (Some h) = refl

  pub met_brush : (fs : List Face) (hit : Option Hit) → brush_at m n ≡ Some fs → IsHit (half_spaces fs) a b hit → IsHitAt m a b n hit
  met_brush fs hit e h =
      let k = brush_by (at m n) fs e in
      record {
        hits =
            ap (λ t. cond t (hit_of m a b n) []) k.0 ∙ ap (λ gs. hits_by (reach (half_spaces gs) a b)) k.1
            ∙ ap hits_by (reach_is (half_spaces fs) a b hit h) ∙ listed hit;
        face = λ g is.
            let its = subst (IsHit (half_spaces fs) a b) is h in
            subst (λ gs. first_face gs (point_at a b g.at) ≡ g.face) (sym k.1) (face_is fs (point_at a b g.at) g.face its.face);
      }

  pub met_none : brush_at m n ≡ None → IsHitAt m a b n None
  met_none e = record { hits = ap (λ t. cond t (hit_of m a b n) []) (no_brush_by (at m n) e); face = λ h is. absurd (cc) }

-- Going through the numbers. ------------------------------------------------------------------------------------------------------------------

one_number_more : (k n : ℕ) → numbers_from k (suc n) ≡ numbers_from k n ++ (k + n) ∷ []
one_number_more k zero = let z : k ≡ k + 0 = omega arith in ap (λ j. j ∷ []) z
one_number_more k (suc n) =
    let z : (k + 1) + n ≡ k + suc n = omega arith in
    ap (λ l. k ∷ l) (one_number_more (k + 1) n ∙ ap (λ j. numbers_from (k + 1) n ++ j ∷ []) z)

numbers_more : (k : ℕ) → numbers_from 0 (k + 1) ≡ numbers_from 0 k ++ k ∷ []
numbers_more k =
    let next : k + 1 ≡ suc k = omega arith in
    let none : 0 + k ≡ k = omega arith in
    ap (numbers_from 0) next ∙ one_number_more 0 k ∙ ap (λ j. numbers_from 0 k ++ j ∷ []) none

kept_one : {A : Type 0} (t : Bool) (f : ℕ → List A) (n : ℕ) → flat_map f (cond t (n ∷ []) []) ≡ cond t (f n) []
kept_one true f n = append-nil (f n)
kept_one false f n = refl

hits_more : (m : Whole) (a b : Vector) (k : ℕ) → hits_below m a b (k + 1) ≡ hits_below m a b k ++ hits_at m a b k
hits_more m a b k =
    ap (λ ns. flat_map (hit_of m a b) (filter (is_brush m) ns)) (numbers_more k)
    ∙ ap (flat_map (hit_of m a b)) (filter-append (is_brush m) (numbers_from 0 k) (k ∷ []))
    ∙ flat_map-append (hit_of m a b) (filter (is_brush m) (numbers_from 0 k)) (filter (is_brush m) (k ∷ []))
    ∙ ap (λ l. hits_below m a b k ++ l) (kept_one (is_brush m k) (hit_of m a b) k)

-- One more hit is the nearest where it is nearer than the nearest of the others.
abbrev nearer : RayHit → RayHit → RayHit
nearer h k = cond (int_lt (k.at.num *ℤ h.at.den) (h.at.num *ℤ k.at.den)) k h

nearest_more : (h : RayHit) (hits : List RayHit) (k : RayHit) → nearest_from h (hits ++ k ∷ []) ≡ nearer (nearest_from h hits) k
nearest_more h [] k = refl
nearest_more h (g ∷ hits) k = nearest_more (nearer h g) hits k

abbrev nearer_of : Option RayHit → RayHit → RayHit
nearer_of None k = k
nearer_of (Some h) k = nearer h k

with_one : (hits : List RayHit) (k : RayHit) → nearest (hits ++ k ∷ []) ≡ Some (nearer_of (nearest hits) k)
with_one [] k = refl
with_one (h ∷ hits) k = ap Some (nearest_more h hits k)

choice_kept : (t : Bool) (met next : Met) → cond t (ray_hit_of next) (ray_hit_of met) ≡ ray_hit_of (cond t next met)
choice_kept true met next = refl
choice_kept false met next = refl

-- What holds of both holds of the one that is chosen.
chosen_is : (P : Met → Type 0) (t : Bool) (met next chosen : Met) → P met → P next → Some (cond t next met) ≡ Some chosen → P chosen
chosen_is P true met next chosen p q e = let same : next ≡ chosen = cc in subst P same q
chosen_is P false met next chosen p q e = let same : met ≡ chosen = cc in subst P same p

module _ (m : Whole) (a b : Vector) where
  abbrev next_met : ℕ → Hit → Met
  next_met k h = record { node = k; hit = h }

  abbrev HasFace : Met → Type 0
  HasFace met = face_on m a b (ray_hit_of met) ≡ met.hit.face

  pub begins : IsNearest m a b 0 None
  begins = record { hit = refl; face = λ met is. absurd (cc) }

  pub one_more : (k : ℕ) (best : Option Met) (hit : Option Hit) → IsNearest m a b k best → IsHitAt m a b k hit → IsNearest m a b (k + 1) (earliest best k hit)
  one_more k best None old now = record {
    hit = ap nearest (hits_more m a b k ∙ ap (λ l. hits_below m a b k ++ l) now.hits ∙ append-nil (hits_below m a b k)) ∙ old.hit;
    face = old.face;
  }
  one_more k None (Some h) old now = record {
    hit =
        ap nearest (hits_more m a b k ∙ ap (λ l. hits_below m a b k ++ l) now.hits) ∙ with_one (hits_below m a b k) (ray_hit k h)
        ∙ ap (λ o. Some (nearer_of o (ray_hit k h))) old.hit;
    face = λ met is. let same : next_met k h ≡ met = cc in subst HasFace same (now.face h refl);
  }
  one_more k (Some met) (Some h) old now =
      let next = next_met k h in
      let t = int_lt (h.at.num *ℤ met.hit.at.den) (met.hit.at.num *ℤ h.at.den) in
      record {
        hit =
            ap nearest (hits_more m a b k ∙ ap (λ l. hits_below m a b k ++ l) now.hits) ∙ with_one (hits_below m a b k) (ray_hit k h)
            ∙ ap (λ o. Some (nearer_of o (ray_hit k h))) old.hit ∙ ap Some (choice_kept t met next);
        face = λ chosen is. chosen_is HasFace t met next chosen (old.face met refl) (now.face h refl) is;
      }

-- The test on two hits. ------------------------------------------------------------------------------------------------------------------------

same_test : (r : Bool) (t u : Share) → Decides r (IsEarlier t u) → int_lt (t.num *ℤ u.den) (u.num *ℤ t.den) ≡ r
same_test true t u d = (decides_less (t.num *ℤ u.den) (u.num *ℤ t.den)).1 (d.0 refl)
same_test false t u d = by (int_lt (t.num *ℤ u.den) (u.num *ℤ t.den)) refl
  where
    by : (s : Bool) → int_lt (t.num *ℤ u.den) (u.num *ℤ t.den) ≡ s → s ≡ false
    by true e = absurd (true≢false (sym (d.1 ((decides_less (t.num *ℤ u.den) (u.num *ℤ t.den)).0 e))))
    by false e = refl

pub next_is_earlier : (r : Bool) (met next : Met) → Decides r (IsEarlier next.hit.at met.hit.at) → r ≡ true → Some next ≡ Some (earlier_of met next)
next_is_earlier r met next d e = ap (λ t. Some (cond t next met)) (sym (same_test r next.hit.at met.hit.at d ∙ e))

pub next_is_not : (r : Bool) (met next : Met) → Decides r (IsEarlier next.hit.at met.hit.at) → r ≡ false → Some met ≡ Some (earlier_of met next)
next_is_not r met next d e = ap (λ t. Some (cond t next met)) (sym (same_test r next.hit.at met.hit.at d ∙ e))

-- The reply. -------------------------------------------------------------------------------------------------------------------------------------

replied : (m : Whole) (a b : Vector) (hits : List RayHit) (best : Option Met) → nearest hits ≡ option_map ray_hit_of best → ((met : Met) → best ≡ Some met → face_on m a b (ray_hit_of met) ≡ met.hit.face) →
    pick_reply m a b hits ≡ elim best [ None ↦ NoHit | Some met ↦ hit_reply met ]
replied m a b [] None e face = refl
replied m a b [] (Some met) e face = absurd (cc)
replied m a b (h ∷ hits) None e face = absurd (cc)
replied m a b (h ∷ hits) (Some met) e face =
    let same : nearest_from h hits ≡ ray_hit_of met = cc in
    ap (λ k. Reply.Hit k.node (face_on m a b k) (kept k.at)) same ∙ ap (λ f. Reply.Hit met.node f (kept (of_share met.hit.at))) (face met refl)

abbrev wide : ℤ → ℤ
wide x = to_z w128 (of_z w128 x)

wide_is : (x : ℤ) → unsigned_abs x < 2 ^ 42 → wide x ≡ x
wide_is x h = to_z-of_z w128 x (fits_signed_from_abs w128 x (omega arith))

pub kept_is : (f : Frac) (t : Share) (x y : ℤ) → x ≡ t.num → y ≡ t.den → IsRatio t → f.num ≡ wide x → f.den ≡ wide y → f ≡ kept (of_share t)
kept_is f t x y num den ratio p q =
    let same_num = p ∙ ap wide num ∙ wide_is t.num ratio.num_size in
    let same_den = q ∙ ap wide den ∙ wide_is t.den ratio.den_size in
    sym (kept_law f) ∙ ap kept (λ i. record { num = same_num i; den = same_den i })

module _ (m : Whole) (from to : List ℤ) where
  abbrev reply_by : Bool → Reply
  reply_by t = cond t (No NoRay) (pick_reply m (vector (point_in from)) (vector (point_in to)) (flat_map (hit_of m (vector (point_in from)) (vector (point_in to))) (all_brushes m)))

  answers_by : (t : Bool) (reply : Reply) → is_same_point (point_in from) (point_in to) ≡ t → reply_by t ≡ reply → AnswersRay m from to reply
  answers_by t reply e is s now b right =
      ap (λ k. only s (pick_answer k (point_in from) (point_in to))) now ∙ ap (λ u. only s (Short (reply_by u))) e ∙ ap (λ r. only s (Short r)) is

  pub refused_ray : is_same_point (point_in from) (point_in to) ≡ true → AnswersRay m from to (No NoRay)
  refused_ray e = answers_by true (No NoRay) e refl

  pub answered_ray : (best : Option Met) (p q : Point) → p ≡ point_in from → q ≡ point_in to → is_same_point (point_in from) (point_in to) ≡ false →
      IsNearest m (vector p) (vector q) m.next best → AnswersRay m from to (elim best [ None ↦ NoHit | Some met ↦ hit_reply met ])
  answered_ray best p q is_from is_to e nearest =
      let its = subst (λ z. IsNearest m (vector z) (vector (point_in to)) m.next best) is_from (subst (λ z. IsNearest m (vector p) (vector z) m.next best) is_to nearest) in
      answers_by false (elim best [ None ↦ NoHit | Some met ↦ hit_reply met ]) e
      (replied m (vector (point_in from)) (vector (point_in to)) (hits_below m (vector (point_in from)) (vector (point_in to)) m.next) best its.hit its.face)
