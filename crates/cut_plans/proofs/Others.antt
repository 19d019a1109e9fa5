-- What a clipped brush leaves as it was: the faces of the other brushes, and the format.
use Rattle.std.proofs.Common.{◌≡◌, ◌≢◌, ℕ, suc, ◌+◌, ◌<◌, ◌≤◌, List, [], ◌∷◌, ◌++◌, length, map, Bool, true, false, cond, ◌==◌, Option, None, Some, refl, ap, sym, subst, ◌∙◌, arith, option_map, unwrap_or}
use Rattle.std.specs.Prelude.{count_by, option_to_list}
use Rattle.algebra.specs.Members.{◌∈◌, here, there}
use Rattle.exact_geom.specs.Planes.{ThreePoints}
use Rattle.map_model.specs.Faces.{Face}
use Rattle.map_model.specs.Tree.{Whole, Node, World, Layer, Group, Entity, Brush, at, up, is_brush, faces_of, faces_at, format_of, format_of_node, with_faces}
use Rattle.uv_lock.specs.declared.texture.Format.{Format}
use Rattle.uv_lock.specs.declared.texture.Format.TheVariants.{Standard}
use Rattle.map_model.specs.Edits.{each_in_turn, renew, set, relist, in_place, draw, put_at, put_after}
use Rattle.map_model.specs.Below.{Below}
use Rattle.map_model.specs.Brushes.{trimmed, reversed_plane}
use Rattle.map_model.specs.Commands.{Settings, Part, Front, Back, Both}
use Rattle.map_model.specs.Rows.{plain_face, current_material}
use Rattle.map_model.specs.Carry.{plain_tex}
use Rattle.map_model.specs.Own.{clip}
use Rattle.map_laws.proofs.Lists.{by_eq, tally, tally-head, member-tally, count-tally}
use Rattle.map_laws.proofs.Slots.{at-set_other, renew-keeps}
use Rattle.cut_plans.specs.declared.clipping.Clipped.{Clipped}
use Rattle.cut_plans.specs.Clips.{cut_by, clipped_by, put_new, put_clipped, drawn_by}

-- A word on slots. ------------------------------------------------------------------------------------------------------------------

abbrev faces_in : Option Node → List Face
faces_in o = unwrap_or (option_map faces_of o) []

abbrev format_in : Option Node → Format
format_in o = unwrap_or (option_map format_of_node o) Standard

faces-relist : (b : Bool) (f : List ℕ → List ℕ) (o : Option Node) → faces_in (option_map (relist b f) o) ≡ faces_in o
faces-relist b f None = refl
faces-relist true f (Some (World a c d e)) = refl
faces-relist true f (Some (Layer a c d e g)) = refl
faces-relist true f (Some (Group a c d e g h i)) = refl
faces-relist true f (Some (Entity a c d e g)) = refl
faces-relist true f (Some (Brush a c d)) = refl
faces-relist false f (Some (World a c d e)) = refl
faces-relist false f (Some (Layer a c d e g)) = refl
faces-relist false f (Some (Group a c d e g h i)) = refl
faces-relist false f (Some (Entity a c d e g)) = refl
faces-relist false f (Some (Brush a c d)) = refl

format-relist : (b : Bool) (f : List ℕ → List ℕ) (o : Option Node) → format_in (option_map (relist b f) o) ≡ format_in o
format-relist b f None = refl
format-relist true f (Some (World a c d e)) = refl
format-relist true f (Some (Layer a c d e g)) = refl
format-relist true f (Some (Group a c d e g h i)) = refl
format-relist true f (Some (Entity a c d e g)) = refl
format-relist true f (Some (Brush a c d)) = refl
format-relist false f (Some (World a c d e)) = refl
format-relist false f (Some (Layer a c d e g)) = refl
format-relist false f (Some (Group a c d e g h i)) = refl
format-relist false f (Some (Entity a c d e g)) = refl
format-relist false f (Some (Brush a c d)) = refl

format-with_faces : (fs : List Face) (o : Option Node) → format_in (option_map (with_faces fs) o) ≡ format_in o
format-with_faces fs None = refl
format-with_faces fs (Some (World a c d e)) = refl
format-with_faces fs (Some (Layer a c d e g)) = refl
format-with_faces fs (Some (Group a c d e g h i)) = refl
format-with_faces fs (Some (Entity a c d e g)) = refl
format-with_faces fs (Some (Brush a c d)) = refl

-- Such a word is the same after a new brush is put, but at its number.
module _ {A : Type 0} (w : Option Node → A) (same : (b : Bool) (f : List ℕ → List ℕ) (o : Option Node) → w (option_map (relist b f) o) ≡ w o) where
  put_at-keeps : (old : ℕ) (ks : List ℕ) (m : Whole) (q : ℕ) → w (at (put_at old ks m) q) ≡ w (at m q)
  put_at-keeps old ks m q = by (up m old)
    where
      by : (o : Option ℕ) → w (at (unwrap_or (option_map (λ p. renew p (relist (is_brush m old) (in_place old ks)) m) o) m) q) ≡ w (at m q)
      by None = refl
      by (Some p) = renew-keeps w (relist (is_brush m old) (in_place old ks)) (same (is_brush m old) (in_place old ks)) m p q

  put_after-keeps : (n : ℕ) (faces : List Face) (m : Whole) (q : ℕ) → q < m.next → w (at (put_after n faces m) q) ≡ w (at m q)
  put_after-keeps n faces m q lt =
      put_at-keeps n (n ∷ m.next ∷ []) (draw (Brush (unwrap_or (up m n) 0) None faces) m) q
      ∙ ap w (at-set_other m m.next q (Some (Brush (unwrap_or (up m n) 0) None faces)) (λ e. omega (arith, lt, e)))

  pub put_new-keeps : (n : ℕ) (o : Option (List Face)) (m : Whole) (q : ℕ) → q < m.next → w (at (put_new n o m) q) ≡ w (at m q)
  put_new-keeps n None m q lt = refl
  put_new-keeps n (Some faces) m q lt = put_after-keeps n faces m q lt

pub put_at-next : (old : ℕ) (ks : List ℕ) (m : Whole) → (put_at old ks m).next ≡ m.next
put_at-next old ks m = by (up m old)
  where
    by : (o : Option ℕ) → (unwrap_or (option_map (λ p. renew p (relist (is_brush m old) (in_place old ks)) m) o) m).next ≡ m.next
    by None = refl
    by (Some p) = refl

pub put_clipped-next : (c : Clipped) (m : Whole) → (put_clipped c m).next ≡ m.next + length (option_to_list c.new)
put_clipped-next c m = by c.new
  where
    by : (o : Option (List Face)) → (put_new c.id o m).next ≡ m.next + length (option_to_list o)
    by None = omega arith
    by (Some faces) = put_at-next c.id (c.id ∷ m.next ∷ []) (draw (Brush (unwrap_or (up m c.id) 0) None faces) m)

pub all_clipped-next : (cs : List Clipped) (m : Whole) → (each_in_turn put_clipped cs m).next ≡ m.next + drawn_by cs
all_clipped-next [] m = omega arith
all_clipped-next (c ∷ cs) m = all_clipped-next cs (put_clipped c m) ∙ omega (arith, put_clipped-next c m)

-- The brushes still to be clipped are as they were. --------------------------------------------------------------------------------

pub record Untouched (m now : Whole) (ns : List ℕ) : Type 0 where
  pub faces : (q : ℕ) → q ∈ ns → faces_at now q ≡ faces_at m q
  pub format : format_of now ≡ format_of m
  pub below : (q : ℕ) → q ∈ ns → q < now.next
  pub world : 0 < now.next
  pub once : (q : ℕ) → tally q ns ≤ 1

less : (a x : ℕ) (xs : List ℕ) → tally a xs ≤ tally a (x ∷ xs)
less a x xs = elim (x == a) as (λ b. tally a xs ≤ cond b (suc (tally a xs)) (tally a xs)) [ true ↦ omega arith | false ↦ omega arith ]

not_again : (a q : ℕ) (qs : List ℕ) → tally q (q ∷ qs) ≤ 1 → a ∈ qs → a ≢ q
not_again a q qs once i s = omega (arith, once, tally-head q qs, member-tally a qs i, ap (λ z. tally z qs) s)

module _ (m now : Whole) (ns : List ℕ) (c : Clipped) (u : Untouched m now (c.id ∷ ns)) where
  after : Whole
  after = put_new c.id c.new now

  faces_stay : (q : ℕ) → q ∈ ns → faces_at (put_clipped c now) q ≡ faces_at m q
  faces_stay q i =
      ap faces_in (at-set_other (put_new c.id c.new now) c.id q (option_map (with_faces c.kept) (at (put_new c.id c.new now) c.id)) (not_again q c.id ns (u.once c.id) i))
      ∙ put_new-keeps faces_in faces-relist c.id c.new now q (u.below q (there i))
      ∙ u.faces q (there i)

  format_stays : format_of (put_clipped c now) ≡ format_of m
  format_stays =
      renew-keeps format_in (with_faces c.kept) (format-with_faces c.kept) (put_new c.id c.new now) c.id 0
      ∙ put_new-keeps format_in format-relist c.id c.new now 0 u.world
      ∙ u.format

  pub next_untouched : Untouched m (put_clipped c now) ns
  next_untouched = record {
    faces = faces_stay;
    format = format_stays;
    below = λ q i. omega (arith, u.below q (there i), put_clipped-next c now);
    world = omega (arith, u.world, put_clipped-next c now);
    once = λ q. omega (arith, u.once q, less q c.id ns);
  }

-- Clipping by the map as it is and by the map before are one. -------------------------------------------------------------------------

module _ (b : Below) (s : Settings) (plane : ThreePoints) (m : Whole) where
  abbrev plain : ThreePoints → Format → Face
  plain t format = record { plane = t; material = current_material s; tex = plain_tex format t }

  clip_is : (part : Part) (n : ℕ) (now : Whole) → faces_at now n ≡ faces_at m n → format_of now ≡ format_of m → clip b s part plane n now ≡ put_clipped (clipped_by m (cut_by s m plane) part b n) now
  clip_is Back n now e f = λ i. renew n (with_faces (trimmed b (e i ++ plain plane (f i) ∷ []))) now
  clip_is Front n now e f = λ i. renew n (with_faces (trimmed b (e i ++ plain (reversed_plane plane) (f i) ∷ []))) now
  clip_is Both n now e f = λ i. renew n (with_faces (trimmed b (e i ++ plain plane (f i) ∷ []))) (put_after n (trimmed b (e i ++ plain (reversed_plane plane) (f i) ∷ [])) now)

  pub clips_are : (part : Part) (ns : List ℕ) (now : Whole) → Untouched m now ns → each_in_turn (clip b s part plane) ns now ≡ each_in_turn put_clipped (map (clipped_by m (cut_by s m plane) part b) ns) now
  clips_are part [] now u = refl
  clips_are part (n ∷ ns) now u =
      ap (each_in_turn (clip b s part plane) ns) (clip_is part n now (u.faces n here) u.format)
      ∙ clips_are part ns (put_clipped (clipped_by m (cut_by s m plane) part b n) now) (next_untouched m now ns (clipped_by m (cut_by s m plane) part b n) u)
