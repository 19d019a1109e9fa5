-- Each point on the boundary of a solid is on a face that bears.
use Rattle.std.proofs.Common.{◌≡◌, List, [], ◌∷◌, ◌∙◌, arith, ◌⊎◌, inl, inr, ⊎_elim, pos, neg_ℤ, ◌+ℤ◌, ◌*ℤ◌, ◌<ℤ◌}
use Rattle.std.proofs.lemmas.Int.{ints, by_lt_z}
use Rattle.algebra.specs.Members.{◌∈◌, here, there}
use Rattle.algebra.specs.Space.{Homogeneous, HalfSpace, dot, cross, side, mix, go, SameHalfSpace}
use Rattle.algebra.proofs.Orders.{nonneg_of_positive, positive-neg, by_sign}
use Rattle.algebra.proofs.Identities.{side-mix, side-go, dot-cross_left}
use Rattle.algebra.proofs.Vectors.{is_zero}
use Rattle.algebra.proofs.Members.{each_of_more}
use Rattle.algebra.proofs.Points.{mix-on, mix-behind_left, mix-behind_right, weight-mix, weight-go, between, between-on}
use Rattle.trim_laws.specs.Solid.{IsIn, IsInside}
use Rattle.trim_laws.specs.Trim.{Bears}
use Rattle.trim_laws.specs.Laws.{BearingFace, BearingLaw}
use Rattle.trim_laws.proofs.Steps.{small, below_le, step_flat, step_behind, step_short, square_and_1, toward_plain, neg_below}
use Rattle.trim_laws.proofs.SameHalfSpace.{same_refl, same_of_times, times_of_parallel, dot-aside}

abbrev AllBehind : List HalfSpace → Homogeneous → Type 0
AllBehind F e = (f : HalfSpace) → f ∈ F → side f e <ℤ pos 0

tail_inside : {f : HalfSpace} {F : List HalfSpace} {o : Homogeneous} → IsInside (f ∷ F) o → IsInside F o
tail_inside i = record { weight = i.weight; all = λ g m. i.all g (there m) }

tail_in : {f : HalfSpace} {F : List HalfSpace} {o : Homogeneous} → IsIn (f ∷ F) o → IsIn F o
tail_in i = record { weight = i.weight; all = λ g m. i.all g (there m) }

-- One more face, that the bearing face's point is behind, or that is the same half-space.
joins : {F : List HalfSpace} {e : Homogeneous} (f : HalfSpace) (b : BearingFace F e) → (¬ (SameHalfSpace b.face f) → side f b.bears.at <ℤ pos 0) → BearingFace (f ∷ F) e
joins {F} {e} f b h = record {
  face = b.face;
  among = there b.among;
  on = b.on;
  bears = record {
    at = b.bears.at;
    weight = b.bears.weight;
    on = b.bears.on;
    others = each_of_more (λ g. ¬ (SameHalfSpace b.face g) → side g b.bears.at <ℤ pos 0) f F h b.bears.others;
  };
}

-- The bearing face's point, moved.
abbrev moved : {F : List HalfSpace} {e : Homogeneous} (b : BearingFace F e) (q : Homogeneous) → pos 0 <ℤ q.weight → side b.face q ≡ pos 0 →
    ((g : HalfSpace) → g ∈ F → side g b.bears.at <ℤ pos 0 → side g q <ℤ pos 0) → BearingFace F e
moved b q w h k = record {
  face = b.face;
  among = b.among;
  on = b.on;
  bears = record { at = q; weight = w; on = h; others = λ g m n. k g m (b.bears.others g m n) };
}

-- The new face is behind e: the point goes towards e.
behind : {F : List HalfSpace} (f : HalfSpace) (e : Homogeneous) → IsIn F e → side f e <ℤ pos 0 → BearingFace F e → BearingFace (f ∷ F) e
behind f e i h b =
    let s = side f b.bears.at *ℤ side f b.bears.at +ℤ pos 1 in
    let t = neg_ℤ (side f e) in
    let p = square_and_1 (side f b.bears.at) in
    let q = positive-neg h in
    joins f (moved b (mix s e t b.bears.at) (weight-mix s e t b.bears.at p (nonneg_of_positive q) i.weight b.bears.weight)
    (mix-on s e t b.bears.at b.face b.on b.bears.on)
    (λ g m l. mix-behind_right s e t b.bears.at g (nonneg_of_positive p) q (i.all g m) l))
    (λ n. rw side-mix (toward_plain (side f e) (side f b.bears.at) h))

-- The new face has e on it, and no other one has.
alone : {F : List HalfSpace} (f : HalfSpace) (e : Homogeneous) → pos 0 <ℤ e.weight → side f e ≡ pos 0 → AllBehind F e → BearingFace (f ∷ F) e
alone {F} f e w h all = record {
  face = f;
  among = here;
  on = h;
  bears = record {
    at = e;
    weight = w;
    on = h;
    others = each_of_more (λ g. ¬ (SameHalfSpace f g) → side g e <ℤ pos 0) f F (λ n. absurd (n (same_refl f))) (λ g m n. all g m);
  };
}

-- The new face cuts the point off.
cuts_off : {F : List HalfSpace} (f : HalfSpace) (o e : Homogeneous) → IsInside (f ∷ F) o → side f e ≡ pos 0 → (b : BearingFace F e) → IsIn F b.bears.at →
    pos 0 <ℤ side f b.bears.at → BearingFace (f ∷ F) e
cuts_off {F} f o e i h b j l =
    let q = b.bears.at in
    let t = positive-neg (i.all f here) in record {
      face = f;
      among = here;
      on = h;
      bears = record {
        at = between f o q;
        weight = weight-mix (side f q) o (neg_ℤ (side f o)) q l (nonneg_of_positive t) i.weight b.bears.weight;
        on = between-on f o q;
        others = each_of_more (λ g. ¬ (SameHalfSpace f g) → side g (between f o q) <ℤ pos 0) f F (λ n. absurd (n (same_refl f)))
            (λ g m n. mix-behind_left (side f q) o (neg_ℤ (side f o)) q g l (nonneg_of_positive t) (i.all g (there m)) (j.all g m));
      };
    }

-- The point of a face that bears is in the solid.
pub bears_in : {F : List HalfSpace} {f : HalfSpace} (b : Bears F f) → IsIn F b.at
bears_in {F} {f} b = record {
  weight = b.weight;
  all = λ g m. by_lt_z (pos 0) (side g b.at)
      (λ l. let k = b.others g m (λ s. let z = s.onto b.at b.weight (omega (arith, ints)) in absurd (omega (arith, ints))) in absurd (omega (arith, ints)))
      (λ l. l);
}

-- Both faces have the point, and their planes cross: the point goes along the bearing face, behind the new one.
turns : {F : List HalfSpace} {e : Homogeneous} (f : HalfSpace) (b : BearingFace F e) → side f b.bears.at ≡ pos 0 →
    pos 0 <ℤ dot (cross b.face.normal f.normal) (cross b.face.normal f.normal) → BearingFace (f ∷ F) e
turns {F} {e} f b h c =
    let q = b.bears.at in
    let m = cross b.face.normal (cross b.face.normal f.normal) in
    let r = small (λ g. side g q) (λ g. dot g.normal m) F in
    joins f (moved b (go r.n (pos 1) q m) (weight-go r.n (pos 1) q m r.positive b.bears.weight)
    (side-go r.n (pos 1) q m b.face ∙ step_flat r.n (side b.face q) (dot b.face.normal m) b.bears.on (dot-cross_left b.face.normal (cross b.face.normal f.normal)))
    (λ g i l. rw side-go (step_short r.n (side g q) (dot g.normal m) (r.below g i l))))
    (λ n. rw side-go (step_behind r.n (side f q) (dot f.normal m) h (rw dot-aside (neg_below c))))

one_more : {F : List HalfSpace} (f : HalfSpace) (o e : Homogeneous) → IsInside (f ∷ F) o → IsIn (f ∷ F) e → AllBehind F e ⊎ BearingFace F e →
    AllBehind (f ∷ F) e ⊎ BearingFace (f ∷ F) e
one_more {F} f o e i j (inl all) = by_lt_z (side f e) (pos 0)
    (λ l. inl (each_of_more (λ g. side g e <ℤ pos 0) f F l all))
    (λ l. let k = j.all f here in inr (alone f e j.weight (omega (arith, ints)) all))
one_more {F} f o e i j (inr b) = by_lt_z (side f e) (pos 0)
    (λ l. inr (behind f e (tail_in j) l b))
    (λ l. let k = j.all f here in let z : side f e ≡ pos 0 = omega (arith, ints) in by_sign (side f b.bears.at)
    (λ n. inr (joins f b (λ x. n)))
    (λ n. by_lt_z (pos 0) (dot (cross b.face.normal f.normal) (cross b.face.normal f.normal))
    (λ c. inr (turns f b n c))
    (λ c. inr (joins f b (λ x. absurd (x (same_of_times b.face f (times_of_parallel b.face f o b.bears.at b.bears.weight b.bears.on n (i.all b.face (there b.among)) (i.all f here) (is_zero (cross b.face.normal f.normal) c))))))))
    (λ n. inr (cuts_off f o e i z b (bears_in b.bears) n)))

pub in_of_inside : {F : List HalfSpace} {p : Homogeneous} → IsInside F p → IsIn F p
in_of_inside i = record { weight = i.weight; all = λ f m. below_le (i.all f m) }

-- A point of the solid is behind all its faces, or some face that bears has it.
pub behind_or_bearing : (F : List HalfSpace) (o e : Homogeneous) → IsInside F o → IsIn F e → AllBehind F e ⊎ BearingFace F e
behind_or_bearing [] o e i j = inl (λ f m. elim m [ ])
behind_or_bearing (f ∷ F) o e i j = one_more f o e i j (behind_or_bearing F o e (tail_inside i) (tail_in j))

pub bearing : BearingLaw
bearing F o e i j = ⊎_elim (λ all. inl (record { weight = j.weight; all = all })) (λ b. inr b) (behind_or_bearing F o e i j)
