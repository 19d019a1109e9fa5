-- The trimmed list has the points of the list.
use Rattle.std.proofs.Common.{◌≡◌, List, [], ◌∷◌, ap, ◌∙◌, arith, ◌⊎◌, inl, inr, ⊎_elim, ℤ, pos, ◌+ℤ◌, ◌-ℤ◌, ◌*ℤ◌, ◌<ℤ◌, ◌≤ℤ◌}
use Rattle.std.proofs.lemmas.Int.{ints, by_lt_z}
use Rattle.algebra.specs.Members.{◌∈◌, here, there}
use Rattle.algebra.specs.Space.{Homogeneous, HalfSpace, dot, side, go, way, SameHalfSpace}
use Rattle.algebra.specs.Ratio.{Hit}
use Rattle.algebra.proofs.Expr.{read}
use Rattle.algebra.proofs.Ring.{ring}
use Rattle.algebra.proofs.Orders.{signs, lt_by, eq_by}
use Rattle.algebra.proofs.Identities.{side-go, dot-way}
use Rattle.algebra.proofs.Points.{weight-go, way-across}
use Rattle.algebra.proofs.Members.{each_of_more}
use Rattle.algebra.proofs.Ratio.{ratio_test}
use Rattle.trim_laws.specs.Solid.{IsInside, Proper}
use Rattle.trim_laws.specs.Trim.{Bears, IsKept, Trims, ends, keeps, drops, Trim}
use Rattle.trim_laws.specs.Laws.{TrimLaw, TrimBackLaw, TrimInsideLaw}
use Rattle.trim_laws.proofs.Steps.{below_le}
use Rattle.trim_laws.proofs.SameHalfSpace.{same_refl, same_sym, same_trans, same_on, same_or_not}
use Rattle.trim_laws.proofs.Bearing.{behind_or_bearing}

pub bears_same : (F : List HalfSpace) (f g : HalfSpace) → SameHalfSpace f g → pos 0 <ℤ dot f.normal f.normal → Bears F f → Bears F g
bears_same F f g s p b = record {
  at = b.at;
  weight = b.weight;
  on = same_on f g b.at s p b.weight b.on;
  others = λ h m n. b.others h m (λ t. n (same_trans (same_sym s) t));
}

-- ---- members
pub trimmed_in : {F earlier rest kept : List HalfSpace} → Trims F earlier rest kept → (g : HalfSpace) → g ∈ kept → g ∈ rest
trimmed_in ends g m = m
trimmed_in (keeps k t) g here = here
trimmed_in (keeps k t) g (there m) = there (trimmed_in t g m)
trimmed_in (drops k t) g m = there (trimmed_in t g m)

pub record Found (f : HalfSpace) (G : List HalfSpace) : Type 0 where
  pub face : HalfSpace
  pub among : face ∈ G
  pub same : SameHalfSpace f face

found_there : {f g : HalfSpace} {G : List HalfSpace} → Found f G → Found f (g ∷ G)
found_there r = record { face = r.face; among = there r.among; same = r.same }

-- Whether a list has the half-space of f.
pub found_or_none : (f : HalfSpace) (G : List HalfSpace) → pos 0 <ℤ dot f.normal f.normal → Proper G → Found f G ⊎ ((g : HalfSpace) → g ∈ G → ¬ (SameHalfSpace f g))
found_or_none f [] p r = inr (λ g m. elim m [ ])
found_or_none f (e ∷ G) p r = ⊎_elim (λ s. inl (record { face = e; among = here; same = s }))
    (λ n. ⊎_elim (λ k. inl (found_there k)) (λ none. inr (each_of_more (λ g. ¬ (SameHalfSpace f g)) e G n none)) (found_or_none f G p (λ g m. r g (there m))))
    (same_or_not f e p (r e here))

-- A face that bears and is dropped has an earlier one of its half-space.
why_dropped : (F earlier : List HalfSpace) (f : HalfSpace) → pos 0 <ℤ dot f.normal f.normal → Proper earlier → ¬ (IsKept F earlier f) → Bears F f → Found f earlier
why_dropped F earlier f p r n b = ⊎_elim (λ k. k) (λ none. absurd (n (record { first = λ g m s. none g m (same_sym s); bears = b }))) (found_or_none f earlier p r)

split_found : {f g : HalfSpace} {G : List HalfSpace} (face : HalfSpace) → face ∈ (g ∷ G) → SameHalfSpace f face → SameHalfSpace f g ⊎ Found f G
split_found face here s = inl s
split_found face (there m) s = inr (record { face = face; among = m; same = s })

more_proper : {f : HalfSpace} {F : List HalfSpace} → pos 0 <ℤ dot f.normal f.normal → Proper F → Proper (f ∷ F)
more_proper {f} {F} p r = each_of_more (λ g. pos 0 <ℤ dot g.normal g.normal) f F p r

-- Each face that bears has its half-space in the trimmed list.
found : {F earlier rest kept : List HalfSpace} → Trims F earlier rest kept → Proper earlier → Proper rest → (f : HalfSpace) → f ∈ rest → Bears F f →
    Found f kept ⊎ Found f earlier
found ends a r f m b = elim m [ ]
found (keeps {f = g} k t) a r f here b = inl (record { face = g; among = here; same = same_refl g })
found (keeps {f = g} k t) a r f (there m) b = ⊎_elim (λ k. inl (found_there k))
    (λ k. ⊎_elim (λ s. inl (record { face = g; among = here; same = s })) (λ e. inr e) (split_found k.face k.among k.same))
    (found t (more_proper (r g here) a) (λ h i. r h (there i)) f m b)
found {F} {earlier} (drops {f = g} n t) a r f here b = inr (why_dropped F earlier g (r g here) a n b)
found {F} {earlier} (drops {f = g} n t) a r f (there m) b = ⊎_elim (λ k. inl k)
    (λ k. ⊎_elim (λ s. inr (through s)) (λ e. inr e) (split_found k.face k.among k.same))
    (found t (more_proper (r g here) a) (λ h i. r h (there i)) f m b)
  where
    through : SameHalfSpace f g → Found f earlier
    through s = let e = why_dropped F earlier g (r g here) a n (bears_same F f g s (r f (there m)) b) in record { face = e.face; among = e.among; same = same_trans s e.same }

pub kept_face : (F G : List HalfSpace) (f : HalfSpace) → Proper F → Trim F G → f ∈ F → Bears F f → Found f G
kept_face F G f r t m b = ⊎_elim (λ k. k) (λ k. elim k.among [ ]) (found t (λ g i. elim i [ ]) r f m b)

-- ---- the laws
pub trim_back : TrimBackLaw
trim_back F G p t i = record { weight = i.weight; all = λ f m. i.all f (trimmed_in t f m) }

-- The way from o to p leaves the half-space of g before p, where it leaves some half-space before p.
past_plain : (q t v w a b : ℤ) → pos 0 <ℤ q → pos 0 ≤ℤ t → pos 0 <ℤ v → pos 0 <ℤ w → a <ℤ pos 0 → pos 0 <ℤ b → (q *ℤ a +ℤ t *ℤ (v *ℤ b -ℤ w *ℤ a)) ≤ℤ pos 0 →
    pos 0 <ℤ (q -ℤ t *ℤ w)
past_plain q t v w a b hq ht hv hw ha hb h = by_lt_z (pos 0) (q -ℤ t *ℤ w) (λ l. l) (λ l. by_lt_z (pos 0) t
    (λ k.
    let m : pos 0 <ℤ (q *ℤ a +ℤ t *ℤ (v *ℤ b -ℤ w *ℤ a)) = lt_by ((pos 0 -ℤ (q -ℤ t *ℤ w)) *ℤ (pos 0 -ℤ a) +ℤ t *ℤ (v *ℤ b)) (search signs) (ring (q ∷ t ∷ v ∷ w ∷ a ∷ b ∷ []) (search read depth 20) tt) in
    absurd (omega (arith, ints)))
    (λ k. let z : t ≡ pos 0 = omega (arith, ints) in let y : t *ℤ w ≡ pos 0 = eq_by w z (ring (t ∷ w ∷ []) (search read depth 20) tt) in absurd (omega (arith, ints))))

beyond_plain : (q t v w a b : ℤ) → pos 0 ≤ℤ t → pos 0 <ℤ v → a <ℤ pos 0 → pos 0 <ℤ (q -ℤ t *ℤ w) → q *ℤ a +ℤ t *ℤ (v *ℤ b -ℤ w *ℤ a) ≡ pos 0 → pos 0 <ℤ b
beyond_plain q t v w a b ht hv ha h e = by_lt_z (pos 0) b (λ l. l) (λ l.
    let m : (q *ℤ a +ℤ t *ℤ (v *ℤ b -ℤ w *ℤ a)) <ℤ pos 0 = lt_by ((q -ℤ t *ℤ w) *ℤ (pos 0 -ℤ a) +ℤ t *ℤ (v *ℤ (pos 0 -ℤ b))) (search signs) (ring (q ∷ t ∷ v ∷ w ∷ a ∷ b ∷ []) (search read depth 20) tt) in
    absurd (omega (arith, ints)))

side-along : (q t : ℤ) (o p : Homogeneous) (f : HalfSpace) → side f (go q t o (way o p)) ≡ q *ℤ side f o +ℤ t *ℤ (o.weight *ℤ side f p -ℤ p.weight *ℤ side f o)
side-along q t o p f = side-go q t o (way o p) f ∙ ap (λ x. q *ℤ side f o +ℤ t *ℤ x) (dot-way f o p)

-- A point outside is in front of some face that bears.
pub outside : (F : List HalfSpace) (o p : Homogeneous) (f : HalfSpace) → IsInside F o → pos 0 <ℤ p.weight → f ∈ F → pos 0 <ℤ side f p →
    (g : HalfSpace) × g ∈ F × Bears F g × (pos 0 <ℤ side g p)
outside F o p f i w m l =
    let h : Hit F o (way o p) = ratio_test F o (way o p) (λ g k. below_le (i.all g k)) f m (way-across f o p i.weight w (i.all f m) l) in
    let k : pos 0 <ℤ (h.q -ℤ h.t *ℤ p.weight) = past_plain h.q h.t o.weight p.weight (side f o) (side f p) h.q_positive h.t_nonneg i.weight w (i.all f m) l (rw side-along at (h.inside f m)) in
    ⊎_elim (λ all. let z = all h.face h.among in let y = h.reached in absurd (omega (arith, ints)))
    (λ b. (b.face, b.among, b.bears, beyond_plain h.q h.t o.weight p.weight (side b.face o) (side b.face p) h.t_nonneg i.weight (i.all b.face b.among) k (rw side-along at b.on)))
    (behind_or_bearing F o (go h.q h.t o (way o p)) i (record { weight = weight-go h.q h.t o (way o p) h.q_positive i.weight; all = h.inside }))

pub trim : TrimLaw
trim F G o p r i t j = record {
  weight = j.weight;
  all = λ f m. by_lt_z (pos 0) (side f p)
      (λ l. let b = outside F o p f i j.weight m l in
      let g = kept_face F G b.0 r t b.1 b.2 in
      let k = g.same.back p j.weight (j.all g.face g.among) in let z = b.3 in absurd (omega (arith, ints)))
      (λ l. l);
}

pub trim_inside : TrimInsideLaw
trim_inside F G o p r i t j = record {
  weight = j.weight;
  all = ⊎_elim (λ all. all)
      (λ b. let g = kept_face F G b.face r t b.among b.bears in
      let y = same_on b.face g.face p g.same (r b.face b.among) j.weight b.on in
      let z = j.all g.face g.among in λ f m. absurd (omega (arith, ints)))
      (behind_or_bearing F o p i (trim F G o p r i t (record { weight = j.weight; all = λ f m. below_le (j.all f m) })));
}
