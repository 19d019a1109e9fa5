-- The inner box of a brush, as faces and as sides.
use Rattle.std.proofs.Common.{◌≡◌, ℕ, zero, suc, ◌+◌, ◌-◌, ◌^◌, ◌≤◌, List, [], ◌∷◌, ◌++◌, length, map, get_or, refl, ap, sym, ◌∙◌, arith, append_assoc, ℤ, pos, negsuc, neg_ℤ, ◌+ℤ◌, ◌-ℤ◌, ◌*ℤ◌, ◌<ℤ◌, ◌≤ℤ◌, inl, inr}
use Rattle.std.proofs.lemmas.Int.{ints}
use Rattle.std.proofs.lemmas.Bool.Decides.{nat_tests}
use Rattle.std.specs.Prelude.{cond, nat_lt, int_lt, Bool, true, false}
use Rattle.algebra.specs.Members.{here, there, Every}
use Rattle.algebra.specs.Space.{Vector}
use Rattle.exact_geom.specs.declared.point.Point.{Point}
use Rattle.exact_geom.specs.Planes.{half_space}
use Rattle.solid_brush.specs.declared.side.Side.{Side}
use Rattle.map_nodes.specs.Seen.{sides_from, sides_of}
use Rattle.map_model.specs.Faces.{Face}
use Rattle.map_model.specs.Brushes.{inward, sign_of, moved_by}
use Rattle.map_model.proofs.Members.{decides_less}
use Rattle.csg_ops.specs.Hollows as solid
use Rattle.cut_plans.specs.Told.{bare, face_of, faces_of, IsTold}
use Rattle.cut_plans.proofs.Faces.{tag_within}

-- A coordinate. ---------------------------------------------------------------------------------------------------------------------

stays : (t c : ℤ) → c ≡ c +ℤ neg_ℤ (t *ℤ pos 0)
stays t c = omega (arith, ints)

goes_down : (t c : ℤ) → c -ℤ t ≡ c +ℤ neg_ℤ (t *ℤ pos 1)
goes_down t c = omega (arith, ints)

goes_up : (t c : ℤ) → c +ℤ t ≡ c +ℤ neg_ℤ (t *ℤ neg_ℤ (pos 1))
goes_up t c = omega (arith, ints)

not_less : (x y : ℤ) → y ≤ℤ x → int_lt x y ≡ false
not_less x y h = by (int_lt x y) (decides_less x y).0
  where
    by : (b : Bool) → (b ≡ true → x <ℤ y) → b ≡ false
    by false f = refl
    by true f = let l = f refl in absurd (omega (arith, ints))

sign_front : (n : ℤ) → pos 0 <ℤ n → sign_of n ≡ pos 1
sign_front n h =
    ap (λ b. cond b (neg_ℤ (pos 1)) (cond (int_lt (pos 0) n) (pos 1) (pos 0))) (not_less n (pos 0) (omega (arith, ints)))
    ∙ ap (λ b. cond b (pos 1) (pos 0)) ((decides_less (pos 0) n).1 h)

coordinate : (t n c : ℤ) → solid.against t n c ≡ c +ℤ neg_ℤ (t *ℤ sign_of n)
coordinate t (pos zero) c = stays t c
coordinate t (pos (suc n)) c = goes_down t c ∙ ap (λ s. c +ℤ neg_ℤ (t *ℤ s)) (sym (sign_front (pos (suc n)) (omega (arith, ints))))
coordinate t (negsuc n) c = goes_up t c

point : (t : ℤ) (n : Vector) (p : Point) → solid.inward_point t n p ≡ moved_by (neg_ℤ (t *ℤ sign_of n.x)) (neg_ℤ (t *ℤ sign_of n.y)) (neg_ℤ (t *ℤ sign_of n.z)) p
point t n p = λ i. record { x = coordinate t n.x p.x i; y = coordinate t n.y p.y i; z = coordinate t n.z p.z i }

pub plane_moved : (t : ℤ) (f : Face) → solid.inward_plane t f.plane ≡ (inward t f).plane
plane_moved t f = λ i. record { p0 = point t (half_space f.plane).normal f.plane.p0 i; p1 = point t (half_space f.plane).normal f.plane.p1 i; p2 = point t (half_space f.plane).normal f.plane.p2 i }

-- The faces that tags tell. ---------------------------------------------------------------------------------------------------------

at_end : {A : Type 0} (xs : List A) (x : A) (ys : List A) (d : A) → get_or (xs ++ x ∷ ys) (length xs) d ≡ x
at_end [] x ys d = refl
at_end (y ∷ xs) x ys d = at_end xs x ys d

longer : {A : Type 0} (xs : List A) (x : A) → length (xs ++ x ∷ []) ≡ suc (length xs)
longer [] x = refl
longer (y ∷ xs) x = ap suc (longer xs x)

not_below : (k base : ℕ) → nat_lt (k + base) base ≡ false
not_below k base = let le : base ≤ k + base = omega arith in grind (arith, nat_tests)

module _ (base : ℕ) (base_is : base ≡ 2 ^ 30) (t : ℤ) (old new : List Face) where
  abbrev moved : ℕ → Face → Side
  moved k f = solid.inward t (record { plane = f.plane; tag = k })

  tag_is : (k : ℕ) → k + 2 ^ 30 ≡ k + base
  tag_is k = ap (λ b. k + b) (sym base_is)

  one_told : (k : ℕ) (f : Face) → get_or new k bare ≡ f → face_of base old new (moved k f) ≡ inward t f
  one_told k f e =
      let place : (k + base) - base ≡ k = omega arith in
      (λ i. record (cond (nat_lt (tag_is k i) base) (get_or old (tag_is k i) bare) (get_or new (tag_is k i - base) bare)) { plane = plane_moved t f i })
      ∙ (λ i. record (cond (not_below k base i) (get_or old (k + base) bare) (get_or new (place i) bare)) { plane = (inward t f).plane })
      ∙ (λ i. record (e i) { plane = (inward t f).plane })

  inner_from : (first rest : List Face) → new ≡ first ++ rest → faces_of base old new (solid.inner_box t (sides_from (length first) rest)) ≡ map (inward t) rest
  inner_from first [] is = refl
  inner_from first (f ∷ rest) is =
      let this : face_of base old new (moved (length first) f) ≡ inward t f = one_told (length first) f (ap (λ l. get_or l (length first) bare) is ∙ at_end first f rest bare) in
      let later : faces_of base old new (solid.inner_box t (sides_from (length (first ++ f ∷ [])) rest)) ≡ map (inward t) rest = inner_from (first ++ f ∷ []) rest (is ∙ sym (append_assoc first (f ∷ []) rest)) in
      (λ i. this i ∷ faces_of base old new (solid.inner_box t (sides_from (sym (longer first f) i) rest))) ∙ ap (λ l. inward t f ∷ l) later

  pub inner_told : faces_of base old new (solid.inner_box t (sides_of new)) ≡ map (inward t) new
  inner_told = inner_from [] new refl

  -- The sides' tags tell faces.
  inner_tags : (k : ℕ) (fs : List Face) → k + length fs ≤ length new → Every (IsTold base old new) (solid.inner_box t (sides_from k fs))
  inner_tags k [] le s i = elim i [ ]
  inner_tags k (f ∷ fs) le s here = inr (let e = base_is in omega arith, let e = base_is in omega arith)
  inner_tags k (f ∷ fs) le s (there i) = inner_tags (suc k) fs (omega arith) s i

  pub inner_told_tags : Every (IsTold base old new) (solid.inner_box t (sides_of new))
  inner_told_tags = inner_tags 0 new (omega arith)

  pub old_told_tags : length old ≤ base → Every (IsTold base old new) (sides_of old)
  old_told_tags few s i = let r = (tag_within 0 old s i).1 in inl (omega arith, omega arith)
