-- The order of triples, and which triples of faces meet at a point.
use Rattle.std.proofs.Common.{◌≡◌, ℕ, zero, suc, ◌<◌, ◌⊎◌, inl, inr, ⊎_elim, arith, refl, sym, ap, ◌∙◌, List, [], ◌∷◌, Option, Some, None, ℤ, pos, ◌<ℤ◌}
use Rattle.std.specs.Prelude.{slice_get}
use Rattle.std.proofs.lemmas.Int.{ints}
use Rattle.algebra.specs.Members.{◌∈◌, here, there}
use Rattle.algebra.specs.Space.{Homogeneous, HalfSpace, det, side}
use Rattle.algebra.proofs.Orders.{by_sign}
use Rattle.vertex_laws.specs.Vertex.{IsVertex}
use Rattle.solid_laws.specs.Names.{Triple, Earlier, MeetAt}

-- ---- the order
abbrev pub triple : ℕ → ℕ → ℕ → Triple
triple i j k = record { first = i; second = j; third = k }

triple_by : {s t : Triple} → s.first ≡ t.first → s.second ≡ t.second → s.third ≡ t.third → s ≡ t
triple_by {s} {t} e f g = ap (λ n. triple n s.second s.third) e ∙ ap (λ n. triple t.first n s.third) f ∙ ap (λ n. triple t.first t.second n) g

compare_numbers : (a b : ℕ) → (a < b) ⊎ ((a ≡ b) ⊎ (b < a))
compare_numbers a b = grind arith

pub compare : (s t : Triple) → Earlier s t ⊎ ((s ≡ t) ⊎ Earlier t s)
compare s t = ⊎_elim (λ l. inl (inl l)) (λ r. ⊎_elim
    (λ e. ⊎_elim (λ l. inl (inr (e, inl l))) (λ r. ⊎_elim
    (λ f. ⊎_elim (λ l. inl (inr (e, inr (f, l)))) (λ r. ⊎_elim
    (λ g. inr (inl (triple_by e f g)))
    (λ l. inr (inr (inr (sym e, inr (sym f, l))))) r)
    (compare_numbers s.third t.third))
    (λ l. inr (inr (inr (sym e, inl l)))) r)
    (compare_numbers s.second t.second))
    (λ l. inr (inr (inl l))) r)
    (compare_numbers s.first t.first)

pub earlier_clash : (s t : Triple) → Earlier s t → Earlier t s → ⊥
earlier_clash s t (inl a) (inl b) = absurd (omega arith)
earlier_clash s t (inl a) (inr (e, r)) = absurd (omega arith)
earlier_clash s t (inr (e, r)) (inl b) = absurd (omega arith)
earlier_clash s t (inr (e, inl a)) (inr (f, inl b)) = absurd (omega arith)
earlier_clash s t (inr (e, inl a)) (inr (f, inr (g, b))) = absurd (omega arith)
earlier_clash s t (inr (e, inr (g, a))) (inr (f, inl b)) = absurd (omega arith)
earlier_clash s t (inr (e, inr (g, a))) (inr (f, inr (h, b))) = absurd (omega arith)

-- ---- faces by their numbers
pub record Face (F : List HalfSpace) (n : ℕ) : Type 0 where
  pub it : HalfSpace
  pub is : slice_get F n ≡ Some it

face_or_none : (F : List HalfSpace) (n : ℕ) → Face F n ⊎ (slice_get F n ≡ None)
face_or_none [] n = inr refl
face_or_none (f ∷ F) zero = inl (record { it = f; is = refl })
face_or_none (f ∷ F) (suc n) = ⊎_elim (λ r. inl (record { it = r.it; is = r.is })) (λ e. inr e) (face_or_none F n)

pub same_face : {r : Option HalfSpace} {f g : HalfSpace} → r ≡ Some f → r ≡ Some g → f ≡ g
same_face {r} {f} {g} e h = cc

no_face : {A : Type 0} {r : Option HalfSpace} {f : HalfSpace} → r ≡ None → r ≡ Some f → A
no_face {A} {r} {f} e h = absurd (cc)

pub record Number (F : List HalfSpace) (f : HalfSpace) : Type 0 where
  pub it : ℕ
  pub is : slice_get F it ≡ Some f

pub number_of : (F : List HalfSpace) (f : HalfSpace) → f ∈ F → Number F f
number_of [] f m = elim m [ ]
number_of (g ∷ F) f here = record { it = 0; is = refl }
number_of (g ∷ F) f (there m) = let n = number_of F f m in record { it = suc n.it; is = n.is }

-- ---- which triples meet at p
zero_or_not : (a : ℤ) → (a ≡ pos 0) ⊎ ¬ (a ≡ pos 0)
zero_or_not a = by_sign a (λ l. inr (λ e. absurd (omega (arith, ints)))) (λ e. inl e) (λ l. inr (λ e. absurd (omega (arith, ints))))

det_zero : {f g h f' g' h' : HalfSpace} → f ≡ f' → g ≡ g' → h ≡ h' → det f'.normal g'.normal h'.normal ≡ pos 0 → det f.normal g.normal h.normal ≡ pos 0
det_zero {f} {g} {h} {f'} {g'} {h'} i j k z =
    ap (λ (t : HalfSpace). det t.normal g.normal h.normal) i ∙ ap (λ (t : HalfSpace). det f'.normal t.normal h.normal) j ∙ ap (λ (t : HalfSpace). det f'.normal g'.normal t.normal) k ∙ z

side_zero : {f f' : HalfSpace} (p : Homogeneous) → f ≡ f' → side f p ≡ pos 0 → side f' p ≡ pos 0
side_zero p i z = ap (λ k. side k p) (sym i) ∙ z

meets : {F : List HalfSpace} {p : Homogeneous} {t : Triple} (f : Face F t.first) (g : Face F t.second) (h : Face F t.third) →
    side f.it p ≡ pos 0 → side g.it p ≡ pos 0 → side h.it p ≡ pos 0 → ¬ (det f.it.normal g.it.normal h.it.normal ≡ pos 0) → MeetAt F t p
meets f g h x y z d = record { f = f.it; g = g.it; h = h.it; first = f.is; second = g.is; third = h.is; on_f = x; on_g = y; on_h = z; independent = d }

meet_or_not : (F : List HalfSpace) (p : Homogeneous) (t : Triple) → Face F t.first → Face F t.second → Face F t.third → MeetAt F t p ⊎ ¬ (MeetAt F t p)
meet_or_not F p t f g h = ⊎_elim
    (λ x. ⊎_elim
    (λ y. ⊎_elim
    (λ z. ⊎_elim
    (λ d. inr (λ m. m.independent (det_zero (same_face m.first f.is) (same_face m.second g.is) (same_face m.third h.is) d)))
    (λ d. inl (meets f g h x y z d))
    (zero_or_not (det f.it.normal g.it.normal h.it.normal)))
    (λ n. inr (λ m. n (side_zero p (same_face m.third h.is) m.on_h)))
    (zero_or_not (side h.it p)))
    (λ n. inr (λ m. n (side_zero p (same_face m.second g.is) m.on_g)))
    (zero_or_not (side g.it p)))
    (λ n. inr (λ m. n (side_zero p (same_face m.first f.is) m.on_f)))
    (zero_or_not (side f.it p))

pub decide_meet : (F : List HalfSpace) (p : Homogeneous) (t : Triple) → MeetAt F t p ⊎ ¬ (MeetAt F t p)
decide_meet F p t = ⊎_elim (λ f. ⊎_elim (λ g. ⊎_elim (λ h. meet_or_not F p t f g h)
    (λ e. inr (λ m. no_face e m.third)) (face_or_none F t.third))
    (λ e. inr (λ m. no_face e m.second)) (face_or_none F t.second))
    (λ e. inr (λ m. no_face e m.first)) (face_or_none F t.first)

pub record Meeting (F : List HalfSpace) (p : Homogeneous) : Type 0 where
  pub triple : Triple
  pub meet : MeetAt F triple p

not_zero : {a : ℤ} → pos 0 <ℤ a → ¬ (a ≡ pos 0)
not_zero {a} l e = absurd (omega (arith, ints))

pub meeting : (F : List HalfSpace) (v : Homogeneous) → IsVertex F v → Meeting F v
meeting F v u = let f = number_of F u.f u.f_in in let g = number_of F u.g u.g_in in let h = number_of F u.h u.h_in in record {
  triple = triple f.it g.it h.it;
  meet = record { f = u.f; g = u.g; h = u.h; first = f.is; second = g.is; third = h.is; on_f = u.on_f; on_g = u.on_g; on_h = u.on_h; independent = not_zero u.independent };
}
