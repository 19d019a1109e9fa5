-- The steps of the walk round a face in the arenas.
use Rattle.std.proofs.lemmas.Bool.Decides.{nat_tests}
use Rattle.std.proofs.Common.{◌≡◌, Bool, true, false, eqb, arith, ℕ, ◌-◌, ◌<◌, List, [], ◌∷◌, ◌++◌, length, Option, Some, sym, ap, subst, ◌∙◌}
use Rattle.algebra.specs.Space.{Homogeneous, HalfSpace}
use Rattle.half_arena.specs.declared.ids.EdgeId.{EdgeId}
use Rattle.solid_laws.specs.FaceLoop.{IsNumberedLoop}
use Rattle.half_poly.specs.declared.links.HalfEdge.{HalfEdge}
use Rattle.half_poly.specs.Rounds.{begin_number, OfFace, IsFirstOn, LeadsTo, GoesOn}
use Rattle.half_poly.proofs.WalkLaws.{Path, begin, walked, closed_walk, nearer_end}

pub begun : (F : List HalfSpace) (V : List Homogeneous) (f : HalfSpace) (first : ℕ) (found : List ℕ) → IsFirstOn V f first → found ≡ [] → Path F V f first (found ++ (first ∷ []))
begun F V f first found i q = subst (λ numbers. Path F V f first (numbers ++ (first ∷ []))) (sym q) (begin F V f first i.here)

module _ {F : List HalfSpace} {V : List Homogeneous} {f : HalfSpace} {E : ℕ → Option HalfEdge} {numbers : List ℕ} {face : ℕ} (g : GoesOn F V f E numbers face) (first : EdgeId) (of_face : OfFace E first.0 face) (least : IsFirstOn V f (begin_number E numbers first.0)) where
  abbrev num : ℕ → ℕ
  num e = begin_number E numbers e

  -- the numbers that were found, the half-edge that is reached, and the next one
  module _ (found more : List ℕ) (at next : EdgeId) (n : ℕ) (w : Path F V f (num first.0) (found ++ (num at.0 ∷ [])) × OfFace E at.0 face)
      (pushed : more ≡ found ++ n ∷ []) (number : n ≡ num at.0) (next_is : (h : HalfEdge) → E at.0 ≡ Some h → next ≡ h.next) where
    abbrev h : HalfEdge
    h = w.1.h

    more_is : more ≡ found ++ (num at.0 ∷ [])
    more_is = pushed ∙ ap (λ k. found ++ k ∷ []) number

    leads : LeadsTo F V f (num at.0) (num next.0)
    leads = subst (λ (e : EdgeId). LeadsTo F V f (num at.0) (num e.0)) (sym (next_is h w.1.there)) (g.leads at.0 h w.1.there w.1.face_is)

    next_of : OfFace E next.0 face
    next_of = subst (λ (e : EdgeId). OfFace E e.0 face) (sym (next_is h w.1.there)) (g.next at.0 h w.1.there w.1.face_is)

    pub came_back : next.0 ≡ first.0 → IsNumberedLoop F f V more
    came_back q = subst (λ l. IsNumberedLoop F f V l) (sym more_is) (closed_walk (num first.0) found (num at.0) (num next.0) g.face_of least w.0 leads (ap num q))

    pub went_on : ¬ (next.0 ≡ first.0) → Path F V f (num first.0) (more ++ (num next.0 ∷ [])) × OfFace E next.0 face
    went_on d = (
      subst (λ l. Path F V f (num first.0) (l ++ (num next.0 ∷ []))) (sym more_is)
          (walked found (num at.0) (num next.0) g.face_of w.0 leads (λ q. d (g.one next.0 first.0 next_of of_face q))),
      next_of,
    )

    pub nearer : length V - length more < length V - length found
    nearer = nearer_end found more (num at.0) w.0 more_is

-- ---- whether it came back
pub eq_is : {r : Bool} {a b : ℕ} → r ≡ eqb a b → r ≡ true → a ≡ b
eq_is {r} {a} {b} q t = grind (arith, nat_tests)

pub ne_is : {r : Bool} {a b : ℕ} → r ≡ eqb a b → r ≡ false → ¬ (a ≡ b)
ne_is {r} {a} {b} q t e = grind (arith, nat_tests)
