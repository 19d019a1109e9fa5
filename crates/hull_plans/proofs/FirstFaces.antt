-- The first face in a half-space, and the fields that it gives.
use Rattle.std.proofs.Common.{◌≡◌, ℕ, suc, ◌+◌, ◌<◌, ◌≤◌, ◌↔◌, List, [], ◌∷◌, ◌++◌, length, map, drop, get_or, Bool, true, false, cond, IsTrue, Option, None, Some, Result, Ok, Err, IfOk, refl, ap, sym, subst, ◌∙◌, true≢false, drop-cons, add-one}
use Rattle.std.specs.Bool.{Decides}
use Rattle.std.specs.List.{find}
use Rattle.std.proofs.lemmas.List.{drop_all}
use Rattle.algebra.specs.Members.{◌∈◌, Every}
use Rattle.algebra.specs.Space.{SameHalfSpace}
use Rattle.exact_geom.specs.Planes.{ThreePoints, half_space}
use Rattle.trim_laws.specs.Solid.{Proper}
use Rattle.solid_brush.specs.declared.side.Side.{Side}
use Rattle.solid_brush.specs.Sides.{IsSolid, bounds}
use Rattle.solid_brush.specs.Sides as solid
use Rattle.solid_brush.proofs.Meeting.{trimmed_proper}
use Rattle.map_model.specs.Faces.{Face}
use Rattle.map_model.specs.Shape.{half_spaces}
use Rattle.map_model.specs.Tree.{Whole, faces_at}
use Rattle.map_model.specs.Brushes.{have_one_half_space}
use Rattle.map_model.specs.Commands.{Settings}
use Rattle.map_model.specs.Rows.{plain_face, all_faces, fields_for}
use Rattle.map_model.proofs.Meaning.{same_half_space}
use Rattle.map_model.proofs.Members.{in_map, map_in}
use Rattle.hull_plans.specs.GivenFaces.{face_in, IsBound}

-- The first of a list that passes a test. -------------------------------------------------------------------------------------------------

module _ {A : Type 0} (p : A → Bool) (xs : List A) where
  -- None of the first i passes.
  pub record Sought (i : ℕ) : Type 0 where
    pub rest : find p (drop i xs) ≡ find p xs

  module _ (i : ℕ) (x : A) (lt : i < length xs) (is : x ≡ get_or xs i x) (s : Sought i) where
    next : find p (x ∷ drop (suc i) xs) ≡ find p xs
    next = ap (λ k. find p (k ∷ drop (suc i) xs)) is ∙ sym (ap (find p) (drop-cons xs i x lt)) ∙ s.rest

    pub found : p x ≡ true → Some x ≡ find p xs
    found holds = sym (ap (λ t. cond t (Some x) (find p (drop (suc i) xs))) holds) ∙ next

    pub passed_over : p x ≡ false → Sought (i + 1)
    passed_over fails = record { rest = ap (λ k. find p (drop k xs)) (add-one i) ∙ sym (ap (λ t. cond t (Some x) (find p (drop (suc i) xs))) fails) ∙ next }

  pub not_found : (i : ℕ) → length xs ≤ i → Sought i → None ≡ find p xs
  not_found i le s = sym (ap (find p) (drop_all i xs le)) ∙ s.rest

find_some : {A : Type 0} (p : A → Bool) (xs ys : List A) (x : A) → find p xs ≡ Some x → find p (xs ++ ys) ≡ Some x
find_some p [] ys x e = absurd (cc)
find_some {A} p (y ∷ xs) ys x e = by (p y) e (find_some p xs ys x)
  where
    by : (t : Bool) → cond t (Some y) (find p xs) ≡ Some x → (find p xs ≡ Some x → find p (xs ++ ys) ≡ Some x) → cond t (Some y) (find p (xs ++ ys)) ≡ Some x
    by true e later = e
    by false e later = later e

find_none : {A : Type 0} (p : A → Bool) (xs ys : List A) → find p xs ≡ None → find p (xs ++ ys) ≡ find p ys
find_none p [] ys e = refl
find_none {A} p (y ∷ xs) ys e = by (p y) e (find_none p xs ys)
  where
    by : (t : Bool) → cond t (Some y) (find p xs) ≡ None → (find p xs ≡ None → find p (xs ++ ys) ≡ find p ys) → cond t (Some y) (find p (xs ++ ys)) ≡ find p ys
    by true e later = absurd (cc)
    by false e later = later e

-- Half-spaces. -------------------------------------------------------------------------------------------------------------------------------

agree : {S : Type 0} (t k : Bool) → Decides k S → (IsTrue t ↔ S) → k ≡ t
agree true true d e = refl
agree true false d e = absurd (true≢false (sym (d.1 (e.0 refl))))
agree false true d e = absurd (true≢false (sym (e.1 (d.0 refl))))
agree false false d e = refl

pub same_is : (t : Bool) (f g : ThreePoints) → IsBound f → IsBound g → (IsTrue t ↔ SameHalfSpace (half_space f) (half_space g)) → have_one_half_space f g ≡ t
same_is t f g p q e = agree t (have_one_half_space f g) (same_half_space (half_space f) (half_space g) p q) e

pub face_bound : (faces : List Face) → Proper (half_spaces faces) → (f : Face) → f ∈ faces → IsBound f.plane
face_bound faces proper f i = proper (half_space f.plane) (map_in (λ f. half_space f.plane) faces f i)

pub side_bounds : (sides : List Side) → IsSolid sides → (planes : List ThreePoints) → planes ≡ map (λ side. side.plane) sides → Every IsBound planes
side_bounds sides is planes e t i =
    let v = is.brush in
    let x = in_map (λ (side : Side). side.plane) sides t (subst (λ l. t ∈ l) e i) in
    subst IsBound (sym x.2) (trimmed_proper (solid.half_spaces sides) v.volume.at v.trimmed v.volume.inside (half_space x.0.plane) (map_in bounds sides x.0 x.1))

-- The faces of several brushes. -------------------------------------------------------------------------------------------------------------

module _ (m : Whole) (ns : List ℕ) (t : ThreePoints) where
  pub record Searching (i : ℕ) : Type 0 where
    pub rest : face_in (all_faces m (drop i ns)) t ≡ face_in (all_faces m ns) t

  module _ (i n : ℕ) (faces : List Face) (lt : i < length ns) (is : n ≡ get_or ns i n) (s : Searching i) (these : faces ≡ faces_at m n) where
    these_next : face_in (faces ++ all_faces m (drop (suc i) ns)) t ≡ face_in (all_faces m ns) t
    these_next =
        ap (λ l. face_in (l ++ all_faces m (drop (suc i) ns)) t) (these ∙ ap (faces_at m) is)
        ∙ sym (ap (λ l. face_in (all_faces m l) t) (drop-cons ns i n lt)) ∙ s.rest

    pub that_face : (f : Face) → Some f ≡ face_in faces t → Some f ≡ face_in (all_faces m ns) t
    that_face f e = sym (find_some (λ f. have_one_half_space f.plane t) faces (all_faces m (drop (suc i) ns)) f (sym e)) ∙ these_next

    pub no_face : None ≡ face_in faces t → Searching (i + 1)
    no_face e = record {
      rest = ap (λ k. face_in (all_faces m (drop k ns)) t) (add-one i) ∙ sym (find_none (λ f. have_one_half_space f.plane t) faces (all_faces m (drop (suc i) ns)) (sym e)) ∙ these_next;
    }

  pub nowhere : (i : ℕ) → length ns ≤ i → Searching i → None ≡ face_in (all_faces m ns) t
  nowhere i le s = sym (ap (λ l. face_in (all_faces m l) t) (drop_all i ns le)) ∙ s.rest

-- Fields. -------------------------------------------------------------------------------------------------------------------------------------

pub if_ok : {A E : Type 0} (P Q : A → Type 0) → ((x : A) → P x → Q x) → (r : Result A E) → IfOk r P → IfOk r Q
if_ok P Q f (Ok x) h = f x h
if_ok P Q f (Err e) h = tt

module _ (s : Settings) (m : Whole) (given : List Face) (t : ThreePoints) where
  abbrev chosen : Option Face → Face
  chosen o = elim o as (λ o. Face) [ None ↦ plain_face s m t | Some f ↦ record f { plane = t } ]

  pub given_fields : (f : Face) → Some f ≡ face_in given t → (face : Face) → face ≡ record f { plane = t } → face ≡ fields_for s m given t
  given_fields f e face is = is ∙ ap chosen e

  pub plain_fields : None ≡ face_in given t → (face : Face) → face ≡ plain_face s m t → face ≡ fields_for s m given t
  plain_fields e face is = is ∙ ap chosen e

  pub fields_plane : (fields_for s m given t).plane ≡ t
  fields_plane = by (face_in given t)
    where
      by : (o : Option Face) → (chosen o).plane ≡ t
      by None = refl
      by (Some f) = refl
