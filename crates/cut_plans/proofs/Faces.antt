-- The faces of sides: trimmed as the sides are.
use Rattle.std.proofs.Common.{◌≡◌, ℕ, zero, suc, ◌+◌, ◌-◌, ◌<◌, ◌≤◌, List, [], ◌∷◌, ◌++◌, length, map, get_or, cond, true, false, Bool, refl, ap, sym, subst, ◌∙◌, arith, ◌⊎◌, inl, inr, append_assoc, append-nil}
use Rattle.std.specs.Prelude.{nat_lt}
use Rattle.std.proofs.lemmas.Bool.{cases_lt}
use Rattle.std.proofs.lemmas.Bool.Decides.{nat_tests}
use Rattle.std.proofs.lemmas.List.{get_or_default}
use Rattle.algebra.specs.Members.{◌∈◌, here, there, Every}
use Rattle.algebra.specs.Space.{HalfSpace}
use Rattle.exact_geom.specs.Planes.{half_space}
use Rattle.trim_laws.specs.Trim.{TrimsFaces, no_faces, keeps_face, drops_face, TrimFaces, IsKept}
use Rattle.solid_brush.specs.declared.side.Side.{Side}
use Rattle.solid_brush.specs.Sides.{bounds}
use Rattle.solid_brush.specs.Sides as solid
use Rattle.map_nodes.specs.Seen.{sides_from, sides_of}
use Rattle.map_model.specs.Faces.{Face}
use Rattle.map_model.specs.Shape.{half_spaces}
use Rattle.map_model.specs.Meant.{plane_of}
use Rattle.cut_plans.specs.Told.{bare, told, face_of, faces_of, IsTold}

-- Sides of faces, one list behind another. ------------------------------------------------------------------------------------------

pub sides_joined : (k : ℕ) (xs ys : List Face) → sides_from k (xs ++ ys) ≡ sides_from k xs ++ sides_from (k + length xs) ys
sides_joined k [] ys = ap (λ j. sides_from j ys) (let e : k ≡ k + 0 = omega arith in e)
sides_joined k (x ∷ xs) ys = ap (λ l. record { plane = x.plane; tag = k } ∷ l)
    (sides_joined (suc k) xs ys ∙ ap (λ j. sides_from (suc k) xs ++ sides_from j ys) (let e : suc k + length xs ≡ k + suc (length xs) = omega arith in e))

pub spaces : (k : ℕ) (fs : List Face) → solid.half_spaces (sides_from k fs) ≡ half_spaces fs
spaces k [] = refl
spaces k (f ∷ fs) = ap (λ F. half_space f.plane ∷ F) (spaces (suc k) fs)

-- The faces that tags tell. ---------------------------------------------------------------------------------------------------------

below : (a b : ℕ) → a < b → nat_lt a b ≡ true
below a b lt = grind (arith, nat_tests)

not_below : (a b : ℕ) → b ≤ a → nat_lt a b ≡ false
not_below a b le = grind (arith, nat_tests)

at_end : {A : Type 0} (xs : List A) (x : A) (ys : List A) (d : A) → get_or (xs ++ x ∷ ys) (length xs) d ≡ x
at_end [] x ys d = refl
at_end (y ∷ xs) x ys d = at_end xs x ys d

longer : {A : Type 0} (xs : List A) (x : A) → length (xs ++ x ∷ []) ≡ suc (length xs)
longer [] x = refl
longer (y ∷ xs) x = ap suc (longer xs x)

within : {A : Type 0} (xs ys : List A) (x : A) → length xs < length (xs ++ x ∷ ys)
within [] ys x = omega arith
within (y ∷ xs) ys x = let h = within xs ys x in omega arith

told_old : (base : ℕ) (old new : List Face) (s : Side) (f : Face) → s.tag < base → get_or old s.tag bare ≡ f → s.plane ≡ f.plane → face_of base old new s ≡ f
told_old base old new s f lt e p =
    (λ i. record (cond (below s.tag base lt i) (get_or old s.tag bare) (get_or new (s.tag - base) bare)) { plane = s.plane })
    ∙ (λ i. record (e i) { plane = p i })

told_new : (base : ℕ) (old new : List Face) (s : Side) (f : Face) → base ≤ s.tag → get_or new (s.tag - base) bare ≡ f → s.plane ≡ f.plane → face_of base old new s ≡ f
told_new base old new s f le e p =
    (λ i. record (cond (not_below s.tag base le i) (get_or old s.tag bare) (get_or new (s.tag - base) bare)) { plane = s.plane })
    ∙ (λ i. record (e i) { plane = p i })

old_from : (base : ℕ) (old new first rest : List Face) → old ≡ first ++ rest → length old ≤ base → faces_of base old new (sides_from (length first) rest) ≡ rest
old_from base old new first [] is le = refl
old_from base old new first (f ∷ rest) is le =
    let s : Side = record { plane = f.plane; tag = length first } in
    let lt : length first < base = omega (arith, within first rest f, ap length is, le) in
    let this : face_of base old new s ≡ f = told_old base old new s f lt (ap (λ l. get_or l (length first) bare) is ∙ at_end first f rest bare) refl in
    let later : faces_of base old new (sides_from (length (first ++ f ∷ [])) rest) ≡ rest = old_from base old new (first ++ f ∷ []) rest (is ∙ sym (append_assoc first (f ∷ []) rest)) le in
    (λ i. this i ∷ faces_of base old new (sides_from (sym (longer first f) i) rest)) ∙ ap (λ l. f ∷ l) later

pub old_told : (base : ℕ) (old new : List Face) → length old ≤ base → faces_of base old new (sides_of old) ≡ old
old_told base old new le = old_from base old new [] old refl le

new_from : (base : ℕ) (old new first rest : List Face) → new ≡ first ++ rest → faces_of base old new (sides_from (base + length first) rest) ≡ rest
new_from base old new first [] is = refl
new_from base old new first (f ∷ rest) is =
    let s : Side = record { plane = f.plane; tag = base + length first } in
    let place : (base + length first) - base ≡ length first = omega arith in
    let this : face_of base old new s ≡ f = told_new base old new s f (omega arith) (ap (λ k. get_or new k bare) place ∙ ap (λ l. get_or l (length first) bare) is ∙ at_end first f rest bare) refl in
    let next : suc (base + length first) ≡ base + length (first ++ f ∷ []) = omega (arith, longer first f) in
    let later : faces_of base old new (sides_from (base + length (first ++ f ∷ [])) rest) ≡ rest = new_from base old new (first ++ f ∷ []) rest (is ∙ sym (append_assoc first (f ∷ []) rest)) in
    (λ i. this i ∷ faces_of base old new (sides_from (next i) rest)) ∙ ap (λ l. f ∷ l) later

pub new_told : (base : ℕ) (old new : List Face) → faces_of base old new (sides_from base new) ≡ new
new_told base old new = ap (λ k. faces_of base old new (sides_from k new)) (let e : base ≡ base + 0 = omega arith in e) ∙ new_from base old new [] new refl

pub faces_joined : (base : ℕ) (old new : List Face) (xs ys : List Side) → faces_of base old new (xs ++ ys) ≡ faces_of base old new xs ++ faces_of base old new ys
faces_joined base old new [] ys = refl
faces_joined base old new (x ∷ xs) ys = ap (λ l. face_of base old new x ∷ l) (faces_joined base old new xs ys)

-- The old faces and then the new ones.
pub all_told : (old new : List Face) → faces_of (length old) old new (sides_of (old ++ new)) ≡ old ++ new
all_told old new =
    ap (faces_of (length old) old new) (sides_joined 0 old new)
    ∙ faces_joined (length old) old new (sides_of old) (sides_from (0 + length old) new)
    ∙ (λ i. old_told (length old) old new (omega arith) i ++ faces_of (length old) old new (sides_from (let e : 0 + length old ≡ length old = omega arith in e i) new))
    ∙ ap (λ l. old ++ l) (new_told (length old) old new)

-- The face that a tag tells, within the list in which it stands.
pub old_within : (base : ℕ) (old new : List Face) (s : Side) → IsTold base old new s → s.tag < base → s.tag < length old
old_within base old new s (inl h) lt = h.1
old_within base old new s (inr h) lt = let le = h.0 in absurd (omega arith)

pub new_within : (base : ℕ) (old new : List Face) (s : Side) → IsTold base old new s → base ≤ s.tag → s.tag - base < length new
new_within base old new s (inl h) le = let lt = h.0 in absurd (omega arith)
new_within base old new s (inr h) le = h.1

pub told_below : (base : ℕ) (old new : List Face) (s : Side) (f : Face) → IsTold base old new s → s.tag < base → f ≡ get_or old s.tag f → f ≡ told base old new s
told_below base old new s f is lt e =
    e ∙ get_or_default old s.tag f bare (old_within base old new s is lt) ∙ sym (ap (λ t. cond t (get_or old s.tag bare) (get_or new (s.tag - base) bare)) (below s.tag base lt))

pub told_above : (base : ℕ) (old new : List Face) (s : Side) (f : Face) → IsTold base old new s → base ≤ s.tag → f ≡ get_or new (s.tag - base) f → f ≡ told base old new s
told_above base old new s f is le e =
    e ∙ get_or_default new (s.tag - base) f bare (new_within base old new s is le) ∙ sym (ap (λ t. cond t (get_or old s.tag bare) (get_or new (s.tag - base) bare)) (not_below s.tag base le))

-- The sides of faces have tags that tell them.
pub tag_within : (k : ℕ) (fs : List Face) (s : Side) → s ∈ sides_from k fs → (k ≤ s.tag) × (s.tag < k + length fs)
tag_within k [] s i = elim i [ ]
tag_within k (f ∷ fs) s here = (omega arith, omega arith)
tag_within k (f ∷ fs) s (there i) = let r = tag_within (suc k) fs s i in let a = r.0 in let b = r.1 in (omega arith, omega arith)

length-joined : {A : Type 0} (xs ys : List A) → length (xs ++ ys) ≡ length xs + length ys
length-joined [] ys = omega arith
length-joined (x ∷ xs) ys = let e = length-joined xs ys in omega arith

all_within : (base : ℕ) (old new : List Face) (s : Side) → base ≡ length old → (0 ≤ s.tag) × (s.tag < length (old ++ new)) → (s.tag < base) ⊎ (base ≤ s.tag) → IsTold base old new s
all_within base old new s e r (inl lt) = inl (lt, omega (arith, lt, e))
all_within base old new s e r (inr le) = inr (le, omega (arith, le, e, r.1, length-joined old new))

pub are_told : (base : ℕ) (old new : List Face) → base ≡ length old → Every (IsTold base old new) (sides_of (old ++ new))
are_told base old new e s i = all_within base old new s e (let r = (tag_within 0 (old ++ new) s i).1 in (omega arith, omega arith)) (cases_lt s.tag base)

-- Trimming. -------------------------------------------------------------------------------------------------------------------------

pub planes_told : (base : ℕ) (old new : List Face) (sides : List Side) → half_spaces (faces_of base old new sides) ≡ solid.half_spaces sides
planes_told base old new [] = refl
planes_told base old new (s ∷ sides) = ap (λ F. bounds s ∷ F) (planes_told base old new sides)

module _ (base : ℕ) (old new : List Face) where
  kept_face : (F earlier : List Side) (s : Side) → IsKept (map bounds F) (map bounds earlier) (bounds s) →
      IsKept (map plane_of (faces_of base old new F)) (map plane_of (faces_of base old new earlier)) (bounds s)
  kept_face F earlier s = subst (λ G. IsKept (map bounds F) (map bounds earlier) (bounds s) → IsKept G (map plane_of (faces_of base old new earlier)) (bounds s)) (sym (planes_told base old new F))
      (subst (λ G. IsKept (map bounds F) (map bounds earlier) (bounds s) → IsKept (map bounds F) G (bounds s)) (sym (planes_told base old new earlier)) (λ k. k))

  kept_side : (F earlier : List Side) (s : Side) → IsKept (map plane_of (faces_of base old new F)) (map plane_of (faces_of base old new earlier)) (bounds s) →
      IsKept (map bounds F) (map bounds earlier) (bounds s)
  kept_side F earlier s = subst (λ G. IsKept G (map plane_of (faces_of base old new earlier)) (bounds s) → IsKept (map bounds F) (map bounds earlier) (bounds s)) (sym (planes_told base old new F))
      (subst (λ G. IsKept (map bounds F) G (bounds s) → IsKept (map bounds F) (map bounds earlier) (bounds s)) (sym (planes_told base old new earlier)) (λ k. k))

  trims_told : (F earlier rest kept : List Side) → TrimsFaces bounds F earlier rest kept →
      TrimsFaces plane_of (faces_of base old new F) (faces_of base old new earlier) (faces_of base old new rest) (faces_of base old new kept)
  trims_told F earlier [] kept no_faces = no_faces
  trims_told F earlier (s ∷ rest) kept (keeps_face {kept = later} k t) = keeps_face (kept_face F earlier s k) (trims_told F (s ∷ earlier) rest later t)
  trims_told F earlier (s ∷ rest) kept (drops_face k t) = drops_face (λ h. k (kept_side F earlier s h)) (trims_told F (s ∷ earlier) rest kept t)

  -- The faces of the sides that trimming keeps are those that trimming the faces keeps.
  pub trim_told : (F kept : List Side) → TrimFaces bounds F kept → TrimFaces plane_of (faces_of base old new F) (faces_of base old new kept)
  trim_told F kept t = trims_told F [] F kept t

-- Kept sides are among the sides.
pub kept_among : {F earlier rest kept : List Side} (s : Side) → TrimsFaces bounds F earlier rest kept → s ∈ kept → s ∈ rest
kept_among s no_faces m = m
kept_among s (keeps_face k t) here = here
kept_among s (keeps_face k t) (there m) = there (kept_among s t m)
kept_among s (drops_face k t) m = there (kept_among s t m)
