-- Faces and their sides, and what is built of them.
use Rattle.std.proofs.Common.{◌≡◌, ℕ, suc, ◌+◌, ◌<◌, ◌≤◌, List, [], ◌∷◌, ◌++◌, map, length, get_or, take, refl, ap, sym, subst, ◌∙◌, arith, zero-add}
use Rattle.std.proofs.lemmas.List.{length-map, take_more, length-take-le}
use Rattle.algebra.specs.Members.{◌∈◌, here, there}
use Rattle.algebra.specs.Space.{HalfSpace}
use Rattle.exact_geom.specs.Planes.{half_space}
use Rattle.trim_laws.specs.Trim.{Trims, ends, keeps, drops, Trim, TrimsFaces, no_faces, keeps_face}
use Rattle.trim_laws.specs.Valid.{OutOfWorld, Cause, HasCause, no_volume, out_of_world, too_many_faces, is_no_volume, is_out_of_world, is_too_many}
use Rattle.trim_laws.proofs.Once.{trim_unique}
use Rattle.trim_laws.proofs.Faces.{trim_faces}
use Rattle.solid_brush.specs.declared.side.Side.{Side}
use Rattle.solid_brush.specs.declared.fault.BuildFault.TheVariants.{NoVolume as Empty, OutOfWorld as Outside, TooManyFaces as TooMany}
use Rattle.solid_brush.specs.Sides.{bounds, HaveTags, DistinctTags, no_sides, one_more_side, IsBuiltOf, IsRefusedFor}
use Rattle.solid_brush.specs.Sides as solid
use Rattle.map_nodes.specs.Seen.{sides_from, sides_of}
use Rattle.map_model.specs.Faces.{Face}
use Rattle.map_model.specs.Shape.{half_spaces}
use Rattle.brush_plans.specs.Bodies.{AreNeeded}

-- Sides have their places as tags. ---------------------------------------------------------------------------------------------

spaces : (k : ℕ) (fs : List Face) → solid.half_spaces (sides_from k fs) ≡ half_spaces fs
spaces k [] = refl
spaces k (f ∷ fs) = ap (λ F. half_space f.plane ∷ F) (spaces (suc k) fs)

pub sides_length : (k : ℕ) (fs : List Face) → length (sides_from k fs) ≡ length fs
sides_length k [] = refl
sides_length k (f ∷ fs) = ap suc (sides_length (suc k) fs)

tag_within : (k : ℕ) (fs : List Face) (s : Side) → s ∈ sides_from k fs → (k ≤ s.tag) × (s.tag < k + length fs)
tag_within k [] s i = elim i [ ]
tag_within k (f ∷ fs) s here = (omega arith, omega arith)
tag_within k (f ∷ fs) s (there i) = let r = tag_within (suc k) fs s i in let a = r.0 in let b = r.1 in (omega arith, omega arith)

tags_apart : (k : ℕ) (fs : List Face) → DistinctTags (sides_from k fs)
tags_apart k [] = no_sides
tags_apart k (f ∷ fs) = one_more_side (λ t i e. apart k t (tag_within (suc k) fs t i).0 e) (tags_apart (suc k) fs)
  where
    apart : (k : ℕ) (t : Side) → suc k ≤ t.tag → k ≡ t.tag → ⊥
    apart k t w e = omega arith

pub have_tags : (fs : List Face) → length fs ≤ 128 → HaveTags (sides_of fs)
have_tags fs few = record { distinct = tags_apart 0 fs; small = λ s i. let r = (tag_within 0 fs s i).1 in omega arith }

sides_append : (k : ℕ) (xs : List Face) (x : Face) → sides_from k (xs ++ x ∷ []) ≡ sides_from k xs ++ record { plane = x.plane; tag = k + length xs } ∷ []
sides_append k [] x = λ i. record { plane = x.plane; tag = (let e : k ≡ k + 0 = omega arith in e) i } ∷ []
sides_append k (y ∷ xs) x = ap (λ l. record { plane = y.plane; tag = k } ∷ l)
    (sides_append (suc k) xs x ∙ ap (λ n. sides_from (suc k) xs ++ record { plane = x.plane; tag = n } ∷ []) (let e : suc k + length xs ≡ k + suc (length xs) = omega arith in e))

-- One side more.
pub sides_more : (fs : List Face) (i : ℕ) (f : Face) → i < length fs → f ≡ get_or fs i f → sides_of (take (i + 1) fs) ≡ sides_of (take i fs) ++ record { plane = f.plane; tag = i } ∷ []
sides_more fs i f lt is =
    ap sides_of (take_more fs i f lt) ∙ sides_append 0 (take i fs) (get_or fs i f)
    ∙ (λ j. sides_of (take i fs) ++ record { plane = (sym is j).plane; tag = (zero-add (length (take i fs)) ∙ length-take-le i fs (let w : i ≤ length fs = omega arith in w)) j } ∷ [])

-- What is built of faces that are all needed. -----------------------------------------------------------------------------------

trims_fewer : {F earlier rest kept : List HalfSpace} → Trims F earlier rest kept → length kept ≤ length rest
trims_fewer ends = omega arith
trims_fewer (keeps k t) = let h = trims_fewer t in omega arith
trims_fewer (drops k t) = let h = trims_fewer t in omega arith

whole_kept : {A : Type 0} (plane : A → HalfSpace) (F earlier rest : List A) {kept : List HalfSpace} → length rest ≤ length kept → Trims (map plane F) (map plane earlier) (map plane rest) kept →
    TrimsFaces plane F earlier rest rest
whole_kept plane F earlier [] l t = no_faces
whole_kept plane F earlier (f ∷ rest) l (keeps k t) = keeps_face k (whole_kept plane F (f ∷ earlier) rest (omega arith) t)
whole_kept plane F earlier (f ∷ rest) l (drops k t) = let h = trims_fewer t in let e = length-map rest plane in absurd (omega arith)

module _ (fs : List Face) (needed : AreNeeded fs) where
  pub solid_is : (s : List Side) → IsBuiltOf (sides_of fs) s → s ≡ sides_of fs
  solid_is s built =
      let trimmed : Trim (solid.half_spaces (sides_of fs)) (solid.half_spaces (sides_of fs)) = subst (λ F. Trim F F) (sym (spaces 0 fs)) needed.trimmed in
      let all = whole_kept bounds (sides_of fs) [] (sides_of fs) (let e = length-map (sides_of fs) bounds in omega arith) trimmed in
      (trim_faces Side bounds (sides_of fs) s built.trim).only (sides_of fs) all

  -- The sides are built into these faces, which then stay in the world.
  pub stays : (s : List Side) → IsBuiltOf (sides_of fs) s → ¬ (OutOfWorld (half_spaces fs))
  stays s built out = built.accepted out_of_world (subst (λ F. HasCause F out_of_world) (sym (spaces 0 fs)) (is_out_of_world needed.volume out))

  -- Or they leave the world: no other refusal comes.
  module _ (sides : List Side) (is : sides ≡ sides_of fs) where
    cause_of : (c : Cause) → HasCause (solid.half_spaces sides) c → HasCause (half_spaces fs) c
    cause_of c h = subst (λ F. HasCause F c) (ap solid.half_spaces is ∙ spaces 0 fs) h

    pub leaves : IsRefusedFor (solid.half_spaces sides) Outside → OutOfWorld (half_spaces fs)
    leaves h = by (cause_of out_of_world h)
      where
        by : HasCause (half_spaces fs) out_of_world → OutOfWorld (half_spaces fs)
        by (is_out_of_world volume out) = out

    pub has_volume : IsRefusedFor (solid.half_spaces sides) Empty → ⊥
    has_volume h = by (cause_of no_volume h)
      where
        by : HasCause (half_spaces fs) no_volume → ⊥
        by (is_no_volume none) = needed.volume none

    pub has_few : (n : ℕ) → IsRefusedFor (solid.half_spaces sides) (TooMany n) → ⊥
    has_few n h = by (cause_of (too_many_faces n) h)
      where
        by : HasCause (half_spaces fs) (too_many_faces n) → ⊥
        by (is_too_many volume stays many) =
            let same = ap length (trim_unique (half_spaces fs) many.kept (half_spaces fs) many.trim needed.trimmed) in
            let count = length-map fs (λ f. half_space f.plane) in
            let above = many.above in let is = many.count in let most = needed.most in omega arith
