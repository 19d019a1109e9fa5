-- What is made of the faces of a file's brush by points is what they are judged to be.
use Rattle.std.proofs.Common.{◌≡◌, ℕ, zero, suc, ◌<◌, ◌≤◌, Bool, true, false, true≢false, ◌&&◌, nat_le, if◌then◌else◌, List, [], ◌∷◌, map, length, get_or, drop, is_ok, Option, Some, None, Result, Ok, Err, refl, ap, sym, subst, ◌∙◌, arith, pos, ◌<ℤ◌}
use Rattle.std.specs.Option.{option_map_or}
use Rattle.std.specs.Bool.{Decides}
use Rattle.std.specs.List.{list_all}
use Rattle.std.proofs.lemmas.Bool.{and_parts}
use Rattle.std.proofs.lemmas.Bool.Decides.{Decides-like}
use Rattle.std.proofs.lemmas.List.{length-map}
use Rattle.algebra.specs.Members.{◌∈◌, here, there, Every}
use Rattle.algebra.specs.Space.{HalfSpace, Homogeneous, dot}
use Rattle.algebra.specs.World.{InCube, world, reach}
use Rattle.exact_geom.specs.Planes.{ThreePoints, plane_of, half_space, first_out_of_range, is_flat, IsPlane}
use Rattle.exact_geom.specs.declared.plane.PlaneFault.{PlaneFault}
use Rattle.exact_geom.specs.declared.plane.PlaneFault.TheVariants.{PointRange, Flat}
use Rattle.exact_geom.proofs.PlaneLaws.{normal_positive}
use Rattle.trim_laws.specs.Solid.{IsIn, Proper, Bounded}
use Rattle.trim_laws.specs.Trim.{IsKept, keeps, Trim, TrimsFaces, no_faces, keeps_face, drops_face, TrimFaces}
use Rattle.trim_laws.specs.Valid.{Valid, HasInside, NoVolume, OutOfWorld, HasCause, no_volume, out_of_world, too_many_faces, is_no_volume, is_out_of_world, is_too_many}
use Rattle.trim_laws.proofs.Bearing.{in_of_inside}
use Rattle.trim_laws.proofs.Once.{valid}
use Rattle.trim_laws.proofs.Trimmed.{trim, trim_back}
use Rattle.trim_laws.proofs.Faces.{trim_faces}
use Rattle.vertex_laws.specs.Cube.{cube, boxed}
use Rattle.vertex_laws.proofs.Box.{box_volume}
use Rattle.vertex_laws.proofs.Cube.{cube_bounded, in_cube}
use Rattle.solid_laws.proofs.World.{world_bounded}
use Rattle.solid_laws.proofs.FourFaces.{four_faces}
use Rattle.map_text.specs.declared.document.Reason.TheVariants.{Volume, World, Faces as TooMany}
use Rattle.map_text.specs.declared.document.RawBrush.TheVariants.{Faces}
use Rattle.map_text.specs.Spelled.{is_spelled_brush, is_savable_face, is_savable_texture}
use Rattle.map_lex.specs.OneToken.{is_material_text}
use Rattle.solid_brush.specs.declared.side.Side.{Side}
use Rattle.solid_brush.specs.Sides.{bounds, HaveTags, IsSolid, IsBuiltOf}
use Rattle.solid_brush.specs.Sides as solid
use Rattle.map_nodes.specs.Seen.{sides_from, sides_of}
use Rattle.map_nodes.proofs.FaceSides.{spaces, sides_length, have_tags, tags_within, kept_of, whole_kept}
use Rattle.exact_geom.specs.declared.point.Point.{Point}
use Rattle.map_model.specs.Faces.{Face, StandardFields}
use Rattle.map_model.specs.Shape.{half_spaces}
use Rattle.map_model.specs.Below.{Below, IsRight}
use Rattle.map_model.specs.Judged.{faces_judged}
use Rattle.map_model.specs.Brushes.{trimmed}
use Rattle.map_model.specs.Meant as meant
use Rattle.map_model.specs.Computed.{is_in}
use Rattle.map_model.proofs.Right.{is_in_tells, is_solid, solid_right}
use Rattle.map_model.proofs.Members.{right_in}
use Rattle.map_model.proofs.Meaning.{judged_law, trimmed_law}
use Rattle.file_laws.proofs.Lists.{of_map}

-- ---- planes

made : Option ℕ → Bool → ThreePoints → Result ThreePoints PlaneFault
made o flat t = option_map_or (λ k. Err (PointRange k)) o (if flat then Err Flat else Ok t)

plane_made : (o : Option ℕ) (flat : Bool) (t : ThreePoints) → is_ok (made o flat t) ≡ true → made o flat t ≡ Ok t
unfolding made
plane_made None true t h = absurd (cc h)
plane_made None false t h = refl
plane_made (Some k) flat t h = absurd (cc h)

pub plane_is : (t : ThreePoints) → is_ok (plane_of t) ≡ true → IsPlane t
unfolding made
plane_is t h = plane_made (first_out_of_range t) (is_flat t) t h

pub each_passes : {A : Type 0} (p : A → Bool) (xs : List A) → list_all p xs ≡ true → (x : A) → x ∈ xs → p x ≡ true
each_passes p [] h x i = elim i [ ]
each_passes p (y ∷ xs) h x here = (and_parts (p y) (list_all p xs) h).0
each_passes p (y ∷ xs) h x (there i) = each_passes p xs (and_parts (p y) (list_all p xs) h).1 x i

pub spelled_faces : (fs : List Face) → is_spelled_brush (Faces fs) ≡ true → (length fs ≤ 256) × (list_all is_savable_face fs ≡ true)
spelled_faces fs h = let r = and_parts (nat_le (length fs) 256) (list_all is_savable_face fs) h in (Rattle.std.proofs.lemmas.Bool.leb-true (length fs) 256 r.0, r.1)

pub proper_of : (fs : List Face) → list_all is_savable_face fs ≡ true → Proper (half_spaces fs)
proper_of fs h F i =
    let r = of_map (λ f. half_space f.plane) fs F i in
    subst (λ (k : HalfSpace). pos 0 <ℤ dot k.normal k.normal) (sym r.2)
    (normal_positive r.0.plane (plane_is r.0.plane (and_parts (is_ok (plane_of r.0.plane)) (is_material_text r.0.material && is_savable_texture r.0.tex) (each_passes is_savable_face fs h r.0 r.1)).0))

-- ---- faces of sides

module _ (f : Side → Face) (all : List Side) (agree : (s : Side) → s ∈ all → bounds s ≡ half_space (f s).plane) where
  planes : (xs : List Side) → ((s : Side) → s ∈ xs → s ∈ all) → map bounds xs ≡ map meant.plane_of (map f xs)
  planes [] sub = refl
  planes (s ∷ xs) sub = λ i. agree s (sub s here) i ∷ planes xs (λ t j. sub t (there j)) i

  kept_too : (earlier : List Side) (s : Side) → ((t : Side) → t ∈ earlier → t ∈ all) → s ∈ all →
      IsKept (map bounds all) (map bounds earlier) (bounds s) ≡ IsKept (map meant.plane_of (map f all)) (map meant.plane_of (map f earlier)) (meant.plane_of (f s))
  kept_too earlier s sub i = λ j. IsKept (planes all (λ t k. k) j) (planes earlier sub j) (agree s i j)

  more_earlier : (earlier : List Side) (s : Side) → ((t : Side) → t ∈ earlier → t ∈ all) → s ∈ all → (t : Side) → t ∈ (s ∷ earlier) → t ∈ all
  more_earlier earlier s sub i t here = i
  more_earlier earlier s sub i t (there j) = sub t j

  faces_trim : {earlier rest kept : List Side} → ((t : Side) → t ∈ earlier → t ∈ all) → ((t : Side) → t ∈ rest → t ∈ all) → TrimsFaces bounds all earlier rest kept →
      TrimsFaces meant.plane_of (map f all) (map f earlier) (map f rest) (map f kept)
  faces_trim se sr no_faces = no_faces
  faces_trim {earlier} se sr (keeps_face {f = s} k t) =
      keeps_face (subst (λ (T : Type 0). T) (kept_too earlier s se (sr s here)) k) (faces_trim (more_earlier earlier s se (sr s here)) (λ u j. sr u (there j)) t)
  faces_trim {earlier} se sr (drops_face {f = s} k t) =
      drops_face (λ l. k (subst (λ (T : Type 0). T) (sym (kept_too earlier s se (sr s here))) l)) (faces_trim (more_earlier earlier s se (sr s here)) (λ u j. sr u (there j)) t)

rest_at : (all : List Face) (k : ℕ) (f d : Face) (fs : List Face) → drop k all ≡ f ∷ fs → (get_or all k d ≡ f) × (drop (suc k) all ≡ fs)
rest_at [] zero f d fs e = absurd (cc e)
rest_at [] (suc k) f d fs e = absurd (cc e)
rest_at (g ∷ all) zero f d fs e = (let x = e in cc, let x = e in cc)
rest_at (g ∷ all) (suc k) f d fs e = rest_at all k f d fs e

faces_named : (all : List Face) (d : Face) (k : ℕ) (fs : List Face) → drop k all ≡ fs → map (λ s. get_or all s.tag d) (sides_from k fs) ≡ fs
faces_named all d k [] e = refl
faces_named all d k (f ∷ fs) e = let r = rest_at all k f d fs e in λ i. r.0 i ∷ faces_named all d (suc k) fs r.1 i

planes_named : (all : List Face) (d : Face) (k : ℕ) (fs : List Face) → drop k all ≡ fs → (s : Side) → s ∈ sides_from k fs → bounds s ≡ half_space (get_or all s.tag d).plane
planes_named all d k [] e s i = elim i [ ]
planes_named all d k (f ∷ fs) e s here = ap (λ g. half_space g.plane) (sym (rest_at all k f d fs e).0)
planes_named all d k (f ∷ fs) e s (there i) = planes_named all d (suc k) fs (rest_at all k f d fs e).1 s i

-- the faces that the kept sides stand for are the trimmed faces
pub faces_kept : (fs : List Face) (d : Face) (s : List Side) → TrimFaces bounds (sides_of fs) s → TrimFaces meant.plane_of fs (map (λ x. get_or fs x.tag d) s)
faces_kept fs d s t =
    subst (λ (all : List Face). TrimFaces meant.plane_of all (map (λ x. get_or fs x.tag d) s)) (faces_named fs d 0 fs refl)
    (faces_trim (λ x. get_or fs x.tag d) (sides_of fs) (planes_named fs d 0 fs refl) (λ u j. elim j [ ]) (λ u j. j) t)

-- ---- volume, and the world

stable : {P : Type 0} (t : Bool) → Decides t P → ((P → ⊥) → ⊥) → P
stable true d h = d.0 refl
stable false d h = absurd (h (λ p. true≢false (sym (d.1 p))))

boxed_bounded : (F : List HalfSpace) → Bounded (boxed reach F)
boxed_bounded F = cube_bounded (boxed reach F) reach (λ f m. left f m)
  where
    left : (f : HalfSpace) → f ∈ cube reach → f ∈ boxed reach F
    left f here = here
    left f (there here) = there here
    left f (there (there here)) = there (there here)
    left f (there (there (there here))) = there (there (there here))
    left f (there (there (there (there here)))) = there (there (there (there here)))
    left f (there (there (there (there (there here))))) = there (there (there (there (there here))))
    left f (there (there (there (there (there (there m)))))) = elim m [ ]

pub inside_of : (F : List HalfSpace) → ¬ (NoVolume F) → HasInside F
inside_of F some =
    let o = stable (is_solid (boxed reach F)) (solid_right (boxed reach F) (boxed_bounded F)) (λ none. some ((box_volume F).1 none)) in
    record { at = o.at; inside = record { weight = o.inside.weight; all = λ f m. o.inside.all f (right_in (cube reach) F f m) } }

pub within_of : (F : List HalfSpace) → ¬ (OutOfWorld F) → (p : Homogeneous) → IsIn F p → InCube world p
within_of F stays p i =
    stable (is_in (cube world) p)
    (Decides-like (is_in (cube world) p) (λ k. (in_cube world p i.weight).0 (record { weight = i.weight; all = k })) (λ c. ((in_cube world p i.weight).1 c).all) (is_in_tells (cube world) p))
    (λ n. stays (record { at = p; is_in = i; outside = n }))

pub bounded_of : (F : List HalfSpace) → ¬ (NoVolume F) → ¬ (OutOfWorld F) → Bounded F
bounded_of F some stays = let o = inside_of F some in world_bounded F o.at (in_of_inside o.inside) (within_of F stays)

-- what trimming leaves of a list that no cause refuses is a brush
pub valid_of : (F G : List HalfSpace) → Proper F → ¬ (NoVolume F) → ¬ (OutOfWorld F) → Trim F G → length G ≤ 128 → Valid G
valid_of F G proper some stays t l =
    let o = inside_of F some in
    valid F G o.at proper o.inside (within_of F stays) t
    (four_faces G (world_bounded G o.at (trim_back F G o.at t (in_of_inside o.inside)) (λ p i. within_of F stays p (trim F G o.at p proper o.inside t i)))) l

-- ---- judging

pub judged_good : (fs kept : List Face) → Proper (half_spaces fs) → ¬ (NoVolume (half_spaces fs)) → ¬ (OutOfWorld (half_spaces fs)) → TrimFaces meant.plane_of fs kept → length kept ≤ 128 →
    (b : Below) → IsRight b → faces_judged b fs ≡ Ok kept
judged_good fs kept proper some stays t few b right = (judged_law b fs right proper).good kept some stays (bounded_of (half_spaces fs) some stays) t few

pub judged_empty : (fs : List Face) → Proper (half_spaces fs) → HasCause (half_spaces fs) no_volume → (b : Below) → IsRight b → faces_judged b fs ≡ Err Volume
judged_empty fs proper (is_no_volume none) b right = (judged_law b fs right proper).empty none

pub judged_outside : (fs : List Face) → Proper (half_spaces fs) → HasCause (half_spaces fs) out_of_world → (b : Below) → IsRight b → faces_judged b fs ≡ Err World
judged_outside fs proper (is_out_of_world some out) b right = (judged_law b fs right proper).outside some out

pub judged_many : (fs : List Face) (n : ℕ) → Proper (half_spaces fs) → HasCause (half_spaces fs) (too_many_faces n) → (b : Below) → IsRight b → faces_judged b fs ≡ Err TooMany
judged_many fs n proper (is_too_many some stays many) b right =
    let bounded = bounded_of (half_spaces fs) some stays in
    let t = trimmed_law b fs right proper bounded in
    let same : map meant.plane_of (trimmed b fs) ≡ many.kept = Rattle.trim_laws.proofs.Once.trim_unique (half_spaces fs) (map meant.plane_of (trimmed b fs)) many.kept (trim_faces Face meant.plane_of fs (trimmed b fs) t).half_spaces many.trim in
    (judged_law b fs right proper).many (trimmed b fs) some stays bounded t
    (let e = length-map (trimmed b fs) meant.plane_of in let k = ap length same in let c = many.count in let a = many.above in omega arith)

-- ---- what the code asks

-- the faces of a brush are all needed
pub all_needed : (fs : List Face) → Valid (half_spaces fs) → (TrimFaces meant.plane_of fs fs) × (length fs ≤ 128)
all_needed fs ok =
    let e = length-map fs meant.plane_of in
    let most = ok.most in
    (whole_kept meant.plane_of fs [] fs (omega arith) ok.trimmed, omega arith)

-- a solid that has all of the sides is a brush with these faces
pub solid_of_all : (fs : List Face) (s : List Side) → IsSolid s → s ≡ sides_of fs → Valid (half_spaces fs)
solid_of_all fs s ok e = subst Valid (ap solid.half_spaces e ∙ spaces 0 fs) ok.brush

-- some face, for places that no list has
some_point : Point
some_point = record { x = pos 0; y = pos 0; z = pos 0 }

pub some_face : Face
some_face = record {
  plane = record { p0 = some_point; p1 = some_point; p2 = some_point };
  material = [];
  tex = StandardFields (record { off = []; rotation = pos 0; scale = []; surface = None });
}

planes_of_copies : (fs : List Face) (ss : List Side) → ((s : Side) → s ∈ ss → s ∈ sides_of fs) → half_spaces (map (λ s. get_or fs s.tag some_face) ss) ≡ solid.half_spaces ss
planes_of_copies fs [] sub = refl
planes_of_copies fs (s ∷ ss) sub = λ i. sym (planes_named fs some_face 0 fs refl s (sub s here)) i ∷ planes_of_copies fs ss (λ t j. sub t (there j)) i

-- the copies of the faces that a solid's sides stand for are those of a brush
pub record Copied (fs copies : List Face) : Type 0 where
  pub valid : Valid (half_spaces copies)
  pub needed : TrimFaces meant.plane_of fs copies
  pub few : length copies ≤ 128

pub copied : (fs copies : List Face) (s : List Side) → IsSolid s → IsBuiltOf (sides_of fs) s → copies ≡ map (λ x. get_or fs x.tag some_face) s → Copied fs copies
copied fs copies s ok built e =
    let spaces_are = ap half_spaces e ∙ planes_of_copies fs s (λ t j. kept_of built.trim t j) in
    let most = ok.brush.most in
    let a = length-map s bounds in
    let b = length-map s (λ x. get_or fs x.tag some_face) in
    let c = ap length e in
    record {
      valid = subst Valid (sym spaces_are) ok.brush;
      needed = subst (λ (l : List Face). TrimFaces meant.plane_of fs l) (sym e) (faces_kept fs some_face s built.trim);
      few = omega arith;
    }

-- tags that trimming keeps are within
pub kept_within : (fs : List Face) (s : List Side) → IsBuiltOf (sides_of fs) s → Every (λ x. x.tag < length fs) s
kept_within fs s built x i = tags_within fs x (kept_of built.trim x i)

-- ---- what the code answers

module _ (fs : List Face) (sides : List Side) (e : sides ≡ sides_of fs) (h : is_spelled_brush (Faces fs) ≡ true) where
  spaces_are : solid.half_spaces sides ≡ half_spaces fs
  spaces_are = ap solid.half_spaces e ∙ spaces 0 fs

  pub few_sides : length sides ≤ 256
  few_sides = let a = ap length e in let b = sides_length 0 fs in let c = (spelled_faces fs h).0 in omega arith

  pub sides_have_tags : HaveTags sides
  sides_have_tags = subst HaveTags (sym e) (have_tags fs (spelled_faces fs h).0)

  pub ok_judged : (kept : List Face) (s : List Side) → IsBuiltOf sides s → TrimFaces meant.plane_of fs kept → length kept ≤ 128 → (b : Below) → IsRight b → faces_judged b fs ≡ Ok kept
  ok_judged kept s built t few b right =
      judged_good fs kept (proper_of fs (spelled_faces fs h).1) some
      (λ out. built.accepted out_of_world (subst (λ F. HasCause F out_of_world) (sym spaces_are) (is_out_of_world some out)))
      t few b right
    where
      some : ¬ (NoVolume (half_spaces fs))
      some none = built.accepted no_volume (subst (λ F. HasCause F no_volume) (sym spaces_are) (is_no_volume none))

  pub empty_judged : HasCause (solid.half_spaces sides) no_volume → (b : Below) → IsRight b → faces_judged b fs ≡ Err Volume
  empty_judged c b right = judged_empty fs (proper_of fs (spelled_faces fs h).1) (subst (λ F. HasCause F no_volume) spaces_are c) b right

  pub outside_judged : HasCause (solid.half_spaces sides) out_of_world → (b : Below) → IsRight b → faces_judged b fs ≡ Err World
  outside_judged c b right = judged_outside fs (proper_of fs (spelled_faces fs h).1) (subst (λ F. HasCause F out_of_world) spaces_are c) b right

  pub many_judged : (n : ℕ) → HasCause (solid.half_spaces sides) (too_many_faces n) → (b : Below) → IsRight b → faces_judged b fs ≡ Err TooMany
  many_judged n c b right = judged_many fs n (proper_of fs (spelled_faces fs h).1) (subst (λ F. HasCause F (too_many_faces n)) spaces_are c) b right
