-- The sides of a brush's faces bound the half-spaces of the faces.
use Rattle.std.proofs.Common.{◌≡◌, ℕ, zero, suc, ◌+◌, ◌<◌, ◌≤◌, List, [], ◌∷◌, length, Some, get_or, refl, ap, ap₂, sym, subst, ◌∙◌, arith}
use Rattle.std.specs.Prelude.{slice_get}
use Rattle.std.specs.List.{enumerate_from}
use Rattle.std.proofs.lemmas.List.{length-map}
use Rattle.exact_geom.specs.Planes.{half_space}
use Rattle.trim_laws.specs.Valid.{Valid}
use Rattle.solid_brush.specs.Sides.{half_spaces as of_sides}
use Rattle.map_nodes.specs.Seen.{sides_from}
use Rattle.map_model.specs.Faces.{Face}
use Rattle.map_model.specs.Shape.{half_spaces}

pub same_spaces : (k : ℕ) (fs : List Face) → of_sides (sides_from k fs) ≡ half_spaces fs
same_spaces k [] = refl
same_spaces k (f ∷ fs) = ap (λ l. half_space f.plane ∷ l) (same_spaces (suc k) fs)

pub face_at : (fs : List Face) (k : ℕ) (f : Face) → k < length fs → f ≡ get_or fs k f → slice_get (half_spaces fs) k ≡ Some (half_space f.plane)
face_at [] k f h e = absurd (omega arith)
face_at (g ∷ fs) zero f h e = ap (λ (x : Face). Some (half_space x.plane)) (sym e)
face_at (g ∷ fs) (suc k) f h e = face_at fs k f (omega arith) e

pub numbered_at : (i : ℕ) (fs : List Face) (k : ℕ) (f : Face) → k < length fs → f ≡ get_or fs k f → slice_get (enumerate_from i fs) k ≡ Some (i + k, f)
numbered_at i [] k f h e = absurd (omega arith)
numbered_at i (g ∷ fs) zero f h e = let n : i ≡ i + 0 = omega arith in ap₂ (λ m x. Some (m, x)) n (sym e)
numbered_at i (g ∷ fs) (suc k) f h e =
    let n : (i + 1) + k ≡ i + suc k = omega arith in numbered_at (i + 1) fs k f (omega arith) e ∙ ap (λ m. Some (m, f)) n

pub few_faces : (fs : List Face) → Valid (of_sides (sides_from 0 fs)) → length fs ≤ 128
few_faces fs valid =
    let most = valid.most in let e = ap length (same_spaces 0 fs) in let n = length-map fs (λ (f : Face). half_space f.plane) in omega arith

pub valid_faces : (fs : List Face) → Valid (of_sides (sides_from 0 fs)) → Valid (half_spaces fs)
valid_faces fs valid = subst Valid (same_spaces 0 fs) valid
