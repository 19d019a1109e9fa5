-- A list of planes that cut one after another.
use Rattle.std.proofs.Common.{◌≡◌, refl, ap, List, [], ◌∷◌, ◌++◌, arith, pos, ◌<ℤ◌, ◌≤ℤ◌}
use Rattle.std.proofs.lemmas.Int.{ints, by_lt_z}
use Rattle.algebra.specs.Members.{here, there}
use Rattle.algebra.specs.Space.{Homogeneous, HalfSpace, dot, side, go}
use Rattle.algebra.proofs.Identities.{side-go}
use Rattle.algebra.proofs.Points.{weight-go}
use Rattle.trim_laws.specs.Solid.{IsIn, IsInside, Bounded}
use Rattle.trim_laws.specs.Trim.{Trim}
use Rattle.trim_laws.proofs.Steps.{small, step_short, step_front, below_le}
use Rattle.trim_laws.proofs.Trimmed.{trimmed_in, trim_inside}
use Rattle.vertex_laws.specs.Vertex.{IsVertex}
use Rattle.vertex_laws.proofs.TrimVertex.{trim_vertex}
use Rattle.cut_laws.specs.Cut.{back}
use Rattle.cut_laws.proofs.Backs.{each_of_back, in_left, in_last, back_proper, back_bounded}
use Rattle.cut_laws.proofs.Bound.{trim_bounded}
use Rattle.cut_laws.proofs.CutFace.{missed, gone}
use Rattle.cut_laws.proofs.TrimStep.{trim_add, missed_trim}
use Rattle.poly_laws.specs.Cuts.{CutsOne, misses, halves, no_cut, then_cuts, TrimsTo, CutsLaw, CutsGoneLaw}

in_of_inside : (F : List HalfSpace) (o : Homogeneous) → IsInside F o → IsIn F o
in_of_inside F o i = record { weight = i.weight; all = λ f m. below_le (i.all f m) }

-- A point inside isn't only not in front of the plane, but behind it.
pub strictly : (G : List HalfSpace) (P : HalfSpace) (o : Homogeneous) → Bounded G → pos 0 <ℤ dot P.normal P.normal → IsInside G o → ((v : Homogeneous) → IsVertex G v → side P v ≤ℤ pos 0) → side P o <ℤ pos 0
strictly G P o b n i h = by_lt_z (side P o) (pos 0) (λ l. l)
    (λ d.
    let a = (missed G P b h o (in_of_inside G o i)).all P (in_last G P) in
    let z : side P o ≡ pos 0 = omega (arith, ints) in
    let k = small (λ (g : HalfSpace). side g o) (λ g. dot g.normal P.normal) G in
    let p = go k.n (pos 1) o P.normal in
    let j : IsIn G p = record {
      weight = weight-go k.n (pos 1) o P.normal k.positive i.weight;
      all = λ f m. below_le (rw side-go (step_short k.n (side f o) (dot f.normal P.normal) (k.below f m (i.all f m))));
    } in
    let l : pos 0 <ℤ side P p = rw side-go (step_front k.n (side P o) (dot P.normal P.normal) z n) in
    let c = (missed G P b h p j).all P (in_last G P) in absurd (omega (arith, ints)))

inside_trimmed : (L G : List HalfSpace) (o : Homogeneous) → Trim L G → IsInside L o → IsInside G o
inside_trimmed L G o t i = record { weight = i.weight; all = λ g m. i.all g (trimmed_in t g m) }

inside_left : (F : List HalfSpace) (P : HalfSpace) (o : Homogeneous) → IsInside (back F P) o → IsInside F o
inside_left F P o i = record { weight = i.weight; all = λ g m. i.all g (in_left F P g m) }

inside_both : (F : List HalfSpace) (P : HalfSpace) (o : Homogeneous) → IsInside F o → side P o <ℤ pos 0 → IsInside (back F P) o
inside_both F P o i l = record { weight = i.weight; all = each_of_back (λ g. side g o <ℤ pos 0) F P i.all l }

pub one : (L G H : List HalfSpace) (P : HalfSpace) → TrimsTo L G → pos 0 <ℤ dot P.normal P.normal → CutsOne G P H → TrimsTo (back L P) H
one L G H P t n (misses h) =
    let o = t.volume.at in let i = t.volume.inside in
    let b = trim_bounded L G o t.bounded t.proper i t.trim in
    let l = strictly G P o b n (inside_trimmed L G o t.trim i) h in record {
      proper = back_proper L P t.proper n;
      bounded = back_bounded L P t.bounded;
      volume = record { at = o; inside = inside_both L P o i l };
      trim = missed_trim L G P o t.bounded (back_proper L P t.proper n) i l (λ v w. h v (trim_vertex L G o v t.proper i t.trim w)) t.trim;
    }
one L G H P t n (halves w s) =
    let j = inside_both L P w.at (trim_inside L G t.volume.at w.at t.proper t.volume.inside t.trim (inside_left G P w.at w.inside)) (w.inside.all P (in_last G P)) in record {
      proper = back_proper L P t.proper n;
      bounded = back_bounded L P t.bounded;
      volume = record { at = w.at; inside = j };
      trim = trim_add L G H P w.at (back_proper L P t.proper n) j t.trim s;
    }

no_more : (xs : List HalfSpace) → xs ++ [] ≡ xs
no_more [] = refl
no_more (x ∷ xs) = ap (λ l. x ∷ l) (no_more xs)

back_more : (xs : List HalfSpace) (P : HalfSpace) (ys : List HalfSpace) → back xs P ++ ys ≡ xs ++ P ∷ ys
back_more [] P ys = refl
back_more (x ∷ xs) P ys = ap (λ l. x ∷ l) (back_more xs P ys)

pub cuts : CutsLaw
cuts L G [] H t r no_cut = rw (no_more L) t
cuts L G (P ∷ rest) H t r (then_cuts {M = M} c d) =
    let k = cuts (back L P) M rest H (one L G M P t (r P here) c) (λ f m. r f (there m)) d in
    rw (back_more L P rest) at k

pub cuts_gone : CutsGoneLaw
cuts_gone L G P t h o i =
    let b = trim_bounded L G t.volume.at t.bounded t.proper t.volume.inside t.trim in
    gone G P b h o (inside_both G P o (inside_trimmed L G o t.trim (inside_left L P o i)) (i.all P (in_last L P)))
