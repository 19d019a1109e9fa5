-- A plane with no vertex in front.
use Rattle.std.proofs.Common.{◌≡◌, List, arith, ⊎_elim, pos, ◌<ℤ◌}
use Rattle.std.proofs.lemmas.Int.{ints, by_lt_z}
use Rattle.algebra.specs.Members.{◌∈◌}
use Rattle.algebra.specs.Space.{HalfSpace, dot, side, go, SameHalfSpace}
use Rattle.algebra.proofs.Identities.{side-go}
use Rattle.algebra.proofs.Points.{weight-go}
use Rattle.trim_laws.specs.Solid.{IsIn, Proper}
use Rattle.trim_laws.specs.Trim.{Bears}
use Rattle.trim_laws.proofs.Bearing.{bears_in}
use Rattle.trim_laws.proofs.Steps.{small, step_short, step_front, below_le}
use Rattle.trim_laws.proofs.SameHalfSpace.{same_sym, same_of_times, times_of_parallel, parallel_of_same}
use Rattle.vertex_laws.proofs.TrimVertex.{parallel_or_crosses}
use Rattle.cut_laws.specs.Cut.{back}
use Rattle.cut_laws.specs.Laws.{MissedNewLaw, MissedOldLaw}
use Rattle.cut_laws.proofs.Backs.{each_of_back, in_left, in_last}
use Rattle.cut_laws.proofs.Alone.{Alone, off, parallel, crossed_at}
use Rattle.cut_laws.proofs.CutFace.{missed}

pub missed_new : MissedNewLaw
missed_new F P b r s h e n =
    let q = e.at in
    let k = small (λ (g : HalfSpace). side g q) (λ g. dot g.normal P.normal) F in
    let p = go k.n (pos 1) q P.normal in
    let i : IsIn F p = record {
      weight = weight-go k.n (pos 1) q P.normal k.positive e.weight;
      all = λ f m. below_le (rw side-go (step_short k.n (side f q) (dot f.normal P.normal) (k.below f m (e.others f (in_left F P f m) (λ z. n f m (same_sym z))))));
    } in
    let l : pos 0 <ℤ side P p = rw side-go (step_front k.n (side P q) (dot P.normal P.normal) e.on s) in
    let j = (missed F P b h p i).all P (in_last F P) in absurd (omega (arith, ints))

pub alone_at : (F : List HalfSpace) (f g : HalfSpace) → Proper F → f ∈ F → g ∈ F → (e : Bears F f) → Alone f e.at g
alone_at F f g r m n e = by_lt_z (side g e.at) (pos 0) (λ l. off l)
    (λ l. let k = (bears_in e).all g n in let z : side g e.at ≡ pos 0 = omega (arith, ints) in ⊎_elim
    (λ c. let d = e.others g n (λ s. let p = parallel_of_same f g s (r f m) in absurd (omega (arith, ints))) in absurd (omega (arith, ints)))
    (λ p. parallel z p) (parallel_or_crosses f.normal g.normal))

same_point_bears : (F : List HalfSpace) (P f : HalfSpace) (e : Bears F f) → (¬ (SameHalfSpace f P) → side P e.at <ℤ pos 0) → Bears (back F P) f
same_point_bears F P f e h = record { at = e.at; weight = e.weight; on = e.on; others = each_of_back (λ g. ¬ (SameHalfSpace f g) → side g e.at <ℤ pos 0) F P e.others h }

pub missed_old : MissedOldLaw
missed_old F P f o b r m i l h e = same_point_bears F P f e (λ n. by_lt_z (side P e.at) (pos 0) (λ d. d)
    (λ d. let k = (missed F P b h e.at (bears_in e)).all P (in_last F P) in let z : side P e.at ≡ pos 0 = omega (arith, ints) in ⊎_elim
    (λ c. let x = crossed_at F P f o e.at b i r m (bears_in e) e.on z c (λ g j. alone_at F f g r m j e) in let y = h x.b x.b_vertex in let w = x.ahead in absurd (omega (arith, ints)))
    (λ p. absurd (n (same_of_times f P (times_of_parallel f P o e.at e.weight e.on z (i.all f m) l p))))
    (parallel_or_crosses f.normal P.normal)))
