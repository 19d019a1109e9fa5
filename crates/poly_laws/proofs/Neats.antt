-- Trimmed lists, and what cutting makes of them.
use Rattle.std.proofs.Common.{◌≡◌, refl, List, arith, pos, neg_ℤ, ◌+ℤ◌, ◌*ℤ◌, ◌<ℤ◌}
use Rattle.std.proofs.lemmas.Int.{ints}
use Rattle.algebra.specs.Members.{◌∈◌, here, there}
use Rattle.algebra.specs.Space.{Homogeneous, HalfSpace, side, mix, SameHalfSpace}
use Rattle.algebra.proofs.Orders.{nonneg_of_positive, positive-neg}
use Rattle.algebra.proofs.Identities.{side-mix}
use Rattle.algebra.proofs.Points.{mix-behind_right, weight-mix}
use Rattle.trim_laws.specs.Solid.{IsIn, IsInside}
use Rattle.trim_laws.specs.Trim.{Bears}
use Rattle.trim_laws.proofs.Once.{trim_again}
use Rattle.trim_laws.proofs.Steps.{square_and_1, toward_plain}
use Rattle.trim_laws.proofs.SameHalfSpace.{same_sym}
use Rattle.trim_laws.proofs.Trimmed.{trimmed_in}
use Rattle.vertex_laws.specs.Vertex.{VertexOnBehind}
use Rattle.vertex_laws.proofs.TrimVertex.{trim_vertex, trim_vertex_back}
use Rattle.cut_laws.specs.Cut.{back, Sifts, sift_end, sift_keep, sift_drop}
use Rattle.cut_laws.proofs.Backs.{each_of_back, in_left, in_last, back_proper, back_bounded}
use Rattle.cut_laws.proofs.Bound.{trim_bounded}
use Rattle.cut_laws.proofs.TrimStep.{AllKept, none_more, one_more, all_kept, halved_trim}
use Rattle.poly_laws.specs.Laws.{OfCut, keeps_face, adds_face, NeatLaw, CutListLaw}

-- ---- a trimmed list has each half-space once
bears_of : {G B rest : List HalfSpace} → AllKept G B rest → (f : HalfSpace) → f ∈ rest → Bears G f
bears_of none_more f m = elim m [ ]
bears_of (one_more k t) f here = k.bears
bears_of (one_more k t) f (there m) = bears_of t f m

later : {G B rest : List HalfSpace} → AllKept G B rest → (b g : HalfSpace) → b ∈ B → g ∈ rest → ¬ (SameHalfSpace b g)
later none_more b g m n = elim n [ ]
later (one_more k t) b g m here = k.first b m
later (one_more k t) b g m (there n) = later t b g (there m) n

once_of : {G B rest : List HalfSpace} → AllKept G B rest → (f g : HalfSpace) → f ∈ rest → g ∈ rest → SameHalfSpace f g → f ≡ g
once_of none_more f g m n s = elim m [ ]
once_of (one_more k t) f g here here s = refl
once_of (one_more k t) f g here (there n) s = absurd (later t f g here n s)
once_of (one_more k t) f g (there m) here s = absurd (later t g f here m (same_sym s))
once_of (one_more k t) f g (there m) (there n) s = once_of t f g m n s

pub neat : NeatLaw
neat G r b t = record { proper = r; bounded = b; bears = bears_of (all_kept t); once = once_of (all_kept t) }

-- ---- a point inside, behind the plane
pub record InsideBack (F : List HalfSpace) (f : HalfSpace) : Type 0 where
  pub at : Homogeneous
  pub inside : IsInside (back F f) at

pub inside_back : (F : List HalfSpace) (f : HalfSpace) (o p : Homogeneous) → IsInside F o → IsIn F p → side f p <ℤ pos 0 → InsideBack F f
inside_back F f o p i j l =
    let s = side f o *ℤ side f o +ℤ pos 1 in
    let t = neg_ℤ (side f p) in
    let h = square_and_1 (side f o) in
    let k = positive-neg l in record {
      at = mix s p t o;
      inside = record {
        weight = weight-mix s p t o h (nonneg_of_positive k) j.weight i.weight;
        all = each_of_back (λ g. side g (mix s p t o) <ℤ pos 0) F f (λ g m. mix-behind_right s p t o g (nonneg_of_positive h) k (j.all g m) (i.all g m))
            (rw side-mix (toward_plain (side f p) (side f o) l));
      };
    }

-- ---- the faces that stay
sift_in : {G : List HalfSpace} {P : HalfSpace} {rest K : List HalfSpace} → Sifts G P rest K → (g : HalfSpace) → g ∈ K → g ∈ rest
sift_in sift_end g m = elim m [ ]
sift_in (sift_keep b s) g here = here
sift_in (sift_keep b s) g (there m) = there (sift_in s g m)
sift_in (sift_drop b s) g m = there (sift_in s g m)

sift_behind : {G : List HalfSpace} {P : HalfSpace} {rest K : List HalfSpace} → Sifts G P rest K → (g : HalfSpace) → g ∈ K → VertexOnBehind G g P
sift_behind sift_end g m = elim m [ ]
sift_behind (sift_keep b s) g here = b
sift_behind (sift_keep b s) g (there m) = sift_behind s g m
sift_behind (sift_drop b s) g m = sift_behind s g m

sift_all : {G : List HalfSpace} {P : HalfSpace} {rest K : List HalfSpace} → Sifts G P rest K → (g : HalfSpace) → g ∈ rest → VertexOnBehind G g P → g ∈ K
sift_all sift_end g m v = elim m [ ]
sift_all (sift_keep b s) g here v = here
sift_all (sift_keep b s) g (there m) v = there (sift_all s g m v)
sift_all (sift_drop b s) g here v = let l = b v.at v.vertex v.on in let k = v.behind in absurd (omega (arith, ints))
sift_all (sift_drop b s) g (there m) v = sift_all s g m v

pub cut_list : CutListLaw
cut_list F K P o a b n p t i u v h k s =
    let T = halved_trim F K P o a b n.bounded n.proper i u v h k t s in
    let q = inside_back F P o a i u.inside h in
    let r = back_proper F P n.proper p in
    let c = back_bounded F P n.bounded in
    let again = trim_again (back F P) (back K P) T in record {
      trim = T;
      again = again;
      at = q.at;
      inside = record { weight = q.inside.weight; all = λ g m. q.inside.all g (trimmed_in T g m) };
      list = record {
        old = n;
        new = neat (back K P) (λ g m. r g (trimmed_in T g m)) (trim_bounded (back F P) (back K P) q.at c r q.inside T) again;
        P_in = in_last K P;
        kind = each_of_back (λ g. OfCut F P g) K P (λ g m. keeps_face (sift_in s g m) (sift_behind s g m)) adds_face;
        stays = λ f m w. in_left K P f (sift_all s f m w);
        vertex = λ x y. trim_vertex (back F P) (back K P) q.at x r q.inside T y;
        vertex_back = λ x y. trim_vertex_back (back F P) (back K P) q.at x r q.inside T y;
      };
    }
