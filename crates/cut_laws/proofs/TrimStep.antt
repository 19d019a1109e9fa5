-- A further plane can be added to the trimmed list in place of the list.
use Rattle.std.proofs.Common.{◌≡◌, List, [], ◌∷◌, length, ◌≤◌, arith, ◌⊎◌, inl, inr, ⊎_elim, pos, ◌<ℤ◌, ◌≤ℤ◌}
use Rattle.std.proofs.lemmas.Int.{ints, by_lt_z}
use Rattle.algebra.specs.Members.{◌∈◌, here, there}
use Rattle.algebra.specs.Space.{Homogeneous, HalfSpace, dot, cross, side, SameHalfSpace}
use Rattle.algebra.proofs.Members.{each_of_more}
use Rattle.trim_laws.specs.Solid.{IsIn, IsInside, Proper, Bounded}
use Rattle.trim_laws.specs.Trim.{Bears, IsKept, Trims, ends, keeps, drops, Trim}
use Rattle.trim_laws.proofs.Bearing.{bears_in}
use Rattle.trim_laws.proofs.Once.{bears_in_part}
use Rattle.trim_laws.proofs.Steps.{step_front}
use Rattle.trim_laws.proofs.SameHalfSpace.{same_sym, same_trans, same_of_times, times_of_parallel}
use Rattle.trim_laws.proofs.Trimmed.{trim, trimmed_in, kept_face, bears_same, Found}
use Rattle.vertex_laws.specs.Vertex.{IsVertex, Crosses}
use Rattle.vertex_laws.proofs.TrimVertex.{parallel_or_crosses}
use Rattle.cut_laws.specs.Cut.{back, Sifts, sift_end, sift_keep, sift_drop}
use Rattle.cut_laws.specs.Laws.{TrimAddLaw, MissedTrimLaw, HalvedTrimLaw}
use Rattle.cut_laws.proofs.Backs.{each_of_back, in_left, in_last, back_in, in_of_back, behind_of_back}
use Rattle.cut_laws.proofs.Alone.{nudge, front-flat, front-goes}
use Rattle.cut_laws.proofs.CutFace.{kept_face as kept_face_behind, gone_face, new_face}
use Rattle.cut_laws.proofs.Missed.{alone_at, missed_new, missed_old}

-- ---- a face that bears in a shorter list with the same points
pub part_proper : (M N : List HalfSpace) → ((g : HalfSpace) → g ∈ N → g ∈ M) → Proper M → Proper N
part_proper M N i r g m = r g (i g m)

part_inside : (M N : List HalfSpace) (o : Homogeneous) → ((g : HalfSpace) → g ∈ N → g ∈ M) → IsInside M o → IsInside N o
part_inside M N o i j = record { weight = j.weight; all = λ g m. j.all g (i g m) }

whole_bears : (M N : List HalfSpace) (f : HalfSpace) (o : Homogeneous) → Proper M → IsInside M o → ((g : HalfSpace) → g ∈ N → g ∈ M) → ((p : Homogeneous) → IsIn N p → IsIn M p) → f ∈ N → Bears N f → Bears M f
whole_bears M N f o r i sub points m e = record {
  at = e.at;
  weight = e.weight;
  on = e.on;
  others = λ h n d. by_lt_z (side h e.at) (pos 0) (λ l. l)
      (λ l.
      let k = (points e.at (bears_in e)).all h n in
      let z : side h e.at ≡ pos 0 = omega (arith, ints) in ⊎_elim
      (λ (c : Crosses f h).
      let y = nudge N f h o e.at (cross (cross f.normal h.normal) f.normal) (part_inside M N o sub i) (part_proper M N sub r) m (bears_in e) e.on (λ g j. alone_at N f g (part_proper M N sub r) m j e) (front-flat f.normal h.normal) in
      let a : pos 0 <ℤ side h y.at = rw (y.seen) (step_front y.n (side h e.at) (dot h.normal (cross (cross f.normal h.normal) f.normal)) z (rw front-goes c)) in
      let b = (points y.at y.inside).all h n in absurd (omega (arith, ints)))
      (λ p. absurd (d (same_of_times f h (times_of_parallel f h o e.at e.weight e.on z (i.all f (sub f m)) (i.all h n) p))))
      (parallel_or_crosses f.normal h.normal));
}

-- ---- what the two lists have in common
pub record Shared (L G : List HalfSpace) (P : HalfSpace) (M N : List HalfSpace) : Type 0 where
  pub proper : Proper M
  pub o : Homogeneous
  pub inside : IsInside M o
  pub part : (g : HalfSpace) → g ∈ N → g ∈ M
  pub points : (p : Homogeneous) → IsIn N p → IsIn M p
  pub old : (g : HalfSpace) → g ∈ G → g ∈ N
  pub left : (g : HalfSpace) → g ∈ L → g ∈ M
  pub P_in : P ∈ N
  pub found : (g : HalfSpace) → g ∈ L → Bears L g → Found g G

pub up_to : {L G : List HalfSpace} {P : HalfSpace} {M N : List HalfSpace} → Shared L G P M N → (f : HalfSpace) → f ∈ N → Bears N f → Bears M f
up_to {L} {G} {P} {M} {N} s f m e = whole_bears M N f s.o s.proper s.inside s.part s.points m e

-- B: the faces of L so far; C: those of them that are in G; K: those of G that are still to come
pub record So (L G B C rest K : List HalfSpace) : Type 0 where
  pub cb : (g : HalfSpace) → g ∈ C → g ∈ B
  pub bl : (g : HalfSpace) → g ∈ B → g ∈ L
  pub rl : (g : HalfSpace) → g ∈ rest → g ∈ L
  pub kg : (g : HalfSpace) → g ∈ K → g ∈ G
  pub gk : (g : HalfSpace) → g ∈ G → (g ∈ C) ⊎ (g ∈ K)

pub shift : {C K : List HalfSpace} {f : HalfSpace} (g : HalfSpace) → (g ∈ C) ⊎ (g ∈ (f ∷ K)) → (g ∈ (f ∷ C)) ⊎ (g ∈ K)
shift g (inl m) = inl (there m)
shift g (inr here) = inl here
shift g (inr (there m)) = inr m

pub take : {L G B C rest K : List HalfSpace} {f : HalfSpace} → So L G B C (f ∷ rest) (f ∷ K) → So L G (f ∷ B) (f ∷ C) rest K
take {L} {G} {B} {C} {rest} {K} {f} s = record {
  cb = each_of_more (λ g. g ∈ (f ∷ B)) f C here (λ g m. there (s.cb g m));
  bl = each_of_more (λ g. g ∈ L) f B (s.rl f here) s.bl;
  rl = λ g m. s.rl g (there m);
  kg = λ g m. s.kg g (there m);
  gk = λ g m. shift g (s.gk g m);
}

pub skip : {L G B C rest K : List HalfSpace} {f : HalfSpace} → So L G B C (f ∷ rest) K → So L G (f ∷ B) C rest K
skip {L} {G} {B} {C} {rest} {K} {f} s = record {
  cb = λ g m. there (s.cb g m);
  bl = each_of_more (λ g. g ∈ L) f B (s.rl f here) s.bl;
  rl = λ g m. s.rl g (there m);
  kg = s.kg;
  gk = s.gk;
}

found_in : {A : Type 0} {L G B C : List HalfSpace} {P : HalfSpace} {f : HalfSpace} → So L G B C [] [] → ((g : HalfSpace) → g ∈ C → ¬ (SameHalfSpace g P)) → SameHalfSpace f P → Found f G → A
found_in {A} {L} {G} {B} {C} {P} {f} so n s r = by (so.gk r.face r.among)
  where
    by : (r.face ∈ C) ⊎ (r.face ∈ []) → A
    by (inl m) = absurd (n r.face m (same_trans (same_sym r.same) s))
    by (inr m) = elim m [ ]

-- the new plane is kept after all faces of L where it is after all faces of G
pub kept_after : (L G : List HalfSpace) (P : HalfSpace) (M N : List HalfSpace) → Shared L G P M N → {B C : List HalfSpace} → So L G B C [] [] → IsKept N C P → IsKept M B P
kept_after L G P M N s so k = record {
  first = λ g m e.
      let b = bears_same M P g (same_sym e) (s.proper P (s.part P s.P_in)) (up_to s P s.P_in k.bears) in
      found_in so k.first e (s.found g (so.bl g m) (bears_in_part M L g s.left b));
  bears = up_to s P s.P_in k.bears;
}

pub kept_before : (L G : List HalfSpace) (P f : HalfSpace) (M N : List HalfSpace) → Shared L G P M N → {B C rest K : List HalfSpace} → So L G B C rest K → IsKept M B f → IsKept N C f
kept_before L G P f M N s so k = record { first = λ g m. k.first g (so.cb g m); bears = bears_in_part M N f s.part k.bears }

pub shared : (L G : List HalfSpace) (P : HalfSpace) (o : Homogeneous) → Proper (back L P) → IsInside (back L P) o → Trim L G → Shared L G P (back L P) (back G P)
shared L G P o r i t =
    let left = in_left L P in
    let inner = part_inside (back L P) L o left i in
    let proper = part_proper (back L P) L left r in record {
      proper = r;
      o = o;
      inside = i;
      part = each_of_back (λ g. g ∈ back L P) G P (λ g m. left g (trimmed_in t g m)) (in_last L P);
      points = λ p j. back_in L P p (trim L G o p proper inner t (in_of_back G P p j)) (behind_of_back G P p j);
      old = in_left G P;
      left = left;
      P_in = in_last G P;
      found = λ g m b. kept_face L G g proper t m b;
    }

pub at_start : (L G : List HalfSpace) → So L G [] [] L G
at_start L G = record { cb = λ g m. elim m [ ]; bl = λ g m. elim m [ ]; rl = λ g m. m; kg = λ g m. m; gk = λ g m. inr m }

-- ---- what is trimmed from the shorter list is trimmed from the longer one
last_back : (L G : List HalfSpace) (P : HalfSpace) (M N : List HalfSpace) → Shared L G P M N → {B C H : List HalfSpace} → So L G B C [] [] → Trims N C (P ∷ []) H → Trims M B (P ∷ []) H
last_back L G P M N s so (keeps k ends) = keeps (kept_after L G P M N s so k) ends
last_back L G P M N s so (drops n ends) = drops (λ k. n (kept_before L G P P M N s so k)) ends

walk_back : (L G : List HalfSpace) (P : HalfSpace) (M N : List HalfSpace) → Shared L G P M N → {B C rest K H : List HalfSpace} → So L G B C rest K → Trims L B rest K → Trims N C (back K P) H → Trims M B (back rest P) H
walk_back L G P M N s so ends u = last_back L G P M N s so u
walk_back L G P M N s so (keeps {f = f} e t) (keeps k u) = keeps (record { first = e.first; bears = up_to s f (s.old f (so.kg f here)) k.bears }) (walk_back L G P M N s (take so) t u)
walk_back L G P M N s so (keeps {f = f} e t) (drops x u) = drops (λ k. x (kept_before L G P f M N s so k)) (walk_back L G P M N s (take so) t u)
walk_back L G P M N s so (drops {f = f} x t) u = drops (λ k. x (record { first = k.first; bears = bears_in_part M L f s.left k.bears })) (walk_back L G P M N s (skip so) t u)

pub trim_add : TrimAddLaw
trim_add L G H P o r i t u = walk_back L G P (back L P) (back G P) (shared L G P o r i t) (at_start L G) t u

-- ---- no vertex in front
missed_walk : (L : List HalfSpace) (P : HalfSpace) (o : Homogeneous) → Bounded L → Proper (back L P) → IsInside L o → side P o <ℤ pos 0 → ((v : Homogeneous) → IsVertex L v → side P v ≤ℤ pos 0) →
    {B rest G : List HalfSpace} → ((g : HalfSpace) → g ∈ B → g ∈ L) → ((g : HalfSpace) → g ∈ L → (g ∈ B) ⊎ (g ∈ rest)) → ((g : HalfSpace) → g ∈ rest → g ∈ L) →
    Trims L B rest G → Trims (back L P) B (back rest P) G
missed_walk L P o b r i l h bl cover rl ends = drops (λ k.
    missed_new L P b (part_proper (back L P) L (in_left L P) r) (r P (in_last L P)) h k.bears (λ g m. ⊎_elim (k.first g) (λ x. elim x [ ]) (cover g m))) ends
missed_walk L P o b r i l h bl cover rl (keeps {f = f} e t) = keeps (record { first = e.first; bears = missed_old L P f o b (part_proper (back L P) L (in_left L P) r) (rl f here) i l h e.bears })
    (missed_walk L P o b r i l h (each_of_more (λ g. g ∈ L) f _ (rl f here) bl) (λ g m. shift g (cover g m)) (λ g m. rl g (there m)) t)
missed_walk L P o b r i l h bl cover rl (drops {f = f} x t) = drops (λ k. x (record { first = k.first; bears = bears_in_part (back L P) L f (in_left L P) k.bears }))
    (missed_walk L P o b r i l h (each_of_more (λ g. g ∈ L) f _ (rl f here) bl) (λ g m. shift g (cover g m)) (λ g m. rl g (there m)) t)

pub missed_trim : MissedTrimLaw
missed_trim L G P o b r i l h t = missed_walk L P o b r i l h (λ g m. elim m [ ]) (λ g m. inr m) (λ g m. m) t

-- ---- some in front and some behind
-- all of the faces `rest`, which come after the faces B, are kept
pub data AllKept (G : List HalfSpace) : (B rest : List HalfSpace) → Type 0 where
  none_more : {B : List HalfSpace} → AllKept G B []
  one_more : {B rest : List HalfSpace} {f : HalfSpace} → IsKept G B f → AllKept G (f ∷ B) rest → AllKept G B (f ∷ rest)

no_more : {G B rest kept : List HalfSpace} → Trims G B rest kept → length kept ≤ length rest
no_more ends = omega arith
no_more (keeps k t) = let i = no_more t in omega arith
no_more (drops k t) = let i = no_more t in omega arith

all_of : {G B rest kept : List HalfSpace} → Trims G B rest kept → length rest ≤ length kept → AllKept G B rest
all_of ends l = none_more
all_of (keeps k t) l = one_more k (all_of t (omega arith))
all_of (drops k t) l = let i = no_more t in absurd (omega arith)

pub all_kept : {G : List HalfSpace} → Trim G G → AllKept G [] G
all_kept t = all_of t (omega arith)

apart_from : (G : List HalfSpace) (P g : HalfSpace) (b : Homogeneous) → IsIn G b → pos 0 <ℤ side P b → g ∈ G → ¬ (SameHalfSpace g P)
apart_from G P g b i l m s = let k = s.onto b i.weight (i.all g m) in absurd (omega (arith, ints))

halved_walk : (G : List HalfSpace) (P : HalfSpace) (o a b : Homogeneous) → Bounded G → Proper G → IsInside G o → IsVertex G a → IsVertex G b → side P a <ℤ pos 0 → pos 0 <ℤ side P b →
    {B rest K : List HalfSpace} → ((g : HalfSpace) → g ∈ B → g ∈ G) → ((g : HalfSpace) → g ∈ rest → g ∈ G) → AllKept G B rest → Sifts G P rest K →
    Trims (back G P) B (back rest P) (back K P)
halved_walk G P o a b c r i x y h k bl rl none_more sift_end = keeps (record { first = λ g m. apart_from G P g b y.inside k (bl g m); bears = new_face G P o a b i x.inside y.inside h k }) ends
halved_walk G P o a b c r i x y h k bl rl (one_more {f = f} e t) (sift_keep d s) = keeps (record { first = e.first; bears = kept_face_behind G P f d.at e.bears d.vertex.inside d.on d.behind })
    (halved_walk G P o a b c r i x y h k (each_of_more (λ g. g ∈ G) f _ (rl f here) bl) (λ g m. rl g (there m)) t s)
halved_walk G P o a b c r i x y h k bl rl (one_more {f = f} e t) (sift_drop d s) = drops (λ z.
    let w = gone_face G P f c r (rl f here) (apart_from G P f b y.inside k (rl f here)) z.bears in
    let u = w.behind in let v = d w.at w.vertex w.on in absurd (omega (arith, ints)))
    (halved_walk G P o a b c r i x y h k (each_of_more (λ g. g ∈ G) f _ (rl f here) bl) (λ g m. rl g (there m)) t s)

pub halved_trim : HalvedTrimLaw
halved_trim G K P o a b c r i x y h k t s = halved_walk G P o a b c r i x y h k (λ g m. elim m [ ]) (λ g m. m) (all_kept t) s
