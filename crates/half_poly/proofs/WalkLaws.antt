-- The walk round a face: it goes on, ends where it began, and is the loop of the face.
use Rattle.std.proofs.Common.{◌≡◌, ℕ, zero, suc, ◌-◌, ◌<◌, ◌≤◌, ⊎_elim, List, [], ◌∷◌, ◌++◌, length, length-append, map, slice_get, Some, refl, sym, ap, subst, ◌∙◌, arith, pos, ◌<ℤ◌}
use Rattle.std.proofs.lemmas.List.{map-append}
use Rattle.std.proofs.lemmas.Option.{slice_get-get_or}
use Rattle.algebra.specs.Members.{◌∈◌, here, there}
use Rattle.algebra.specs.Space.{Homogeneous, HalfSpace, SamePoint}
use Rattle.algebra.proofs.Members.{each_of_more, member_at}
use Rattle.algebra.proofs.Points.{same_point_sym, same-on}
use Rattle.vertex_laws.specs.Vertex.{IsVertex}
use Rattle.vertex_laws.specs.Loop.{closed, Distinct, distinct_none, distinct_more, HasHalfEdge}
use Rattle.vertex_laws.proofs.OneLoop.{one_incoming}
use Rattle.vertex_laws.proofs.Loop.{loop}
use Rattle.solid_laws.specs.Names.{Triple, MeetAt, NamedBefore, NamesRise, one_more_point, AreVertices}
use Rattle.solid_laws.specs.FaceLoop.{LeastFirst, IsNumberedLoop}
use Rattle.half_poly.specs.Rounds.{IsFaceOf, origin, point, IsNumberOn, IsFirstOn, LeadsTo}
use Rattle.half_poly.proofs.Listed.{source}
use Rattle.half_poly.proofs.Chain.{at_end, in_front, split_end, Once, once_more, once_last, Along, along_more, along_map, along_next, Starts, starts_more, first_or_before, le_or_less, few}

-- ---- points by their numbers
pub member : (V : List Homogeneous) (k : ℕ) → k < length V → point V k ∈ V
member V k h = member_at V k origin h

pub vertex : {F : List HalfSpace} {V : List Homogeneous} (k : ℕ) → AreVertices F V → k < length V → IsVertex F (point V k)
vertex {F} {V} k a h = (a.each (point V k) (member V k h)).0

-- ---- two numbers, two points
moved_meet : (F : List HalfSpace) (t : Triple) (p q : Homogeneous) → pos 0 <ℤ p.weight → SamePoint p q → MeetAt F t p → MeetAt F t q
moved_meet F t p q w s m = record {
  f = m.f;
  g = m.g;
  h = m.h;
  first = m.first;
  second = m.second;
  third = m.third;
  on_f = same-on m.f p q w s m.on_f;
  on_g = same-on m.g p q w s m.on_g;
  on_h = same-on m.h p q w s m.on_h;
  independent = m.independent;
}

pub not_same : (F : List HalfSpace) (p q : Homogeneous) → pos 0 <ℤ p.weight → NamedBefore F p q → ¬ (SamePoint p q)
not_same F p q w n s = n.named_q.least n.p_name (moved_meet F n.p_name p q w s n.named_p.meet) n.earlier

one_number : (F : List HalfSpace) (V : List Homogeneous) → NamesRise F V → ((v : Homogeneous) → v ∈ V → pos 0 <ℤ v.weight) → (i j : ℕ) →
    i < length V → j < length V → SamePoint (point V i) (point V j) → i ≡ j
one_number F [] r w i j h k s = absurd (omega arith)
one_number F (p ∷ V) r w zero zero h k s = refl
one_number F (p ∷ V) (one_more_point n r) w zero (suc j) h k s =
    absurd (not_same F p (point V j) (w p here) (n (point V j) (member V j (omega arith))) s)
one_number F (p ∷ V) (one_more_point n r) w (suc i) zero h k s =
    absurd (not_same F p (point V i) (w p here) (n (point V i) (member V i (omega arith))) (same_point_sym s))
one_number F (p ∷ V) (one_more_point n r) w (suc i) (suc j) h k s = ap suc (one_number F V r (λ v m. w v (there m)) i j (omega arith) (omega arith) s)

pub same_number : {F : List HalfSpace} {V : List Homogeneous} (i j : ℕ) → AreVertices F V → i < length V → j < length V →
    SamePoint (point V i) (point V j) → i ≡ j
same_number {F} {V} i j a h k s = one_number F V a.order (λ v m. (a.each v m).0.inside.weight) i j h k s

-- ---- the walk
abbrev pub Leads : List HalfSpace → List Homogeneous → HalfSpace → ℕ → ℕ → Type 0
Leads F V f k n = HasHalfEdge F f (point V k) (point V n)

-- The numbers that the walk has come by.
pub record Path (F : List HalfSpace) (V : List Homogeneous) (f : HalfSpace) (first : ℕ) (numbers : List ℕ) : Type 0 where
  pub once : Once numbers
  pub on : (k : ℕ) → k ∈ numbers → IsNumberOn V f k
  pub starts : Starts first numbers
  pub chain : Along (Leads F V f) numbers

pub begin : (F : List HalfSpace) (V : List Homogeneous) (f : HalfSpace) (first : ℕ) → IsNumberOn V f first → Path F V f first (first ∷ [])
begin F V f first h = record {
  once = (λ m. elim m [ ], tt);
  on = each_of_more (λ k. IsNumberOn V f k) first [] h (λ k m. elim m [ ]);
  starts = refl;
  chain = tt;
}

module _ {F : List HalfSpace} {V : List Homogeneous} {f : HalfSpace} {first : ℕ} where
  pub last : (numbers : List ℕ) (at : ℕ) → Path F V f first (numbers ++ (at ∷ [])) → IsNumberOn V f at
  last numbers at p = p.on at (at_end at numbers)

  -- Only the first number is come to again.
  not_again : (numbers : List ℕ) (at n : ℕ) → IsFaceOf F V f → Path F V f first (numbers ++ (at ∷ [])) → LeadsTo F V f at n → n ∈ (numbers ++ (at ∷ [])) → n ≡ first
  not_again numbers at n i p l m = ⊎_elim (λ e. e)
      (λ b. let e = one_incoming F f l.edge.g b.leads.g (point V at) (point V b.it) (point V n) (i.neat.proper f i.among) l.edge.edge b.leads.edge in
      let k = same_number b.it at i.vertices (p.on b.it (in_front b.it at numbers b.among)).within (last numbers at p).within e in
      absurd (once_last numbers at p.once (subst (λ k. k ∈ numbers) k b.among)))
      (first_or_before (Leads F V f) first numbers at n p.chain p.starts m)

  pub walked : (numbers : List ℕ) (at n : ℕ) → IsFaceOf F V f → Path F V f first (numbers ++ (at ∷ [])) → LeadsTo F V f at n → ¬ (n ≡ first) →
      Path F V f first ((numbers ++ (at ∷ [])) ++ (n ∷ []))
  walked numbers at n i p l d = record {
    once = once_more (numbers ++ (at ∷ [])) n p.once (λ m. d (not_again numbers at n i p l m));
    on = λ k m. ⊎_elim (λ o. p.on k o) (λ e. subst (λ k. IsNumberOn V f k) (sym e) (record { within = l.within; on = l.edge.edge.b_on_f })) (split_end k n (numbers ++ (at ∷ [])) m);
    starts = starts_more first (numbers ++ (at ∷ [])) (n ∷ []) p.starts;
    chain = along_more (Leads F V f) numbers at n p.chain l.edge;
  }

  pub nearer_end : (numbers more : List ℕ) (at : ℕ) → Path F V f first (numbers ++ (at ∷ [])) → more ≡ numbers ++ (at ∷ []) → length V - length more < length V - length numbers
  nearer_end numbers more at p e =
      let k = few (length V) (numbers ++ (at ∷ [])) p.once (λ k m. (p.on k m).within) in
      let d = ap length e in let l = length-append numbers (at ∷ []) in omega arith

-- ---- the loop
picked : (V : List Homogeneous) (numbers : List ℕ) → ((k : ℕ) → k ∈ numbers → k < length V) → map (λ k. slice_get V k) numbers ≡ map Some (map (point V) numbers)
picked V [] h = refl
picked V (n ∷ numbers) h =
    ap (λ v. v ∷ map (λ k. slice_get V k) numbers) (slice_get-get_or V n origin (h n here)) ∙ ap (λ vs. Some (point V n) ∷ vs) (picked V numbers (λ k m. h k (there m)))

apart : {F : List HalfSpace} {V : List Homogeneous} (numbers : List ℕ) → AreVertices F V → Once numbers → ((k : ℕ) → k ∈ numbers → k < length V) →
    Distinct (map (point V) numbers)
apart [] a o h = distinct_none
apart {F} {V} (n ∷ numbers) a o h = distinct_more
    (λ p m s. let r = source (point V) numbers p m in
    let e = same_number n r.it a (h n here) (h r.it (there r.among)) (subst (λ q. SamePoint (point V n) q) (sym r.is) s) in
    o.0 (subst (λ k. k ∈ numbers) (sym e) r.among))
    (apart numbers a o.1 (λ k m. h k (there m)))

least_first : (V : List Homogeneous) (f : HalfSpace) (first : ℕ) (others : List ℕ) → IsFirstOn V f first → Once (first ∷ others) →
    ((k : ℕ) → k ∈ others → IsNumberOn V f k) → LeastFirst (first ∷ others)
least_first V f first others i o h k m = ⊎_elim
    (λ (l : k ≤ first). ⊎_elim (λ (g : first ≤ k). let e : k ≡ first = omega arith in absurd (o.0 (subst (λ n. n ∈ others) e m)))
    (λ g. absurd (i.before k g (h k m).on)) (le_or_less k first))
    (λ l. l) (le_or_less first k)

came_round : {F : List HalfSpace} {V : List Homogeneous} {f : HalfSpace} (first : ℕ) (others : List ℕ) → IsFaceOf F V f → IsFirstOn V f first →
    Path F V f first (first ∷ others) → Along (Leads F V f) ((first ∷ others) ++ (first ∷ [])) → IsNumberedLoop F f V (first ∷ others)
came_round {F} {V} {f} first others i h p a = record {
  points = map (point V) (first ∷ others);
  picked = picked V (first ∷ others) (λ k m. (p.on k m).within);
  is_loop = loop F f (point V first) (map (point V) others) i.neat.bounded i.neat.proper i.among (i.neat.bears f i.among)
      (apart (first ∷ others) i.vertices p.once (λ k m. (p.on k m).within))
      (along_next (HasHalfEdge F f) (closed (map (point V) (first ∷ others)))
      (subst (λ S. Along (HasHalfEdge F f) S) (map-append (point V) (first ∷ others) (first ∷ [])) (along_map (point V) (HasHalfEdge F f) ((first ∷ others) ++ (first ∷ [])) a)));
  least_first = least_first V f first others h p.once (λ k m. p.on k (there m));
}

closing : {F : List HalfSpace} {V : List Homogeneous} {f : HalfSpace} (first : ℕ) (numbers : List ℕ) → IsFaceOf F V f → IsFirstOn V f first →
    Path F V f first numbers → Along (Leads F V f) (numbers ++ (first ∷ [])) → IsNumberedLoop F f V numbers
closing first [] i h p a = absurd p.starts
closing {F} {V} {f} first (n ∷ numbers) i h p a = let e = p.starts in
    came_round n numbers i (subst (λ k. IsFirstOn V f k) (sym e) h) (subst (λ k. Path F V f k (n ∷ numbers)) (sym e) p)
    (subst (λ k. Along (Leads F V f) ((n ∷ numbers) ++ (k ∷ []))) (sym e) a)

pub closed_walk : {F : List HalfSpace} {V : List Homogeneous} {f : HalfSpace} (first : ℕ) (numbers : List ℕ) (at n : ℕ) → IsFaceOf F V f → IsFirstOn V f first →
    Path F V f first (numbers ++ (at ∷ [])) → LeadsTo F V f at n → n ≡ first → IsNumberedLoop F f V (numbers ++ (at ∷ []))
closed_walk {F} {V} {f} first numbers at n i h p l e = closing first (numbers ++ (at ∷ [])) i h p
    (along_more (Leads F V f) numbers at first p.chain (subst (λ k. Leads F V f at k) e l.edge))
