-- Half-edges that lead round a list of points make it the loop of their face.
use Rattle.std.proofs.Common.{◌≡◌, List, [], ◌∷◌, ◌++◌, ⊎_elim, pos, ◌<ℤ◌}
use Rattle.algebra.specs.Members.{◌∈◌, here, there}
use Rattle.algebra.specs.Space.{Homogeneous, HalfSpace, SamePoint, dot, side}
use Rattle.algebra.proofs.Members.{each_of_more}
use Rattle.vertex_laws.specs.Vertex.{IsVertex}
use Rattle.vertex_laws.specs.HalfEdge.{From, To, turn}
use Rattle.vertex_laws.specs.Loop.{IsNext, at_front, later, closed, HasHalfEdge}
use Rattle.vertex_laws.specs.Laws.{LoopLaw}
use Rattle.vertex_laws.proofs.HalfEdge.{turns}
use Rattle.vertex_laws.proofs.OneLoop.{end_or_behind, one_loop}

-- ---- the neighbours of a point
pub record Following (a : Homogeneous) (S T : List Homogeneous) : Type 0 where
  pub b : Homogeneous
  pub next : IsNext a b S
  pub among : b ∈ T

-- Each point before the last one, y, has one after it.
following : (a y : Homogeneous) (S : List Homogeneous) → a ∈ S → Following a (S ++ (y ∷ [])) (S ++ (y ∷ []))
following a y [] m = elim m [ ]
following a y (s ∷ []) here = record { b = y; next = at_front; among = there here }
following a y (s ∷ []) (there m) = elim m [ ]
following a y (s ∷ t ∷ S) here = record { b = t; next = at_front; among = there here }
following a y (s ∷ t ∷ S) (there m) = let r = following a y (t ∷ S) m in record { b = r.b; next = later r.next; among = there r.among }

pub record Preceding (b : Homogeneous) (S T : List Homogeneous) : Type 0 where
  pub a : Homogeneous
  pub next : IsNext a b S
  pub among : a ∈ T

-- Each point after the first one, x, has one before it.
preceding : (x b : Homogeneous) (S : List Homogeneous) → b ∈ S → Preceding b (x ∷ S) (x ∷ S)
preceding x b (s ∷ S) here = record { a = x; next = at_front; among = here }
preceding x b (s ∷ S) (there m) = let r = preceding s b S m in record { a = r.a; next = later r.next; among = there r.among }
preceding x b [] m = elim m [ ]

in_front : (x y : Homogeneous) (S : List Homogeneous) → x ∈ S → x ∈ (S ++ (y ∷ []))
in_front x y [] m = elim m [ ]
in_front x y (s ∷ S) here = here
in_front x y (s ∷ S) (there m) = there (in_front x y S m)

at_end : (y : Homogeneous) (S : List Homogeneous) → y ∈ (S ++ (y ∷ []))
at_end y [] = here
at_end y (s ∷ S) = there (at_end y S)

-- The point that is added at the end was there.
of_closed : (T : List Homogeneous) (y : Homogeneous) (S : List Homogeneous) → y ∈ T → ((x : Homogeneous) → x ∈ S → x ∈ T) → (x : Homogeneous) →
    x ∈ (S ++ (y ∷ [])) → x ∈ T
of_closed T y [] h sub x here = h
of_closed T y [] h sub x (there m) = elim m [ ]
of_closed T y (s ∷ S) h sub x here = sub s here
of_closed T y (s ∷ S) h sub x (there m) = of_closed T y S h (λ p i. sub p (there i)) x m

turned : (x : Homogeneous) (S : List Homogeneous) (b : Homogeneous) → b ∈ (x ∷ S) → b ∈ (S ++ (x ∷ []))
turned x S = each_of_more (λ b. b ∈ (S ++ (x ∷ []))) x S (at_end x S) (λ b m. in_front b x S m)

next_among : (x : Homogeneous) (S : List Homogeneous) (a : Homogeneous) → a ∈ (x ∷ S) → Following a (closed (x ∷ S)) (x ∷ S)
next_among x S a m = let r = following a x (x ∷ S) m in record { b = r.b; next = r.next; among = of_closed (x ∷ S) x (x ∷ S) here (λ p i. i) r.b r.among }

previous_among : (x : Homogeneous) (S : List Homogeneous) (b : Homogeneous) → b ∈ (x ∷ S) → Preceding b (closed (x ∷ S)) (x ∷ S)
previous_among x S b m = let r = preceding x b (S ++ (x ∷ [])) (turned x S b m) in record { a = r.a; next = r.next; among = of_closed (x ∷ S) x (x ∷ S) here (λ p i. i) r.a r.among }

-- ---- the law
inner : (F : List HalfSpace) (f : HalfSpace) (a b c : Homogeneous) → pos 0 <ℤ dot f.normal f.normal → HasHalfEdge F f a b → IsVertex F c → side f c ≡ pos 0 →
    ¬ (SamePoint c a) → ¬ (SamePoint c b) → pos 0 <ℤ turn f a b c
inner F f a b c r h u z na nb = ⊎_elim (λ s. absurd (na s)) (λ k. ⊎_elim (λ s. absurd (nb s)) (λ l. turns F f h.g a b c h.edge r z l) k)
    (end_or_behind F f h.g a b c h.edge u z)

pub loop : LoopLaw
loop F f x S b r m e once round =
    let go_to = λ (s : Homogeneous) (i : s ∈ (x ∷ S)). let n = next_among x S s i in let h = round s n.b n.next in to n.b h n.among in
    let come_from = λ (s : Homogeneous) (i : s ∈ (x ∷ S)). let n = previous_among x S s i in let h = round n.a s n.next in from n.a h n.among in record {
      vertices = λ s i. let t = go_to s i in (t.edge.a_vertex, t.edge.a_on_f);
      all = λ v u z. one_loop F f x v (x ∷ S) b r m e here come_from go_to u z;
      once = once;
      turns = λ p q c n i np nq. let t = go_to c i in inner F f p q c (r f m) (round p q n) t.edge.a_vertex t.edge.a_on_f np nq;
    }
  where
    to : {s : Homogeneous} (t : Homogeneous) → HasHalfEdge F f s t → t ∈ (x ∷ S) → To F f (x ∷ S) s
    to t h n = record { b = t; g = h.g; among = n; edge = h.edge }

    from : {s : Homogeneous} (t : Homogeneous) → HasHalfEdge F f t s → t ∈ (x ∷ S) → From F f (x ∷ S) s
    from t h n = record { a = t; g = h.g; among = n; edge = h.edge }
