-- The way round a face, and the half-edges of an edge.
use Rattle.std.proofs.Common.{◌≡◌, ℕ, Bool, true, false, ◌≤◌, zero, suc, List, [], ◌∷◌, length, ap, sym, refl, ◌∙◌, arith, ◌⊎◌, inl, inr, ⊎_elim, pos}
use native.Mathlib.Decide.{ℕ_discrete}
use Rattle.algebra.specs.Members.{◌∈◌, here, there}
use Rattle.algebra.specs.Space.{Homogeneous, HalfSpace, SamePoint, side}
use Rattle.algebra.proofs.Points.{same_point_sym, same_point_trans, same-on}
use Rattle.vertex_laws.specs.HalfEdge.{IsHalfEdge}
use Rattle.vertex_laws.proofs.HalfEdge.{one_outgoing}
use Rattle.vertex_laws.proofs.OneLoop.{one_incoming, one_loop, same_half_edge}
use Rattle.vertex_laws.proofs.TrimVertex.{edge as edge_of}
use Rattle.vertex_laws.proofs.TwoFaces.{twin}
use Rattle.cut_laws.proofs.Leaving.{same_start}
use Rattle.poly_laws.specs.Links.{Links, HasEdge, from_point, to_point, own_plane, other_plane}
use Rattle.poly_laws.specs.Stands.{Neat, StandsFor, Linked}
use Rattle.poly_laws.specs.Loops.{OneHalfEdge, OneHalfEdgeLaw, Way, start, onward, GoesRound, GoesRoundLaw}
use Rattle.poly_laws.proofs.Lists.{third_face, no_return}
use Rattle.poly_laws.proofs.Slots.{own_not_other, same_at}

-- ---- one slot less
without : {x : ℕ} {R : List ℕ} → x ∈ R → List ℕ
without (here {xs = xs}) = xs
without (there {y = y} m) = y ∷ without m

shorter : {x : ℕ} {R : List ℕ} (m : x ∈ R) → length R ≡ suc (length (without m))
unfolding without
shorter here = refl
shorter (there m) = ap suc (shorter m)

split : {x y : ℕ} {R : List ℕ} (m : x ∈ R) → y ∈ R → (y ≡ x) ⊎ (y ∈ without m)
unfolding without
split here here = inl refl
split here (there k) = inr k
split (there m) here = inr here
split (there m) (there k) = ⊎_elim (λ e. inl e) (λ i. inr (there i)) (split m k)

-- ---- a way that is not back goes on to a new slot
pub record Closed (L : List ℕ) (next : ℕ → ℕ) : Type 0 where
  pub next_in : (k : ℕ) → k ∈ L → next k ∈ L
  pub injective : (k l : ℕ) → k ∈ L → l ∈ L → next k ≡ next l → k ≡ l

last_in : {next : ℕ → ℕ} {x y : ℕ} {V : List ℕ} → Way next x y V → y ∈ V
last_in start = here
last_in (onward w n) = here

way_in : {L : List ℕ} {next : ℕ → ℕ} {x y : ℕ} {V : List ℕ} → Closed L next → x ∈ L → Way next x y V → (v : ℕ) → v ∈ V → v ∈ L
way_in c m start v here = m
way_in c m start v (there i) = elim i [ ]
way_in c m (onward {y = y} w n) v here = c.next_in y (way_in c m w y (last_in w))
way_in c m (onward w n) v (there i) = way_in c m w v i

-- a slot whose next one is on the way, and not its start, is on the way before its last slot
moved_in : {u y : ℕ} {V : List ℕ} → u ≡ y → y ∈ V → u ∈ V
moved_in e m = rw e m

before_last : {L : List ℕ} {next : ℕ → ℕ} {x y : ℕ} {V : List ℕ} → Closed L next → x ∈ L → Way next x y V → (u z : ℕ) → u ∈ L → next u ≡ z → z ∈ V → (z ≡ x) ⊎ ((u ∈ V) × ¬ (u ≡ y))
before_last c m start u z i e here = inl refl
before_last c m start u z i e (there k) = elim k [ ]
before_last c m (onward {y = y} w n) u z i e here =
    let h = c.injective u y i (way_in c m w y (last_in w)) e in
    inr (there (moved_in h (last_in w)), λ k. n (moved_in (sym k ∙ h) (last_in w)))
before_last c m (onward w n) u z i e (there k) = ⊎_elim (λ h. inl h) (λ h. inr (there h.0, λ l. n (moved_in (sym l) h.0)))
    (before_last c m w u z i e k)

pub record Returns (next : ℕ → ℕ) (x : ℕ) : Type 0 where
  pub last : ℕ
  pub slots : List ℕ
  pub way : Way next x last slots
  pub back : next last ≡ x

fresh : {L : List ℕ} {next : ℕ → ℕ} {x y : ℕ} {V : List ℕ} → Closed L next → x ∈ L → Way next x y V → ¬ (next y ≡ x) → ¬ (next y ∈ V)
fresh {L} {next} {x} {y} c m w n k = ⊎_elim n (λ h. h.1 refl) (before_last c m w y (next y) (way_in c m w y (last_in w)) refl k)

other : {A : Type 0} {P Q : Type 0} → P ⊎ Q → ¬ P → (Q → A) → A
other {A} {P} {Q} d n f = ⊎_elim (λ p. absurd (n p)) f d

step : (L : List ℕ) (next : ℕ → ℕ) (x y : ℕ) (V R : List ℕ) → Closed L next → x ∈ L → Way next x y V → ((l : ℕ) → l ∈ L → (l ∈ V) ⊎ (l ∈ R)) → (¬ (next y ≡ x) → next y ∈ R → Returns next x) → Dec (next y ≡ x) → Returns next x
step L next x y V R c m w cover f (yes e) = record { last = y; slots = V; way = w; back = e }
step L next x y V R c m w cover f (no n) = other (cover (next y) (c.next_in y (way_in c m w y (last_in w)))) (fresh c m w n) (f n)

covers_more : {L V R : List ℕ} {z : ℕ} (r : z ∈ R) → ((l : ℕ) → l ∈ L → (l ∈ V) ⊎ (l ∈ R)) → (l : ℕ) → l ∈ L → (l ∈ (z ∷ V)) ⊎ (l ∈ without r)
covers_more r cover l i = ⊎_elim (λ v. inl (there v)) (λ k. ⊎_elim (λ e. inl (rw e here)) (λ j. inr j) (split r k)) (cover l i)

go_on : (fuel : ℕ) (L : List ℕ) (next : ℕ → ℕ) (x y : ℕ) (V R : List ℕ) → Closed L next → x ∈ L → Way next x y V → length R ≤ fuel → ((l : ℕ) → l ∈ L → (l ∈ V) ⊎ (l ∈ R)) → Returns next x
go_on zero L next x y V R c m w h cover = step L next x y V R c m w cover (λ n r. let s = shorter r in absurd (omega arith)) (ℕ_discrete (next y) x)
go_on (suc fuel) L next x y V R c m w h cover = step L next x y V R c m w cover
    (λ n r. go_on fuel L next x (next y) (next y ∷ V) (without r) c m (onward w (fresh c m w n)) (let s = shorter r in omega arith) (covers_more r cover))
    (ℕ_discrete (next y) x)

pub returns_to : (L : List ℕ) (next : ℕ → ℕ) (x : ℕ) → Closed L next → x ∈ L → Returns next x
returns_to L next x c m = go_on (length L) L next x x (x ∷ []) L c m start (omega arith) (λ l i. inr i)

way_step : {next : ℕ → ℕ} {x y : ℕ} {V : List ℕ} → Way next x y V → (v : ℕ) → v ∈ V → (v ≡ y) ⊎ (next v ∈ V)
way_step start v here = inl refl
way_step start v (there m) = elim m [ ]
way_step (onward w n) v here = inl refl
way_step {next} (onward {y = y} w n) v (there m) = ⊎_elim (λ e. inr (moved_in {y = next y} (ap next e) here)) (λ i. inr (there i)) (way_step w v m)

first_in : {next : ℕ → ℕ} {x y : ℕ} {V : List ℕ} → Way next x y V → x ∈ V
first_in start = here
first_in (onward w n) = there (first_in w)

way_next : {next : ℕ → ℕ} {x y : ℕ} {V : List ℕ} → Way next x y V → next y ≡ x → (v : ℕ) → v ∈ V → next v ∈ V
way_next {next} w e v m = ⊎_elim (λ h. moved_in (ap next h ∙ e) (first_in w)) (λ i. i) (way_step w v m)

pub record Before (next : ℕ → ℕ) (V : List ℕ) (v : ℕ) : Type 0 where
  pub it : ℕ
  pub among : it ∈ V
  pub leads : next it ≡ v

before_there : {next : ℕ → ℕ} {V : List ℕ} {v z : ℕ} → Before next V v → Before next (z ∷ V) v
before_there b = record { it = b.it; among = there b.among; leads = b.leads }

way_before : {next : ℕ → ℕ} {x y : ℕ} {V : List ℕ} → Way next x y V → (v : ℕ) → v ∈ V → (v ≡ x) ⊎ Before next V v
way_before start v here = inl refl
way_before start v (there m) = elim m [ ]
way_before (onward {y = y} w n) v here = inr (record { it = y; among = there (last_in w); leads = refl })
way_before (onward w n) v (there m) = ⊎_elim (λ e. inl e) (λ b. inr (before_there b)) (way_before w v m)

way_from : {next : ℕ → ℕ} {x y : ℕ} {V : List ℕ} → Way next x y V → next y ≡ x → (v : ℕ) → v ∈ V → Before next V v
way_from {y = y} w e v m = ⊎_elim (λ h. record { it = y; among = last_in w; leads = e ∙ sym h }) (λ b. b) (way_before w v m)

-- ---- the next-links of a polyhedron
module _ {F : List HalfSpace} {L : Links} (n : Neat F) (s : Linked F L) where
  to_next : (e : ℕ) → HasEdge L e → IsHalfEdge F (own_plane L e) (other_plane L e) (from_point L e) (L.point (L.origin (L.next e)))
  to_next e i = at_next (L.origin (L.next e)) (s.meets e i)
    where
      at_next : (x : ℕ) → x ≡ L.origin (L.twin e) → IsHalfEdge F (own_plane L e) (other_plane L e) (from_point L e) (L.point x)
      at_next x q = rw q (s.edge e i)

  of_face : (g : HalfSpace) (a b : Homogeneous) (k j : ℕ) → j ≡ k → IsHalfEdge F (L.plane j) g a b → IsHalfEdge F (L.plane k) g a b
  of_face g a b k j q h = rw (← q) h

  next_injective : (k l : ℕ) → HasEdge L k → HasEdge L l → L.next k ≡ L.next l → k ≡ l
  next_injective k l i j q =
      let f : L.face l ≡ L.face k = sym (s.same_face l j) ∙ sym (ap L.face q) ∙ s.same_face k i in
      let a = to_next k i in
      let b = of_face (other_plane L l) (from_point L l) (L.point (L.origin (L.next l))) (L.face k) (L.face l) f (to_next l j) in
      let c = at_end (own_plane L k) (other_plane L l) (from_point L l) (L.origin (L.next k)) (L.origin (L.next l)) (sym (ap L.origin q)) b in
      let d = one_incoming F (own_plane L k) (other_plane L k) (other_plane L l) (from_point L k) (from_point L l) (L.point (L.origin (L.next k))) (n.proper (own_plane L k) a.f_in) a c in
      sym (s.one_each l k j i (s.vertex_once (L.origin l) (L.origin k) (s.origin_live l j) (s.origin_live k i) d) f)
    where
      at_end : (f g : HalfSpace) (a : Homogeneous) (x y : ℕ) → y ≡ x → IsHalfEdge F f g a (L.point y) → IsHalfEdge F f g a (L.point x)
      at_end f g a x y q h = rw (← q) h

-- The live slots of a list.
pub record Live (L : Links) (S : List ℕ) : Type 0 where
  pub slots : List ℕ
  pub all : (e : ℕ) → e ∈ S → HasEdge L e → e ∈ slots
  pub only : (e : ℕ) → e ∈ slots → HasEdge L e

live_of : (L : Links) (S : List ℕ) → Live L S
live_of L [] = record { slots = []; all = λ e m i. elim m [ ]; only = λ e m. elim m [ ] }
live_of L (k ∷ S) = by_bool (L.has_edge k) refl (live_of L S)
  where
    more : (e : ℕ) (T : List ℕ) → ((d : ℕ) → d ∈ S → HasEdge L d → d ∈ T) → e ∈ (k ∷ S) → HasEdge L e → e ∈ (k ∷ T)
    more e T all here i = here
    more e T all (there m) i = there (all e m i)

    less : (e : ℕ) (T : List ℕ) → L.has_edge k ≡ false → ((d : ℕ) → d ∈ S → HasEdge L d → d ∈ T) → e ∈ (k ∷ S) → HasEdge L e → e ∈ T
    less e T q all here i = absurd (cc)
    less e T q all (there m) i = all e m i

    both : (T : List ℕ) → HasEdge L k → ((d : ℕ) → d ∈ T → HasEdge L d) → (e : ℕ) → e ∈ (k ∷ T) → HasEdge L e
    both T q only e here = q
    both T q only e (there m) = only e m

    by_bool : (b : Bool) → L.has_edge k ≡ b → Live L S → Live L (k ∷ S)
    by_bool true q r = record { slots = k ∷ r.slots; all = λ e m i. more e r.slots r.all m i; only = both r.slots q r.only }
    by_bool false q r = record { slots = r.slots; all = λ e m i. less e r.slots q r.all m i; only = r.only }

module _ {F : List HalfSpace} {L : Links} (n : Neat F) (s : Linked F L) where
  live_closed : (S : List ℕ) (r : Live L S) → ((e : ℕ) → HasEdge L e → e ∈ S) → Closed r.slots L.next
  live_closed S r cover = record {
    next_in = λ k m. r.all (L.next k) (cover (L.next k) (s.next_live k (r.only k m))) (s.next_live k (r.only k m));
    injective = λ k l i j q. next_injective n s k l (r.only k i) (r.only l j) q;
  }

  way_face : (T : List ℕ) (c : Closed T L.next) (only : (e : ℕ) → e ∈ T → HasEdge L e) {x y : ℕ} {V : List ℕ} → Way L.next x y V → x ∈ T → (v : ℕ) → v ∈ V → L.face v ≡ L.face x
  way_face T c only start i v here = refl
  way_face T c only start i v (there m) = elim m [ ]
  way_face T c only (onward {y = y} w q) i v here = s.same_face y (only y (way_in c i w y (last_in w))) ∙ way_face T c only w i y (last_in w)
  way_face T c only (onward w q) i v (there m) = way_face T c only w i v m

-- The points where the half-edges of the slots begin.
points : Links → List ℕ → List Homogeneous
points L [] = []
points L (k ∷ V) = L.point (L.origin k) ∷ points L V

in_points : (L : Links) (V : List ℕ) (k : ℕ) → k ∈ V → L.point (L.origin k) ∈ points L V
unfolding points
in_points L [] l m = elim m [ ]
in_points L (k ∷ V) l here = here
in_points L (k ∷ V) l (there m) = there (in_points L V l m)

pub record OfSlot (L : Links) (V : List ℕ) (p : Homogeneous) : Type 0 where
  pub slot : ℕ
  pub among : slot ∈ V
  pub is : L.point (L.origin slot) ≡ p

of_points : (L : Links) (V : List ℕ) (p : Homogeneous) → p ∈ points L V → OfSlot L V p
unfolding points
of_points L [] p m = elim m [ ]
of_points L (k ∷ V) p here = record { slot = k; among = here; is = refl }
of_points L (k ∷ V) p (there m) = let o = of_points L V p m in record { slot = o.slot; among = there o.among; is = o.is }

edge_to : (F : List HalfSpace) (f g : HalfSpace) (a b t : Homogeneous) → b ≡ t → IsHalfEdge F f g a b → IsHalfEdge F f g a t
edge_to F f g a b t e h = rw (← e) h

edge_from : (F : List HalfSpace) (f g : HalfSpace) (a b t : Homogeneous) → a ≡ t → IsHalfEdge F f g a b → IsHalfEdge F f g t b
edge_from F f g a b t e h = rw (← e) h

same_to : (v p t : Homogeneous) → p ≡ t → SamePoint v t → SamePoint v p
same_to v p t e h = rw e h

module _ {F : List HalfSpace} {L : Links} (n : Neat F) (s : Linked F L) where
  edge_at : (e k : ℕ) → HasEdge L k → L.face k ≡ L.face e → IsHalfEdge F (own_plane L e) (other_plane L k) (from_point L k) (L.point (L.origin (L.next k)))
  edge_at e k i q = of_face n s (other_plane L k) (from_point L k) (L.point (L.origin (L.next k))) (L.face e) (L.face k) q (to_next n s k i)

  round_at : (S : List ℕ) (r : Live L S) → ((e : ℕ) → HasEdge L e → e ∈ S) → (e : ℕ) → HasEdge L e → Returns L.next e → GoesRound F L e
  round_at S r cover e i t =
      let f = own_plane L e in
      let m = (s.edge e i).f_in in
      let c = live_closed n s S r cover in
      let x = r.all e (cover e i) i in
      let live = λ (d : ℕ) (j : d ∈ t.slots). r.only d (way_in c x t.way d j) in
      let face = way_face n s r.slots c r.only t.way x in record {
        last = t.last;
        slots = t.slots;
        way = t.way;
        back = t.back;
        live = live;
        face_is = face;
        passes = λ v u z.
            let a = one_loop F f (from_point L e) v (points L t.slots) n.bounded n.proper m (n.bears f m) (in_points L t.slots e (first_in t.way))
            (λ y j. let o = of_points L t.slots y j in let k = way_from t.way t.back o.slot o.among in record {
              a = from_point L k.it;
              g = other_plane L k.it;
              among = in_points L t.slots k.it k.among;
              edge = edge_to F f (other_plane L k.it) (from_point L k.it) (L.point (L.origin (L.next k.it))) y (ap (λ d. L.point (L.origin d)) k.leads ∙ o.is) (edge_at e k.it (live k.it k.among) (face k.it k.among));
            })
            (λ y j. let o = of_points L t.slots y j in record {
              b = L.point (L.origin (L.next o.slot));
              g = other_plane L o.slot;
              among = in_points L t.slots (L.next o.slot) (way_next t.way t.back o.slot o.among);
              edge = edge_from F f (other_plane L o.slot) (from_point L o.slot) (L.point (L.origin (L.next o.slot))) y o.is (edge_at e o.slot (live o.slot o.among) (face o.slot o.among));
            })
            u z in
            let o = of_points L t.slots a.s a.among in record { slot = o.slot; among = o.among; same = same_to v (from_point L o.slot) a.s o.is a.same };
      }

pub linked_round : (F : List HalfSpace) (L : Links) (S : List ℕ) → Neat F → Linked F L → ((e : ℕ) → HasEdge L e → e ∈ S) → (e : ℕ) → HasEdge L e → GoesRound F L e
linked_round F L S n s cover e i = let r = live_of L S in round_at n s S r cover e i (returns_to r.slots L.next e (live_closed n s S r cover) (r.all e (cover e i) i))

linked_of : {F : List HalfSpace} {L : Links} → StandsFor F L → Linked F L
linked_of s = record {
  vertex = s.vertex;
  vertex_once = s.vertex_once;
  face_in = s.face_in;
  face_once = s.face_once;
  face_all = s.face_all;
  first_live = s.first_live;
  first_face = s.first_face;
  origin_live = s.origin_live;
  face_live = s.face_live;
  twin_live = s.twin_live;
  twin_twin = s.twin_twin;
  next_live = s.next_live;
  meets = s.meets;
  same_face = s.same_face;
  edge = s.edge;
  one_each = s.one_each;
}

pub goes_round : GoesRoundLaw
goes_round F L S n s cover e i = linked_round F L S n (linked_of s) cover e i

-- ---- the half-edges of an edge
module _ {F : List HalfSpace} {L : Links} (n : Neat F) (s : StandsFor F L) where
  by_half_edge : (f g : HalfSpace) (a b : Homogeneous) → IsHalfEdge F f g a b → OneHalfEdge L a b
  by_half_edge f g a b d =
      let v = s.vertex_all a d.a_vertex in
      let k = s.face_all f d.f_in in
      let z : side (L.plane k.slot) (L.point v.slot) ≡ pos 0 = rw (k.plane_is) (same-on f a (L.point v.slot) d.a_vertex.inside.weight v.same d.a_on_f) in
      let e = s.edge_all v.slot k.slot v.live k.live z in
      let q = same_at L a e.slot v.slot e.origin_is v.same in
      let x = moved f e.slot (ap L.plane e.face_is ∙ k.plane_is) (s.edge e.slot e.live) in
      let y = same_start F f (other_plane L e.slot) (from_point L e.slot) (to_point L e.slot) a x d.a_vertex.inside.weight q in
      let t = one_outgoing F f g (other_plane L e.slot) a b (to_point L e.slot) (n.proper f d.f_in) d y in
      record { slot = e.slot; live = e.live; from = q; to = t; only = λ h i u w. only_one h e.slot i e.live (ap L.plane e.face_is ∙ k.plane_is) u w q }
    where
      moved : (f : HalfSpace) (e : ℕ) → L.plane (L.face e) ≡ f → IsHalfEdge F (L.plane (L.face e)) (other_plane L e) (from_point L e) (to_point L e) →
          IsHalfEdge F f (other_plane L e) (from_point L e) (to_point L e)
      moved f e q h = rw (← q) h

      only_one : (h e : ℕ) → HasEdge L h → HasEdge L e → L.plane (L.face e) ≡ f → SamePoint a (from_point L h) → SamePoint b (to_point L h) → SamePoint a (from_point L e) → h ≡ e
      only_one h e i j q u w v =
          let x = s.edge h i in
          let y = same_start F (own_plane L h) (other_plane L h) (from_point L h) (to_point L h) a x d.a_vertex.inside.weight u in
          let z = same_half_edge F (own_plane L h) (other_plane L h) a (to_point L h) b y d.b_vertex.inside.weight w in
          let o : L.origin h ≡ L.origin e = s.vertex_once (L.origin h) (L.origin e) (s.origin_live h i) (s.origin_live e j) (same_point_trans d.a_vertex.inside.weight (same_point_sym u) v) in ⊎_elim
          (λ p. s.one_each h e i j o (s.face_once (L.face h) (L.face e) (s.face_live h i) (s.face_live e j) (p ∙ sym q)))
          (λ p. ⊎_elim
          (λ r. no_return F f g a b d (twin F g f a b (turned (own_plane L h) (other_plane L h) p r z)))
          (λ r. own_not_other F (own_plane L h) (other_plane L h) a b z (r ∙ sym p))
          (third_face F f g (other_plane L h) a b n d z.g_in z.a_on_g z.b_on_g))
          (third_face F f g (own_plane L h) a b n d z.f_in z.a_on_f z.b_on_f)
        where
          turned : (h k : HalfSpace) → h ≡ g → k ≡ f → IsHalfEdge F h k a b → IsHalfEdge F g f a b
          turned h k p r e = rw (← p, ← r) e

pub one_half_edge : OneHalfEdgeLaw
one_half_edge F L a b n s e = ⊎_elim (λ d. by_half_edge n s e.f e.g a b d) (λ d. by_half_edge n s e.g e.f a b d) (edge_of F a b e)
