-- Edges of a face on one line, and the scan that finds the edge from a corner.
use Rattle.std.proofs.Common.{◌≡◌, Bool, true, false, if◌then◌else◌, ◌&&◌, int_eq, List, [], ◌∷◌, ap, ◌∙◌, sym, refl, arith, ℤ, pos, neg_ℤ, ◌+ℤ◌, ◌-ℤ◌, ◌*ℤ◌, ◌<ℤ◌, ◌≤ℤ◌}
use Rattle.std.proofs.lemmas.Int.{ints, by_lt_z}
use Rattle.std.proofs.lemmas.Bool.Decides.{Decides-int_eq}
use Rattle.algebra.specs.Fractions.{Least}
use Rattle.algebra.specs.Members.{◌∈◌}
use Rattle.algebra.specs.Space.{Vector, dot, cross, minus, det, HalfSpace, side, whole_point}
use Rattle.algebra.proofs.Expr.{read}
use Rattle.algebra.proofs.Identities.{with_vector, with_half_space}
use Rattle.algebra.proofs.Orders.{signs, positive-mul, nonneg_of_product, Scaled, scaled_nonpos}
use Rattle.algebra.proofs.Ring.{ring}
use Rattle.algebra.proofs.Fractions.{least_of}
use Rattle.algebra.proofs.Vectors.{nonzero}
use Rattle.hull_laws.specs.Facets.{Triple, plane_of}
use Rattle.hull_laws.specs.Pivots.{slope, border, Edge, FirstEdge, Neighbour}
use Rattle.hull_laws.proofs.Separate.{cancel_zero}
use Rattle.hull_laws.proofs.Walk.{framed, on_frame, border_wide}

-- ---- borders with one line
pub border-first : (f : HalfSpace) (p e : Vector) → side (border f p e) (whole_point p) ≡ pos 0
unfolding side dot cross minus whole_point slope
border-first f p e = ring (with_half_space f (with_vector p (with_vector e []))) (search read depth 60 fits 20000) tt

border-second : (f : HalfSpace) (p e : Vector) → side (border f p e) (whole_point e) ≡ pos 0
unfolding side dot cross minus whole_point slope
border-second f p e = ring (with_half_space f (with_vector p (with_vector e []))) (search read depth 60 fits 20000) tt

pub border-turn : (f : HalfSpace) (p b q : Vector) → side (border f p b) (whole_point q) ≡ neg_ℤ (side (border f p q) (whole_point b))
unfolding side dot cross minus whole_point slope
border-turn f p b q = ring (with_half_space f (with_vector p (with_vector b (with_vector q [])))) (search read depth 60 fits 20000) tt

pub border-slide : (f : HalfSpace) (a e p : Vector) → side (border f p e) (whole_point a) ≡ neg_ℤ (side (border f a e) (whole_point p))
unfolding side dot cross minus whole_point slope
border-slide f a e p = ring (with_half_space f (with_vector a (with_vector e (with_vector p [])))) (search read depth 60 fits 20000) tt

-- the normals of two borders
border-along : (f : HalfSpace) (p b a e : Vector) → dot (border f p b).normal (border f a e).normal ≡ dot f.normal f.normal *ℤ dot (minus b p) (minus e a) -ℤ dot f.normal (minus b p) *ℤ dot f.normal (minus e a)
unfolding dot cross minus slope
border-along f p b a e = ring (with_half_space f (with_vector p (with_vector b (with_vector a (with_vector e []))))) (search read depth 60 fits 20000) tt

level : (f : HalfSpace) (a b : Vector) → dot f.normal (minus b a) ≡ side f (whole_point b) -ℤ side f (whole_point a)
unfolding side dot minus whole_point
level f a b = ring (with_half_space f (with_vector a (with_vector b []))) (search read depth 60) tt

along : (n s t u : ℤ) → t ≡ pos 0 → pos 0 <ℤ n → pos 0 <ℤ s → pos 0 <ℤ (n *ℤ s -ℤ t *ℤ u)
along n s t u z h k = let p : pos 0 <ℤ (n *ℤ s) = positive-mul h k in let w : t *ℤ u ≡ pos 0 = ap (λ x. x *ℤ u) z ∙ ring (u ∷ []) (search read depth 20) tt in omega (arith, ints)

borders_along : (f : HalfSpace) (p b a e : Vector) → pos 0 <ℤ dot f.normal f.normal → side f (whole_point p) ≡ pos 0 → side f (whole_point b) ≡ pos 0 → pos 0 <ℤ dot (minus b p) (minus e a) →
    pos 0 <ℤ dot (border f p b).normal (border f a e).normal
borders_along f p b a e h zp zb l = rw border-along (along (dot f.normal f.normal) (dot (minus b p) (minus e a)) (dot f.normal (minus b p)) (dot f.normal (minus e a)) (level f p b ∙ (let x = zp in let y = zb in omega (arith, ints))) h l)

-- a border h with the line of an edge from a to e, and with its front at the same side
same_border : (ps : List Vector) (f : HalfSpace) (a e : Vector) → pos 0 <ℤ dot f.normal f.normal → Edge ps f a e → (h : HalfSpace) → side h (whole_point a) ≡ pos 0 → side h (whole_point e) ≡ pos 0 →
    pos 0 <ℤ dot h.normal (border f a e).normal → (q : Vector) → q ∈ ps → side f (whole_point q) ≡ pos 0 → side h (whole_point q) ≤ℤ pos 0
same_border ps f a e w E h ha he l q i z =
    scaled_nonpos (swap (on_frame (framed h f a e ha he E.a_on E.b_on (whole_point q)) z)) l (border_wide f a e w E.a_on E.b_on E.apart) (E.beside q i z)
  where
    swap : {k s m y : ℤ} → Scaled k s m y → Scaled m y k s
    swap S = record { is = sym S.is }

-- an edge may begin at another point of its line that lies before its end
starts_at : (ps : List Vector) (f : HalfSpace) (a e p : Vector) → pos 0 <ℤ dot f.normal f.normal → Edge ps f a e → p ∈ ps → side f (whole_point p) ≡ pos 0 → side (border f a e) (whole_point p) ≡ pos 0 →
    pos 0 <ℤ dot (minus e p) (minus e a) → pos 0 <ℤ dot (minus e p) (minus e p) → Edge ps f p e
starts_at ps f a e p w E i zp on l far = record {
  a_in = i;
  b_in = E.b_in;
  a_on = zp;
  b_on = E.b_on;
  apart = far;
  beside = same_border ps f a e w E (border f p e) (border-slide f a e p ∙ (let z = on in omega (arith, ints))) (border-second f p e) (borders_along f p e a e w zp E.b_on l);
}

-- and it may end at another one that lies behind its beginning
pub ends_at : (ps : List Vector) (f : HalfSpace) (p e b : Vector) → pos 0 <ℤ dot f.normal f.normal → Edge ps f p e → b ∈ ps → side f (whole_point b) ≡ pos 0 → side (border f p e) (whole_point b) ≡ pos 0 →
    pos 0 <ℤ dot (minus b p) (minus e p) → pos 0 <ℤ dot (minus b p) (minus b p) → Edge ps f p b
ends_at ps f p e b w E i zb on l far = record {
  a_in = E.a_in;
  b_in = i;
  a_on = E.a_on;
  b_on = zb;
  apart = far;
  beside = same_border ps f p e w E (border f p b) (border-first f p b) (border-turn f p b e ∙ (let z = on in omega (arith, ints))) (borders_along f p b p e w E.a_on zb l);
}

-- ---- edges that begin where their line does
-- vectors at right angles to n, by their parts along d and across it
parts : (n d x y : Vector) → (dot n n *ℤ dot d d) *ℤ dot x y ≡ dot n n *ℤ (dot x d *ℤ dot y d) +ℤ det n d x *ℤ det n d y
    +ℤ dot n d *ℤ (dot n d *ℤ dot x y -ℤ dot y d *ℤ dot n x) +ℤ dot n y *ℤ (dot d d *ℤ dot n x -ℤ dot n d *ℤ dot x d)
unfolding dot det cross
parts n d x y = ring (with_vector n (with_vector d (with_vector x (with_vector y [])))) (search read depth 60 fits 20000) tt

border-det : (f : HalfSpace) (p e b : Vector) → side (border f p e) (whole_point b) ≡ det f.normal (minus e p) (minus b p)
unfolding side dot det cross minus whole_point slope
border-det f p e b = ring (with_half_space f (with_vector p (with_vector e (with_vector b [])))) (search read depth 60 fits 20000) tt

border-back : (f : HalfSpace) (a e p : Vector) → det f.normal (minus e a) (minus e p) ≡ neg_ℤ (side (border f a e) (whole_point p))
unfolding side dot det cross minus whole_point slope
border-back f a e p = ring (with_half_space f (with_vector a (with_vector e (with_vector p [])))) (search read depth 60 fits 20000) tt

no_part : (n d x : Vector) → pos 0 <ℤ dot n n → pos 0 <ℤ dot d d → dot n d ≡ pos 0 → dot n x ≡ pos 0 → det n d x ≡ pos 0 → dot x d ≡ pos 0 → dot x x ≡ pos 0
no_part n d x h k a b c e = let r = rw (e, c, b, a) at (parts n d x x) in cancel_zero (dot n n *ℤ dot d d) (dot x x) (omega (arith, ints)) (positive-mul h k)

-- a point on the line of such an edge lies ahead of its beginning, or is it
pub ahead : (ps : List Vector) (f : HalfSpace) (p e b : Vector) → pos 0 <ℤ dot f.normal f.normal → FirstEdge ps f p e → b ∈ ps → side f (whole_point b) ≡ pos 0 → side (border f p e) (whole_point b) ≡ pos 0 →
    pos 0 <ℤ dot (minus b p) (minus b p) → pos 0 <ℤ dot (minus b p) (minus e p)
ahead ps f p e b w F i zb on far =
    let E = F.edge in let l = F.least b i zb on in
    by_lt_z (pos 0) (dot (minus b p) (minus e p)) (λ h. h)
    (λ h. let z = no_part f.normal (minus e p) (minus b p) w E.apart (level f p e ∙ flat E.a_on E.b_on) (level f p b ∙ flat E.a_on zb) (sym (border-det f p e b) ∙ on) (omega (arith, ints)) in absurd (omega (arith, ints)))
  where
    flat : {x y : ℤ} → x ≡ pos 0 → y ≡ pos 0 → y -ℤ x ≡ pos 0
    flat {x} {y} a b = omega (arith, ints)

-- the first edge from its beginning ends where a point of its line lies
pub edge_to : (ps : List Vector) (f : HalfSpace) (p e b : Vector) → pos 0 <ℤ dot f.normal f.normal → FirstEdge ps f p e → b ∈ ps → side f (whole_point b) ≡ pos 0 → side (border f p e) (whole_point b) ≡ pos 0 →
    pos 0 <ℤ dot (minus b p) (minus b p) → Edge ps f p b
edge_to ps f p e b w F i zb on far = ends_at ps f p e b w F.edge i zb on (ahead ps f p e b w F i zb on far) far

-- a scan's steps: once the end of a first edge was met, the best so far is on its line
pub kept : (ps : List Vector) (f : HalfSpace) (p e b q : Vector) → pos 0 <ℤ dot f.normal f.normal → FirstEdge ps f p e → b ∈ ps → side f (whole_point b) ≡ pos 0 → side (border f p e) (whole_point b) ≡ pos 0 →
    pos 0 <ℤ dot (minus b p) (minus b p) → q ∈ ps → side f (whole_point q) ≡ pos 0 → ¬ (pos 0 <ℤ side (border f p b) (whole_point q))
kept ps f p e b q w F i zb on far j zq l = let h = (edge_to ps f p e b w F i zb on far).beside q j zq in absurd (omega (arith, ints))

pub met : (ps : List Vector) (f : HalfSpace) (p e b : Vector) → Edge ps f p e → b ∈ ps → side f (whole_point b) ≡ pos 0 → side (border f p b) (whole_point e) ≤ℤ pos 0 → side (border f p e) (whole_point b) ≡ pos 0
met ps f p e b E i zb l = let h = E.beside b i zb in let t = border-turn f p b e in omega (arith, ints)

pub met_end : (f : HalfSpace) (p e : Vector) → side (border f p e) (whole_point e) ≡ pos 0
met_end f p e = border-second f p e

-- ---- the beginning of an edge's line
on_line : HalfSpace → HalfSpace → Vector → ℤ
on_line f g q = if int_eq (side f (whole_point q)) (pos 0) && int_eq (side g (whole_point q)) (pos 0) then pos 1 else pos 0

is_on : (f g : HalfSpace) (q : Vector) → side f (whole_point q) ≡ pos 0 → side g (whole_point q) ≡ pos 0 → on_line f g q ≡ pos 1
unfolding on_line
is_on f g q a b = rw (a, b) refl

was_on : (f g : HalfSpace) (q : Vector) → pos 0 <ℤ on_line f g q → (side f (whole_point q) ≡ pos 0) × (side g (whole_point q) ≡ pos 0)
unfolding on_line
was_on f g q h = by_tests (int_eq (side f (whole_point q)) (pos 0)) (int_eq (side g (whole_point q)) (pos 0)) refl refl h
  where
    by_tests : (a b : Bool) → int_eq (side f (whole_point q)) (pos 0) ≡ a → int_eq (side g (whole_point q)) (pos 0) ≡ b → pos 0 <ℤ (if a && b then pos 1 else pos 0) → (side f (whole_point q) ≡ pos 0) × (side g (whole_point q) ≡ pos 0)
    by_tests true true i j k = ((Decides-int_eq (side f (whole_point q)) (pos 0)).0 i, (Decides-int_eq (side g (whole_point q)) (pos 0)).0 j)
    by_tests true false i j k = absurd (omega (arith, ints))
    by_tests false b i j k = absurd (omega (arith, ints))

less-dot : (a p e d : Vector) → dot (minus e p) d ≡ dot (minus e a) d +ℤ (dot a d -ℤ dot p d)
unfolding dot minus
less-dot a p e d = ring (with_vector a (with_vector p (with_vector e (with_vector d [])))) (search read depth 20) tt

minus-dot : (q p d : Vector) → dot (minus q p) d ≡ dot q d -ℤ dot p d
unfolding dot minus
minus-dot q p d = ring (with_vector q (with_vector p (with_vector d []))) (search read depth 20) tt

not_before : (q p d : Vector) → dot p d ≤ℤ dot q d → pos 0 ≤ℤ dot (minus q p) d
not_before q p d l = rw minus-dot (by_numbers l)
  where
    by_numbers : {x y : ℤ} → x ≤ℤ y → pos 0 ≤ℤ (y -ℤ x)
    by_numbers {x} {y} l = omega (arith, ints)

-- each edge's line has a first edge
pub record FirstOn (ps : List Vector) (f : HalfSpace) (a e : Vector) : Type 0 where
  pub p : Vector
  pub first : FirstEdge ps f p e
  pub on : side (border f a e) (whole_point p) ≡ pos 0

along_both : (n d x y : Vector) → pos 0 <ℤ dot n n → pos 0 <ℤ dot d d → dot n d ≡ pos 0 → dot n y ≡ pos 0 → det n d y ≡ pos 0 → pos 0 ≤ℤ dot x d → pos 0 <ℤ dot y d → pos 0 ≤ℤ dot x y
along_both n d x y h k a b c l m =
    let r = rw (a, b, c) at (parts n d x y) in
    let p : pos 0 ≤ℤ (dot n n *ℤ (dot x d *ℤ dot y d)) = search signs in
    nonneg_of_product (dot n n *ℤ dot d d) (positive-mul h k) (omega (arith, ints))

first_of : (ps : List Vector) (f : HalfSpace) (a e : Vector) → pos 0 <ℤ dot f.normal f.normal → Edge ps f a e → Least (λ q. dot q (minus e a)) (on_line f (border f a e)) ps → FirstOn ps f a e
first_of ps f a e w E L =
    let g = border f a e in let d = minus e a in
    let p = L.it in let o = was_on f g p L.ahead in
    let below : (q : Vector) → q ∈ ps → side f (whole_point q) ≡ pos 0 → side g (whole_point q) ≡ pos 0 → dot p d ≤ℤ dot q d =
    λ q i z y. let one = is_on f g q z y in let two = is_on f g p o.0 o.1 in let k = (L.below q i (rw one (omega (arith, ints)))).le in let m = rw (one, two) at k in omega (arith, ints) in
    let l : pos 0 <ℤ dot (minus e p) d = let b = below a E.a_in E.a_on (border-first f a e) in let r = less-dot a p e d in let far = E.apart in omega (arith, ints) in
    let far = nonzero (minus e p) d l in
    let S = starts_at ps f a e p w E L.among o.0 o.1 l far in record {
      p = p;
      on = o.1;
      first = record {
        edge = S;
        least = λ q i z y.
            let at : side g (whole_point q) ≡ pos 0 = zero_there (on_frame (framed g f p e o.1 (border-second f a e) o.0 E.b_on (whole_point q)) z) (border_wide f p e w o.0 E.b_on far) y in
            along_both f.normal d (minus q p) (minus e p) w E.apart (level f a e ∙ flat E.a_on E.b_on) (level f p e ∙ flat o.0 E.b_on)
            (border-back f a e p ∙ (let z = o.1 in omega (arith, ints))) (not_before q p d (below q i z at)) l;
      };
    }
  where
    flat : {x y : ℤ} → x ≡ pos 0 → y ≡ pos 0 → y -ℤ x ≡ pos 0
    flat {x} {y} a b = omega (arith, ints)

    zero_there : {k s m y : ℤ} → Scaled k s m y → pos 0 <ℤ k → y ≡ pos 0 → s ≡ pos 0
    zero_there {k} {s} {m} {y} S h z = cancel_zero k s (S.is ∙ ap (λ x. m *ℤ x) z ∙ ring (m ∷ []) (search read depth 20) tt) h

pub first_on : (ps : List Vector) (f : HalfSpace) (a e : Vector) → pos 0 <ℤ dot f.normal f.normal → Edge ps f a e → FirstOn ps f a e
first_on ps f a e w E = first_of ps f a e w E (least_of (λ q. dot q (minus e a)) (on_line f (border f a e)) ps a E.a_in (rw (is_on f (border f a e) a E.a_on (border-first f a e)) (omega (arith, ints))))

-- a neighbour at one edge of a line is one at each edge of it
pub neighbour_along : (ps : List Vector) (ts : List Triple) (f : HalfSpace) (a e p b : Vector) → pos 0 <ℤ dot f.normal f.normal → Edge ps f p b → side f (whole_point a) ≡ pos 0 → side f (whole_point e) ≡ pos 0 →
    side (border f p b) (whole_point a) ≡ pos 0 → side (border f p b) (whole_point e) ≡ pos 0 → Neighbour ps ts f p b → Neighbour ps ts f a e
neighbour_along ps ts f a e p b w E za ze oa oe n = record {
  h = n.h;
  h_in = n.h_in;
  a_on = there a za oa;
  b_on = there e ze oe;
  c = n.c;
  c_on = n.c_on;
  c_off = n.c_off;
}
  where
    there : (q : Vector) → side f (whole_point q) ≡ pos 0 → side (border f p b) (whole_point q) ≡ pos 0 → side (plane_of ps n.h) (whole_point q) ≡ pos 0
    there q z y = at_zero (on_frame (framed (plane_of ps n.h) f p b n.a_on n.b_on E.a_on E.b_on (whole_point q)) z) (border_wide f p b w E.a_on E.b_on E.apart) y
      where
        at_zero : {k s m y : ℤ} → Scaled k s m y → pos 0 <ℤ k → y ≡ pos 0 → s ≡ pos 0
        at_zero {k} {s} {m} {y} S h z = cancel_zero k s (S.is ∙ ap (λ x. m *ℤ x) z ∙ ring (m ∷ []) (search read depth 20) tt) h
