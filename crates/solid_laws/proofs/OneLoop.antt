-- A face has one loop.
use Rattle.std.proofs.Common.{◌≡◌, ℕ, refl, sym, ap, subst, ◌∙◌, arith, List, [], ◌∷◌, Some}
use Rattle.std.specs.Prelude.{slice_get}
use Rattle.algebra.specs.Members.{◌∈◌, here}
use Rattle.algebra.specs.Space.{Homogeneous, HalfSpace}
use Rattle.vertex_laws.specs.Loop.{IsLoop}
use Rattle.solid_laws.specs.Names.{AreVertices}
use Rattle.solid_laws.specs.FaceLoop.{LeastFirst, IsNumberedLoop}
use Rattle.solid_laws.specs.Laws.{OneNumberedLoopLaw}
use Rattle.exact_geom.proofs.Unique.{one_form}
use Rattle.solid_laws.proofs.Numbered.{Picks, OneNumber, got_member, one_number, number_of, Head, head_of, same_numbers}
use Rattle.solid_laws.proofs.Round.{Round, others, walk, next_closed}

-- What the walk needs of a loop.
round : (F : List HalfSpace) (f : HalfSpace) (S : List Homogeneous) → IsLoop F f S → Round f S
round F f S l = record {
  once = l.once;
  positive = λ p m. (l.vertices p m).0.inside.weight;
  turns = λ a b c n. l.turns a b c (next_closed a b S n);
}

-- A vertex of one loop is a vertex of the other.
shared : (F : List HalfSpace) (f : HalfSpace) (V : List Homogeneous) (N M : List ℕ) → AreVertices F V →
    (l : IsNumberedLoop F f V N) (k : IsNumberedLoop F f V M) (p : Homogeneous) → p ∈ l.points → p ∈ k.points
shared F f V N M a l k p m =
    let u = l.is_loop.vertices p m in let s = k.is_loop.all p u.0 u.1 in
    let n = number_of V N l.points l.picked p m in let i = number_of V M k.points k.picked s.s s.among in
    let x = a.each p (got_member V n.it p n.is) in let y = a.each s.s (got_member V i.it s.s i.is) in
    subst (λ t. t ∈ k.points) (sym (one_form p s.s x.0.inside.weight y.0.inside.weight x.1 y.1 s.same)) s.among

-- Both loops start at the least of the same numbers.
same_head : (V : List Homogeneous) → OneNumber V → (N M : List ℕ) (p q : Homogeneous) (P Q : List Homogeneous) → Picks V N (p ∷ P) → Picks V M (q ∷ Q) →
    Head V N p → Head V M q → p ∈ (q ∷ Q) → q ∈ (p ∷ P) → p ≡ q
same_head V one N M p q P Q e f h k i j =
    let x = number_of V M (q ∷ Q) f p i in let y = number_of V N (p ∷ P) e q j in
    let a = one x.it h.it p x.is h.is in let b = one y.it k.it q y.is k.is in
    let c = h.least y.it y.among in let d = k.least x.it x.among in
    let n : h.it ≡ k.it = omega arith in
    let g : Some p ≡ Some q = sym h.is ∙ ap (λ t. slice_get V t) n ∙ k.is in cc

same_points : (f : HalfSpace) (V : List Homogeneous) → OneNumber V → (N M : List ℕ) (P Q : List Homogeneous) → Picks V N P → Picks V M Q →
    LeastFirst N → LeastFirst M → Round f P → Round f Q → ((x : Homogeneous) → x ∈ P → x ∈ Q) → ((x : Homogeneous) → x ∈ Q → x ∈ P) → P ≡ Q
same_points f V one N M [] [] e g l k r t sub back = refl
same_points f V one N M [] (q ∷ Q) e g l k r t sub back = elim (back q here) [ ]
same_points f V one N M (p ∷ P) [] e g l k r t sub back = elim (sub p here) [ ]
same_points f V one N M (p ∷ P) (q ∷ Q) e g l k r t sub back =
    let h = same_head V one N M p q P Q e g (head_of V N p P e l) (head_of V M q Q g k) (sub p here) (back q here) in
    ap (λ x. x ∷ P) h ∙ ap (λ X. q ∷ X) (walk f q P Q (subst (λ x. Round f (x ∷ P)) h r) t
    (others p q P Q h r.once sub) (others q p Q P (sym h) t.once back))

pub one_numbered_loop : OneNumberedLoopLaw
one_numbered_loop F f V N M a l k =
    let one = one_number F V a.order in
    let e = same_points f V one N M l.points k.points l.picked k.picked l.least_first k.least_first
    (round F f l.points l.is_loop) (round F f k.points k.is_loop) (shared F f V N M a l k) (shared F f V M N a k l) in
    same_numbers V one N M k.points (subst (λ P. Picks V N P) e l.picked) k.picked
