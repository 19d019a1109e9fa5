-- What a solid says of its vertices and loops, of any list of its vertices.
use Rattle.std.proofs.Common.{◌≡◌, ℕ, zero, suc, ◌≤◌, Bool, true, false, cond, List, [], ◌∷◌, length, filter, Option, None, Some, refl, ap, subst, ◌∙◌, arith}
use Rattle.std.specs.Prelude.{slice_get, MatchOption}
use Rattle.std.specs.List.{find, enumerate_from}
use Rattle.std.proofs.lemmas.List.FromFn.{length-enumerate_from}
use Rattle.algebra.specs.Space.{HalfSpace, Homogeneous}
use Rattle.solid_laws.specs.Names.{AreVertices}
use Rattle.solid_laws.specs.FaceLoop.{IsNumberedLoop, HasVertexCount, HasVertex, HasLoopVertex}
use Rattle.solid_laws.proofs.OneList.{one_list}
use Rattle.map_model.specs.Loops.{number_is_on, is_next, loop_from, loop_of, loop}
use Rattle.loop_laws.proofs.FaceLoops.{loop_is}

pub vertex_is : (F : List HalfSpace) (k : ℕ) (vertex : Option Homogeneous) (V : List Homogeneous) → HasVertex F k vertex → AreVertices F V → slice_get V k ≡ vertex
vertex_is F k vertex V h vertices = ap (λ W. slice_get W k) (one_list F V h.V vertices h.vertices) ∙ h.is_vertex

pub count_is : (F : List HalfSpace) (count : ℕ) (V : List Homogeneous) → HasVertexCount F count → AreVertices F V → length V ≡ count
count_is F count V h vertices = ap length (one_list F V h.V vertices h.vertices) ∙ h.is_count

pub number_is : (F : List HalfSpace) (face k : ℕ) (number : Option ℕ) (V : List Homogeneous) (f : HalfSpace) → AreVertices F V → slice_get F face ≡ Some f →
    HasLoopVertex F face k number → slice_get (loop V f) k ≡ number
number_is F face k number V f vertices e h =
    let its = subst (λ o. MatchOption o (h.numbers ≡ []) (λ g. IsNumberedLoop F g h.V h.numbers)) e h.face_loop in
    ap (λ W. slice_get (loop W f) k) (one_list F V h.V vertices h.vertices)
    ∙ ap (λ ns. slice_get ns k) (loop_is F f h.V h.numbers h.vertices its) ∙ h.is_number

-- A loop has no more vertices than the solid.
abbrev rest_of : ℕ → HalfSpace → List (ℕ × Homogeneous) → Option (ℕ × Homogeneous) → List ℕ
rest_of k f on None = []
rest_of k f on (Some b) = loop_from k f on b

next_short : (k : ℕ) (f : HalfSpace) (on : List (ℕ × Homogeneous)) (o : Option (ℕ × Homogeneous)) → ((b : ℕ × Homogeneous) → length (loop_from k f on b) ≤ k) →
    length (rest_of k f on o) ≤ k
next_short k f on None each = omega arith
next_short k f on (Some b) each = each b

step_is : (k : ℕ) (f : HalfSpace) (on : List (ℕ × Homogeneous)) (a : ℕ × Homogeneous) (o : Option (ℕ × Homogeneous)) →
    a.0 ∷ (elim o [ None ↦ [] | Some b ↦ loop_from k f on b ]) ≡ a.0 ∷ rest_of k f on o
step_is k f on a None = refl
step_is k f on a (Some b) = refl

from_short : (k : ℕ) (f : HalfSpace) (on : List (ℕ × Homogeneous)) (a : ℕ × Homogeneous) → length (loop_from k f on a) ≤ k
from_short zero f on a = omega arith
from_short (suc k) f on a =
    let h = next_short k f on (find (is_next f on a) on) (from_short k f on) in
    let e = ap length (step_is k f on a (find (is_next f on a) on)) in omega arith

of_short : (f : HalfSpace) (on : List (ℕ × Homogeneous)) → length (loop_of f on) ≤ length on
of_short f [] = omega arith
of_short f (a ∷ on) = from_short (length (a ∷ on)) f (a ∷ on) a

kept_short : {A : Type 0} (x : A) (ys xs : List A) (t : Bool) → length ys ≤ length xs → length (cond t (x ∷ ys) ys) ≤ length (x ∷ xs)
kept_short x ys xs true h = omega arith
kept_short x ys xs false h = omega arith

filter_short : {A : Type 0} (p : A → Bool) (xs : List A) → length (filter p xs) ≤ length xs
filter_short p [] = omega arith
filter_short p (x ∷ xs) = kept_short x (filter p xs) xs (p x) (filter_short p xs)

pub loop_short : (V : List Homogeneous) (f : HalfSpace) → length (loop V f) ≤ length V
loop_short V f =
    let a = of_short f (filter (number_is_on f) (enumerate_from 0 V)) in let b = filter_short (number_is_on f) (enumerate_from 0 V) in
    let c = length-enumerate_from 0 V in omega arith
