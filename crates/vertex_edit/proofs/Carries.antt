-- Vertices that are carried onto a plane, one after another.
use Rattle.std.proofs.Common.{◌≡◌, ℕ, zero, suc, ◌+◌, ◌<◌, Bool, true, false, ◌&&◌, List, [], ◌∷◌, ◌++◌, length, get_or, take, map, filter, count_by, fold, cond, refl, ap, ◌∙◌, sym, arith, pos, int_eq, ◌≤◌, IsTrue}
use Rattle.std.specs.Int.{from_bool}
use Rattle.std.proofs.lemmas.Bool.{false≢true}
use Rattle.std.proofs.lemmas.Bool.Decides.{Decides-int_eq}
use Rattle.std.proofs.lemmas.List.{map-append, length-take-le}
use Rattle.std.proofs.lemmas.List.Sums.{count_by_more_yes, count_by_more_no, count_by-le-length}
use Rattle.std.proofs.lemmas.List.Elements.{filter-append}
use Rattle.std.proofs.Math.Seq.{take-suc}
use Rattle.std.proofs.Math.Numerals.{suc-eq-add-one}
use Rattle.algebra.specs.Space.{Homogeneous, HalfSpace, side, whole_point}
use Rattle.exact_geom.specs.declared.point.Point.{Point}
use Rattle.exact_geom.specs.Planes.{vector}
use Rattle.hull_laws.specs.Moved.{Carried, carried_onto}
use Rattle.vertex_edit.specs.Carrying.{carry, onto, count_on}

carry_append : (V W : List Homogeneous) (ps qs : List Point) → length ps ≡ length V → carry (V ++ W) (ps ++ qs) ≡ carry V ps ++ carry W qs
carry_append [] W [] qs e = refl
carry_append [] W (p ∷ ps) qs e = absurd (omega arith)
carry_append (v ∷ V) W [] qs e = absurd (omega arith)
carry_append (v ∷ V) W (p ∷ ps) qs e = ap (λ l. record { old = v; new = vector p } ∷ l) (carry_append V W ps qs (omega arith))

onto_append : (g : HalfSpace) (vs ws : List Carried) → onto g (vs ++ ws) ≡ onto g vs ++ onto g ws
onto_append g vs ws = ap (map (λ v. v.old)) (filter-append (λ v. int_eq (side g (whole_point v.new)) (pos 0)) vs ws)
    ∙ map-append (λ v. v.old) (filter (λ v. int_eq (side g (whole_point v.new)) (pos 0)) vs) (filter (λ v. int_eq (side g (whole_point v.new)) (pos 0)) ws)

take_length : {A : Type 0} (xs : List A) (k : ℕ) → k < length xs → length (take k xs) ≡ k
take_length [] k l = absurd (omega arith)
take_length (x ∷ xs) zero l = refl
take_length (x ∷ xs) (suc k) l = ap suc (take_length xs k (omega arith))

-- one more vertex
pub onto_more : (g : HalfSpace) (V : List Homogeneous) (ps : List Point) (k : ℕ) (v : Homogeneous) (p : Point) → length ps ≡ length V → k < length V → v ≡ get_or V k v → p ≡ get_or ps k p →
    onto g (carry (take k V) (take k ps)) ++ onto g (carry (v ∷ []) (p ∷ [])) ≡ onto g (carry (take (k + 1) V) (take (k + 1) ps))
onto_more g V ps k v p e l a b =
    sym (onto_append g (carry (take k V) (take k ps)) (carry (v ∷ []) (p ∷ [])))
    ∙ ap (onto g) (sym (carry_append (take k V) (v ∷ []) (take k ps) (p ∷ []) (take_length ps k (in_places l) ∙ sym (take_length V k l)))
    ∙ (λ i. carry (more V v l a i) (more ps p (in_places l) b i)))
  where
    in_places : k < length V → k < length ps
    in_places l = omega arith

    more : {A : Type 0} (xs : List A) (x : A) → k < length xs → x ≡ get_or xs k x → take k xs ++ x ∷ [] ≡ take (k + 1) xs
    more xs x l a = ap (λ y. take k xs ++ y ∷ []) a ∙ sym (take-suc xs k x l) ∙ ap (λ n. take n xs) (suc-eq-add-one k)

-- a count that begins at k
count_from : {A : Type 0} (p : A → Bool) (k : ℕ) (xs : List A) → fold (λ a x. a + cond (p x) 1 0) k xs ≡ k + fold (λ a x. a + cond (p x) 1 0) 0 xs
count_from p k [] = omega arith
count_from p k (x ∷ xs) = let a = count_from p (k + cond (p x) 1 0) xs in let b = count_from p (0 + cond (p x) 1 0) xs in omega arith

count_cons : {A : Type 0} (p : A → Bool) (x : A) (xs : List A) → count_by p (x ∷ xs) ≡ cond (p x) 1 0 + count_by p xs
count_cons p x xs = let h = count_from p (0 + cond (p x) 1 0) xs in omega arith

onto_kept : (g : HalfSpace) (v : Carried) (vs : List Carried) → int_eq (side g (whole_point v.new)) (pos 0) ≡ true → onto g (v ∷ vs) ≡ v.old ∷ onto g vs
onto_kept g v vs e = rw e refl

onto_dropped : (g : HalfSpace) (v : Carried) (vs : List Carried) → int_eq (side g (whole_point v.new)) (pos 0) ≡ false → onto g (v ∷ vs) ≡ onto g vs
onto_dropped g v vs e = rw e refl

and_true : (a b : Bool) → b ≡ true → a ≡ (a && b)
and_true true b e = sym e
and_true false b e = refl

and_false : (a b : Bool) → b ≡ false → false ≡ (a && b)
and_false true b e = sym e
and_false false b e = refl

none_more : (n : ℕ) → n ≡ 0 + n
none_more n = omega arith

-- counted among those that are carried onto g
counted : (f : HalfSpace) (v : Carried) (vs : List Carried) (g : HalfSpace) (b : Bool) → int_eq (side g (whole_point v.new)) (pos 0) ≡ b →
    count_on (onto g vs) f ≡ carried_onto vs g f → count_on (onto g (v ∷ vs)) f ≡ carried_onto (v ∷ vs) g f
counted f v vs g true y h = let a = int_eq (side f v.old) (pos 0) in let b = int_eq (side g (whole_point v.new)) (pos 0) in
    ap (λ W. count_on W f) (onto_kept g v vs y) ∙ count_cons (λ u. int_eq (side f u) (pos 0)) v.old (onto g vs) ∙ ap (λ n. cond a 1 0 + n) h
    ∙ ap (λ x. cond x 1 0 + carried_onto vs g f) (and_true a b y) ∙ sym (count_cons (λ u. int_eq (side f u.old) (pos 0) && int_eq (side g (whole_point u.new)) (pos 0)) v vs)
counted f v vs g false y h = let a = int_eq (side f v.old) (pos 0) in let b = int_eq (side g (whole_point v.new)) (pos 0) in
    ap (λ W. count_on W f) (onto_dropped g v vs y) ∙ h ∙ none_more (carried_onto vs g f)
    ∙ ap (λ x. cond x 1 0 + carried_onto vs g f) (and_false a b y) ∙ sym (count_cons (λ u. int_eq (side f u.old) (pos 0) && int_eq (side g (whole_point u.new)) (pos 0)) v vs)

pub count_is : (vs : List Carried) (g f : HalfSpace) → count_on (onto g vs) f ≡ carried_onto vs g f
count_is [] g f = refl
count_is (v ∷ vs) g f = counted f v vs g (int_eq (side g (whole_point v.new)) (pos 0)) refl (count_is vs g f)

-- one vertex, whether it is carried onto g or not
pub onto_one : (g : HalfSpace) (v : Homogeneous) (p : Point) → int_eq (side g (whole_point (vector p))) (pos 0) ≡ true → onto g (carry (v ∷ []) (p ∷ [])) ≡ v ∷ []
onto_one g v p e = rw e refl

pub onto_no : (g : HalfSpace) (v : Homogeneous) (p : Point) → int_eq (side g (whole_point (vector p))) (pos 0) ≡ false → onto g (carry (v ∷ []) (p ∷ [])) ≡ []
onto_no g v p e = rw e refl

-- one more vertex is counted
pub count_more : (f : HalfSpace) (V : List Homogeneous) (k : ℕ) (v : Homogeneous) (b : Bool) → k < length V → v ≡ get_or V k v → (IsTrue b → side f v ≡ pos 0) × (side f v ≡ pos 0 → IsTrue b) →
    count_on (take (k + 1) V) f ≡ count_on (take k V) f + from_bool b
count_more f V k v true l a t =
    count_by_more_yes (λ v. int_eq (side f v) (pos 0)) V k v l (ap (λ x. int_eq (side f x) (pos 0)) (sym a) ∙ (Decides-int_eq (side f v) (pos 0)).1 (t.0 refl))
count_more f V k v false l a t =
    count_by_more_no (λ v. int_eq (side f v) (pos 0)) V k v l (ap (λ x. int_eq (side f x) (pos 0)) (sym a) ∙ not_true (int_eq (side f v) (pos 0)) (λ h. false≢true (t.1 ((Decides-int_eq (side f v) (pos 0)).0 h)))) ∙ none (count_on (take k V) f)
  where
    not_true : (b : Bool) → ¬ (b ≡ true) → b ≡ false
    not_true true n = absurd (n refl)
    not_true false n = refl

    none : (n : ℕ) → n ≡ n + 0
    none n = omega arith

pub count_low : (f : HalfSpace) (V : List Homogeneous) (k : ℕ) → k ≤ length V → count_on (take k V) f ≤ k
count_low f V k l = let h = count_by-le-length (λ v. int_eq (side f v) (pos 0)) (take k V) in let t = length-take-le k V l in omega arith
