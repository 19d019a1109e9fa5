-- Vertices that are rounded, one after another.
use Rattle.std.proofs.Common.{◌≡◌, ℕ, suc, ◌+◌, ◌<◌, ◌≤◌, List, [], ◌∷◌, ◌++◌, length, get_or, take, map, refl, ◌∙◌, sym, subst, arith, ◌⊎◌, inl, inr, ℤ, unsigned_abs, nat_le, ◌&&◌, IsTrue, true}
use Rattle.std.proofs.lemmas.Bool.Decides.{nat_tests}
use Rattle.std.proofs.lemmas.Int.{ints}
use Rattle.std.proofs.lemmas.List.{get_or_push, get_or_append_left, get_or_default, length-append, length-take-le, get_or-take}
use Rattle.algebra.specs.Members.{here, there, Every}
use Rattle.algebra.proofs.Members.{each_of_more, each_of_none}
use Rattle.algebra.specs.Space.{Vector, Homogeneous, HalfSpace, whole_point}
use Rattle.algebra.specs.World.{InCube, world}
use Rattle.exact_geom.specs.declared.point.Point.{Point}
use Rattle.exact_geom.specs.Machine.{IsWithin}
use Rattle.exact_geom.specs.Planes.{vector, is_in_range}
use Rattle.exact_geom.specs.Rounding.{IsRounded}
use Rattle.solid_laws.specs.Names.{AreVertices}
use Rattle.hull_laws.proofs.Faces.{each_of_map}
use Rattle.hull_merge.specs.Hulls.{Outside, distinct}
use Rattle.hull_merge.proofs.Held.{of_firsts}
use Rattle.vertex_edit.specs.declared.snap_fault.SnapFault.{SnapFault}
use Rattle.vertex_edit.specs.declared.snap_fault.SnapFault.TheVariants.{NoVolume, TooManyFaces, Memory}
use Rattle.vertex_edit.specs.SnapFaults.{IsNoEditFor, IsNoSnapFor}
use Rattle.vertex_edit.specs.Carrying.{carry}
use Rattle.vertex_edit.specs.Places.{IsInWorld, IsRoundedTo, AreRoundedTo, AreRounded}
use Rattle.vertex_edit.proofs.Edits.{old_places, moved_are}

pub rounded_none : (grid : ℤ) → AreRoundedTo grid [] []
rounded_none grid = record { count = refl; each = λ k v p l. absurd (omega arith); world = each_of_none IsInWorld }

every_push : (P : Point → Type 0) (xs : List Point) (y : Point) → Every P xs → P y → Every P (xs ++ y ∷ [])
every_push P [] y each p = each_of_more P y [] p (each_of_none P)
every_push P (x ∷ xs) y each p = each_of_more P x (xs ++ y ∷ []) (each x here) (every_push P xs y (λ z m. each z (there m)) p)

pub rounded_more : (grid : ℤ) (V : List Homogeneous) (k : ℕ) (v : Homogeneous) (places : List Point) (p : Point) → k < length V → v ≡ get_or V k v → AreRoundedTo grid (take k V) places →
    IsRoundedTo grid v p → IsInWorld p → AreRoundedTo grid (take (k + 1) V) (places ++ p ∷ [])
rounded_more grid V k v places p l e r q w =
    let count : length places ≡ k = r.count ∙ taken V k (below l) in record {
      count = let n = length-append places (p ∷ []) in let t = taken V (k + 1) (next l) in omega arith;
      each = λ j u s m. by_last j u s count (last j k (subst (λ n. j < n) (taken V (k + 1) (next l)) m));
      world = every_push IsInWorld places p r.world w;
    }
  where
    below : {k n : ℕ} → k < n → k ≤ n
    below {k} {n} l = omega arith

    next : {k n : ℕ} → k < n → k + 1 ≤ n
    next {k} {n} l = omega arith

    taken : (V : List Homogeneous) (k : ℕ) → k ≤ length V → length (take k V) ≡ k
    taken V k l = length-take-le k V l

    last : (j k : ℕ) → j < k + 1 → (j < k) ⊎ (k ≡ j)
    last j k m = grind arith

    more : {j k : ℕ} → j < k → j < k + 1
    more {j} {k} m = omega arith

    by_last : (j : ℕ) (u : Homogeneous) (s : Point) → length places ≡ k → (j < k) ⊎ (k ≡ j) → IsRoundedTo grid (get_or (take (k + 1) V) j u) (get_or (places ++ p ∷ []) j s)
    by_last j u s c (inl i) =
        let h = r.each j u s (subst (λ n. j < n) (sym (taken V k (below l))) i) in
        subst (λ x. IsRoundedTo grid x (get_or (places ++ p ∷ []) j s)) (get_or-take k V j u i ∙ sym (get_or-take (k + 1) V j u (more i)))
        (subst (λ y. IsRoundedTo grid (get_or (take k V) j u) y) (sym (get_or_append_left places (p ∷ []) s j (subst (λ n. j < n) (sym c) i))) h)
    by_last j u s c (inr i) = subst (λ j. IsRoundedTo grid (get_or (take (k + 1) V) j u) (get_or (places ++ p ∷ []) j s)) i
        (subst (λ x. IsRoundedTo grid x (get_or (places ++ p ∷ []) k s)) (e ∙ get_or_default V k v u l ∙ sym (get_or-take (k + 1) V k u (here_next k)))
        (subst (λ y. IsRoundedTo grid v y) (sym (get_or_push places p s k c)) q))
      where
        here_next : (k : ℕ) → k < k + 1
        here_next k = omega arith

-- each vertex with its place
each_rounded : (grid : ℤ) (V : List Homogeneous) (places : List Point) → length places ≡ length V → ((k : ℕ) (v : Homogeneous) (p : Point) → k < length V → IsRoundedTo grid (get_or V k v) (get_or places k p)) →
    Every (λ c. IsRounded grid c.old c.new) (carry V places)
each_rounded grid [] [] e h = λ c i. elim i [ ]
each_rounded grid [] (p ∷ places) e h = absurd (omega arith)
each_rounded grid (v ∷ V) [] e h = absurd (omega arith)
each_rounded grid (v ∷ V) (p ∷ places) e h = each_of_more (λ c. IsRounded grid c.old c.new) (record { old = v; new = vector p }) (carry V places) (h 0 v p (omega arith))
    (each_rounded grid V places (omega arith) (λ k u q l. h (suc k) u q (omega arith)))

pub are_rounded : (F : List HalfSpace) (grid : ℤ) (V : List Homogeneous) (places : List Point) → AreVertices F V → AreRoundedTo grid V places → AreRounded F grid (carry V places)
are_rounded F grid V places v r = record {
  vertices = subst (AreVertices F) (sym (old_places V places r.count)) v;
  rounded = each_rounded grid V places r.count r.each;
}

all_in : (a b c : ℕ) → a ≤ 4096 → b ≤ 4096 → c ≤ 4096 → (nat_le a 4352 && nat_le b 4352 && nat_le c 4352) ≡ true
all_in a b c h k l = grind (arith, nat_tests)

pub in_range : (p : Point) → IsInWorld p → IsTrue (is_in_range p)
in_range p w = all_in (unsigned_abs p.x) (unsigned_abs p.y) (unsigned_abs p.z) w.x w.y w.z

in_cube : (v : Vector) → IsWithin 4096 v → InCube world (whole_point v)
unfolding whole_point
in_cube v w = let a = w.x in let b = w.y in let c = w.z in
    record { left = omega (arith, ints); right = omega (arith, ints); near = omega (arith, ints); far = omega (arith, ints); bottom = omega (arith, ints); top = omega (arith, ints) }

-- points of the world don't leave it
pub none_outside : (places : List Point) → Every IsInWorld places → ¬ (Outside (distinct places))
none_outside places w o = o.outside (each_of_map (λ v. InCube world (whole_point v)) vector places (λ p i. in_cube (vector p) (w p i)) o.point (of_firsts (map vector places) o.point o.among))

-- what is no hull is no brush of rounded vertices
pub no_snap : (F : List HalfSpace) (grid : ℤ) (V : List Homogeneous) (places : List Point) → AreRounded F grid (carry V places) → length places ≡ length V →
    (fault : SnapFault) → IsNoEditFor (distinct places) fault → IsNoSnapFor F grid fault
no_snap F grid V places r n NoVolume h = record { vs = carry V places; rounded = r; cause = subst (λ ps. IsNoEditFor ps NoVolume) (sym (moved_are V places n)) h }
no_snap F grid V places r n (TooManyFaces k) h = record { vs = carry V places; rounded = r; cause = subst (λ ps. IsNoEditFor ps (TooManyFaces k)) (sym (moved_are V places n)) h }
no_snap F grid V places r n Memory h = tt
