-- Clipped brushes that are put in place one after another.
use Rattle.std.proofs.Common.{◌≡◌, ℕ, suc, ◌+◌, ◌<◌, ◌≤◌, List, [], ◌∷◌, length, map, drop, get_or, refl, ap, sym, subst, ◌∙◌, arith, drop-cons, add-one}
use Rattle.std.specs.Prelude.{option_to_list}
use Rattle.std.proofs.lemmas.List.{drop_all}
use Rattle.map_model.specs.Tree.{Whole}
use Rattle.map_model.specs.Edits.{each_in_turn}
use Rattle.map_model.specs.Below.{Below}
use Rattle.map_model.specs.Commands.{Part, Front, Back, Both}
use Rattle.cut_plans.specs.declared.clipping.Clipped.{Clipped}
use Rattle.cut_plans.specs.declared.clipping.Cut.{Cut}
use Rattle.cut_plans.specs.Clips.{clipped_by, put_clipped, drawn_by, drawn_for}
use Rattle.cut_plans.proofs.Others.{put_clipped-next}

-- The first k are in place, and there are numbers for the others.
pub record Placing (list : List Clipped) (k : ℕ) (start now : Whole) : Type 0 where
  pub rest : each_in_turn put_clipped (drop k list) now ≡ each_in_turn put_clipped list start
  pub room : now.next + drawn_by (drop k list) ≤ 65536

module _ (list : List Clipped) (k : ℕ) (start now : Whole) (c : Clipped) (lt : k < length list) (is : c ≡ get_or list k c) (p : Placing list k start now) where
  front : drop k list ≡ c ∷ drop (suc k) list
  front = drop-cons list k c lt ∙ ap (λ x. x ∷ drop (suc k) list) (sym is)

  pub room_for : now.next + length (option_to_list c.new) ≤ 65536
  room_for = omega (arith, p.room, ap drawn_by front)

  next : (new : Whole) → new ≡ put_clipped c now → Placing list (suc k) start new
  next new e = record {
    rest = ap (each_in_turn put_clipped (drop (suc k) list)) e ∙ sym (ap (λ l. each_in_turn put_clipped l now) front) ∙ p.rest;
    room = omega (arith, p.room, ap drawn_by front, put_clipped-next c now, ap (λ (w : Whole). w.next) e);
  }

  pub placed_one : (new : Whole) → new ≡ put_clipped c now → Placing list (k + 1) start new
  placed_one new e = subst (λ j. Placing list j start new) (sym (add-one k)) (next new e)

pub placed_all : (list : List Clipped) (k : ℕ) (start now : Whole) → length list ≤ k → Placing list k start now → now ≡ each_in_turn put_clipped list start
placed_all list k start now le p = sym (ap (λ l. each_in_turn put_clipped l now) (drop_all k list le)) ∙ p.rest

-- How many numbers they draw.
pub drawn_is : (m : Whole) (cut : Cut) (part : Part) (b : Below) (ns : List ℕ) → drawn_by (map (clipped_by m cut part b) ns) ≡ drawn_for part ns
drawn_is m cut Back b [] = refl
drawn_is m cut Front b [] = refl
drawn_is m cut Both b [] = refl
drawn_is m cut Back b (n ∷ ns) = let e = drawn_is m cut Back b ns in omega arith
drawn_is m cut Front b (n ∷ ns) = let e = drawn_is m cut Front b ns in omega arith
drawn_is m cut Both b (n ∷ ns) = let e = drawn_is m cut Both b ns in omega arith
