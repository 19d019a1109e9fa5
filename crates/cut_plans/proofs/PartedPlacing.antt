-- Pieces that are put in the places of brushes one after another.
use Rattle.std.proofs.Common.{◌≡◌, ℕ, suc, ◌+◌, ◌*◌, ◌<◌, ◌≤◌, List, [], ◌∷◌, length, map, drop, get_or, None, refl, ap, sym, subst, ◌∙◌, arith, drop-cons, add-one}
use Rattle.std.specs.Prelude.{unwrap_or}
use Rattle.std.proofs.lemmas.List.{drop_all, length-map}
use Rattle.map_model.specs.Faces.{Face}
use Rattle.map_model.specs.Tree.{Whole, faces_at, Brush, up, preorder, numbers_from}
use Rattle.map_model.specs.Edits.{each_in_turn, draw, delete, take_out}
use Rattle.map_model.specs.Below.{Below}
use Rattle.map_laws.proofs.Replacing.{next-drawn}
use Rattle.map_laws.proofs.Slots.{next-forget, next-take_out}
use Rattle.cut_plans.specs.declared.subtracting.Parted.{Parted}
use Rattle.cut_plans.specs.Subtracts.{parted_by, put_parted, drawn_by, HaveFewPieces, subtracted}
use Rattle.cut_plans.proofs.Others.{put_at-next}
use Rattle.cut_plans.proofs.Pieces.{pieces_few}

-- How many numbers are drawn. -------------------------------------------------------------------------------------------------------

pub put_parted-next : (p : Parted) (m : Whole) → (put_parted p m).next ≡ m.next + length p.pieces
put_parted-next p m =
    let nodes = map (Brush (unwrap_or (up m p.id) 0) None) p.pieces in
    put_at-next p.id (numbers_from m.next (length p.pieces)) (each_in_turn draw nodes m)
    ∙ next-drawn nodes m ∙ ap (λ k. m.next + k) (length-map p.pieces (Brush (unwrap_or (up m p.id) 0) None))

all_parted-next : (ps : List Parted) (m : Whole) → (each_in_turn put_parted ps m).next ≡ m.next + drawn_by ps
all_parted-next [] m = omega arith
all_parted-next (p ∷ ps) m = all_parted-next ps (put_parted p m) ∙ omega (arith, put_parted-next p m)

pub subtracted-next : (by : ℕ) (ps : List Parted) (m : Whole) → (subtracted by ps m).next ≡ m.next + drawn_by ps
subtracted-next by ps m =
    let all = each_in_turn put_parted ps m in
    next-forget (preorder all by) (take_out by all) ∙ next-take_out all by ∙ all_parted-next ps m

-- Each brush has at most as many pieces as the other has faces.
pub few_pieces : (m : Whole) (by : List Face) (b : Below) (ns : List ℕ) → length by ≤ 128 → HaveFewPieces (map (parted_by m by b) ns)
few_pieces m by b [] le = tt
few_pieces m by b (n ∷ ns) le = (omega (arith, le, pieces_few b (faces_at m n) by), few_pieces m by b ns le)

-- The first k are counted.
pub record Counting (list : List Parted) (k made : ℕ) : Type 0 where
  pub sum : made + drawn_by (drop k list) ≡ drawn_by list
  pub most : made ≤ 128 * k
  pub few : HaveFewPieces (drop k list)

module _ (list : List Parted) (k made : ℕ) (p : Parted) (lt : k < length list) (is : p ≡ get_or list k p) (c : Counting list k made) where
  first_left : drop k list ≡ p ∷ drop (suc k) list
  first_left = drop-cons list k p lt ∙ ap (λ x. x ∷ drop (suc k) list) (sym is)

  these : (length p.pieces ≤ 128) × HaveFewPieces (drop (suc k) list)
  these = subst HaveFewPieces first_left c.few

  pub one_few : length p.pieces ≤ 128
  one_few = these.0

  pub counted_one : Counting list (k + 1) (made + length p.pieces)
  counted_one = subst (λ j. Counting list j (made + length p.pieces)) (sym (add-one k)) (record {
    sum = omega (arith, c.sum, ap drawn_by first_left);
    most = omega (arith, c.most, these.0);
    few = these.1;
  })

pub none_counted : (list : List Parted) → HaveFewPieces list → Counting list 0 0
none_counted list few = record { sum = omega arith; most = omega arith; few = few }

pub counted_all : (list : List Parted) (k made : ℕ) → length list ≤ k → Counting list k made → made ≡ drawn_by list
counted_all list k made le c = omega (arith, c.sum, ap drawn_by (drop_all k list le))

-- The first k are in place, and there are numbers for the others.
pub record Placing (list : List Parted) (k : ℕ) (start now : Whole) : Type 0 where
  pub rest : each_in_turn put_parted (drop k list) now ≡ each_in_turn put_parted list start
  pub room : now.next + drawn_by (drop k list) ≤ 65536

module _ (list : List Parted) (k : ℕ) (start now : Whole) (c : Parted) (lt : k < length list) (is : c ≡ get_or list k c) (p : Placing list k start now) where
  front : drop k list ≡ c ∷ drop (suc k) list
  front = drop-cons list k c lt ∙ ap (λ x. x ∷ drop (suc k) list) (sym is)

  pub room_for : now.next + length c.pieces ≤ 65536
  room_for = omega (arith, p.room, ap drawn_by front)

  next : (new : Whole) → new ≡ put_parted c now → Placing list (suc k) start new
  next new e = record {
    rest = ap (each_in_turn put_parted (drop (suc k) list)) e ∙ sym (ap (λ l. each_in_turn put_parted l now) front) ∙ p.rest;
    room = omega (arith, p.room, ap drawn_by front, put_parted-next c now, ap (λ (w : Whole). w.next) e);
  }

  pub placed_one : (new : Whole) → new ≡ put_parted c now → Placing list (k + 1) start new
  placed_one new e = subst (λ j. Placing list j start new) (sym (add-one k)) (next new e)

pub placed_all : (list : List Parted) (k : ℕ) (start now : Whole) → length list ≤ k → Placing list k start now → now ≡ each_in_turn put_parted list start
placed_all list k start now le p = sym (ap (λ l. each_in_turn put_parted l now) (drop_all k list le)) ∙ p.rest
