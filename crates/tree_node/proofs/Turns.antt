-- Edits one after another.
use Rattle.std.proofs.Common.{◌≡◌, ℕ, zero, suc, ◌+◌, ◌<◌, ◌≤◌, List, [], ◌∷◌, ◌++◌, length, take, drop, map, get_or, None, refl, ap, ap₂, sym, ◌∙◌, arith, drop-cons, add-one}
use Rattle.std.proofs.lemmas.List.{take_more, take_all, drop_all}
use Rattle.map_model.specs.Tree.{Whole, Node, numbers_from}
use Rattle.map_model.specs.Edits.{set, draw, forget, take_out, put_in, move_all, each_in_turn, Changes, swap}

pub each-append : {A : Type 0} (edit : A → Whole → Whole) (xs ys : List A) (m : Whole) → each_in_turn edit (xs ++ ys) m ≡ each_in_turn edit ys (each_in_turn edit xs m)
each-append edit [] ys m = refl
each-append edit (x ∷ xs) ys m = each-append edit xs ys (edit x m)

pub numbers-more : (n k : ℕ) → numbers_from n (suc k) ≡ numbers_from n k ++ (n + k) ∷ []
numbers-more n zero = ap (λ i. i ∷ []) (omega arith)
numbers-more n (suc k) = ap (λ l. n ∷ l) (numbers-more (n + 1) k ∙ ap (λ i. numbers_from (n + 1) k ++ i ∷ []) (omega arith))

map-append : {A B : Type 0} (f : A → B) (xs ys : List A) → map f (xs ++ ys) ≡ map f xs ++ map f ys
map-append f [] ys = refl
map-append f (x ∷ xs) ys = ap (λ l. f x ∷ l) (map-append f xs ys)

-- so many numbers are forgotten, and the rest will be
pub record Forgetting (ns : List ℕ) (k : ℕ) (old new : Changes) : Type 0 where
  pub rest : (m : Whole) → forget (drop k ns) (swap m new) ≡ forget ns (swap m old)

pub forgets : (ns : List ℕ) (c : Changes) → Forgetting ns 0 c c
forgets ns c = record { rest = λ m. refl }

pub forgot_one : (ns : List ℕ) (k n : ℕ) (old c d : Changes) → k < length ns → Forgetting ns k old c → ((m : Whole) → swap m d ≡ set (swap m c) (get_or ns k n) None) → Forgetting ns (k + 1) old d
forgot_one ns k n old c d lt f put = record {
  rest = λ m. ap₂ (λ i x. forget (drop i ns) x) (add-one k) (put m) ∙ ap (λ l. forget l (swap m c)) (sym (drop-cons ns k n lt)) ∙ f.rest m;
}

pub forgot_all : (ns : List ℕ) (k : ℕ) (old c : Changes) → length ns ≤ k → Forgetting ns k old c → (m : Whole) → swap m c ≡ forget ns (swap m old)
forgot_all ns k old c e f m = ap (λ l. forget l (swap m c)) (sym (drop_all k ns e)) ∙ f.rest m

-- so many nodes are moved, and the rest will be
pub record Moving (m : Whole) (p : ℕ) (ns : List ℕ) (k : ℕ) (old new : Changes) : Type 0 where
  pub rest : move_all p (drop k ns) (swap m new) ≡ move_all p ns (swap m old)

pub moved_one : (m : Whole) (p : ℕ) (ns : List ℕ) (k n : ℕ) (old c d : Changes) → k < length ns → Moving m p ns k old c
    → swap m d ≡ put_in p (get_or ns k n) (take_out (get_or ns k n) (swap m c)) → Moving m p ns (k + 1) old d
moved_one m p ns k n old c d lt f moved = record {
  rest = ap₂ (λ i x. move_all p (drop i ns) x) (add-one k) moved ∙ ap (λ l. move_all p l (swap m c)) (sym (drop-cons ns k n lt)) ∙ f.rest;
}

pub moved_all : (m : Whole) (p : ℕ) (ns : List ℕ) (k : ℕ) (old c : Changes) → length ns ≤ k → Moving m p ns k old c → swap m c ≡ move_all p ns (swap m old)
moved_all m p ns k old c e f = ap (λ l. move_all p l (swap m c)) (sym (drop_all k ns e)) ∙ f.rest

-- an item of a list that is changed item by item
pub item_of_map : {A B : Type 0} (f : A → B) (xs : List A) (k : ℕ) (x : A) → x ≡ get_or xs k x → f x ≡ get_or (map f xs) k (f x)
item_of_map f xs k x e = ap f e ∙ sym (mapped f xs k x)
  where
    mapped : {A B : Type 0} (g : A → B) (ys : List A) (j : ℕ) (d : A) → get_or (map g ys) j (g d) ≡ g (get_or ys j d)
    mapped g [] j d = refl
    mapped g (y ∷ ys) zero d = refl
    mapped g (y ∷ ys) (suc j) d = mapped g ys j d

-- so many nodes are drawn
pub record Drawing (xs : List Node) (k : ℕ) (old new : Changes) : Type 0 where
  pub next : new.next ≡ old.next + k
  pub maps : (m : Whole) → swap m new ≡ each_in_turn draw (take k xs) (swap m old)

pub draws_none : (xs : List Node) (c : Changes) → Drawing xs 0 c c
draws_none xs c = record { next = omega arith; maps = λ m. refl }

pub drawn_one : (xs : List Node) (k : ℕ) (old c d : Changes) (x : Node) → k < length xs → Drawing xs k old c
    → d.next ≡ c.next + 1 → ((m : Whole) → swap m d ≡ draw (get_or xs k x) (swap m c)) → Drawing xs (k + 1) old d
drawn_one xs k old c d x lt so_far next drawn = record {
  next = omega (arith, next, so_far.next);
  maps = λ m. drawn m ∙ ap (draw (get_or xs k x)) (so_far.maps m)
      ∙ sym (ap (λ l. each_in_turn draw l (swap m old)) (take_more xs k x lt)
      ∙ each-append draw (take k xs) (get_or xs k x ∷ []) (swap m old));
}

pub drawn_all : (xs : List Node) (k : ℕ) (old c : Changes) → length xs ≤ k → Drawing xs k old c → (m : Whole) → swap m c ≡ each_in_turn draw xs (swap m old)
drawn_all xs k old c le so_far m = so_far.maps m ∙ ap (λ l. each_in_turn draw l (swap m old)) (take_all k xs le)

-- one number more
pub numbers_next : (ids more : List ℕ) (n k id : ℕ) → ids ≡ numbers_from n k → more ≡ ids ++ id ∷ [] → id ≡ n + k → more ≡ numbers_from n (k + 1)
numbers_next ids more n k id so_far e is = e ∙ ap₂ (λ l i. l ++ i ∷ []) so_far is ∙ sym (numbers-more n k) ∙ ap (numbers_from n) (sym (add-one k))
