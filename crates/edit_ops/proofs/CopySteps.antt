-- Loops of copies: edits in turn, one more, and nodes that are all there.
use Rattle.std.proofs.Common.{◌≡◌, ℕ, ◌+◌, ◌<◌, ◌≤◌, List, [], ◌∷◌, ◌++◌, length, map, flat_map, take, get_or, Bool, Option, Some, None, refl, ap, sym, ◌∙◌, subst, arith}
use Rattle.std.specs.Prelude.{filter_map, unwrap_or}
use Rattle.std.specs.List.{cons_option}
use Rattle.std.proofs.lemmas.List.{take_all, take_more, map-append, length-append}
use Rattle.algebra.specs.Members.{◌∈◌, here, there}
use Rattle.map_model.specs.Motions.{Motion}
use Rattle.map_model.specs.Tree.{Whole, Node, at, up, preorder}
use Rattle.map_model.specs.Edits.{each_in_turn, draw, put_in, renumber, renumbered, numbered_from}
use Rattle.map_model.specs.Own.{copied_node}
use Rattle.tree_node.specs.Drawn.{draw_copies}
use Rattle.edit_ops.specs.Copying.{copied_by, IsNext}

in_turn_append : {A : Type 0} (edit : A → Whole → Whole) (xs : List A) (x : A) (m : Whole) → each_in_turn edit (xs ++ x ∷ []) m ≡ edit x (each_in_turn edit xs m)
in_turn_append edit [] x m = refl
in_turn_append edit (y ∷ xs) x m = in_turn_append edit xs x (edit y m)

-- One edit more.
pub one_more : (edit : ℕ → Whole → Whole) (xs : List ℕ) (i x : ℕ) (m : Whole) → i < length xs → x ≡ get_or xs i x → edit x (each_in_turn edit (take i xs) m) ≡ each_in_turn edit (take (i + 1) xs) m
one_more edit xs i x m lt is =
    sym (in_turn_append edit (take i xs) x m) ∙ ap (λ y. each_in_turn edit (take i xs ++ y ∷ []) m) is ∙ ap (λ l. each_in_turn edit l m) (sym (take_more xs i x lt))

pub all_of : (edit : ℕ → Whole → Whole) (xs : List ℕ) (i : ℕ) (m : Whole) → length xs ≤ i → each_in_turn edit (take i xs) m ≡ each_in_turn edit xs m
all_of edit xs i m le = ap (λ l. each_in_turn edit l m) (take_all i xs le)

-- There are numbers for the next copies.
pub next_room : (m : Whole) (all : List ℕ) (n : ℕ) (k : Whole) → m.next + length (flat_map (preorder m) all) ≤ 65536 → IsNext m all n k → k.next + length (preorder k n) ≤ 65536
next_room m all n k room next = let few = next.room in omega arith

-- The copies of the first i nodes.
pub record Copied (g : Node → Node) (f : ℕ → Option Node) (ns : List ℕ) (xs : List Node) (i : ℕ) : Type 0 where
  pub count : length xs ≡ i
  pub is : xs ≡ map g (filter_map f (take i ns))

one_in_front : (o : Option Node) (l r : List Node) (x : Node) → l ≡ r ++ x ∷ [] → cons_option o l ≡ cons_option o r ++ x ∷ []
one_in_front None l r x e = e
one_in_front (Some y) l r x e = ap (λ k. y ∷ k) e

filter_append : (f : ℕ → Option Node) (ns : List ℕ) (n : ℕ) (x : Node) → f n ≡ Some x → filter_map f (ns ++ n ∷ []) ≡ filter_map f ns ++ x ∷ []
filter_append f [] n x e = ap (λ o. cons_option o []) e
filter_append f (m ∷ ns) n x e = one_in_front (f m) (filter_map f (ns ++ n ∷ [])) (filter_map f ns) x (filter_append f ns n x e)

pub copied_more : (g : Node → Node) (f : ℕ → Option Node) (ns : List ℕ) (xs new : List Node) (i n : ℕ) (x y : Node) → i < length ns → n ≡ get_or ns i n → Some x ≡ f n → y ≡ g x → Copied g f ns xs i → new ≡ xs ++ y ∷ [] →
    Copied g f ns new (i + 1)
copied_more g f ns xs new i n x y lt is found made c e = record {
  count = ap length e ∙ length-append xs (y ∷ []) ∙ ap (λ k. k + 1) c.count;
  is = e ∙ (λ j. c.is j ++ made j ∷ []) ∙ sym (map-append g (filter_map f (take i ns)) (x ∷ []))
      ∙ ap (map g) (sym (filter_append f (take i ns) n x (sym found)) ∙ ap (λ k. filter_map f (take i ns ++ k ∷ [])) is ∙ ap (filter_map f) (sym (take_more ns i n lt)));
}

pub copied_all : (g : Node → Node) (f : ℕ → Option Node) (ns : List ℕ) (xs : List Node) (i : ℕ) → length ns ≤ i → Copied g f ns xs i → xs ≡ map g (filter_map f ns)
copied_all g f ns xs i le c = c.is ∙ ap (λ l. map g (filter_map f l)) (take_all i ns le)

-- The edit of one node. ---------------------------------------------------------------------------------------------------------------------

map_twice : (g h : Node → Node) (xs : List Node) → map g (map h xs) ≡ map (λ x. g (h x)) xs
map_twice g h [] = refl
map_twice g h (x ∷ xs) = ap (λ l. g (h x) ∷ l) (map_twice g h xs)

filter_same : (f g : ℕ → Option Node) (ns : List ℕ) → ((q : ℕ) → q ∈ ns → f q ≡ g q) → filter_map f ns ≡ filter_map g ns
filter_same f g [] h = refl
filter_same f g (n ∷ ns) h = λ i. cons_option (h n here i) (filter_same f g ns (λ q j. h q (there j)) i)

-- What lies beneath the node is in k as it is in m: its copies, drawn and put in place, are what the definitions say.
pub copy_is : (lock : Bool) (r : Motion) (m k : Whole) (n place : ℕ) (ids read : List ℕ) (xs : List Node) → place ≡ unwrap_or (up k n) 0 → ids ≡ preorder k n → read ≡ preorder k n →
    xs ≡ map (copied_node lock r) (filter_map (at m) read) → ((q : ℕ) → q ∈ preorder k n → at k q ≡ at m q) → put_in place k.next (draw_copies ids xs k) ≡ copied_by lock r n k
copy_is lock r m k n place ids read xs stands is same_read made same =
    let ns = preorder k n in
    let g = renumber (renumbered (numbered_from k.next ns)) in
    let nodes : xs ≡ map (copied_node lock r) (filter_map (at k) ns) =
    made ∙ ap (λ l. map (copied_node lock r) (filter_map (at m) l)) same_read ∙ ap (map (copied_node lock r)) (sym (filter_same (at k) (at m) ns same)) in
    (λ i. put_in (stands i) k.next (draw_copies (is i) (nodes i) k))
    ∙ ap (λ l. put_in (unwrap_or (up k n) 0) k.next (each_in_turn draw l k)) (map_twice g (copied_node lock r) (filter_map (at k) ns))
