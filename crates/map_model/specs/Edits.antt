-- The edits of which all commands are made.
pub use Rattle.map_nodes.specs.declared.entry.Entry.{Entry}
pub use Rattle.map_nodes.specs.Lists.{without, in_place}
pub use Rattle.map_nodes.specs.Nodes.{relist, renumber}
use Rattle.std.specs.Prelude.{◌≢◌, ℕ, ◌+◌, ◌<◌, length, get_or, List, [], ◌∷◌, ◌++◌, map, filter_map, cond, ◌==◌, Option, Some, None, option_map, unwrap_or}
use Rattle.map_model.specs.Faces.{Face}
use Rattle.map_model.specs.Tree.{Whole, Node, Brush, at, up, preorder, is_brush, with_parent, numbers_from}

-- The map with another node, or none, at a number.
abbrev pub set : Whole → ℕ → Option Node → Whole
set m n o = record m { nodes = λ q. cond (q == n) o (m.nodes q) }

-- A change: numbers with their new nodes, or none, and the next number.
pub record Changes : Type 0 where
  pub entries : List Entry
  pub next : ℕ

-- The map with the entries of a change, and the map after the change.
abbrev pub with_entries : List Entry → Whole → Whole
with_entries [] m = m
with_entries (e ∷ es) m = set (with_entries es m) e.id e.node

abbrev pub swap : Whole → Changes → Whole
swap m c = record (with_entries c.entries m) { next = c.next }

-- No two entries have one number.
abbrev pub Apart : List Entry → Type 0
Apart es = (i j : ℕ) (e f : Entry) → i < j → j < length es → (get_or es i e).id ≢ (get_or es j f).id

-- An edit for each number in turn.
abbrev pub each_in_turn : {A : Type 0} → (A → Whole → Whole) → List A → Whole → Whole
each_in_turn edit [] m = m
each_in_turn edit (n ∷ ns) m = each_in_turn edit ns (edit n m)

-- renew n f: the node at n is changed by f.
abbrev pub renew : ℕ → (Node → Node) → Whole → Whole
renew n f m = set m n (option_map f (at m n))

-- draw x: the next number is given to the node x, which stands nowhere yet.
abbrev pub draw : Node → Whole → Whole
draw x m = record (set m m.next (Some x)) { next = m.next + 1 }

-- A number is drawn for a set or a mark.
abbrev pub draw_number : Whole → Whole
draw_number m = record m { next = m.next + 1 }

-- take_out n: the node is in no list. It stands alone, with all beneath it.
abbrev pub take_out : ℕ → Whole → Whole
take_out n m = unwrap_or (option_map (λ p. renew p (relist (is_brush m n) (without n)) m) (up m n)) m

-- put_in p n: the node goes to the end of p.
abbrev pub put_in : ℕ → ℕ → Whole → Whole
put_in p n m = renew n (with_parent p) (renew p (relist (is_brush m n) (λ l. l ++ n ∷ [])) m)

-- put_at old ks: in the list where old stands the nodes ks stand in its place.
abbrev pub put_at : ℕ → List ℕ → Whole → Whole
put_at old ks m = unwrap_or (option_map (λ p. renew p (relist (is_brush m old) (in_place old ks)) m) (up m old)) m

-- forget ns: none of these nodes is there any more.
abbrev pub forget : List ℕ → Whole → Whole
forget [] m = m
forget (n ∷ ns) m = forget ns (set m n None)

-- delete n: the node with all beneath it.
abbrev pub delete : ℕ → Whole → Whole
delete n m = forget (preorder m n) (take_out n m)

-- move_all p ns: the nodes go to the end of p, in order.
abbrev pub move_all : ℕ → List ℕ → Whole → Whole
move_all p [] m = m
move_all p (n ∷ ns) m = move_all p ns (put_in p n (take_out n m))

-- put_last p x: a new node at the end of p.
abbrev pub put_last : ℕ → Node → Whole → Whole
put_last p x m = put_in p m.next (draw (with_parent p x) m)

-- replace_by a results: new brushes of these faces stand in a's place, and a is gone.
abbrev pub replace_by : ℕ → List (List Face) → Whole → Whole
replace_by a results m =
    let p = unwrap_or (up m a) 0 in
    let drawn = each_in_turn draw (map (Brush p None) results) m in
    forget (a ∷ []) (put_at a (numbers_from m.next (length results)) drawn)

-- put_after a faces: a new brush of these faces directly after a.
abbrev pub put_after : ℕ → List Face → Whole → Whole
put_after a faces m = put_at a (a ∷ m.next ∷ []) (draw (Brush (unwrap_or (up m a) 0) None faces) m)

-- Numbers in place of others. -------------------------------------------------------------------------------------------------------

-- The number that a number has in a list of pairs. One that isn't there stays.
abbrev pub renumbered : List (ℕ × ℕ) → ℕ → ℕ
renumbered [] n = n
renumbered (p ∷ pairs) n = cond (p.0 == n) p.1 (renumbered pairs n)

-- The numbers ns, each with its own from k on.
abbrev pub numbered_from : ℕ → List ℕ → List (ℕ × ℕ)
numbered_from k [] = []
numbered_from k (n ∷ ns) = (n, k) ∷ numbered_from (k + 1) ns

-- copy_last p f n: a copy of n with all beneath it, each node changed by f, at the end of p. Its numbers are drawn in preorder.
abbrev pub copy_last : ℕ → (Node → Node) → ℕ → Whole → Whole
copy_last p f n m =
    let ns = preorder m n in
    let copied = map (λ x. renumber (renumbered (numbered_from m.next ns)) (f x)) (filter_map (at m) ns) in
    put_in p m.next (each_in_turn draw copied m)
